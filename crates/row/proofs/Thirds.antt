-- A test that holds of each of a row's three thirds.
use Rattle.std.specs.Prelude.{◌≡◌, List, Bool, ◌↔◌, IsTrue, EachIndex, length, slice_index_or}
use Rattle.text.specs.Choice.{◌and◌}
use Rattle.text.specs.Laws.Iter.{all_each}
use Rattle.surface.specs.declared.Third.{Third}
use Rattle.surface.specs.Third.{blank_third}
use Rattle.row.specs.Row.{three_that}

pub three_each : (test : Third → Bool) (ts : List Third) {b : Bool} → length ts ≡ 3 → (IsTrue b ↔ EachIndex ts (λ k. IsTrue (test (slice_index_or ts k blank_third)))) → b ≡ three_that test ts
unfolding three_that ◌and◌
three_each test ts n h = rw n (all_each test ts blank_third h)
