-- When two messages tell the same.
use Rattle.std.specs.Prelude.{ℕ, ◌≡◌, List, Bool, true, ◌↔◌}
use Rattle.text.specs.Choice.{◌and◌}
use Rattle.sameness.specs.Same.{same_addresses, same_filing, same_title, same_rows, same_items, same_language}
use Rattle.record.specs.declared.Record.{Record}
use Rattle.record.specs.Answer.{accepted}
use Rattle.notice.specs.Reading.{reading}

-- "Two messages tell the same when both are accepted and their records are equal"
pub record TellSame (a b : List ℕ) : Type 0 where
  pub tells : Record
  pub one : reading a ≡ accepted tells
  pub other : reading b ≡ accepted tells

-- "In every other case the sameness check says no."
abbrev pub SaysSame : List ℕ → List ℕ → Bool → Type 0
SaysSame a b r = (r ≡ true) ↔ TellSame a b

-- records compared part by part
unfoldable pub same_record : Record → Record → Bool
same_record a b =
    same_title a.title b.title
    and same_filing a.filing b.filing
    and same_addresses a.addresses b.addresses
    and same_rows a.rows b.rows
    and same_items a.items b.items
    and same_language a.language b.language
