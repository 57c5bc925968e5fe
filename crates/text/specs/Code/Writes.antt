-- What a writing answers: C is told the refusal's number, 0 for written, and how many bytes were filled, 0 where it is refused.
use Rattle.std.specs.Prelude.{ℕ, Result, Ok, Err, ◌≡◌}
use Rattle.text.specs.declared.Written.{Written}
use Rattle.text.specs.declared.refusal.Refusal.{Refusal}
use Rattle.text.specs.Refusals.{number}

abbrev pub as_written : Result ℕ Refusal → Written
as_written (Ok n) = record { refusal = 0; length = n }
as_written (Err e) = record { refusal = number e; length = 0 }

-- the answer w tells of the writing r
abbrev pub Writes : Result ℕ Refusal → Written → Type 0
Writes r w = w ≡ as_written r
