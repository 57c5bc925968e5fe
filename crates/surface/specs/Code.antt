-- The two types that the code has of its own, in the words of the definitions.
use Rattle.std.specs.Prelude.{◌≡◌, true, false, Result, Ok, Err}
use Rattle.text.specs.declared.refusal.Refusal.{Refusal}
use Rattle.text.specs.declared.refusal.Refusal.TheVariants.{OutOfRange}
use Rattle.text.specs.Refusals.{number}
use Rattle.surface.specs.declared.Third.{Third}
use Rattle.surface.specs.declared.Observation.{Observation}
use Rattle.surface.specs.declared.Assessment.{Assessment}
use Rattle.surface.specs.declared.Surface.{Surface}
use Rattle.surface.specs.Assess.{in_range, assessed_as, refused_assessing}

-- an observation in range, with its numbers as wide as they were
abbrev pub observed : Surface → Observation
observed s = record { kind = s.kind; cover = s.cover; depth = s.depth; temperature = s.temperature; slippery = s.slippery }

-- "15 an observation out of range"; any other is taken as it was observed
abbrev pub IsTaken : Observation → Result Surface Refusal → Type 0
IsTaken o (Ok s) = (in_range o ≡ true) × (observed s ≡ o)
IsTaken o (Err r) = (in_range o ≡ false) × (r ≡ OutOfRange)

-- the third that is to be reported, or why there is none
abbrev pub assessment : Result Third Refusal → Assessment
assessment (Ok t) = assessed_as t
assessment (Err r) = refused_assessing (number r)
