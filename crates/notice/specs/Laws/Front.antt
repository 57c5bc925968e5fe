-- Reading the front line by line, and then what is below it, is reading the notice.
use Rattle.std.specs.Prelude.{ℕ, suc, ◌≡◌}
use Rattle.std.proofs.Math.Path.{refl}
use mathlib.Core.List.{List, [], ◌∷◌}
use Rattle.text.specs.Read.{Got, misfit, got, and_then, whole}
use Rattle.text.specs.Lines.{Cut, text, onward}
use Rattle.text.specs.Out.{Out, next, fit, read_line, taken}
use Rattle.frontlines.specs.Addresses.{read_addresses}
use Rattle.frontlines.specs.Filing.{read_filing}
use Rattle.frontlines.specs.Heading.{read_heading, read_serial_line, read_aerodrome}
use Rattle.record.specs.declared.Record.{Record}
use Rattle.front.specs.declared.Front.{Front}
use Rattle.front.specs.Code.Front.{blank_front, with_addresses, with_filing, with_heading, with_serial, with_aerodrome, front_count, fill_line, line_refusal}
use Rattle.front.specs.Code.Front.{Opening, unopened, kept, next_line, fill_lines}
use Rattle.notice.specs.Reading.{read_notice}
use Rattle.notice.specs.Code.Below.{read_below}

-- what is below n lines from the line k on
abbrev below_from : ℕ → ℕ → Opening → List Cut → Out Record
below_from n k o cs = next (fill_lines n k o cs) (λ p. read_below p.0 p.1)

-- one line more: read by itself, and into the front
module _ {A : Type 0} (n k : ℕ) (o : Opening) (read : List ℕ → Got A) (to : A → Front)
    (fills : (l : List ℕ) → fill_line k o.front l ≡ and_then (whole (read l)) (λ a r. got (to a) r)) where
  one_line : (below : A → Cut → List Cut → Out Record) → ((a : A) (c : Cut) (cs : List Cut) → below a c cs ≡ below_from n (suc k) (kept k c o (to a)) cs)
      → (cs : List Cut) → read_line (line_refusal k) read cs below ≡ below_from (suc n) k o cs
  unfolding fill_lines next_line
  one_line below same [] = refl
  one_line below same (c ∷ cs) = rw (fills (text c)) (go (whole (read (text c))))
    where
      go : (g : Got A) → fit (line_refusal k) (onward c) g (λ a _. below a c cs)
          ≡ next {A = Opening × List Cut} (next {A = Opening × List Cut}
          (fit {B = Opening × List Cut} (line_refusal k) (onward c) (and_then g (λ a r. got (to a) r)) (λ f _. taken (kept k c o f, cs)))
          (λ p. fill_lines n (suc k) p.0 p.1))
          (λ p. read_below p.0 p.1)
      go misfit = refl
      go (got a r) = same a c cs

pub front-is : (cs : List Cut) → read_notice cs ≡ next (fill_lines front_count 0 unopened cs) (λ p. read_below p.0 p.1)
unfolding read_notice read_below fill_lines line_refusal fill_line
front-is =
    one_line 4 0 unopened read_addresses (with_addresses blank_front) (λ l. refl) _ (λ a c₁.
    let o₁ = kept 0 c₁ unopened (with_addresses blank_front a) in one_line 3 1 o₁ read_filing (with_filing o₁.front) (λ l. refl) _ (λ b c₂.
    let o₂ = kept 1 c₂ o₁ (with_filing o₁.front b) in one_line 2 2 o₂ read_heading (with_heading o₂.front) (λ l. refl) _ (λ h c₃.
    let o₃ = kept 2 c₃ o₂ (with_heading o₂.front h) in one_line 1 3 o₃ read_serial_line (with_serial o₃.front) (λ l. refl) _ (λ s c₄.
    let o₄ = kept 3 c₄ o₃ (with_serial o₃.front s) in one_line 0 4 o₄ read_aerodrome (with_aerodrome o₄.front) (λ l. refl) _ (λ d c₅ cs. refl)))))
