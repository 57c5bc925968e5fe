-- Table 3: the deep kinds are those that have a line in it.
use Rattle.std.specs.Prelude.{ℕ, ◌≤◌, ◌≡◌, refl, Option, Some, None, is_some, MatchOption, unwrap_or, Bool, true, false, eqb, leb}
use Rattle.std.specs.Option.{option_map}
use Rattle.text.specs.Choice.{◌and◌}
use Rattle.text.specs.Laws.Tests.{and-on, and-off}
use Rattle.std.proofs.Common.{ap, sym, ◌∙◌, subst, eqb-true, arith}
use Rattle.text.specs.Laws.Base.{true-false}
use Rattle.surface.specs.declared.Contaminant.{Contaminant}
use Rattle.surface.specs.Descriptions.{dry_snow, slush, standing_water, wet_snow, line_of, is_deep}
use Rattle.surface.specs.Third.{least_depth}

-- none of the four
pub record Other (d : ℕ) : Type 0 where
  pub no-water : eqb standing_water d ≡ false
  pub no-slush : eqb slush d ≡ false
  pub no-wet : eqb wet_snow d ≡ false
  pub no-dry : eqb dry_snow d ≡ false

-- what holds of the four and of every other holds of all
pub by-line : (P : ℕ → Type 0) → P standing_water → P slush → P wet_snow → P dry_snow → ((d : ℕ) → Other d → P d) → (d : ℕ) → P d
by-line P w s t y other d = go (eqb standing_water d) refl (eqb slush d) refl (eqb wet_snow d) refl (eqb dry_snow d) refl
  where
    at : (k : ℕ) → eqb k d ≡ true → P k → P d
    at k e p = subst P (eqb-true k d e) p

    go : (a : Bool) → eqb standing_water d ≡ a → (b : Bool) → eqb slush d ≡ b → (c : Bool) → eqb wet_snow d ≡ c → (e : Bool) → eqb dry_snow d ≡ e → P d
    go true p b q c r e u = at standing_water p w
    go false p true q c r e u = at slush q s
    go false p false q true r e u = at wet_snow r t
    go false p false q false r true u = at dry_snow u y
    go false p false q false r false u = other d (record { no-water = p; no-slush = q; no-wet = r; no-dry = u })

-- a kind is deep if it has a line
pub deep_is : (d : ℕ) → is_some (line_of d) ≡ is_deep d
unfolding is_deep
deep_is = by-line (λ d. is_some (line_of d) ≡ is_deep d) refl refl refl refl (λ d o. rw (o.no-water, o.no-slush, o.no-wet, o.no-dry))

pub has-line : (d : ℕ) (l : Contaminant) → line_of d ≡ Some l → is_deep d ≡ true
has-line d l e = sym (deep_is d) ∙ ap is_some e

pub has-no-line : (d : ℕ) → line_of d ≡ None → is_deep d ≡ false
has-no-line d e = sym (deep_is d) ∙ ap is_some e

-- what is answered of a line, if there is one, by a figure of it
pub by-figure : {Q : Contaminant → Type 0} (figure : Contaminant → ℕ) (d n : ℕ) (r : Option Contaminant) (x : Bool) → r ≡ line_of d
    → MatchOption r (x ≡ false) Q → ((l : Contaminant) → Q l → x ≡ leb (figure l) n) → x ≡ (is_deep d and leb (unwrap_or (option_map figure (line_of d)) 0) n)
by-figure figure d n None x e m q = m ∙ and-off _ _ (has-no-line d (sym e))
by-figure figure d n (Some l) x e m q = and-on _ _ _ (has-line d l (sym e)) (q l m ∙ ap (λ (o : Option Contaminant). leb (unwrap_or (option_map figure o) 0) n) e)

-- "each from 03", or from more
pub least-3 : (d : ℕ) → is_deep d ≡ true → 3 ≤ least_depth d
unfolding is_deep least_depth
least-3 =
    by-line (λ d. is_deep d ≡ true → 3 ≤ least_depth d) (λ _. omega arith) (λ _. omega arith) (λ _. omega arith) (λ _. omega arith)
    (λ d o h. true-false (sym h ∙ rw (o.no-water, o.no-slush, o.no-wet, o.no-dry)))
