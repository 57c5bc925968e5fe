-- A row that is filled group by group is the row that is found.
use Rattle.std.specs.Prelude.{ℕ, ◌≡◌, refl, List, [], ◌∷◌, cond, Bool, true, false}
use Rattle.std.proofs.Common.{sym, ◌∙◌}
use Rattle.text.specs.Choice.{all, is_empty}
use Rattle.text.specs.Read.{Got, misfit, got, skip, read_text}
use Rattle.text.specs.Out.{Out, refuse, taken, next, fit, demand}
use Rattle.text.specs.Refusals.{no_row, wrong_runway, wrong_codes, wrong_coverage_or_depth, wrong_descriptions, wrong_width}
use Rattle.surface.specs.Third.{valid_coverage, valid_depth}
use Rattle.thirds.specs.Groups.{Three}
use Rattle.thirds.specs.declared.Group.TheVariants.{Codes}
use Rattle.row.specs.Row.{blank_row, is_short}
use Rattle.row.specs.declared.Row.{Row}
use Rattle.rowtext.specs.Reading.{Rest, all_nr, make_thirds, make_row}
use Rattle.rowtext.specs.Reading.{time_group, runway_group, code_group, coverage_group, depth_group, description_group, width_group}
use Rattle.rowtext.specs.Reading.{parted, read_width, short, behind_codes, find_row}
use Rattle.rowtext.specs.Code.Filling.{with_time, with_runway, with_group, with_rest, with_width, full_rest, short_rest, parts, fill_group, fill_from}
use Rattle.rowtext.specs.declared.Part.{Part}
use Rattle.rowtext.specs.Laws.Valid.{bare-covers, bare-lies}
use Rattle.rowtext.specs.Laws.Same.{short_has}

-- the row of what several parts fill
row_from : List Part → Row → List ℕ → Out Row
row_from gs r m = next (fill_from gs r m) (λ p. taken p.0)

from_more : (g : Part) (gs : List Part) (r : Row) (m : List ℕ) → row_from (g ∷ gs) r m ≡ next (fill_group g r m) (λ p. row_from gs p.0 p.1)
unfolding row_from fill_from
from_more g gs r m = go (fill_group g r m)
  where
    go : (o : Out (Row × List ℕ)) → next (next o (λ p. fill_from gs p.0 p.1)) (λ p. taken p.0)
        ≡ next o (λ p. next (fill_from gs p.0 p.1) (λ p. taken p.0))
    go (refuse k left) = refl
    go (taken p) = refl

-- one group more, and one test more
fit-more : {A B : Type 0} (k : ℕ) (left : List ℕ) (f : Got A) (h : A → List ℕ → Out Row) (i : A → List ℕ → Out B) (j : B → Out Row)
    → ((a : A) (r : List ℕ) → h a r ≡ next (i a r) j) → fit k left f h ≡ next (fit k left f i) j
fit-more k left misfit h i j e = refl
fit-more k left (got a r) h i j e = e a r

demand-more : {B : Type 0} (b : Bool) (k : ℕ) (left : List ℕ) (h : Out Row) (i : Out B) (j : B → Out Row) → h ≡ next i j
    → demand b k left h ≡ next (demand b k left i) j
demand-more true k left h i j e = e
demand-more false k left h i j e = refl

-- behind the codes
abbrev coded : ℕ → ℕ × ℕ → Three → Row
coded t p c = with_group Codes (with_runway (with_time blank_row t) p) c

-- the width, with which a row ends
abbrev last : List Part
last = Part.Width ∷ []

width-fill : (t : ℕ) (p : ℕ × ℕ) (c : Three) (rest : Rest) (m : List ℕ)
    → fit wrong_width (skip m) (width_group m) (λ w k. demand (is_empty k) wrong_width (skip k) (taken (make_row (t, (p, (c, (rest, w)))))))
    ≡ row_from last (with_rest (coded t p c) rest) m
unfolding fill_group row_from fill_from width_group read_width read_text parted
width-fill t p c rest [] = refl
width-fill t p c rest (x ∷ m) =
    fit-more wrong_width (skip (x ∷ m)) (width_group (x ∷ m)) _ _ _ (λ w k. demand-more (is_empty k) wrong_width (skip k) _ _ _ refl)
    ∙ sym (from_more Part.Width [] (with_rest (coded t p c) rest) (x ∷ m))

full-fill : (t : ℕ) (p : ℕ × ℕ) (c : Three) (m : List ℕ) → behind_codes false c (λ rest w. make_row (t, (p, (c, (rest, w))))) m
    ≡ next (full_rest (coded t p c) m) (λ q. row_from last q.0 q.1)
unfolding full_rest
full-fill t p c m =
    fit-more wrong_coverage_or_depth (skip m) (coverage_group m) _ _ _ (λ v m₄.
    fit-more wrong_coverage_or_depth (skip m₄) (depth_group m₄) _ _ _ (λ d m₅.
    fit-more wrong_descriptions (skip m₅) (description_group m₅) _ _ _ (λ s m₆.
    demand-more (all valid_coverage (make_thirds c (v, (d, s)))) wrong_coverage_or_depth (skip m) _ _ _ (
    demand-more (all valid_depth (make_thirds c (v, (d, s)))) wrong_coverage_or_depth (skip m₄) _ _ _ (width-fill t p c (v, (d, s)) m₆)))))

short-fill : (t : ℕ) (p : ℕ × ℕ) (c : Three) (m : List ℕ) → short m ≡ true → behind_codes true c (λ rest w. make_row (t, (p, (c, (rest, w))))) m
    ≡ next (short_rest (coded t p c) m) (λ q. row_from last q.0 q.1)
unfolding short_rest description_group width_group parted row_from fill_from fill_group
short-fill t p c m h =
    let b = short_has m h in
    let s = b.description in
    rw (b.first, b.second, bare-covers c s, bare-lies c s) (go s b.width (is_short (make_thirds c (all_nr, (all_nr, s)))))
  where
    go : (s : Three) (w : ℕ) (b : Bool) → demand b wrong_coverage_or_depth (skip m) (taken (make_row (t, (p, (c, ((all_nr, (all_nr, s)), w))))))
        ≡ next {A = Row × List ℕ} (demand b wrong_coverage_or_depth (skip m) (taken (with_width (with_rest (coded t p c) (all_nr, (all_nr, s))) w, [])))
        (λ q. row_from last q.0 q.1)
    go s w true = refl
    go s w false = refl

behind-fill : (t : ℕ) (p : ℕ × ℕ) (c : Three) (m : List ℕ) (b : Bool) → short m ≡ b → behind_codes b c (λ rest w. make_row (t, (p, (c, (rest, w))))) m
    ≡ next (cond b (short_rest (coded t p c) m) (full_rest (coded t p c) m)) (λ q. row_from last q.0 q.1)
behind-fill t p c m true h = short-fill t p c m h
behind-fill t p c m false h = full-fill t p c m

-- the whole of it
pub filling-is : (line : List ℕ) → find_row line ≡ next (fill_from parts blank_row line) (λ p. taken p.0)
unfolding find_row fill_group row_from
filling-is line =
    fit-more no_row line (time_group line) _ _ _ (λ t m₁.
    fit-more wrong_runway (skip m₁) (runway_group m₁) _ _ _ (λ p m₂.
    fit-more wrong_codes (skip m₂) (code_group m₂) _ _ _ (λ c m₃. behind-fill t p c m₃ (short m₃) refl ∙ sym (from_more Part.Rest last (coded t p c) m₃))
    ∙ sym (from_more Part.Codes (Part.Rest ∷ last) (with_runway (with_time blank_row t) p) m₂))
    ∙ sym (from_more Part.Runway (Part.Codes ∷ Part.Rest ∷ last) (with_time blank_row t) m₁))
    ∙ sym (from_more Part.Time (Part.Runway ∷ Part.Codes ∷ Part.Rest ∷ last) blank_row line)
