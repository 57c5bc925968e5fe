-- A row is refused exactly by its fault.
use Rattle.std.specs.Prelude.{ℕ, ◌≡◌, refl, List, [], ◌∷◌, cond, Bool, true, false, eqb}
use Rattle.std.proofs.Common.{sym, ◌∙◌, subst₂, arith}
use Rattle.text.specs.Choice.{all, is_empty}
use Rattle.text.specs.Read.{Got, misfit, got, skip}
use Rattle.text.specs.Out.{Out, refuse, taken, fit, demand}
use Rattle.text.specs.Refusals.{no_row, wrong_runway, wrong_codes, wrong_coverage_or_depth, wrong_descriptions, wrong_width}
use Rattle.text.specs.Laws.Base.{no-misfit, space_next}
use Rattle.text.specs.Laws.Out.{no-refuse}
use Rattle.surface.specs.Third.{valid_coverage, valid_depth}
use Rattle.thirds.specs.Groups.{Three}
use Rattle.row.specs.Row.{is_short}
use Rattle.rowtext.specs.Reading.{Rest, all_nr, make_thirds, make_row}
use Rattle.rowtext.specs.Reading.{time_group, runway_group, code_group, coverage_group, depth_group, description_group, width_group}
use Rattle.rowtext.specs.Reading.{short, group, behind_codes, find_row}
use Rattle.rowtext.specs.Fault.{Coded, coded, Described, full, brief, Allowed, allowed}
use Rattle.rowtext.specs.Fault.{Fault, bad_time, bad_runway, bad_codes, bad_coverage, bad_depth, not_allowed}
use Rattle.rowtext.specs.Fault.{no_coverage, no_depth, bad_descriptions, bad_width, follows}
use Rattle.rowtext.specs.Laws.Same.{Brief, short_has}
use Rattle.row.specs.declared.Row.{Row}

-- what is refused has its fault
data Told (line : List ℕ) {A : Type 0} : Out A → Type 0 where
  by : {n : ℕ} {left : List ℕ} → Fault line n left → Told line (refuse n left)
  fine : {a : A} → Told line (taken a)

fit-told : (line : List ℕ) {A B : Type 0} (n : ℕ) (left : List ℕ) (g : Got A) (k : A → List ℕ → Out B) → (g ≡ misfit → Fault line n left)
    → ((a : A) (r : List ℕ) → g ≡ got a r → Told line (k a r)) → Told line (fit n left g k)
fit-told line n left misfit k h w = by (h refl)
fit-told line n left (got a r) k h w = w a r refl

demand-told : (line : List ℕ) {B : Type 0} (b : Bool) (n : ℕ) (left : List ℕ) (o : Out B) → (b ≡ false → Fault line n left)
    → (b ≡ true → Told line o) → Told line (demand b n left o)
demand-told line true n left o h w = w refl
demand-told line false n left o h w = by (h refl)

-- the width, and what follows
end-told : (line : List ℕ) (row : ℕ → Row) (m₆ : List ℕ) → Allowed line m₆
    → Told line (group wrong_width width_group m₆ (λ w m₇. demand (is_empty m₇) wrong_width (skip m₇) (taken (row w))))
end-told line row m₆ a = fit-told line wrong_width (skip m₆) (width_group m₆) _ (λ e. bad_width a e) (λ w m₇ e. last w m₇ e)
  where
    last : (w : ℕ) (m₇ : List ℕ) → width_group m₆ ≡ got w m₇ → Told line (demand (is_empty m₇) wrong_width (skip m₇) (taken (row w)))
    last w [] e = fine
    last w (x ∷ m₇) e = by (follows a e)

judged-told : (line : List ℕ) (row : Rest → ℕ → Row) (c v d s : Three) (m₃ m₄ m₆ : List ℕ) → Described line c v d s m₃ m₄ m₆
    → Told line (demand (all valid_coverage (make_thirds c (v, (d, s)))) wrong_coverage_or_depth (skip m₃)
    (demand (all valid_depth (make_thirds c (v, (d, s)))) wrong_coverage_or_depth (skip m₄)
    (group wrong_width width_group m₆ (λ w m₇. demand (is_empty m₇) wrong_width (skip m₇) (taken (row (v, (d, s)) w))))))
judged-told line row c v d s m₃ m₄ m₆ x =
    demand-told line (all valid_coverage (make_thirds c (v, (d, s)))) wrong_coverage_or_depth (skip m₃) _ (λ e. no_coverage x e) (λ a.
    demand-told line (all valid_depth (make_thirds c (v, (d, s)))) wrong_coverage_or_depth (skip m₄) _ (λ e. no_depth x a e) (λ b.
    end-told line (row (v, (d, s))) m₆ (allowed x a b)))

-- a short row has its descriptions
short-described : {C : Type 0} {m : List ℕ} → Brief m → description_group m ≡ misfit → C
unfolding description_group
short-described b e = no-misfit (sym e ∙ b.first)

behind-told : (line : List ℕ) (c : Three) (row : Rest → ℕ → Row) (m₃ : List ℕ) → Coded line c m₃ → (b : Bool) → short m₃ ≡ b
    → Told line (behind_codes b c row m₃)
behind-told line c row m₃ k true q =
    fit-told line wrong_descriptions (skip m₃) (description_group m₃) _ (λ e. short-described (short_has m₃ q) e) (λ s m₆ e.
    demand-told line (is_short (make_thirds c (all_nr, (all_nr, s)))) wrong_coverage_or_depth (skip m₃) _ (λ f. not_allowed k q e f) (λ f.
    judged-told line row c all_nr all_nr s m₃ m₃ m₆ (brief k q e f)))
behind-told line c row m₃ k false q =
    fit-told line wrong_coverage_or_depth (skip m₃) (coverage_group m₃) _ (λ e. bad_coverage k q e) (λ v m₄ e₄.
    fit-told line wrong_coverage_or_depth (skip m₄) (depth_group m₄) _ (λ e. bad_depth k q e₄ e) (λ d m₅ e₅.
    fit-told line wrong_descriptions (skip m₅) (description_group m₅) _ (λ e. bad_descriptions k q e₄ e₅ e) (λ s m₆ e₆.
    judged-told line row c v d s m₃ m₄ m₆ (full k q e₄ e₅ e₆))))

row_told : (line : List ℕ) → Told line (find_row line)
unfolding find_row
row_told line =
    fit-told line no_row line (time_group line) _ (λ e. bad_time e) (λ t m₁ e₁.
    fit-told line wrong_runway (skip m₁) (runway_group m₁) _ (λ e. bad_runway e₁ e) (λ p m₂ e₂.
    fit-told line wrong_codes (skip m₂) (code_group m₂) _ (λ e. bad_codes e₁ e₂ e) (λ c m₃ e₃.
    behind-told line c (λ rest w. make_row (t, (p, (c, (rest, w))))) m₃ (coded e₁ e₂ e₃) (short m₃) refl)))

-- a row that is refused has that fault
pub row-fault : (line : List ℕ) {n : ℕ} {left : List ℕ} → find_row line ≡ refuse n left → Fault line n left
row-fault line {n} {left} e = go (find_row line) (row_told line) e
  where
    same : {k : ℕ} {l : List ℕ} → ◌≡◌ {A = Out Row} (refuse k l) (refuse n left) → Fault line k l → Fault line n left
    same {k} {l} q f =
        let a : k ≡ n = cc in
        let b : l ≡ left = cc in
        subst₂ (Fault line) a b f

    go : (o : Out Row) → Told line o → o ≡ refuse n left → Fault line n left
    go (refuse k l) (by f) q = same q f
    go (taken r) fine q = no-refuse (sym q)

-- and a row with a fault is refused by it
pub fault-row : (line : List ℕ) {n : ℕ} {left : List ℕ} → Fault line n left → find_row line ≡ refuse n left
unfolding find_row
fault-row line (bad_time e) = rw e
fault-row line (bad_runway e₁ e₂) = rw (e₁, e₂)
fault-row line (bad_codes e₁ e₂ e₃) = rw (e₁, e₂, e₃)
fault-row line (bad_coverage (coded e₁ e₂ e₃) q e₄) = rw (e₁, e₂, e₃, q, e₄)
fault-row line (bad_depth (coded e₁ e₂ e₃) q e₄ e₅) = rw (e₁, e₂, e₃, q, e₄, e₅)
fault-row line (not_allowed (coded e₁ e₂ e₃) q e₆ f) = rw (e₁, e₂, e₃, q, e₆, f)
fault-row line (bad_descriptions (coded e₁ e₂ e₃) q e₄ e₅ e₆) = rw (e₁, e₂, e₃, q, e₄, e₅, e₆)
fault-row line (no_coverage (full (coded e₁ e₂ e₃) q e₄ e₅ e₆) f) = rw (e₁, e₂, e₃, q, e₄, e₅, e₆, f)
fault-row line (no_coverage (brief (coded e₁ e₂ e₃) q e₆ s) f) = rw (e₁, e₂, e₃, q, e₆, s, f)
fault-row line (no_depth (full (coded e₁ e₂ e₃) q e₄ e₅ e₆) a f) = rw (e₁, e₂, e₃, q, e₄, e₅, e₆, a, f)
fault-row line (no_depth (brief (coded e₁ e₂ e₃) q e₆ s) a f) = rw (e₁, e₂, e₃, q, e₆, s, a, f)
fault-row line (bad_width (allowed (full (coded e₁ e₂ e₃) q e₄ e₅ e₆) a b) e) = rw (e₁, e₂, e₃, q, e₄, e₅, e₆, a, b, e)
fault-row line (bad_width (allowed (brief (coded e₁ e₂ e₃) q e₆ s) a b) e) = rw (e₁, e₂, e₃, q, e₆, s, a, b, e)
fault-row line (follows (allowed (full (coded e₁ e₂ e₃) q e₄ e₅ e₆) a b) e) = rw (e₁, e₂, e₃, q, e₄, e₅, e₆, a, b, e)
fault-row line (follows (allowed (brief (coded e₁ e₂ e₃) q e₆ s) a b) e) = rw (e₁, e₂, e₃, q, e₆, s, a, b, e)

-- 5 is a fault of the whole row
pub time-fault : (line : List ℕ) {n : ℕ} {left : List ℕ} → Fault line n left → n ≡ 5 → left ≡ line
time-fault line (bad_time e) z = refl
time-fault line (bad_runway e₁ e₂) z = absurd (omega arith)
time-fault line (bad_codes e₁ e₂ e₃) z = absurd (omega arith)
time-fault line (bad_coverage c q e₄) z = absurd (omega arith)
time-fault line (bad_depth c q e₄ e₅) z = absurd (omega arith)
time-fault line (not_allowed c q e₆ f) z = absurd (omega arith)
time-fault line (bad_descriptions c q e₄ e₅ e₆) z = absurd (omega arith)
time-fault line (no_coverage d f) z = absurd (omega arith)
time-fault line (no_depth d a f) z = absurd (omega arith)
time-fault line (bad_width a e) z = absurd (omega arith)
time-fault line (follows a e) z = absurd (omega arith)

-- what is behind spaces starts with none
skip-next : (m : List ℕ) → space_next (skip m) ≡ false
unfolding skip
skip-next [] = refl
skip-next (x ∷ m) = go (eqb x 32) refl (skip-next m)
  where
    go : (b : Bool) → eqb x 32 ≡ b → space_next (skip m) ≡ false → space_next (cond b (skip m) (x ∷ m)) ≡ false
    go true e h = h
    go false e h = e

-- every other is one of a group: no space stands at its place
pub group-fault : (line : List ℕ) {n : ℕ} {left : List ℕ} → Fault line n left → (n ≡ 5 → ⊥) → space_next left ≡ false
group-fault line (bad_time e) other = absurd (other refl)
group-fault line (bad_runway e₁ e₂) other = skip-next _
group-fault line (bad_codes e₁ e₂ e₃) other = skip-next _
group-fault line (bad_coverage c q e₄) other = skip-next _
group-fault line (bad_depth c q e₄ e₅) other = skip-next _
group-fault line (not_allowed c q e₆ f) other = skip-next _
group-fault line (bad_descriptions c q e₄ e₅ e₆) other = skip-next _
group-fault line (no_coverage d f) other = skip-next _
group-fault line (no_depth d a f) other = skip-next _
group-fault line (bad_width a e) other = skip-next _
group-fault line (follows a e) other = skip-next _
