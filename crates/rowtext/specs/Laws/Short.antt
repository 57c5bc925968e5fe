-- A row whose coverages and depths fit is not short: so the code may try the full form first. Where its numbers are allowed, each group stands by itself.
use Rattle.std.specs.Prelude.{ℕ, ◌≡◌, refl, List, [], ◌∷◌, cond, Bool, true, false}
use Rattle.std.proofs.Common.{sym, ◌∙◌, ap}
use Rattle.text.specs.Choice.{all, is_empty}
use Rattle.text.specs.Code.Held.{is_got}
use Rattle.text.specs.Read.{Got, misfit, got, guard, and_then, skip, whole}
use Rattle.text.specs.Out.{taken, demand}
use Rattle.text.specs.Refusals.{wrong_coverage_or_depth}
use Rattle.text.specs.Laws.Base.{true-false, no-misfit, then-got, guard-got, and-1, and-2, and_i}
use Rattle.text.specs.Laws.Out.{fit-took}
use Rattle.surface.specs.Third.{valid_coverage, valid_depth}
use Rattle.surface.specs.declared.Third.{Third}
use Rattle.thirds.specs.Groups.{Three, read_group}
use Rattle.thirds.specs.Laws.Alike.{coverages-descriptions}
use Rattle.thirds.specs.declared.Group.{Group}
use Rattle.thirds.specs.declared.Group.TheVariants.{Coverages, Depths, Descriptions}
use Rattle.row.specs.Row.{third_of, is_short}
use Rattle.row.specs.declared.Row.{Row}
use Rattle.rowtext.specs.Reading.{all_nr, parted, each, may_cover, may_lie, read_width}
use Rattle.rowtext.specs.Reading.{coverage_group, depth_group, description_group, short}
use Rattle.rowtext.specs.Code.Filling.{with_rest, with_width, full_rest, short_rest}
use Rattle.rowtext.specs.Laws.Valid.{cover-may, depth-may}
use Rattle.rowtext.specs.Laws.Same.{group-glued, short_has, short-is, no-depth}

-- what a group by itself has read, it has read
pub alone-got : {A : Type 0} (g : Got A) (test : A → Bool) {a : A} {r : List ℕ}
    → and_then (and_then g (λ x k. guard (test x) (got x k))) (λ x k. guard (parted k) (got x k)) ≡ got a r → g ≡ got a r
alone-got misfit test e = no-misfit e
alone-got (got x k) test e =
    let p = then-got (guard (test x) (got x k)) e in
    (guard-got (test x) p.one).1 ∙ (guard-got (parted p.mid) p.two).1

-- so where the coverages and the depths stand, the row is not short
pub full-long : (m : List ℕ) {v d : Three} {k l : List ℕ} → coverage_group m ≡ got v k → depth_group k ≡ got d l → short m ≡ false
unfolding coverage_group depth_group
full-long m {v} {d} {k} {l} e f = go (short m) refl
  where
    go : (b : Bool) → short m ≡ b → b ≡ false
    go false q = refl
    go true q =
        let b = short_has m q in
        let same = coverages-descriptions.same (alone-got (read_group Coverages m) (each may_cover) e) b.first in
        no-misfit (sym (no-depth m b) ∙ ap (read_group Depths) (sym same) ∙ alone-got (read_group Depths k) (each may_lie) f)

-- a row that is taken in full is not short
pub full-took : (r : Row) (m : List ℕ) {p : Row × List ℕ} → full_rest r m ≡ taken p → short m ≡ false
unfolding full_rest
full-took r m {p} e =
    let v = fit-took wrong_coverage_or_depth _ (coverage_group m) e in
    let d = fit-took wrong_coverage_or_depth _ (depth_group v.rest) v.two in
    full-long m v.one d.one

-- a valid coverage or depth may stand by itself
all-may : (valid : Third → Bool) (may : ℕ → Bool) (of : Third → ℕ) → ((t : Third) → valid t ≡ true → may (of t) ≡ true)
    → (x y z : Third) → all valid (x ∷ y ∷ z ∷ []) ≡ true → each may (of x, of y, of z) ≡ true
all-may valid may of is x y z h =
    let k = and-2 (valid x) _ h in
    let l = and-2 (valid y) _ k in
    and_i (is x (and-1 (valid x) _ h)) (and_i (is y (and-1 (valid y) _ k)) (is z (and-1 (valid z) _ l)))

-- a group is parted from what stands before it
group-parted : (g : Group) (m : List ℕ) {t : Three} {r : List ℕ} → read_group g m ≡ got t r → parted m ≡ true
group-parted g m {t} {r} e = go (parted m) refl
  where
    go : (b : Bool) → parted m ≡ b → b ≡ true
    go true q = refl
    go false q = no-misfit (sym (group-glued g m q) ∙ e)

-- so three groups one behind the other whose numbers are allowed are coverages, depths and descriptions
pub full_is : (r filled : Row) (m : List ℕ) {v d s : Three} {k l n : List ℕ}
    → read_group Coverages m ≡ got v k → read_group Depths k ≡ got d l → read_group Descriptions l ≡ got s n → filled ≡ with_rest r (v, (d, s))
    → all valid_coverage filled.thirds ≡ true → all valid_depth filled.thirds ≡ true
    → full_rest r m ≡ taken (filled, n)
unfolding full_rest coverage_group depth_group description_group
full_is r filled m {v} {d} {s} {k} {l} {n} e f g h a b =
    let t = with_rest r (v, (d, s)) in
    let a₁ = rw h at a in
    let b₁ = rw h at b in
    let x = all-may valid_coverage may_cover (λ t. t.coverage) cover-may (third_of t 0) (third_of t 1) (third_of t 2) a₁ in
    let y = all-may valid_depth may_lie (λ t. t.depth) depth-may (third_of t 0) (third_of t 1) (third_of t 2) b₁ in
    rw (e, x, group-parted Depths k f, f, y, group-parted Descriptions l g, g, a₁, b₁, h)

-- a row whose descriptions do not fit, or have more than a width behind them, is not short
pub short_none : (m : List ℕ) → read_group Descriptions m ≡ misfit → short m ≡ false
unfolding short
short_none m e = rw e

pub short-more : (m : List ℕ) {s : Three} {w : ℕ} {k l : List ℕ} → read_group Descriptions m ≡ got s k → read_width k ≡ got w l → is_empty l ≡ false
    → short m ≡ false
unfolding short
short-more m {s} {w} {k} {l} e f h = rw (e, f) (go l h)
  where
    go : (l : List ℕ) → is_empty l ≡ false → is_got {A = Three × ℕ} (whole (got (s, w) l)) ≡ false
    go [] h = true-false h
    go (x ∷ l) h = refl

-- so a short row is taken where that is allowed
pub short-filled : (r filled : Row) (m : List ℕ) {s : Three} {w : ℕ} {k : List ℕ} → read_group Descriptions m ≡ got s k → read_width k ≡ got w []
    → filled ≡ with_rest r (all_nr, (all_nr, s))
    → cond (short m) (short_rest r m) (full_rest r m) ≡ demand (is_short filled.thirds) wrong_coverage_or_depth (skip m) (taken (with_width filled w, []))
unfolding short_rest description_group
short-filled r filled m e f h = rw (short-is m e f, e, f, h)
