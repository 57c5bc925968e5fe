-- A valid row by its groups: what is judged group by group, and what the whole row's rules say.
use Rattle.std.specs.Prelude.{ℕ, ◌<◌, ◌≤◌, ◌≡◌, refl, cond, Bool, true, false, eqb, leb}
use Rattle.std.proofs.Common.{leb-true, le-leb, arith}
use Rattle.text.specs.Choice.{◌and◌, all}
use Rattle.text.specs.Laws.Base.{and-1, and-2, and_i}
use Rattle.runway.specs.Time.{real_time}
use Rattle.surface.specs.Descriptions.{not_reported, dry, is_deep}
use Rattle.surface.specs.Third.{third, is_code, is_coverage, least_depth, is_reported, valid_coverage, valid_depth, valid_third}
use Rattle.surface.specs.Laws.Table3.{least-3}
use Rattle.surface.specs.declared.Third.{Third}
use Rattle.thirds.specs.Groups.{Three, highest}
use Rattle.thirds.specs.Laws.Groups.{Shown}
use Rattle.thirds.specs.declared.Group.TheVariants.{Descriptions}
use Rattle.row.specs.Row.{three_that, valid_row}
use Rattle.rowtext.specs.Reading.{Rest, all_nr, make_thirds, make_row, each, is_runway, may_cover, may_lie}
use Rattle.row.specs.declared.Row.{Row}

-- a valid third by its parts
record Sound (a b c d : ℕ) : Type 0 where
  code : is_code a ≡ true
  coverage : may_cover b ≡ true
  depth : may_lie c ≡ true
  covers : valid_coverage (third a b c d) ≡ true
  lies : valid_depth (third a b c d) ≡ true

pub cover-may : (t : Third) → valid_coverage t ≡ true → may_cover t.coverage ≡ true
unfolding valid_coverage may_cover
cover-may t h = go (eqb t.coverage not_reported) _ h
  where
    go : (b e : Bool) → cond b true (is_coverage t.coverage and e) ≡ true → cond b true (is_coverage t.coverage) ≡ true
    go true e k = refl
    go false e k = and-1 (is_coverage t.coverage) e k

pub depth-may : (t : Third) → valid_depth t ≡ true → may_lie t.depth ≡ true
unfolding valid_depth may_lie is_reported
depth-may t h = go (eqb t.depth not_reported) _ h
  where
    go : (b f : Bool) → cond b true ((is_deep t.description and leb (least_depth t.description) t.depth) and f) ≡ true → cond b true (leb 3 t.depth) ≡ true
    go true f k = refl
    go false f k =
        let r = and-1 (is_deep t.description and leb (least_depth t.description) t.depth) f k in
        let l = leb-true (least_depth t.description) t.depth (and-2 (is_deep t.description) _ r) in
        le-leb 3 t.depth (omega (arith, least-3 t.description (and-1 (is_deep t.description) _ r)))

third-sound : (a b c d : ℕ) → valid_third (third a b c d) ≡ true → Sound a b c d
unfolding valid_third
third-sound a b c d h =
    let k = and-2 _ _ (and-2 _ _ h) in
    record {
      code = and-1 _ _ h;
      coverage = cover-may (third a b c d) (and-1 _ _ k);
      depth = depth-may (third a b c d) (and-2 _ _ k);
      covers = and-1 _ _ k;
      lies = and-2 _ _ k;
    }

-- the thirds of a row, by their groups
pub record Thirds (code coverage depth description : Three) : Type 0 where
  pub codes : each is_code code ≡ true
  pub coverages : each may_cover coverage ≡ true
  pub depths : each may_lie depth ≡ true
  pub covers : all valid_coverage (make_thirds code (coverage, (depth, description))) ≡ true
  pub lies : all valid_depth (make_thirds code (coverage, (depth, description))) ≡ true

three-sound : (c v d s : Three) → three_that valid_third (make_thirds c (v, (d, s))) ≡ true → Thirds c v d s
unfolding three_that
three-sound c v d s h =
    let k = and-2 _ _ h in
    let k₁ = and-2 _ _ k in
    let k₂ = and-2 _ _ k₁ in
    let x = third-sound c.0 v.0 d.0 s.0 (and-1 _ _ k) in
    let y = third-sound c.1 v.1 d.1 s.1 (and-1 _ _ k₁) in
    let z = third-sound c.2 v.2 d.2 s.2 (and-1 _ _ k₂) in
    record {
      codes = and_i x.code (and_i y.code z.code);
      coverages = and_i x.coverage (and_i y.coverage z.coverage);
      depths = and_i x.depth (and_i y.depth z.depth);
      covers = and_i x.covers (and_i y.covers (and_i z.covers refl));
      lies = and_i x.lies (and_i y.lies (and_i z.lies refl));
    }

three-valid : (c v d s : Three) → each is_code c ≡ true → Shown Descriptions s
    → all valid_coverage (make_thirds c (v, (d, s))) ≡ true → all valid_depth (make_thirds c (v, (d, s))) ≡ true
    → three_that valid_third (make_thirds c (v, (d, s))) ≡ true
unfolding three_that valid_third highest
three-valid c v d s h k a b =
    let h₁ = and-2 _ _ h in
    let a₁ = and-2 _ _ a in
    let b₁ = and-2 _ _ b in
    and_i refl (and_i (one c.0 v.0 d.0 s.0 (and-1 _ _ h) k.0 (and-1 _ _ a) (and-1 _ _ b))
    (and_i (one c.1 v.1 d.1 s.1 (and-1 _ _ h₁) k.1 (and-1 _ _ a₁) (and-1 _ _ b₁))
    (and_i (one c.2 v.2 d.2 s.2 (and-2 _ _ h₁) k.2 (and-1 _ _ (and-2 _ _ a₁)) (and-1 _ _ (and-2 _ _ b₁))) refl)))
  where
    one : (a b c d : ℕ) → is_code a ≡ true → d ≤ dry → valid_coverage (third a b c d) ≡ true → valid_depth (third a b c d) ≡ true
        → valid_third (third a b c d) ≡ true
    one a b c d p q e f = and_i p (and_i (le-leb d dry q) (and_i e f))

-- a valid row, by its groups
pub record Parts (t : ℕ) (p : ℕ × ℕ) (c v d s : Three) : Type 0 where
  pub time : real_time t ≡ true
  pub runway : is_runway p ≡ true
  pub thirds : Thirds c v d s

-- the row of these groups
unfoldable pub made : (time : ℕ) (runway : ℕ × ℕ) (code : Three) → Rest → ℕ → Row
made t p c rest w = make_row (t, (p, (c, (rest, w))))

pub row-parts : (t : ℕ) (p : ℕ × ℕ) (c v d s : Three) (w : ℕ) → valid_row (made t p c (v, (d, s)) w) ≡ true → Parts t p c v d s
unfolding valid_row made
row-parts t p c v d s w h =
    let k = and-2 _ _ h in
    record { time = and-1 _ _ h; runway = and-1 _ _ k; thirds = three-sound c v d s (and-2 _ _ (and-2 _ _ k)) }

pub row-valid : (t : ℕ) (p : ℕ × ℕ) (c v d s : Three) (w : ℕ) → real_time t ≡ true → is_runway p ≡ true → each is_code c ≡ true → Shown Descriptions s
    → all valid_coverage (make_thirds c (v, (d, s))) ≡ true → all valid_depth (make_thirds c (v, (d, s))) ≡ true → w < 100
    → valid_row (made t p c (v, (d, s)) w) ≡ true
unfolding valid_row made
row-valid t p c v d s w h i j k a b l = and_i h (and_i i (and_i (le-leb w 99 (omega arith)) (three-valid c v d s j k a b)))

-- nothing is forbidden where neither coverage nor depth is reported
pub bare-covers : (c s : Three) → all valid_coverage (make_thirds c (all_nr, (all_nr, s))) ≡ true
unfolding valid_coverage ◌and◌
bare-covers c s = refl

pub bare-lies : (c s : Three) → all valid_depth (make_thirds c (all_nr, (all_nr, s))) ≡ true
unfolding valid_depth ◌and◌
bare-lies c s = refl
