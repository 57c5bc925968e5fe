-- The stored time: of the later order only that it is a strict total order of the real times is used.
use Rattle.std.specs.Prelude.{ℕ, zero, suc, ◌+◌, ◌<◌, ◌≤◌, ◌≡◌, List, [], ◌∷◌, Bool, eqb, length, drop, get_or, set}
use Rattle.std.proofs.Math.Path.{refl, sym}
use Rattle.std.proofs.Common.{subst, ◌∙◌, ap, drop_of_length-le, get_or-drop, eqb-true, arith}
use Rattle.std.proofs.Math.Bool.{cond, true, false}
use Rattle.text.specs.Choice.{◌and◌}
use Rattle.text.specs.Laws.Base.{true-false}
use Rattle.text.specs.Laws.Arrays.{next_place}
use Rattle.runway.specs.Time.{real_time, real_day, later}
use Rattle.runway.specs.Laws.Time.{later-self, later_trans, later-total, later-back, later-over}
use Rattle.row.specs.declared.Row.{Row}
use Rattle.row.specs.Row.{valid_row, blank_row, is_blank_row}
use Rattle.row.specs.Laws.Row.{blank-row}
use Rattle.body.specs.Rows.{latest_of, latest_from, latest}
use Rattle.board.specs.Board.{reported, latest_shown, no_rows}
use Rattle.board.specs.Report.{is_news, newest}
use Rattle.board.specs.Shows.{IsLatest, none-shown, shown-at}
use Rattle.board.specs.Laws.Rows.{blank-blank, valid-not-blank, row-real}

abbrev pub Real : ℕ → Type 0
Real t = real_time t ≡ true

-- of real times the later: in any order and grouping
of-real : (a b : ℕ) → Real a → Real b → Real (latest_of a b)
unfolding latest_of
of-real a b ra rb = go (later b a)
  where
    go : (t : Bool) → Real (cond t b a)
    go true = rb
    go false = ra

of-comm : (a b : ℕ) → Real a → Real b → latest_of a b ≡ latest_of b a
unfolding latest_of
of-comm a b ra rb = go (later b a) refl (later a b) refl
  where
    go : (x : Bool) → later b a ≡ x → (y : Bool) → later a b ≡ y → cond x b a ≡ cond y a b
    go true e true f = true-false (sym f ∙ later-back b a rb ra e)
    go true e false f = refl
    go false e true f = refl
    go false e false f = later-total a b ra rb f e

of-assoc : (a b c : ℕ) → Real a → Real b → Real c → latest_of (latest_of a b) c ≡ latest_of a (latest_of b c)
unfolding latest_of
of-assoc a b c ra rb rc = go (later b a) refl (later c b) refl
  where
    behind : later b a ≡ false → later c b ≡ false → (t : Bool) → later c a ≡ t → cond t c a ≡ a
    behind e f true g = true-false (sym (later-over c a b rc ra rb g e) ∙ f)
    behind e f false g = refl

    go : (x : Bool) → later b a ≡ x → (y : Bool) → later c b ≡ y → cond (later c (cond x b a)) c (cond x b a) ≡ cond (later (cond y c b) a) (cond y c b) a
    go true e true f = rw (f, later_trans c b a rc rb ra f e)
    go true e false f = rw (f, e)
    go false e true f = refl
    go false e false f = rw e (behind e f (later c a) refl)

-- the same with the mark for none
abbrev pub join : ℕ → ℕ → ℕ
join t s = cond (eqb s 0) t (newest t s)

pub data Timed : ℕ → Type 0 where
  none : Timed 0
  real : {t : ℕ} → Real t → Timed t

not-zero : (t : ℕ) → Real t → eqb t 0 ≡ false
unfolding real_time real_day ◌and◌
not-zero t h = go (eqb t 0) refl
  where
    nought : real_time 0 ≡ false
    nought = refl

    go : (x : Bool) → eqb t 0 ≡ x → x ≡ false
    go true e = sym h ∙ (ap real_time (eqb-true t 0 e) ∙ nought)
    go false e = refl

join-none : (t : ℕ) → join 0 t ≡ t
unfolding newest
join-none t = go (eqb t 0) refl
  where
    go : (x : Bool) → eqb t 0 ≡ x → cond x 0 t ≡ t
    go true e = sym (eqb-true t 0 e)
    go false e = refl

join-real : (a b : ℕ) → Real a → Real b → join a b ≡ latest_of a b
unfolding newest
join-real a b ra rb = rw (not-zero b rb, not-zero a ra)

join-timed : {a b : ℕ} → Timed a → Timed b → Timed (join a b)
join-timed {a} {b} none q = subst Timed (sym (join-none b)) q
join-timed (real ra) none = real ra
join-timed {a} {b} (real ra) (real rb) = subst Timed (sym (join-real a b ra rb)) (real (of-real a b ra rb))

join-comm : {a b : ℕ} → Timed a → Timed b → join a b ≡ join b a
join-comm {a} {b} none q = join-none b
join-comm {a} {b} (real ra) none = sym (join-none a)
join-comm {a} {b} (real ra) (real rb) = join-real a b ra rb ∙ (of-comm a b ra rb ∙ sym (join-real b a rb ra))

join-assoc : {a b c : ℕ} → Timed a → Timed b → Timed c → join (join a b) c ≡ join a (join b c)
join-assoc {a} {b} {c} none q r = ap (λ x. join x c) (join-none b) ∙ sym (join-none (join b c))
join-assoc {a} {b} {c} (real ra) none r = ap (join a) (sym (join-none c))
join-assoc {a} {b} {c} (real ra) (real rb) none = refl
join-assoc {a} {b} {c} (real ra) (real rb) (real rc) =
    let x = latest_of a b in
    let y = latest_of b c in
    ap (λ t. join t c) (join-real a b ra rb) ∙ (join-real x c (of-real a b ra rb) rc ∙ (of-assoc a b c ra rb rc
    ∙ (sym (join-real a y ra (of-real b c rb rc)) ∙ sym (ap (join a) (join-real b c rb rc)))))

-- the latest of the times of all places
pub latest_all : List Row → ℕ
latest_all [] = 0
latest_all (r ∷ rs) = join r.time (latest_all rs)

-- each place holds zeros or a valid row
pub data Good (r : Row) : Type 0 where
  blank : is_blank_row r ≡ true → Good r
  valid : valid_row r ≡ true → Good r

abbrev pub Goods : List Row → Type 0
Goods rs = (i : ℕ) → Good (get_or rs i blank_row)

good-timed : {r : Row} → Good r → Timed r.time
good-timed {r} (blank e) = rw (blank-row r e) none
good-timed {r} (valid v) = real (row-real r v)

all-timed : (rs : List Row) → Goods rs → Timed (latest_all rs)
unfolding latest_all
all-timed [] g = none
all-timed (r ∷ rs) g = join-timed (good-timed (g 0)) (all-timed rs (λ i. g (suc i)))

-- what the heading's time is worked out from
latest-from : (t : ℕ) (rs : List Row) → Real t → Goods rs → latest_from t (reported rs) ≡ join t (latest_all rs)
unfolding latest_from reported latest_all
latest-from t [] h g = refl
latest-from t (r ∷ rs) h g = go (g 0) (λ s k. latest-from s rs k (λ i. g (suc i)))
  where
    go : Good r → ((s : ℕ) → Real s → latest_from s (reported rs) ≡ join s (latest_all rs))
        → latest_from t (cond (is_blank_row r) (reported rs) (r ∷ reported rs)) ≡ join t (join r.time (latest_all rs))
    go (blank e) ih = rw (e, blank-row r e, join-none (latest_all rs)) (ih t h)
    go (valid v) ih =
        let k = row-real r v in
        rw (valid-not-blank r v) (ih (latest_of t r.time) (of-real t r.time h k) ∙ (ap (λ x. join x (latest_all rs)) (sym (join-real t r.time h k))
        ∙ join-assoc (real h) (real k) (all-timed rs (λ i. g (suc i)))))

latest-all : (rs : List Row) → Goods rs → latest_shown rs ≡ latest_all rs
unfolding latest_shown latest reported latest_all
latest-all [] g = refl
latest-all (r ∷ rs) g = go (g 0) (latest-all rs (λ i. g (suc i)))
  where
    go : Good r → latest (reported rs) ≡ latest_all rs → latest (cond (is_blank_row r) (reported rs) (r ∷ reported rs)) ≡ join r.time (latest_all rs)
    go (blank e) ih = rw (e, blank-row r e, join-none (latest_all rs)) ih
    go (valid v) ih = rw (valid-not-blank r v) (latest-from r.time rs (row-real r v) (λ i. g (suc i)))

-- of no row it is the mark for none
pub none-latest : latest_shown no_rows ≡ 0
unfolding latest_shown latest reported
none-latest = rw blank-blank

-- the places looked at one by one: t is the latest of those before i
pub record Upto (rs : List Row) (i t : ℕ) : Type 0 where
  pub timed : Timed t
  pub rest : latest_shown rs ≡ join t (latest_all (drop i rs))

pub upto-none : (rs : List Row) → Goods rs → Upto rs 0 0
upto-none rs g = record { timed = none; rest = latest-all rs g ∙ sym (join-none (latest_all rs)) }

pub upto_all : (rs : List Row) (i t : ℕ) → length rs ≤ i → Upto rs i t → t ≡ latest_shown rs
unfolding latest_all
upto_all rs i t h u = sym (u.rest ∙ rw (drop_of_length-le rs h))

pub upto_next : (rs : List Row) (i t : ℕ) → Goods rs → i < length rs → Upto rs i t
    → Upto rs (i + 1) (cond (is_blank_row (get_or rs i blank_row)) t (newest t (get_or rs i blank_row).time))
unfolding latest_all
upto_next rs i t g l u =
    let behind = all-timed (drop (i + 1) rs) (λ j. subst Good (sym (get_or-drop (i + 1) rs j blank_row)) (g (i + 1 + j))) in
    subst (Upto rs (i + 1)) (next (get_or rs i blank_row) (g i))
    (record {
      timed = join-timed u.timed (good-timed (g i));
      rest = u.rest ∙ (ap (λ k. join t (latest_all k)) (next_place blank_row rs i l)
          ∙ sym (join-assoc u.timed (good-timed (g i)) behind));
    })
  where
    next : (p : Row) → Good p → join t p.time ≡ cond (is_blank_row p) t (newest t p.time)
    next p (blank e) = rw (e, blank-row p e)
    next p (valid v) = rw (valid-not-blank p v, not-zero p.time (row-real p v))

-- a row that is news covers the one that it replaces
covers : (r p : Row) → valid_row r ≡ true → Good p → is_news r p ≡ true → join r.time p.time ≡ r.time
unfolding is_news latest_of
covers r p v (blank e) n = rw (blank-row p e)
covers r p v (valid w) n =
    let l : later r.time p.time ≡ true = rw (valid-not-blank p w) at n in
    join-real r.time p.time (row-real r v) (row-real p w) ∙ rw (later-back r.time p.time (row-real r v) (row-real p w) l)

all_set : (rs : List Row) (k : ℕ) (r : Row) → Goods rs → k < length rs → valid_row r ≡ true → is_news r (get_or rs k blank_row) ≡ true
    → latest_all (set rs k r) ≡ join (latest_all rs) r.time
unfolding latest_all
all_set [] k r g l v n = absurd (omega arith)
all_set (p ∷ rs) zero r g l v n =
    let t = real (row-real r v) in
    let q = good-timed (g 0) in
    let s = all-timed rs (λ i. g (suc i)) in
    ap (λ x. join x (latest_all rs)) (sym (covers r p v (g 0) n)) ∙ (join-assoc t q s ∙ join-comm t (join-timed q s))
all_set (p ∷ rs) (suc k) r g l v n =
    ap (join p.time) (all_set rs k r (λ i. g (suc i)) (omega arith) v n)
    ∙ sym (join-assoc (good-timed (g 0)) (all-timed rs (λ i. g (suc i))) (real (row-real r v)))

set-good : (rs : List Row) (k : ℕ) (r : Row) → Goods rs → valid_row r ≡ true → Goods (set rs k r)
set-good [] k r g v i = g i
set-good (p ∷ rs) zero r g v zero = valid v
set-good (p ∷ rs) zero r g v (suc i) = g (suc i)
set-good (p ∷ rs) (suc k) r g v zero = g 0
set-good (p ∷ rs) (suc k) r g v (suc i) = set-good rs k r (λ j. g (suc j)) v i

-- "Store it in the board": a taken row replaces an earlier one of its runway, so that the stored time and the row's own are enough
pub latest-set : (rs : List Row) (k : ℕ) (r : Row) → Goods rs → k < length rs → valid_row r ≡ true → is_news r (get_or rs k blank_row) ≡ true
    → latest_shown (set rs k r) ≡ newest (latest_shown rs) r.time
latest-set rs k r g l v n =
    latest-all (set rs k r) (set-good rs k r g v) ∙ (all_set rs k r g l v n ∙ (ap (λ x. join x r.time) (sym (latest-all rs g)) ∙ last))
  where
    last : join (latest_shown rs) r.time ≡ newest (latest_shown rs) r.time
    last = rw (not-zero r.time (row-real r v))

-- what the stored time is: none of the rows shown is later
join-self : {a : ℕ} → Timed a → join a a ≡ a
unfolding latest_of
join-self none = refl
join-self {a} (real ra) = join-real a a ra ra ∙ rw (later-self a ra)

absorbs : (rs : List Row) → Goods rs → (i : ℕ) → join (latest_all rs) (get_or rs i blank_row).time ≡ latest_all rs
unfolding latest_all
absorbs [] g i = refl
absorbs (r ∷ rs) g zero =
    let a = good-timed (g 0) in
    let l = all-timed rs (λ i. g (suc i)) in
    join-comm (join-timed a l) a ∙ (sym (join-assoc a a l) ∙ ap (λ x. join x (latest_all rs)) (join-self a))
absorbs (r ∷ rs) g (suc i) =
    join-assoc (good-timed (g 0)) (all-timed rs (λ i. g (suc i))) (good-timed (g (suc i)))
    ∙ ap (join r.time) (absorbs rs (λ i. g (suc i)) i)

record Found (rs : List Row) (t : ℕ) : Type 0 where
  place : ℕ
  is : (get_or rs place blank_row).time ≡ t

either : (P : ℕ → Type 0) (a b : ℕ) → P a → P b → P (join a b)
unfolding newest latest_of
either P a b p q = go (eqb b 0) (eqb a 0) (later b a)
  where
    go : (x y z : Bool) → P (cond x a (cond y b (cond z b a)))
    go true y z = p
    go false true z = q
    go false false true = q
    go false false false = p

found : (rs : List Row) → Found rs (latest_all rs)
unfolding latest_all
found [] = record { place = 0; is = refl }
found (r ∷ rs) =
    let f = found rs in
    either (Found (r ∷ rs)) r.time (latest_all rs) (record { place = 0; is = refl }) (record { place = suc f.place; is = f.is })

module _ (rs : List Row) (g : Goods rs) where
  shown-real : (i : ℕ) → is_blank_row (get_or rs i blank_row) ≡ false → Real (get_or rs i blank_row).time
  shown-real i e = go (g i)
    where
      go : Good (get_or rs i blank_row) → Real (get_or rs i blank_row).time
      go (blank h) = true-false (sym h ∙ e)
      go (valid v) = row-real (get_or rs i blank_row) v

  under_top : (t s : ℕ) → Real t → Real s → join t s ≡ t → later s t ≡ false
  unfolding latest_of
  under_top t s rt rs' e = go (later s t) refl (sym (join-real t s rt rs') ∙ e)
    where
      go : (x : Bool) → later s t ≡ x → cond x s t ≡ t → x ≡ false
      go true h f = sym h ∙ (ap (later s) (sym f) ∙ later-self s rs')
      go false h f = refl

  -- nothing stands over none
  no-row : latest_all rs ≡ 0 → (i : ℕ) → is_blank_row (get_or rs i blank_row) ≡ true
  no-row z i = go (is_blank_row (get_or rs i blank_row)) refl
    where
      go : (x : Bool) → is_blank_row (get_or rs i blank_row) ≡ x → x ≡ true
      go true e = refl
      go false e =
          let r = shown-real i e in
          let h = sym (join-none (get_or rs i blank_row).time) ∙ (ap (λ t. join t (get_or rs i blank_row).time) (sym z) ∙ (absorbs rs g i ∙ z)) in
          sym (not-zero (get_or rs i blank_row).time r) ∙ ap (λ t. eqb t 0) h

  top : IsLatest rs (latest_all rs)
  top = go (found rs)
    where
      at : (i : ℕ) → (get_or rs i blank_row).time ≡ latest_all rs → (x : Bool) → is_blank_row (get_or rs i blank_row) ≡ x → IsLatest rs (latest_all rs)
      at i e true b = let z = sym e ∙ ap (λ r. r.time) (blank-row (get_or rs i blank_row) b) in subst (IsLatest rs) (sym z) (none-shown (no-row z))
      at i e false b =
          subst (IsLatest rs) e (shown-at i b (λ j c. subst (λ t. later (get_or rs j blank_row).time t ≡ false) (sym e)
          (under_top (latest_all rs) (get_or rs j blank_row).time (subst Real e (shown-real i b)) (shown-real j c) (absorbs rs g j))))

      go : Found rs (latest_all rs) → IsLatest rs (latest_all rs)
      go f = at f.place f.is (is_blank_row (get_or rs f.place blank_row)) refl

  pub latest-is : IsLatest rs (latest_shown rs)
  latest-is = subst (IsLatest rs) (sym (latest-all rs g)) top
