-- Behind the codes: the full form, or the short one with freedom (d); and the width.
use Rattle.std.specs.Prelude.{ℕ, ◌<◌, ◌≡◌, List, [], ◌∷◌, ◌++◌, cond, Bool, not, leb}
use Rattle.std.proofs.Math.Path.{refl, sym}
use Rattle.std.proofs.Common.{◌∙◌, subst, ap, lit<, lit≤, arith}
use Rattle.std.proofs.Math.Bool.{true, false}
use Rattle.std.proofs.Math.Dec.{eqb}
use borrow.Author.Tests.{eqb-true, eqb-false, ne_eqb, leb-true, le-leb, lt-leb, not-true}
use Rattle.text.specs.Choice.{◌and◌, head_is}
use Rattle.text.specs.Piece.{Piece, gap, nr_groups, nr_text, Typed, done, step, nr_written, nr_left_out, spell, bytes}
use Rattle.text.specs.Read.{Got, misfit, got, or_else, guard, skip, read_if, read_gap, read_text}
use Rattle.text.specs.Numbers.{is_digit, digits, read_digits}
use Rattle.text.specs.Names.{is_letter, is_name}
use Rattle.text.specs.Laws.Typing.{join, cut}
use Rattle.text.specs.Laws.Base.{Laws, Head, Any, inline, true-false, and-1, and-2, and_i, and_r, then-got, guard-got, carry, head-not, head-off, not-space}
use Rattle.text.specs.Laws.Base.{text-off}
use Rattle.text.specs.Laws.Combine.{seq-laws, if-laws, as-laws, Gap, revalid, or-laws}
use Rattle.text.proofs.Laws.Combine.{gap-laws}
use Rattle.text.specs.Laws.Numbers.{digits-laws, digit-stops}
use Rattle.text.specs.Laws.Names.{word_next}
use Rattle.text.specs.Laws.Lines.{Ends}
use Rattle.thirds.specs.Groups.{Three, measure_pieces, read_measure, third_pieces, read_third, read_three, highest, group_pieces}
use Rattle.thirds.specs.Groups.{read_group}
use Rattle.thirds.specs.Laws.Groups.{Shown, coverages-laws, depths-laws, descriptions-laws, letter-name}
use Rattle.thirds.specs.Laws.Alike.{coverages-descriptions}
use Rattle.thirds.specs.declared.Group.TheVariants.{Coverages, Depths, Descriptions}
use Rattle.row.specs.Row.{is_bare, is_short}
use Rattle.rowtext.specs.Text.{width_pieces}
use Rattle.rowtext.specs.Reading.{Rest, all_nr, make_thirds, read_width}
use Rattle.rowtext.specs.Laws.Whole.{read_full, read_short, read_rest}

-- where the descriptions stand and no depths come behind them, the full form does not fit
pub full-misfit : (m : List ℕ) {k : Three} {r : List ℕ} → read_group Descriptions m ≡ got k r → read_group Depths r ≡ misfit → read_full m ≡ misfit
unfolding read_full
full-misfit m {k} {r} e d = go (read_group Coverages m) refl
  where
    go : (g : Got Three) → read_group Coverages m ≡ g → read_full m ≡ misfit
    go misfit f = rw f
    go (got c n) f = rw (f, coverages-descriptions.same f e, d)

-- the numbers can be shown
abbrev pub Valid : Rest → Type 0
Valid t = Shown Coverages t.0 × (Shown Depths t.1.0 × Shown Descriptions t.1.1)

abbrev full : Rest → List Piece
full t = group_pieces Coverages t.0 ++ (group_pieces Depths t.1.0 ++ group_pieces Descriptions t.1.1)

-- the text of the full form, or that of the short one
abbrev pub formed : Bool → Rest → List Piece
formed short t = cond short (nr_groups ∷ group_pieces Descriptions t.1.1) (full t)

full-laws : Laws Valid full read_full (Gap (Head is_name)) (λ r. word_next r ≡ false)
unfolding read_full
full-laws = seq-laws coverages-laws (seq-laws depths-laws descriptions-laws (λ m h. head-not 32 is_digit refl m h.0))
    (λ m h. head-not 32 is_digit refl m h.0)

abbrev bare : Three → Rest
bare k = (all_nr, (all_nr, k))

bare-valid : (k : Three) → Shown Descriptions k → Valid (bare k)
unfolding highest
bare-valid k h = ((lit≤ tt, lit≤ tt, lit≤ tt), ((lit≤ tt, lit≤ tt, lit≤ tt), h))

-- what may follow a row's descriptions: no word, and no group of depths
abbrev pub Behind : List ℕ → Type 0
Behind r = (word_next r ≡ false) × (read_group Depths r ≡ misfit)

module _ (code : Three) where
  abbrev brief : Rest → Bool
  brief t = is_short (make_thirds code t)

  short-bare : (t : Rest) → brief t ≡ true → t ≡ bare t.1.1
  unfolding is_short is_bare
  short-bare t h =
      let z : (c d : ℕ) (e : Bool) → ((eqb c 0 and eqb d 0) and e) ≡ true
      → (c ≡ 0) × (d ≡ 0) = λ c d e k. let g = and-1 (eqb c 0 and eqb d 0) e k in
      (eqb-true c 0 (and-1 (eqb c 0) (eqb d 0) g), eqb-true d 0 (and-2 (eqb c 0) (eqb d 0) g)) in
      let g = and-1 _ _ h in
      let p = z t.0.0 t.1.0.0 _ g in
      let q = z t.0.1 t.1.0.1 _ (and-2 _ _ g) in
      let r = z t.0.2 t.1.0.2 _ (and-2 _ _ (and-2 _ _ g)) in
      λ i. ((p.0 i, q.0 i, r.0 i), ((p.1 i, q.1 i, r.1 i), t.1.1))

  -- the full text of a short row is its short text under freedom (d), and back
  typed-out : (k : Three) {m r : List ℕ} → Typed (full (bare k)) m r → Typed (nr_groups ∷ group_pieces Descriptions k) m r
  unfolding third_pieces measure_pieces spell
  typed-out k t =
      let a = cut nr_text t in
      nr_written a.left a.right

  typed-in : (k : Three) {m r n : List ℕ} → Typed nr_text m n → Typed (group_pieces Descriptions k) n r → Typed (full (bare k)) m r
  unfolding third_pieces measure_pieces spell
  typed-in k a b = join a b

  rest-full : (t : Rest) (b : Bool) → brief t ≡ b → {m r : List ℕ} → Typed (full t) m r → Typed (formed b t) m r
  rest-full t true q {m} {r} x = typed-out t.1.1 (subst (λ u. Typed (full u) m r) (short-bare t q) x)
  rest-full t false q x = x

  short-laws : Laws (λ t. Valid t × (brief t ≡ true)) (λ t. group_pieces Descriptions t.1.1) (read_short code) (Gap (Head is_letter)) (λ r. word_next r ≡ false)
  unfolding read_short
  short-laws = revalid (if-laws (as-laws descriptions-laws (λ t. Valid t × (t ≡ bare t.1.1)) bare (λ t. t.1.1)
      (λ k h. ((bare-valid k h, refl), refl))
      (λ t h. (h.0.1.1, sym h.1))) brief) (λ t. Valid t × (brief t ≡ true))
      (λ t h. (h.0.0, h.1)) (λ t h. ((h.0, short-bare t h.1), h.1))

  rest-sound : (m : List ℕ) (g : Got Rest) → read_full m ≡ g → {t : Rest} {r : List ℕ} → or_else g (read_short code m) ≡ got t r
      → Valid t × Typed (formed (brief t) t) m r
  rest-sound m misfit q {t} {r} e = let x = short-laws.sound e in (x.0.0, subst (λ b. Typed (formed b t) m r) (sym x.0.1) (step nr_left_out x.1))
  rest-sound m (got u k) q {t} {r} e = let x = full-laws.sound (q ∙ e) in (x.0, rest-full t (brief t) refl x.1)

  rest-complete : (t : Rest) (b : Bool) → brief t ≡ b → {m r : List ℕ} → Valid t → Typed (formed b t) m r → Behind r → read_rest code m ≡ got t r
  rest-complete t false q v x h = rw (full-laws.complete t v x h.0)
  rest-complete t true q {m} {r} v (step nr_left_out u) h =
      rw (full-misfit m (descriptions-laws.complete t.1.1 v.1.1 u h.0) h.1) (short-laws.complete t (v, q) u h.0)
  rest-complete t true q {m} {r} v (nr_written n u) h =
      rw (full-laws.complete t v (subst (λ w. Typed (full w) m r) (sym (short-bare t q)) (typed-in t.1.1 n u)) h.0)

  rest-starts : (t : Rest) (b : Bool) → brief t ≡ b → {m r : List ℕ} → Valid t → Typed (formed b t) m r → Behind r → Gap (Head is_name) m
  rest-starts t false q v x h = full-laws.starts t v x h.0
  rest-starts t true q {m} {r} v (step nr_left_out u) h = let g = descriptions-laws.starts t.1.1 v.1.1 u h.0 in (g.0, letter-name (skip m) g.1)
  rest-starts t true q {m} {r} v (nr_written n u) h =
      full-laws.starts t v (subst (λ w. Typed (full w) m r) (sym (short-bare t q)) (typed-in t.1.1 n u)) h.0

  rest-within : (t : Rest) (b : Bool) → Valid t → inline (formed b t) ≡ true
  unfolding inline
  rest-within t true v = and_i refl (descriptions-laws.within t.1.1 v.1.1)
  rest-within t false v = full-laws.within t v

  pub rest-laws : Laws Valid (λ t. formed (brief t) t) (read_rest code) (Gap (Head is_name)) Behind
  rest-laws = record {
    sound = λ {a} {m} e. rest-sound m (read_full m) refl e;
    complete = λ a v t h. rest-complete a (brief a) refl v t h;
    starts = λ a v t h. rest-starts a (brief a) refl v t h;
    within = λ a v. rest-within a (brief a) v;
  }

-- width: none, or 01 to 99
abbrev read_some : List ℕ → Got ℕ
read_some = read_gap (read_if (λ w. leb 1 w) (read_digits 2))

none-next : (p : ℕ → Bool) (r : List ℕ) → r ≡ [] → head_is p r ≡ false
none-next p r e = ap (head_is p) e

three-off : (m : List ℕ) {w : ℕ} {r : List ℕ} → read_digits 2 m ≡ got w r → head_is is_digit r ≡ false → read_digits 3 m ≡ misfit
unfolding read_digits
three-off m {w} {r} e h = rw (e, digit-stops r h)

depth-two : (m : List ℕ) {w : ℕ} {r : List ℕ} → read_digits 2 m ≡ got w r → head_is is_digit r ≡ false → read_third Depths m ≡ guard (leb 1 w) (got w r)
unfolding read_third read_measure
depth-two m {w} {r} e h =
    let x = (digits-laws 1).sound e in
    let n = text-off 78 (82 ∷ []) m (head-off is_digit 78 refl m ((digits-laws 1).starts w x.0 x.1 tt)) in
    rw (n, three-off m e h, e)

two-no-depth : (m : List ℕ) {w : ℕ} {r : List ℕ} → read_digits 2 m ≡ got w r → r ≡ [] → read_three (read_third Depths) m ≡ misfit
two-no-depth m {w} {r} e h = go (leb 1 w) (depth-two m e (none-next is_digit r h))
  where
    go : (t : Bool) → read_third Depths m ≡ guard t (got w r) → read_three (read_third Depths) m ≡ misfit
    go true q = rw (q, text-off 47 [] r (none-next (eqb 47) r h))
    go false q = rw q

gap-off : {A : Type 0} (f : List ℕ → Got A) (m : List ℕ) → m ≡ [] → read_gap f m ≡ misfit
gap-off f m h = rw (text-off 32 [] m (none-next (eqb 32) m h))

behind-none : (m : List ℕ) → m ≡ [] → Behind m
unfolding skip read_group
behind-none m h = (ap word_next h, gap-off (read_three (read_third Depths)) m h)

some-laws : Laws (λ w. (w < 100) × (leb 1 w ≡ true)) (λ w. gap ∷ digits 2 w) read_some (Gap (Head is_digit)) Any
some-laws = gap-laws (if-laws (digits-laws 1) (λ w. leb 1 w)) (not-space is_digit refl)

digit-no-letter : (m : List ℕ) → Head is_digit m → head_is is_letter m ≡ false
digit-no-letter [] h = refl
digit-no-letter (x ∷ m) h = let k = leb-true x 57 (and_r (leb 48 x) (leb x 57) h) in rw (lt-leb 65 x (omega arith))

some-behind : (w : ℕ) {m r : List ℕ} → (w < 100) × (leb 1 w ≡ true) → Typed (gap ∷ digits 2 w) m r → r ≡ [] → Behind m
unfolding skip read_group
some-behind w {m} {r} v t h =
    let s = some-laws.starts w v t tt in
    let e = then-got (read_text (bytes " ") m) (some-laws.complete w v t tt) in
    let u = then-got (read_digits 2 e.mid) e.two in
    let g = guard-got (leb 1 u.val) u.two in
    (digit-no-letter (skip m) s.1, rw (e.one, two-no-depth e.mid (u.one ∙ g.1) h))

-- the test of a width that is there
abbrev broad : ℕ → Bool
broad w = not (eqb w 0)

broad-pos : (w : ℕ) → broad w ≡ true → leb 1 w ≡ true
broad-pos w h = let z = not-true (eqb w 0) h in let k = eqb-false w 0 z in le-leb 1 w (omega arith)

pos-broad : (w : ℕ) → leb 1 w ≡ true → broad w ≡ true
pos-broad w h = let k = leb-true 1 w h in rw (ne_eqb w 0 (omega arith))

pub width-laws : Laws (λ w. w < 100) width_pieces read_width Behind Ends
unfolding inline width_pieces read_width
width-laws = or-laws broad
    (record {
      sound = λ {a} {m} {r} e. let x = some-laws.sound e in let n = not-true (eqb a 0) (pos-broad a x.0.1) in
          ((x.0.0, pos-broad a x.0.1), rw n x.1);
      complete = λ w {m} {r} v t h. some-laws.complete w (v.0, broad-pos w v.1)
          (subst (λ b. Typed (cond b [] (gap ∷ digits 2 w)) m r) (not-true (eqb w 0) v.1) t) tt;
      starts = λ w {m} {r} v t h. some-behind w (v.0, broad-pos w v.1)
          (subst (λ b. Typed (cond b [] (gap ∷ digits 2 w)) m r) (not-true (eqb w 0) v.1) t) h;
      within = λ w v. subst (λ b. inline (cond b [] (gap ∷ digits 2 w)) ≡ true) (sym (not-true (eqb w 0) v.1))
          (some-laws.within w (v.0, broad-pos w v.1));
    })
    (record {
      sound = λ {a} {m} e. carry (λ w r. ((w < 100) × (broad w ≡ false)) × Typed (width_pieces w) m r) e ((lit< tt, refl), done);
      complete = λ w v t h. none-complete w (eqb w 0) refl v.1 t;
      starts = λ w v t h. none-starts w (eqb w 0) refl v.1 t h;
      within = λ w v. none_within w (eqb w 0) v.1;
    })
    (λ w m r v c t h. none-off w (eqb w 0) refl c t h)
  where
    none-complete : (w : ℕ) (b : Bool) → eqb w 0 ≡ b → {m r : List ℕ} → not b ≡ false → Typed (cond b [] (gap ∷ digits 2 w)) m r → got 0 m ≡ got w r
    none-complete w true q n done = rw (eqb-true w 0 q)
    none-complete w false q n t = true-false n

    none-starts : (w : ℕ) (b : Bool) → eqb w 0 ≡ b → {m r : List ℕ} → not b ≡ false → Typed (cond b [] (gap ∷ digits 2 w)) m r → r ≡ [] → Behind m
    none-starts w true q n done h = behind-none _ h
    none-starts w false q n t h = true-false n

    none-off : (w : ℕ) (b : Bool) → eqb w 0 ≡ b → {m r : List ℕ} → not b ≡ false → Typed (cond b [] (gap ∷ digits 2 w)) m r → r ≡ [] → read_some m ≡ misfit
    none-off w true q n done h = gap-off _ _ h
    none-off w false q n t h = true-false n

    none_within : (w : ℕ) (b : Bool) → not b ≡ false → inline (cond b [] (gap ∷ digits 2 w)) ≡ true
    none_within w true n = refl
    none_within w false n = true-false n
