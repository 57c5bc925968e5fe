-- Demand 2: a message of at most 4,096 bytes is accepted exactly when some valid record's text differs from it only by the four
-- freedoms, and that record is the one returned. A written valid record reads back as that record.
use Rattle.std.specs.Prelude.{ℕ, ◌<◌, ◌≤◌, ◌≡◌, refl, List, [], ◌++◌, cond, Bool, true, false, ◌↔◌, ◌⊎◌, eqb, leb, length, take, drop}
use Rattle.std.proofs.Common.{sym, subst, ◌∙◌, ap, inl, inr, eqb-true, ne_eqb, leb-true, leb-false, le-leb, arith}
use Rattle.std.proofs.lemmas.Bool.{eqb-false}
use Rattle.text.specs.Piece.{Typing}
use Rattle.text.specs.Lines.{longest, cuts, ended}
use Rattle.text.specs.Choice.{◌and◌}
use Rattle.text.specs.Laws.Base.{true-false}
use Rattle.text.specs.Laws.Arrays.{take-front}
use Rattle.text.proofs.Laws.Typing.{canonical-typed}
use Rattle.text.specs.Laws.Lines.{Tells, lines-sound}
use Rattle.text.proofs.Laws.Lines.{lines-complete}
use Rattle.text.specs.Laws.Left.{left-place}
use Rattle.text.specs.Laws.Cuts.{cuts-text, cuts-ends}
use Rattle.text.specs.Laws.Out.{Within, stopped, Any, is_number, number-range}
use Rattle.text.specs.Out.{Out, refuse, taken, place}
use Rattle.frontlines.specs.Addresses.{valid_addresses}
use Rattle.record.specs.declared.Record.{Record}
use Rattle.record.specs.declared.Reading.{Reading}
use Rattle.text.specs.declared.Written.{Written}
use Rattle.record.specs.Record.{valid_record, blank_record}
use Rattle.record.specs.Notice.{notice_lines, notice, notice_text}
use Rattle.notice.specs.Reading.{read_notice, result, reading}
use Rattle.record.specs.Laws.{notice-latest}
use Rattle.record.specs.Answer.{accepted, refused}
use Rattle.notice.specs.Writing.{unwritten, writing, written, Wrote}
use Rattle.notice.specs.Rewriting.{rewriting, rewritten, Rewrote}
use Rattle.notice.specs.Same.{TellSame, SaysSame}
use Rattle.notice.specs.Wrong.{Wrong, too_long}
use Rattle.notice.specs.Laws.Parts.{made, part_lines, parts_of, lines_are, parts-kept, good-valid, valid-good, made-back}
use Rattle.notice.specs.Laws.Lines.{notice-sound, notice-complete, notice-within, lines-inline}
use Rattle.notice.specs.Laws.Size.{text-fits}
use Rattle.notice.specs.Laws.Reading.{result-took}
use Rattle.notice.specs.Laws.Wrong.{wrong-refused}
use Rattle.notice.specs.Laws.Verdict.{Verdict, wrong, right, verdict}

-- sound: an accepted reading's record is valid, the message is a typing of its notice, and has at most 4,096 bytes
pub sound : (m : List ℕ) (r : Record) → reading m ≡ accepted r → (valid_record r ≡ true) × Typing (notice r) m × (length m ≤ 4096)
unfolding reading notice
sound m r e = go (leb (length m) 4096) refl e
  where
    go : (b : Bool) → leb (length m) 4096 ≡ b → cond b (result m (read_notice (cuts m))) (refused 1 4096) ≡ accepted r
        → (valid_record r ≡ true) × Typing (ended (notice_lines r)) m × (length m ≤ 4096)
    go false q f = let z = ap (λ x. x.refusal) f in absurd (omega arith)
    go true q f =
        let t = notice-sound (cuts m) (result-took m (read_notice (cuts m)) (notice-within m (cuts m) (cuts-ends m)) f) in
        let n = lines_are (made t.parts) ∙ ap part_lines (parts-kept t.parts t.good) in (
          subst (λ s. valid_record s ≡ true) t.is (good-valid t.parts t.good),
          subst (λ s. Typing (ended (notice_lines s)) m) t.is (subst (λ k. Typing (ended k) m) (sym n) (lines-sound t.tells m (sym (cuts-text m)))),
          leb-true (length m) 4096 q,
        )

-- complete: every typing of a valid record's notice of at most 4,096 bytes is accepted with that record
pub complete : (m : List ℕ) (r : Record) → valid_record r ≡ true → Typing (notice r) m → length m ≤ 4096 → reading m ≡ accepted r
unfolding reading notice notice_lines
complete m r v t l =
    let g = valid-good r v in
    let s = lines-complete _ _ (lines-inline (parts_of r) g) t in
    rw (le-leb (length m) 4096 l, notice-complete (parts_of r) (cuts m) g (subst (Tells _) (sym (cuts-text m)) s)) (ap accepted (made-back r v))

-- every valid record's text has at most 4,096 bytes
pub never-too-long : (r : Record) → valid_record r ≡ true → length (notice_text r) ≤ 4096
never-too-long r v = rw (← (notice-latest r)) (text-fits _ r v)

-- a written valid record reads back as that record
pub back : (r : Record) → valid_record r ≡ true → reading (notice_text r) ≡ accepted r
unfolding notice_text
back r v = complete (notice_text r) r v (canonical-typed (notice r)) (never-too-long r v)

-- refused means blank
pub refused-blank : (m : List ℕ) → ((reading m).refusal ≡ 0 → ⊥) → (reading m).«record» ≡ blank_record
unfolding reading
refused-blank m h = go (leb (length m) 4096) (read_notice (cuts m)) h
  where
    go : (b : Bool) (o : Out Record) → ((cond b (result m o) (refused 1 4096)).refusal ≡ 0 → ⊥) → (cond b (result m o) (refused 1 4096)).«record» ≡ blank_record
    go true (refuse n left) k = refl
    go true (taken r) k = absurd (k refl)
    go false o k = refl

-- an accepted reading is its record
pub accepted-is : (m : List ℕ) → (reading m).refusal ≡ 0 → reading m ≡ accepted (reading m).«record»
unfolding reading
accepted-is m e = go (leb (length m) 4096) (read_notice (cuts m)) (notice-within m (cuts m) (cuts-ends m)) e
  where
    go : (b : Bool) (o : Out Record) → Within is_number m Any o → (cond b (result m o) (refused 1 4096)).refusal ≡ 0
        → cond b (result m o) (refused 1 4096) ≡ accepted (cond b (result m o) (refused 1 4096)).«record»
    go true (refuse n left) (stopped h t) z = let k = (number-range n h).0 (omega arith) in absurd (omega arith)
    go true (taken r) w z = refl
    go false o w z = absurd (omega arith)

-- so the record of an accepted message is valid
pub read-valid : (m : List ℕ) (a : Reading) → a ≡ reading m → a.refusal ≡ 0 → valid_record a.«record» ≡ true
read-valid m a e z =
    let q = ap (λ x. x.refusal) (sym e) ∙ z in
    rw e (sound m (reading m).«record» (accepted-is m q)).0

-- accepted exactly when some valid record's notice is typed so
pub record Told (m : List ℕ) : Type 0 where
  pub tells : Record
  pub valid : valid_record tells ≡ true
  pub typed : Typing (notice tells) m

pub exactly : (m : List ℕ) → length m ≤ 4096 → ((reading m).refusal ≡ 0) ↔ Told m
exactly m l = (
  λ e. let s = sound m (reading m).«record» (accepted-is m e) in record { tells = (reading m).«record»; valid = s.0; typed = s.1 },
  λ t. ap (λ x. x.refusal) (complete m t.tells t.valid t.typed l),
)

-- and that record is the one returned
pub that-one : (m : List ℕ) → length m ≤ 4096 → (t : Told m) → (reading m).«record» ≡ t.tells
that-one m l t = ap (λ x. x.«record») (complete m t.tells t.valid t.typed l)

-- so a message is a typing of at most one valid record's notice
pub one-record : (m : List ℕ) (r s : Record) → valid_record r ≡ true → valid_record s ≡ true → length m ≤ 4096 → Typing (notice r) m → Typing (notice s) m → r ≡ s
one-record m r s v w l t u = ap (λ x. x.«record») (sym (complete m r v t l) ∙ complete m s w u l)

-- no two valid records have one text
pub one-text : (r s : Record) → valid_record r ≡ true → valid_record s ≡ true → notice_text r ≡ notice_text s → r ≡ s
one-text r s v w e = ap (λ x. x.«record») (sym (back r v) ∙ (ap reading e ∙ back s w))

-- a refused message of at most 4,096 bytes: its number, and what is left of it at its place
pub record Stands (m : List ℕ) (n : ℕ) (left : List ℕ) : Type 0 where
  pub answer : reading m ≡ refused n (place m left)
  pub number : is_number n ≡ true
  pub within : place m left ≤ length m
  pub there : drop (place m left) m ≡ left

pub refused-stands : (m : List ℕ) (n : ℕ) (left : List ℕ) → length m ≤ 4096 → read_notice (cuts m) ≡ refuse n left → Stands m n left
unfolding reading
refused-stands m n left l e = go (subst (Within is_number m Any) e (notice-within m (cuts m) (cuts-ends m)))
  where
    go : Within is_number m {A = Record} Any (refuse n left) → Stands m n left
    go (stopped h t) = record { answer = rw (le-leb (length m) 4096 l, e); number = h; within = omega arith; there = left-place t }

-- the number of a refused reading is 1 to 12 or 24 to 28, and its place is at most the message's length
pub record Numbered (m : List ℕ) (a : Reading) : Type 0 where
  pub number : is_number a.refusal ≡ true
  pub within : a.place ≤ length m

pub refused-numbered : (m : List ℕ) → ((reading m).refusal ≡ 0 → ⊥) → Numbered m (reading m)
unfolding reading is_number
refused-numbered m h = go (leb (length m) longest) refl (read_notice (cuts m)) (notice-within m (cuts m) (cuts-ends m)) h
  where
    go : (b : Bool) → leb (length m) longest ≡ b → (o : Out Record) → Within is_number m Any o → ((cond b (result m o) (refused 1 longest)).refusal ≡ 0 → ⊥)
        → Numbered m (cond b (result m o) (refused 1 longest))
    go true e (refuse n left) (stopped q t) k = record { number = q; within = omega arith }
    go true e (taken r) w k = absurd (k refl)
    go false e o w k = let l = leb-false (length m) longest e in record { number = refl; within = omega arith }

-- so no reading's refusal is above 28, and none is 13
pub refusal-range : (m : List ℕ) → ((reading m).refusal ≤ 28) × ((reading m).refusal ≡ 13 → ⊥)
refusal-range m = go (eqb (reading m).refusal 0) refl
  where
    go : (b : Bool) → eqb (reading m).refusal 0 ≡ b → ((reading m).refusal ≤ 28) × ((reading m).refusal ≡ 13 → ⊥)
    go true e = let z = eqb-true (reading m).refusal 0 e in (omega arith, λ k. omega arith)
    go false e =
        let r = number-range (reading m).refusal (refused-numbered m (eqb-false (reading m).refusal 0 e)).number in
        (r.2, λ k. let h = r.1 (omega arith) in omega arith)

-- writing's promise leaves no choice
pub wrote_one : {r : Record} {b x y : List ℕ} {v w : Written} → Wrote r b x v → Wrote r b y w → (v ≡ w) × (x ≡ y)
wrote_one p q = (p.answer ∙ sym q.answer, p.holds ∙ sym q.holds)

-- nor does the promise of a rewriting
pub rewrote-one : {m b x y : List ℕ} {v w : Written} → Rewrote m b x v → Rewrote m b y w → (v ≡ w) × (x ≡ y)
rewrote-one p q = (p.answer ∙ sym q.answer, p.holds ∙ sym q.holds)

-- a message that is written anew is accepted, so its record is valid and 13 is no answer
pub never-invalid : (m : List ℕ) (room : ℕ) → (rewriting m room).refusal ≡ 13 → ⊥
unfolding rewriting writing
never-invalid m room = go (eqb (reading m).refusal 0) refl
  where
    answered : (k : Bool) (n : ℕ) → (cond {A = Written} k (record { refusal = 0; length = n }) (unwritten 14)).refusal ≡ 13 → ⊥
    answered true n f = omega arith
    answered false n f = omega arith

    go : (k : Bool) → eqb (reading m).refusal 0 ≡ k → (cond k (writing (reading m).«record» room) (unwritten (reading m).refusal)).refusal ≡ 13 → ⊥
    go true e f =
        let r = (reading m).«record» in
        answered (leb (length (notice_text r)) room) (length (notice_text r)) (rw (read-valid m (reading m) refl (eqb-true (reading m).refusal 0 e)) at f)
    go false e f = (refusal-range m).1 f

-- a text is written: as many bytes as are answered are the text, none where the writing is refused, and then every byte of the buffer is as before
pub record Filled (text before after : List ℕ) (w : Written) : Type 0 where
  pub front : take w.length after ≡ cond (eqb w.refusal 0) text []
  pub refused : (w.refusal ≡ 0 → ⊥) → (after ≡ before) × (w.length ≡ 0)

-- so it is where the writing is refused and touches nothing
pub untouched : (text : List ℕ) {b x : List ℕ} {w : Written} (n : ℕ) → (n ≡ 0 → ⊥) → w ≡ unwritten n → x ≡ b → Filled text b x w
untouched text n h e f = record { front = rw (e, ne_eqb n 0 h); refused = λ k. (f, ap (λ v. v.length) e) }

-- so is the text of a record, and only where the record is valid
pub wrote-filled : {r : Record} {b x : List ℕ} {w : Written} → Wrote r b x w → Filled (notice_text r) b x w × (w.refusal ≡ 0 → valid_record r ≡ true)
unfolding writing written
wrote-filled {r} {b} {x} {w} p = go (valid_record r) (leb (length text) (length b)) p.answer p.holds
  where
    text : List ℕ
    text = notice_text r

    go : (t u : Bool) → w ≡ cond t (cond u (record { refusal = 0; length = length text }) (unwritten 14)) (unwritten 13)
        → x ≡ cond t (cond u (text ++ drop (length text) b) b) b → Filled text b x w × (w.refusal ≡ 0 → t ≡ true)
    go true true e f = (record { front = rw (e, f) (take-front text (drop (length text) b)); refused = λ k. absurd (k (ap (λ v. v.refusal) e)) }, λ z. refl)
    go true false e f = (untouched text 14 (λ z. omega arith) e f, λ z. refl)
    go false u e f = (untouched text 13 (λ z. omega arith) e f, λ z. let k = ap (λ v. v.refusal) e in absurd (omega arith))

-- and that of a message written anew
pub rewrote-filled : {m b x : List ℕ} {w : Written} → Rewrote m b x w → Filled (notice_text (reading m).«record») b x w
unfolding rewriting rewritten
rewrote-filled {m} {b} {x} {w} p = go (eqb (reading m).refusal 0) refl p.answer p.holds
  where
    r : Record
    r = (reading m).«record»

    go : (t : Bool) → eqb (reading m).refusal 0 ≡ t → w ≡ cond t (writing r (length b)) (unwritten (reading m).refusal) → x ≡ cond t (written r b) b
        → Filled (notice_text r) b x w
    go true q e f = (wrote-filled (record { answer = e; holds = f })).0
    go false q e f = untouched (notice_text r) (reading m).refusal (eqb-false (reading m).refusal 0 q) e f

-- a valid record is never refused where there is room for 4,096 bytes
pub never-refused : {r : Record} {b x : List ℕ} {w : Written} → Wrote r b x w → valid_record r ≡ true → 4096 ≤ length b → w.refusal ≡ 0
unfolding writing
never-refused {r} {b} p v room =
    let fits = never-too-long r v in
    ap (λ w. w.refusal) p.answer ∙ rw (v, le-leb (length (notice_text r)) (length b) (omega arith))

-- two messages are typings of one valid record's notice, of at most 4,096 bytes each
pub record OneNotice (a b : List ℕ) : Type 0 where
  pub tells : Record
  pub valid : valid_record tells ≡ true
  pub one : Typing (notice tells) a × (length a ≤ 4096)
  pub other : Typing (notice tells) b × (length b ≤ 4096)

-- they tell the same exactly then
pub same-exactly : (a b : List ℕ) → TellSame a b ↔ OneNotice a b
same-exactly a b = (
  λ t.
      let x = sound a t.tells t.one in
      let y = sound b t.tells t.other in
      record { tells = t.tells; valid = x.0; one = (x.1, x.2); other = (y.1, y.2) },
  λ n. record {
    tells = n.tells;
    one = complete a n.tells n.valid n.one.0 n.one.1;
    other = complete b n.tells n.valid n.other.0 n.other.1;
  },
)

-- the promise of the sameness check leaves no choice
pub says-one : {a b : List ℕ} (r s : Bool) → SaysSame a b r → SaysSame a b s → r ≡ s
says-one true true p q = refl
says-one true false p q = sym (q.1 (p.0 refl))
says-one false true p q = p.1 (q.0 refl)
says-one false false p q = refl

-- every kind of refusal in plain terms (`Wrong`): a message is refused by a number at a place exactly if it is wrong so
blank-invalid : valid_record blank_record ≡ false
unfolding valid_record valid_addresses ◌and◌
blank-invalid = refl

pub wrong-exactly : (m : List ℕ) (n p : ℕ) → (reading m ≡ refused n p) ↔ Wrong m n p
wrong-exactly m n p = (λ e. go e (verdict m), wrong-refused)
  where
    go : reading m ≡ refused n p → Verdict m → Wrong m n p
    go e (wrong {n = k} w) =
        let f = sym (wrong-refused w) ∙ e in
        subst (λ i. Wrong m i p) (ap (λ x. x.refusal) f) (subst (Wrong m k) (ap (λ x. x.place) f) w)
    go e (right {r = r} l f) = true-false (sym (sound m r f).0 ∙ (ap (λ x. valid_record x.«record») (sym f ∙ e) ∙ blank-invalid))

-- "for 1 the number 4,096"
pub too_long_lem : (m : List ℕ) → 4096 < length m → reading m ≡ refused 1 4096
too_long_lem m h = wrong-refused (too_long h)

-- so it is wrong in one way at most
pub wrong-one : (m : List ℕ) {n k p q : ℕ} → Wrong m n p → Wrong m k q → (n ≡ k) × (p ≡ q)
wrong-one m v w = let e = sym (wrong-refused v) ∙ wrong-refused w in (ap (λ x. x.refusal) e, ap (λ x. x.place) e)

-- every message has at most 4,096 bytes and tells a valid record, or it is wrong
pub told-or-wrong : (m : List ℕ) → (Told m × (length m ≤ 4096)) ⊎ ((n : ℕ) × (p : ℕ) × Wrong m n p)
told-or-wrong m = go (verdict m)
  where
    go : Verdict m → (Told m × (length m ≤ 4096)) ⊎ ((n : ℕ) × (p : ℕ) × Wrong m n p)
    go (wrong {n = n} {p = p} w) = inr (n, p, w)
    go (right l f) = inl ((exactly m l).0 (ap (λ x. x.refusal) f), l)

-- and never both
pub told-not-wrong : (m : List ℕ) {n p : ℕ} → length m ≤ 4096 → Told m → Wrong m n p → ⊥
told-not-wrong m l t w =
    let f = sym (complete m t.tells t.valid t.typed l) ∙ wrong-refused w in
    true-false (sym t.valid ∙ (ap (λ x. valid_record x.«record») f ∙ blank-invalid))
