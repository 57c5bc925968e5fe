-- What is shown of reading and writing a runway row.
use Rattle.std.specs.Prelude.{ℕ, ◌≤◌, ◌≡◌, refl, List, [], cond, Bool, true, false, ◌↔◌, leb, length, drop}
use Rattle.std.proofs.Common.{sym, subst, ◌∙◌, ap, arith, le-leb, leb-true, ne_eqb}
use Rattle.std.proofs.lemmas.Bool.{lt-leb}
use Rattle.text.specs.Choice.{◌and◌}
use Rattle.text.specs.Piece.{Typing, canonical}
use Rattle.text.specs.Out.{Out, refuse, taken, place}
use Rattle.text.specs.Laws.Base.{space_next, and-1, and-2}
use Rattle.text.specs.Laws.Left.{left-place}
use Rattle.text.specs.Laws.Lines.{whole-sound, whole-complete}
use Rattle.text.specs.Laws.Out.{Within, stopped, Any, no-refuse, took}
use Rattle.text.proofs.Laws.Typing.{canonical-typed}
use Rattle.row.specs.Row.{blank_row, valid_row}
use Rattle.rowtext.specs.Text.{row_pieces}
use Rattle.rowtext.specs.Reading.{find_row, row_answer}
use Rattle.rowtext.specs.Fault.{Fault}
use Rattle.rowtext.specs.Writing.{row_text, WroteRow}
use Rattle.rowtext.specs.Laws.Row.{row_laws}
use Rattle.rowtext.specs.Laws.Same.{row-taken, row-found}
use Rattle.rowtext.specs.Laws.Faults.{is_row_number, row_within}
use Rattle.rowtext.specs.Laws.Fault.{row-fault, fault-row, time-fault, group-fault}
use Rattle.rowtext.specs.Laws.Sizes.{text-size}
use Rattle.row.specs.declared.Row.{Row}
use Rattle.rowtext.specs.declared.RowRead.{RowRead}

-- the line tells the row: the row is valid, and the line is a typing of its text
pub record Tells (line : List ℕ) (r : Row) : Type 0 where
  pub valid : valid_row r ≡ true
  pub typing : Typing (row_pieces r) line

-- a line that is read tells the row that is read
pub row-sound : (line : List ℕ) {r : Row} → find_row line ≡ taken r → Tells line r
row-sound line e =
    let x = whole-sound row_laws {m = line} (row-taken line e) in
    record { valid = x.0; typing = x.1 }

-- a line that tells a row is read as that row
pub row-complete : (line : List ℕ) (r : Row) → Tells line r → find_row line ≡ taken r
row-complete line r t = row-found line (whole-complete row_laws r t.valid t.typing)

-- so a line has no fault exactly if it is a row, and is that row
pub row-exactly : (line : List ℕ) (r : Row) → (find_row line ≡ taken r) ↔ Tells line r
row-exactly line r = (row-sound line, row-complete line r)

-- and it is refused by a number, with this left of it, exactly if it has that fault there
pub fault-exactly : (line : List ℕ) (n : ℕ) (left : List ℕ) → (find_row line ≡ refuse n left) ↔ Fault line n left
fault-exactly line n left = (row-fault line, fault-row line)

-- a line tells one row at most
pub row_one : (line : List ℕ) (r s : Row) → Tells line r → Tells line s → r ≡ s
row_one line r s t u = took (λ q. r ≡ q) (sym (row-complete line r t) ∙ row-complete line s u) refl

-- has one fault at most
pub fault-one : (line : List ℕ) {n k : ℕ} {left rest : List ℕ} → Fault line n left → Fault line k rest → (n ≡ k) × (left ≡ rest)
fault-one line f g =
    let e : ◌≡◌ {A = Out Row} (refuse _ _) (refuse _ _) = sym (fault-row line f) ∙ fault-row line g in
    (cc, cc)

-- and never both
pub row-no-fault : (line : List ℕ) {r : Row} {n : ℕ} {left : List ℕ} → Tells line r → Fault line n left → ⊥
row-no-fault line {r} t f = no-refuse (sym (fault-row line f) ∙ row-complete line r t)

-- the answers to a line: the row, or the refusal with its place and the blank row
abbrev accepted : Row → RowRead
accepted r = record { refusal = 0; place = 0; row = r }

abbrev refused : List ℕ → ℕ → List ℕ → RowRead
refused line n left = record { refusal = n; place = place line left; row = blank_row }

-- the answer says that the line tells this row, or that it has this fault there
pub data Answers (line : List ℕ) : RowRead → Type 0 where
  row : {r : Row} → Tells line r → Answers line (accepted r)
  fault : {n : ℕ} {left : List ℕ} → Fault line n left → Answers line (refused line n left)

-- the answer that is given is right
pub row-answers : (line : List ℕ) → Answers line (row_answer line (find_row line))
row-answers line = go (find_row line) refl
  where
    go : (o : Out Row) → find_row line ≡ o → Answers line (row_answer line o)
    go (refuse n left) e = fault (row-fault line e)
    go (taken r) e = row (row-sound line e)

-- and no other is: this promise leaves no choice
pub answers_one : (line : List ℕ) {a : RowRead} → Answers line a → a ≡ row_answer line (find_row line)
answers_one line (row {r = r} t) = rw (row-complete line r t)
answers_one line (fault f) = rw (fault-row line f)

-- the number of a fault is 5 or 24 to 28; its place is one of the line, and what is left of the line starts there
pub record Stands (line : List ℕ) (n : ℕ) (left : List ℕ) : Type 0 where
  pub number : (n ≡ 5 → ⊥) → (24 ≤ n) × (n ≤ 28)
  pub within : place line left ≤ length line
  pub there : drop (place line left) line ≡ left
  -- 5 stands at the row's first byte, every other at the first byte of a group or at the row's end: at no space
  pub first : n ≡ 5 → place line left ≡ 0
  pub parts : (n ≡ 5 → ⊥) → space_next left ≡ false

row-range : (n : ℕ) → is_row_number n ≡ true → (n ≡ 5 → ⊥) → (24 ≤ n) × (n ≤ 28)
unfolding is_row_number
row-range n h other =
    let k = subst (λ b. cond b true (leb 24 n and leb n 28) ≡ true) (ne_eqb n 5 other) h in
    (leb-true 24 n (and-1 (leb 24 n) (leb n 28) k), leb-true n 28 (and-2 (leb 24 n) (leb n 28) k))

pub row-stands : (line : List ℕ) {n : ℕ} {left : List ℕ} → Fault line n left → Stands line n left
row-stands line {n} {left} f = go (subst (Within is_row_number line Any) (fault-row line f) (row_within line))
  where
    go : Within is_row_number line {A = Row} Any (refuse n left) → Stands line n left
    go (stopped h l) = record {
      number = row-range n h;
      within = omega arith;
      there = left-place l;
      first = λ z. let e = ap length (time-fault line f z) in omega arith;
      parts = group-fault line f;
    }

-- a line is read as exactly the row that it tells, and is refused exactly if it tells none
pub record Exactly (line : List ℕ) : Type 0 where
  pub read : {r : Row} → row_answer line (find_row line) ≡ accepted r → Tells line r
  pub told : {r : Row} → Tells line r → row_answer line (find_row line) ≡ accepted r
  pub none : ((row_answer line (find_row line)).refusal ≡ 0 → ⊥) → (r : Row) → Tells line r → ⊥
  pub else : ((r : Row) → Tells line r → ⊥) → (row_answer line (find_row line)).refusal ≡ 0 → ⊥

pub exactly : (line : List ℕ) → Exactly line
exactly line = record {
  read = λ {r} e. was_read (find_row line) refl e;
  told = λ {r} t. ap (row_answer line) (row-complete line r t);
  none = λ off r t. off (ap (λ o. (row_answer line o).refusal) (row-complete line r t));
  else = λ untold. was-none (find_row line) refl untold;
}
  where
    numbered : {n : ℕ} {left : List ℕ} → find_row line ≡ refuse n left → n ≡ 0 → ⊥
    numbered {n} e z = let k = (row-stands line (row-fault line e)).number (omega arith) in omega arith

    was_read : (o : Out Row) → find_row line ≡ o → {r : Row} → row_answer line o ≡ accepted r → Tells line r
    was_read (refuse n left) q e = absurd (numbered q (ap (λ (a : RowRead). a.refusal) e))
    was_read (taken s) q e = rw (ap (λ (a : RowRead). a.row) (sym e)) (row-sound line q)

    was-none : (o : Out Row) → find_row line ≡ o → ((r : Row) → Tells line r → ⊥) → (row_answer line o).refusal ≡ 0 → ⊥
    was-none (refuse n left) q untold = numbered q
    was-none (taken s) q untold = absurd (untold s (row-sound line q))

-- a written valid row reads back
pub row_back : (r : Row) → valid_row r ≡ true → find_row (row_text r) ≡ taken r
unfolding row_text
row_back r h = rw h (row-complete (canonical (row_pieces r)) r (record { valid = h; typing = canonical-typed (row_pieces r) }))

-- a row's text has at most 147 bytes
pub row-short : (r : Row) → length (row_text r) ≤ 147
row-short = text-size

-- a row that is not valid, or whose text does not fit, is refused: no byte is touched, and 0 is answered
no_text : (r : Row) → valid_row r ≡ false → row_text r ≡ []
unfolding row_text
no_text r e = rw e

pub refused-untouched : (r : Row) {before after : List ℕ} {n : ℕ} → WroteRow (row_text r) before after n
    → (valid_row r ≡ true → length (row_text r) ≤ length before → ⊥) → (after ≡ before) × (n ≡ 0)
refused-untouched r {before} {after} {n} p unfit = go (valid_row r) refl
  where
    go : (t : Bool) → valid_row r ≡ t → (after ≡ before) × (n ≡ 0)
    go false e =
        let q = subst (λ t. WroteRow t before after n) (no_text r e) p in
        let k = le-leb 0 (length before) (omega arith) in
        (q.holds ∙ rw k, q.filled ∙ rw k)
    go true e =
        let long = unfit e in
        let k = lt-leb (length (row_text r)) (length before) (omega arith) in
        (p.holds ∙ rw k, p.filled ∙ rw k)

-- the promise of writing leaves no choice: the answer and every byte; that of putting is `put_one` of text, and the others are equations
pub wrote_one : {t before x y : List ℕ} {r s : ℕ} → WroteRow t before x r → WroteRow t before y s → (r ≡ s) × (x ≡ y)
wrote_one p q = (p.filled ∙ sym q.filled, p.holds ∙ sym q.holds)
