-- The two cases of a listing, what the code puts in each, and how long the first line is.
use Rattle.std.specs.Prelude.{ℕ, ◌<◌, ◌≤◌, ◌≡◌, true, length}
use Rattle.std.proofs.Common.{sym, ◌∙◌, length-append, eq-eqb, ne_eqb, leb-true, arith}
use Rattle.std.proofs.Math.Path.{subst, ap}
use mathlib.Core.List.{List, [], ◌∷◌, ◌++◌}
use Rattle.std.proofs.lemmas.Bool.{lt-leb}
use Rattle.text.specs.Piece.{bytes}
use Rattle.text.specs.Put.{Put}
use Rattle.text.specs.Laws.Base.{and-1, and-2}
use Rattle.text.specs.Laws.Sizes.{size, digits-size, number_size}
use Rattle.body.specs.Rows.{valid_rows}
use Rattle.record.specs.declared.Record.{Record}
use Rattle.record.specs.declared.Reading.{Reading}
use Rattle.record.specs.Record.{valid_record}
use Rattle.record.specs.Notice.{notice_text}
use Rattle.notice.specs.Reading.{reading}
use Rattle.listing.specs.Listing.{counted, accepted_line, refused_line, listed, listing}

-- accepted, or refused
module _ (a : Reading) where
  pub listed-accepted : a.refusal ≡ 0 → listed a ≡ accepted_line a.«record» ++ notice_text a.«record»
  unfolding listed
  listed-accepted z = rw (eq-eqb a.refusal 0 z)

  pub listed-refused : (a.refusal ≡ 0 → ⊥) → listed a ≡ refused_line a.refusal
  unfolding listed
  listed-refused h = rw (ne_eqb a.refusal 0 h)

module _ (m : List ℕ) (a : Reading) (e : a ≡ reading m) where
  -- what is put for either is the listing
  pub put_record : {b x : List ℕ} {n : ℕ} → a.refusal ≡ 0 → Put 0 (accepted_line a.«record» ++ notice_text a.«record») b x n → Put 0 (listing m) b x n
  unfolding listing
  put_record {b} {x} {n} z p = subst (λ (t : List ℕ). Put 0 t b x n) (sym (listed-accepted a z) ∙ ap listed e) p

  pub put-refusal : {b x : List ℕ} {n : ℕ} → (a.refusal ≡ 0 → ⊥) → Put 0 (refused_line a.refusal) b x n → Put 0 (listing m) b x n
  unfolding listing
  put-refusal {b} {x} {n} h p = subst (λ (t : List ℕ). Put 0 t b x n) (sym (listed-refused a h) ∙ ap listed e) p

-- a space and two digits, or one below 10
counted-size : (n : ℕ) → length (counted n) ≤ 3
unfolding counted size
counted-size n = omega (arith, number_size 1 n)

counted-low : (n : ℕ) → n < 10 → length (counted n) ≤ 2
unfolding counted size
counted-low n h = rw (lt-leb 10 n h) (omega (arith, digits-size 1 n))

rows-low : (r : Record) → valid_record r ≡ true → r.rows.count ≤ 8
unfolding valid_record valid_rows
rows-low r v = let k = and-1 _ _ (and-2 _ _ (and-2 _ _ (and-2 _ _ v))) in leb-true r.rows.count 8 (and-1 _ _ (and-2 _ _ k))

-- the word, three counts and LF
line-size : (a b c : ℕ) → a < 10 → length (bytes "ACCEPTED" ++ (counted a ++ (counted b ++ (counted c ++ (10 ∷ []))))) ≤ 17
line-size a b c h = simp length-append (omega (arith, counted-low a h, counted-size b, counted-size c))

pub accepted-size : (r : Record) → valid_record r ≡ true → length (accepted_line r) ≤ 17
unfolding accepted_line
accepted-size r v = line-size r.rows.count _ _ (omega (arith, rows-low r v))

pub refused-size : (n : ℕ) → length (refused_line n) ≤ 11
unfolding refused_line
refused-size n = simp length-append (omega (arith, counted-size n))
