-- Line 1 is read exactly if its addresses are valid and its text is typed.
use Rattle.std.specs.Prelude.{ℕ, suc, ◌-◌, ◌≤◌, ◌≡◌, List, [], ◌∷◌, true, false, not, leb, replicate}
use Rattle.std.proofs.Math.Path.{refl, subst}
use Rattle.std.proofs.Common.{sym, ap, arith}
use Rattle.std.proofs.Math.ListN.{length}
use borrow.Author.Tests.{eqb-true, eq-eqb, leb-true, le-leb}
use Rattle.text.specs.Choice.{◌and◌, all, is_empty, member}
use Rattle.text.specs.Piece.{spell}
use Rattle.text.specs.Read.{misfit, read_text}
use Rattle.text.specs.Names.{is_letter}
use Rattle.text.specs.Arrays.{pad, is_zero, flat}
use Rattle.text.specs.Laws.Base.{Laws, Head, Any, inline, true-false, and-1, and-2, and_i}
use Rattle.text.specs.Laws.Combine.{Gap, seq-laws, if-laws, as-laws, loosen}
use Rattle.text.proofs.Laws.Combine.{gap-laws}
use Rattle.text.specs.Laws.Names.{good}
use Rattle.text.proofs.Laws.Names.{table-laws}
use Rattle.text.specs.Laws.Many.{Every, many-laws, every-all, all-every}
use Rattle.text.specs.Laws.Arrays.{pad-length, replicate-zeros, wide, slots-flat, past-flat, flat-length, slots-back, slots_length}
use Rattle.text.specs.Laws.Sizes.{size, cons-size, append-size, spell-size, verbatim-size, all-size, name-size}
use Rattle.text.specs.Laws.Lines.{Ends}
use Rattle.frontlines.specs.Letters.{is_letters}
use Rattle.frontlines.specs.Addresses.{priority_name, priorities, most_addresses, address_size, address_room, addresses_of, make_addresses, address_pieces}
use Rattle.frontlines.specs.Addresses.{addresses_pieces, read_priority, read_address, read_addresses, valid_addresses}
use Rattle.frontlines.specs.Laws.Letters.{letters-long, letters-laws, letter-no-space}
use Rattle.frontlines.specs.declared.Addresses.{Addresses}

priorities-good : all (good (λ _. false) is_letter priority_name priorities) priorities ≡ true
unfolding inline spell ◌and◌
priorities-good = refl

pub no_address : (m : List ℕ) → m ≡ [] → read_address m ≡ misfit
unfolding read_text
no_address m e = ap read_address e

-- eight letters
abbrev pub Address : List ℕ → Type 0
Address l = is_letters address_size l ≡ true

-- a priority, and 1 to 8 addresses
abbrev Listed : ℕ × List (List ℕ) → Type 0
Listed p = ((member priorities p.0 ≡ true) × ((length p.1 ≤ most_addresses) × Every Address p.1)) × (not (is_empty p.1) ≡ true)

some-length : {A : Type 0} (l : List A) → not (is_empty l) ≡ true → leb 1 (length l) ≡ true
some-length [] h = true-false (sym h)
some-length (a ∷ l) h = le-leb 1 (suc (length l)) (omega arith)

some-some : {A : Type 0} (l : List A) (n : ℕ) → length l ≡ n → leb 1 n ≡ true → not (is_empty l) ≡ true
some-some [] n e h = let k = leb-true 1 n h in absurd (omega arith)
some-some (a ∷ l) n e h = refl

every-wide : (as' : List (List ℕ)) → Every Address as' → all (wide address_size) as' ≡ true
every-wide = every-all Address (wide address_size) (λ l h. eq-eqb (length l) address_size (letters-long address_size l h))

-- 8 addresses fill the array
pub flat-fits : (as' : List (List ℕ)) → length as' ≤ most_addresses → Every Address as' → length (flat as') ≤ address_room
flat-fits as' n v = let l = flat-length address_size as' (every-wide as' v) in omega arith

-- a list of addresses, in its array and back
module _ (p : ℕ × List (List ℕ)) (v : Listed p) where
  all-wide8 : all (wide address_size) p.1 ≡ true
  all-wide8 = every-wide p.1 v.0.1.1

  abbrev behind : List ℕ
  behind = replicate (address_room - length (flat p.1)) 0

  list_back : addresses_of (make_addresses p.0 p.1) ≡ p.1
  list_back = slots-flat address_size p.1 behind all-wide8

  list-valid : valid_addresses (make_addresses p.0 p.1) ≡ true
  unfolding valid_addresses
  list-valid =
      and_i v.0.0
      (and_i (some-length p.1 v.1)
      (and_i (le-leb (length p.1) most_addresses v.0.1.0)
      (and_i (eq-eqb (length (pad address_room 0 (flat p.1))) address_room
      (pad-length address_room 0 (flat p.1) (flat-fits p.1 v.0.1.0 v.0.1.1)))
      (and_i (subst (λ as'. all (is_letters address_size) as' ≡ true) (sym list_back) (every-all Address (is_letters address_size) (λ l h. h) p.1 v.0.1.1))
      (subst (λ k. all is_zero k ≡ true) (sym (past-flat address_size p.1 behind all-wide8))
      (replicate-zeros 0 is_zero refl (address_room - length (flat p.1))))))))

-- valid addresses, as a list and back
module _ (a : Addresses) (h : valid_addresses a ≡ true) where
  array-listed : Listed (a.priority, addresses_of a)
  unfolding valid_addresses
  array-listed =
      let n = slots_length address_size a.count a.letters in
      let v = h in
      let m = leb-true a.count most_addresses (and-1 _ _ (and-2 _ _ (and-2 _ _ v))) in (
        (
          and-1 _ _ v,
          (
            subst (λ c. c ≤ most_addresses) (sym n) m,
            all-every Address (is_letters address_size) (λ l k. k) (addresses_of a) (and-1 _ _ (and-2 _ _ (and-2 _ _ (and-2 _ _ (and-2 _ _ v))))),
          ),
        ),
        some-some (addresses_of a) a.count n (and-1 _ _ (and-2 _ _ v)),
      )

  letters-back : pad address_room 0 (flat (addresses_of a)) ≡ a.letters
  unfolding valid_addresses
  letters-back =
      let v = and-2 _ _ (and-2 _ _ (and-2 _ _ h)) in
      slots-back address_size a.count address_room a.letters (eqb-true (length a.letters) address_room (and-1 _ _ v)) (and-2 _ _ (and-2 _ _ v))

  array_back : make_addresses a.priority (addresses_of a) ≡ a
  array_back = let n = slots_length address_size a.count a.letters in λ i. record { priority = a.priority; count = n i; letters = letters-back i }

pub priority-laws : Laws (λ p. member priorities p ≡ true) (λ p. spell (priority_name p)) read_priority (Head is_letter) Any
priority-laws = table-laws is_letter priority_name priorities priorities-good

pub address-laws : Laws Address address_pieces read_address (Gap (Head is_letter)) Any
address-laws = gap-laws (letters-laws 7) letter-no-space

pub addresses-laws : Laws (λ a. valid_addresses a ≡ true) addresses_pieces read_addresses (Head is_letter) Ends
unfolding read_addresses addresses_pieces
addresses-laws = as-laws
    (loosen (if-laws (seq-laws priority-laws (many-laws address-laws (λ m h. tt) most_addresses) (λ m h. tt)) (λ p. not (is_empty p.1))) (λ m h. h)
    (λ m h. (tt, no_address m h)))
    (λ a. valid_addresses a ≡ true) (λ p. make_addresses p.0 p.1) (λ a. (a.priority, addresses_of a))
    (λ p v. (list-valid p v, ap (λ as'. (p.0, as')) (list_back p v))) (λ a v. (array-listed a v, array_back a v))

-- the line is at most 74 bytes long
priority-size : (p : ℕ) → length (priority_name p) ≤ 2
unfolding ◌and◌
priority-size = name-size 2 ("" ∷ "GG" ∷ "DD" ∷ []) refl

address-size : (as' : List (List ℕ)) → Every Address as' → Every (λ l. size (address_pieces l) ≤ 9) as'
address-size [] v = tt
address-size (a ∷ as') v = let e = letters-long address_size a v.0 in (rw (cons-size, verbatim-size) (omega arith), address-size as' v.1)

pub addresses-size : (a : Addresses) → valid_addresses a ≡ true → size (addresses_pieces a) ≤ 74
unfolding addresses_pieces
addresses-size a h =
    let v = array-listed a h in
    let n = v.0.1.0 in
    let p = priority-size a.priority in
    let k = all-size address_pieces 9 (addresses_of a) (address-size (addresses_of a) v.0.1.1) in
    rw (append-size, spell-size) (omega arith)
