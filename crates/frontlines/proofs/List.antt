-- The addresses of a line, taken one by one into the array.
use Prim.Native.Nat.{ℕ, zero, suc, ◌+◌, ◌-◌, ◌*◌, ◌<◌, ◌≤◌}
use mathlib.Core.Path.{◌≡◌, refl, sym, ◌∙◌, ap}
use mathlib.Core.List.{List, [], ◌∷◌, ◌++◌}
use mathlib.Core.Bool.{not}
use Rattle.std.specs.Prelude.{Option, None, Some}
use native.Mathlib.Omega.{arith}
use lib.Dec.{leb}
use lib.ListN.{length, drop, drop_of_length-le}
use lib.Seq.{sets, drop-cons}
use borrow.Author.Tests.{leb-true}
use Rattle.text.specs.Choice.{◌and◌, is_empty}
use Rattle.text.specs.Read.{Got, misfit, got, guard, and_then, read_text, read_many, whole}
use Rattle.text.specs.Arrays.{flat}
use Rattle.text.specs.Laws.Names.{all-at}
use Rattle.text.specs.Laws.Many.{many-laws}
use Rattle.text.specs.Laws.Put.{sets-join, over_zeros}
use Rattle.frontlines.specs.Addresses.{priorities, make_addresses, read_priority, read_address, read_addresses}
use Rattle.frontlines.specs.Code.Answers.{zeros, found, list_answer}
use Rattle.frontlines.specs.Laws.Addresses.{priority-laws, address-laws, flat-fits}
use Rattle.frontlines.specs.declared.Addresses.{Addresses}

-- c addresses are in the array L, and those of g come behind them
abbrev pub onto : ℕ → List ℕ → Got (List (List ℕ)) → Option (ℕ × List ℕ)
onto c L misfit = None
onto c L (got as' r) = Some (c + length as', sets L (c * 8) (flat as'))

-- the whole rest of a line, of which c addresses are taken
abbrev pub list_from : ℕ → List ℕ → Got (List (List ℕ))
list_from c m = whole (read_many read_address (8 - c) m)

pub onto-all : (m : List ℕ) → onto 0 (zeros 64) (list_from 0 m) ≡ list_answer (list_from 0 m)
onto-all m = go (read_many read_address 8 m) refl
  where
    go : (g : Got (List (List ℕ))) → read_many read_address 8 m ≡ g → onto 0 (zeros 64) (whole g) ≡ list_answer (whole g)
    go misfit q = refl
    go (got as' []) q =
        let v = ((many-laws address-laws (λ m h. tt) 8).sound {m = m} q).0 in
        let z : 0 + length as' ≡ length as' = omega arith in
        let e = over_zeros 0 64 (flat as') (flat-fits as' v.0 v.1) in
        λ i. Some (z i, e i)
    go (got as' (x ∷ k)) q = refl

-- one step of the loop
list-end : (c : ℕ) (m : List ℕ) → m ≡ [] → list_from c m ≡ got [] []
unfolding read_many read_text
list-end c m e = rw e (go (8 - c))
  where
    go : (n : ℕ) → whole (read_many read_address n []) ≡ got [] []
    go zero = refl
    go (suc n) = refl

module _ (c : ℕ) {m : List ℕ} {x : ℕ} {k : List ℕ} (e : m ≡ x ∷ k) where
  list_full : 8 ≤ c → list_from c m ≡ misfit
  unfolding read_many
  list_full h = let z : 8 - c ≡ 0 = omega arith in rw (z, e)

  list-off : c < 8 → read_address m ≡ misfit → list_from c m ≡ misfit
  unfolding read_many
  list-off h f = let z : 8 - c ≡ suc (8 - suc c) = omega arith in rw (z, f, e)

onto-step : (c : ℕ) (L a : List ℕ) (g : Got (List (List ℕ))) → length a ≡ 8 → onto c L (whole (and_then g (λ as' r. got (a ∷ as') r))) ≡ onto (c + 1) (sets L (c * 8) a) (whole g)
unfolding flat
onto-step c L a misfit l = refl
onto-step c L a (got as' []) l =
    let n : c + suc (length as') ≡ c + 1 + length as' = omega arith in
    let z : c * 8 + length a ≡ (c + 1) * 8 = omega arith in
    let e : sets L (c * 8) (a ++ flat as') ≡ sets (sets L (c * 8) a) ((c + 1) * 8) (flat as') = sets-join L (c * 8) a (flat as') ∙ rw z in
    λ i. Some (n i, e i)
onto-step c L a (got as' (x ∷ k)) l = refl

pub list_on : (c : ℕ) (L m : List ℕ) {a k : List ℕ} → c < 8 → read_address m ≡ got a k → length a ≡ 8 → onto c L (list_from c m) ≡ onto (c + 1) (sets L (c * 8) a) (list_from (c + 1) k)
unfolding read_many
list_on c L m {a} {k} h e l =
    let z : 8 - c ≡ suc (8 - (c + 1)) = omega arith in
    rw (z, e) (onto-step c L a (read_many read_address (8 - (c + 1)) k) l)

-- the ways out of the loop
module _ (m : List ℕ) (at c : ℕ) (L k : List ℕ) (inv : onto c L (list_from c (drop at m)) ≡ list_answer (list_from 0 k)) where
  pub way_end : length m ≤ at → Some (c, L) ≡ list_answer (list_from 0 k)
  unfolding flat
  way_end h =
      let z : c ≡ c + 0 = omega arith in
      ap (λ (n : ℕ). Some (n, L)) z ∙ sym (ap (onto c L) (list-end c (drop at m) (drop_of_length-le m h))) ∙ inv

  module _ (h : at < length m) where
    pub way-full : 8 ≤ c → None ≡ list_answer (list_from 0 k)
    way-full l = sym (ap (onto c L) (list_full c (drop-cons m at 0 h) l)) ∙ inv

    pub way-off : c < 8 → read_address (drop at m) ≡ misfit → None ≡ list_answer (list_from 0 k)
    way-off l f = sym (ap (onto c L) (list-off c (drop-cons m at 0 h) l f)) ∙ inv

-- the priority, and the list behind it
pub priority-low : (m : List ℕ) {p : ℕ} {k : List ℕ} → read_priority m ≡ got p k → p ≤ 2
unfolding ◌and◌
priority-low m {p} e = leb-true p 2 (all-at (λ x. leb x 2) priorities p refl (priority-laws.sound {m = m} e).0)

abbrev count : Option (ℕ × List ℕ) → ℕ
count None = 0
count (Some r) = r.0

-- the line's answer, from that of its list
abbrev addressed : ℕ → Option (ℕ × List ℕ) → Option Addresses
addressed p None = None
addressed p (Some r) = Some (record { priority = p; count = r.0; letters = r.1 })

-- the line's reading, from that of its list
abbrev joined : ℕ → Got (List (List ℕ)) → Got Addresses
joined p g = and_then {A = ℕ × List (List ℕ)} (and_then (and_then g (λ as' r. got (p, as') r)) (λ q r. guard (not (is_empty q.1)) (got q r))) (λ q r. got (make_addresses q.0 q.1) r)

module _ (m : List ℕ) where
  pub no-priority : read_priority m ≡ misfit → whole (read_addresses m) ≡ misfit
  unfolding read_addresses
  no-priority e = rw e

  module _ {p : ℕ} {k : List ℕ} (e : read_priority m ≡ got p k) where
    pub no-list : None ≡ list_answer (list_from 0 k) → whole (read_addresses m) ≡ misfit
    unfolding read_addresses
    no-list z = rw e (go (read_many read_address 8 k) z)
      where
        go : (g : Got (List (List ℕ))) → None ≡ list_answer (whole g) → whole (joined p g) ≡ misfit
        go misfit z = refl
        go (got as' []) z = cc
        go (got [] (x ∷ k)) z = refl
        go (got (a ∷ as') (x ∷ k)) z = refl

    module _ {c : ℕ} {l : List ℕ} (q : Some (c, l) ≡ list_answer (list_from 0 k)) where
      pub none-listed : c ≡ 0 → whole (read_addresses m) ≡ misfit
      unfolding read_addresses
      none-listed z = rw e (go (read_many read_address 8 k) q)
        where
          go : (g : Got (List (List ℕ))) → Some (c, l) ≡ list_answer (whole g) → whole (joined p g) ≡ misfit
          go misfit q = refl
          go (got [] []) q = refl
          go (got (a ∷ as') []) q = absurd (omega (arith, ap count q))
          go (got [] (x ∷ k)) q = refl
          go (got (a ∷ as') (x ∷ k)) q = refl

      pub some-listed : (c ≡ 0 → ⊥) → Some (record { priority = p; count = c; letters = l }) ≡ found (whole (read_addresses m))
      unfolding read_addresses
      some-listed z = rw e (go (read_many read_address 8 k) q)
        where
          go : (g : Got (List (List ℕ))) → Some (c, l) ≡ list_answer (whole g) → Some (record { priority = p; count = c; letters = l }) ≡ found (whole (joined p g))
          go misfit q = ap (addressed p) q
          go (got [] []) q = absurd (z (ap count q))
          go (got (a ∷ as') []) q = ap (addressed p) q
          go (got [] (x ∷ k)) q = ap (addressed p) q
          go (got (a ∷ as') (x ∷ k)) q = ap (addressed p) q
