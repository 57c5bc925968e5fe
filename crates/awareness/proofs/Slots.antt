-- The taxiways of an item, taken one by one into the array.
use Prim.Native.Nat.{ℕ, zero, suc, ◌+◌, ◌-◌, ◌*◌, ◌<◌, ◌≤◌}
use mathlib.Core.Path.{◌≡◌, refl, ◌∙◌}
use mathlib.Core.List.{List, [], ◌∷◌, ◌++◌, map}
use native.Mathlib.Omega.{arith}
use lib.ListN.{length, replicate, length-append}
use lib.Seq.{sets}
use borrow.Author.Tests.{leb-true}
use Rattle.text.specs.Read.{Got, misfit, got, and_then, one_more, read_as, read_gap, read_many}
use Rattle.text.specs.Arrays.{pad, flat}
use Rattle.text.specs.Laws.Base.{and-2, then-got, carry}
use Rattle.text.specs.Laws.Arrays.{pad-length}
use Rattle.text.specs.Laws.Put.{sets-join, over_zeros}
use Rattle.items.specs.Item.{is_taxiway}
use Rattle.items.specs.ReadItem.{read_taxiway, read_some_taxiways}
use Rattle.awareness.specs.Code.Named.{in_slots}
use Rattle.awareness.proofs.Named.{name-passed}

-- how long taxiways are, and their slots
short-taxiway : (m : List ℕ) {w r : List ℕ} → read_gap read_taxiway m ≡ got w r → length w ≤ 3
unfolding read_taxiway is_taxiway
short-taxiway m {w} e = leb-true (length w) 3 (and-2 _ _ (and-2 _ _ (name-passed m is_taxiway e)))

abbrev in_bytes : List (List ℕ) → List ℕ
in_bytes ws = flat (map (pad 3 0) ws)

slots-fit : (n : ℕ) (m : List ℕ) {ws : List (List ℕ)} {r : List ℕ} → read_some_taxiways n m ≡ got ws r → length (in_bytes ws) ≤ n * 3
unfolding read_many flat
slots-fit zero m e = carry (λ ws _. length (in_bytes ws) ≤ 0) e (omega arith)
slots-fit (suc n) m {ws} {r} e = go (read_gap read_taxiway m) refl e (λ k vs q h. slots-fit n k h)
  where
    go : (g : Got (List ℕ)) → read_gap read_taxiway m ≡ g → one_more g (read_some_taxiways n) m ≡ got ws r
        → ((k : List ℕ) (vs : List (List ℕ)) (q : List ℕ) → read_some_taxiways n k ≡ got vs q → length (in_bytes vs) ≤ n * 3) → length (in_bytes ws) ≤ suc n * 3
    go misfit q f ih = carry (λ ws _. length (in_bytes ws) ≤ suc n * 3) f (omega arith)
    go (got w k) q f ih =
        let t = then-got (read_some_taxiways n k) f in
        let l = pad-length 3 0 w (short-taxiway m q) in
        let h = ih k t.val t.mid t.one in
        carry (λ ws _. length (in_bytes ws) ≤ suc n * 3) t.two (rw (length-append, l) (omega arith))

-- c taxiways are in the array L, and ws come behind them
abbrev onto : ℕ → List ℕ → List (List ℕ) → ℕ × List ℕ
onto c L ws = (c + length ws, sets L (c * 3) (in_bytes ws))

-- what is left of a text, of which c taxiways are taken
abbrev pub read_from : ℕ → List ℕ → List ℕ → Got (ℕ × List ℕ)
read_from c L m = read_as (onto c L) (read_some_taxiways (8 - c)) m

pub from_start : (m : List ℕ) → read_from 0 (replicate 24 0) m ≡ read_as in_slots (read_some_taxiways 8) m
from_start m = go (read_some_taxiways 8 m) refl
  where
    go : (g : Got (List (List ℕ))) → read_some_taxiways 8 m ≡ g → and_then g (λ ws r. got (onto 0 (replicate 24 0) ws) r) ≡ and_then g (λ ws r. got (in_slots ws) r)
    go misfit q = refl
    go (got ws r) q =
        let z : 0 + length ws ≡ length ws = omega arith in
        let e = over_zeros 0 24 (in_bytes ws) (slots-fit 8 m q) in
        λ i. got (z i, e i) r

from_end : (c : ℕ) (L : List ℕ) (k : List ℕ) → got (onto c L []) k ≡ got (c, L) k
unfolding flat
from_end c L k = let z : c + 0 ≡ c = omega arith in rw z

module _ (c : ℕ) (L m : List ℕ) where
  -- none is left, or the next word is none
  pub from-full : 8 ≤ c → read_from c L m ≡ got (c, L) m
  unfolding read_many
  from-full h = let z : 8 - c ≡ 0 = omega arith in rw z (from_end c L m)

  module _ (h : c < 8) where
    pub from-none : read_gap read_taxiway m ≡ misfit → read_from c L m ≡ got (c, L) m
    unfolding read_many
    from-none e = let z : 8 - c ≡ suc (8 - (c + 1)) = omega arith in rw (z, e) (from_end c L m)

    -- one more
    pub from_next : {w k : List ℕ} → read_gap read_taxiway m ≡ got w k → read_from c L m ≡ read_from (c + 1) (sets L (c * 3) (sets (replicate 3 0) 0 w)) k
    unfolding read_many flat
    from_next {w} {k} e =
        let z : 8 - c ≡ suc (8 - (c + 1)) = omega arith in
        let s = short-taxiway m e in
        rw (z, e, over_zeros 0 3 w s) (go (read_some_taxiways (8 - (c + 1)) k))
      where
        go : (g : Got (List (List ℕ))) → and_then (and_then g (λ ws r. got (w ∷ ws) r)) (λ ws r. got (onto c L ws) r) ≡ and_then g (λ ws r. got (onto (c + 1) (sets L (c * 3) (pad 3 0 w)) ws) r)
        go misfit = refl
        go (got ws r) =
            let n : c + suc (length ws) ≡ c + 1 + length ws = omega arith in
            let l = pad-length 3 0 w (short-taxiway m e) in
            let z : c * 3 + length (pad 3 0 w) ≡ (c + 1) * 3 = omega arith in
            let q : sets L (c * 3) (pad 3 0 w ++ in_bytes ws) ≡ sets (sets L (c * 3) (pad 3 0 w)) ((c + 1) * 3) (in_bytes ws) = sets-join L (c * 3) (pad 3 0 w) (in_bytes ws) ∙ rw z in
            λ i. got (n i, q i) r
