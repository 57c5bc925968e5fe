-- The runways of a line, taken one by one into their array.
use Rattle.std.specs.Prelude.{ℕ, zero, suc, ◌+◌, ◌-◌, ◌<◌, ◌≤◌, ◌≡◌, List, [], ◌∷◌, map, Option, None, Some, Bool, true, false, leb, length, drop, get_or, set}
use Rattle.std.proofs.Common.{refl, add-one, drop_of_length-le, ne_eqb, leb-true, leb-false, arith}
use Rattle.std.proofs.lemmas.List.{length-map}
use Rattle.std.proofs.Math.Seq.{sets, drop-cons}
use Rattle.text.specs.Piece.{bytes}
use Rattle.text.specs.Read.{Got, misfit, got, and_then, whole, read_word, read_many}
use Rattle.text.specs.Names.{is_space, read_count}
use Rattle.text.specs.Numbers.{read_digits}
use Rattle.text.specs.declared.Found.{Found}
use Rattle.text.specs.Code.Held.{Held}
use Rattle.text.specs.Laws.Held.{text-off, text-on}
use Rattle.text.specs.Laws.Numbers.{digits-laws}
use Rattle.text.specs.Laws.Many.{many-laws}
use Rattle.text.specs.Laws.Put.{over_zeros}
use Rattle.runway.specs.Runway.{read_runway}
use Rattle.runway.specs.declared.RunwayFound.{RunwayFound}
use Rattle.board.specs.declared.Runway.{Runway}
use Rattle.desktext.specs.declared.RunwayList.{RunwayList}
use Rattle.desktext.specs.Code.Held.{HeldSpace}
use Rattle.board.specs.Board.{places, blank_runway}
use Rattle.desktext.specs.Line.{make_runway, read_spaced, read_owner, read_owned, read_runways, list_of, list_found}
use Rattle.desktext.specs.Laws.Line.{owned-laws, nothing-owned}

-- one space at a place
module _ (m : List ℕ) (i : ℕ) where
  pub space-on : i < length m → get_or m i 0 ≡ 32 → HeldSpace m (read_count is_space 1 (drop i m)) (Some (i + 1))
  unfolding read_count
  space-on h e = record { within = omega arith; says = rw (add-one, drop-cons m i 0 h, e) }

  past : length m ≤ i → read_count is_space 1 (drop i m) ≡ misfit
  unfolding read_count
  past h = rw (drop_of_length-le m h)

  other : i < length m → (get_or m i 0 ≡ 32 → ⊥) → read_count is_space 1 (drop i m) ≡ misfit
  unfolding read_count
  other h e = rw (drop-cons m i 0 h, ne_eqb (get_or m i 0) 32 e)

  pub space-off : (i < length m → get_or m i 0 ≡ 32 → ⊥) → HeldSpace m (read_count is_space 1 (drop i m)) None
  space-off e = record { within = omega arith; says = go (leb (length m) i) refl }
    where
      go : (t : Bool) → leb (length m) i ≡ t → read_count is_space 1 (drop i m) ≡ misfit
      go true q = past (leb-true _ _ q)
      go false q = let h = leb-false _ _ q in other h (e h)

-- a runway and its owner, part by part
module _ (m : List ℕ) (i : ℕ) where
  pub no-space : read_count is_space 1 (drop i m) ≡ misfit → read_owned (drop i m) ≡ misfit
  unfolding read_owned read_spaced
  no-space e = rw e

  module _ (at : ℕ) (e : read_count is_space 1 (drop i m) ≡ got (32 ∷ []) (drop at m)) where
    pub no-runway : read_runway (drop at m) ≡ misfit → read_owned (drop i m) ≡ misfit
    unfolding read_owned read_spaced
    no-runway f = rw (e, f)

    module _ (w : RunwayFound) (f : read_runway (drop at m) ≡ got (w.number, w.side) (drop w.next m)) where
      pub no-slash : Held m (read_word (bytes "/") 0 (drop w.next m)) None → read_owned (drop i m) ≡ misfit
      unfolding read_owned read_spaced read_owner
      no-slash h = rw (e, f, text-off (bytes "/") (drop w.next m) 0 h)

      module _ {r : Found} (h : Held m (read_word (bytes "/") 0 (drop w.next m)) (Some r)) where
        pub no-owner : read_digits 1 (drop r.next m) ≡ misfit → read_owned (drop i m) ≡ misfit
        unfolding read_owned read_spaced read_owner
        no-owner d = rw (e, f, text-on (bytes "/") (drop w.next m) 0 h, d)

        pub owned : {o : ℕ} {k : List ℕ} → read_digits 1 (drop r.next m) ≡ got o k → read_owned (drop i m) ≡ got (make_runway (w.number, w.side), o) k
        unfolding read_owned read_spaced read_owner
        owned d = rw (e, f, text-on (bytes "/") (drop w.next m) 0 h, d)

-- an owner is one digit
pub owner-low : (m : List ℕ) {o : ℕ} {k : List ℕ} → read_digits 1 m ≡ got o k → o < 10
owner-low m q = ((digits-laws 0).sound {m = m} q).0

-- the list l, and behind its runways those of g
abbrev pub onto : RunwayList → Got (List (Runway × ℕ)) → Option RunwayList
onto l misfit = None
onto l (got ps r) =
    Some (record { count = l.count + length ps; runways = sets l.runways l.count (map (λ p. p.0) ps); owners = sets l.owners l.count (map (λ p. p.1) ps) })

-- with one runway more
abbrev pub with_one : RunwayList → Runway × ℕ → RunwayList
with_one l p = record { count = l.count + 1; runways = set l.runways l.count p.0; owners = set l.owners l.count p.1 }

-- the list that comes of a line of which the runways of l are taken
abbrev pub list_with : RunwayList → List ℕ → Option RunwayList
list_with l m = onto l (whole (read_many read_owned (places - l.count) m))

pub list_all : (m : List ℕ) → list_with (list_of []) m ≡ list_found (whole (read_runways m))
list_all m = go (read_runways m) refl
  where
    go : (g : Got (List (Runway × ℕ))) → read_runways m ≡ g → onto (list_of []) (whole g) ≡ list_found (whole g)
    go misfit q = refl
    go (got ps []) q =
        let v = ((many-laws owned-laws (λ k h. tt) places).sound {m = m} q).0 in
        let z : 0 + length ps ≡ length ps = omega arith in
        let n = length-map ps (λ p. p.0) in
        let k = length-map ps (λ p. p.1) in
        let f = v.0 in
        let e = over_zeros blank_runway places (map (λ p. p.0) ps) (omega arith) in
        let o = over_zeros 0 places (map (λ p. p.1) ps) (omega arith) in
        λ i. Some (record { count = z i; runways = e i; owners = o i })
    go (got ps (x ∷ k)) q = refl

onto-step : (l : RunwayList) (p : Runway × ℕ) (g : Got (List (Runway × ℕ)))
    → onto l (whole (and_then g (λ ps r. got (p ∷ ps) r))) ≡ onto (with_one l p) (whole g)
onto-step l p misfit = refl
onto-step l p (got ps []) =
    let n : l.count + suc (length ps) ≡ l.count + 1 + length ps = omega arith in
    let e : sets (set l.runways l.count p.0) (suc l.count) (map (λ w. w.0) ps) ≡ sets (set l.runways l.count p.0) (l.count + 1) (map (λ w. w.0) ps) = rw add-one in
    let o : sets (set l.owners l.count p.1) (suc l.count) (map (λ w. w.1) ps) ≡ sets (set l.owners l.count p.1) (l.count + 1) (map (λ w. w.1) ps) = rw add-one in
    λ i. Some (record { count = n i; runways = e i; owners = o i })
onto-step l p (got ps (x ∷ k)) = refl

module _ (l : RunwayList) (m : List ℕ) where
  -- one more runway
  pub list-more : {p : Runway × ℕ} {k : List ℕ} → l.count < places → read_owned m ≡ got p k → list_with l m ≡ list_with (with_one l p) k
  unfolding read_many
  list-more {p} {k} h e =
      let z : places - l.count ≡ suc (places - (l.count + 1)) = omega arith in
      rw (z, e) (onto-step l p (read_many read_owned (places - (l.count + 1)) k))

-- the line is at its end
pub list-end : (l : RunwayList) → Some l ≡ list_with l []
unfolding read_many
list-end l = go (places - l.count)
  where
    all : Some l ≡ onto l (got [] [])
    all = let z : l.count ≡ l.count + 0 = omega arith in λ i. Some (record { count = z i; runways = l.runways; owners = l.owners })

    go : (n : ℕ) → Some l ≡ onto l (whole (read_many read_owned n []))
    go zero = all
    go (suc n) = rw nothing-owned all

-- something is left, but eight runways are taken, or none stands there
module _ (l : RunwayList) (m : List ℕ) (left : 0 < length m) where
  pub list-full : places ≤ l.count → None ≡ list_with l m
  unfolding read_many
  list-full h = let z : places - l.count ≡ 0 = omega arith in rw z (go m left)
    where
      go : (k : List ℕ) → 0 < length k → None ≡ onto l (whole (got [] k))
      go [] q = absurd (omega arith)
      go (x ∷ k) q = refl

  pub list-off : l.count < places → read_owned m ≡ misfit → None ≡ list_with l m
  unfolding read_many
  list-off h e = let z : places - l.count ≡ suc (places - suc l.count) = omega arith in rw (z, e) (go m left)
    where
      go : (k : List ℕ) → 0 < length k → None ≡ onto l (whole (got [] k))
      go [] q = absurd (omega arith)
      go (x ∷ k) q = refl
