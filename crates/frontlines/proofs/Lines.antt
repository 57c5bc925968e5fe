-- What the groups of a line decide about the whole line.
use Prim.Native.Nat.{ℕ, ◌-◌, ◌<◌, ◌≤◌, ◌^◌}
use mathlib.Core.Path.{◌≡◌, ◌∙◌, ap}
use mathlib.Core.List.{List, [], ◌∷◌, append-nil}
use mathlib.Core.Bool.{true, false}
use Rattle.std.specs.Prelude.{Option, None, Some}
use native.Mathlib.Omega.{arith}
use lib.Dec.{eqb}
use lib.ListN.{length, drop, replicate, length-drop, length-take}
use lib.Seq.{sets, drop-drop}
use Rattle.text.specs.Piece.{bytes}
use Rattle.text.specs.Read.{Got, misfit, got, and_then, read_text, read_gap, whole, read_word}
use Rattle.text.specs.Names.{in_class, read_count}
use Rattle.text.specs.Code.Held.{Held, given, behind, is_got}
use Rattle.text.specs.declared.Found.{Found}
use Rattle.text.specs.declared.Class.TheVariants.{Letters}
use Rattle.text.specs.Laws.Base.{no-misfit, guard-got}
use Rattle.text.specs.Laws.Held.{text-off, text-on}
use Rattle.text.specs.Laws.Put.{over_zeros}
use Rattle.frontlines.specs.Letters.{read_letters}
use Rattle.frontlines.specs.Filing.{read_filing_time, read_filing}
use Rattle.frontlines.specs.Heading.{read_serial, read_designator, read_time, make_heading, read_heading, read_serial_line}
use Rattle.frontlines.specs.Code.Answers.{region_at, Designated}
use Rattle.frontlines.specs.Laws.Letters.{letters-long}
use Rattle.frontlines.specs.Laws.Heading.{designator-laws, serial-low}
use Rattle.frontlines.proofs.Groups.{letters-stand, letters-off}

-- bytes stored into an array of their length are that array
pub array-is : (n : ℕ) (t : List ℕ) → length t ≡ n → sets (replicate n 0) 0 t ≡ t
array-is n t e =
    let z : n - length t ≡ 0 = omega arith in
    over_zeros 0 n t (omega arith) ∙ rw z (append-nil t)

-- line 2
module _ (m : List ℕ) where
  pub no-time : read_filing_time m ≡ misfit → whole (read_filing m) ≡ misfit
  unfolding read_filing
  no-time e = rw e

  module _ {t : ℕ} {k : List ℕ} (e : read_filing_time m ≡ got t k) where
    pub no-originator : read_gap (read_letters 8) k ≡ misfit → whole (read_filing m) ≡ misfit
    unfolding read_filing
    no-originator f = rw (e, f)

    module _ {o q : List ℕ} (f : read_gap (read_letters 8) k ≡ got o q) where
      pub filing-left : {x : ℕ} {l : List ℕ} → q ≡ x ∷ l → whole (read_filing m) ≡ misfit
      unfolding read_filing
      filing-left z = rw (e, f, z)

      pub filing-whole : q ≡ [] → whole (read_filing m) ≡ got (record { time = t; originator = o }) []
      unfolding read_filing
      filing-whole z = rw (e, f, z)

-- line 3
sw-at : (m : List ℕ) {k : List ℕ} → read_text (bytes "SW") m ≡ got tt k → k ≡ drop 2 m
unfolding read_text
sw-at [] e = no-misfit e
sw-at (x ∷ []) e = no-misfit (guard-got (eqb 83 x) e).1
sw-at (x ∷ y ∷ m) {k} e = let z : got tt m ≡ got tt k = (guard-got (eqb 87 y) (guard-got (eqb 83 x) e).1).1 in let q : k ≡ m = cc in q

module _ (m : List ℕ) {w : Found} (h : Held m (read_word (bytes "SW") 0 m) (Some w)) where
  stands : read_text (bytes "SW") m ≡ got tt (drop 2 m)
  stands = let e = text-on (bytes "SW") m 0 h in e ∙ ap (got tt) (sw-at m e)

  pub no-region : is_got (read_count (in_class Letters) 2 (drop 2 m)) ≡ false → Designated m None
  no-region f = record { within = omega arith; says = rw (stands, letters-off 2 (drop 2 m) f) }

  pub region : is_got (read_count (in_class Letters) 2 (drop 2 m)) ≡ true → (r : Option Found) → Held m (read_serial (drop 4 m)) r → Designated m r
  region f r n = let s = letters-stand 2 (drop 2 m) f in go r n.within (rw (stands, s.is, drop-drop 2 2 m, n.says))
    where
      back : Got ℕ → Got (List ℕ × ℕ)
      back g = and_then g (λ n k. got (region_at m, n) k)

      go : (r : Option Found) → behind (λ f. f.next) r ≤ length m → read_designator m ≡ back (given (λ f. f.value) (λ f. f.next) m r) → Designated m r
      go None w e = record { within = w; says = e }
      go (Some r) w e = record { within = w; says = e }

module _ (m : List ℕ) where
  pub no-designator : read_designator m ≡ misfit → whole (read_heading m) ≡ misfit
  unfolding read_heading
  no-designator e = rw e

  module _ {d : List ℕ × ℕ} {k : List ℕ} (e : read_designator m ≡ got d k) where
    pub no-aerodrome : read_gap (read_letters 4) k ≡ misfit → whole (read_heading m) ≡ misfit
    unfolding read_heading
    no-aerodrome f = rw (e, f)

    module _ {a q : List ℕ} (f : read_gap (read_letters 4) k ≡ got a q) where
      pub no-observed : read_gap read_time q ≡ misfit → whole (read_heading m) ≡ misfit
      unfolding read_heading
      no-observed g = rw (e, f, g)

      module _ {t : ℕ} {l : List ℕ} (g : read_gap read_time q ≡ got t l) where
        pub heading-left : {x : ℕ} {n : List ℕ} → l ≡ x ∷ n → whole (read_heading m) ≡ misfit
        unfolding read_heading
        heading-left z = rw (e, f, g, z)

        pub heading-whole : l ≡ [] → whole (read_heading m) ≡ got (make_heading (d, (a, t))) []
        unfolding read_heading
        heading-whole z = rw (e, f, g, z)

-- what a designator says
module _ {m : List ℕ} {r : Found} (h : Designated m (Some r)) where
  pub region-long : length (region_at m) ≡ 2
  region-long = letters-long 2 (region_at m) (designator-laws.sound {m = m} h.says).0.0

  -- so that its letters lie within the line
  pub region-inside : 4 ≤ length m
  region-inside = omega (arith, region-long, length-take 2 (drop 2 m), length-drop 2 m)

  pub serial-fits : r.value < 10 ^ 4
  serial-fits = serial-low r.value (designator-laws.sound {m = m} h.says).0.1

-- line 4
module _ (m : List ℕ) where
  pub serial-off : Held m (read_word (bytes "(SNOWTAM ") 0 m) None → read_serial_line m ≡ misfit
  unfolding read_serial_line
  serial-off h = rw (text-off (bytes "(SNOWTAM ") m 0 h)

  pub serial-on : {w : Found} → Held m (read_word (bytes "(SNOWTAM ") 0 m) (Some w) → read_serial_line m ≡ read_serial (drop w.next m)
  unfolding read_serial_line
  serial-on h = rw (text-on (bytes "(SNOWTAM ") m 0 h)
