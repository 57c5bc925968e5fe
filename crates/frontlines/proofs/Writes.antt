-- The bytes of each line, part by part.
use Prim.Native.Nat.{ℕ, zero, suc, ◌+◌, ◌-◌, ◌*◌, ◌≤◌, min}
use mathlib.Core.Path.{◌≡◌, refl, sym, ◌∙◌, ap}
use mathlib.Core.List.{List, [], ◌∷◌, ◌++◌, append_assoc, append-nil}
use mathlib.Core.Bool.{Bool, true, false}
use native.Mathlib.Nat.{suc-mul}
use native.Mathlib.Numerals.{add-one}
use native.Mathlib.Omega.{arith}
use lib.Dec.{leb}
use lib.ListN.{length, take, drop, length-drop, drop_of_length-le}
use lib.Seq.{drop-drop, length-sets, take_all}
use borrow.Author.Tests.{leb-true, leb-false}
use Rattle.text.specs.Piece.{gap, bytes, spell, verbatim, canonical, lay_all}
use Rattle.text.specs.Numbers.{digits}
use Rattle.text.specs.Arrays.{slots}
use Rattle.text.specs.Put.{Put, told, farthest}
use Rattle.text.specs.Laws.Put.{canonical-append, told-near, told-far}
use Rattle.frontlines.specs.Addresses.{address_pieces}
use Rattle.frontlines.specs.Filing.{filing_pieces}
use Rattle.frontlines.specs.declared.Heading.{Heading}
use Rattle.frontlines.specs.Heading.{designator_pieces, heading_pieces, serial_pieces}
use Rattle.frontlines.specs.declared.Filing.{Filing}

-- a text that is put leaves the buffer as long as it was
pub put-long : {a r : ℕ} {t b x : List ℕ} → Put a t b x r → length x ≡ length b
put-long {a} {r} {t} {b} p = ap length p.holds ∙ length-sets b a t

told-again : (b : List ℕ) (n : ℕ) → told b n ≡ told b (told b n)
told-again b n = go (leb n (farthest b)) refl
  where
    go : (k : Bool) → leb n (farthest b) ≡ k → told b n ≡ told b (told b n)
    go true e = ap (told b) (sym (told-near b (leb-true n (farthest b) e)))
    go false e =
        let h = leb-false n (farthest b) e in
        let z = told-far b {n = n} (omega arith) in
        rw z (sym (told-near b {n = farthest b} (omega arith)))

told-alike : (b c : List ℕ) (n : ℕ) → length c ≡ length b → told c n ≡ told b n
unfolding told
told-alike b c n e = rw e

-- behind a text, nothing is put yet
pub stays : {a r : ℕ} {t b x : List ℕ} → Put a t b x r → Put r [] x x r
stays {a} {r} {t} {b} {x} p =
    let z : r + 0 ≡ r = omega arith in
    record { place = p.place ∙ told-again b (a + length t) ∙ ap (told b) (sym p.place) ∙ sym (told-alike b x r (put-long p)) ∙ rw z; holds = refl }

-- letters are written as they are
pub verbatim_text : (l : List ℕ) → canonical (verbatim l) ≡ l
verbatim_text [] = refl
verbatim_text (x ∷ l) = ap (λ k. x ∷ k) (verbatim_text l)

-- line 1
pub address-text : (l : List ℕ) → canonical (address_pieces l) ≡ (32 ∷ []) ++ l
address-text l = ap (λ k. 32 ∷ k) (verbatim_text l)

-- eight bytes of the array, as far as it goes
pub slot-within : (f : List ℕ) (n i j : ℕ) → i ≡ min n (length f) → j ≡ min (i + 8) (length f) → take 8 (drop n f) ≡ take (j - i) (drop i f)
slot-within f n i j p q = go (leb n (length f)) refl
  where
    reach : (t : Bool) → leb (n + 8) (length f) ≡ t → n ≤ length f → take 8 (drop n f) ≡ take (j - n) (drop n f)
    reach true e h =
        let k = leb-true (n + 8) (length f) e in
        let z : j - n ≡ 8 = omega arith in
        rw z
    reach false e h =
        let k = leb-false (n + 8) (length f) e in
        let l = length-drop n f in
        take_all 8 (drop n f) (omega arith) ∙ sym (take_all (j - n) (drop n f) (omega arith))

    go : (t : Bool) → leb n (length f) ≡ t → take 8 (drop n f) ≡ take (j - i) (drop i f)
    go true e =
        let h = leb-true n (length f) e in
        let z : i ≡ n = omega arith in
        rw z (reach (leb (n + 8) (length f)) refl h)
    go false e =
        let h = leb-false n (length f) e in
        let z : i ≡ length f = omega arith in
        let w : j - i ≡ 0 = omega arith in
        rw (drop_of_length-le f {i = n} (omega arith), w)

slots-more : (w n : ℕ) (f : List ℕ) → slots w (suc n) f ≡ slots w n f ++ (take w (drop (n * w) f) ∷ [])
unfolding slots
slots-more w zero f = let z : 0 * w ≡ 0 = omega arith in rw z
slots-more w (suc n) f =
    let z : suc n * w ≡ w + n * w = suc-mul n w ∙ omega arith in
    rw z (ap (λ k. take w f ∷ k) (slots-more w n (drop w f)) ∙ rw drop-drop)

all_more : (xs : List (List ℕ)) (a : List ℕ) → lay_all address_pieces (xs ++ (a ∷ [])) ≡ lay_all address_pieces xs ++ address_pieces a
all_more [] a = append-nil (address_pieces a)
all_more (x ∷ xs) a = ap (λ k. address_pieces x ++ k) (all_more xs a) ∙ sym (append_assoc (address_pieces x) (lay_all address_pieces xs) (address_pieces a))

-- one address more
pub address_more : (f : List ℕ) (i : ℕ)
    → canonical (lay_all address_pieces (slots 8 (i + 1) f)) ≡ canonical (lay_all address_pieces (slots 8 i f)) ++ canonical (address_pieces (take 8 (drop (i * 8) f)))
address_more f i =
    let a = take 8 (drop (i * 8) f) in
    rw (add-one, slots-more 8 i f, all_more (slots 8 i f) a) (canonical-append (lay_all address_pieces (slots 8 i f)) (address_pieces a))

-- line 2
pub filing-text : (f : Filing) → canonical (filing_pieces f) ≡ canonical (digits 6 f.time) ++ ((32 ∷ []) ++ f.originator)
unfolding filing_pieces
filing-text f = canonical-append (digits 6 f.time) (gap ∷ verbatim f.originator) ∙ ap (λ k. canonical (digits 6 f.time) ++ (32 ∷ k)) (verbatim_text f.originator)

-- line 3
pub designator-text : (r : List ℕ) (n : ℕ) → canonical (designator_pieces r n) ≡ bytes "SW" ++ (r ++ canonical (digits 4 n))
unfolding spell
designator-text r n = ap (λ k. bytes "SW" ++ k) (canonical-append (verbatim r) (digits 4 n) ∙ ap (λ k. k ++ canonical (digits 4 n)) (verbatim_text r))

pub heading-text : (h : Heading) → canonical (heading_pieces h)
    ≡ canonical (designator_pieces h.title.region h.title.serial) ++ ((32 ∷ []) ++ (h.title.aerodrome ++ ((32 ∷ []) ++ canonical (digits 8 h.time))))
unfolding heading_pieces
heading-text h =
    let a = h.title.aerodrome in
    let d = designator_pieces h.title.region h.title.serial in
    let t = gap ∷ digits 8 h.time in
    canonical-append d (gap ∷ (verbatim a ++ t)) ∙ ap (λ k. canonical d ++ (32 ∷ k)) (canonical-append (verbatim a) t ∙ ap (λ k. k ++ canonical t) (verbatim_text a))

-- line 4
pub serial-text : (n : ℕ) → canonical (serial_pieces n) ≡ bytes "(SNOWTAM " ++ canonical (digits 4 n)
unfolding serial_pieces spell
serial-text n = refl
