-- Each group is read exactly where its numbers can be shown and its text is typed.
use Rattle.std.specs.Prelude.{ℕ, ◌≤◌, ◌≡◌, refl, List, [], ◌∷◌, cond, Bool, true, false, ◌||◌, eqb, leb}
use Rattle.std.proofs.Common.{sym, ◌∙◌, subst, lit≤, eqb-true, ne_eqb, leb-true, le-leb, arith}
use Rattle.std.proofs.lemmas.Bool.{eqb-false}
use Rattle.text.specs.Choice.{◌and◌, head_is, all, member}
use Rattle.text.specs.Piece.{Piece, Typed, spell, bytes, words}
use Rattle.text.specs.Read.{Got, misfit, got, skip, read_text, read_word}
use Rattle.text.specs.Numbers.{is_digit, number}
use Rattle.text.specs.Names.{is_letter, is_name, read_name}
use Rattle.text.specs.Laws.Base.{Laws, Head, Any, inline, true-false, head-not, not-space, head-wide, space_next, below, below_at}
use Rattle.text.proofs.Laws.Base.{text-laws}
use Rattle.text.specs.Laws.Combine.{seq-laws, as-laws, Gap, if-laws, or-laws, relay, revalid, loosen}
use Rattle.text.proofs.Laws.Combine.{after-laws, gap-laws}
use Rattle.text.specs.Laws.Numbers.{digits-laws, number-laws}
use Rattle.text.specs.Laws.Names.{good, word_on, word_next, on-misfit, no_word, all-at}
use Rattle.text.proofs.Laws.Names.{name-laws, spell-head}
use Rattle.surface.specs.Descriptions.{dry, description_name}
use Rattle.thirds.specs.Groups.{measure_pieces, read_measure, read_coverage, description_pieces, description_order}
use Rattle.thirds.specs.Groups.{read_description, third_pieces, read_third, highest, Three, joined, read_three, group_pieces, read_group}
use Rattle.thirds.specs.declared.Group.{Group}
use Rattle.thirds.specs.declared.Group.TheVariants.{Codes, Coverages, Depths, Descriptions}

-- each of three numbers can be shown in a group
abbrev pub Shown : Group → Three → Type 0
Shown g t = (t.0 ≤ highest g) × (t.1 ≤ highest g) × (t.2 ≤ highest g)

slash-inline : inline (words "/") ≡ true
unfolding inline spell ◌and◌
slash-inline = refl

three-laws : {v : ℕ → Type 0} {l : ℕ → List Piece} {rd : List ℕ → Got ℕ} {s f : List ℕ → Type 0}
    → Laws v l rd s f → ((m : List ℕ) → Head (eqb 47) m → f m) → Laws (λ t. v t.0 × v t.1 × v t.2) (joined l) (read_three rd) s f
unfolding spell
three-laws {v} F meet =
    let S = after-laws F 47 [] slash-inline (λ m h. refl) in
    as-laws (seq-laws F (seq-laws S S meet) meet) (λ t. v t.0 × v t.1 × v t.2) (λ p. (p.0, p.1.0, p.1.1)) (λ t. (t.0, (t.1, t.2)))
    (λ p h. ((h.0, h.1.0, h.1.1), refl))
    (λ t h. ((h.0, (h.1, h.2)), refl))

-- a gap, and then the thirds of a group
group_laws : (g : Group) {s f : List ℕ → Type 0} → Laws (λ x. x ≤ highest g) (third_pieces g) (read_third g) s f
    → ((m : List ℕ) → Head (eqb 47) m → f m) → ((m : List ℕ) → s m → space_next m ≡ false) → Laws (Shown g) (group_pieces g) (read_group g) (Gap s) f
unfolding read_group
group_laws g F meet starts = gap-laws (three-laws F meet) starts

-- codes
code_laws : Laws (λ x. x ≤ highest Codes) (third_pieces Codes) (read_third Codes) (Head is_digit) Any
unfolding third_pieces read_third highest
code_laws = revalid (digits-laws 0) (λ x. x ≤ 9) (λ x h. omega arith) (λ x h. omega arith)

pub codes-laws : Laws (Shown Codes) (group_pieces Codes) (read_group Codes) (Gap (Head is_digit)) Any
codes-laws = group_laws Codes code_laws (λ m h. tt) (not-space is_digit refl)

-- measures: NR, or a number that is not 0
NR-inline : inline (words "NR") ≡ true
unfolding inline spell ◌and◌
NR-inline = refl

or-1 : (a b : Bool) → a ≡ true → (a || b) ≡ true
or-1 a b h = rw h

or-2 : (a b : Bool) → b ≡ true → (a || b) ≡ true
or-2 true b h = refl
or-2 false b h = h

digit-name : (m : List ℕ) → Head is_digit m → Head is_name m
digit-name = head-wide is_digit is_name (λ x h. or-1 (is_digit x) (is_letter x) h)

pub letter-name : (m : List ℕ) → Head is_letter m → Head is_name m
letter-name = head-wide is_letter is_name (λ x h. or-2 (is_digit x) (is_letter x) h)

N-name : (m : List ℕ) → Head (eqb 78) m → Head is_name m
N-name = head-wide (eqb 78) is_name (λ x h. subst (λ y. is_name y ≡ true) (eqb-true 78 x h) refl)

abbrev NoDigit : List ℕ → Type 0
NoDigit r = head_is is_digit r ≡ false

measure-laws : Laws (λ x. x ≤ 999) measure_pieces read_measure (Head is_name) NoDigit
unfolding read_text measure_pieces read_measure
measure-laws = or-laws (λ x. eqb x 0)
    (loosen (relay (as-laws (text-laws 78 (82 ∷ []) NR-inline) (λ x. (x ≤ 999) × (eqb x 0 ≡ true)) (λ _. 0) (λ _. tt)
    (λ a h. ((lit≤ tt, refl), refl)) (λ x h. (tt, sym (eqb-true x 0 h.1)))) measure_pieces (λ x v. rw v.1)) N-name (λ m h. refl))
    (loosen (relay (revalid (if-laws (number-laws 1) (λ x. leb 1 x)) (λ x. (x ≤ 999) × (eqb x 0 ≡ false))
    (λ x h. let k = leb-true 1 x h.1 in (omega arith, ne_eqb x 0 (omega arith)))
    (λ x h. let k = eqb-false x 0 h.1 in (omega arith, le-leb 1 x (omega arith)))) measure_pieces (λ x v. rw v.1)) digit-name (λ m h. h))
    (λ x m r v c t h. miss m ((number-laws 1).starts x (omega arith) (subst (λ b. Typed (cond b (words "NR") (number 2 x)) m r) c t) h))
  where
    miss : (m : List ℕ) → Head is_digit m → read_word (bytes "NR") 0 m ≡ misfit
    miss [] h = refl
    miss (x ∷ m) h = rw (ne_eqb 78 x (λ q. true-false (sym h ∙ rw (← q) refl)))

name-not-space : (m : List ℕ) → Head is_name m → space_next m ≡ false
name-not-space = not-space is_name refl

coverage-laws : Laws (λ x. x ≤ highest Coverages) (third_pieces Coverages) (read_third Coverages) (Head is_name) NoDigit
unfolding third_pieces read_third highest read_coverage
coverage-laws = revalid (if-laws measure-laws (λ x. leb x 100)) (λ x. x ≤ 100) (λ x h. leb-true x 100 h.1) (λ x h. (omega arith, le-leb x 100 h))

pub coverages-laws : Laws (Shown Coverages) (group_pieces Coverages) (read_group Coverages) (Gap (Head is_name)) NoDigit
coverages-laws = group_laws Coverages coverage-laws (head-not 47 is_digit refl) name-not-space

depth-laws : Laws (λ x. x ≤ highest Depths) (third_pieces Depths) (read_third Depths) (Head is_name) NoDigit
unfolding third_pieces read_third highest
depth-laws = measure-laws

pub depths-laws : Laws (Shown Depths) (group_pieces Depths) (read_group Depths) (Gap (Head is_name)) NoDigit
depths-laws = group_laws Depths depth-laws (head-not 47 is_digit refl) name-not-space

-- descriptions: none is read where a longer one stands
descriptions-good : all (good word_on is_letter description_name description_order) description_order ≡ true
unfolding skip inline spell ◌and◌
descriptions-good = refl

-- NR and the fifteen, and no other number, are in the order
ordered : below (λ d. member description_order d) 16 ≡ true
unfolding below ◌and◌
ordered = refl

in_order : (d : ℕ) → d ≤ dry → member description_order d ≡ true
in_order d h = below_at (λ d. member description_order d) 16 ordered d (omega arith)

no_more : (d : ℕ) → member description_order d ≡ true → d ≤ dry
unfolding ◌and◌
no_more d h = leb-true d dry (all-at (λ d. leb d dry) description_order d refl h)

names : Laws (λ d. member description_order d ≡ true) description_pieces (read_name description_name description_order) (Head is_letter) (λ r. word_next r ≡ false)
names = name-laws word_on (λ r. word_next r ≡ false) on-misfit is_letter description_name description_order descriptions-good

description-laws : Laws (λ x. x ≤ highest Descriptions) (third_pieces Descriptions) (read_third Descriptions) (Head is_letter) (λ r. word_next r ≡ false)
unfolding third_pieces read_third highest read_description
description-laws = revalid names (λ d. d ≤ dry) no_more in_order

heads-good : all (λ d. head_is is_letter (description_name d)) description_order ≡ true
unfolding ◌and◌
heads-good = refl

pub description-head : (m : List ℕ) {d : ℕ} {r : List ℕ} → read_description m ≡ got d r → Head is_letter m
unfolding read_description
description-head m {d} e =
    let x = names.sound {m = m} e in
    spell-head is_letter (description_name d) (all-at (λ d. head_is is_letter (description_name d)) description_order d heads-good x.0) x.1

pub descriptions-laws : Laws (Shown Descriptions) (group_pieces Descriptions) (read_group Descriptions) (Gap (Head is_letter)) (λ r. word_next r ≡ false)
descriptions-laws = group_laws Descriptions description-laws (no_word 47 refl refl) (not-space is_letter refl)
