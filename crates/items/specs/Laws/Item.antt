-- An item is read exactly if it is valid and its text is typed.
use Rattle.std.specs.Prelude.{ℕ, zero, suc, ◌^◌, ◌<◌, ◌≤◌, ◌≡◌, List, [], ◌∷◌, ◌++◌, cond, Bool, not, leb, drop, replicate}
use Rattle.std.proofs.Math.Path.{refl, sym, ap}
use Rattle.std.proofs.Common.{subst, ◌∙◌, append_assoc, arith}
use Rattle.std.proofs.Math.Bool.{true, false}
use Rattle.std.proofs.Math.Dec.{eqb}
use Rattle.std.proofs.Math.ListN.{length, length-map}
use borrow.Author.Tests.{eqb-true, eqb-false, ne_eqb, leb-true, le-leb}
use Rattle.text.specs.Choice.{◌and◌, all, is_empty, member, head_is}
use Rattle.text.specs.Piece.{Piece, bytes, spell}
use Rattle.text.specs.Names.{is_letter, is_name, run}
use Rattle.text.specs.Arrays.{pad, is_zero, slots, past_slots, flat}
use Rattle.text.specs.Laws.Base.{Laws, Head, Any, inline, true-false, and-1, and-2, and_i, below, below_at}
use Rattle.text.specs.Laws.Combine.{bind-laws, made-laws, if-laws, loosen, relay, revalid}
use Rattle.text.proofs.Laws.Combine.{before-laws}
use Rattle.text.specs.Laws.Names.{good}
use Rattle.text.proofs.Laws.Names.{table-laws}
use Rattle.text.specs.Laws.Many.{every-at}
use Rattle.text.specs.Laws.Sizes.{run-size}
use Rattle.text.specs.Laws.Runs.{run_in}
use Rattle.text.specs.Laws.Arrays.{zeros-replicate, slots-back, slots_length}
use Rattle.runway.specs.Runway.{valid_runway}
use Rattle.items.specs.declared.Item.{Item}
use Rattle.items.specs.Item.{letters, letter_i, letter_j, letter_m, letter_n, letter_p, letter_r, on_runway, on_taxiways, name_at_front, valid_slot, runway_fits}
use Rattle.items.specs.Item.{amount_fits, edge_fits, count_fits, slots_fit, taxiways_fit, name_fits, numbers_fit, valid_item}
use Rattle.items.specs.ItemText.{taxiways_of, is_named, item_text, item_pieces}
use Rattle.items.specs.ReadItem.{openings, opening_name, sayings, taxi_sayings, edges, bare_item, read_body, read_item}
use Rattle.items.specs.Laws.Slots.{zero_of, name_back, slots-names, slots-pads}
use Rattle.items.specs.Laws.Forms.{Detail, Apron, Form, form_pieces, form-laws}

-- which opening an item has
abbrev opening_of : Item → ℕ
opening_of i = cond (on_runway i.letter) 0 (cond (eqb i.letter letter_j) 1
    (cond (on_taxiways i.letter) (cond (eqb i.count 0) 3 2) (cond (is_named i) 4 5)))

openings-good : all (good (λ _. false) is_letter opening_name openings) openings ≡ true
unfolding inline spell ◌and◌
openings-good = refl

empty-length : {A : Type 0} (l : List A) → not (is_empty l) ≡ true → eqb (length l) 0 ≡ false
empty-length [] h = true-false (sym h)
empty-length (a ∷ l) h = ne_eqb (suc (length l)) 0 (omega arith)

-- a name at the front is one from the first byte on
named-head : (f : List ℕ) → leb 1 (length (name_at_front f)) ≡ head_is is_name f
unfolding run
named-head [] = refl
named-head (x ∷ f) = go (is_name x)
  where
    go : (t : Bool) → leb 1 (length (cond t (x ∷ run is_name f) [])) ≡ t
    go true = le-leb 1 (suc (length (run is_name f))) (omega arith)
    go false = refl

-- an item of a form has that form's opening
opening-is : (k : ℕ) → member openings k ≡ true → (i : Item) → Form k i → opening_of i ≡ k
unfolding on_runway on_taxiways slots
opening-is = every-at (λ k. (i : Item) → Form k i → opening_of i ≡ k) openings (
  λ i v. rw v.0.1.0,
  (
    λ i v. ap opening_of (sym v.1),
    (
      λ i v.
          let c = ap (λ j. j.count) v.1 in
          let e : eqb i.count 0 ≡ false = subst (λ n. eqb n 0 ≡ false) c (empty-length (taxiways_of i) v.0.0.1) in
          every-at (λ l. ◌≡◌ {A = ℕ} (cond (on_runway l) 0
          (cond (eqb l letter_j) 1 (cond (on_taxiways l) (cond (eqb i.count 0) 3 2) (cond (is_named i) 4 5)))) 2) taxi_sayings (rw e, (rw e, tt))
          i.letter v.0.1,
      (
        λ i v. ap opening_of (sym v.1),
        (
          λ i v. ap (λ j. cond (on_runway j.letter) 0
              (cond (eqb j.letter letter_j) 1 (cond (on_taxiways j.letter) (cond (eqb j.count 0) 3 2) (cond (is_named i) 4 5)))) (sym v.1)
              ∙ rw (sym (named-head i.name) ∙ and-1 _ _ v.0.1),
          (λ i v. ap opening_of (sym v.1), tt),
        ),
      ),
    ),
  ),
)

-- the parts of validity
pub record Valid (i : Item) : Type 0 where
  pub letter : member letters i.letter ≡ true
  pub runway : runway_fits i ≡ true
  pub amount : amount_fits i ≡ true
  pub edge : edge_fits i ≡ true
  pub count : count_fits i ≡ true
  pub taxiways : taxiways_fit i.count i.taxiways ≡ true
  pub name : name_fits i.letter i.name ≡ true

pub valid-parts : (i : Item) → valid_item i ≡ true → Valid i
unfolding valid_item numbers_fit
valid-parts i h =
    let n = and-1 _ _ h in
    let n₂ = and-2 _ _ n in
    let n₃ = and-2 _ _ n₂ in
    let n₄ = and-2 _ _ n₃ in
    let h₂ = and-2 _ _ h in
    record {
      letter = and-1 _ _ n;
      runway = and-1 _ _ n₂;
      amount = and-1 _ _ n₃;
      edge = and-1 _ _ n₄;
      count = and-2 _ _ n₄;
      taxiways = and-1 _ _ h₂;
      name =
          and-2 _ _ h₂;
    }

-- the array of taxiways of a valid item
pub record Array (n : ℕ) (f : List ℕ) : Type 0 where
  pub most : n ≤ 8
  pub size : length f ≡ 24
  pub slots : all valid_slot (slots 3 n f) ≡ true
  pub rest : all is_zero (past_slots 3 n f) ≡ true

slots-parts : (n : ℕ) (f : List ℕ) → slots_fit n f ≡ true → (all valid_slot (slots 3 n f) ≡ true) × (all is_zero (past_slots 3 n f) ≡ true)
unfolding slots_fit slots past_slots
slots-parts zero f h = (refl, h)
slots-parts (suc n) f h = let r = slots-parts n (drop 3 f) (and-2 _ _ (and-2 _ _ h)) in (and_i (and-1 _ _ h) r.0, r.1)

pub array : (n : ℕ) (f : List ℕ) → taxiways_fit n f ≡ true → Array n f
unfolding taxiways_fit
array n f h =
    let h₂ = and-2 _ _ h in
    let s = slots-parts n f (and-2 _ _ h₂) in
    record { most = leb-true n 8 (and-1 _ _ h); size = eqb-true (length f) 24 (and-1 _ _ h₂); slots = s.0; rest = s.1 }

-- fields that are not used
no-runway : (i : Item) → Valid i → on_runway i.letter ≡ false → (i.number ≡ 0) × (i.side ≡ 0)
unfolding runway_fits
no-runway i v e = let h = rw e at v.runway in (eqb-true i.number 0 (and-1 _ _ h), eqb-true i.side 0 (and-2 _ _ h))

no-amount : (i : Item) → Valid i → eqb i.letter letter_i ≡ false → eqb i.letter letter_m ≡ false → (i.amount ≡ 0) × (i.edge ≡ 0)
unfolding amount_fits edge_fits
no-amount i v e f = (eqb-true i.amount 0 (rw (e, f) at v.amount), eqb-true i.edge 0 (rw f at v.edge))

-- a letter that a test does not hold of is none that it holds of
apart : (p : ℕ → Bool) (k l : ℕ) → p k ≡ true → p l ≡ false → eqb l k ≡ false
apart p k l h g = ne_eqb l k (λ e. true-false (sym h ∙ (ap p (sym e) ∙ g)))

no-count : (i : Item) → Valid i → on_taxiways i.letter ≡ false → i.count ≡ 0
unfolding count_fits on_taxiways
no-count i v e = eqb-true i.count 0 (rw (apart on_taxiways letter_n i.letter refl e, apart on_taxiways letter_p i.letter refl e) at v.count)

no-taxiways : (i : Item) → Valid i → i.count ≡ 0 → i.taxiways ≡ replicate 24 0
unfolding past_slots
no-taxiways i v e =
    let a = array i.count i.taxiways v.taxiways in
    zeros-replicate 0 is_zero zero_of i.taxiways (subst (λ c. all is_zero (past_slots 3 c i.taxiways) ≡ true) e a.rest)
    ∙ ap (λ n. replicate n 0) a.size

pub name-long : (l : ℕ) (f : List ℕ) → name_fits l f ≡ true → length f ≡ 16
unfolding name_fits
name-long l f h = eqb-true (length f) 16 (and-1 _ _ h)

name-whole : (i : Item) → Valid i → i.letter ≡ letter_r → pad 16 0 (name_at_front i.name) ≡ i.name
unfolding name_fits
name-whole i v e = name_back 16 i.name (name-long i.letter i.name v.name) (rw e at (and-2 _ _ v.name))

no_name : (i : Item) → Valid i → eqb i.letter letter_r ≡ false → i.name ≡ replicate 16 0
unfolding name_fits
no_name i v e = zeros-replicate 0 is_zero zero_of i.name (rw e at (and-2 _ _ v.name)) ∙ ap (λ n. replicate n 0) (name-long i.letter i.name v.name)

nameless : (f : List ℕ) → head_is is_name f ≡ false → name_at_front f ≡ []
unfolding run
nameless [] h = refl
nameless (x ∷ f) h = rw h

all-aprons : (i : Item) → Valid i → i.letter ≡ letter_r → is_named i ≡ false → i.name ≡ replicate 16 0
all-aprons i v e n = sym (name-whole i v e) ∙ ap (pad 16 0) (nameless i.name n)

apron-named : (i : Item) → Valid i → is_named i ≡ true → Apron (name_at_front i.name)
apron-named i v n =
    let k = run-size is_name i.name in
    let l = name-long i.letter i.name v.name in
    (run_in is_name i.name, and_i (named-head i.name ∙ n) (le-leb (length (name_at_front i.name)) 16 (omega arith)))

-- letters apart
runway-letters : (l : ℕ) → on_runway l ≡ true → (on_taxiways l ≡ false) × (eqb l letter_r ≡ false)
unfolding on_runway on_taxiways
runway-letters = every-at (λ l. (on_taxiways l ≡ false) × (eqb l letter_r ≡ false)) sayings
    ((refl, refl), ((refl, refl), ((refl, refl), ((refl, refl), ((refl, refl), tt)))))

taxi-letters : (l : ℕ) → on_taxiways l ≡ true → (eqb l letter_i ≡ false) × (eqb l letter_m ≡ false) × (eqb l letter_r ≡ false)
unfolding on_taxiways
taxi-letters = every-at (λ l. (eqb l letter_i ≡ false) × (eqb l letter_m ≡ false) × (eqb l letter_r ≡ false)) taxi_sayings
    ((refl, refl, refl), ((refl, refl, refl), tt))

last_letter : (l : ℕ) → member letters l ≡ true → on_runway l ≡ false → eqb l letter_j ≡ false → on_taxiways l ≡ false → l ≡ letter_r
unfolding on_runway on_taxiways
last_letter = every-at (λ l. on_runway l ≡ false → eqb l letter_j ≡ false → on_taxiways l ≡ false → l ≡ letter_r) letters (
  (λ a b c. true-false a),
  (
    (λ a b c. true-false b),
    (
      (λ a b c. true-false a),
      (
        (λ a b c. true-false a),
        ((λ a b c. true-false a), ((λ a b c. true-false c), ((λ a b c. true-false a), ((λ a b c. true-false c), ((λ a b c. refl), tt))))),
      ),
    ),
  ),
)

-- the edge and the amount of a runway's item
edges-all : below (λ e. cond (leb 1 e) (member edges e) true) 4 ≡ true
unfolding below ◌and◌
edges-all = refl

detail-of : (l edge amount : ℕ) (a b : Bool) → eqb l letter_i ≡ a → eqb l letter_m ≡ b
    → cond a (leb 100 amount and leb amount 9999) (cond b (leb 1 amount and leb amount 99) (eqb amount 0)) ≡ true
    → cond b (leb 1 edge and leb edge 3) (eqb edge 0) ≡ true → Detail a b (edge, amount)
detail-of l edge amount true true p q h k = let x = eqb-true l letter_i p in let y = eqb-true l letter_m q in absurd (omega arith)
detail-of l edge amount true false p q h k = let x = leb-true amount 9999 (and-2 _ _ h) in let z = eqb-true edge 0 k in (omega arith, λ i. (sym z i, amount))
detail-of l edge amount false true p q h k =
    let x = leb-true amount 99 (and-2 _ _ h) in
    let y = leb-true edge 3 (and-2 _ _ k) in
    let z = below_at (λ e. cond (leb 1 e) (member edges e) true) 4 edges-all edge (omega arith) in
    (rw (and-1 _ _ k) at z, omega arith)
detail-of l edge amount false false p q h k = let x = eqb-true amount 0 h in let z = eqb-true edge 0 k in (tt, λ i. (sym z i, sym x i))

number-low : (n : ℕ) (b : Bool) → leb n (cond b 36 18) ≡ true → n < 10 ^ 2
number-low n true h = let k = leb-true n 36 h in omega arith
number-low n false h = let k = leb-true n 18 h in omega arith

length-filled : {A : Type 0} (l : List A) (n : ℕ) → length l ≡ n → eqb n 0 ≡ false → not (is_empty l) ≡ true
length-filled [] n e h = let k = eqb-false n 0 h in absurd (k (sym e))
length-filled (a ∷ l) n e h = refl

abbrev Opened : Item → Type 0
Opened i = (member openings (opening_of i) ≡ true) × Form (opening_of i) i

opened : (i : Item) (k : ℕ) → opening_of i ≡ k → (member openings k ≡ true) × Form k i → Opened i
opened i k e v = subst (λ n. (member openings n ≡ true) × Form n i) (sym e) v

bare-is : (i : Item) (l : ℕ) → Valid i → i.letter ≡ l → on_runway i.letter ≡ false → eqb i.letter letter_i ≡ false → eqb i.letter letter_m ≡ false
    → i.count ≡ 0 → i.name ≡ replicate 16 0 → bare_item l ≡ i
bare-is i l v e r a b c w =
    let x = no-runway i v r in
    let y = no-amount i v a b in
    let z = no-taxiways i v c in
    sym (λ j. record { letter = e j; number = x.0 j; side = x.1 j; amount = y.0 j; edge = y.1 j; count = c j; taxiways = z j; name = w j })

-- of P with no taxiways
not-N : (i : Item) → Valid i → on_taxiways i.letter ≡ true → i.count ≡ 0 → i.letter ≡ letter_p
unfolding count_fits on_taxiways
not-N i v r c = every-at (λ l. cond (eqb l letter_n) (leb 1 0) true ≡ true → l ≡ letter_p) taxi_sayings ((λ h. true-false (sym h)), ((λ h. refl), tt))
    i.letter r (go (eqb i.letter letter_n) refl (rw c at v.count))
  where
    go : (t : Bool) → eqb i.letter letter_n ≡ t → cond t (leb 1 0) (cond (eqb i.letter letter_p) true (eqb 0 0)) ≡ true → cond t (leb 1 0) true ≡ true
    go true e h = h
    go false e h = refl

valid-opened : (i : Item) → Valid i → Opened i
unfolding runway_fits amount_fits edge_fits valid_runway
valid-opened i v = go (on_runway i.letter) refl (eqb i.letter letter_j) refl (on_taxiways i.letter) refl (eqb i.count 0) refl (is_named i) refl
  where
    go : (a : Bool) → on_runway i.letter ≡ a → (b : Bool) → eqb i.letter letter_j ≡ b → (c : Bool) → on_taxiways i.letter ≡ c → (d : Bool)
        → eqb i.count 0 ≡ d → (e : Bool) → is_named i ≡ e → Opened i
    go true p b q c r d s e t =
        let h = rw p at v.runway in
        let k = runway-letters i.letter p in
        let n = no-count i v k.0 in
        let z = no-taxiways i v n in
        let w = no_name i v k.1 in
        opened i 0 (rw p) (
          refl,
          (
            (
              (number-low i.number (eqb i.letter letter_i) (and-1 _ _ (and-2 _ _ h)), leb-true i.side 3 (and-2 _ _ (and-2 _ _ h))),
              (
                unfold on_runway in p,
                detail-of i.letter i.edge i.amount (eqb i.letter letter_i) (eqb i.letter letter_m) refl refl v.amount
                    v.edge,
              ),
            ),
            λ j. record {
              letter = i.letter;
              number = i.number;
              side = i.side;
              amount = i.amount;
              edge = i.edge;
              count = sym n j;
              taxiways = sym z j;
              name = sym w j;
            },
          ),
        )
    go false p true q c r d s e t =
        let l = eqb-true i.letter letter_j q in
        let n = no-count i v (ap on_taxiways l ∙ unfold on_taxiways in refl) in
        opened i 1 (rw (p, q)) (
          refl,
          (
            tt,
            bare-is i letter_j v l p (ap (λ x. eqb x letter_i) l) (ap (λ x. eqb x letter_m) l) n
                (no_name i v (ap (λ x. eqb x letter_r) l)),
          ),
        )
    go false p false q true r true s e t =
        let k = taxi-letters i.letter r in
        let c = eqb-true i.count 0 s in
        opened i 3 (rw (p, q, r, s)) (refl, (tt, bare-is i letter_p v (not-N i v r c) p k.0 k.1 c (no_name i v k.2)))
    go false p false q true r false s e t =
        let k = taxi-letters i.letter r in
        let a = array i.count i.taxiways v.taxiways in
        let ss = slots 3 i.count i.taxiways in
        let len : length (taxiways_of i) ≡ i.count = length-map ss name_at_front ∙ slots_length 3 i.count i.taxiways in
        let x = no-runway i v p in
        let y = no-amount i v k.0 k.1 in
        let f = ap (λ w. pad 24 0 (flat w)) (slots-pads ss a.slots) ∙ slots-back 3 i.count 24 i.taxiways a.size a.rest in
        let w = no_name i v k.2 in
        opened i 2 (rw (p, q, r, s)) (
          refl,
          (
            (((subst (λ c. c ≤ 8) (sym len) a.most, slots-names ss a.slots), length-filled (taxiways_of i) i.count len s), unfold on_taxiways in r),
            λ j. record {
              letter = i.letter;
              number = sym x.0 j;
              side = sym x.1 j;
              amount = sym y.0 j;
              edge = sym y.1 j;
              count = len j;
              taxiways = f j;
              name = sym w j;
            },
          ),
        )
    go false p false q false r d s false t =
        let l = last_letter i.letter v.letter p q r in
        opened i 5 (rw (p, q, r, t)) (
          refl,
          (
            tt,
            bare-is i letter_r v l p (ap (λ x. eqb x letter_i) l) (ap (λ x. eqb x letter_m) l) (no-count i v r)
                (all-aprons i v l t),
          ),
        )
    go false p false q false r d s true t =
        let l = last_letter i.letter v.letter p q r in
        let x = no-runway i v p in
        let y = no-amount i v (ap (λ x. eqb x letter_i) l) (ap (λ x. eqb x letter_m) l) in
        let n = no-count i v r in
        let z = no-taxiways i v n in
        let w = name-whole i v l in
        opened i 4 (rw (p, q, r, t)) (
          refl,
          (
            apron-named i v t,
            λ j. record {
              letter = sym l j;
              number = sym x.0 j;
              side = sym x.1 j;
              amount = sym y.0 j;
              edge = sym y.1 j;
              count = sym n j;
              taxiways = sym z j;
              name = w j;
            },
          ),
        )

-- the form's text is the item's
abbrev form_text : ℕ → Item → List Piece
form_text k i = spell (opening_name k) ++ form_pieces k i

text-is : (i : Item) → Valid i → form_text (opening_of i) i ≡ item_text i
unfolding spell item_text
text-is i v = go (on_runway i.letter) refl (eqb i.letter letter_j) refl (on_taxiways i.letter) refl (eqb i.count 0) refl (is_named i) refl
  where
    with' : (k : ℕ) → opening_of i ≡ k → form_text k i ≡ item_text i → form_text (opening_of i) i ≡ item_text i
    with' k e h = ap (λ n. form_text n i) e ∙ h

    go : (a : Bool) → on_runway i.letter ≡ a → (b : Bool) → eqb i.letter letter_j ≡ b → (c : Bool) → on_taxiways i.letter ≡ c → (d : Bool)
        → eqb i.count 0 ≡ d → (e : Bool) → is_named i ≡ e → form_text (opening_of i) i ≡ item_text i
    go true p b q c r d s e t = with' 0 (rw p) (every-at (λ l. i.letter ≡ l → form_text 0 i ≡ item_text i) sayings
        ((λ x. rw x (simp append_assoc)), ((λ x. rw x), ((λ x. rw x), ((λ x. rw x (simp append_assoc)), ((λ x. rw x), tt))))) i.letter
        (unfold on_runway in p) refl)
    go false p true q c r d s e t = let l = eqb-true i.letter letter_j q in with' 1 (rw (p, q)) (rw l)
    go false p false q true r true s e t = let l = not-N i v r (eqb-true i.count 0 s) in with' 3 (rw (p, q, r, s)) (rw (l, s))
    go false p false q true r false s e t = with' 2 (rw (p, q, r, s)) (every-at (λ l. i.letter ≡ l → form_text 2 i ≡ item_text i) taxi_sayings
        ((λ x. rw x), ((λ x. rw (x, s)), tt)) i.letter (unfold on_taxiways in r) refl)
    go false p false q false r d s false t = let l = last_letter i.letter v.letter p q r in with' 5 (rw (p, q, r, t)) (rw (l, t))
    go false p false q false r d s true t = let l = last_letter i.letter v.letter p q r in with' 4 (rw (p, q, r, t)) (rw (l, t))

stop-inline : inline (spell (bytes ".")) ≡ true
unfolding inline spell ◌and◌
stop-inline = refl

body-laws : Laws Opened (λ i. form_text (opening_of i) i) read_body (Head is_letter) (Head (eqb 46))
unfolding read_body
body-laws = revalid (made-laws (bind-laws (table-laws is_letter opening_name openings openings-good) form-laws (λ m h. tt)) (λ p. p.1) (λ i. (opening_of i, i))
    (λ p v. λ j. (opening-is p.0 v.0 p.1 v.1 j, p.1))) Opened (λ i h. h.0) (λ i h. (h, refl))

pub item-laws : Laws (λ i. valid_item i ≡ true) item_pieces read_item (Head is_letter) Any
unfolding read_item item_pieces
item-laws = relay (revalid (if-laws (loosen (before-laws body-laws 46 [] stop-inline (λ m h. h)) (λ m h. h) (λ m h. refl)) valid_item)
    (λ i. valid_item i ≡ true) (λ i h. h.1) (λ i h. (valid-opened i (valid-parts i h), h)))
    item_pieces (λ i h. ap (λ ps. ps ++ spell (bytes ".")) (text-is i (valid-parts i h)))
