-- What stands behind each opening of an item.
use Rattle.std.specs.Prelude.{ℕ, zero, suc, ◌-◌, ◌^◌, ◌<◌, ◌≤◌, ◌≡◌, refl, List, [], ◌∷◌, ◌++◌, cond, Bool, true, false, not, eqb, leb, length}
use Rattle.std.proofs.Common.{sym, ne_eqb, leb-true, arith}
use Rattle.std.proofs.lemmas.Bool.{lt-leb, not-true}
use Rattle.text.specs.Choice.{◌and◌, all, is_empty, member, head_is}
use Rattle.text.specs.Piece.{Piece, gap, byte1, Typed, step, bytes, spell, verbatim, lay_all}
use Rattle.text.specs.Read.{misfit, skip, read_text, read_gap, read_if}
use Rattle.text.specs.Names.{is_letter, is_name, run, read_run, read_name}
use Rattle.text.specs.Numbers.{is_digit, digits, number}
use Rattle.text.specs.Laws.Base.{Laws, Head, Any, inline, true-false, and-1, and_l, and_r, then-got, guard-got, head-not, not-space}
use Rattle.text.specs.Laws.Combine.{seq-laws, bind-laws, Gap, made-laws, if-laws, loosen, restart, nothing-laws}
use Rattle.text.proofs.Laws.Combine.{gap-laws, before-laws}
use Rattle.text.specs.Laws.Numbers.{number-laws, digits-laws}
use Rattle.text.specs.Laws.Names.{good, word_on, word_next, on-misfit, run-laws, name-inner}
use Rattle.text.proofs.Laws.Names.{table-laws, name-laws}
use Rattle.text.specs.Laws.Many.{Every, every-at, many-laws}
use Rattle.runway.specs.Runway.{is_side, runway_pieces}
use Rattle.runway.specs.Laws.Runway.{runway-laws}
use Rattle.items.specs.declared.Item.{Item}
use Rattle.items.specs.Item.{is_taxiway, name_at_front, letter_i, letter_j, letter_m, letter_p, letter_r}
use Rattle.items.specs.ItemText.{taxiways_of, edge_name}
use Rattle.items.specs.ReadItem.{openings, sayings, saying, taxi_sayings, taxi_saying, edges, read_length, read_bank, read_neither, read_detail, runway_item}
use Rattle.items.specs.ReadItem.{bare_item, taxi_item, apron_item, read_taxiway, read_taxiways, is_apron, read_apron, read_runway_form, read_taxi_form}
use Rattle.items.specs.ReadItem.{read_apron_form, read_bare_form, read_form}
use Rattle.items.specs.Laws.Slots.{Taxiway, name-there, taxiways-there}

abbrev pub Stopped : List ℕ → Type 0
Stopped r = Head (eqb 46) r

-- edge and amount
digit-no-word : (m : List ℕ) → Head is_digit m → word_next m ≡ false
unfolding skip
digit-no-word [] h = refl
digit-no-word (x ∷ m) h =
    let q = leb-true x 57 (and_r (leb 48 x) (leb x 57) h) in
    let p = leb-true 48 x (and_l (leb 48 x) (leb x 57) h) in
    rw (ne_eqb x 32 (omega arith), lt-leb 65 x (omega arith))

edges-good : all (good word_on is_letter edge_name edges) edges ≡ true
unfolding skip inline spell ◌and◌
edges-good = refl

fm-cl : inline (spell (bytes " FM CL")) ≡ true
unfolding inline spell ◌and◌
fm-cl = refl

abbrev pub Detail : Bool → Bool → ℕ × ℕ → Type 0
Detail true b d = (d.1 < 10 ^ 4) × ((0, d.1) ≡ d)
Detail false true d = (member edges d.0 ≡ true) × (d.1 < 10 ^ 2)
Detail false false d = Unit {0} × ((0, 0) ≡ d)

abbrev pub detail_pieces : Bool → Bool → ℕ × ℕ → List Piece
detail_pieces a b d = cond a (gap ∷ number 3 d.1) (cond b (gap ∷ (spell (edge_name d.0) ++ (digits 2 d.1 ++ spell (bytes " FM CL")))) [])

detail-laws : (a b : Bool) → Laws (Detail a b) (detail_pieces a b) (cond a read_length (cond b read_bank read_neither)) Any Stopped
unfolding read_length read_bank read_neither
detail-laws true b = loosen (made-laws (gap-laws (number-laws 2) (not-space is_digit refl)) (λ n. (0, n)) (λ d. d.1) (λ n v. refl)) (λ m h. tt)
    (head-not 46 is_digit refl)
detail-laws false true = loosen (gap-laws (seq-laws (name-laws word_on (λ r. word_next r ≡ false) on-misfit is_letter edge_name edges edges-good)
    (before-laws (digits-laws 1) 32 (bytes "FM CL") fm-cl (λ m h. tt)) digit-no-word) (not-space is_letter refl)) (λ m h. tt) (λ m h. refl)
detail-laws false false = loosen (made-laws (nothing-laws Stopped) (λ _. (0, 0)) (λ _. tt) (λ a v. refl)) (λ m h. tt) (λ m h. h)

-- a runway's item
sayings-good : all (good (λ _. false) (eqb 32) saying sayings) sayings ≡ true
unfolding skip inline spell ◌and◌
sayings-good = refl

abbrev pub RunwayItem : Type 0
RunwayItem = (ℕ × ℕ) × (ℕ × (ℕ × ℕ))

abbrev pub take_runway : Item → RunwayItem
take_runway i = ((i.number, i.side), (i.letter, (i.edge, i.amount)))

abbrev pub WeakRunway : RunwayItem → Type 0
WeakRunway p = ((p.0.0 < 10 ^ 2) × (p.0.1 ≤ 3)) × ((member sayings p.1.0 ≡ true) × Detail (eqb p.1.0 letter_i) (eqb p.1.0 letter_m) p.1.1)

abbrev pub runway_form : RunwayItem → List Piece
runway_form p = gap ∷ (runway_pieces p.0.0 p.0.1 ++ (spell (saying p.1.0) ++ detail_pieces (eqb p.1.0 letter_i) (eqb p.1.0 letter_m) p.1.1))

runway-form : Laws (λ i. WeakRunway (take_runway i) × (runway_item (take_runway i) ≡ i)) (λ i. runway_form (take_runway i)) read_runway_form
    (Gap (Head is_digit)) Stopped
unfolding read_runway_form read_detail
runway-form = made-laws (gap-laws (seq-laws runway-laws
    (bind-laws (table-laws (eqb 32) saying sayings sayings-good) (λ l _. detail-laws (eqb l letter_i) (eqb l letter_m)) (λ m h. tt))
    (head-not 32 is_side refl)) (not-space is_digit refl)) runway_item take_runway (λ p v. refl)

-- names
filled : (w : List ℕ) {m r : List ℕ} → is_empty w ≡ false → all is_name w ≡ true → Typed (verbatim w) m r → Head is_name m
filled [] e h t = true-false e
filled (x ∷ w) e h (step byte1 t) = and-1 (is_name x) (all is_name w) h

abbrev pub Apron : List ℕ → Type 0
Apron w = (all is_name w ≡ true) × (is_apron w ≡ true)

not-empty : (w : List ℕ) → leb 1 (length w) ≡ true → is_empty w ≡ false
not-empty [] h = sym h
not-empty (x ∷ w) h = refl

apron-laws : Laws Apron verbatim read_apron (Head is_name) (λ r. head_is is_name r ≡ false)
unfolding read_apron
apron-laws = restart (if-laws (run-laws is_name name-inner) is_apron) (λ w m r v t h. filled w (not-empty w (and-1 _ _ v.1)) v.0 t)

poor : inline (spell (bytes " POOR")) ≡ true
unfolding inline spell ◌and◌
poor = refl

apron-form : Laws (λ i. Apron (name_at_front i.name) × (apron_item (name_at_front i.name) ≡ i))
    (λ i. gap ∷ (verbatim (name_at_front i.name) ++ spell (bytes " POOR"))) read_apron_form (Gap (Head is_name)) Any
unfolding read_apron_form
apron-form = loosen (made-laws (gap-laws (before-laws apron-laws 32 (bytes "POOR") poor (head-not 32 is_name refl)) (not-space is_name refl)) apron_item
    (λ i. name_at_front i.name)
    (λ w v. name-there w (16 - length w) v.0)) (λ m h. h) (λ m h. refl)

-- taxiways
headed : (w : List ℕ) → head_is is_letter w ≡ true → is_empty w ≡ false
headed [] h = sym h
headed (x ∷ w) h = refl

taxiway-laws : Laws Taxiway verbatim read_taxiway (Head is_name) (λ r. head_is is_name r ≡ false)
unfolding read_taxiway is_taxiway
taxiway-laws = restart (if-laws (run-laws is_name name-inner) is_taxiway) (λ w m r v t h. filled w (headed w (and-1 _ _ v.1)) v.0 t)

gap-not-name : (m : List ℕ) → Gap (Head is_name) m → head_is is_name m ≡ false
gap-not-name m h = head-not 32 is_name refl m h.0

-- a longer word is no taxiway
abbrev Word : List ℕ → Type 0
Word w = (all is_name w ≡ true) × (not (is_empty w) ≡ true)

word_laws : Laws Word verbatim (read_if (λ w. not (is_empty w)) (read_run is_name)) (Head is_name) (λ r. head_is is_name r ≡ false)
word_laws = restart (if-laws (run-laws is_name name-inner) (λ w. not (is_empty w))) (λ w m r v t h. filled w (not-true (is_empty w) v.1) v.0 t)

longer-off : (w m : List ℕ) {r : List ℕ} → Word w → is_taxiway w ≡ false → Typed (gap ∷ verbatim w) m r → head_is is_name r ≡ false
    → read_gap read_taxiway m ≡ misfit
unfolding read_taxiway
longer-off w m {r} v n t h =
    let e = then-got (read_text (32 ∷ []) m) ((gap-laws word_laws (not-space is_name refl)).complete w v t h) in
    let g = guard-got (not (is_empty (run is_name e.mid))) e.two in
    let f = g.1 in
    let q : run is_name e.mid ≡ w = cc in
    rw (e.one, q, n)

taxi-sayings-good : all (good (λ _. false) (eqb 32) taxi_saying taxi_sayings) taxi_sayings ≡ true
unfolding skip inline spell ◌and◌
taxi-sayings-good = refl

abbrev AtSaying : List ℕ → Type 0
AtSaying m = (head_is is_name m ≡ false) × (read_gap read_taxiway m ≡ misfit)

saying-off : (l : ℕ) → member taxi_sayings l ≡ true → {m r : List ℕ} → Typed (spell (taxi_saying l)) m r → head_is is_name r ≡ false
    → read_gap read_taxiway m ≡ misfit
unfolding spell ◌and◌ is_taxiway
saying-off l v {m} {r} = every-at (λ l. Typed (spell (taxi_saying l)) m r → head_is is_name r ≡ false → read_gap read_taxiway m ≡ misfit) taxi_sayings
    (longer-off (bytes "SNOWBANK") m (refl, refl) refl, (longer-off (bytes "POOR") m (refl, refl) refl, tt)) l v

saying-laws : Laws (λ l. member taxi_sayings l ≡ true) (λ l. spell (taxi_saying l)) (read_name taxi_saying taxi_sayings) AtSaying Stopped
saying-laws =
    let F = table-laws (eqb 32) taxi_saying taxi_sayings taxi-sayings-good in
    restart (loosen F (λ m h. h) (λ m h. tt))
    (λ l m r v t h. (head-not 32 is_name refl m (F.starts l v t tt), saying-off l v t (head-not 46 is_name refl r h)))

abbrev pub take_taxi : Item → List (List ℕ) × ℕ
take_taxi i = (taxiways_of i, i.letter)

abbrev pub WeakTaxi : List (List ℕ) × ℕ → Type 0
WeakTaxi p = (((length p.0 ≤ 8) × Every Taxiway p.0) × (not (is_empty p.0) ≡ true)) × (member taxi_sayings p.1 ≡ true)

taxi-form : Laws (λ i. WeakTaxi (take_taxi i) × (taxi_item (take_taxi i) ≡ i))
    (λ i. lay_all (λ w. gap ∷ verbatim w) (taxiways_of i) ++ spell (taxi_saying i.letter)) read_taxi_form (λ m. head_is is_name m ≡ false) Stopped
unfolding read_taxi_form read_taxiways
taxi-form = made-laws (seq-laws (if-laws (many-laws (gap-laws taxiway-laws (not-space is_name refl)) gap-not-name 8) (λ ws. not (is_empty ws))) saying-laws
    (λ m h. h)) taxi_item take_taxi
    (λ p v. λ i. (taxiways-there p.0 v.0.0.1 i, p.1))

-- items of fixed words
bare-form : (l : ℕ) → Laws (λ i. Unit {0} × (bare_item l ≡ i)) (λ i. []) (read_bare_form l) Any Stopped
unfolding read_bare_form
bare-form l = loosen (made-laws (nothing-laws Stopped) (λ _. bare_item l) (λ _. tt) (λ a v. refl)) (λ m h. tt) (λ m h. h)

-- all forms, by the opening's number
abbrev pub Form : ℕ → Item → Type 0
Form zero i = WeakRunway (take_runway i) × (runway_item (take_runway i) ≡ i)
Form (suc zero) i = Unit {0} × (bare_item letter_j ≡ i)
Form (suc (suc zero)) i = WeakTaxi (take_taxi i) × (taxi_item (take_taxi i) ≡ i)
Form (suc (suc (suc zero))) i = Unit {0} × (bare_item letter_p ≡ i)
Form (suc (suc (suc (suc zero)))) i = Apron (name_at_front i.name) × (apron_item (name_at_front i.name) ≡ i)
Form (suc (suc (suc (suc (suc k))))) i = Unit {0} × (bare_item letter_r ≡ i)

abbrev pub form_pieces : ℕ → Item → List Piece
form_pieces zero i = runway_form (take_runway i)
form_pieces (suc zero) i = []
form_pieces (suc (suc zero)) i = lay_all (λ w. gap ∷ verbatim w) (taxiways_of i) ++ spell (taxi_saying i.letter)
form_pieces (suc (suc (suc zero))) i = []
form_pieces (suc (suc (suc (suc zero)))) i = gap ∷ (verbatim (name_at_front i.name) ++ spell (bytes " POOR"))
form_pieces (suc (suc (suc (suc (suc k))))) i = []

pub form-laws : (k : ℕ) → member openings k ≡ true → Laws (Form k) (form_pieces k) (read_form k) Any Stopped
unfolding read_form
form-laws = every-at (λ k. Laws (Form k) (form_pieces k) (read_form k) Any Stopped) openings (
  loosen runway-form (λ m h. tt) (λ m h. h),
  (
    bare-form letter_j,
    (
      loosen taxi-form (λ m h. tt) (λ m h. h),
      (
        bare-form letter_p,
        (
          loosen apron-form (λ m h. tt) (λ m h. tt),
          (bare-form letter_r, tt),
        ),
      ),
    ),
  ),
)
