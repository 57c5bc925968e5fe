-- The item behind each opening, step by step.
use Rattle.std.specs.Prelude.{ℕ, zero, suc, ◌-◌, ◌≤◌, ◌≡◌, refl, List, [], ◌∷◌, ◌++◌, cond, Bool, true, false, not, eqb, leb, Some, length, drop, replicate}
use Rattle.std.proofs.Common.{◌∙◌, ap, arith, leb-true, eq-eqb}
use Rattle.text.specs.Choice.{◌and◌, all, is_empty}
use Rattle.text.specs.Piece.{bytes}
use Rattle.text.specs.Read.{Got, misfit, got, guard, and_then, read_text, read_as, read_if, read_gap, read_before}
use Rattle.text.specs.Names.{is_name, past, read_name}
use Rattle.text.specs.Arrays.{is_zero}
use Rattle.text.specs.Laws.Base.{and-1, and-2, and_i, and-true, then-got, carry}
use Rattle.text.specs.Laws.Arrays.{pad-length, replicate-zeros}
use Rattle.items.specs.declared.Item.{Item}
use Rattle.items.specs.Item.{letter_j, letter_p, letter_r, on_runway, runway_fits, amount_fits, edge_fits, count_fits, slots_fit, taxiways_fit, name_fits, numbers_fit, valid_item}
use Rattle.items.specs.ReadItem.{runway_item, taxi_sayings, taxi_saying, taxi_item, read_some_taxiways, read_taxiways, read_taxi_form, is_apron, read_apron, apron_item, read_apron_form, openings, opening_name, bare_item, read_bare_form, read_form, read_body, read_item}
use Rattle.awareness.specs.Code.Held.{HeldItem}
use Rattle.awareness.specs.Code.Named.{in_slots}
use Rattle.awareness.specs.declared.ItemFound.{ItemFound}
use Rattle.awareness.proofs.Named.{gap-before, name-passed}

-- behind RWY: an item with neither taxiways nor a name is valid where its numbers fit
pub runway-valid : (p : (ℕ × ℕ) × (ℕ × (ℕ × ℕ))) → valid_item (runway_item p) ≡ numbers_fit (runway_item p)
unfolding valid_item taxiways_fit slots_fit name_fits past ◌and◌
runway-valid p = go (eqb p.1.0 letter_r)
  where
    go : (t : Bool) → (numbers_fit (runway_item p) and (true and all is_zero (cond t (past is_name (replicate 16 0)) (replicate 16 0)))) ≡ numbers_fit (runway_item p)
    go true = and-true _
    go false = and-true _

-- behind TWY: taxiways that are in their slots, and what is said of them
abbrev slot_item : ℕ → ℕ × List ℕ → Item
slot_item l p = record { letter = l; number = 0; side = 0; amount = 0; edge = 0; count = p.0; taxiways = p.1; name = replicate 16 0 }

abbrev behind : List (List ℕ) → List ℕ → Got Item
behind ws k = and_then (and_then (guard (not (is_empty ws)) (got ws k)) (λ a k. and_then (read_name taxi_saying taxi_sayings k) (λ b r. got (a, b) r))) (λ p r. got (taxi_item p) r)

behind-none : (ws : List (List ℕ)) (k : List ℕ) → length ws ≡ 0 → behind ws k ≡ misfit
behind-none [] k z = refl
behind-none (w ∷ ws) k z = absurd (omega arith)

behind-some : (ws : List (List ℕ)) (k : List ℕ) → (length ws ≡ 0 → ⊥) → behind ws k ≡ and_then (read_name taxi_saying taxi_sayings k) (λ l r. got (slot_item l (in_slots ws)) r)
behind-some [] k z = absurd (z refl)
behind-some (w ∷ ws) k z = go (read_name taxi_saying taxi_sayings k)
  where
    go : (g : Got ℕ) → and_then (and_then g (λ b r. got (w ∷ ws, b) r)) (λ p r. got (taxi_item p) r) ≡ and_then g (λ l r. got (slot_item l (in_slots (w ∷ ws))) r)
    go misfit = refl
    go (got l r) = refl

module _ (m : List ℕ) {c : ℕ} {L k : List ℕ} (e : read_as in_slots (read_some_taxiways 8) m ≡ got (c, L) k) where
  pub no-taxiways : c ≡ 0 → read_taxi_form m ≡ misfit
  unfolding read_taxi_form read_taxiways
  no-taxiways z =
      let t = then-got (read_some_taxiways 8 m) e in
      rw t.one (carry (λ (p : ℕ × List ℕ) _. p.0 ≡ 0 → behind t.val t.mid ≡ misfit) t.two (behind-none t.val t.mid) z)

  taxi-form : (c ≡ 0 → ⊥) → read_taxi_form m ≡ and_then (read_name taxi_saying taxi_sayings k) (λ l r. got (slot_item l (c, L)) r)
  unfolding read_taxi_form read_taxiways
  taxi-form z =
      let t = then-got (read_some_taxiways 8 m) e in
      rw t.one (carry (λ (p : ℕ × List ℕ) k. (p.0 ≡ 0 → ⊥) → behind t.val t.mid ≡ and_then (read_name taxi_saying taxi_sayings k) (λ l r. got (slot_item l p) r))
      t.two (behind-some t.val t.mid) z)

  module _ (z : c ≡ 0 → ⊥) where
    pub taxi-unsaid : read_name taxi_saying taxi_sayings k ≡ misfit → read_taxi_form m ≡ misfit
    taxi-unsaid q = taxi-form z ∙ rw q

    pub taxi-said : {l : ℕ} {r : List ℕ} → read_name taxi_saying taxi_sayings k ≡ got l r → read_taxi_form m ≡ got (slot_item l (c, L)) r
    taxi-said q = taxi-form z ∙ rw q

-- behind APRON: a name, POOR
module _ (m : List ℕ) where
  apron-form : read_apron_form m ≡ read_as apron_item (read_before (read_gap read_apron) (bytes " POOR")) m
  unfolding read_apron_form
  apron-form = ap (λ (g : Got (List ℕ)). and_then g (λ a r. got (apron_item a) r)) (gap-before read_apron m (bytes " POOR"))

  pub no-apron : read_gap read_apron m ≡ misfit → read_apron_form m ≡ misfit
  no-apron e = apron-form ∙ rw e

  module _ {w k : List ℕ} (e : read_gap read_apron m ≡ got w k) where
    pub apron-unsaid : read_text (bytes " POOR") k ≡ misfit → read_apron_form m ≡ misfit
    apron-unsaid q = apron-form ∙ rw (e, q)

    pub apron-said : (r : List ℕ) → read_text (bytes " POOR") k ≡ got tt r → read_apron_form m ≡ got (apron_item w) r
    apron-said r q = apron-form ∙ rw (e, q)

    pub short-apron : length w ≤ 16
    unfolding read_apron
    short-apron = leb-true (length w) 16 (and-2 _ _ (name-passed m is_apron e))

-- its item is valid
past-zeros : (w : List ℕ) (n : ℕ) → all is_name w ≡ true → all is_zero (past is_name (w ++ replicate n 0)) ≡ true
unfolding past
past-zeros [] zero h = refl
past-zeros [] (suc n) h = and_i refl (replicate-zeros 0 is_zero refl n)
past-zeros (x ∷ w) n h = rw (and-1 (is_name x) (all is_name w) h) (past-zeros w n (and-2 (is_name x) (all is_name w) h))

pub apron-valid : (w : List ℕ) → is_apron w ≡ true → all is_name w ≡ true → valid_item (apron_item w) ≡ true
unfolding valid_item numbers_fit runway_fits amount_fits edge_fits count_fits on_runway taxiways_fit slots_fit name_fits ◌and◌
apron-valid w h n =
    let l = pad-length 16 0 w (leb-true (length w) 16 (and-2 (leb 1 (length w)) (leb (length w) 16) h)) in
    and_i (eq-eqb _ 16 l) (past-zeros w (16 - length w) n)

-- behind words that are the whole text: their items are valid
pub bare-valid : (valid_item (bare_item letter_j) ≡ true) × (valid_item (bare_item letter_p) ≡ true) × (valid_item (bare_item letter_r) ≡ true)
unfolding valid_item numbers_fit runway_fits amount_fits edge_fits count_fits on_runway taxiways_fit slots_fit name_fits past ◌and◌
bare-valid = (refl, refl, refl)

pub held-bare : {m : List ℕ} (l i : ℕ) {r : ItemFound} → r.item ≡ bare_item l → r.next ≡ i → i ≤ length m → valid_item (bare_item l) ≡ true
    → HeldItem m (read_if valid_item (read_bare_form l) (drop i m)) (Some r)
unfolding read_bare_form
held-bare l i e n h v = record { within = rw n h; says = rw (v, e, n) }

-- an item without its full stop
module _ (m : List ℕ) where
  pub no-opening : read_name opening_name openings m ≡ misfit → read_if valid_item read_body m ≡ misfit
  unfolding read_body
  no-opening e = rw e

  body-opened : {a : ℕ} {k : List ℕ} → read_name opening_name openings m ≡ got a k → read_body m ≡ read_form a k
  unfolding read_body
  body-opened {a} {k} e = rw e (go (read_form a k))
    where
      go : (g : Got Item) → and_then {A = ℕ × Item} (and_then g (λ b r. got (a, b) r)) (λ p r. got p.1 r) ≡ g
      go misfit = refl
      go (got i r) = refl

  pub opened : (a : ℕ) (k : List ℕ) → read_name opening_name openings m ≡ got a k → read_if valid_item read_body m ≡ read_if valid_item (read_form a) k
  opened a k e = rw (body-opened e)

-- a test comes before a text as well as behind it
if-before : {A : Type 0} (p : A → Bool) (f : List ℕ → Got A) (t m : List ℕ) → read_if p (read_before f t) m ≡ read_before (read_if p f) t m
if-before {A} p f t m = go (f m)
  where
    left : (a : A) (g : Got (Unit {0})) → and_then (and_then g (λ _ r. got a r)) (λ a r. guard (p a) (got a r)) ≡ and_then g (λ _ r. guard (p a) (got a r))
    left a misfit = refl
    left a (got u r) = refl

    none : (g : Got (Unit {0})) → and_then {B = A} g (λ _ r. misfit) ≡ misfit
    none misfit = refl
    none (got u r) = refl

    right : (b : Bool) (a : A) (k : List ℕ) → and_then (read_text t k) (λ _ r. guard b (got a r)) ≡ and_then (guard b (got a k)) (λ a k. and_then (read_text t k) (λ _ r. got a r))
    right true a k = refl
    right false a k = none (read_text t k)

    go : (g : Got A) → and_then (and_then g (λ a k. and_then (read_text t k) (λ _ r. got a r))) (λ a r. guard (p a) (got a r)) ≡ and_then (and_then g (λ a r. guard (p a) (got a r))) (λ a k. and_then (read_text t k) (λ _ r. got a r))
    go misfit = refl
    go (got a k) = left a (read_text t k) ∙ right (p a) a k

stop-last : (m : List ℕ) → read_item m ≡ read_before (read_if valid_item read_body) (bytes ".") m
unfolding read_item
stop-last m = if-before valid_item read_body (bytes ".") m

-- what stands before an item's full stop, and the stop
module _ (m : List ℕ) where
  pub no_body : read_if valid_item read_body m ≡ misfit → read_item m ≡ misfit
  no_body e = stop-last m ∙ rw e

  module _ {i : Item} {k : List ℕ} (e : read_if valid_item read_body m ≡ got i k) where
    pub no_stop : read_text (bytes ".") k ≡ misfit → read_item m ≡ misfit
    no_stop q = stop-last m ∙ rw (e, q)

    pub stopped : {r : List ℕ} → read_text (bytes ".") k ≡ got tt r → read_item m ≡ got i r
    stopped q = stop-last m ∙ rw (e, q)
