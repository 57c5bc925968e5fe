-- The texts of the items, piece by piece.
use Prim.Native.Nat.{ℕ, zero, suc, ◌+◌, ◌-◌, ◌<◌, ◌≤◌}
use mathlib.Core.Path.{◌≡◌, refl, sym, ◌∙◌, ap}
use mathlib.Core.List.{List, [], ◌∷◌, ◌++◌, append_assoc}
use mathlib.Core.Bool.{cond, Bool, true, false}
use native.Mathlib.Omega.{arith}
use lib.Dec.{eqb}
use lib.ListN.{take, drop}
use borrow.Author.Tests.{eqb-true}
use Rattle.text.specs.Arrays.{slots}
use Rattle.text.specs.Piece.{Piece, byte, gap, canonical, canonical1, spell, verbatim, words, bytes}
use Rattle.text.specs.Laws.Put.{canonical-append}
use Rattle.runway.specs.Runway.{runway_pieces}
use Rattle.items.specs.declared.Item.{Item}
use Rattle.text.specs.Numbers.{number, digits}
use Rattle.items.specs.Item.{name_at_front}
use Rattle.items.specs.ItemText.{edge_name, of_runway, of_taxiways, length_text, bank_text, item_text, item_pieces}
use Rattle.items.specs.Laws.Language.{verbatim-bytes}
use Rattle.wording.specs.Code.Slots.{taxiway_names}

-- a fixed text is written as it stands
pub spell-bytes : (l : List ℕ) → canonical (spell l) ≡ l
unfolding spell
spell-bytes [] = refl
spell-bytes (c ∷ l) = go (eqb c 32) refl (spell-bytes l)
  where
    go : (t : Bool) → eqb c 32 ≡ t → canonical (spell l) ≡ l → canonical1 (cond t gap (byte c)) (canonical (spell l)) ≡ c ∷ l
    go true e h = λ j. sym (eqb-true c 32 e) j ∷ h j
    go false e h = ap (λ k. c ∷ k) h

pub no_edge : (e : ℕ) → (e ≡ 1 → ⊥) → (e ≡ 2 → ⊥) → (e ≡ 3 → ⊥) → canonical (spell (edge_name e)) ≡ []
unfolding spell
no_edge zero p q r = refl
no_edge (suc zero) p q r = absurd (p refl)
no_edge (suc (suc zero)) p q r = absurd (q refl)
no_edge (suc (suc (suc zero))) p q r = absurd (r refl)
no_edge (suc (suc (suc (suc e)))) p q r = refl

-- a text between two fixed ones
pub between : (a : List ℕ) (ps : List Piece) (d : List ℕ) → canonical (spell a ++ (ps ++ spell d)) ≡ a ++ (canonical ps ++ d)
between a ps d = canonical-append (spell a) (ps ++ spell d) ∙ rw (spell-bytes a, canonical-append ps (spell d), spell-bytes d)

pub of-runway : (i : Item) (said : List ℕ) → canonical (of_runway i said) ≡ bytes "RWY " ++ (canonical (runway_pieces i.number i.side) ++ said)
of-runway i said = between (bytes "RWY ") (runway_pieces i.number i.side) said

-- more may be said of a runway
said-on : (i : Item) (a d k : List ℕ) → canonical (of_runway i (a ++ d)) ++ k ≡ canonical (of_runway i a) ++ (d ++ k)
said-on i a d k = rw (of-runway i (a ++ d), of-runway i a) (simp append_assoc)

pub length-bytes : (i : Item) → canonical (length_text i) ≡ canonical (of_runway i (bytes " REDUCED TO")) ++ (bytes " " ++ canonical (number 3 i.amount))
length-bytes i = canonical-append (of_runway i (bytes " REDUCED TO ")) (number 3 i.amount) ∙ said-on i (bytes " REDUCED TO") (bytes " ") _

pub bank-bytes : (i : Item)
    → canonical (bank_text i) ≡ canonical (of_runway i (bytes " SNOWBANK")) ++ (bytes " " ++ (canonical (spell (edge_name i.edge)) ++ (canonical (digits 2 i.amount) ++ bytes " FM CL")))
bank-bytes i =
    canonical-append (of_runway i (bytes " SNOWBANK ")) _
    ∙ said-on i (bytes " SNOWBANK") (bytes " ") _
    ∙ rw (canonical-append (spell (edge_name i.edge)) (digits 2 i.amount ++ words " FM CL"), canonical-append (digits 2 i.amount) (words " FM CL"), spell-bytes (bytes " FM CL"))

-- the names in the slots that are left, of which k are passed: the first of them, and the others
module _ (n k : ℕ) (f : List ℕ) where
  pub names-step : k < n → canonical (taxiway_names (n - k) f) ≡ bytes " " ++ (name_at_front (take 3 f) ++ canonical (taxiway_names (n - (k + 1)) (drop 3 f)))
  unfolding slots
  names-step h =
      let z : n - k ≡ suc (n - (k + 1)) = omega arith in
      rw z (ap (λ k. 32 ∷ k) (canonical-append (verbatim (name_at_front (take 3 f))) _ ∙ rw (verbatim-bytes (name_at_front (take 3 f)))))

  pub names-end : n ≤ k → canonical (taxiway_names (n - k) f) ≡ []
  unfolding slots
  names-end h = let z : n - k ≡ 0 = omega arith in rw z

-- the taxiways of an item
pub of-taxiways : (i : Item) (said : List ℕ) → canonical (of_taxiways i said) ≡ bytes "TWY" ++ (canonical (taxiway_names i.count i.taxiways) ++ said)
of-taxiways i said = between (bytes "TWY") (taxiway_names i.count i.taxiways) said

pub named-apron : (w : List ℕ) → canonical (words "APRON " ++ (verbatim w ++ words " POOR")) ≡ bytes "APRON " ++ (w ++ bytes " POOR")
named-apron w = between (bytes "APRON ") (verbatim w) (bytes " POOR") ∙ rw (verbatim-bytes w)

pub item-bytes : (i : Item) → canonical (item_pieces i) ≡ canonical (item_text i) ++ bytes "."
unfolding item_pieces
item-bytes i = canonical-append (item_text i) (words ".") ∙ rw (spell-bytes (bytes "."))
