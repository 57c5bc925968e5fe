-- The loop over a row's parts, and its two ways out.
use Rattle.std.specs.Prelude.{◌≡◌, ℕ, ◌+◌, ◌≤◌, List, [], ◌∷◌, length, drop}
use Rattle.std.proofs.Common.{refl, ap, arith, length-drop, drop-drop}
use Rattle.text.specs.Out.{taken}
use Rattle.text.specs.Refusals.{number}
use Rattle.text.specs.Code.Faults.{Refused}
use Rattle.text.specs.Laws.Left.{drop-place}
use Rattle.text.specs.declared.refusal.Fault.{Fault}
use Rattle.row.specs.Row.{blank_row}
use Rattle.row.specs.declared.Row.{Row}
use Rattle.rowtext.specs.Reading.{find_row, row_answer}
use Rattle.rowtext.specs.Code.Filling.{parts, fill_group, fill_from}
use Rattle.rowtext.specs.Laws.Filling.{filling-is}
use Rattle.rowtext.specs.declared.Part.{Part}

-- `gs` are left, to be read from the place `at` of the line into the row r
module _ (l : List ℕ) (at : ℕ) (gs : List Part) (r : Row) (inv : fill_from gs r (drop at l) ≡ fill_from parts blank_row l) where
  pub way-end : length gs ≡ 0 → find_row l ≡ taken r
  unfolding fill_from
  way-end e = let z : gs ≡ [] = empty gs e in rw (filling-is l, ← inv, z)
    where
      empty : (ps : List Part) → length ps ≡ 0 → ps ≡ []
      empty [] h = refl
      empty (p ∷ ps) h = absurd (omega arith)

  module _ (g : Part) (hs : List Part) (e : gs ≡ g ∷ hs) (part : List ℕ) (p : part ≡ drop at l) where
    pub within : at ≤ length l → (n : ℕ) → n ≤ length part → at + n ≤ length l
    within h n k = omega (arith, ap length p, length-drop at l)

    pub step-on : (n : ℕ) {q : Row} → fill_group g r part ≡ taken (q, drop n part) → fill_from hs q (drop (at + n) l) ≡ fill_from parts blank_row l
    unfolding fill_from
    step-on n f = rw (e, ← p, f, p, drop-drop n at l) at inv

    pub way-off : {f : Fault} → at ≤ length l → Refused part (fill_group g r part) f → Refused l (find_row l) (record { refusal = f.refusal; place = at + f.place })
    unfolding fill_from
    way-off {f} h k = record {
      within = within h f.place k.within;
      says = rw (filling-is l, ← inv, e, ← p, k.says, p, drop-drop f.place at l);
    }

-- the answer to a fault
pub answer-off : {l : List ℕ} {f : Fault} → Refused l (find_row l) f → row_answer l (find_row l) ≡ record { refusal = number f.refusal; place = f.place; row = blank_row }
answer-off {l} {f} h = rw (h.says, drop-place f.place l h.within)
