-- The steps of reading what stands below the rows are the steps of its definition.
use Rattle.std.specs.Prelude.{ℕ, suc, ◌+◌, ◌-◌, ◌<◌, ◌≤◌, ◌≡◌, refl, List, [], ◌∷◌, cond, Bool, true, false, Option, None, Some, eqb, length, take, drop}
use Rattle.std.proofs.Common.{sym, ◌∙◌, ap, arith, length-drop, drop-drop, drop_of_length-le, ne_eqb}
use Rattle.text.specs.Choice.{is_empty}
use Rattle.text.specs.Read.{Got, misfit, got, guard}
use Rattle.text.specs.Code.Held.{first_line}
use Rattle.text.specs.Lines.{cuts, line_size, line_step, closed, line_text}
use Rattle.text.specs.Out.{Out, refuse, taken, fit, at_end, more}
use Rattle.text.specs.declared.Line.{Line}
use Rattle.text.specs.Laws.Held.{part-all}
use Rattle.text.specs.Laws.Cuts.{cuts_first}
use Rattle.text.specs.Laws.Lines.{first-within}
use Rattle.items.specs.declared.Item.{Item}
use Rattle.items.specs.declared.Items.{Items}
use Rattle.items.specs.Awareness.{read_awareness, whole_awareness}
use Rattle.items.specs.Language.{valid_language, whole_language}
use Rattle.items.specs.Parts.{make_items}
use Rattle.awareness.specs.Code.Held.{items_answer}
use Rattle.remarks.specs.Remarks.{Remarks, remarks, read_language_line, read_remarks}
use Rattle.remarks.specs.Code.Held.{ending, language_step, behind_items, items_step, next_step}
use lib.ListN.{take-append-drop}

-- behind items that fit
module _ (is : List Item) where
  end-says : (t rest : List ℕ) → ending rest (remarks is t) ≡ at_end (cuts rest) (remarks is t)
  unfolding ending cuts
  end-says t [] = refl
  end-says t (x ∷ r) = rw (ne_eqb (suc (length r)) 0 (omega arith), cuts_first x r, take-append-drop (line_size (x ∷ r)) (x ∷ r))

  closed-says : (left : List ℕ) (c : Bool) (t rest : List ℕ)
      → cond c (cond (valid_language t) (ending rest (remarks is t)) (refuse 9 left)) (refuse 4 [])
      ≡ cond c (fit 9 left (whole_language t) (λ p _. at_end (cuts rest) (remarks is p))) (refuse 4 [])
  unfolding whole_language
  closed-says left false t rest = refl
  closed-says left true t rest = go (valid_language t)
    where
      go : (v : Bool) → cond v (ending rest (remarks is t)) (refuse 9 left) ≡ fit 9 left (guard v (got t [])) (λ p _. at_end (cuts rest) (remarks is p))
      go true = end-says t rest
      go false = refl

  language-says : (m : List ℕ) → language_step is m ≡ read_language_line is (cuts m)
  unfolding language_step cuts line_size closed
  language-says [] = refl
  language-says (x ∷ m) =
      rw (cuts_first x m, take-append-drop (line_size (x ∷ m)) (x ∷ m))
      (closed-says (x ∷ m) (closed (take (line_size (x ∷ m)) (x ∷ m))) (line_text (take (line_size (x ∷ m)) (x ∷ m))) (drop (line_step (x ∷ m)) (x ∷ m)))

items-says : (left : List ℕ) (g : Got (List Item)) (c : Bool) (rest : List ℕ)
    → behind_items left g c rest
    ≡ fit 8 left g (λ is _. cond c (cond (is_empty is) (refuse 8 left) (at_end (cuts rest) (remarks is []))) (read_language_line is (cuts rest)))
unfolding behind_items
items-says left misfit c rest = refl
items-says left (got is j) true rest = ap (cond (is_empty is) (refuse 8 left)) (end-says is [] rest)
items-says left (got is j) false rest = language-says is rest

-- the first line of what is left; where nothing is left it is empty, and so is the line behind it
first_says : (m : List ℕ) → items_step m ≡ read_remarks (more (cuts m))
unfolding items_step behind_items language_step cuts line_size line_step closed whole_awareness read_awareness
first_says [] = refl
first_says (x ∷ m) =
    rw (cuts_first x m, take-append-drop (line_size (x ∷ m)) (x ∷ m))
    (items-says (x ∷ m) (whole_awareness (line_text (take (line_size (x ∷ m)) (x ∷ m)))) (closed (take (line_size (x ∷ m)) (x ∷ m))) (drop (line_step (x ∷ m)) (x ∷ m)))

-- the items of the awareness line, once it is read, as the code keeps them
abbrev made : Option (List Item) → Option Items
made None = None
made (Some is) = Some (make_items is)

-- the same by whether the awareness line is read, and the array
abbrev pub above_items : Bool → Items → Option Items
above_items false i = None
above_items true i = Some i

-- what is left from here on says what the whole message says below the rows
pub record SoFar (m : List ℕ) (above : Option Items) (at : ℕ) : Type 0 where
  pub within : at ≤ length m
  pub items : Option (List Item)
  pub keeps : above ≡ made items
  pub says : next_step items (drop at m) ≡ read_remarks (more (cuts m))

pub begun : (m : List ℕ) → SoFar m None 0
unfolding next_step
begun m = record { within = omega arith; items = None; keeps = refl; says = first_says m }

-- items that were read
record Said (i : Items) (g : Got (List Item)) : Type 0 where
  items : List Item
  rest : List ℕ
  says : g ≡ got items rest
  keeps : i ≡ make_items items

said : {i : Items} (g : Got (List Item)) → Some i ≡ items_answer g → Said i g
said misfit e = cc
said (got is r) e = record { items = is; rest = r; says = refl; keeps = cc }

said-none : {i : Items} (is : List Item) → i ≡ make_items is → is_empty is ≡ eqb i.count 0
said-none [] e = rw e
said-none (j ∷ js) e = rw e (sym (ne_eqb (suc (length js)) 0 (omega arith)))

not_said : (g : Got (List Item)) → None ≡ items_answer g → g ≡ misfit
not_said misfit e = refl
not_said (got is r) e = cc

-- where nothing is left
pub nothing-left : (m : List ℕ) → ◌≡◌ {A = Out Remarks} (refuse 4 []) (refuse 4 (drop (length m) m))
nothing-left m = let h : length m ≤ length m = omega arith in rw (drop_of_length-le m h)

-- a turn of the loop: the line at its place, and what stands behind it
module _ {m : List ℕ} {above : Option Items} {at : ℕ} (s : SoFar m above at) {first : Line} (f : first ≡ first_line (take (length m - at) (drop at m))) where
  here : first ≡ first_line (drop at m)
  here = f ∙ rw (part-all at m)

  pub line-inside : (at + first.size ≤ length m) × (at + first.next ≤ length m)
  line-inside = let w = first-within (drop at m) here in (omega (arith, length-drop at m), omega (arith, length-drop at m))

  abbrev line : List ℕ
  line = take (at + first.size - at) (drop at m)

  abbrev rest : List ℕ
  rest = drop (at + first.next) m

  line-is : take (line_size (drop at m)) (drop at m) ≡ line
  line-is = let z : at + first.size - at ≡ first.size = omega arith in rw (z, here)

  rest-is : drop (line_step (drop at m)) (drop at m) ≡ rest
  rest-is = rw (here, drop-drop)

  -- bytes behind the line that `)` closes, or none
  pub not_ended : (x : Remarks) → at + first.next < length m → ending rest x ≡ refuse 4 rest
  unfolding ending
  not_ended x h = rw (ne_eqb (length rest) 0 (omega (arith, length-drop (at + first.next) m)))

  pub ended : (x : Remarks) → length m ≤ at + first.next → ending rest x ≡ taken x
  unfolding ending
  ended x h = let z : length rest ≡ 0 = omega (arith, length-drop (at + first.next) m) in rw z

  module _ {text : List ℕ} (t : text ≡ line_text line) {b : Bool} (c : b ≡ closed line) where
    -- the line of plain language, below these items
    pub language-found : {i : Items} → above ≡ Some i → {v : Bool} → v ≡ valid_language text → (is : List Item) × (i ≡ make_items is)
        × (cond b (cond v (ending rest (remarks is text)) (refuse 9 (drop at m))) (refuse 4 []) ≡ read_remarks (more (cuts m)))
    unfolding next_step language_step
    language-found e {v = v} q = go s.items (sym e ∙ s.keeps) s.says
      where
        go : {i : Items} (k : Option (List Item)) → Some i ≡ made k → next_step k (drop at m) ≡ read_remarks (more (cuts m)) → (is : List Item) × (i ≡ make_items is)
            × (cond b (cond v (ending rest (remarks is text)) (refuse 9 (drop at m))) (refuse 4 []) ≡ read_remarks (more (cuts m)))
        go None x y = cc
        go (Some is) x y = (is, cc, rw (c, q, t) (rw (line-is, rest-is) at y))

    -- the awareness line
    module _ (e : above ≡ None) where
      items-here : behind_items (drop at m) (whole_awareness text) b rest ≡ read_remarks (more (cuts m))
      unfolding next_step items_step
      items-here = go s.items (sym e ∙ s.keeps) s.says
        where
          go : (k : Option (List Item)) → None ≡ made k → next_step k (drop at m) ≡ read_remarks (more (cuts m))
              → behind_items (drop at m) (whole_awareness text) b rest ≡ read_remarks (more (cuts m))
          go None x y = rw (c, t) (rw (line-is, rest-is) at y)
          go (Some is) x y = cc

      pub no_items : None ≡ items_answer (whole_awareness text) → refuse 8 (drop at m) ≡ read_remarks (more (cuts m))
      unfolding behind_items
      no_items q = rw (not_said (whole_awareness text) q) at items-here

      pub items-found : {i : Items} → Some i ≡ items_answer (whole_awareness text) → {none : Bool} → none ≡ eqb i.count 0 → (is : List Item) × (i ≡ make_items is)
          × (cond b (cond none (refuse 8 (drop at m)) (ending rest (remarks is []))) (language_step is rest) ≡ read_remarks (more (cuts m)))
      unfolding behind_items
      items-found q z = let r = said (whole_awareness text) q in (r.items, r.keeps, rw (z ∙ sym (said-none r.items r.keeps)) (rw r.says at items-here))
