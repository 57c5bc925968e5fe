-- Rows are read exactly if the lines are typings of them, one by one.
use Prim.Native.Nat.{ℕ, zero, suc, ◌≤◌}
use Rattle.std.specs.Prelude.{◌≡◌, cond, Bool, true, false, length}
use Rattle.std.proofs.Math.Path.{refl}
use Rattle.std.proofs.Common.{sym, subst, ◌∙◌, ap, arith}
use mathlib.Core.List.{List, [], ◌∷◌, ◌++◌, map, append_assoc, append-nil}
use Rattle.std.proofs.lemmas.Bool.{not-true}
use Rattle.text.specs.Choice.{◌and◌, all, is_empty}
use Rattle.text.specs.Piece.{Piece, Typing, done}
use Rattle.text.specs.Numbers.{is_digit, read_digits}
use Rattle.text.specs.Lines.{Cut, cut, text, closed, line_text, beyond}
use Rattle.text.specs.Laws.Base.{Head, true-false, and-1, and-2, and_i}
use Rattle.text.specs.Laws.Lines.{Tells, whole-sound, whole-complete, next as and-next}
use Rattle.row.specs.declared.Row.{Row}
use Rattle.row.specs.Row.{valid_row}
use Rattle.rowtext.specs.Text.{row_pieces}
use Rattle.rowtext.specs.Reading.{find_row}
use Rattle.rowtext.specs.Laws.Same.{row-taken, row-found}
use Rattle.rowtext.specs.Laws.Faults.{is_row_number, row-is-number, row_within}
use Rattle.rowtext.specs.Laws.Row.{row_laws}
use Rattle.text.specs.Out.{Out, refuse, taken, next, before, at_end, After, finished, more}
use Rattle.body.specs.Rows.{is_among, new_runways, Block, block, runway_on, read_rows}
use Rattle.text.specs.Laws.Out.{no-refuse, took, next-took, before-took, end-took, Within, stopped, passed, Any, cond-within, next-within}
use Rattle.text.specs.Laws.Out.{is_number, end-within, EndsAfter}
use Rattle.text.specs.Laws.Left.{Left, left-trans, left-none, left-append, left_by_lem, skip-left}
use Rattle.text.proofs.Laws.Left.{laws-left}
use Rattle.text.specs.Laws.Numbers.{digits-laws}
use Rattle.text.specs.Laws.Cuts.{Ends}
use Rattle.text.specs.Laws.Cuts as Cuts
use Rattle.text.specs.Laws.Places.{text-on}
use Rattle.text.specs.Laws.Told.{Follows, closed-tells, open-tells, Told, last_line, one_line, told, told-some, Tail, nothing, something, append-some}
use Rattle.text.specs.Laws.Told.{opened-closed, cutting, no-cuts}
use Rattle.text.proofs.Laws.Told.{opened-open}

-- the rows that were read behind those seen
pub record Read (n : ℕ) (seen : List Row) (cs : List Cut) (b : Block) : Type 0 where
  pub new : List Row
  pub is : b.rows ≡ seen ++ new
  pub valid : all valid_row new ≡ true
  pub other : new_runways seen new ≡ true
  pub few : length new ≤ n
  pub some : is_empty seen ≡ true → is_empty new ≡ false
  pub tells : (pss : List (List Piece)) → Follows b.after pss → Tells (map row_pieces new ++ pss) (map text cs)

pub rows-sound : (n : ℕ) (seen : List Row) (cs : List Cut) {b : Block} → read_rows n seen cs ≡ taken b → Read n seen cs b
unfolding read_rows new_runways
rows-sound n seen [] e = no-refuse e
rows-sound n seen (cut [] behind ∷ cs) {b} e = go (is_empty seen) refl e
  where
    go : (t : Bool) → is_empty seen ≡ t → cond t (refuse 4 behind) (taken (block seen (more cs))) ≡ taken b → Read n seen (cut [] behind ∷ cs) b
    go true q f = no-refuse f
    go false q f = took (Read n seen (cut [] behind ∷ cs)) f (record {
      new = [];
      is = sym (append-nil seen);
      valid = refl;
      other = refl;
      few = omega arith;
      some = λ h. true-false (sym h ∙ q);
      tells = λ pss h. subst (λ k. Tells k ([] ∷ map text cs)) (sym h.1) (and-next done h.2);
    })
rows-sound zero seen (cut (x ∷ l) behind ∷ cs) e = no-refuse e
rows-sound (suc n) seen (cut (x ∷ l) behind ∷ cs) {b} e =
    let f = next-took (before (beyond (x ∷ l) behind) (find_row (line_text (x ∷ l)))) e in
    let w = whole-sound row_laws {m = line_text (x ∷ l)} (row-taken (line_text (x ∷ l)) (before-took (beyond (x ∷ l) behind) (find_row (line_text
    (x ∷ l))) f.one)) in
    go f.val w.0 w.1 (is_among f.val seen) refl (closed (x ∷ l)) refl f.two (λ r c g. rows-sound n (seen ++ (r ∷ [])) cs g)
  where
    go : (r : Row) → valid_row r ≡ true → Typing (row_pieces r) (line_text (x ∷ l)) → (a : Bool) → is_among r seen ≡ a → (c : Bool) → closed (x ∷ l) ≡ c
        → cond a (refuse 7 (runway_on (line_text (x ∷ l)) ++ beyond (x ∷ l) behind))
        (cond c (at_end cs (block (seen ++ (r ∷ [])) finished)) (read_rows n (seen ++ (r ∷ [])) cs)) ≡ taken b
        → ((r : Row) (c : Block) → read_rows n (seen ++ (r ∷ [])) cs ≡ taken c → Read n (seen ++ (r ∷ [])) cs c)
        → Read (suc n) seen (cut (x ∷ l) behind ∷ cs) b
    go r v t true s c q f ih = no-refuse f
    go r v t false s true q f ih =
        let g = end-took cs f in
        took (Read (suc n) seen (cut (x ∷ l) behind ∷ cs)) g.1 (record {
          new = r ∷ [];
          is = refl;
          valid = and_i v refl;
          other = and_i (rw s) refl;
          few = omega arith;
          some = λ h. refl;
          tells = λ pss h. subst (λ k. Tells (row_pieces r ∷ k) ((x ∷ l) ∷ map text cs)) (sym h) (closed-tells (x ∷ l) q (ap (map text) g.0) t);
        })
    go r v t false s false q f ih =
        let y = ih r b f in
        let k = y.few in
        record {
          new = r ∷ y.new;
          is = y.is ∙ append_assoc seen (r ∷ []) y.new;
          valid = and_i v y.valid;
          other = and_i (rw s) y.other;
          few = omega arith;
          some = λ h. refl;
          tells = λ pss h. open-tells (x ∷ l) q t (y.tells pss h);
        }

pub record Back (n : ℕ) (seen : List Row) (cs : List Cut) (rows : List Row) (pss : List (List Piece)) : Type 0 where
  pub after : After
  pub follows : Follows after pss
  pub reads : read_rows n seen cs ≡ taken (block (seen ++ rows) after)

-- a line that is not empty, read where a row may stand
pub row-line : (n : ℕ) (seen : List Row) (l behind : List ℕ) (cs : List Cut) → is_empty l ≡ false
    → read_rows (suc n) seen (cut l behind ∷ cs) ≡ next (before (beyond l behind) (find_row (line_text l)))
    (λ r. cond (is_among r seen) (refuse 7 (runway_on (line_text l) ++ beyond l behind))
    (cond (closed l) (at_end cs (block (seen ++ (r ∷ [])) finished)) (read_rows n (seen ++ (r ∷ [])) cs)))
unfolding read_rows
row-line n seen [] behind cs h = true-false h
row-line n seen (x ∷ l) behind cs h = refl

head-some : (p : ℕ → Bool) (l : List ℕ) → Head p l → is_empty l ≡ false
head-some p [] h = absurd h
head-some p (x ∷ l) h = refl

row-some : (r : Row) {l : List ℕ} → valid_row r ≡ true → Typing (row_pieces r) l → is_empty l ≡ false
row-some r {l} v t = head-some is_digit l (row_laws.starts r v t refl)

rows_none : (rs : List Row) (pss : List (List Piece)) → map row_pieces rs ++ pss ≡ [] → (rs ≡ []) × (pss ≡ [])
rows_none [] pss e = (refl, e)
rows_none (r ∷ rs) pss e = let z : ◌≡◌ {A = ℕ} 0 1 = cc in absurd (omega arith)

typed-none : {l : List ℕ} → Typing [] l → l ≡ []
typed-none done = refl

empty-line : (n : ℕ) (seen : List Row) (behind : List ℕ) (cs : List Cut) → is_empty seen ≡ false
    → read_rows n seen (cut [] behind ∷ cs) ≡ taken (block seen (more cs))
unfolding read_rows
empty-line n seen behind cs h = rw h

base : {pss : List (List Piece)} (cs : List Cut) (n : ℕ) (seen : List Row) → Tail pss → is_empty seen ≡ false → Tells pss (map text cs) → Back n seen cs [] pss
base cs n seen nothing h t = true-false (told-some t)
base cs n seen (something {qs = qs} {qss = qss}) h t = go (told t)
  where
    go : Told [] (qs ∷ qss) (map text cs) → Back n seen cs [] ([] ∷ qs ∷ qss)
    go (last_line l k e f q u) = let z : ◌≡◌ {A = ℕ} 0 1 = cc in absurd (omega arith)
    go (one_line l ls' f u w) =
        let c = cutting cs f in
        record {
          after = more c.others;
          follows = (qs ∷ qss, refl, subst (Tells (qs ∷ qss)) (sym c.texts) w);
          reads = ap (read_rows n seen) (c.is ∙ ap (λ k. cut k c.behind ∷ c.others) (typed-none u))
              ∙ (empty-line n seen c.behind c.others h ∙ ap (λ rs. taken (block rs (more c.others))) (sym (append-nil seen)));
        }

seen-some : (b : Bool) → (b ≡ true → true ≡ false) → b ≡ false
seen-some true h = h refl
seen-some false h = refl

closed-row : (n : ℕ) (seen : List Row) (r : Row) (k l behind : List ℕ) → valid_row r ≡ true → is_among r seen ≡ false → k ≡ l ++ (41 ∷ [])
    → Typing (row_pieces r) l → read_rows (suc n) seen (cut k behind ∷ []) ≡ taken (block (seen ++ (r ∷ [])) finished)
closed-row n seen r k l behind v a e t =
    let o = opened-closed l k e in
    let w : find_row (line_text k) ≡ taken r = ap find_row o.1 ∙ row-found l (whole-complete row_laws r v t) in
    row-line n seen k behind [] (ap is_empty e ∙ append-some l 41) ∙ rw (w, a, o.0)

open_row : (n : ℕ) (seen : List Row) (r : Row) (l behind : List ℕ) (cs : List Cut) (b : Block) → valid_row r ≡ true → is_among r seen ≡ false
    → Typing (row_pieces r) l
    → read_rows n (seen ++ (r ∷ [])) cs ≡ taken b → read_rows (suc n) seen (cut l behind ∷ cs) ≡ taken b
open_row n seen r l behind cs b v a t e =
    let o = opened-open row_laws r v t in
    let w : find_row (line_text l) ≡ taken r = ap find_row o.1 ∙ row-found l (whole-complete row_laws r v t) in
    row-line n seen l behind cs (row-some r v t) ∙ rw (w, a, o.0) e

pub rows-complete : (n : ℕ) (seen rows : List Row) (cs : List Cut) {pss : List (List Piece)} → Tail pss → all valid_row rows ≡ true
    → new_runways seen rows ≡ true → length rows ≤ n
    → (is_empty seen ≡ true → is_empty rows ≡ false) → Tells (map row_pieces rows ++ pss) (map text cs) → Back n seen cs rows pss
unfolding new_runways
rows-complete n seen [] cs s v w l h t = base cs n seen s (seen-some (is_empty seen) h) t
rows-complete zero seen (r ∷ rows) cs s v w l h t = absurd (omega arith)
rows-complete (suc n) seen (r ∷ rows) cs {pss} s v w l h t =
    go (told t) (λ ds u. rows-complete n (seen ++ (r ∷ [])) rows ds s (and-2 _ _ v) (and-2 _ _ w) (omega arith) (λ e. true-false (sym e
    ∙ append-some seen r)) u)
  where
    joined : (a : After) → taken (block ((seen ++ (r ∷ [])) ++ rows) a) ≡ taken (block (seen ++ (r ∷ rows)) a)
    joined a = ap (λ rs. taken (block rs a)) (append_assoc seen (r ∷ []) rows)

    go : Told (row_pieces r) (map row_pieces rows ++ pss) (map text cs)
        → ((ds : List Cut) → Tells (map row_pieces rows ++ pss) (map text ds) → Back n (seen ++ (r ∷ [])) ds rows pss) → Back (suc n) seen cs (r ∷ rows) pss
    go (last_line l k e f q u) ih =
        let z = rows_none rows pss e in
        let c = cutting cs f in
        record {
          after = finished;
          follows = z.1;
          reads = ap (read_rows (suc n) seen) (c.is ∙ ap (λ ds. cut k c.behind ∷ ds) (no-cuts c.others c.texts))
              ∙ (closed-row n seen r k l c.behind (and-1 _ _ v) (not-true _ (and-1 _ _ w)) q u
              ∙ ap (λ rs. taken (block (seen ++ (r ∷ rs)) finished)) (sym z.0));
        }
    go (one_line l ls' f u x) ih =
        let c = cutting cs f in
        let y = ih c.others (subst (Tells (map row_pieces rows ++ pss)) (sym c.texts) x) in
        record {
          after = y.after;
          follows = y.follows;
          reads = ap (read_rows (suc n) seen) c.is
              ∙ (open_row n seen r l c.behind c.others (block ((seen ++ (r ∷ [])) ++ rows) y.after) (and-1 _ _ v)
              (not-true _ (and-1 _ _ w)) u y.reads ∙ joined y.after);
        }

-- what is left at a row's runway is an end of its line
pub runway-left : (line : List ℕ) → Left line (runway_on line)
runway-left line = left-trans (left_by_lem (read_digits 8 line) line (λ a r e. laws-left (digits-laws 7) e)) (skip-left _)

-- a refusal of the rows has a number of the list, where an end of the message is left
module _ (m : List ℕ) where
  abbrev pub EndsBlock : Block → Type 0
  EndsBlock b = EndsAfter m b.after

  -- a row at its place in the message
  row-left : (l behind : List ℕ) (o : Out Row) → Left m (l ++ behind) → Within is_row_number (line_text l) Any o
      → Within is_number m Any (before (beyond l behind) o)
  row-left l behind (refuse n left) s (stopped h w) =
      stopped (row-is-number n h) (left-trans (subst (Left m) (sym (text-on l behind)) s) (left-append (beyond l behind) w))
  row-left l behind (taken r) s (passed h) = passed tt

  pub rows-within : (n : ℕ) (seen : List Row) (cs : List Cut) → Ends m cs → Within is_number m EndsBlock (read_rows n seen cs)
  unfolding read_rows is_number ◌and◌
  rows-within n seen [] e = stopped refl (left-none m)
  rows-within n seen (cut [] behind ∷ cs) (Cuts.more t e) = cond-within is_number m EndsBlock (is_empty seen) _ _ (stopped refl t) (passed e)
  rows-within zero seen (cut (x ∷ l) behind ∷ cs) (Cuts.more s e) = stopped refl s
  rows-within (suc n) seen (cut (x ∷ l) behind ∷ cs) (Cuts.more s e) =
      next-within is_number m EndsBlock Any (before (beyond (x ∷ l) behind) (find_row (line_text (x ∷ l)))) _
      (row-left (x ∷ l) behind (find_row (line_text (x ∷ l))) s (row_within (line_text (x ∷ l)))) (λ r _.
      cond-within is_number m EndsBlock (is_among r seen) _ _
      (stopped refl (left-trans (subst (Left m) (sym (text-on (x ∷ l) behind)) s) (left-append (beyond (x ∷ l) behind) (runway-left (line_text (x ∷ l))))))
      (cond-within is_number m EndsBlock (closed (x ∷ l)) _ _ (end-within m EndsBlock cs _ e tt) (rows-within n (seen ++ (r ∷ [])) cs e)))
