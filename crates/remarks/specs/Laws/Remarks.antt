-- What stands below the rows is read exactly if its lines are typings of it.
use Rattle.std.specs.Prelude.{ℕ, ◌≡◌, cond, Bool, true, false}
use Rattle.std.proofs.Math.Path.{refl}
use Rattle.std.proofs.Common.{sym, subst, ◌∙◌, ap, leb-true, arith}
use mathlib.Core.List.{List, [], ◌∷◌, ◌++◌, map}
use Rattle.text.specs.Choice.{◌and◌, is_empty}
use Rattle.text.specs.Piece.{Piece, Typed, Typing, verbatim}
use Rattle.text.specs.Read.{got}
use Rattle.text.specs.Lines.{Cut, cut, text, closed, line_text}
use Rattle.text.specs.Laws.Base.{true-false, and-1, guard-got}
use Rattle.text.specs.Laws.Lines.{Tells, whole-sound, whole-complete}
use Rattle.items.specs.declared.Item.{Item}
use Rattle.items.specs.Awareness.{valid_items, sound_items, in_order, awareness_pieces, whole_awareness}
use Rattle.items.specs.Language.{valid_language, whole_language}
use Rattle.items.specs.Laws.Awareness.{awareness-laws}
use Rattle.items.specs.Laws.Language.{language-laws}
use Rattle.text.specs.Out.{refuse, taken, fit, at_end, After, finished, more}
use Rattle.items.specs.Parts.{none_or_language}
use Rattle.remarks.specs.Remarks.{language_lines, remark_lines, Remarks, remarks, read_language_line, read_remarks}
use Rattle.text.specs.Laws.Out.{no-refuse, took, fit-took, end-took, Within, stopped, passed, Any, fit-within, cond-within, is_number, end-within, EndsAfter}
use Rattle.text.specs.Laws.Left.{left-none}
use Rattle.text.specs.Laws.Cuts.{Ends}
use Rattle.text.specs.Laws.Cuts as Cuts
use Rattle.text.specs.Laws.Told.{Follows, closed-tells, open-tells, Told, last_line, one_line, told, told-some, Tail, nothing, something, opened-closed}
use Rattle.text.specs.Laws.Told.{cutting, no-cuts}
use Rattle.text.proofs.Laws.Told.{opened-open}

pub record Remarked (after : After) (x : Remarks) : Type 0 where
  pub items : valid_items x.items ≡ true
  pub language : none_or_language x.language ≡ true
  pub follows : Follows after (remark_lines x.items x.language)

pub no_items : valid_items [] ≡ true
unfolding valid_items sound_items in_order ◌and◌
no_items = refl

language-some : (p : List ℕ) → valid_language p ≡ true → is_empty p ≡ false
unfolding valid_language
language-some [] v = let k = leb-true 2 0 (and-1 _ _ v) in absurd (omega arith)
language-some (c ∷ p) v = refl

none_or : (p : List ℕ) → valid_language p ≡ true → none_or_language p ≡ true
unfolding none_or_language
none_or p v = rw (language-some p v) v

-- remarks that are there
with-language : (is : List Item) (p : List ℕ) → is_empty p ≡ false → remark_lines is p ≡ [] ∷ awareness_pieces is ∷ verbatim p ∷ []
unfolding ◌and◌
with-language is [] h = true-false h
with-language [] (c ∷ p) h = refl
with-language (i ∷ is) (c ∷ p) h = refl

with_items : (is : List Item) → is_empty is ≡ false → remark_lines is [] ≡ [] ∷ awareness_pieces is ∷ []
unfolding ◌and◌
with_items [] h = true-false h
with_items (i ∷ is) h = refl

items-took : {l : List ℕ} {is : List Item} {r : List ℕ} → whole_awareness l ≡ got is r → (valid_items is ≡ true) × Typing (awareness_pieces is) l
unfolding whole_awareness
items-took e = whole-sound awareness-laws e

items-told : (is : List Item) {l : List ℕ} → valid_items is ≡ true → Typing (awareness_pieces is) l → whole_awareness l ≡ got is []
unfolding whole_awareness
items-told is v t = whole-complete awareness-laws is v t

language-took : (m : List ℕ) {p r : List ℕ} → whole_language m ≡ got p r → (valid_language p ≡ true) × Typing (verbatim p) m
unfolding whole_language
language-took m {p} {r} e =
    let f = (guard-got (valid_language m) e).1 in
    let q : r ≡ [] = cc in
    let x = language-laws.sound e in
    (x.0, subst (Typed (verbatim p) m) q x.1)

pub remarks-sound : (after : After) {x : Remarks} → read_remarks after ≡ taken x → Remarked after x
unfolding ◌and◌ none_or_language
remarks-sound finished e = took (Remarked finished) e (record { items = no_items; language = refl; follows = refl })
remarks-sound (more []) e = no-refuse e
remarks-sound (more (cut l b₁ ∷ cs)) {x} e =
    let f = fit-took 8 (l ++ b₁) (whole_awareness (line_text l)) e in
    let w = items-took f.one in
    go f.val w.0 w.1 (closed l) refl (is_empty f.val) refl f.two
  where
    behind : (is : List Item) → valid_items is ≡ true → Typing (awareness_pieces is) (line_text l) → closed l ≡ false → (cs : List Cut)
        → read_language_line is cs ≡ taken x → Remarked (more (cut l b₁ ∷ cs)) x
    behind is v t c [] f = no-refuse f
    behind is v t c (cut k b₂ ∷ ks) f = pl (closed k) refl f
      where
        pl : (b : Bool) → closed k ≡ b → cond b (fit 9 (k ++ b₂) (whole_language (line_text k)) (λ p _. at_end ks (remarks is p))) (refuse 4 []) ≡ taken x
            → Remarked (more (cut l b₁ ∷ cut k b₂ ∷ ks)) x
        pl false q g = no-refuse g
        pl true q g =
            let y = fit-took 9 (k ++ b₂) (whole_language (line_text k)) g in
            let z = language-took (line_text k) y.one in
            let d = end-took ks y.two in
            took (Remarked (more (cut l b₁ ∷ cut k b₂ ∷ ks))) d.1 (record {
              items = v;
              language = none_or y.val z.0;
              follows = (
                awareness_pieces is ∷ verbatim y.val
                    ∷ [],
                with-language is y.val (language-some y.val z.0),
                open-tells l c t (closed-tells k q (ap (map text) d.0) z.1),
              );
            })

    go : (is : List Item) → valid_items is ≡ true → Typing (awareness_pieces is) (line_text l) → (c : Bool) → closed l ≡ c → (b : Bool) → is_empty is ≡ b
        → cond c (cond b (refuse 8 (l ++ b₁)) (at_end cs (remarks is []))) (read_language_line is cs) ≡ taken x → Remarked (more (cut l b₁ ∷ cs)) x
    go is v t true c true b f = no-refuse f
    go is v t true c false b f =
        let d = end-took cs f in
        took (Remarked (more (cut l b₁ ∷ cs))) d.1 (record
        { items = v; language = refl; follows = (awareness_pieces is ∷ [], with_items is b, closed-tells l c (ap (map text) d.0) t) })
    go is v t false c b q f = behind is v t c cs f

-- the other way
abbrev below : List Item → List ℕ → List (List Piece)
below is p = awareness_pieces is ∷ language_lines p

language-read : (is : List Item) (p : List ℕ) (cs : List Cut) → valid_language p ≡ true → Tells (verbatim p ∷ []) (map text cs)
    → read_language_line is cs ≡ taken (remarks is p)
unfolding whole_language
language-read is p cs v t = go (told t)
  where
    go : Told (verbatim p) [] (map text cs) → read_language_line is cs ≡ taken (remarks is p)
    go (last_line l k e f q u) =
        let o = opened-closed l k q in
        let c = cutting cs f in
        let w : whole_language (line_text k) ≡ got p [] = ap whole_language o.1 ∙ language-laws.complete p v u refl in
        ap (read_language_line is) (c.is ∙ ap (λ ds. cut k c.behind ∷ ds) (no-cuts c.others c.texts)) ∙ rw (w, o.0)
    go (one_line l ls' f u w) = true-false (told-some w)

told_below : (is : List Item) (p : List ℕ) (cs : List Cut) → valid_items is ≡ true → none_or_language p ≡ true → (is_empty p ≡ true → is_empty is ≡ false)
    → Tells (below is p) (map text cs) → read_remarks (more cs) ≡ taken (remarks is p)
unfolding none_or_language
told_below is [] cs v w h t = go (told t)
  where
    go : Told (awareness_pieces is) [] (map text cs) → read_remarks (more cs) ≡ taken (remarks is [])
    go (last_line l k e f q u) =
        let o = opened-closed l k q in
        let c = cutting cs f in
        ap (λ ds. read_remarks (more ds)) (c.is ∙ ap (λ ds. cut k c.behind ∷ ds) (no-cuts c.others c.texts))
        ∙ rw (ap whole_awareness o.1 ∙ items-told is v u, o.0, h refl)
    go (one_line l ls' f u x) = true-false (told-some x)
told_below is (b ∷ p) cs v w h t = go (told t)
  where
    go : Told (awareness_pieces is) (verbatim (b ∷ p) ∷ []) (map text cs) → read_remarks (more cs) ≡ taken (remarks is (b ∷ p))
    go (last_line l k e f q u) = let z : ◌≡◌ {A = ℕ} 0 1 = cc in absurd (omega arith)
    go (one_line l ls' f u x) =
        let o = opened-open awareness-laws is v u in
        let c = cutting cs f in
        ap (λ ds. read_remarks (more ds)) c.is ∙ rw (ap whole_awareness o.1 ∙ items-told is v u, o.0)
        (language-read is (b ∷ p) c.others w (subst (Tells (verbatim (b ∷ p) ∷ [])) (sym c.texts) x))

follows-none : (after : After) → Follows after [] → after ≡ finished
follows-none finished h = refl
follows-none (more cs) h = let e = h.1 in let z : ◌≡◌ {A = ℕ} 0 1 = cc in absurd (omega arith)

follows-some : (after : After) (qss : List (List Piece)) → Follows after ([] ∷ qss) → (cs : List Cut) × (after ≡ more cs) × Tells qss (map text cs)
follows-some finished qss h = let z : ◌≡◌ {A = ℕ} 0 1 = cc in absurd (omega arith)
follows-some (more cs) qss h = let e = h.1 in let q : h.0 ≡ qss = cc in (cs, refl, subst (λ k. Tells k (map text cs)) q h.2)

some-complete : (after : After) (is : List Item) (p : List ℕ) → valid_items is ≡ true → none_or_language p ≡ true → (is_empty p ≡ true → is_empty is ≡ false)
    → Follows after ([] ∷ below is p) → read_remarks after ≡ taken (remarks is p)
some-complete after is p v w h f =
    let g = follows-some after (below is p) f in
    ap read_remarks g.1 ∙ told_below is p g.0 v w h g.2

pub remarks-complete : (after : After) (is : List Item) (p : List ℕ) → valid_items is ≡ true → none_or_language p ≡ true → Follows after (remark_lines is p)
    → read_remarks after ≡ taken (remarks is p)
unfolding ◌and◌
remarks-complete after [] [] v w f = ap read_remarks (follows-none after f)
remarks-complete after [] (c ∷ p) v w f = some-complete after [] (c ∷ p) v w (λ e. true-false (sym e)) f
remarks-complete after (i ∷ is) [] v w f = some-complete after (i ∷ is) [] v w (λ e. refl) f
remarks-complete after (i ∷ is) (c ∷ p) v w f = some-complete after (i ∷ is) (c ∷ p) v w (λ e. refl) f

pub remarks-tail : (is : List Item) (p : List ℕ) → Tail (remark_lines is p)
unfolding ◌and◌
remarks-tail [] [] = nothing
remarks-tail [] (c ∷ p) = something
remarks-tail (i ∷ is) [] = something
remarks-tail (i ∷ is) (c ∷ p) = something

-- a refusal below the rows has a number of the list, where an end of the message is left
module _ (m : List ℕ) where
  language-within : (is : List Item) (cs : List Cut) → Ends m cs → Within is_number m Any (read_language_line is cs)
  unfolding is_number ◌and◌
  language-within is [] e = stopped refl (left-none m)
  language-within is (cut l behind ∷ cs) (Cuts.more s e) = cond-within is_number m Any (closed l) _ _
      (fit-within is_number m Any 9 (l ++ behind) (whole_language (line_text l)) _ refl s (λ p r _. end-within m Any cs (remarks is p) e tt))
      (stopped refl (left-none m))

  pub remarks-within : (after : After) → EndsAfter m after → Within is_number m Any (read_remarks after)
  unfolding is_number ◌and◌
  remarks-within finished e = passed tt
  remarks-within (more []) e = stopped refl (left-none m)
  remarks-within (more (cut l behind ∷ cs)) (Cuts.more s e) =
      fit-within is_number m Any 8 (l ++ behind) (whole_awareness (line_text l)) _ refl s (λ is r _.
      cond-within is_number m Any (closed l) _ _
      (cond-within is_number m Any (is_empty is) _ _ (stopped refl s) (end-within m Any cs (remarks is []) e tt)) (language-within is cs e))
