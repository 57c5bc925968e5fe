-- Where in a message the lines and what is left of them stand.
use Rattle.std.specs.Prelude.{ℕ, zero, suc, ◌+◌, ◌≤◌, ◌≡◌, refl, List, [], ◌∷◌, ◌++◌, cond, Bool, true, false, length, take, drop}
use Rattle.std.proofs.Common.{sym, ◌∙◌, ap, append_assoc, length-drop, length-append, drop_of_length-le, take-append-drop, drop-drop, arith}
use Rattle.text.specs.Lines.{Cut, cut, onward, cuts, lines_size, line_size, line_step, closed, all_but_last, line_text, beyond}
use Rattle.text.specs.Code.Held.{first_line}
use Rattle.text.specs.Out.{place}
use Rattle.text.specs.Laws.Left.{Left, left-short}
use Rattle.text.specs.Laws.Cuts.{Ends, more, cuts-ends, cuts_first}
use Rattle.text.specs.Laws.Lines.{closed_is, first-within}

-- a line that may be closed, with what stands behind its text
pub text-on : (t behind : List ℕ) → line_text t ++ beyond t behind ≡ t ++ behind
text-on t behind = go (closed t) refl
  where
    go : (b : Bool) → closed t ≡ b → cond b (all_but_last t) t ++ cond b (41 ∷ behind) behind ≡ t ++ behind
    go true h = sym (ap (λ k. k ++ behind) (closed_is t h) ∙ append_assoc (all_but_last t) (41 ∷ []) behind)
    go false h = refl

ends-none : cuts [] ≡ []
unfolding cuts
ends-none = refl

-- a line is no longer than what it stands in
ends-short : (k : ℕ) (m : List ℕ) (ds : List Cut) {c : Cut} {cs : List Cut} → Ends m ds → drop k ds ≡ c ∷ cs → length (onward c) ≤ length m
ends-short zero m [] e f = let z : ◌≡◌ {A = ℕ} 0 1 = cc in absurd (omega arith)
ends-short (suc k) m [] e f = let z : ◌≡◌ {A = ℕ} 0 1 = cc in absurd (omega arith)
ends-short zero m (d ∷ ds) {c} (more t e) f = let q : d ≡ c = cc in rw (← q) (left-short t)
ends-short (suc k) m (d ∷ ds) (more t e) f = ends-short k m ds e f

-- the line k, counted from 0, starts at `lines_size k m`: the place at which the code finds it
pub cut-place : (k : ℕ) (m : List ℕ) {c : Cut} {cs : List Cut} → drop k (cuts m) ≡ c ∷ cs → place m (onward c) ≡ lines_size k m
unfolding lines_size
cut-place zero [] e = let z : ◌≡◌ {A = ℕ} 0 1 = cc (ends-none) in absurd (omega arith)
cut-place (suc k) [] e = let z : ◌≡◌ {A = ℕ} 0 1 = cc (ends-none) in absurd (omega arith)
cut-place zero (x ∷ m) {c} e =
    let q : cut (take (line_size (x ∷ m)) (x ∷ m)) (drop (line_size (x ∷ m)) (x ∷ m)) ≡ c = cc (cuts_first x m) in
    let z = ap length (ap onward (sym q) ∙ take-append-drop (line_size (x ∷ m)) (x ∷ m)) in
    omega arith
cut-place (suc k) (x ∷ m) e =
    let f = sym (ap (drop (suc k)) (cuts_first x m)) ∙ e in
    let h = cut-place k (drop (line_step (x ∷ m)) (x ∷ m)) f in
    let s = ends-short k (drop (line_step (x ∷ m)) (x ∷ m)) (cuts (drop (line_step (x ∷ m)) (x ∷ m))) (cuts-ends _) f in
    let w = (first-within (x ∷ m) {line = first_line (x ∷ m)} refl).1 in
    omega (arith, length-drop (line_step (x ∷ m)) (x ∷ m))

-- what is left of a line's text starts as far behind the line as in its text
pub text-place : (k : ℕ) (m : List ℕ) {t behind left : List ℕ} {cs : List Cut} → drop k (cuts m) ≡ cut t behind ∷ cs → Left t left
    → place m (left ++ behind) ≡ lines_size k m + place t left
text-place k m {t} {behind} {left} e s =
    let h = cut-place k m e in
    let w = ends-short k m (cuts m) (cuts-ends m) e in
    let l = left-short s in
    omega (arith, length-append t behind, length-append left behind)

-- the same of the text of a line that may be closed
pub row-place : (k : ℕ) (m : List ℕ) {t behind left : List ℕ} {cs : List Cut} → drop k (cuts m) ≡ cut t behind ∷ cs → Left (line_text t) left
    → place m (left ++ beyond t behind) ≡ lines_size k m + place (line_text t) left
row-place k m {t} {behind} {left} e s =
    let h = cut-place k m e in
    let w = ends-short k m (cuts m) (cuts-ends m) e in
    let l = left-short s in
    let o = ap length (text-on t behind) in
    omega (arith, length-append (line_text t) (beyond t behind), length-append left (beyond t behind))

-- the lines from the line k on are those of what is left there
pub cuts-from : (k : ℕ) (m : List ℕ) → drop k (cuts m) ≡ cuts (drop (lines_size k m) m)
unfolding lines_size cuts line_step
cuts-from zero m = refl
cuts-from (suc k) [] = ap cuts (sym (drop_of_length-le [] {i = lines_size (suc k) []} (omega arith)))
cuts-from (suc k) (x ∷ m) =
    ap (drop (suc k)) (cuts_first x m) ∙ cuts-from k (drop (line_step (x ∷ m)) (x ∷ m))
    ∙ ap cuts (drop-drop (lines_size k (drop (line_step (x ∷ m)) (x ∷ m))) (line_step (x ∷ m)) (x ∷ m))
