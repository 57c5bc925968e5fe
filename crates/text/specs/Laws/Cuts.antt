-- The cuts of a message are its lines, and each stands where it says.
use Rattle.std.specs.Prelude.{ℕ, suc, ◌<◌, ◌≡◌, refl, List, [], ◌∷◌, map, cond, Bool, true, false, ◌&&◌, eqb, length, take, drop}
use Rattle.std.proofs.Common.{sym, ◌∙◌, ap, subst, arith}
use Rattle.text.specs.Lines.{feeds, is_return, push, lines, Cut, cut, text, onward, push_text, push_end, cuts, end_size, line_size, line_step}
use Rattle.text.specs.Laws.Base.{true-false, and_r}
use Rattle.text.specs.Laws.Left.{Left, here, later}

-- their texts
push-text : (x : ℕ) (cs : List Cut) → map text (push_text x cs) ≡ push x (map text cs)
push-text x [] = refl
push-text x (cut t behind ∷ cs) = refl

end-text : (x : ℕ) (cs : List Cut) → map text (push_end x cs) ≡ map text cs
end-text x [] = refl
end-text x (cut t behind ∷ cs) = refl

pub cuts-text : (m : List ℕ) → map text (cuts m) ≡ lines m
unfolding cuts lines
cuts-text [] = refl
cuts-text (x ∷ m) = go (eqb x 10) (is_return x m) (cuts m) (lines m) (cuts-text m)
  where
    go : (a b : Bool) (cs : List Cut) (ls : List (List ℕ)) → map text cs ≡ ls
        → map text (cond a (cut [] (x ∷ m) ∷ cs) (cond b (push_end x cs) (push_text x cs))) ≡ cond a ([] ∷ ls) (cond b ls (push x ls))
    go true b cs ls e = ap (λ k. [] ∷ k) e
    go false true cs ls e = end-text x cs ∙ e
    go false false cs ls e = push-text x cs ∙ ap (push x) e

-- each starts an end of the message
pub data Ends (m : List ℕ) : List Cut → Type 0 where
  none : Ends m []
  more : {c : Cut} {cs : List Cut} → Left m (onward c) → Ends m cs → Ends m (c ∷ cs)

ends-later : {x : ℕ} {m : List ℕ} {cs : List Cut} → Ends m cs → Ends (x ∷ m) cs
ends-later none = none
ends-later (more t e) = more (later t) (ends-later e)

-- and the first starts it
data Starts (m : List ℕ) : List Cut → Type 0 where
  nothing : m ≡ [] → Starts m []
  something : {c : Cut} {cs : List Cut} → onward c ≡ m → Ends m cs → Starts m (c ∷ cs)

starts-ends : {m : List ℕ} {cs : List Cut} → Starts m cs → Ends m cs
starts-ends (nothing e) = none
starts-ends {m} (something e h) = more (subst (Left m) (sym e) here) h

starts-push : (x : ℕ) {m : List ℕ} {cs : List Cut} → Starts m cs → Starts (x ∷ m) (push_text x cs)
starts-push x (nothing e) = something (ap (λ k. x ∷ k) (sym e)) none
starts-push x (something {c = cut t behind} e h) = something (ap (λ k. x ∷ k) e) (ends-later h)

starts-end : (x : ℕ) (m : List ℕ) → feeds m ≡ true → Starts m (cuts m) → Starts (x ∷ m) (push_end x (cuts m))
unfolding cuts
starts-end x [] h s = true-false (sym h)
starts-end x (y ∷ m) h s = rw h (something refl (ends-later (others (rw h at s))))
  where
    others : {c : Cut} {cs : List Cut} → Starts (y ∷ m) (c ∷ cs) → Ends (y ∷ m) cs
    others (something e k) = k

cuts-start : (m : List ℕ) → Starts m (cuts m)
unfolding cuts
cuts-start [] = nothing refl
cuts-start (x ∷ m) = go (eqb x 10) (is_return x m) refl (cuts-start m)
  where
    go : (a b : Bool) → is_return x m ≡ b → Starts m (cuts m)
        → Starts (x ∷ m) (cond a (cut [] (x ∷ m) ∷ cuts m) (cond b (push_end x (cuts m)) (push_text x (cuts m))))
    go true b e s = something refl (ends-later (starts-ends s))
    go false true e s = starts-end x m (and_r (eqb x 13) (feeds m) e) s
    go false false e s = starts-push x s

pub cuts-ends : (m : List ℕ) → Ends m (cuts m)
cuts-ends m = starts-ends (cuts-start m)

-- the first line of a message, and those that follow it
pub cuts_first : (x : ℕ) (m : List ℕ) → cuts (x ∷ m) ≡ cut (take (line_size (x ∷ m)) (x ∷ m)) (drop (line_size (x ∷ m)) (x ∷ m)) ∷ cuts (drop (line_step
    (x ∷ m)) (x ∷ m))
unfolding cuts line_size line_step end_size
cuts_first x [] = go (eqb x 10) (eqb x 13)
  where
    go : (a b : Bool) → cond a (cut [] (x ∷ []) ∷ []) (cond (b && false) [] (cut (x ∷ []) [] ∷ []))
        ≡ cut (take (cond (eqb (cond a 1 (cond (b && false) 2 0)) 0) 1 0) (x ∷ [])) (drop (cond (eqb (cond a 1 (cond (b && false) 2 0)) 0) 1 0) (x ∷ []))
        ∷ cuts (drop (cond (eqb (cond a 1 (cond (b && false) 2 0)) 0) 1 (cond a 1 (cond (b && false) 2 0))) (x ∷ []))
    go true b = refl
    go false true = refl
    go false false = refl
cuts_first x (y ∷ m) = go (eqb x 10) (eqb x 13) (eqb y 10) refl (line_size (y ∷ m)) (line_step (y ∷ m)) (cuts_first y m)
  where
    go : (a b c : Bool) → eqb y 10 ≡ c → (size jump : ℕ) → cuts (y ∷ m) ≡ cut (take size (y ∷ m)) (drop size (y ∷ m)) ∷ cuts (drop jump (y ∷ m))
        → cond a (cut [] (x ∷ y ∷ m) ∷ cuts (y ∷ m)) (cond (b && c) (push_end x (cuts (y ∷ m))) (push_text x (cuts (y ∷ m))))
        ≡ cut (take (cond (eqb (cond a 1 (cond (b && c) 2 0)) 0) (suc size) 0) (x ∷ y ∷ m)) (drop (cond (eqb (cond a 1 (cond (b && c) 2 0)) 0)
        (suc size) 0) (x ∷ y ∷ m))
        ∷ cuts (drop (cond (eqb (cond a 1 (cond (b && c) 2 0)) 0) (suc jump) (cond a 1 (cond (b && c) 2 0))) (x ∷ y ∷ m))
    go true b c e size jump h = refl
    go false true true e size jump h = rw e
    go false true false e size jump h = ap (push_text x) h
    go false false c e size jump h = ap (push_text x) h

pub first-cuts : (m : List ℕ) → 0 < length m → cuts m ≡ cut (take (line_size m) m) (drop (line_size m) m) ∷ cuts (drop (line_step m) m)
first-cuts [] h = absurd (omega arith)
first-cuts (x ∷ m) h = cuts_first x m
