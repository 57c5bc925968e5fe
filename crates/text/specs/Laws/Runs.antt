-- A run of bytes of a class: what it takes, and where it ends.
use Prim.Native.Nat.{ℕ, ◌≤◌}
use Rattle.std.specs.Prelude.{◌≡◌, Bool, length, take, drop}
use Rattle.std.proofs.Math.Path.{refl, ap}
use Rattle.std.proofs.Common.{sym, ◌∙◌, take_all}
use mathlib.Core.List.{List, [], ◌∷◌, ◌++◌}
use Rattle.std.proofs.Math.Bool.{cond, true, false}
use Rattle.text.specs.Choice.{all, head_is}
use Rattle.text.specs.Read.{got, guard, and_then}
use Rattle.text.specs.Code.Held.{Reached, is_got}
use Rattle.text.specs.Names.{run, past, read_count}
use Rattle.text.specs.Laws.Arrays.{take-front, drop-front}
use Rattle.text.specs.Laws.Base.{and_i}
use Rattle.text.specs.Laws.Held.{one_place}
use Rattle.text.specs.Laws.Sizes.{run-size}

-- a run of bytes, and what is left past it
module _ (p : ℕ → Bool) where
  pub run_past : (f : List ℕ) → run p f ++ past p f ≡ f
  unfolding run past
  run_past [] = refl
  run_past (x ∷ f) = go (p x) (run_past f)
    where
      go : (t : Bool) → run p f ++ past p f ≡ f → cond t (x ∷ run p f) [] ++ cond t (past p f) (x ∷ f) ≡ x ∷ f
      go true h = ap (λ k. x ∷ k) h
      go false h = refl

  -- all its bytes are of the class
  pub run_in : (f : List ℕ) → all p (run p f) ≡ true
  unfolding run
  run_in [] = refl
  run_in (x ∷ f) = go (p x) refl (run_in f)
    where
      go : (t : Bool) → p x ≡ t → all p (run p f) ≡ true → all p (cond t (x ∷ run p f) []) ≡ true
      go true e h = and_i e h
      go false e h = refl

  -- it is what stands in front
  run-front : (f : List ℕ) → take (length (run p f)) f ≡ run p f
  run-front f = ap (take (length (run p f))) (sym (run_past f)) ∙ take-front (run p f) (past p f)

  -- so bytes that it takes all of are of the class
  pub run-all : (f : List ℕ) → length f ≤ length (run p f) → all p f ≡ true
  run-all f h = ap (all p) (sym (take_all (length (run p f)) f h) ∙ run-front f) ∙ run_in f

  -- one byte of the class stands there
  pub one-counted : (f : List ℕ) → is_got (read_count p 1 f) ≡ head_is p f
  unfolding read_count
  one-counted [] = refl
  one-counted (x ∷ f) = go (p x)
    where
      go : (t : Bool) → is_got (and_then {A = ℕ × List ℕ} (and_then (guard t (got x f)) (λ a k. got (a, []) k)) (λ q r. got (q.0 ∷ q.1) r)) ≡ t
      go true = refl
      go false = refl

  module _ (f : List ℕ) {n : ℕ} (h : Reached f (past p f) n) where
    run_end : n ≡ length (run p f)
    run_end = one_place f n (length (run p f)) h.within (run-size p f)
        (h.left ∙ sym (ap (drop (length (run p f))) (sym (run_past f)) ∙ drop-front (run p f) (past p f)))

    -- the bytes before its end
    pub run-taken : take n f ≡ run p f
    run-taken = ap (λ k. take k f) run_end ∙ run-front f
