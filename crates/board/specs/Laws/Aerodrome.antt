-- An aerodrome that is read is one.
use Rattle.std.specs.Prelude.{ℕ, zero, suc, ◌≡◌, refl, List, [], ◌∷◌, Bool, true, false, eqb, length}
use Rattle.std.proofs.Common.{◌∙◌}
use Rattle.std.proofs.Math.Dec.{eqb-zero-suc, eqb-suc-zero, eqb-suc-suc}
use Rattle.std.specs.Option.{is_some}
use Rattle.text.specs.Choice.{◌and◌, all}
use Rattle.text.specs.Read.{Got, misfit, got, guard, and_then, whole}
use Rattle.text.specs.Names.{is_letter, read_count}
use Rattle.text.specs.Code.Held.{is_got}
use Rattle.frontlines.specs.Letters.{is_letters}
use Rattle.frontlines.specs.Heading.{aerodrome_size, read_aerodrome}
use Rattle.frontlines.specs.Code.Answers.{found}
use Rattle.board.specs.Board.{is_aerodrome}

-- n bytes of a class fill the whole of a list exactly if it has n, all of the class
count_fits : (p : ℕ → Bool) (n : ℕ) (l : List ℕ) → is_got (whole (read_count p n l)) ≡ (eqb (length l) n and all p l)
unfolding read_count ◌and◌
count_fits p zero [] = refl
count_fits p zero (x ∷ l) = rw (eqb-suc-zero (length l))
count_fits p (suc n) [] = rw (eqb-zero-suc n)
count_fits p (suc n) (x ∷ l) = rw (eqb-suc-suc (length l) n) (go (p x) (read_count p n l) refl (eqb (length l) n) (all p l) (count_fits p n l))
  where
    go : (t : Bool) (g : Got (List ℕ)) → read_count p n l ≡ g → (u v : Bool) → is_got (whole (read_count p n l)) ≡ (u and v)
        → is_got (whole (and_then {A = ℕ × List ℕ} (and_then (guard t (got x l)) (λ a k. and_then (read_count p n k) (λ b r. got (a, b) r)))
        (λ q r. got (q.0 ∷ q.1) r))) ≡ (u and (t and v))
    go false g q true v e = refl
    go false g q false v e = refl
    go true misfit q u v e = rw q (rw q at e)
    go true (got a []) q u v e = rw q (rw q at e)
    go true (got a (y ∷ k)) q u v e = rw q (rw q at e)

pub aerodrome-fits : (a : List ℕ) → is_some (found (whole (read_aerodrome a))) ≡ is_aerodrome a
unfolding is_aerodrome is_letters read_aerodrome
aerodrome-fits a = go (whole (read_count is_letter aerodrome_size a)) ∙ count_fits is_letter aerodrome_size a
  where
    go : (g : Got (List ℕ)) → is_some (found g) ≡ is_got g
    go misfit = refl
    go (got l r) = refl
