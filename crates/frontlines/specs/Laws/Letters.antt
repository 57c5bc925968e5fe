-- Groups of letters are read exactly if letters are typed.
use Rattle.std.specs.Prelude.{ℕ, suc, ◌≡◌, refl, List, true, false, length}
use Rattle.std.proofs.Common.{eqb-true, eq-eqb}
use Rattle.text.specs.Piece.{verbatim}
use Rattle.text.specs.Names.{is_letter}
use Rattle.text.specs.Laws.Base.{Laws, Head, Any, and-1, and-2, and_i, not-space, space_next}
use Rattle.text.specs.Laws.Combine.{revalid}
use Rattle.text.specs.Laws.Names.{count-laws, letter-inner}
use Rattle.frontlines.specs.Letters.{read_letters, is_letters}

pub letters-long : (n : ℕ) (l : List ℕ) → is_letters n l ≡ true → length l ≡ n
unfolding is_letters
letters-long n l h = eqb-true (length l) n (and-1 _ _ h)

pub letters-laws : (n : ℕ) → Laws (λ l. is_letters (suc n) l ≡ true) verbatim (read_letters (suc n)) (Head is_letter) Any
unfolding is_letters
letters-laws n = revalid (count-laws is_letter letter-inner n) (λ l. is_letters (suc n) l ≡ true)
    (λ l v. and_i (eq-eqb (length l) (suc n) v.0) v.1) (λ l h. (eqb-true (length l) (suc n) (and-1 _ _ h), and-2 _ _ h))

pub letter-no-space : (m : List ℕ) → Head is_letter m → space_next m ≡ false
letter-no-space = not-space is_letter refl
