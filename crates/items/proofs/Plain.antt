-- How plain language begins and ends: the library's words and the project's.
use Rattle.std.specs.Prelude.{ℕ, suc, ◌-◌, ◌≡◌, refl, List, [], ◌∷◌, Bool, true, false, eqb, leb, nat_eq, not, ◌&&◌, length}
use Rattle.std.proofs.Common.{◌∙◌, arith}
use Rattle.std.specs.List.{starts_with, ends_with}
use Rattle.text.specs.Choice.{◌and◌, all, head_is}
use Rattle.text.specs.Names.{is_plain_byte}
use Rattle.items.specs.Language.{last_is, valid_language}

and-true : (b : Bool) → (b && true) ≡ b
and-true true = refl
and-true false = refl

eqb-sym : (a b : ℕ) → eqb a b ≡ eqb b a
eqb-sym a b = grind arith

pub head-starts : (c : ℕ) (l : List ℕ) → starts_with nat_eq l (c ∷ []) ≡ head_is (eqb c) l
head-starts c [] = refl
head-starts c (x ∷ l) = and-true (eqb c x)

pub last-ends : (c : ℕ) (l : List ℕ) → ends_with nat_eq l (c ∷ []) ≡ last_is c l
unfolding last_is
last-ends c [] = refl
last-ends c (x ∷ []) = and-true (eqb c x) ∙ eqb-sym c x
last-ends c (x ∷ y ∷ l) =
    let z : suc (suc (length l)) - 1 ≡ suc (suc (length l) - 1) = omega arith in
    rw z (last-ends c (y ∷ l))

-- the length is looked at first
pub language-sized : (l : List ℕ) (t : Bool) → t ≡ (leb 2 (length l) and leb (length l) 400)
    → valid_language l ≡ (t and (all is_plain_byte l and (not (head_is (eqb 32) l) and last_is 46 l)))
unfolding valid_language ◌and◌
language-sized l t e = rw e (go (leb 2 (length l)))
  where
    go : (b : Bool) → (b and (leb (length l) 400 and (all is_plain_byte l and (not (head_is (eqb 32) l) and last_is 46 l)))) ≡ ((b and leb (length l) 400) and (all is_plain_byte l and (not (head_is (eqb 32) l) and last_is 46 l)))
    go true = refl
    go false = refl
