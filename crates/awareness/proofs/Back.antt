-- Whether an item may stand behind others, looked at from the last of them back.
use Rattle.std.specs.Prelude.{◌<◌, ◌≤◌, ◌≡◌, refl, List, [], ◌∷◌, ◌++◌, cond, Bool, true, false, eqb, ltb}
use Rattle.std.proofs.Common.{sym, ◌∙◌, arith, eqb-true, lt-ltb, ne_eqb}
use borrow.Author.Tests.{ltb-true}
use Rattle.text.specs.Choice.{◌and◌, all}
use Rattle.text.specs.Laws.Base.{and-1, and-2, and_i, and_none, and-true}
use Rattle.text.specs.Laws.Arrays.{all-last}
use Rattle.items.specs.declared.Item.{Item}
use Rattle.items.specs.Awareness.{may_repeat, may_follow, may_precede, stands_behind, in_order}

-- letters do not fall, and where they rise one may follow
no-fall : (a b : Item) → may_follow a b ≡ true → a.letter ≤ b.letter
unfolding may_follow
no-fall a b h = go (eqb a.letter b.letter) refl h
  where
    go : (t : Bool) → eqb a.letter b.letter ≡ t → cond t (may_repeat a b) (ltb a.letter b.letter) ≡ true → a.letter ≤ b.letter
    go true e q = omega (arith, eqb-true a.letter b.letter e)
    go false e q = omega (arith, ltb-true a.letter b.letter q)

rise : (a b : Item) → a.letter < b.letter → may_follow a b ≡ true
unfolding may_follow
rise a b h = rw (ne_eqb a.letter b.letter (λ e. omega arith), lt-ltb a.letter b.letter h)

-- what holds of all holds of the last
all-of-last : (p : Item → Bool) (xs : List Item) (a : Item) → all p (xs ++ (a ∷ [])) ≡ true → p a ≡ true
all-of-last p xs a h = and-2 _ _ (sym (all-last p xs a) ∙ h)

module _ (xs : List Item) (a i : Item) where
  last : stands_behind (xs ++ (a ∷ [])) i ≡ (stands_behind xs i and may_precede i a)
  last = all-last (may_precede i) xs a

  -- the last one lets the item stand behind it, or does not
  pub back-on : may_follow a i ≡ true → stands_behind (xs ++ (a ∷ [])) i ≡ stands_behind xs i
  unfolding may_precede
  back-on e = last ∙ rw e (and-true _)

  pub back-off : may_follow a i ≡ false → stands_behind (xs ++ (a ∷ [])) i ≡ false
  unfolding may_precede
  back-off e = last ∙ and_none _ e

-- those before the last are in order too
pub order-front : (xs : List Item) (a : Item) → in_order (xs ++ (a ∷ [])) ≡ true → in_order xs ≡ true
unfolding in_order
order-front [] a h = refl
order-front (x ∷ xs) a h = and_i (and-1 _ _ (sym (all-last (may_follow x) xs a) ∙ and-1 _ _ h)) (order-front xs a (and-2 _ _ h))

-- behind one of a lower letter, and so behind all before it
pub back-lower : (xs : List Item) (a i : Item) → in_order (xs ++ (a ∷ [])) ≡ true → a.letter < i.letter → stands_behind (xs ++ (a ∷ [])) i ≡ true
unfolding in_order may_precede
back-lower [] a i h l = and_i (rise a i l) refl
back-lower (x ∷ xs) a i h l =
    let one = no-fall x a (all-of-last (may_follow x) xs a (and-1 _ _ h)) in
    and_i (rise x i (omega arith)) (back-lower xs a i (and-2 _ _ h) l)
