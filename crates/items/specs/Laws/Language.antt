-- Plain language is its own bytes, and is read exactly if it is valid.
use Rattle.std.specs.Prelude.{ℕ, ◌≤◌, ◌≡◌, refl, List, [], ◌∷◌, ◌++◌, Bool, true, false, ◌||◌, length}
use Rattle.std.proofs.Common.{sym, subst, ◌∙◌, ap, append-nil, leb-true}
use Rattle.text.specs.Choice.{member}
use Rattle.text.specs.Piece.{byte1, Typed, done, step, canonical, verbatim, bytes}
use Rattle.text.specs.Read.{got, guard}
use Rattle.text.specs.Names.{is_name, is_mark, is_plain_byte}
use Rattle.text.specs.Laws.Base.{Laws, Any, inner, and-1, and-2, guard-got, carry}
use Rattle.text.specs.Laws.Names.{name-inner, verbatim-inline}
use Rattle.text.specs.Laws.Many.{every-at}
use Rattle.items.specs.Language.{valid_language, whole_language}

plain-inner : (b : ℕ) → is_plain_byte b ≡ true → inner b ≡ true
unfolding is_mark
plain-inner b h = go (is_name b) refl h
  where
    go : (t : Bool) → is_name b ≡ t → (t || member (bytes " .,/-+:") b) ≡ true → inner b ≡ true
    go true e k = name-inner b e
    go false e k = every-at (λ b. inner b ≡ true) (bytes " .,/-+:") (refl, (refl, (refl, (refl, (refl, (refl, (refl, tt))))))) b k

own : (l : List ℕ) → Typed (verbatim l) l []
own [] = done
own (x ∷ l) = step byte1 (own l)

pub own_is : (l : List ℕ) {m r : List ℕ} → Typed (verbatim l) m r → m ≡ l ++ r
own_is [] done = refl
own_is (x ∷ l) (step byte1 t) = ap (λ k. x ∷ k) (own_is l t)

pub language-laws : Laws (λ l. valid_language l ≡ true) verbatim whole_language Any (λ r. r ≡ [])
unfolding valid_language whole_language
language-laws = record {
  sound = λ {a} {m} e. let g = guard-got (valid_language m) e in carry (λ l r. (valid_language l ≡ true) × Typed (verbatim l) m r) g.1 (g.0, own m);
  complete = λ l {m} {r} v t h. let q : m ≡ l = own_is l t
      ∙ (ap (λ k. l ++ k) h ∙ append-nil l) in subst (λ k. guard (valid_language k) (got k []) ≡ got l r) (sym q)
      (subst (λ b. guard b (got l []) ≡ got l r) (sym v) (ap (got l) (sym h)));
  starts = λ l v t h. tt;
  within = λ l v. verbatim-inline is_plain_byte plain-inner l (and-1 _ _ (and-2 _ _ (and-2 _ _ v)));
}

-- it is written as it is
pub verbatim-bytes : (l : List ℕ) → canonical (verbatim l) ≡ l
verbatim-bytes [] = refl
verbatim-bytes (x ∷ l) = ap (λ k. x ∷ k) (verbatim-bytes l)

pub language-short : (l : List ℕ) → valid_language l ≡ true → length l ≤ 400
unfolding valid_language
language-short l h = leb-true (length l) 400 (and-1 _ _ (and-2 _ _ h))
