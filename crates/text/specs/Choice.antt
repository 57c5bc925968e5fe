-- Tests and choices that the definitions are made of.
use Rattle.std.specs.Prelude.{ℕ, List, [], ◌∷◌, Bool, true, false, cond, eqb}

-- both tests hold
unfoldable pub ◌and◌ : Bool → Bool → Bool
true and b = b
false and b = false

infixr 30 ◌and◌
-- the test holds of all
abbrev pub all : {A : Type 0} → (A → Bool) → List A → Bool
all p [] = true
all p (a ∷ as') = p a and all p as'

-- the list has nothing in it
abbrev pub is_empty : {A : Type 0} → List A → Bool
is_empty [] = true
is_empty (a ∷ as') = false

-- there is a first byte, and the test holds of it
abbrev pub head_is : (ℕ → Bool) → List ℕ → Bool
head_is p [] = false
head_is p (x ∷ m) = p x

-- the number stands in the list
abbrev pub member : List ℕ → ℕ → Bool
member [] a = false
member (b ∷ bs) a = cond (eqb b a) true (member bs a)

-- what the first of a list that passes a test gives, or else the last value
abbrev pub first_fitting : {L A : Type 0} → (L → Bool) → (L → A) → A → List L → A
first_fitting test gives else [] = else
first_fitting test gives else (l ∷ ls) = cond (test l) (gives l) (first_fitting test gives else ls)

-- two lists are the same one by one, by a test
abbrev pub same_all : {A : Type 0} → (A → A → Bool) → List A → List A → Bool
same_all p [] [] = true
same_all p [] (b ∷ bs) = false
same_all p (a ∷ as') [] = false
same_all p (a ∷ as') (b ∷ bs) = p a b and same_all p as' bs

-- byte by byte
abbrev pub same_bytes : List ℕ → List ℕ → Bool
same_bytes = same_all eqb

-- a test, and what is answered where it fails
pub record Test (A : Type 0) : Type 0 where
  pub holds : Bool
  pub gives : A

-- the test b, or else a
abbrev pub ◌else◌ : {A : Type 0} → Bool → A → Test A
b else a = record { holds = b; gives = a }

infixr 70 ◌else◌
-- the first test that fails decides; the last value where all hold
abbrev pub first_failing : {A : Type 0} → List (Test A) → A → A
first_failing [] a = a
first_failing (t ∷ ts) a = cond t.holds (first_failing ts a) t.gives
