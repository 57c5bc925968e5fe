-- Three thirds one by one; a blank row is the blank row.
use Rattle.std.specs.Prelude.{◌≡◌, refl, List, [], ◌∷◌, Bool, true, length, get_or}
use Rattle.std.proofs.Common.{sym, ◌∙◌, eqb-true, arith}
use Rattle.text.specs.Choice.{all}
use Rattle.text.specs.Laws.Base.{and-1, and-2}
use Rattle.surface.specs.Third.{blank_third, is_blank_third}
use Rattle.surface.specs.declared.Third.{Third}
use Rattle.row.specs.Row.{blank_row, three_that, is_blank_row}
use Rattle.row.specs.declared.Row.{Row}

-- three thirds, each with what a test says of it
pub record ThreeOf (P : Third → Type 0) (ts : List Third) : Type 0 where
  pub one : P (get_or ts 0 blank_third)
  pub two : P (get_or ts 1 blank_third)
  pub three : P (get_or ts 2 blank_third)
  pub all3 : get_or ts 0 blank_third ∷ get_or ts 1 blank_third ∷ get_or ts 2 blank_third ∷ [] ≡ ts

pub three-of : (P : Third → Type 0) (test : Third → Bool) → ((t : Third) → test t ≡ true → P t) → (ts : List Third) → three_that test ts ≡ true → ThreeOf P ts
unfolding three_that
three-of P test is ts h = go ts (eqb-true (length ts) 3 (and-1 _ _ h)) (and-2 _ _ h)
  where
    go : (ts : List Third) → length ts ≡ 3 → all test ts ≡ true → ThreeOf P ts
    go [] l k = absurd (omega arith)
    go (a ∷ []) l k = absurd (omega arith)
    go (a ∷ b ∷ []) l k = absurd (omega arith)
    go (a ∷ b ∷ c ∷ []) l k = record {
      one = is a (and-1 _ _ k);
      two = is b (and-1 _ _ (and-2 _ _ k));
      three = is c (and-1 _ _ (and-2 _ _ (and-2 _ _ k)));
      all3 = refl;
    }
    go (a ∷ b ∷ c ∷ d ∷ ts) l k = absurd (omega arith)

-- blank rows
blank-third : (t : Third) → is_blank_third t ≡ true → t ≡ blank_third
unfolding is_blank_third
blank-third t h =
    let h₁ = and-2 _ _ h in
    let h₂ = and-2 _ _ h₁ in
    let p = eqb-true t.code 0 (and-1 _ _ h) in
    let q = eqb-true t.coverage 0 (and-1 _ _ h₁) in
    let r = eqb-true t.depth 0 (and-1 _ _ h₂) in
    let s = eqb-true t.description 0 (and-2 _ _ h₂) in
    λ i. record { code = p i; coverage = q i; depth = r i; description = s i }

pub blank-row : (r : Row) → is_blank_row r ≡ true → r ≡ blank_row
unfolding is_blank_row
blank-row r h =
    let h₁ = and-2 _ _ h in
    let h₂ = and-2 _ _ h₁ in
    let h₃ = and-2 _ _ h₂ in
    let a = eqb-true r.time 0 (and-1 _ _ h) in
    let b = eqb-true r.number 0 (and-1 _ _ h₁) in
    let c = eqb-true r.side 0 (and-1 _ _ h₂) in
    let w = eqb-true r.width 0 (and-1 _ _ h₃) in
    let t = three-of (λ t. t ≡ blank_third) is_blank_third blank-third r.thirds (and-2 _ _ h₃) in
    let d : r.thirds ≡ blank_third ∷ blank_third ∷ blank_third ∷ [] = sym t.all3 ∙ (λ i. t.one i ∷ t.two i ∷ t.three i ∷ []) in
    λ i. record { time = a i; number = b i; side = c i; thirds = d i; width = w i }
