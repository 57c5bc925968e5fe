-- Lines told one by one: the last one closed by `)`, and what comes behind a part of the message.
use Rattle.std.specs.Prelude.{ℕ, ◌≡◌, refl, List, [], ◌∷◌, ◌++◌, map, cond, true, false}
use Rattle.std.proofs.Common.{subst, ◌∙◌, ap, arith}
use Rattle.text.specs.Choice.{is_empty}
use Rattle.text.specs.Piece.{Piece, Typed, Typing}
use Rattle.text.specs.Lines.{Cut, cut, text, closed, all_but_last, line_text}
use Rattle.text.specs.Laws.Lines.{Tells, final, next as and-next, closed_on, closed_is}
use Rattle.text.specs.Out.{After, finished, more}

-- what comes behind the rows
abbrev pub Follows : After → List (List Piece) → Type 0
Follows finished pss = pss ≡ []
Follows (more cs) pss = (qss : List (List Piece)) × (pss ≡ [] ∷ qss) × Tells qss (map text cs)

-- a closed line is told by its text, and so is an open one
pub closed-tells : {ps : List Piece} (l : List ℕ) {ls : List (List ℕ)} → closed l ≡ true → ls ≡ [] → Typing ps (line_text l) → Tells (ps ∷ []) (l ∷ ls)
closed-tells {ps} l q e t = rw e (final (closed_is l q) (subst (λ b. Typed ps (cond b (all_but_last l) l) []) q t))

pub open-tells : {ps : List Piece} {pss : List (List Piece)} (l : List ℕ) {ls : List (List ℕ)} → closed l ≡ false → Typing ps (line_text l) → Tells pss ls
    → Tells (ps ∷ pss) (l ∷ ls)
open-tells {ps} l q t u = and-next (subst (λ b. Typed ps (cond b (all_but_last l) l) []) q t) u

-- the other way: a told line is the last, or another follows
pub data Told (ps : List Piece) (tail : List (List Piece)) (ls : List (List ℕ)) : Type 0 where
  last_line : (l k : List ℕ) → tail ≡ [] → ls ≡ k ∷ [] → k ≡ l ++ (41 ∷ []) → Typing ps l → Told ps tail ls
  one_line : (l : List ℕ) (ls' : List (List ℕ)) → ls ≡ l ∷ ls' → Typing ps l → Tells tail ls' → Told ps tail ls

pub told : {ps : List Piece} {tail : List (List Piece)} {ls : List (List ℕ)} → Tells (ps ∷ tail) ls → Told ps tail ls
told (final {l = l} {k = k} q t) = last_line l k refl refl q t
told (and-next {l = l} {ls = ls} t u) = one_line l ls refl t u

pub told-some : {pss : List (List Piece)} {ls : List (List ℕ)} → Tells pss ls → is_empty pss ≡ false
told-some (final q t) = refl
told-some (and-next t u) = refl

-- behind the rows stands nothing, or an empty line and another
pub data Tail : List (List Piece) → Type 0 where
  nothing : Tail []
  something : {qs : List Piece} {qss : List (List Piece)} → Tail ([] ∷ qs ∷ qss)

pub append-some : {A : Type 0} (l : List A) (x : A) → is_empty (l ++ (x ∷ [])) ≡ false
append-some [] x = refl
append-some (y ∷ l) x = refl

pub opened-closed : (l k : List ℕ) → k ≡ l ++ (41 ∷ []) → (closed k ≡ true) × (line_text k ≡ l)
opened-closed l k e =
    let h = closed_on l in
    let c : closed k ≡ true = ap closed e ∙ h.0 in
    (c, ap (λ b. cond b (all_but_last k) k) c ∙ (ap all_but_last e ∙ h.1))

-- the lines of cuts, by their texts
pub record Cutting (cs : List Cut) (l : List ℕ) (ls : List (List ℕ)) : Type 0 where
  pub behind : List ℕ
  pub others : List Cut
  pub is : cs ≡ cut l behind ∷ others
  pub texts : map text others ≡ ls

pub cutting : (cs : List Cut) {l : List ℕ} {ls : List (List ℕ)} → map text cs ≡ l ∷ ls → Cutting cs l ls
cutting [] e = let z : ◌≡◌ {A = ℕ} 0 1 = cc in absurd (omega arith)
cutting (cut t behind ∷ cs) {l} {ls} e =
    let p : t ≡ l = cc in
    let q : map text cs ≡ ls = cc in
    record { behind = behind; others = cs; is = ap (λ k. cut k behind ∷ cs) p; texts = q }

pub no-cuts : (cs : List Cut) → map text cs ≡ [] → cs ≡ []
no-cuts [] e = refl
no-cuts (c ∷ cs) e = let z : ◌≡◌ {A = ℕ} 0 1 = cc in absurd (omega arith)
