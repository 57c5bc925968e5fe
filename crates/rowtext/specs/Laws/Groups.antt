-- What each group's reader takes: what its rules allow, typed as in the row's text, up to a space or the row's end.
use Rattle.std.specs.Prelude.{ℕ, ◌<◌, ◌≤◌, ◌^◌, ◌≡◌, refl, List, [], ◌∷◌, cond, Bool, true, false, eqb}
use Rattle.std.proofs.Common.{eqb-true, leb-true, arith}
use Rattle.text.specs.Choice.{head_is}
use Rattle.text.specs.Piece.{Piece, gap, Typed}
use Rattle.text.specs.Read.{Got, misfit, got, guard, and_then}
use Rattle.text.specs.Numbers.{is_digit, digits}
use Rattle.text.specs.Laws.Base.{Laws, no-misfit, guard-got, carry, not-space, and-1, and-2}
use Rattle.text.specs.Laws.Combine.{if-laws, revalid}
use Rattle.text.proofs.Laws.Combine.{gap-laws}
use Rattle.text.specs.Laws.Numbers.{digits-laws}
use Rattle.runway.specs.Time.{real_time}
use Rattle.runway.specs.Runway.{is_side, valid_runway, runway_pieces}
use Rattle.runway.specs.Laws.Runway.{runway-laws}
use Rattle.surface.specs.Descriptions.{not_reported}
use Rattle.surface.specs.Third.{is_code, is_coverage}
use Rattle.thirds.specs.Groups.{Three, highest, group_pieces}
use Rattle.thirds.specs.Laws.Groups.{Shown, codes-laws, coverages-laws, depths-laws}
use Rattle.thirds.specs.declared.Group.TheVariants.{Codes, Coverages, Depths}
use Rattle.rowtext.specs.Reading.{parted, read_alone, each, is_runway, may_cover, may_lie}
use Rattle.rowtext.specs.Reading.{time_group, runway_group, code_group, coverage_group, depth_group}
use Rattle.rowtext.specs.Laws.Row.{coverage-low, real-low}

-- a space comes next, or the row's end
abbrev pub Parted : List ℕ → Type 0
Parted r = parted r ≡ true

-- a space is none of these bytes
parted-not : (p : ℕ → Bool) → p 32 ≡ false → (r : List ℕ) → Parted r → head_is p r ≡ false
unfolding parted
parted-not p off [] h = refl
parted-not p off (x ∷ r) h = rw (eqb-true x 32 h) off

-- a group is read exactly if it stands there: valid, typed as its text, and parted from what follows; else it does not fit
pub record Group {A : Type 0} (valid : A → Type 0) (text : A → List Piece) (read : List ℕ → Got A) : Type 0 where
  pub sound : {a : A} {m r : List ℕ} → read m ≡ got a r → valid a × Typed (text a) m r × Parted r
  pub complete : (a : A) {m r : List ℕ} → valid a → Typed (text a) m r → Parted r → read m ≡ got a r
  pub misfits : {m : List ℕ} → ((a : A) (r : List ℕ) → valid a → Typed (text a) m r → Parted r → ⊥) → read m ≡ misfit

module _ {A : Type 0} {v : A → Type 0} {l : A → List Piece} {rd : List ℕ → Got A} {s f : List ℕ → Type 0} (F : Laws v l rd s f)
    (stops : (r : List ℕ) → Parted r → f r) where
  alone-sound : (g : Got A) {a : A} {m r : List ℕ} → rd m ≡ g → and_then g (λ a r. guard (parted r) (got a r)) ≡ got a r → v a × Typed (l a) m r × Parted r
  alone-sound misfit q e = no-misfit e
  alone-sound (got b k) {m = m} q e =
      let h = guard-got (parted k) e in
      let x = F.sound q in
      carry (λ a r. v a × Typed (l a) m r × Parted r) h.1 (x.0, x.1, h.0)

  alone-misfit : (g : Got A) {m : List ℕ} → rd m ≡ g → ((a : A) (r : List ℕ) → v a → Typed (l a) m r → Parted r → ⊥)
      → and_then g (λ a r. guard (parted r) (got a r)) ≡ misfit
  alone-misfit misfit q none = refl
  alone-misfit (got a r) q none = let x = F.sound q in go (parted r) refl (none a r x.0 x.1)
    where
      go : (b : Bool) → parted r ≡ b → (b ≡ true → ⊥) → guard b (got a r) ≡ misfit
      go true h off = absurd (off refl)
      go false h off = refl

  alone-group : Group v l (read_alone rd)
  alone-group = record {
    sound = λ {a} {m} e. alone-sound (rd m) refl e;
    complete = λ a w t h. rw (F.complete a w t (stops _ h), h);
    misfits = λ {m} none. alone-misfit (rd m) refl none;
  }

-- the time: eight digits of a real time
pub time-group : Group (λ t. real_time t ≡ true) (digits 8) time_group
unfolding time_group
time-group = alone-group (revalid (if-laws (digits-laws 7) real_time) (λ t. real_time t ≡ true) (λ t h. h.1) (λ t h. (real-low t h, h))) (λ r h. tt)

-- "Runway: 01 to 18, then nothing, L, C or R"
runway-low : (p : ℕ × ℕ) → is_runway p ≡ true → (p.0 < 10 ^ 2) × (p.1 ≤ 3)
unfolding valid_runway
runway-low p h =
    let k = and-2 _ _ h in
    let n = leb-true p.0 18 (and-1 _ _ k) in
    (omega arith, leb-true p.1 3 (and-2 _ _ k))

pub runway-group : Group (λ p. is_runway p ≡ true) (λ p. gap ∷ runway_pieces p.0 p.1) runway_group
unfolding runway_group
runway-group =
    alone-group (revalid (if-laws (gap-laws runway-laws (not-space is_digit refl)) is_runway) (λ p. is_runway p ≡ true) (λ p h. h.1) (λ p h. (runway-low p h, h)))
    (parted-not is_side refl)

-- a test of three numbers
each-low : (test : ℕ → Bool) (most : ℕ) → ((n : ℕ) → test n ≡ true → n ≤ most) → (t : Three) → each test t ≡ true
    → (t.0 ≤ most) × (t.1 ≤ most) × (t.2 ≤ most)
each-low test most low t h =
    let k = and-2 _ _ h in
    (low t.0 (and-1 _ _ h), low t.1 (and-1 _ _ k), low t.2 (and-2 _ _ k))

-- "Codes: one digit 0 to 6"
pub code-group : Group (λ c. each is_code c ≡ true) (group_pieces Codes) code_group
unfolding code_group highest
code-group =
    alone-group (revalid (if-laws codes-laws (each is_code)) (λ c. each is_code c ≡ true) (λ c h. h.1) (λ c h. (each-low is_code 9 low c h, h))) (λ r h. tt)
  where
    low : (n : ℕ) → is_code n ≡ true → n ≤ 9
    low n h = let k = leb-true n 6 h in omega arith

-- "Coverage: NR, 25, 50, 75, 100"
cover-low : (c : ℕ) → may_cover c ≡ true → c ≤ 100
unfolding may_cover
cover-low c h = go (eqb c not_reported) refl h
  where
    go : (b : Bool) → eqb c not_reported ≡ b → cond b true (is_coverage c) ≡ true → c ≤ 100
    go true e k = let z = eqb-true c not_reported e in omega arith
    go false e k = coverage-low c k

pub coverage-group : Group (λ v. each may_cover v ≡ true) (group_pieces Coverages) coverage_group
unfolding coverage_group highest
coverage-group = alone-group
    (revalid (if-laws coverages-laws (each may_cover)) (λ v. each may_cover v ≡ true) (λ v h. h.1) (λ v h. (each-low may_cover 100 cover-low v h, h)))
    (parted-not is_digit refl)

-- "Depth": NR, or 03 to 999
pub depth-group : Group (λ d. Shown Depths d × (each may_lie d ≡ true)) (group_pieces Depths) depth_group
unfolding depth_group
depth-group = alone-group (if-laws depths-laws (each may_lie)) (parted-not is_digit refl)
