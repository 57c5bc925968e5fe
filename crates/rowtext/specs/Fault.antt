-- What a row's fault says: the groups before it are read, and the group at its place does not fit or is not allowed.
-- When a group is read, and when it does not fit: `time-group` to `depth-group` of Laws/Groups.
use Rattle.std.specs.Prelude.{ℕ, ◌≡◌, List, ◌∷◌, true, false}
use Rattle.text.specs.Choice.{all}
use Rattle.text.specs.Read.{misfit, got, skip}
use Rattle.surface.specs.Third.{valid_coverage, valid_depth}
use Rattle.thirds.specs.Groups.{Three}
use Rattle.row.specs.Row.{is_short}
use Rattle.rowtext.specs.Reading.{all_nr, make_thirds}
use Rattle.rowtext.specs.Reading.{time_group, runway_group, code_group, coverage_group, depth_group, description_group, width_group, short}

-- the line is read up to its codes c, and m₃ is left
pub data Coded (line : List ℕ) : Three → List ℕ → Type 0 where
  coded : {t : ℕ} {p : ℕ × ℕ} {c : Three} {m₁ m₂ m₃ : List ℕ}
      → time_group line ≡ got t m₁ → runway_group m₁ ≡ got p m₂ → code_group m₂ ≡ got c m₃ → Coded line c m₃

-- the line is read up to its descriptions s, and m₆ is left; its coverages v started in m₃ and its depths d in m₄
pub data Described (line : List ℕ) : (c v d s : Three) → (m₃ m₄ m₆ : List ℕ) → Type 0 where
  full : {c v d s : Three} {m₃ m₄ m₅ m₆ : List ℕ} → Coded line c m₃ → short m₃ ≡ false
      → coverage_group m₃ ≡ got v m₄ → depth_group m₄ ≡ got d m₅ → description_group m₅ ≡ got s m₆ → Described line c v d s m₃ m₄ m₆
  -- a short row that is allowed
  brief : {c s : Three} {m₃ m₆ : List ℕ} → Coded line c m₃ → short m₃ ≡ true
      → description_group m₃ ≡ got s m₆ → is_short (make_thirds c (all_nr, (all_nr, s))) ≡ true → Described line c all_nr all_nr s m₃ m₃ m₆

-- and its numbers are those that its descriptions allow
pub data Allowed (line : List ℕ) : List ℕ → Type 0 where
  allowed : {c v d s : Three} {m₃ m₄ m₆ : List ℕ} → Described line c v d s m₃ m₄ m₆
      → all valid_coverage (make_thirds c (v, (d, s))) ≡ true → all valid_depth (make_thirds c (v, (d, s))) ≡ true → Allowed line m₆

-- a fault of a row: its number, and what is left of the row at its place
pub data Fault (line : List ℕ) : ℕ → List ℕ → Type 0 where
  -- "5 keeps the row's time"
  bad_time : time_group line ≡ misfit → Fault line 5 line
  -- "24 runway"
  bad_runway : {t : ℕ} {m₁ : List ℕ} → time_group line ≡ got t m₁ → runway_group m₁ ≡ misfit → Fault line 24 (skip m₁)
  -- "25 codes"
  bad_codes : {t : ℕ} {p : ℕ × ℕ} {m₁ m₂ : List ℕ}
      → time_group line ≡ got t m₁ → runway_group m₁ ≡ got p m₂ → code_group m₂ ≡ misfit → Fault line 25 (skip m₂)
  -- "26 coverage"
  bad_coverage : {c : Three} {m₃ : List ℕ} → Coded line c m₃ → short m₃ ≡ false → coverage_group m₃ ≡ misfit → Fault line 26 (skip m₃)
  -- "or depth"
  bad_depth : {c v : Three} {m₃ m₄ : List ℕ} → Coded line c m₃ → short m₃ ≡ false
      → coverage_group m₃ ≡ got v m₄ → depth_group m₄ ≡ misfit → Fault line 26 (skip m₄)
  -- "including a short row not allowed, at its descriptions"
  not_allowed : {c s : Three} {m₃ m₆ : List ℕ} → Coded line c m₃ → short m₃ ≡ true
      → description_group m₃ ≡ got s m₆ → is_short (make_thirds c (all_nr, (all_nr, s))) ≡ false → Fault line 26 (skip m₃)
  -- "27 descriptions", of a row that is not short: a short one has its three
  bad_descriptions : {c v d : Three} {m₃ m₄ m₅ : List ℕ} → Coded line c m₃ → short m₃ ≡ false
      → coverage_group m₃ ≡ got v m₄ → depth_group m₄ ≡ got d m₅ → description_group m₅ ≡ misfit → Fault line 27 (skip m₅)
  -- "a number its description forbids is 26, judged once all three are read": at the coverages if any is forbidden
  no_coverage : {c v d s : Three} {m₃ m₄ m₆ : List ℕ} → Described line c v d s m₃ m₄ m₆
      → all valid_coverage (make_thirds c (v, (d, s))) ≡ false → Fault line 26 (skip m₃)
  -- else at the depths
  no_depth : {c v d s : Three} {m₃ m₄ m₆ : List ℕ} → Described line c v d s m₃ m₄ m₆
      → all valid_coverage (make_thirds c (v, (d, s))) ≡ true → all valid_depth (make_thirds c (v, (d, s))) ≡ false → Fault line 26 (skip m₄)
  -- "28 width"
  bad_width : {m₆ : List ℕ} → Allowed line m₆ → width_group m₆ ≡ misfit → Fault line 28 (skip m₆)
  -- "or what follows"
  follows : {x w : ℕ} {m₆ m₇ : List ℕ} → Allowed line m₆ → width_group m₆ ≡ got w (x ∷ m₇) → Fault line 28 (skip (x ∷ m₇))
