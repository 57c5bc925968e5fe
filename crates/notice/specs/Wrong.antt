-- What is wrong with a message: by document 01's numbers, at document 02's byte places (request 2).
-- It is said by the message's lines alone: which of them fit, each a typing of something valid, and what stands behind those.
-- Lines are counted from 0 here, from 1 in the documents: line k has k lines above it, and `lines_size k m` is the place of "the line's first byte".
use Rattle.std.specs.Prelude.{ℕ, suc, ◌+◌, ◌-◌, ◌<◌, ◌≤◌, ◌≡◌, List, [], ◌∷◌, ◌++◌, cond, Bool, true, false, ltb, eqb, length}
use Rattle.text.specs.Piece.{Piece, Typing}
use Rattle.text.specs.Lines.{lines, lines_size, closed, line_text}
use Rattle.text.specs.Out.{place}
use Rattle.frontlines.specs.declared.Addresses.{Addresses}
use Rattle.frontlines.specs.declared.Filing.{Filing}
use Rattle.frontlines.specs.Letters.{is_letters}
use Rattle.frontlines.specs.Addresses.{addresses_pieces, valid_addresses}
use Rattle.frontlines.specs.Filing.{filing_pieces, valid_filing}
use Rattle.frontlines.specs.declared.Heading.{Heading}
use Rattle.frontlines.specs.Heading.{aerodrome_size, is_serial, heading_pieces, valid_heading, serial_pieces, aerodrome_pieces}
use Rattle.row.specs.declared.Row.{Row}
use Rattle.rowtext.specs.Fault.{Fault}
use Rattle.rowtext.specs.Theorems.{Tells}
use Rattle.body.specs.Rows.{is_among, latest, runway_on}
use Rattle.items.specs.declared.Item.{Item}
use Rattle.items.specs.Awareness.{valid_items, awareness_pieces}
use Rattle.items.specs.Language.{valid_language}

-- the line says a: that is valid, and the line is a typing of it
pub record Says {A : Type 0} (test : A → Bool) (layout : A → List Piece) (l : List ℕ) (a : A) : Type 0 where
  pub valid : test a ≡ true
  pub typing : Typing (layout a) l

-- the heading, the documents' line 3
abbrev pub HeadingLine : List ℕ → Heading → Type 0
HeadingLine = Says valid_heading heading_pieces

-- the serial again, their line 4
abbrev pub SerialLine : List ℕ → ℕ → Type 0
SerialLine = Says is_serial serial_pieces

-- the aerodrome again, their line 5
abbrev pub AerodromeLine : List ℕ → List ℕ → Type 0
AerodromeLine = Says (is_letters aerodrome_size) aerodrome_pieces

-- the awareness line, which may be empty
abbrev pub ItemsLine : List ℕ → List Item → Type 0
ItemsLine = Says valid_items awareness_pieces

-- the line fits as line k: lines 0 to 4 are the documents' lines 1 to 5
pub data Fits : ℕ → List ℕ → Type 0 where
  addresses : {l : List ℕ} {a : Addresses} → Says valid_addresses addresses_pieces l a → Fits 0 l
  filing : {l : List ℕ} {f : Filing} → Says valid_filing filing_pieces l f → Fits 1 l
  heading : {l : List ℕ} {h : Heading} → HeadingLine l h → Fits 2 l
  serial : {l : List ℕ} {n : ℕ} → SerialLine l n → Fits 3 l
  aerodrome : {l d : List ℕ} → AerodromeLine l d → Fits 4 l

-- "line 1 or 2", "line 3", "line 4 or 5": "A missing line 1 or 2 gives 2, a missing line 3 gives 3, any later one 4"
abbrev pub line_number : ℕ → ℕ
line_number k = cond (ltb k 2) 2 (cond (eqb k 2) 3 4)

-- the message is not too long, its lines before line k fit, and these are left
pub data Fitting (m : List ℕ) : ℕ → List (List ℕ) → Type 0 where
  start : length m ≤ 4096 → Fitting m 0 (lines m)
  line : {k : ℕ} {l : List ℕ} {ls : List (List ℕ)} → Fitting m k (l ∷ ls) → Fits k l → Fitting m (suc k) ls

-- below the rows rs the line is another: "1 to 8 runway rows", "No runway twice"
pub data NewRow (rs : List Row) : List ℕ → Row → Type 0 where
  new_row : {x : ℕ} {l : List ℕ} {r : Row} → length rs < 8 → Tells (line_text (x ∷ l)) r → is_among r rs ≡ false → NewRow rs (x ∷ l) r

-- lines 0 to 4 fit, the next are the rows rs, none of them closed by `)`, and these lines are left: the first of them is line 5 + length rs
pub data Rows (m : List ℕ) : List Row → List (List ℕ) → Type 0 where
  front : {ls : List (List ℕ)} → Fitting m 5 ls → Rows m [] ls
  row : {rs : List Row} {l : List ℕ} {ls : List (List ℕ)} {r : Row} → Rows m rs (l ∷ ls) → NewRow rs l r → closed l ≡ false → Rows m (rs ++ (r ∷ [])) ls

-- behind rows "an empty line ends the rows": the first line left, where the awareness line may stand, is line 6 + length rs
pub data Parted (m : List ℕ) : List Row → List (List ℕ) → Type 0 where
  parted : {r : Row} {rs : List Row} {ls : List (List ℕ)} → Rows m (r ∷ rs) ([] ∷ ls) → Parted m (r ∷ rs) ls

-- behind that an awareness line that does not close: the first line left, where the plain language may stand, is line 7 + length rs
pub data Aware (m : List ℕ) : List Row → List (List ℕ) → Type 0 where
  aware : {rs : List Row} {l : List ℕ} {ls : List (List ℕ)} {is : List Item} → Parted m rs (l ∷ ls) → ItemsLine (line_text l) is → closed l ≡ false
      → Aware m rs ls

-- every line fits up to one that `)` closes: the rows, and behind the `)` the lines from line k on
pub data Closed (m : List ℕ) : List Row → ℕ → List (List ℕ) → Type 0 where
  by_row : {rs : List Row} {l : List ℕ} {ls : List (List ℕ)} {r : Row} → Rows m rs (l ∷ ls) → NewRow rs l r → closed l ≡ true
      → Closed m (rs ++ (r ∷ [])) (6 + length rs) ls
  by_items : {rs : List Row} {l : List ℕ} {ls : List (List ℕ)} {i : Item} {is : List Item} → Parted m rs (l ∷ ls) → ItemsLine (line_text l) (i ∷ is)
      → closed l ≡ true → Closed m rs (7 + length rs) ls
  by_language : {rs : List Row} {l : List ℕ} {ls : List (List ℕ)} → Aware m rs (l ∷ ls) → closed l ≡ true → valid_language (line_text l) ≡ true
      → Closed m rs (8 + length rs) ls

-- the message is wrong by this number at this place
pub data Wrong (m : List ℕ) : ℕ → ℕ → Type 0 where
  -- "1 first", "message over 4,096 bytes": "for 1 the number 4,096"
  too_long : 4096 < length m → Wrong m 1 4096
  -- "A missing line 1 or 2 gives 2, a missing line 3 gives 3, any later one 4": "for a missing line or `)` the message's length"
  missing : {k : ℕ} → k < 5 → Fitting m k [] → Wrong m (line_number k) (length m)
  -- "line 1 or 2", "line 3", "line 4 or 5": "For lines it is the line's first byte"
  misfit : {k : ℕ} {l : List ℕ} {ls : List (List ℕ)} → k < 5 → Fitting m k (l ∷ ls) → (Fits k l → ⊥) → Wrong m (line_number k) (lines_size k m)
  -- "no row; a line or `)` missing": "A last line that lacks `)` gives 4 after its own text has passed"
  unended : {rs : List Row} → Rows m rs [] → Wrong m 4 (length m)
  -- "an empty line ends the rows (4 while there is none)"
  no_row : {ls : List (List ℕ)} → Rows m [] ([] ∷ ls) → Wrong m 4 (lines_size 5 m)
  -- 6 "before" the row's own rules: "a ninth line that is not empty where a row may stand"
  ninth : {rs : List Row} {x : ℕ} {l : List ℕ} {ls : List (List ℕ)} → length rs ≡ 8 → Rows m rs ((x ∷ l) ∷ ls) → Wrong m 6 (lines_size 13 m)
  -- "for a row the first byte of the group at fault": "5 keeps the row's time; 24 runway, 25 codes, 26 coverage or depth, .. 27 descriptions, 28 width"
  row_fault : {rs : List Row} {x : ℕ} {l left : List ℕ} {ls : List (List ℕ)} {n : ℕ} → length rs < 8 → Rows m rs ((x ∷ l) ∷ ls)
      → Fault (line_text (x ∷ l)) n left → Wrong m n (lines_size (5 + length rs) m + place (line_text (x ∷ l)) left)
  -- 7 "after the row's own rules": "runway twice", at its runway group
  twice : {rs : List Row} {x : ℕ} {l : List ℕ} {ls : List (List ℕ)} {r : Row} → length rs < 8 → Rows m rs ((x ∷ l) ∷ ls)
      → Tells (line_text (x ∷ l)) r → is_among r rs ≡ true
      → Wrong m 7 (lines_size (5 + length rs) m + place (line_text (x ∷ l)) (runway_on (line_text (x ∷ l))))
  -- below the empty line: "a line or `)` missing"
  no_items : {rs : List Row} → Parted m rs [] → Wrong m 4 (length m)
  -- "awareness line: an item, order, repeat, a 33rd"
  bad_items : {rs : List Row} {l : List ℕ} {ls : List (List ℕ)} → Parted m rs (l ∷ ls) → ((is : List Item) → ItemsLine (line_text l) is → ⊥)
      → Wrong m 8 (lines_size (6 + length rs) m)
  -- "or empty before `)`"
  empty_items : {rs : List Row} {ls : List (List ℕ)} → Parted m rs ((41 ∷ []) ∷ ls) → Wrong m 8 (lines_size (6 + length rs) m)
  -- "A last line that lacks `)` gives 4 after its own text has passed"
  no_language : {rs : List Row} → Aware m rs [] → Wrong m 4 (length m)
  -- "plain language lacking `)` gives 4 at once"
  open_language : {rs : List Row} {l : List ℕ} {ls : List (List ℕ)} → Aware m rs (l ∷ ls) → closed l ≡ false → Wrong m 4 (length m)
  -- "plain language"
  bad_language : {rs : List Row} {l : List ℕ} {ls : List (List ℕ)} → Aware m rs (l ∷ ls) → closed l ≡ true → valid_language (line_text l) ≡ false
      → Wrong m 9 (lines_size (7 + length rs) m)
  -- "bytes after the end": "for bytes after the end the first of them"
  after : {rs : List Row} {k : ℕ} {l : List ℕ} {ls : List (List ℕ)} → Closed m rs k (l ∷ ls) → Wrong m 4 (lines_size k m)
  -- "10, 11, 12 in that order at the end": "serials differ", at "the later serial": the last four bytes of its line
  serials : {rs : List Row} {k n : ℕ} {l₁ l₂ l₃ l₄ : List ℕ} {ls : List (List ℕ)} {h : Heading} → Closed m rs k []
      → lines m ≡ l₁ ∷ l₂ ∷ l₃ ∷ l₄ ∷ ls → HeadingLine l₃ h → SerialLine l₄ n → (h.title.serial ≡ n → ⊥) → Wrong m 10 (lines_size 3 m + (length l₄ - 4))
  -- "aerodromes differ", at "the later aerodrome": its line
  aerodromes : {rs : List Row} {k : ℕ} {l₁ l₂ l₃ l₄ l₅ d : List ℕ} {ls : List (List ℕ)} {h : Heading} → Closed m rs k []
      → lines m ≡ l₁ ∷ l₂ ∷ l₃ ∷ l₄ ∷ l₅ ∷ ls → HeadingLine l₃ h → SerialLine l₄ h.title.serial → AerodromeLine l₅ d → (h.title.aerodrome ≡ d → ⊥)
      → Wrong m 11 (lines_size 4 m)
  -- "heading time not the latest", at "the heading time": the last eight bytes of its line
  times : {rs : List Row} {k : ℕ} {l₁ l₂ l₃ l₄ l₅ : List ℕ} {ls : List (List ℕ)} {h : Heading} → Closed m rs k []
      → lines m ≡ l₁ ∷ l₂ ∷ l₃ ∷ l₄ ∷ l₅ ∷ ls → HeadingLine l₃ h → SerialLine l₄ h.title.serial → AerodromeLine l₅ h.title.aerodrome
      → (h.time ≡ latest rs → ⊥) → Wrong m 12 (lines_size 2 m + (length l₃ - 8))
