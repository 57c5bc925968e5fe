-- A message that is wrong is refused by that number at that place.
use Rattle.std.specs.Prelude.{ℕ, zero, suc, ◌+◌, ◌-◌, ◌<◌, ◌≤◌, ◌≡◌, refl, List, [], ◌∷◌, ◌++◌, map, cond, Bool, true, false, length, drop}
use Rattle.std.proofs.Common.{sym, subst, ◌∙◌, length-append, arith}
use Rattle.std.proofs.Math.Path.{ap}
use borrow.Author.Tests.{eq-eqb, ne_eqb, le-leb, lt-leb}
use Rattle.text.specs.Choice.{is_empty, same_bytes}
use Rattle.text.specs.Laws.Same.{same_true, same_refl}
use Rattle.text.specs.Laws.Base.{Laws}
use Rattle.text.specs.Piece.{Piece}
use Rattle.text.specs.Read.{Got, misfit, got, whole}
use Rattle.text.specs.Lines.{lines, Cut, cut, text, onward, cuts, lines_size, closed, all_but_last, line_text, beyond}
use Rattle.text.specs.Out.{Out, refuse, taken, place, next, before, at_end, finished, more}
use Rattle.text.specs.Laws.Left.{Left, here, left-short}
use Rattle.text.specs.Laws.Cuts.{Ends, cuts-text, cuts-ends}
use Rattle.text.specs.Laws.Cuts as Cuts
use Rattle.text.specs.Laws.Places.{cut-place, row-place}
use Rattle.text.specs.Laws.Out.{Within, stopped, Any}
use Rattle.text.specs.Laws.Lines.{whole-sound, whole-complete}
use Rattle.text.specs.Laws.Told.{cutting, no-cuts}
use Rattle.frontlines.specs.declared.Addresses.{Addresses}
use Rattle.frontlines.specs.declared.Filing.{Filing}
use Rattle.frontlines.specs.Addresses.{read_addresses}
use Rattle.frontlines.specs.Filing.{read_filing}
use Rattle.frontlines.specs.declared.Heading.{Heading}
use Rattle.frontlines.specs.Heading.{read_heading, read_serial_line, read_aerodrome}
use Rattle.frontlines.specs.Laws.Addresses.{addresses-laws}
use Rattle.frontlines.specs.Laws.Filing.{filing-laws}
use Rattle.frontlines.specs.Laws.Heading.{heading-laws, serial-line-laws, aerodrome-laws}
use Rattle.front.specs.Places.{time_on, serial_on}
use Rattle.front.specs.Laws.Places.{time-left, serial-left, time-size, serial-size}
use Rattle.record.specs.declared.Record.{Record}
use Rattle.row.specs.declared.Row.{Row}
use Rattle.rowtext.specs.Reading.{find_row}
use Rattle.rowtext.specs.Fault.{Fault}
use Rattle.rowtext.specs.Laws.Faults.{is_row_number, row_within}
use Rattle.rowtext.specs.Theorems.{Tells, row-complete, fault-exactly}
use Rattle.body.specs.Rows.{is_among, latest, Block, block, runway_on, read_rows}
use Rattle.body.specs.Laws.Rows.{row-line, runway-left}
use Rattle.items.specs.declared.Item.{Item}
use Rattle.items.specs.Awareness.{read_awareness, whole_awareness}
use Rattle.items.specs.Language.{valid_language, whole_language}
use Rattle.items.specs.Laws.Awareness.{awareness-laws}
use Rattle.remarks.specs.Remarks.{Remarks, remarks, read_language_line, read_remarks}
use Rattle.record.specs.Record.{make_record}
use Rattle.record.specs.Answer.{refused}
use Rattle.notice.specs.Reading.{agreeing, read_notice, reading}
use Rattle.notice.specs.Wrong.{Fits, addresses, filing, heading, serial, aerodrome, line_number, Fitting, start, line, NewRow, new_row}
use Rattle.notice.specs.Wrong.{Rows, front, row, Parted, parted, Aware, aware, ItemsLine, Closed, by_row, by_items, by_language}
use Rattle.notice.specs.Wrong.{Says, HeadingLine, SerialLine, AerodromeLine, Wrong, too_long, missing, unended, no_row, ninth, row_fault, twice}
use Rattle.notice.specs.Wrong.{no_items, bad_items, empty_items, no_language, open_language, bad_language, after, serials, aerodromes, times}

-- what a line says is read, and only that
module _ {A : Type 0} {test : A → Bool} {layout : A → List Piece} {rd : List ℕ → Got A} {s : List ℕ → Type 0}
    (F : Laws (λ a. test a ≡ true) layout rd s (λ r. r ≡ [])) where
  pub said : {l : List ℕ} {a : A} → Says test layout l a → whole (rd l) ≡ got a []
  said {a = a} u = whole-complete F a u.valid u.typing

  pub saying : {l : List ℕ} {a : A} {r : List ℕ} → whole (rd l) ≡ got a r → Says test layout l a
  saying e = let x = whole-sound F e in record { valid = x.0; typing = x.1 }

  unsaid : (l : List ℕ) → ((a : A) → Says test layout l a → ⊥) → whole (rd l) ≡ misfit
  unsaid l off = go (whole (rd l)) refl
    where
      go : (g : Got A) → whole (rd l) ≡ g → whole (rd l) ≡ misfit
      go misfit e = e
      go (got a r) e = absurd (off a (saying e))

-- lines 1 to 5: so many are read, and these are left
data Stage (m : List ℕ) : ℕ → List Cut → Type 0 where
  s₀ : {cs : List Cut} → cuts m ≡ cs → Stage m 0 cs
  s₁ : {cs : List Cut} {c₁ : Cut} {a : Addresses} → cuts m ≡ c₁ ∷ cs → whole (read_addresses (text c₁)) ≡ got a [] → Stage m 1 cs
  s₂ : {cs : List Cut} {c₁ c₂ : Cut} {a : Addresses} {f : Filing} → cuts m ≡ c₁ ∷ c₂ ∷ cs → whole (read_addresses (text c₁)) ≡ got a []
      → whole (read_filing (text c₂)) ≡ got f [] → Stage m 2 cs
  s₃ : {cs : List Cut} {c₁ c₂ c₃ : Cut} {a : Addresses} {f : Filing} {h : Heading} → cuts m ≡ c₁ ∷ c₂ ∷ c₃ ∷ cs → whole (read_addresses (text c₁)) ≡ got a []
      → whole (read_filing (text c₂)) ≡ got f [] → whole (read_heading (text c₃)) ≡ got h [] → Stage m 3 cs
  s₄ : {cs : List Cut} {c₁ c₂ c₃ c₄ : Cut} {a : Addresses} {f : Filing} {h : Heading} {n : ℕ} → cuts m ≡ c₁ ∷ c₂ ∷ c₃ ∷ c₄ ∷ cs
      → whole (read_addresses (text c₁)) ≡ got a [] → whole (read_filing (text c₂)) ≡ got f [] → whole (read_heading (text c₃)) ≡ got h []
      → whole (read_serial_line (text c₄)) ≡ got n [] → Stage m 4 cs
  s₅ : {cs : List Cut} {c₁ c₂ c₃ c₄ c₅ : Cut} {a : Addresses} {f : Filing} {h : Heading} {n : ℕ} {d : List ℕ} → cuts m ≡ c₁ ∷ c₂ ∷ c₃ ∷ c₄ ∷ c₅ ∷ cs
      → whole (read_addresses (text c₁)) ≡ got a [] → whole (read_filing (text c₂)) ≡ got f [] → whole (read_heading (text c₃)) ≡ got h []
      → whole (read_serial_line (text c₄)) ≡ got n [] → whole (read_aerodrome (text c₅)) ≡ got d [] → Stage m 5 cs

-- one line more
stage-on : {m : List ℕ} {k : ℕ} {c : Cut} {cs : List Cut} → Stage m k (c ∷ cs) → Fits k (text c) → Stage m (suc k) cs
stage-on (s₀ e) (addresses u) = s₁ e (said addresses-laws u)
stage-on (s₁ e w₁) (filing u) = s₂ e w₁ (said filing-laws u)
stage-on (s₂ e w₁ w₂) (heading u) = s₃ e w₁ w₂ (said heading-laws u)
stage-on (s₃ e w₁ w₂ w₃) (serial u) = s₄ e w₁ w₂ w₃ (said serial-line-laws u)
stage-on (s₄ e w₁ w₂ w₃ w₄) (aerodrome u) = s₅ e w₁ w₂ w₃ w₄ (said aerodrome-laws u)
stage-on (s₅ _ _ _ _ _ _) f = elim f [ ]

-- where they stand
stage-there : {m : List ℕ} {k : ℕ} {cs : List Cut} → Stage m k cs → drop k (cuts m) ≡ cs
stage-there (s₀ e) = e
stage-there (s₁ e w₁) = ap (drop 1) e
stage-there (s₂ e w₁ w₂) = ap (drop 2) e
stage-there (s₃ e w₁ w₂ w₃) = ap (drop 3) e
stage-there (s₄ e w₁ w₂ w₃ w₄) = ap (drop 4) e
stage-there (s₅ e w₁ w₂ w₃ w₄ w₅) = ap (drop 5) e

-- a line of them is missing
stage-missing : {m : List ℕ} {k : ℕ} → k < 5 → Stage m k [] → read_notice (cuts m) ≡ refuse (line_number k) []
unfolding read_notice
stage-missing l (s₀ e) = ap read_notice e
stage-missing l (s₁ e w₁) = ap read_notice e ∙ rw w₁
stage-missing l (s₂ e w₁ w₂) = ap read_notice e ∙ rw (w₁, w₂)
stage-missing l (s₃ e w₁ w₂ w₃) = ap read_notice e ∙ rw (w₁, w₂, w₃)
stage-missing l (s₄ e w₁ w₂ w₃ w₄) = ap read_notice e ∙ rw (w₁, w₂, w₃, w₄)
stage-missing l (s₅ e w₁ w₂ w₃ w₄ w₅) = absurd (omega arith)

-- or does not fit
stage-misfit : {m : List ℕ} {k : ℕ} {c : Cut} {cs : List Cut} → k < 5 → Stage m k (c ∷ cs) → (Fits k (text c) → ⊥)
    → read_notice (cuts m) ≡ refuse (line_number k) (onward c)
unfolding read_notice
stage-misfit {c = c} l (s₀ e) off = ap read_notice e ∙ rw (unsaid addresses-laws (text c) (λ a u. off (addresses u)))
stage-misfit {c = c} l (s₁ e w₁) off = ap read_notice e ∙ rw (w₁, unsaid filing-laws (text c) (λ a u. off (filing u)))
stage-misfit {c = c} l (s₂ e w₁ w₂) off = ap read_notice e ∙ rw (w₁, w₂, unsaid heading-laws (text c) (λ a u. off (heading u)))
stage-misfit {c = c} l (s₃ e w₁ w₂ w₃) off = ap read_notice e ∙ rw (w₁, w₂, w₃, unsaid serial-line-laws (text c) (λ a u. off (serial u)))
stage-misfit {c = c} l (s₄ e w₁ w₂ w₃ w₄) off = ap read_notice e ∙ rw (w₁, w₂, w₃, w₄, unsaid aerodrome-laws (text c) (λ a u. off (aerodrome u)))
stage-misfit l (s₅ e w₁ w₂ w₃ w₄ w₅) off = absurd (omega arith)

-- the same by the message's lines
record Staged (m : List ℕ) (k : ℕ) (ls : List (List ℕ)) : Type 0 where
  short : length m ≤ 4096
  cs : List Cut
  texts : map text cs ≡ ls
  stage : Stage m k cs

staged : {m : List ℕ} {k : ℕ} {ls : List (List ℕ)} → Fitting m k ls → Staged m k ls
staged {m} (start short) = record { short = short; cs = cuts m; texts = cuts-text m; stage = s₀ refl }
staged {m} (line f u) =
    let x = staged f in
    let c = cutting x.cs x.texts in
    record { short = x.short; cs = c.others; texts = c.texts; stage = stage-on (subst (Stage m _) c.is x.stage) u }

-- lines 1 to 5 are read: what they say
pub record Opened (m : List ℕ) : Type 0 where
  pub short : length m ≤ 4096
  pub addresses : Addresses
  pub filing : Filing
  pub heading : Heading
  pub serial : ℕ
  pub aerodrome : List ℕ
  pub first : Cut
  pub second : Cut
  pub third : Cut
  pub fourth : Cut
  pub fifth : Cut
  pub front : List Cut
  pub is : cuts m ≡ first ∷ second ∷ third ∷ fourth ∷ fifth ∷ front
  pub reads₁ : whole (read_addresses (text first)) ≡ got addresses []
  pub reads₂ : whole (read_filing (text second)) ≡ got filing []
  pub reads₃ : whole (read_heading (text third)) ≡ got heading []
  pub reads₄ : whole (read_serial_line (text fourth)) ≡ got serial []
  pub reads₅ : whole (read_aerodrome (text fifth)) ≡ got aerodrome []

-- how the reading goes on below the rows, below the front
abbrev pub agree : {m : List ℕ} → Opened m → List Row → Remarks → Out Record
agree o rs x =
    agreeing o.heading o.third o.serial o.fourth o.aerodrome o.fifth rs (make_record o.addresses o.filing o.heading.title rs x)

abbrev below : {m : List ℕ} → Opened m → List Row → Out Remarks → Out Record
below o rs x = next x (agree o rs)

abbrev rows_on : {m : List ℕ} → Opened m → Out Block → Out Record
rows_on o b = next b (λ block. below o block.rows (read_remarks block.after))

-- line k comes next, these lines are left, and the reading of them is what is left of the reading
record At (m : List ℕ) (k : ℕ) (ls : List (List ℕ)) (rest : Opened m → List Cut → Out Record) : Type 0 where
  opening : Opened m
  cs : List Cut
  there : drop k (cuts m) ≡ cs
  texts : map text cs ≡ ls
  reads : read_notice (cuts m) ≡ rest opening cs

drop-next : {A : Type 0} (k : ℕ) (xs : List A) {b : A} {bs : List A} → drop k xs ≡ b ∷ bs → drop (suc k) xs ≡ bs
drop-next zero [] e = let z : ◌≡◌ {A = ℕ} 0 1 = cc in absurd (omega arith)
drop-next zero (a ∷ ys) e = cc
drop-next (suc k) [] e = let z : ◌≡◌ {A = ℕ} 0 1 = cc in absurd (omega arith)
drop-next (suc k) (a ∷ ys) e = drop-next k ys e

module _ {m : List ℕ} (k : ℕ) {ls : List (List ℕ)} {rest : Opened m → List Cut → Out Record} where
  -- one line more
  at_next : (i : ℕ) {l : List ℕ} {goes : Opened m → List Cut → Out Record} → i ≡ suc k → At m k (l ∷ ls) rest
      → ((o : Opened m) (behind : List ℕ) (cs : List Cut) → rest o (cut l behind ∷ cs) ≡ goes o cs) → At m i ls goes
  at_next i q x step =
      let c = cutting x.cs x.texts in
      record {
        opening = x.opening;
        cs = c.others;
        there = ap (λ j. drop j (cuts m)) q ∙ drop-next k (cuts m) (x.there ∙ c.is);
        texts = c.texts;
        reads = x.reads ∙ (ap (rest x.opening) c.is ∙ step x.opening c.behind c.others);
      }

module _ (m : List ℕ) where
  -- a message that is not too long is refused
  refused-left : {n p : ℕ} (left : List ℕ) → length m ≤ 4096 → read_notice (cuts m) ≡ refuse n left → place m left ≡ p → reading m ≡ refused n p
  unfolding reading
  refused-left {n} left short e q = rw (le-leb (length m) 4096 short, e) (ap (refused n) q)

  -- at the message's length: no line is left, or there is no `)`
  end-stops : {n k : ℕ} {rest : Opened m → List Cut → Out Record} → At m k [] rest → ((o : Opened m) → rest o [] ≡ refuse n [])
      → reading m ≡ refused n (length m)
  end-stops {rest = rest} x stop =
      refused-left [] x.opening.short (x.reads ∙ (ap (rest x.opening) (no-cuts x.cs x.texts) ∙ stop x.opening)) (omega arith)

  module _ (k : ℕ) {l : List ℕ} {ls : List (List ℕ)} {rest : Opened m → List Cut → Out Record} {n : ℕ} (x : At m k (l ∷ ls) rest) where
    open-stops : ((o : Opened m) (behind : List ℕ) (cs : List Cut) → rest o (cut l behind ∷ cs) ≡ refuse n []) → reading m ≡ refused n (length m)
    open-stops stop =
        let c = cutting x.cs x.texts in
        refused-left [] x.opening.short (x.reads ∙ (ap (rest x.opening) c.is ∙ stop x.opening c.behind c.others)) (omega arith)

    -- at the line's first byte
    line-stops : ((o : Opened m) (behind : List ℕ) (cs : List Cut) → rest o (cut l behind ∷ cs) ≡ refuse n (l ++ behind))
        → reading m ≡ refused n (lines_size k m)
    line-stops stop =
        let c = cutting x.cs x.texts in
        refused-left (l ++ c.behind) x.opening.short (x.reads ∙ (ap (rest x.opening) c.is ∙ stop x.opening c.behind c.others))
        (cut-place k m (x.there ∙ c.is))

    -- in the line's text
    text-stops : {left : List ℕ} → Left (line_text l) left
        → ((o : Opened m) (behind : List ℕ) (cs : List Cut) → rest o (cut l behind ∷ cs) ≡ refuse n (left ++ beyond l behind))
        → reading m ≡ refused n (lines_size k m + place (line_text l) left)
    text-stops {left} t stop =
        let c = cutting x.cs x.texts in
        refused-left (left ++ beyond l c.behind) x.opening.short
        (x.reads ∙ (ap (rest x.opening) c.is ∙ stop x.opening c.behind c.others))
        (row-place k m (x.there ∙ c.is) t)

-- the rows rs are read
abbrev RowsAt : List ℕ → List Row → List (List ℕ) → Type 0
RowsAt m rs ls = At m (5 + length rs) ls (λ o cs. rows_on o (read_rows (8 - length rs) rs cs))

abbrev BelowAt : List ℕ → List Row → ℕ → List (List ℕ) → (List Cut → Out Remarks) → Type 0
BelowAt m rs k ls rd = At m k ls (λ o cs. below o rs (rd cs))

opened : {m : List ℕ} {cs : List Cut} {ls : List (List ℕ)} → length m ≤ 4096 → map text cs ≡ ls → Stage m 5 cs → RowsAt m [] ls
unfolding read_notice
opened {cs = cs} short t (s₅ {c₁ = c₁} {c₂ = c₂} {c₃ = c₃} {c₄ = c₄} {c₅ = c₅} {a = a} {f = f} {h = h} {n = n} {d = d} e w₁ w₂ w₃ w₄ w₅) = record {
  opening = record {
    short = short;
    addresses = a;
    filing = f;
    heading = h;
    serial = n;
    aerodrome = d;
    first = c₁;
    second = c₂;
    third = c₃;
    fourth = c₄;
    fifth = c₅;
    front = cs;
    is = e;
    reads₁ = w₁;
    reads₂ = w₂;
    reads₃ = w₃;
    reads₄ = w₄;
    reads₅ = w₅;
  };
  cs = cs;
  there = ap (drop 5) e;
  texts = t;
  reads = ap read_notice e ∙ rw (w₁, w₂, w₃, w₄, w₅);
}

-- a line where a row may stand
module _ (rs : List Row) (few : length rs < 8) (l behind : List ℕ) (cs : List Cut) (some : is_empty l ≡ false) where
  row_reads : read_rows (8 - length rs) rs (cut l behind ∷ cs) ≡ next (before (beyond l behind) (find_row (line_text l)))
      (λ r. cond (is_among r rs) (refuse 7 (runway_on (line_text l) ++ beyond l behind))
      (cond (closed l) (at_end cs (block (rs ++ (r ∷ [])) finished)) (read_rows (7 - length rs) (rs ++ (r ∷ [])) cs)))
  row_reads =
      let q : 8 - length rs ≡ suc (7 - length rs) = omega arith in
      ap (λ i. read_rows i rs (cut l behind ∷ cs)) q ∙ row-line (7 - length rs) rs l behind cs some

-- a line is another row, and the last one
row_on : {rs : List Row} {l : List ℕ} {r : Row} (behind : List ℕ) (cs : List Cut) → NewRow rs l r → closed l ≡ false
    → read_rows (8 - length rs) rs (cut l behind ∷ cs) ≡ read_rows (8 - length (rs ++ (r ∷ []))) (rs ++ (r ∷ [])) cs
row_on {rs} {l} behind cs (new_row {r = r} few tells new) shut =
    let q : 7 - length rs ≡ 8 - length (rs ++ (r ∷ [])) = omega (arith, length-append rs (r ∷ [])) in
    row_reads rs few l behind cs refl ∙ rw (row-complete (line_text l) r tells, new, shut, q)

row_last : {rs : List Row} {l : List ℕ} {r : Row} (behind : List ℕ) (cs : List Cut) → NewRow rs l r → closed l ≡ true
    → read_rows (8 - length rs) rs (cut l behind ∷ cs) ≡ at_end cs (block (rs ++ (r ∷ [])) finished)
row_last {rs} {l} behind cs (new_row {r = r} few tells new) shut = row_reads rs few l behind cs refl ∙ rw (row-complete (line_text l) r tells, new, shut)

rows_at : {m : List ℕ} {rs : List Row} {ls : List (List ℕ)} → Rows m rs ls → RowsAt m rs ls
rows_at (front f) = let x = staged f in opened x.short x.texts x.stage
rows_at (row {rs = rs} {r = r} w new shut) =
    at_next (5 + length rs) (5 + length (rs ++ (r ∷ []))) (omega (arith, length-append rs (r ∷ []))) (rows_at w)
    (λ o behind cs. ap (rows_on o) (row_on behind cs new shut))

-- an empty line ends them
empty-reads : (n : ℕ) (r : Row) (rs : List Row) (behind : List ℕ) (cs : List Cut)
    → read_rows n (r ∷ rs) (cut [] behind ∷ cs) ≡ taken (block (r ∷ rs) (more cs))
unfolding read_rows
empty-reads n r rs behind cs = refl

below_rows : {m : List ℕ} {rs : List Row} {ls : List (List ℕ)} → Parted m rs ls → BelowAt m rs (6 + length rs) ls (λ cs. read_remarks (more cs))
below_rows (parted {r = r} {rs = rs} w) = at_next (5 + length (r ∷ rs)) (6 + length (r ∷ rs)) (omega arith) (rows_at w)
    (λ o behind cs. ap (rows_on o) (empty-reads (8 - length (r ∷ rs)) r rs behind cs))

-- the awareness line
items-read : {l : List ℕ} {is : List Item} → ItemsLine l is → whole_awareness l ≡ got is []
unfolding whole_awareness
items-read u = said awareness-laws u

items-on : {is : List Item} (l behind : List ℕ) (cs : List Cut) → ItemsLine (line_text l) is → closed l ≡ false
    → read_remarks (more (cut l behind ∷ cs)) ≡ read_language_line is cs
items-on l behind cs u shut = rw (items-read u, shut)

items-last : {i : Item} {is : List Item} (l behind : List ℕ) (cs : List Cut) → ItemsLine (line_text l) (i ∷ is) → closed l ≡ true
    → read_remarks (more (cut l behind ∷ cs)) ≡ at_end cs (remarks (i ∷ is) [])
items-last l behind cs u shut = rw (items-read u, shut)

below-items : {m : List ℕ} {rs : List Row} {ls : List (List ℕ)} → Aware m rs ls → (is : List Item) × BelowAt m rs (7 + length rs) ls (read_language_line is)
below-items (aware {rs = rs} {l = l} {is = is} w u shut) =
    (is, at_next (6 + length rs) (7 + length rs) (omega arith) (below_rows w) (λ o behind cs. ap (below o rs) (items-on l behind cs u shut)))

-- the plain language
language-read : (t : List ℕ) → valid_language t ≡ true → whole_language t ≡ got t []
unfolding whole_language
language-read t v = rw v

language-last : (is : List Item) (l behind : List ℕ) (cs : List Cut) → closed l ≡ true → valid_language (line_text l) ≡ true
    → read_language_line is (cut l behind ∷ cs) ≡ at_end cs (remarks is (line_text l))
language-last is l behind cs shut v = rw (language-read (line_text l) v, shut)

-- a line that closes
end-rows : {m : List ℕ} (o : Opened m) (cs : List Cut) (rs : List Row) → rows_on o (at_end cs (block rs finished)) ≡ below o rs (at_end cs (remarks [] []))
end-rows o [] rs = refl
end-rows o (c ∷ cs) rs = refl

below-closed : {m : List ℕ} {rs : List Row} {k : ℕ} {ls : List (List ℕ)} → Closed m rs k ls → (x : Remarks) × BelowAt m rs k ls (λ cs. at_end cs x)
below-closed (by_row {rs = rs} {r = r} w new shut) = (
  remarks [] [],
  at_next (5 + length rs) (6 + length rs) (omega arith) (rows_at w)
      (λ o behind cs. ap (rows_on o) (row_last behind cs new shut) ∙ end-rows o cs (rs ++ (r ∷ []))),
)
below-closed (by_items {rs = rs} {l = l} {i = i} {is = is} w u shut) = (
  remarks (i ∷ is) [],
  at_next (6 + length rs) (7 + length rs) (omega arith) (below_rows w)
      (λ o behind cs. ap (below o rs) (items-last l behind cs u shut)),
)
below-closed (by_language {rs = rs} {l = l} w shut v) =
    let y = below-items w in (
      remarks y.0 (line_text l),
      at_next (7 + length rs) (8 + length rs) (omega arith) y.1
          (λ o behind cs. ap (below o rs) (language-last y.0 l behind cs shut v)),
    )

-- where the rows are read
no_line : (n : ℕ) (rs : List Row) → read_rows n rs [] ≡ refuse 4 []
unfolding read_rows
no_line n rs = refl

first-empty : (n : ℕ) (behind : List ℕ) (cs : List Cut) → read_rows n [] (cut [] behind ∷ cs) ≡ refuse 4 behind
unfolding read_rows
first-empty n behind cs = refl

ninth-line : (n : ℕ) (rs : List Row) (x : ℕ) (l behind : List ℕ) (cs : List Cut) → n ≡ 0
    → read_rows n rs (cut (x ∷ l) behind ∷ cs) ≡ refuse 6 ((x ∷ l) ++ behind)
unfolding read_rows
ninth-line n rs x l behind cs e = rw e

fault-reads : (rs : List Row) → length rs < 8 → (x : ℕ) (l behind : List ℕ) (cs : List Cut) {k : ℕ} {left : List ℕ} → Fault (line_text (x ∷ l)) k left
    → read_rows (8 - length rs) rs (cut (x ∷ l) behind ∷ cs) ≡ refuse k (left ++ beyond (x ∷ l) behind)
fault-reads rs few x l behind cs {k} {left} f = row_reads rs few (x ∷ l) behind cs refl ∙ rw ((fault-exactly (line_text (x ∷ l)) k left).1 f)

twice-reads : (rs : List Row) → length rs < 8 → (x : ℕ) (l behind : List ℕ) (cs : List Cut) {r : Row} → Tells (line_text (x ∷ l)) r → is_among r rs ≡ true
    → read_rows (8 - length rs) rs (cut (x ∷ l) behind ∷ cs) ≡ refuse 7 (runway_on (line_text (x ∷ l)) ++ beyond (x ∷ l) behind)
twice-reads rs few x l behind cs {r} t a = row_reads rs few (x ∷ l) behind cs refl ∙ rw (row-complete (line_text (x ∷ l)) r t, a)

-- a fault is an end of its row, and so is the runway group
fault-left : (t : List ℕ) {n : ℕ} {left : List ℕ} → Fault t n left → Left t left
fault-left t {n} {left} f = go (subst (Within is_row_number t Any) ((fault-exactly t n left).1 f) (row_within t))
  where
    go : Within is_row_number t {A = Row} Any (refuse n left) → Left t left
    go (stopped h s) = s

-- below the rows
items-unread : {l : List ℕ} → ((is : List Item) → ItemsLine l is → ⊥) → whole_awareness l ≡ misfit
unfolding whole_awareness
items-unread {l} off = unsaid awareness-laws l off

nothing_read : whole_awareness [] ≡ got [] []
unfolding whole_awareness read_awareness
nothing_read = refl

closes : (closed (41 ∷ []) ≡ true) × (line_text (41 ∷ []) ≡ [])
unfolding closed all_but_last
closes = (refl, refl)

items-empty : (behind : List ℕ) (cs : List Cut) → read_remarks (more (cut (41 ∷ []) behind ∷ cs)) ≡ refuse 8 (41 ∷ behind)
items-empty behind cs = rw (ap whole_awareness closes.1 ∙ nothing_read, closes.0)

language-unread : (t : List ℕ) → valid_language t ≡ false → whole_language t ≡ misfit
unfolding whole_language
language-unread t v = rw v

-- lines 3, 4 and 5 stand at their places
module _ {m : List ℕ} (o : Opened m) where
  within₃₄ : (length (onward o.third) ≤ length m) × (length (onward o.fourth) ≤ length m)
  within₃₄ = go (subst (Ends m) o.is (cuts-ends m))
    where
      go : Ends m (o.first ∷ o.second ∷ o.third ∷ o.fourth ∷ o.fifth ∷ o.front)
          → (length (onward o.third) ≤ length m) × (length (onward o.fourth) ≤ length m)
      go (Cuts.more t₁ (Cuts.more t₂ (Cuts.more t₃ (Cuts.more t₄ e)))) = (left-short t₃, left-short t₄)

  serial-place : place m (serial_on o.fourth) ≡ lines_size 3 m + (length (text o.fourth) - 4)
  serial-place =
      let k = cut-place 3 m (ap (drop 3) o.is) in
      let s = serial-size o.fourth o.reads₄ in
      let w = within₃₄.1 in
      let l = left-short (serial-left o.fourth here) in
      omega arith

  time-place : place m (time_on o.third) ≡ lines_size 2 m + (length (text o.third) - 8)
  time-place =
      let k = cut-place 2 m (ap (drop 2) o.is) in
      let s = time-size o.third o.reads₃ in
      let w = within₃₄.0 in
      let l = left-short (time-left o.third here) in
      omega arith

  texts-are : {l₁ l₂ l₃ l₄ : List ℕ} {ls : List (List ℕ)} → lines m ≡ l₁ ∷ l₂ ∷ l₃ ∷ l₄ ∷ ls
      → (text o.third ≡ l₃) × (text o.fourth ≡ l₄) × (text o.fifth ∷ map text o.front ≡ ls)
  texts-are e = let q = sym (ap (map text) o.is) ∙ (cuts-text m ∙ e) in (cc, cc, cc)

-- one line says one thing
said-one : {A : Type 0} {g : Got A} {a b : A} → g ≡ got a [] → g ≡ got b [] → a ≡ b
said-one e f = let q = sym e ∙ f in cc

-- every line fits: what is left is whether they agree
pub record Ended (m : List ℕ) (rs : List Row) : Type 0 where
  pub opening : Opened m
  pub found : Remarks
  pub reads : read_notice (cuts m) ≡ agree opening rs found

pub ended : {m : List ℕ} {rs : List Row} {k : ℕ} → Closed m rs k [] → Ended m rs
ended {rs = rs} w =
    let y = below-closed w in
    let x = y.1 in
    record { opening = x.opening; found = y.0; reads = x.reads ∙ ap (λ k. below x.opening rs (at_end k y.0)) (no-cuts x.cs x.texts) }

not_same : (a b : List ℕ) → (a ≡ b → ⊥) → same_bytes a b ≡ false
not_same a b off = go (same_bytes a b) refl
  where
    go : (t : Bool) → same_bytes a b ≡ t → t ≡ false
    go true e = absurd (off (same_true a b e))
    go false e = refl

module _ {m : List ℕ} (o : Opened m) (rs : List Row) (x : Remarks) where
  differ₁₀ : (o.heading.title.serial ≡ o.serial → ⊥) → agree o rs x ≡ refuse 10 (serial_on o.fourth)
  unfolding agreeing
  differ₁₀ off = rw (ne_eqb o.heading.title.serial o.serial off)

  differ₁₁ : o.heading.title.serial ≡ o.serial → (o.heading.title.aerodrome ≡ o.aerodrome → ⊥) → agree o rs x ≡ refuse 11 (onward o.fifth)
  unfolding agreeing
  differ₁₁ e off = rw (eq-eqb o.heading.title.serial o.serial e, not_same o.heading.title.aerodrome o.aerodrome off)

  differ₁₂ : o.heading.title.serial ≡ o.serial → o.heading.title.aerodrome ≡ o.aerodrome → (o.heading.time ≡ latest rs → ⊥)
      → agree o rs x ≡ refuse 12 (time_on o.third)
  unfolding agreeing
  differ₁₂ e f off =
      rw (
        eq-eqb o.heading.title.serial o.serial e,
        ap (same_bytes o.heading.title.aerodrome) (sym f) ∙ same_refl o.heading.title.aerodrome,
        ne_eqb o.heading.time (latest rs) off,
      )

  pub agreed : o.heading.title.serial ≡ o.serial → o.heading.title.aerodrome ≡ o.aerodrome → o.heading.time ≡ latest rs
      → agree o rs x ≡ taken (make_record o.addresses o.filing o.heading.title rs x)
  unfolding agreeing
  agreed e f g =
      rw (
        eq-eqb o.heading.title.serial o.serial e,
        ap (same_bytes o.heading.title.aerodrome) (sym f) ∙ same_refl o.heading.title.aerodrome,
        eq-eqb o.heading.time (latest rs) g,
      )

-- what lines 3, 4 and 5 say
module _ {m : List ℕ} (o : Opened m) where
  heading-is : {l : List ℕ} {h : Heading} → text o.third ≡ l → HeadingLine l h → o.heading ≡ h
  heading-is e u = said-one o.reads₃ (ap (λ k. whole (read_heading k)) e ∙ said heading-laws u)

  serial-is : {l : List ℕ} {n : ℕ} → text o.fourth ≡ l → SerialLine l n → o.serial ≡ n
  serial-is e u = said-one o.reads₄ (ap (λ k. whole (read_serial_line k)) e ∙ said serial-line-laws u)

  aerodrome-is : {l d : List ℕ} → text o.fifth ≡ l → AerodromeLine l d → o.aerodrome ≡ d
  aerodrome-is e u = said-one o.reads₅ (ap (λ k. whole (read_aerodrome k)) e ∙ said aerodrome-laws u)

long-refused : (m : List ℕ) → 4096 < length m → reading m ≡ refused 1 4096
unfolding reading
long-refused m l = rw (lt-leb (length m) 4096 l)

-- a wrong message is refused by that number at that place
pub wrong-refused : {m : List ℕ} {n p : ℕ} → Wrong m n p → reading m ≡ refused n p
wrong-refused {m} (too_long l) = long-refused m l
wrong-refused {m} (missing {k = k} l f) =
    let x = staged f in
    refused-left m [] x.short (stage-missing l (subst (Stage m k) (no-cuts x.cs x.texts) x.stage)) (omega arith)
wrong-refused {m} (Wrong.misfit {k = k} {l = t} l f off) =
    let x = staged f in
    let c = cutting x.cs x.texts in
    let s = subst (Stage m k) c.is x.stage in
    refused-left m (t ++ c.behind) x.short (stage-misfit l s off) (cut-place k m (stage-there s))
wrong-refused {m} (unended {rs = rs} w) = end-stops m (rows_at w) (λ o. ap (rows_on o) (no_line (8 - length rs) rs))
wrong-refused {m} (no_row w) = line-stops m 5 (rows_at w) (λ o behind cs. ap (rows_on o) (first-empty 8 behind cs))
wrong-refused {m} (ninth {rs = rs} {x = x} {l = l} e w) =
    let z : 8 - length rs ≡ 0 = omega arith in
    let k : 5 + length rs ≡ 13 = omega arith in
    line-stops m (5 + length rs) (rows_at w) (λ o behind cs. ap (rows_on o) (ninth-line (8 - length rs) rs x l behind cs z))
    ∙ ap (λ i. refused 6 (lines_size i m)) k
wrong-refused {m} (row_fault {rs = rs} {x = x} {l = l} few w f) =
    text-stops m (5 + length rs) (rows_at w) (fault-left (line_text (x ∷ l)) f)
    (λ o behind cs. ap (rows_on o) (fault-reads rs few x l behind cs f))
wrong-refused {m} (twice {rs = rs} {x = x} {l = l} few w t a) =
    text-stops m (5 + length rs) (rows_at w) (runway-left (line_text (x ∷ l)))
    (λ o behind cs. ap (rows_on o) (twice-reads rs few x l behind cs t a))
wrong-refused {m} (no_items w) = end-stops m (below_rows w) (λ o. refl)
wrong-refused {m} (bad_items {rs = rs} w off) = line-stops m (6 + length rs) (below_rows w) (λ o behind cs. rw (items-unread off))
wrong-refused {m} (empty_items {rs = rs} w) = line-stops m (6 + length rs) (below_rows w) (λ o behind cs. ap (below o rs) (items-empty behind cs))
wrong-refused {m} (no_language w) = end-stops m (below-items w).1 (λ o. refl)
wrong-refused {m} (open_language {rs = rs} w shut) = open-stops m (7 + length rs) (below-items w).1 (λ o behind cs. rw shut)
wrong-refused {m} (bad_language {rs = rs} {l = l} w shut v) =
    line-stops m (7 + length rs) (below-items w).1 (λ o behind cs. rw (language-unread (line_text l) v, shut))
wrong-refused {m} (after {k = k} w) = line-stops m k (below-closed w).1 (λ o behind cs. refl)
wrong-refused {m} (serials {rs = rs} w e u₃ u₄ off) =
    let x = ended w in
    let o = x.opening in
    let t = texts-are o e in
    let d : o.heading.title.serial ≡ o.serial → ⊥ = λ q. off (ap (λ k. k.title.serial) (sym (heading-is o t.0 u₃)) ∙ (q ∙ serial-is o t.1 u₄)) in
    refused-left m (serial_on o.fourth) o.short (x.reads ∙ differ₁₀ o rs x.found d)
    (serial-place o ∙ ap (λ k. lines_size 3 m + (length k - 4)) t.1)
wrong-refused {m} (aerodromes {rs = rs} {l₅ = l₅} w e u₃ u₄ u₅ off) =
    let x = ended w in
    let o = x.opening in
    let t = texts-are o e in
    let hs = heading-is o t.0 u₃ in
    let q : o.heading.title.serial ≡ o.serial = ap (λ k. k.title.serial) hs ∙ sym (serial-is o t.1 u₄) in
    let l : text o.fifth ≡ l₅ = cc t.2 in
    let z : o.heading.title.aerodrome ≡ o.aerodrome → ⊥ = λ z. off (ap (λ k. k.title.aerodrome) (sym hs) ∙ (z ∙ aerodrome-is o l u₅)) in
    refused-left m (onward o.fifth) o.short (x.reads ∙ differ₁₁ o rs x.found q z) (cut-place 4 m (ap (drop 4) o.is))
wrong-refused {m} (times {rs = rs} {l₅ = l₅} w e u₃ u₄ u₅ off) =
    let x = ended w in
    let o = x.opening in
    let t = texts-are o e in
    let hs = heading-is o t.0 u₃ in
    let q : o.heading.title.serial ≡ o.serial = ap (λ k. k.title.serial) hs ∙ sym (serial-is o t.1 u₄) in
    let l : text o.fifth ≡ l₅ = cc t.2 in
    let z : o.heading.title.aerodrome ≡ o.aerodrome = ap (λ k. k.title.aerodrome) hs ∙ sym (aerodrome-is o l u₅) in
    refused-left m (time_on o.third) o.short (x.reads ∙ differ₁₂ o rs x.found q z (λ y. off (ap (λ k. k.time) (sym hs) ∙ y)))
    (time-place o ∙ ap (λ k. lines_size 2 m + (length k - 8)) t.0)
