-- The rows read line by line: each line ends the reading, or is one row more.
use Rattle.std.proofs.Common.{ℕ, suc, ◌+◌, ◌-◌, ◌<◌, ◌≤◌, ◌≡◌, refl, sym, ◌∙◌, ap, List, [], ◌∷◌, ◌++◌, cond, true, false, eqb, Ok, Err, length, take, drop, set, add-one, length-append, length-drop, length-take-le, drop_of_length-le, drop-drop, take-append-drop, ne_eqb, eq-eqb, arith}
use Rattle.std.proofs.lemmas.List.{drop-append-le}
use Rattle.text.specs.declared.Line.{Line}
use Rattle.text.specs.declared.refusal.Fault.{Fault}
use Rattle.text.specs.declared.refusal.Refusal.TheVariants.{Outline, NinthRow, RunwayTwice}
use Rattle.text.specs.Choice.{is_empty}
use Rattle.text.specs.Read.{got, skip}
use Rattle.text.specs.Numbers.{read_digits}
use Rattle.text.specs.Lines.{Cut, cut, cuts, line_size, lines_size, closed, line_text, beyond}
use Rattle.text.specs.Out.{Out, refuse, taken, next, before, at_end, finished}
use Rattle.text.specs.Refusals.{number}
use Rattle.text.specs.Code.Held.{Reached, first_line}
use Rattle.text.specs.Code.Faults.{Refused}
use Rattle.text.specs.Laws.Base.{true-false, no-misfit}
use Rattle.text.specs.Laws.Lines.{line-inside, line-place, line-cuts}
use Rattle.text.specs.Laws.Cuts.{first-cuts}
use Rattle.text.specs.Laws.Left.{digits-size, skip-more}
use Rattle.text.proofs.Laws.Left.{digits-left}
use Rattle.text.specs.Laws.Places.{text-on}
use Rattle.runway.specs.Runway.{read_runway}
use Rattle.row.specs.declared.Row.{Row}
use Rattle.rowtext.specs.Reading.{find_row}
use Rattle.rowtext.specs.Laws.Same.{row-runway}
use Rattle.body.specs.declared.Rows.{Rows}
use Rattle.body.specs.declared.RowLine.{RowLine}
use Rattle.body.specs.Rows.{most_rows, rows_of, make_rows, is_among, Block, block, runway_on, read_rows}
use Rattle.body.specs.Code.Held.{LineTaken, LineHeld, Kept, RowsTaken}
use Rattle.body.specs.Laws.Kept.{held, counted, grown-rows, grown, none_kept}
use Rattle.body.specs.Laws.Rows.{row-line}

-- a line's row goes on, or its fault stays, as far behind the line's start as in its text
goes-row : {A : Type 0} (t : List ℕ) (behind : List ℕ) (f : Row → Out A) {r : Row} → find_row t ≡ taken r → next (before behind (find_row t)) f ≡ f r
goes-row t behind f e = rw e

stays-row : {A : Type 0} {t : List ℕ} (behind : List ℕ) (f : Row → Out A) {x : Fault} → Refused t (find_row t) x
    → next (before behind (find_row t)) f ≡ refuse (number x.refusal) (drop x.place (t ++ behind))
stays-row {t = t} behind f {x} h = rw (h.says, drop-append-le x.place t behind h.within)

some-runway : (m : List ℕ) {p : ℕ × ℕ} {r : List ℕ} → read_runway m ≡ got p r → is_empty m ≡ false
unfolding read_digits
some-runway [] e = no-misfit e
some-runway (x ∷ m) e = refl

runway-behind : (t others : List ℕ) {r : Row} → find_row t ≡ taken r → (8 ≤ length t) × (runway_on t ++ others ≡ skip (drop 8 (t ++ others)))
runway-behind t others e =
    let w = row-runway t e in
    let s = digits-size 8 t w.time in (
      omega arith,
      rw w.time (sym (ap skip (digits-left 7 t w.time others) ∙ skip-more w.behind others (some-runway (skip w.behind) w.runway))),
    )

-- no row fits behind eight
no_room : (seen : List Row) (l behind : List ℕ) (cs : List Cut) → is_empty l ≡ false → read_rows 0 seen (cut l behind ∷ cs) ≡ refuse 6 (l ++ behind)
unfolding read_rows
no_room seen [] behind cs e = true-false e
no_room seen (x ∷ l) behind cs e = refl

-- no row so far, told by the count
none_yet : {r : Rows} → Kept r → is_empty (rows_of r) ≡ eqb r.count 0
none_yet {r} k = go (rows_of r) (counted k)
  where
    go : (rs : List Row) → length rs ≡ r.count → is_empty rs ≡ eqb r.count 0
    go [] e = sym (eq-eqb r.count 0 (sym e))
    go (row ∷ rs) e = sym (ne_eqb r.count 0 (omega arith))

-- the reading so far: these rows are kept, and the next line starts at `at`
pub record SoFar (m : List ℕ) (r : Rows) (at : ℕ) : Type 0 where
  pub kept : Kept r
  pub inside : at ≤ length m
  pub lies : at ≡ lines_size r.count m
  pub left : read_rows most_rows [] (cuts m) ≡ read_rows (most_rows - r.count) (rows_of r) (cuts (drop at m))

-- where the reading begins
pub begun : (m : List ℕ) → SoFar m (make_rows []) 0
unfolding lines_size
begun m = record { kept = none_kept; inside = omega arith; lies = refl; left = refl }

module _ {m : List ℕ} {r : Rows} {at : ℕ} (s : SoFar m r at) where
  abbrev whole : Out Block
  whole = read_rows most_rows [] (cuts m)

  -- a line is missing
  pub missing : length m ≤ at → Refused m whole (record { refusal = Outline; place = at })
  unfolding read_rows cuts
  missing h = record { within = s.inside; says = s.left ∙ rw (drop_of_length-le m h) }

  -- the line that starts there
  module _ (h : at < length m) {line : Line} (q : line ≡ first_line (take (length m - at) (drop at m))) where
    abbrev text : List ℕ
    text = take line.size (drop at m)

    abbrev behind_text : List ℕ
    behind_text = drop (at + line.size) m

    abbrev below : ℕ
    below = at + line.next

    abbrev rest : List Cut
    rest = cuts (drop below m)

    -- it is what is read
    first : whole ≡ read_rows (most_rows - r.count) (rows_of r) (cut text behind_text ∷ rest)
    first = s.left ∙ ap (read_rows (most_rows - r.count) (rows_of r)) (line-cuts m at h q)

    from-here : text ++ behind_text ≡ drop at m
    from-here = ap (λ k. text ++ k) (sym (drop-drop line.size at m)) ∙ take-append-drop line.size (drop at m)

    below-lies : below ≡ lines_size (suc r.count) m
    below-lies = line-place m at h q r.count s.lies

    -- it lies within the message
    pub within : (at + line.size ≤ length m) × (below ≤ length m)
    within = line-inside m at h q

    -- it is empty
    module _ (z : line.size ≡ 0) where
      nothing-there : text ≡ []
      nothing-there = rw z

      pub blank-first : r.count ≡ 0 → Refused m whole (record { refusal = Outline; place = at })
      unfolding read_rows
      blank-first c =
          let e : is_empty (rows_of r) ≡ true = none_yet s.kept ∙ eq-eqb r.count 0 c in
          record { within = s.inside; says = first ∙ rw (nothing-there, e) (ap (refuse 4) (rw nothing-there at from-here)) }

      pub blank-line : (r.count ≡ 0 → ⊥) → RowsTaken m (record { rows = r; closed = false; next = below })
      unfolding read_rows
      blank-line c =
          let e : is_empty (rows_of r) ≡ false = none_yet s.kept ∙ ne_eqb r.count 0 c in
          record { kept = s.kept; says = first ∙ rw (nothing-there, e); behind = below-lies }

    module _ (z : line.size ≡ 0 → ⊥) where
      some-text : is_empty text ≡ false
      some-text = go text (length-take-le line.size (drop at m) (omega (arith, length-drop at m, within.0)))
        where
          go : (l : List ℕ) → length l ≡ line.size → is_empty l ≡ false
          go [] e = absurd (z (sym e))
          go (x ∷ l) e = refl

      -- it is a ninth
      pub ninth : most_rows ≤ r.count → Refused m whole (record { refusal = NinthRow; place = at })
      ninth f =
          let n : most_rows - r.count ≡ 0 = omega arith in
          record { within = s.inside; says = first ∙ rw n (no_room (rows_of r) text behind_text rest some-text) ∙ ap (refuse 6) from-here }

      -- it is read as a row
      module _ (f : r.count < most_rows) where
        abbrev row-text : List ℕ
        row-text = line_text text

        abbrev others : List ℕ
        others = beyond text behind_text

        -- and what is read then
        abbrev behind : Row → Out Block
        behind row =
            cond (is_among row (rows_of r)) (refuse 7 (runway_on row-text ++ others))
            (cond (closed text) (at_end rest (block (rows_of r ++ (row ∷ [])) finished)) (read_rows (most_rows - (r.count + 1)) (rows_of r ++ (row ∷ [])) rest))

        row_here : whole ≡ next (before others (find_row row-text)) behind
        row_here =
            let n : most_rows - r.count ≡ suc (most_rows - (r.count + 1)) = omega arith in
            first ∙ rw n (row-line (most_rows - (r.count + 1)) (rows_of r) text behind_text rest some-text)

        whole_here : row-text ++ others ≡ drop at m
        whole_here = text-on text behind_text ∙ from-here

        long : length row-text + length others ≡ length m - at
        long = omega (arith, ap length whole_here, length-append row-text others, length-drop at m)

        -- the part of the message that it is
        abbrev part : List ℕ
        part = take (at + line.size - at) (drop at m)

        part-is : part ≡ text
        part-is = let n : at + line.size - at ≡ line.size = omega arith in rw n

        -- it is none
        pub stray : {x : Fault} → LineHeld part (Err x) → Refused m whole (record { refusal = x.refusal; place = at + x.place })
        stray {x} p =
            let k = rw part-is at p in
            let w = k.within in
            record {
              within = omega (arith, long);
              says = row_here ∙ stays-row others behind k ∙ rw (whole_here, drop-drop);
            }

        module _ {x : RowLine} (p : LineHeld part (Ok x)) where
          there : LineTaken text x
          there = rw part-is at p

          one_more : whole ≡ behind x.row
          one_more = row_here ∙ goes-row row-text others behind there.says

          -- its runway, behind its time
          runway-here : (8 ≤ length row-text) × (runway_on row-text ++ others ≡ skip (drop 8 (row-text ++ others)))
          runway-here = runway-behind row-text others there.says

          pub time-inside : at + 8 ≤ length m
          time-inside = omega (arith, runway-here.0, long)

          -- it is there already
          pub twice : is_among x.row (rows_of r) ≡ true → {told : ℕ} → Reached m (skip (drop (at + 8) m)) told → Refused m whole (record { refusal = RunwayTwice; place = told })
          twice b g =
              let on = runway-here.1 ∙ ap (λ k. skip (drop 8 k)) whole_here ∙ ap skip (drop-drop 8 at m) in
              record { within = g.within; says = one_more ∙ rw b (ap (refuse 7) (on ∙ sym g.left)) }

          module _ (b : is_among x.row (rows_of r) ≡ false) where
            abbrev more_rows : Rows
            more_rows = held (r.count + 1) (set r.rows r.count x.row)

            rows-are : rows_of more_rows ≡ rows_of r ++ (x.row ∷ [])
            rows-are = grown-rows s.kept x.row f

            -- it is one row more
            pub goes_on : x.closed ≡ false → SoFar m more_rows below
            goes_on c = record {
              kept = grown s.kept x.row f;
              inside = within.1;
              lies = rw add-one below-lies;
              left = one_more ∙ rw (b, ← there.closes, c, rows-are);
            }

            -- it is the last row
            module _ (c : x.closed ≡ true) where
              last-said : whole ≡ at_end rest (block (rows_of r ++ (x.row ∷ [])) finished)
              last-said = one_more ∙ rw (b, ← there.closes, c)

              pub trailing : below < length m → Refused m whole (record { refusal = Outline; place = below })
              unfolding cuts
              trailing l = record {
                within = within.1;
                says = last-said ∙ rw (first-cuts (drop below m) (omega (arith, length-drop below m))) (ap (refuse 4) (take-append-drop (line_size (drop below m)) (drop below m)));
              }

              pub last_line : length m ≤ below → RowsTaken m (record { rows = more_rows; closed = true; next = 0 })
              unfolding cuts
              last_line l = record {
                kept = grown s.kept x.row f;
                says = last-said ∙ rw (drop_of_length-le m l, rows-are);
                behind = refl;
              }
