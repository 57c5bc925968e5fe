-- What is below the front: the rows, the remarks, and whether the lines agree.
use Rattle.std.specs.Prelude.{ℕ, ◌+◌, ◌<◌, ◌≤◌, ◌≡◌, refl, List, [], cond, Bool, true, false, Result, Ok, Err, eqb, length, drop}
use Rattle.std.proofs.Common.{sym, ◌∙◌, ap, arith, length-drop, drop-drop, le-leb}
use Rattle.std.proofs.lemmas.Bool.{lt-leb}
use Rattle.text.specs.Choice.{same_bytes}
use Rattle.text.specs.declared.refusal.Refusal.{Refusal}
use Rattle.text.specs.declared.refusal.Refusal.TheVariants.{SerialsDiffer, AerodromesDiffer, NotLatestTime}
use Rattle.text.specs.declared.refusal.Fault.{Fault}
use Rattle.text.specs.Refusals.{number}
use Rattle.text.specs.Code.Faults.{Refused}
use Rattle.text.specs.Code.Held.{Reached}
use Rattle.text.specs.Lines.{onward, cuts, longest}
use Rattle.text.specs.Out.{Out, refuse, taken, place, next, After, finished, more}
use Rattle.text.specs.Laws.Left.{drop-place}
use Rattle.body.specs.declared.Rows.{Rows}
use Rattle.body.specs.declared.RowsFound.{RowsFound}
use Rattle.body.specs.Rows.{most_rows, rows_of, latest, read_rows}
use Rattle.body.specs.Code.Held.{RowsTaken}
use Rattle.remarks.specs.Remarks.{Remarks, read_remarks}
use Rattle.remarks.specs.declared.Remarks as Code
use Rattle.remarks.specs.Code.Held.{RemarksTaken}
use Rattle.front.specs.declared.Front.{Front}
use Rattle.front.specs.declared.FrontFound.{FrontFound}
use Rattle.front.specs.Places.{time_on, serial_on}
use Rattle.front.specs.Code.Front.{heading_of, Opening, FrontTaken, FrontRefused}
use Rattle.record.specs.declared.Record.{Record}
use Rattle.record.specs.Record.{make_record}
use Rattle.record.specs.Answer.{accepted, refused}
use Rattle.record.specs.Code.Fitted.{mismatch, record_of}
use Rattle.notice.specs.Reading.{agreeing, result, reading}
use Rattle.notice.specs.Code.Below.{read_below, Opened, DisagreesAt, disagree_on}
use Rattle.notice.specs.Laws.Front.{front-is}

-- the record of a front, rows and remarks, if its lines agree
abbrev settled : Opening → Rows → Remarks → Out Record
settled o r x =
    let f = o.front in
    agreeing (heading_of f) o.third f.serial o.fourth f.aerodrome o.fifth (rows_of r) (make_record f.addresses f.filing f.title (rows_of r) x)

-- 10, 11 and 12, or the record
abbrev judged : Opening → Record → Result (Unit {0}) Refusal → Out Record
judged o all (Ok u) = taken all
judged o all (Err n) = refuse (number n) (disagree_on (number n) o)

agreed : (o : Opening) (r : Rows) (x : Remarks) → settled o r x ≡ judged o (make_record o.front.addresses o.front.filing o.front.title (rows_of r) x) (mismatch o.front (rows_of r))
unfolding agreeing mismatch disagree_on
agreed o r x = go (eqb o.front.title.serial o.front.serial) (same_bytes o.front.title.aerodrome o.front.aerodrome) (eqb o.front.time (latest (rows_of r)))
  where
    all : Record
    all = make_record o.front.addresses o.front.filing o.front.title (rows_of r) x

    go : (a b c : Bool) → cond a (cond b (cond c (taken all) (refuse 12 (time_on o.third))) (refuse 11 (onward o.fifth))) (refuse 10 (serial_on o.fourth))
        ≡ judged o all (cond a (cond b (cond c (Ok tt) (Err NotLatestTime)) (Err AerodromesDiffer)) (Err SerialsDiffer))
    go true true true = refl
    go true true false = refl
    go true false c = refl
    go false b c = refl

pub too_long_lem : (m : List ℕ) → longest < length m → refused 1 longest ≡ reading m
unfolding reading
too_long_lem m h = rw (lt-leb (length m) longest h)

-- a message that is not too long
module _ (m : List ℕ) (few : length m ≤ longest) where
  pub front-refuses : {f : Fault} → FrontRefused m f → refused (number f.refusal) f.place ≡ reading m
  unfolding reading
  front-refuses {f} h = rw (le-leb (length m) longest few, front-is (cuts m), h.says, drop-place f.place m h.within)

  -- its front is read
  module _ {r : FrontFound} (h : FrontTaken m r) where
    abbrev o : Opening
    o = h.opening

    abbrev below : List ℕ
    below = drop r.next m

    went_on : reading m ≡ result m (read_below o (cuts below))
    unfolding reading
    went_on = rw (le-leb (length m) longest few, front-is (cuts m), h.says)

    pub opened : Opened m
    opened = record { opening = o; below = cuts below; says = h.says }

    module _ {part : List ℕ} (e : part ≡ below) where
      pub rows-refused : {f : Fault} → Refused part (read_rows most_rows [] (cuts part)) f → refused (number f.refusal) (r.next + f.place) ≡ reading m
      unfolding read_below
      rows-refused {f} g =
          let inside : r.next + f.place ≤ length m = omega (arith, h.within, g.within, ap length e, length-drop r.next m) in
          sym (went_on ∙ rw (← e) (rw g.says
          (ap (refused (number f.refusal)) (ap (λ k. place m (drop f.place k)) e ∙ ap (place m) (drop-drop f.place r.next m) ∙ drop-place (r.next + f.place) m inside))))

      -- so are the rows
      module _ {s : RowsFound} (g : RowsTaken part s) where
        abbrev after : List ℕ → After
        after k = cond s.closed finished (more (cuts k))

        read-on : reading m ≡ result m (next (read_remarks (after (drop s.next below))) (settled o s.rows))
        unfolding read_below
        read-on = went_on ∙ rw (← e) (rw g.says)

        -- what stands behind them, from k on
        module _ {k : ℕ} (there : Reached part (drop s.next part) k) {last : List ℕ} (q : last ≡ drop (r.next + k) m) where
          abbrev read : Out Remarks
          read = read_remarks (after last)

          last-is : last ≡ drop s.next below
          last-is = q ∙ sym (drop-drop k r.next m) ∙ ap (drop k) (sym e) ∙ there.left ∙ ap (drop s.next) e

          reads : reading m ≡ result m (next read (settled o s.rows))
          reads = read-on ∙ ap (λ l. result m (next (read_remarks (after l)) (settled o s.rows))) (sym last-is)

          -- a refusal below the rows, at its place in the message
          pub remarks-refused : {f : Fault} → Refused last read f → refused (number f.refusal) (r.next + k + f.place) ≡ reading m
          remarks-refused {f} p =
              let inside : r.next + k + f.place ≤ length m = omega (arith, h.within, there.within, p.within, ap length e, length-drop r.next m, ap length q, length-drop (r.next + k) m) in
              sym (reads ∙ rw p.says
              (ap (refused (number f.refusal)) (ap (λ l. place m (drop f.place l)) q ∙ ap (place m) (drop-drop f.place (r.next + k) m) ∙ drop-place (r.next + k + f.place) m inside)))

          module _ {x : Code.Remarks} (t : RemarksTaken read x) where
            settles : {a : Result (Unit {0}) Refusal} → a ≡ mismatch r.front (rows_of s.rows)
                → reading m ≡ result m (judged o (make_record o.front.addresses o.front.filing o.front.title (rows_of s.rows) t.said) a)
            settles d =
                let differ = ap (λ (f : Front). mismatch f (rows_of s.rows)) h.fronts ∙ sym d in
                reads ∙ rw (t.says, agreed o s.rows t.said, differ)

            pub lines-differ : {n : Refusal} → Err n ≡ mismatch r.front (rows_of s.rows) → {told : ℕ} → DisagreesAt m n told → refused (number n) told ≡ reading m
            unfolding opened
            lines-differ {n} d at = sym (settles d ∙ ap (refused (number n)) (sym (at opened)))

            pub lines-agree : Ok tt ≡ mismatch r.front (rows_of s.rows) → accepted (record_of r.front s.rows x) ≡ reading m
            lines-agree d = sym (settles d ∙ whole)
              where
                whole : accepted (make_record o.front.addresses o.front.filing o.front.title (rows_of s.rows) t.said) ≡ accepted (record_of r.front s.rows x)
                whole = λ i. accepted (record {
                  addresses = (h.fronts i).addresses;
                  filing = (h.fronts i).filing;
                  title = (h.fronts i).title;
                  rows = sym g.kept.zeros i;
                  items = (sym t.keeps i).items;
                  language = (sym t.keeps i).language;
                })
