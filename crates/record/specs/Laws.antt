-- The text of a notice is that of its parts, and its heading time is the latest.
use Rattle.std.specs.Prelude.{ℕ, ◌≡◌, refl, List, [], ◌∷◌, ◌++◌, map}
use Rattle.std.proofs.Common.{sym, append_assoc}
use Rattle.text.specs.Piece.{Piece, canonical}
use Rattle.text.specs.Lines.{under}
use Rattle.text.specs.Laws.Ended.{under-append, ended-under}
use Rattle.rowtext.specs.Text.{row_pieces}
use Rattle.frontlines.specs.Addresses.{addresses_pieces}
use Rattle.frontlines.specs.Filing.{filing_pieces}
use Rattle.frontlines.specs.Heading.{heading_pieces, serial_pieces, aerodrome_pieces}
use Rattle.front.specs.Code.Front.{front_text}
use Rattle.body.specs.Rows.{rows_of, latest}
use Rattle.items.specs.Parts.{items_of, language_of}
use Rattle.remarks.specs.Remarks.{remark_lines}
use Rattle.record.specs.declared.Record.{Record}
use Rattle.record.specs.Notice.{notice_text_at, notice_lines, notice, notice_text}

-- lines 2 to 5, the rows and what stands below them are lines under the first
joined : (a : List ℕ) (f h s d : List Piece) (rows below : List (List Piece))
    → (a ++ ((10 ∷ canonical f) ++ ((10 ∷ canonical h) ++ ((10 ∷ canonical s) ++ (10 ∷ canonical d))))) ++ (under rows ++ (under below ++ (41 ∷ 10 ∷ [])))
    ≡ a ++ (under (f ∷ h ∷ s ∷ d ∷ (rows ++ below)) ++ (41 ∷ 10 ∷ []))
unfolding under
joined a f h s d rows below = simp (under-append, append_assoc)

-- lines 1 to 5, the rows, what stands below them, and the end
pub notice-parts : (time : ℕ) (r : Record) → notice_text_at time r
    ≡ front_text r.addresses r.filing r.title time
    ++ (under (map row_pieces (rows_of r.rows)) ++ (under (remark_lines (items_of r.items) (language_of r.language)) ++ (41 ∷ 10 ∷ [])))
unfolding notice_text_at
notice-parts time r =
    let a = canonical (addresses_pieces r.addresses) in
    let rows = map row_pieces (rows_of r.rows) in
    let below = remark_lines (items_of r.items) (language_of r.language) in
    rw ended-under (sym (joined a (filing_pieces r.filing) (heading_pieces (record { title = r.title; time = time }))
    (serial_pieces r.title.serial) (aerodrome_pieces r.title.aerodrome) rows below))

-- the notice of a record bears the latest time
pub notice-latest : (r : Record) → notice_text_at (latest (rows_of r.rows)) r ≡ notice_text r
unfolding notice_text_at notice_text notice notice_lines
notice-latest r = refl
