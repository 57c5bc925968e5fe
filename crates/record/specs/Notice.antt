-- The notice of a record: document 01, "The notice, line by line".
use Rattle.std.specs.Prelude.{ℕ, List, ◌∷◌, ◌++◌, map}
use Rattle.text.specs.Piece.{Piece, canonical}
use Rattle.text.specs.Lines.{ended}
use Rattle.rowtext.specs.Text.{row_pieces}
use Rattle.frontlines.specs.Addresses.{addresses_pieces}
use Rattle.frontlines.specs.Filing.{filing_pieces}
use Rattle.frontlines.specs.Heading.{heading_pieces, serial_pieces, aerodrome_pieces}
use Rattle.body.specs.Rows.{rows_of, latest}
use Rattle.items.specs.Parts.{items_of, language_of}
use Rattle.remarks.specs.Remarks.{remark_lines}
use Rattle.record.specs.declared.Record.{Record}

-- lines 1 to 5, with this time in the heading, the rows, and what stands below them
abbrev pub notice_lines_at : ℕ → Record → List (List Piece)
notice_lines_at time r =
    addresses_pieces r.addresses
    ∷ filing_pieces r.filing
    ∷ heading_pieces (record { title = r.title; time = time })
    ∷ serial_pieces r.title.serial
    ∷ aerodrome_pieces r.title.aerodrome
    ∷ (map row_pieces (rows_of r.rows) ++ remark_lines (items_of r.items) (language_of r.language))

-- the bytes that the writer gives for this time in the heading
unfoldable pub notice_text_at : ℕ → Record → List ℕ
notice_text_at time r = canonical (ended (notice_lines_at time r))

-- "The heading's time is the latest row time"
unfoldable pub notice_lines : Record → List (List Piece)
notice_lines r = notice_lines_at (latest (rows_of r.rows)) r

-- "`)` follows the last character of the last line; then LF"
unfoldable pub notice : Record → List Piece
notice r = ended (notice_lines r)

-- the bytes that the writer gives
unfoldable pub notice_text : Record → List ℕ
notice_text r = canonical (notice r)
