-- A record is valid exactly if it is made of good parts.
use Rattle.std.specs.Prelude.{◌≡◌, refl, List, ◌∷◌, ◌++◌, map, true}
use Rattle.std.proofs.Common.{sym, ◌∙◌, ap}
use Rattle.text.specs.Piece.{Piece}
use Rattle.text.specs.Laws.Base.{and-1, and-2, and_i}
use Rattle.row.specs.declared.Row.{Row}
use Rattle.rowtext.specs.Text.{row_pieces}
use Rattle.items.specs.Awareness.{valid_items}
use Rattle.frontlines.specs.declared.Addresses.{Addresses}
use Rattle.frontlines.specs.declared.Filing.{Filing}
use Rattle.frontlines.specs.Addresses.{addresses_pieces, valid_addresses}
use Rattle.frontlines.specs.Filing.{filing_pieces, valid_filing}
use Rattle.frontlines.specs.declared.Heading.{Heading}
use Rattle.frontlines.specs.Heading.{heading_pieces, valid_title, valid_heading, serial_pieces, aerodrome_pieces}
use Rattle.body.specs.Rows.{rows_of, latest}
use Rattle.remarks.specs.Remarks.{Remarks, remarks, remark_lines}
use Rattle.items.specs.Parts.{items_of, language_of, none_or_language}
use Rattle.body.specs.Laws.Parts.{GoodRows, rows-kept, rows-valid, rows_made, rows-good, latest-real}
use Rattle.items.specs.Laws.Parts.{items_kept, items-held, items-valid, items-made, language-kept, language-held, language-valid, language-made}
use Rattle.record.specs.declared.Record.{Record}
use Rattle.record.specs.Record.{make_record, valid_record}
use Rattle.record.specs.Notice.{notice_lines}

-- what the lines say
pub record Parts : Type 0 where
  pub addresses : Addresses
  pub filing : Filing
  pub heading : Heading
  pub rows : List Row
  pub remarks : Remarks

abbrev pub made : Parts → Record
made p = make_record p.addresses p.filing p.heading.title p.rows p.remarks

abbrev pub part_lines : Parts → List (List Piece)
part_lines p =
    addresses_pieces p.addresses ∷ filing_pieces p.filing ∷ heading_pieces p.heading ∷ serial_pieces p.heading.title.serial
    ∷ aerodrome_pieces p.heading.title.aerodrome
    ∷ (map row_pieces p.rows ++ remark_lines p.remarks.items p.remarks.language)

pub record Good (p : Parts) : Type 0 where
  pub addresses : valid_addresses p.addresses ≡ true
  pub filing : valid_filing p.filing ≡ true
  pub heading : valid_heading p.heading ≡ true
  pub rows : GoodRows p.rows
  pub items : valid_items p.remarks.items ≡ true
  pub language : none_or_language p.remarks.language ≡ true
  pub time : p.heading.time ≡ latest p.rows

abbrev pub parts_of : Record → Parts
parts_of r = record {
  addresses = r.addresses;
  filing = r.filing;
  heading = record { title = r.title; time = latest (rows_of r.rows) };
  rows = rows_of r.rows;
  remarks = remarks (items_of r.items) (language_of r.language);
}

pub lines_are : (r : Record) → notice_lines r ≡ part_lines (parts_of r)
unfolding notice_lines
lines_are r = refl

-- a valid heading has a valid title
pub title-valid : (h : Heading) → valid_heading h ≡ true → valid_title h.title ≡ true
unfolding valid_heading
title-valid h v = and-1 _ _ v

-- good parts make a valid record
module _ (p : Parts) (g : Good p) where
  pub parts-kept : parts_of (made p) ≡ p
  parts-kept =
      let rs = rows-kept p.rows g.rows in
      let is = items_kept p.remarks.items g.items in
      let l = language-kept p.remarks.language g.language in
      let t = ap latest rs ∙ sym g.time in
      λ i. record {
        addresses = p.addresses;
        filing = p.filing;
        heading = record { title = p.heading.title; time = t i };
        rows = rs i;
        remarks =
            record { items = is i; language = l i };
      }

  pub good-valid : valid_record (made p) ≡ true
  unfolding valid_record
  good-valid =
      and_i g.addresses (and_i g.filing (and_i (title-valid p.heading g.heading)
      (and_i (rows-valid p.rows g.rows) (and_i (items-held p.remarks.items g.items) (language-held p.remarks.language g.language)))))

-- a valid record is made of good parts
module _ (r : Record) (valid : valid_record r ≡ true) where
  pub valid-good : Good (parts_of r)
  unfolding valid_record valid_heading
  valid-good =
      let h = valid in
      let k = and-2 _ _ (and-2 _ _ (and-2 _ _ h)) in
      let rs = rows-good r.rows (and-1 _ _ k) in
      record {
        addresses = and-1 _ _ h;
        filing = and-1 _ _ (and-2 _ _ h);
        heading = and_i (and-1 _ _ (and-2 _ _ (and-2 _ _ h))) (latest-real (rows_of r.rows) rs);
        rows = rs;
        items = items-valid r.items (and-1 _ _ (and-2 _ _ k));
        language = language-valid r.language (and-2 _ _ (and-2 _ _ k));
        time = refl;
      }

  pub made-back : made (parts_of r) ≡ r
  unfolding valid_record
  made-back =
      let k = and-2 _ _ (and-2 _ _ (and-2 _ _ valid)) in
      let rs = rows_made r.rows (and-1 _ _ k) in
      let is = items-made r.items (and-1 _ _ (and-2 _ _ k)) in
      let l = language-made r.language (and-2 _ _ (and-2 _ _ k)) in
      λ i. record { addresses = r.addresses; filing = r.filing; title = r.title; rows = rs i; items = is i; language = l i }
