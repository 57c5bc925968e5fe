-- Every valid record's text has at most 4,096 bytes.
use Rattle.std.specs.Prelude.{ℕ, suc, ◌≤◌, ◌≡◌, true, length}
use Rattle.std.proofs.Common.{arith}
use Rattle.text.specs.Laws.Base.{and-2}
use Rattle.text.specs.Laws.Sizes.{size, total, total-append, ended-size}
use Rattle.frontlines.specs.Heading.{valid_title}
use Rattle.frontlines.specs.Laws.Addresses.{addresses-size}
use Rattle.frontlines.specs.Laws.Filing.{filing-size}
use Rattle.frontlines.specs.Laws.Heading.{heading-size, serial-size, aerodrome-size}
use Rattle.body.specs.Laws.Size.{rows-size}
use Rattle.remarks.specs.Laws.Size.{remarks-size}
use Rattle.record.specs.declared.Record.{Record}
use Rattle.record.specs.Record.{valid_record}
use Rattle.record.specs.Notice.{notice_lines_at, notice_text_at}
use Rattle.notice.specs.Laws.Parts.{Good, title-valid, parts_of, valid-good}

lines-size : (time : ℕ) (r : Record) → Good (parts_of r) → suc (total (notice_lines_at time r)) ≤ 4096
unfolding total valid_title
lines-size time r g =
    let p = parts_of r in
    let v = title-valid p.heading g.heading in
    let a = addresses-size p.addresses g.addresses in
    let b = filing-size p.filing g.filing in
    let c = heading-size (record { title = r.title; time = time }) v in
    let d = serial-size r.title.serial in
    let e = aerodrome-size r.title.aerodrome (and-2 _ _ (and-2 _ _ v)) in
    let f = rows-size p.rows in
    let n = g.rows.few in
    let x = remarks-size p.remarks.items p.remarks.language g.items g.language in
    rw total-append (omega arith)

-- whatever time its heading bears
pub text-fits : (time : ℕ) (r : Record) → valid_record r ≡ true → length (notice_text_at time r) ≤ 4096
unfolding notice_text_at size
text-fits time r v =
    let e = ended-size (notice_lines_at time r) in
    let l = lines-size time r (valid-good r v) in
    omega arith
