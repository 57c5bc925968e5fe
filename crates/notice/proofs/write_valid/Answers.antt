use Rattle.std.proofs.Common.{sym, ◌∙◌, rules, arith}
use Rattle.record.specs.Notice.{notice_text_at}
use Rattle.notice.specs.Laws.Size.{text-fits}
use Rattle.notice.specs.Laws.Text.{wrote-text, wrote-short}
use Rattle.notice.proofs.write_valid.Goals as goal

pub returns-then-not-has_room : goal.returns-then-not-has_room
returns-then-not-has_room c =
    let a = c.args in
    let room = c.has_room.ensures.fits (notice_text_at a.time a.r) (search rules) (text-fits a.time a.r c.requires) (omega arith) in
    rw c.from.ensures (wrote-short a.time a.r c.requires (sym room ∙ c.if-not-has_room.true))

pub returns : goal.returns
returns c =
    let a = c.args in
    let room = c.has_room.ensures.fits (notice_text_at a.time a.r) (search rules) (text-fits a.time a.r c.requires) (omega arith) in
    rw c.from-2.ensures (wrote-text a.time a.r c.requires (sym room ∙ c.if-not-has_room.false) c.put_notice.ensures)
