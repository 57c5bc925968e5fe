use Rattle.text.specs.Laws.Held.{part-all}
use Rattle.desktext.specs.Laws.Line.{long-report}
use Rattle.desktext.proofs.Lines.{line-unstarted, line-refused, line-reported}
use Rattle.desktext.proofs.read_report.Goals as goal

pub returns-then-line-gt-LONGEST : goal.returns-then-line-gt-LONGEST
returns-then-line-gt-LONGEST c = λ b. long-report b c.args.line.now c.if-line-gt-LONGEST.true

pub returns-in_default : goal.returns-in_default
returns-in_default c = line-unstarted c.args.line.now c.if-line-gt-LONGEST.false c.in_default.ensures.says

pub returns-in-Ok : goal.returns-in-Ok
returns-in-Ok c =
    let line = c.args.line.now in
    let s = c.in-Some.start in
    let row = c.in-Ok.ensures in
    line-reported line c.if-line-gt-LONGEST.false s.value _ c.in-Some.ensures.says (rw (part-all s.next line) at row)

pub returns-in-Err : goal.returns-in-Err
returns-in-Err c =
    let line = c.args.line.now in
    let s = c.in-Some.start in
    let row = c.in-Err.ensures.says in
    line-refused line c.if-line-gt-LONGEST.false s.value _ c.in-Some.ensures.says (rw (part-all s.next line) at row)
