use Rattle.text.specs.Laws.Held.{part-all}
use Rattle.rowtext.proofs.Parts.{within, step-on, way-off, way-end}
use Rattle.rowtext.proofs.find_row.Goals as goal

pub parts-preserved : goal.parts-preserved
parts-preserved c =
    let m = c.args.line.now in
    let l = c.parts in
    let i = l.invariant in
    let s = c.in-Ok.ensures in (
      within m l.at l.parts.rest.now l.row i.1 _ _ c.in-Some.ensures.steps _ (part-all l.at m) i.0 _ s.0,
      step-on m l.at l.parts.rest.now l.row i.1 _ _ c.in-Some.ensures.steps _ (part-all l.at m) c.in-Ok.next s.1,
    )

pub returns-in_default : goal.returns-in_default
returns-in_default c = let l = c.parts in way-end c.args.line.now l.at l.parts.rest.now l.row l.invariant.1 c.in_default.ensures.steps.0

pub returns-in-Err : goal.returns-in-Err
returns-in-Err c =
    let m = c.args.line.now in
    let l = c.parts in
    let i = l.invariant in
    rw c.at.ensures (way-off m l.at l.parts.rest.now l.row i.1 _ _ c.in-Some.ensures.steps _ (part-all l.at m) i.0 c.in-Err.ensures.0)
