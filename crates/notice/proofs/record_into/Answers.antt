use Rattle.std.specs.Prelude.{◌+◌, refl}
use Rattle.std.proofs.lemmas.Result.{err_from_is_err_and}
use Rattle.text.specs.Laws.Held.{part-all}
use Rattle.notice.proofs.Judging.{too_long_lem, front-refuses, opened, rows-refused, remarks-refused, lines-differ, lines-agree}
use Rattle.notice.proofs.record_into.Goals as goal

pub returns-then-message-gt-LONGEST : goal.returns-then-message-gt-LONGEST
returns-then-message-gt-LONGEST c = rw c.at.ensures (too_long_lem c.args.message.now c.if-message-gt-LONGEST.true, refl)

pub returns-in_err-opening : goal.returns-in_err-opening
returns-in_err-opening c =
    let p = err_from_is_err_and c.from_residual.result c.from_residual.ensures.1 in
    rw (p.1, p.2) (front-refuses c.args.message.now c.if-message-gt-LONGEST.false c.in_err-opening.ensures, refl)

pub returns-in-Err : goal.returns-in-Err
returns-in-Err c =
    let m = c.args.message.now in
    let r = c.in_ok-opening.opening in
    rw c.at-in-Err.ensures (rows-refused m c.if-message-gt-LONGEST.false c.in_ok-opening.ensures (part-all r.next m) c.in-Err.ensures, refl)

pub returns-in-Err-read_remarks : goal.returns-in-Err-read_remarks
returns-in-Err-read_remarks c =
    let m = c.args.message.now in
    let r = c.in_ok-opening.opening in
    rw c.at-in-Err-read_remarks.ensures
    (remarks-refused m c.if-message-gt-LONGEST.false c.in_ok-opening.ensures (part-all r.next m) c.in-Ok.ensures c.place.ensures (part-all (r.next + c.place.result) m) c.in-Err-read_remarks.ensures.0, refl)

pub disagreement_place-requires : goal.disagreement_place-requires
disagreement_place-requires c = opened c.args.message.now c.if-message-gt-LONGEST.false c.in_ok-opening.ensures

pub returns-in-Err-mismatch : goal.returns-in-Err-mismatch
returns-in-Err-mismatch c =
    let m = c.args.message.now in
    let r = c.in_ok-opening.opening in
    rw c.at-in-Err-mismatch.ensures (
      lines-differ m c.if-message-gt-LONGEST.false c.in_ok-opening.ensures (part-all r.next m) c.in-Ok.ensures c.place.ensures (part-all (r.next + c.place.result) m)
          c.in_default.ensures.0 c.in-Err-mismatch.ensures c.disagreement_place.ensures,
      refl,
    )

pub returns : goal.returns
returns c =
    let m = c.args.message.now in
    let r = c.in_ok-opening.opening in
    rw c.record_of.ensures (
      lines-agree m c.if-message-gt-LONGEST.false c.in_ok-opening.ensures (part-all r.next m) c.in-Ok.ensures c.place.ensures (part-all (r.next + c.place.result) m)
          c.in_default.ensures.0 c.in_default-mismatch.ensures,
      tt,
    )
