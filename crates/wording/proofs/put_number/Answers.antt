use Rattle.std.proofs.Common.{le-leb}
use Rattle.std.proofs.lemmas.Bool.{lt-leb}
use Rattle.wording.proofs.put_number.Goals as goal
use Rattle.wording.proofs.put_number.Goals.{then-x-ge1000, else-x-ge1000}

pub returns : goal.returns
returns c =
    elim c.if-x-ge1000.branch [
      | then-x-ge1000 w ↦ rw (le-leb 1000 c.args.x w.if-x-ge1000.true) (rw (w.digits-is, c.from.ensures) at c.put_digits.ensures)
      | else-x-ge1000 w ↦ rw (lt-leb 1000 c.args.x w.if-x-ge1000.false) (rw (w.digits-is, c.from.ensures) at c.put_digits.ensures)
    ]
