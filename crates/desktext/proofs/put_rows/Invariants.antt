use Rattle.text.specs.Put.{Put}
use Rattle.desktext.specs.Desk.{shown_rows}
use Rattle.desktext.proofs.put_rows.Given as goal

abbrev pub invariant-loop-r : goal.invariant-loop-r
invariant-loop-r l = Put l.at (shown_rows l.r-index l.fn.b) l.initial.out l.out l.behind
