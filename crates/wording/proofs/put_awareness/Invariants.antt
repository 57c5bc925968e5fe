-- The first item is put, and as many of the others as are passed.
use Rattle.std.specs.Prelude.{◌+◌, take}
use Rattle.text.specs.Put.{Put}
use Rattle.wording.proofs.Line.{awareness_text}
use Rattle.wording.proofs.put_awareness.Given as goal

abbrev pub invariant-loop-item : goal.invariant-loop-item
invariant-loop-item l = Put l.at (awareness_text (take (l.item-index + 1) l.items)) l.fn.out l.out l.behind
