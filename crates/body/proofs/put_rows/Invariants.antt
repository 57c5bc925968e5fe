use Rattle.std.proofs.Common.{map, take}
use Rattle.text.specs.Put.{Put}
use Rattle.text.specs.Lines.{under}
use Rattle.rowtext.specs.Text.{row_pieces}
use Rattle.body.proofs.put_rows.Given as goal

abbrev pub invariant-loop-row : goal.invariant-loop-row
invariant-loop-row l = Put l.at (under (map row_pieces (take l.row-index l.row-items))) l.initial.out l.out l.behind
