use Rattle.std.proofs.Common.{rules}
use Rattle.board.proofs.Places.{took-within}
use Rattle.board.proofs.after_report.Goals as goal

pub offset_bounds-next-i : goal.offset_bounds-next-i
offset_bounds-next-i c = let w = took-within c.args.b c.args.x.desk c.args.x.row c.in_ok-i.i c.in_ok-i.ensures in search (rules, w)

pub bounds-next-i : goal.bounds-next-i
bounds-next-i c = took-within c.args.b c.args.x.desk c.args.x.row c.in_ok-i.i c.in_ok-i.ensures
