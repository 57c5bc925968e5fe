-- The invariant: the parts that are left, read from here into the row so far, give what all parts give of the whole line.
use Rattle.std.proofs.Common.{◌≡◌, ◌≤◌, length, drop}
use Rattle.row.specs.Row.{blank_row}
use Rattle.rowtext.specs.Code.Filling.{parts, fill_from}
use Rattle.rowtext.proofs.find_row.Given as goal

abbrev pub invariant-parts : goal.invariant-parts
invariant-parts l = (l.at ≤ length l.line) × (fill_from l.parts.rest.now l.row (drop l.at l.line) ≡ fill_from parts blank_row l.line)
