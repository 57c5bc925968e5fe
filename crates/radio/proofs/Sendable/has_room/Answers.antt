use Rattle.std.proofs.Common.{arith}
use Rattle.std.proofs.lemmas.Bool.Decides.{nat_tests}
use Rattle.radio.specs.Laws.Size.{record-size}
use Rattle.radio.proofs.Sendable.has_room.Goals as goal

pub returns-then-room-ge-LONGEST_RECORD : goal.returns-then-room-ge-LONGEST_RECORD
returns-then-room-ge-LONGEST_RECORD c = let s = c.args.self.now in let k = record-size s.rows.now s.sendable in grind (arith, nat_tests)
