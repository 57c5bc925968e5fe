use Rattle.std.proofs.Common.{refl, get_or, drop, rules}
use Rattle.text.specs.Names.{read_name}
use Rattle.text.specs.Code.Held.{Held}
use Rattle.text.specs.Laws.Base.{else-none}
use Rattle.text.specs.Laws.Held.{missed}
use Rattle.surface.specs.Descriptions.{compacted_snow}
use Rattle.thirds.specs.Code.Begin.{beginning}
use Rattle.thirds.proofs.Descriptions.{one, by_byte, none_begins}
use Rattle.thirds.proofs.description.Goals as goal

pub returns-in-67 : goal.returns-in-67
unfolding beginning read_name
returns-in-67 c =
    let a = c.args in
    let h : Held a.s.now (one compacted_snow (drop a.i a.s.now)) c.at-in-67.result = search rules in
    rw (by_byte a.s.now a.i 67 (search rules) (search rules), else-none (one compacted_snow (drop a.i a.s.now))) h

pub returns-in_default : goal.returns-in_default
unfolding read_name
returns-in_default c =
    let m = c.args.s.now in
    let none = none_begins (get_or m c.args.i 0) (search rules) (search rules) (search rules) (search rules) (search rules) (search rules) (search rules) in
    missed (rw (by_byte m c.args.i _ (search rules) refl, none))
