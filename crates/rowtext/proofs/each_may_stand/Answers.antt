use Rattle.std.proofs.Common.{rules}
use Rattle.text.specs.Laws.Iter.{all_each}
use Rattle.rowtext.specs.Code.Filling.{may_stand}
use Rattle.rowtext.proofs.Steps.{each_is}
use Rattle.rowtext.proofs.each_may_stand.Goals as goal

pub returns : goal.returns
returns c = let a = c.args in each_is (may_stand a.group) a.numbers (search rules) (all_each (may_stand a.group) a.numbers 0 (search rules))
