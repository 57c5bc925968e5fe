use Rattle.std.proofs.Common.{rules}
use Rattle.text.specs.Laws.Iter.{all_each}
use Rattle.surface.specs.Third.{blank_third, valid_depth}
use Rattle.rowtext.proofs.valid_depths.Goals as goal

pub returns : goal.returns
returns c = all_each valid_depth c.args.row.thirds blank_third (search rules)
