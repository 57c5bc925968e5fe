use mathlib.Core.Path.{sym}
use lib.Seq.{length-take-le}
use Rattle.text.specs.Names.{is_name, in_class}
use Rattle.text.specs.Laws.Runs.{run-taken}
use Rattle.wording.proofs.put_name.Goals as goal

pub slice_bounds-put-end : goal.slice_bounds-put-end
slice_bounds-put-end c = sym (length-take-le _ c.args.f.now c.run-n.ensures.within)

pub returns : goal.returns
unfolding in_class
returns c = rw (← run-taken is_name c.args.f.now c.run-n.ensures) c.put.ensures
