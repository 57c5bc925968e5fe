use Rattle.text.specs.Names.{is_name, in_class}
use Rattle.awareness.proofs.Named.{run-ordered, run-span}
use Rattle.awareness.proofs.gap_name.Goals as goal

pub returns : goal.returns
unfolding in_class
returns c =
    let m = c.args.s.now in
    let at = c.in_ok-start in
    record {
      ordered = run-ordered is_name m at.start at.ensures.within c.run.ensures;
      told = record { within = c.run.ensures.within; says = rw at.ensures.says (run-span is_name m at.start at.ensures.within c.run.ensures) };
    }
