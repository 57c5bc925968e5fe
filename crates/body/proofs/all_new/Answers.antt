use Rattle.std.proofs.Common.{sym, ◌∙◌, arith}
use Rattle.body.proofs.Loops.{new-hit, new-miss, new_none}
use Rattle.body.proofs.all_new.Goals as goal

pub returns-then-is_among : goal.returns-then-is_among
returns-then-is_among c = sym (c.loop-i.invariant ∙ new-hit c.args.rows.now c.loop-i.i _ c.loop-i-test.true (sym c.is_among.ensures ∙ c.if-is_among.true))

pub loop-i-preserved : goal.loop-i-preserved
loop-i-preserved c = c.loop-i.invariant ∙ new-miss c.args.rows.now c.loop-i.i _ c.loop-i-test.true (sym c.is_among.ensures ∙ c.if-is_among.false)

pub returns : goal.returns
returns c = sym (c.loop-i.invariant ∙ new_none c.args.rows.now _ c.loop-i.i (omega arith))
