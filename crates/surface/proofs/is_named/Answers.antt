use native.Mathlib.Omega.{arith}
use Rattle.surface.specs.Table1.{is_named}
use Rattle.surface.proofs.is_named.Goals as goal

pub returns-in-One : goal.returns-in-One
unfolding is_named
returns-in-One c = grind arith

pub returns-then-a-kind : goal.returns-then-a-kind
unfolding is_named
returns-then-a-kind c = grind arith

pub returns-else-a-kind : goal.returns-else-a-kind
unfolding is_named
returns-else-a-kind c = grind arith
