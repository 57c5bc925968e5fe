use Rattle.std.specs.Prelude.{drop}
use Rattle.std.proofs.Common.{sym, arith}
use Rattle.awareness.proofs.Details.{unread, taxi-saying-low}
use Rattle.awareness.proofs.Forms.{no-taxiways, taxi-unsaid, taxi-said}
use Rattle.awareness.proofs.read_taxi_item.Goals as goal

pub returns-then-named-eq0 : goal.returns-then-named-eq0
returns-then-named-eq0 c = unread (rw (no-taxiways (drop c.args.i c.args.s.now) c.some_taxiways-named.ensures.says c.if-named-eq0.true))

pub returns-in_err-said : goal.returns-in_err-said
returns-in_err-said c =
    rw c.from_residual.ensures (unread (rw (taxi-unsaid (drop c.args.i c.args.s.now) c.some_taxiways-named.ensures.says c.if-named-eq0.false c.in_err-said.ensures.says)))

pub overflow_cast-item : goal.overflow_cast-item
overflow_cast-item c = omega (arith, taxi-saying-low (drop c.some_taxiways-named.result.next c.args.s.now) c.in_ok-said.ensures.says)

pub returns-then-valid_item : goal.returns-then-valid_item
returns-then-valid_item c = record {
  within = c.in_ok-said.ensures.within;
  says = rw (taxi-said (drop c.args.i c.args.s.now) c.some_taxiways-named.ensures.says c.if-named-eq0.false c.in_ok-said.ensures.says, sym c.if-valid_item.ensures);
}

pub returns-else-valid_item : goal.returns-else-valid_item
returns-else-valid_item c =
    unread (rw (taxi-said (drop c.args.i c.args.s.now) c.some_taxiways-named.ensures.says c.if-named-eq0.false c.in_ok-said.ensures.says, sym c.if-valid_item.ensures))
