use Rattle.std.specs.Prelude.{drop}
use Rattle.std.proofs.Common.{sym}
use Rattle.items.specs.Item.{is_taxiway}
use Rattle.items.specs.ReadItem.{read_taxiway}
use Rattle.awareness.proofs.Details.{unread}
use Rattle.awareness.proofs.Named.{name-passes, name-fails, name-bytes}
use Rattle.awareness.proofs.taxiway.Goals as goal

pub is_taxiway-requires : goal.is_taxiway-requires
is_taxiway-requires c = name-bytes (drop c.args.i c.args.s.now) c.in_ok-name.ensures.told.says

pub returns-then-is_taxiway : goal.returns-then-is_taxiway
unfolding read_taxiway
returns-then-is_taxiway c =
    let h = c.in_ok-name.ensures in
    record {
      ordered = h.ordered;
      told = record { within = h.told.within; says = name-passes is_taxiway (drop c.args.i c.args.s.now) h.told.says (sym c.if-is_taxiway.ensures) };
    }

pub returns-else-is_taxiway : goal.returns-else-is_taxiway
unfolding read_taxiway
returns-else-is_taxiway c = record {
  ordered = tt;
  told = unread (name-fails is_taxiway (drop c.args.i c.args.s.now) c.in_ok-name.ensures.told.says (sym c.if-is_taxiway.ensures));
}
