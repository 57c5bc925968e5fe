use Rattle.std.specs.Prelude.{ℕ, List, ◌+◌, drop}
use Rattle.std.proofs.Common.{sym, ◌∙◌, ap, arith}
use Rattle.text.specs.Read.{read_as}
use Rattle.items.specs.ReadItem.{read_some_taxiways}
use Rattle.awareness.specs.Code.Named.{in_slots}
use Rattle.awareness.proofs.Slots.{read_from, from_start, from-full, from-none, from_next}
use Rattle.awareness.proofs.some_taxiways.Goals as goal

pub loop-count-init : goal.loop-count-init
loop-count-init c =
    let p = c.place-at in
    record {
      within = p.ensures.within;
      few = omega arith;
      left = from_start (drop p.result c.args.s.now) ∙ ap (read_as in_slots (read_some_taxiways 8)) p.ensures.left;
    }

pub loop-count-preserved : goal.loop-count-preserved
loop-count-preserved c =
    let l = c.loop-count in
    let m = c.args.s.now in
    let n = c.in-Some in
    record {
      within = n.ensures.told.within;
      few = omega arith;
      left = ap (λ (k : List ℕ). read_from (l.count + 1) k (drop n.name.next m)) c.put_taxiway.ensures
          ∙ sym (from_next l.count l.taxiways (drop l.at m) c.loop-count-test.true n.ensures.told.says) ∙ l.invariant.left;
    }

pub returns-in_default : goal.returns-in_default
returns-in_default c =
    let l = c.loop-count in
    record {
      within = l.invariant.within;
      says = sym l.invariant.left ∙ from-none l.count l.taxiways (drop l.at c.args.s.now) c.loop-count-test.true c.in_default.ensures.told.says;
    }

pub returns-after-loop-count : goal.returns-after-loop-count
returns-after-loop-count c =
    let l = c.loop-count in
    record { within = l.invariant.within; says = sym l.invariant.left ∙ from-full l.count l.taxiways (drop l.at c.args.s.now) c.loop-count-test.false }
