use Rattle.std.proofs.Common.{ℕ, ◌+◌, List, length, drop, sym, refl, ◌∙◌, ap, arith}
use Rattle.std.proofs.Math.Seq.{length-sets}
use Rattle.frontlines.proofs.Groups.{gap-long}
use Rattle.frontlines.proofs.List.{onto, list_from, onto-all, list_on, way_end, way-full, way-off}
use Rattle.frontlines.proofs.address_list.Goals as goal

pub groups-init : goal.groups-init
groups-init c = (omega arith, refl, onto-all (drop c.args.i c.args.s.now))

pub groups-preserved : goal.groups-preserved
groups-preserved c =
    let l = c.groups in
    let m = c.args.s.now in
    let o = c.in-Some.ensures.told.says in
    let e = rw c.from.ensures at c.put.ensures.holds in (
      omega arith,
      ap length e ∙ simp length-sets l.invariant.1,
      ap (λ (k : List ℕ). onto (l.count + 1) k (list_from (l.count + 1) (drop c.in-Some.group.next m))) e
          ∙ sym (list_on l.count l.letters (drop l.at m) (omega arith) o (gap-long 7 (drop l.at m) o)) ∙ l.invariant.2,
    )

pub returns-then-s-at : goal.returns-then-s-at
returns-then-s-at c = let l = c.groups in way_end c.args.s.now l.at l.count l.letters (drop c.args.i c.args.s.now) l.invariant.2 c.if-s-at.true

pub returns-then-count-ge-MOST_ADDRESSES : goal.returns-then-count-ge-MOST_ADDRESSES
returns-then-count-ge-MOST_ADDRESSES c =
    let l = c.groups in
    way-full c.args.s.now l.at l.count l.letters (drop c.args.i c.args.s.now) l.invariant.2 c.if-s-at.false c.if-count-ge-MOST_ADDRESSES.true

pub returns-in_default : goal.returns-in_default
returns-in_default c =
    let l = c.groups in
    way-off c.args.s.now l.at l.count l.letters (drop c.args.i c.args.s.now) l.invariant.2 c.if-s-at.false c.if-count-ge-MOST_ADDRESSES.false c.in_default.ensures.told.says
