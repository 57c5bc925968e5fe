use Rattle.std.proofs.Common.{arith, sym}
use Rattle.std.proofs.lemmas.List.{length-take-le}
use Rattle.desktext.specs.Theorems.{fed-told}
use Rattle.desk.proofs.take_piece.Goals as goal

pub slice_bounds-text-end : goal.slice_bounds-text-end
slice_bounds-text-end g c = omega (arith, c.requires, fed-told c.args.piece.now c.args.before (omega (arith, c.requires)) c.feed-fed.ensures.put)

pub slice_bounds-write_all-end : goal.slice_bounds-write_all-end
slice_bounds-write_all-end g c =
    sym (length-take-le _ _ (omega (arith, c.requires, fed-told c.args.piece.now c.args.before (omega (arith, c.requires)) c.feed-fed.ensures.put)))
