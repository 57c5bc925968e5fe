use Rattle.std.proofs.Common.{◌∷◌, sym, rules}
use Rattle.text.specs.Piece.{canonical}
use Rattle.text.specs.Put.{Put}
use Rattle.text.specs.Laws.Put.{more}
use Rattle.items.specs.Awareness.{awareness_pieces}
use Rattle.items.specs.Parts.{items_of, language_of}
use Rattle.remarks.proofs.Arrays.{no-remarks-put, remarks-put}
use Rattle.remarks.proofs.put_remarks.Goals as goal

pub returns-then-says_nothing : goal.returns-then-says_nothing
returns-then-says_nothing c =
    no-remarks-put (items_of c.args.items) (language_of c.args.language) (sym c.if-says_nothing.ensures) c.told_behind.ensures

pub returns : goal.returns
returns c =
    let is = items_of c.args.items in
    let behind : Put c.put-empty.result (10 ∷ canonical (awareness_pieces is)) c.put-empty.new.out c.line_under-behind.new.out c.line_under-behind.result = search rules in
    remarks-put is (language_of c.args.language) (sym c.if-says_nothing.ensures) (more c.put-empty.ensures (more behind c.language_under.ensures))
