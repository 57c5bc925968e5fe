use Rattle.std.proofs.Common.{◌≡◌, ◌∙◌, ◌∷◌, arith, length, ne_eqb, rules}
use Rattle.text.specs.Piece.{canonical, verbatim}
use Rattle.text.specs.Put.{Put}
use Rattle.text.specs.Laws.Arrays.{none-taken}
use Rattle.items.specs.Parts.{language_of}
use Rattle.remarks.proofs.Arrays.{no-language-put, language-put}
use Rattle.remarks.proofs.language_under.Goals as goal

pub returns-then-l-eq0 : goal.returns-then-l-eq0
returns-then-l-eq0 c = no-language-put c.args.l c.if-l-eq0.true c.told_behind.ensures

pub returns-else-l-eq0 : goal.returns-else-l-eq0
returns-else-l-eq0 c =
    let l = c.args.l in
    let n : length l.bytes ≡ 400 = search rules in
    let h = none-taken l.length l.bytes (omega arith) ∙ ne_eqb _ _ c.if-l-eq0.false in
    let p : Put c.args.at (10 ∷ canonical (verbatim (language_of l))) c.args.out.now c.line_under.new.out c.line_under.result = search rules in
    language-put (language_of l) h p
