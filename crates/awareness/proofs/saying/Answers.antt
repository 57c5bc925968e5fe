use Rattle.std.specs.Prelude.{[], ◌∷◌, drop}
use Rattle.std.proofs.Common.{rules}
use Rattle.text.specs.Read.{read_text}
use Rattle.items.specs.Item.{letter_i, letter_k, letter_l, letter_m, letter_o}
use Rattle.items.specs.ReadItem.{sayings, saying}
use Rattle.awareness.proofs.Names.{unspaced, name-first, name-next}
use Rattle.awareness.proofs.Details.{sayings-gap, no_gap, behind-gap}
use Rattle.awareness.proofs.saying.Goals as goal

pub returns-in_err-at : goal.returns-in_err-at
returns-in_err-at c =
    let m = drop c.args.i c.args.s.now in
    rw c.from_residual.ensures (no_gap saying sayings m (sayings-gap m) c.in_err-at.ensures.says)

pub returns : goal.returns
unfolding read_text
returns c =
    let at = c.in_ok-at.at in
    let m = drop c.args.i c.args.s.now in
    let k = drop at c.args.s.now in
    let name = unspaced saying in
    let one = name-first name letter_i k (rw c.from.ensures at c.word.ensures) in
    let two = name-next name (letter_i ∷ []) letter_k k {r = c.or_else.result} one (search rules) in
    let three = name-next name (letter_i ∷ letter_k ∷ []) letter_l k {r = c.or_else-2.result} two (search rules) in
    let four = name-next name (letter_i ∷ letter_k ∷ letter_l ∷ []) letter_m k {r = c.or_else-3.result} three (search rules) in
    behind-gap saying sayings m (sayings-gap m) at c.in_ok-at.ensures.says
    (name-next name (letter_i ∷ letter_k ∷ letter_l ∷ letter_m ∷ []) letter_o k four (search rules))
