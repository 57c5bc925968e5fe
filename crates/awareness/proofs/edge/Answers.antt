use Rattle.std.specs.Prelude.{[], ◌∷◌, drop}
use Rattle.std.proofs.Common.{rules}
use Rattle.items.specs.ItemText.{edge_name}
use Rattle.awareness.proofs.Names.{name-first, name-next}
use Rattle.awareness.proofs.edge.Goals as goal

pub returns : goal.returns
returns c =
    let m = drop c.args.i c.args.s.now in
    name-next edge_name (3 ∷ 1 ∷ []) 2 m (name-next edge_name (3 ∷ []) 1 m {r = c.or_else.result} (name-first edge_name 3 m c.word.ensures) (search rules)) (search rules)
