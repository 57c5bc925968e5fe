use Rattle.std.proofs.Common.{rules}
use Rattle.std.proofs.lemmas.Iterator.{YieldsList-from_slice}
use Rattle.std.proofs.lemmas.Iterator.Search.{any_from_yields_List}
use Rattle.body.specs.Rows.{same_runway}
use Rattle.body.proofs.Loops.{among_answer}
use Rattle.body.proofs.is_among.Goals as goal

pub returns : goal.returns
returns c = among_answer c.args.r _ (any_from_yields_List (λ s. same_runway s c.args.r) _ _ _ c.any.ensures.ran (YieldsList-from_slice _ cc) (λ x b q k. search rules))
