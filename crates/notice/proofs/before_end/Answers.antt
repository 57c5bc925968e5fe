use Rattle.std.proofs.Common.{◌∙◌, ap, arith, length-drop}
use Rattle.text.specs.Code.Held.{first_line}
use Rattle.text.specs.Laws.Held.{part-all}
use Rattle.text.specs.Laws.Lines.{first-within}
use Rattle.notice.proofs.before_end.Goals as goal

pub overflow_add-result : goal.overflow_add-result
overflow_add-result c =
    let m = c.args.message.now in
    let start = c.lines_size-start.result in
    omega (arith, length-drop start m, (first-within _ (c.first_line.ensures ∙ ap first_line (part-all start m))).0)
