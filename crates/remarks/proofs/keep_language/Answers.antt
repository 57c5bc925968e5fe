use Rattle.remarks.proofs.Arrays.{language-put-in}
use Rattle.std.proofs.Common.{rules}
use Rattle.remarks.proofs.keep_language.Goals as goal

pub returns : goal.returns
returns c = language-put-in c.args.text.now _ c.requires.short (search rules)
