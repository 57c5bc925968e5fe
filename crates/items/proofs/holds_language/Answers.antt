use Rattle.std.proofs.Common.{arith}
use Rattle.text.specs.Choice.{◌and◌}
use Rattle.items.specs.Parts.{holds_language, none_or_language}
use Rattle.items.proofs.holds_language.Goals as goal

pub returns-then-length-gt-MOST_LANGUAGE : goal.returns-then-length-gt-MOST_LANGUAGE
unfolding holds_language none_or_language ◌and◌
returns-then-length-gt-MOST_LANGUAGE c = grind arith

pub returns-then-valid_language : goal.returns-then-valid_language
unfolding holds_language none_or_language ◌and◌
returns-then-valid_language c = grind arith

pub returns-else-valid_language : goal.returns-else-valid_language
unfolding holds_language none_or_language ◌and◌
returns-else-valid_language c = grind arith
