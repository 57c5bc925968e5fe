use Rattle.text.specs.Names.{in_class}
use Rattle.scan.proofs.in_class.Goals as goal

pub returns-in-Letters : goal.returns-in-Letters
unfolding in_class
returns-in-Letters c = rw c.in-Letters.is c.is_letter.ensures

pub returns-in-Names : goal.returns-in-Names
unfolding in_class
returns-in-Names c = rw c.in-Names.is c.is_name.ensures
