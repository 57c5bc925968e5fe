use Rattle.text.specs.Laws.Lines.{whole-got}
use Rattle.frontlines.specs.Addresses.{read_addresses}
use Rattle.frontlines.specs.Filing.{read_filing}
use Rattle.frontlines.specs.Heading.{read_heading, read_serial_line, read_aerodrome}
use Rattle.frontlines.specs.Laws.Found.{found-none, found-some}
use Rattle.front.specs.Code.Front.{fill_line}
use Rattle.front.proofs.fill_line.Goals as goal

pub returns-in_err-front-in-First : goal.returns-in_err-front-in-First
unfolding fill_line
returns-in_err-front-in-First c =
    rw (c.from_residual.ensures, c.in-First.is, found-none (read_addresses c.args.text.now) c.in_err-front-in-First.ensures)

pub returns-in_err-front-in-Second : goal.returns-in_err-front-in-Second
unfolding fill_line
returns-in_err-front-in-Second c =
    rw (c.from_residual-in_err-front-in-Second.ensures, c.in-Second.is, found-none (read_filing c.args.text.now) c.in_err-front-in-Second.ensures)

pub returns-in_err-heading-in-Third : goal.returns-in_err-heading-in-Third
unfolding fill_line
returns-in_err-heading-in-Third c =
    rw (c.from_residual-in_err-heading-in-Third.ensures, c.in-Third.is, found-none (read_heading c.args.text.now) c.in_err-heading-in-Third.ensures)

pub returns-in_err-front-in-Fourth : goal.returns-in_err-front-in-Fourth
unfolding fill_line
returns-in_err-front-in-Fourth c = rw (c.from_residual-in_err-front-in-Fourth.ensures, c.in-Fourth.is, c.in_err-front-in-Fourth.ensures.says)

pub returns-in_err-front-in-Fifth : goal.returns-in_err-front-in-Fifth
unfolding fill_line
returns-in_err-front-in-Fifth c =
    rw (c.from_residual-in_err-front-in-Fifth.ensures, c.in-Fifth.is, found-none (read_aerodrome c.args.text.now) c.in_err-front-in-Fifth.ensures)

pub returns-in_ok-front-in-First : goal.returns-in_ok-front-in-First
unfolding fill_line
returns-in_ok-front-in-First c = rw (c.in-First.is, found-some (read_addresses c.args.text.now) c.in_ok-front-in-First.ensures)

pub returns-in_ok-front-in-Second : goal.returns-in_ok-front-in-Second
unfolding fill_line
returns-in_ok-front-in-Second c = rw (c.in-Second.is, found-some (read_filing c.args.text.now) c.in_ok-front-in-Second.ensures)

pub returns-in_ok-heading-in-Third : goal.returns-in_ok-heading-in-Third
unfolding fill_line
returns-in_ok-heading-in-Third c = rw (c.in-Third.is, found-some (read_heading c.args.text.now) c.in_ok-heading-in-Third.ensures)

pub returns-in_ok-front-in-Fourth : goal.returns-in_ok-front-in-Fourth
unfolding fill_line
returns-in_ok-front-in-Fourth c =
    let says = c.in_ok-front-in-Fourth.ensures.says in
    rw (c.in-Fourth.is, says, (whole-got (read_serial_line c.args.text.now) says).1)

pub returns-in_ok-front-in-Fifth : goal.returns-in_ok-front-in-Fifth
unfolding fill_line
returns-in_ok-front-in-Fifth c = rw (c.in-Fifth.is, found-some (read_aerodrome c.args.text.now) c.in_ok-front-in-Fifth.ensures)
