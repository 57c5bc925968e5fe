use Rattle.std.proofs.Common.{arith, sym}
use Rattle.board.specs.Report.{refusal}
use Rattle.board.specs.Laws.Rules.{rules, used}
use Rattle.board.proofs.Places.{row-there}
use Rattle.board.proofs.place_taken.Goals as goal

pub used-requires : goal.used-requires
used-requires c = let f = rules c.args.b.now (sym c.if-not-valid_board.ensures) in f.few

pub returns-in_default : goal.returns-in_default
unfolding refusal
returns-in_default c =
    let f = rules c.args.b.now (sym c.if-not-valid_board.ensures) in
    let h = rw (c.used.ensures, used c.args.b.now f) at c.in_default.ensures in
    grind arith

pub returns-then-x-from : goal.returns-then-x-from
unfolding refusal
returns-then-x-from c =
    let f = rules c.args.b.now (sym c.if-not-valid_board.ensures) in
    let h = rw (c.used.ensures, used c.args.b.now f) at c.in-Some.ensures in
    grind arith

pub returns-then-not-is_news : goal.returns-then-not-is_news
unfolding refusal
returns-then-not-is_news c =
    let f = rules c.args.b.now (sym c.if-not-valid_board.ensures) in
    let h = rw (c.used.ensures, used c.args.b.now f) at c.in-Some.ensures in
    grind (arith, row-there)

pub returns : goal.returns
unfolding refusal
returns c =
    let f = rules c.args.b.now (sym c.if-not-valid_board.ensures) in
    let h = rw (c.used.ensures, used c.args.b.now f) at c.in-Some.ensures in
    grind (arith, row-there)
