use Rattle.std.specs.Prelude.{drop}
use Rattle.std.proofs.Common.{sym, ◌∙◌, arith}
use Rattle.items.specs.ReadItem.{read_runway_form}
use Rattle.awareness.proofs.Details.{unread, saying-low}
use Rattle.awareness.proofs.Forms.{runway-valid}
use Rattle.awareness.proofs.read_runway_item.Goals as goal

pub returns-in_err-at : goal.returns-in_err-at
unfolding read_runway_form
returns-in_err-at c = rw c.from_residual.ensures (unread (rw c.in_err-at.ensures.says))

pub returns-in_err-runway : goal.returns-in_err-runway
unfolding read_runway_form
returns-in_err-runway c = rw c.from_residual-in_err-runway.ensures (unread (rw (c.in_ok-at.ensures.says, c.in_err-runway.ensures.says)))

pub returns-in_err-said : goal.returns-in_err-said
unfolding read_runway_form
returns-in_err-said c = rw c.from_residual-in_err-said.ensures (unread (rw (c.in_ok-at.ensures.says, c.in_ok-runway.ensures.says, c.in_err-said.ensures.says)))

pub overflow_cast-letter : goal.overflow_cast-letter
overflow_cast-letter c = omega (arith, saying-low (drop c.in_ok-runway.runway.next c.args.s.now) c.in_ok-said.ensures.says)

pub returns-in_err-detail : goal.returns-in_err-detail
unfolding read_runway_form
returns-in_err-detail c =
    rw c.from_residual-in_err-detail.ensures (unread (rw (c.in_ok-at.ensures.says, c.in_ok-runway.ensures.says, c.in_ok-said.ensures.says, c.in_err-detail.ensures.says)))

pub returns-then-numbers_fit : goal.returns-then-numbers_fit
unfolding read_runway_form
returns-then-numbers_fit c =
    let valid = runway-valid ((c.in_ok-runway.runway.number, c.in_ok-runway.runway.side), (c.in_ok-said.said.value, (c.in_ok-detail.detail.edge, c.in_ok-detail.detail.amount))) in
    record {
      within = c.in_ok-detail.ensures.within;
      says = rw (
        c.in_ok-at.ensures.says,
        c.in_ok-runway.ensures.says,
        c.in_ok-said.ensures.says,
        c.in_ok-detail.ensures.says,
        valid ∙ sym c.if-numbers_fit.ensures,
      );
    }

pub returns-else-numbers_fit : goal.returns-else-numbers_fit
unfolding read_runway_form
returns-else-numbers_fit c =
    let valid = runway-valid ((c.in_ok-runway.runway.number, c.in_ok-runway.runway.side), (c.in_ok-said.said.value, (c.in_ok-detail.detail.edge, c.in_ok-detail.detail.amount))) in
    unread (rw (
      c.in_ok-at.ensures.says,
      c.in_ok-runway.ensures.says,
      c.in_ok-said.ensures.says,
      c.in_ok-detail.ensures.says,
      valid ∙ sym c.if-numbers_fit.ensures,
    ))
