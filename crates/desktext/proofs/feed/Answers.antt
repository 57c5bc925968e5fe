use Rattle.std.proofs.Common.{sym, subst, ◌∙◌}
use Rattle.text.specs.Put.{Put}
use Rattle.text.specs.Laws.Put.{nothing_put}
use Rattle.desktext.proofs.Steps.{state-on, after-feed, goes-feed, after-other, text-kept, state-out, text_out}
use Rattle.desktext.proofs.feed.Goals as goal
use Rattle.desktext.proofs.feed.Goals.{then-b-eq-LF, else-b-eq-LF}

pub loop-b-preserved : goal.loop-b-preserved
loop-b-preserved c =
    let m = c.args.piece.now in
    let l = c.loop-b in
    let low = c.loop-b-test.true in
    elim c.if-b-eq-LF.branch [
      | then-b-eq-LF w ↦
          let t = w.take_line-turn.ensures in
          let line = rw w.begun.ensures at w.without_return.ensures in
          let e = after-feed m l.b-index low l.state w.if-b-eq-LF.true (rw line at t.standing_value) in
          rw (w.out-is, w.state-is, w.behind-is) record {
            state = state-on m l.b-index low l.state e ∙ l.invariant.state;
            text = goes-feed m l.b-index low l.state w.if-b-eq-LF.true e l.invariant.text (rw line at t.put);
          }
      | else-b-eq-LF w ↦
          let e = after-other m l.b-index low l.state w.if-b-eq-LF.false ∙ sym w.keep.ensures in
          rw (w.out-is, w.state-is, w.behind-is) record {
            state = state-on m l.b-index low l.state e ∙ l.invariant.state;
            text = λ x q p. l.invariant.text x q (subst (λ t. Put l.behind t l.out x q) (text-kept m l.b-index low l.state w.if-b-eq-LF.false e) p);
          }
    ]

pub returns : goal.returns
returns c =
    let m = c.args.piece.now in
    let l = c.loop-b in
    let out = c.loop-b-test.false in
    record {
      state_value = sym (state-out l.state m l.b-index out) ∙ l.invariant.state;
      put = l.invariant.text l.out c.told_behind.result (rw (text_out l.state m l.b-index out) (nothing_put l.out c.told_behind.ensures));
    }
