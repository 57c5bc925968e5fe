use Rattle.std.specs.Prelude.{[], ◌∷◌, ◌-◌, take, drop}
use Rattle.std.proofs.Common.{sym, ◌∙◌}
use Rattle.text.specs.Piece.{bytes}
use Rattle.text.specs.Laws.Words.{text-cut}
use Rattle.items.specs.ReadItem.{is_apron, read_apron}
use Rattle.awareness.proofs.Details.{unread}
use Rattle.awareness.proofs.Named.{none_named, name-passes, name-fails, name-bytes}
use Rattle.awareness.proofs.Forms.{no-apron, apron-unsaid, apron-said, apron-valid, short-apron}
use Rattle.awareness.proofs.read_apron_item.Goals as goal

pub returns-in_err-span : goal.returns-in_err-span
unfolding read_apron
returns-in_err-span c =
    let m = drop c.args.i c.args.s.now in
    rw c.from_residual.ensures (unread (rw (no-apron m (none_named is_apron m c.in_err-span.ensures.told.says))))

pub returns-then-not-is_apron : goal.returns-then-not-is_apron
unfolding read_apron
returns-then-not-is_apron c =
    let m = drop c.args.i c.args.s.now in
    unread (rw (no-apron m (name-fails is_apron m c.in_ok-span.ensures.told.says (sym c.is_apron.ensures ∙ c.if-not-is_apron.true))))

pub returns-in_err-at : goal.returns-in_err-at
unfolding read_apron
returns-in_err-at c =
    let m = drop c.args.i c.args.s.now in
    let k = drop c.in_ok-span.span.next c.args.s.now in
    let name = name-passes is_apron m c.in_ok-span.ensures.told.says (sym c.is_apron.ensures ∙ c.if-not-is_apron.false) in
    rw c.from_residual-in_err-at.ensures (unread (rw (apron-unsaid m name (text-cut (32 ∷ []) (bytes "POOR") k ∙ rw c.in_err-at.ensures.says))))

pub returns-in_err-next : goal.returns-in_err-next
unfolding read_apron
returns-in_err-next c =
    let m = drop c.args.i c.args.s.now in
    let k = drop c.in_ok-span.span.next c.args.s.now in
    let name = name-passes is_apron m c.in_ok-span.ensures.told.says (sym c.is_apron.ensures ∙ c.if-not-is_apron.false) in
    rw c.from_residual-in_err-next.ensures (unread (rw (apron-unsaid m name (text-cut (32 ∷ []) (bytes "POOR") k ∙ rw (c.in_ok-at.ensures.says, c.in_err-next.ensures.says)))))

pub apron_item-requires : goal.apron_item-requires
unfolding read_apron
apron_item-requires c =
    let m = drop c.args.i c.args.s.now in
    short-apron m (name-passes is_apron m c.in_ok-span.ensures.told.says (sym c.is_apron.ensures ∙ c.if-not-is_apron.false))

pub returns : goal.returns
unfolding read_apron
returns c =
    let m = drop c.args.i c.args.s.now in
    let span = c.in_ok-span.span in
    let k = drop span.next c.args.s.now in
    let w = take (span.next - span.start) (drop span.start c.args.s.now) in
    let fits = sym c.is_apron.ensures ∙ c.if-not-is_apron.false in
    let name = name-passes is_apron m c.in_ok-span.ensures.told.says fits in
    record {
      within = c.in_ok-next.ensures.within;
      says = rw (
        c.apron_item.ensures,
        apron-said m name (drop c.in_ok-next.next c.args.s.now) (text-cut (32 ∷ []) (bytes "POOR") k ∙ rw (c.in_ok-at.ensures.says, c.in_ok-next.ensures.says)),
        apron-valid w fits (name-bytes m c.in_ok-span.ensures.told.says),
      );
    }
