use Rattle.std.specs.Prelude.{drop}
use Rattle.text.specs.Names.{read_name}
use Rattle.items.specs.Item.{letter_j, letter_p, letter_r}
use Rattle.items.specs.ReadItem.{opens_runway, opens_drifting, opens_taxiways, opens_all_taxiways, opens_apron, opens_all_aprons, read_form}
use Rattle.awareness.proofs.Details.{unread}
use Rattle.awareness.proofs.Forms.{bare-valid, held-bare, no-opening, opened}
use Rattle.awareness.proofs.read_body.Goals as goal

pub returns-in-Some : goal.returns-in-Some
unfolding read_name read_form
returns-in-Some c =
    let s = c.args.s.now in
    rw (opened (drop c.args.i s) opens_runway (drop c.in-Some.at s) (rw c.in-Some.ensures.says)) c.read_runway_item.ensures

pub returns-in-Some-behind : goal.returns-in-Some-behind
unfolding read_name read_form
returns-in-Some-behind c =
    let s = c.args.s.now in
    rw (opened (drop c.args.i s) opens_drifting (drop c.in-Some-behind.at s) (rw (c.in_default.ensures.says, c.in-Some-behind.ensures.says)))
    (held-bare letter_j c.in-Some-behind.at c.bare_item.ensures.item c.bare_item.ensures.next c.in-Some-behind.ensures.within bare-valid.0)

pub returns-in-Some-behind-2 : goal.returns-in-Some-behind-2
unfolding read_name read_form
returns-in-Some-behind-2 c =
    let s = c.args.s.now in
    rw (opened (drop c.args.i s) opens_taxiways (drop c.in-Some-behind-2.at s) (rw (c.in_default.ensures.says, c.in_default-behind.ensures.says, c.in-Some-behind-2.ensures.says))) c.read_taxi_item.ensures

pub returns-in-Some-behind-3 : goal.returns-in-Some-behind-3
unfolding read_name read_form
returns-in-Some-behind-3 c =
    let s = c.args.s.now in
    rw (opened (drop c.args.i s) opens_all_taxiways (drop c.in-Some-behind-3.at s) (rw (c.in_default.ensures.says, c.in_default-behind.ensures.says, c.in_default-behind-2.ensures.says, c.in-Some-behind-3.ensures.says)))
    (held-bare letter_p c.in-Some-behind-3.at c.bare_item-in-Some-behind-3.ensures.item c.bare_item-in-Some-behind-3.ensures.next c.in-Some-behind-3.ensures.within bare-valid.1)

pub returns-in-Some-behind-4 : goal.returns-in-Some-behind-4
unfolding read_name read_form
returns-in-Some-behind-4 c =
    let s = c.args.s.now in
    rw (opened (drop c.args.i s) opens_apron (drop c.in-Some-behind-4.at s) (rw (c.in_default.ensures.says, c.in_default-behind.ensures.says, c.in_default-behind-2.ensures.says, c.in_default-behind-3.ensures.says, c.in-Some-behind-4.ensures.says))) c.read_apron_item.ensures

pub returns-in_ok-at : goal.returns-in_ok-at
unfolding read_name read_form
returns-in_ok-at c =
    let s = c.args.s.now in
    rw (opened (drop c.args.i s) opens_all_aprons (drop c.in_ok-at.at s) (rw (c.in_default.ensures.says, c.in_default-behind.ensures.says, c.in_default-behind-2.ensures.says, c.in_default-behind-3.ensures.says, c.in_default-behind-4.ensures.says, c.in_ok-at.ensures.says)))
    (held-bare letter_r c.in_ok-at.at c.bare_item-in_default-behind-4.ensures.item c.bare_item-in_default-behind-4.ensures.next c.in_ok-at.ensures.within bare-valid.2)

pub returns-in_err-at : goal.returns-in_err-at
unfolding read_name
returns-in_err-at c =
    rw c.from_residual.ensures (unread (no-opening (drop c.args.i c.args.s.now) (rw (c.in_default.ensures.says, c.in_default-behind.ensures.says, c.in_default-behind-2.ensures.says, c.in_default-behind-3.ensures.says, c.in_default-behind-4.ensures.says, c.in_err-at.ensures.says))))
