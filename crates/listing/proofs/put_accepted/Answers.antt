use Rattle.text.specs.Laws.Put.{more}
use Rattle.listing.specs.Listing.{accepted_line}
use Rattle.listing.proofs.put_accepted.Goals as goal

pub returns : goal.returns
unfolding accepted_line
returns c =
    rw (← c.disagreeing_thirds.ensures)
    (more c.put-at.ensures (more c.put_counted-at.ensures (more c.put_counted-at-2.ensures (more c.put_counted-at-3.ensures c.put.ensures))))
