use Rattle.text.specs.Laws.Put.{more}
use Rattle.listing.specs.Listing.{refused_line}
use Rattle.listing.proofs.put_refused.Goals as goal

pub returns : goal.returns
unfolding refused_line
returns c =
    more c.put-at.ensures (more c.put_counted-at.ensures c.put.ensures)
