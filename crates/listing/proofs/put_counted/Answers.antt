use Rattle.text.specs.Laws.Put.{more}
use Rattle.listing.specs.Listing.{counted}
use Rattle.listing.proofs.put_counted.Goals as goal

pub returns : goal.returns
unfolding counted
returns c = more c.put-at.ensures c.put_number.ensures
