use Rattle.std.proofs.Common.{rules}
use Rattle.scan.proofs.Eights.{leading-spaces}
use Rattle.scan.proofs.leading_spaces.Goals as goal

pub returns : goal.returns
returns c =
    leading-spaces c.args.bytes.now c.from_le_bytes-d.result (search rules) c.fits-bytes c.from_le_bytes-d.ensures c.from_le_bytes-d.type_inv
