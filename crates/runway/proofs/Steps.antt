-- What the digits of a runway make.
use Rattle.std.proofs.Common.{ℕ, ◌<◌, ◌≡◌, List}
use Rattle.text.specs.Read.{got}
use Rattle.text.specs.Numbers.{read_digits}
use Rattle.text.specs.Laws.Numbers.{digits-laws}

-- two digits make a number below 100
pub two-low : (m : List ℕ) {v : ℕ} {r : List ℕ} → read_digits 2 m ≡ got v r → v < 100
two-low m e = ((digits-laws 1).sound {m = m} e).0
