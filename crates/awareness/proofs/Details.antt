-- The readers of an item, step by step: a misfit ends them, and what fits goes on.
use Rattle.std.specs.Prelude.{ℕ, ◌<◌, ◌≤◌, ◌≡◌, refl, List, [], ◌∷◌, Option, None, drop}
use Rattle.std.proofs.Common.{◌∙◌, arith}
use Rattle.text.specs.Choice.{◌and◌}
use Rattle.text.specs.Read.{Got, misfit, got, read_text, read_gap}
use Rattle.text.specs.Names.{read_name}
use Rattle.text.specs.Texts.{named}
use Rattle.text.specs.Numbers.{read_digits, read_number}
use Rattle.text.specs.Code.Held.{Told, Held}
use Rattle.text.specs.Laws.Numbers.{number-laws, digits-laws}
use Rattle.text.specs.Laws.Words.{first-cut}
use Rattle.text.specs.declared.Found.{Found}
use Rattle.items.specs.ItemText.{edge_name}
use Rattle.items.specs.ReadItem.{edges, sayings, saying, taxi_sayings, taxi_saying}
use Rattle.awareness.proofs.Names.{unspaced, name-low}

-- all that is said begins with a gap
pub sayings-gap : (m : List ℕ) → read_name saying sayings m ≡ read_gap (read_name (unspaced saying) sayings) m
unfolding read_name
sayings-gap m = first-cut (32 ∷ []) (named (unspaced saying) sayings) m

pub taxi-sayings-gap : (m : List ℕ) → read_name taxi_saying taxi_sayings m ≡ read_gap (read_name (unspaced taxi_saying) taxi_sayings) m
unfolding read_name
taxi-sayings-gap m = first-cut (32 ∷ []) (named (unspaced taxi_saying) taxi_sayings) m

-- so the gap is read once: it does not stand there, or what is read behind it is the answer
module _ (name : ℕ → List ℕ) (ns m : List ℕ) (e : read_name name ns m ≡ read_gap (read_name (unspaced name) ns) m) {k : List ℕ} where
  pub no_gap : read_text (32 ∷ []) m ≡ misfit → Held k (read_name name ns m) None
  no_gap g = record { within = omega arith; says = e ∙ rw g }

  pub behind-gap : (at : ℕ) {r : Option Found} → read_text (32 ∷ []) m ≡ got tt (drop at k) → Held k (read_name (unspaced name) ns (drop at k)) r → Held k (read_name name ns m) r
  behind-gap at g o = record { within = o.within; says = e ∙ rw g o.says }

-- what is read fits its field
pub number-low : (m : List ℕ) {v : ℕ} {r : List ℕ} → read_number 3 m ≡ got v r → v < 10000
number-low m e = ((number-laws 2).sound {m = m} e).0

pub two-low : (m : List ℕ) {v : ℕ} {r : List ℕ} → read_digits 2 m ≡ got v r → v < 100
two-low m e = ((digits-laws 1).sound {m = m} e).0

pub edge-low : (m : List ℕ) {v : ℕ} {r : List ℕ} → read_name edge_name edges m ≡ got v r → v ≤ 255
unfolding ◌and◌
edge-low m e = name-low edge_name edges m 255 refl e

pub saying-low : (m : List ℕ) {v : ℕ} {r : List ℕ} → read_name saying sayings m ≡ got v r → v ≤ 255
unfolding ◌and◌
saying-low m e = name-low saying sayings m 255 refl e

pub taxi-saying-low : (m : List ℕ) {v : ℕ} {r : List ℕ} → read_name taxi_saying taxi_sayings m ≡ got v r → v ≤ 255
unfolding ◌and◌
taxi-saying-low m e = name-low taxi_saying taxi_sayings m 255 refl e

-- nothing is read where the reader finds a misfit
pub unread : {A R : Type 0} {value : R → A} {next : R → ℕ} {m : List ℕ} {g : Got A} → g ≡ misfit → Told value next m g None
unread e = record { within = omega arith; says = e }
