-- The promise of reading the awareness line leaves no choice.
use Rattle.std.specs.Prelude.{◌≡◌, refl, List, Option, None, Some}
use Rattle.std.proofs.Common.{sym, ◌∙◌}
use Rattle.text.specs.Read.{Got}
use Rattle.items.specs.declared.Item.{Item}
use Rattle.items.specs.declared.Items.{Items}
use Rattle.awareness.specs.Code.Held.{ItemsLeft}

pub items-one : (g : Got (List Item)) (i j : Items) (r s : Option (Unit {0})) → ItemsLeft g i r → ItemsLeft g j s → (i ≡ j) × (r ≡ s)
items-one g i j (Some u) (Some v) p q = let e = p.0 ∙ sym q.0 in (cc, refl)
items-one g i j (Some u) None p q = let e = p.0 ∙ sym q.0 in cc
items-one g i j None (Some v) p q = let e = p.0 ∙ sym q.0 in cc
items-one g i j None None p q = (p.1 ∙ sym q.1, refl)
