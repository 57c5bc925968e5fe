-- The disagreeing thirds row by row.
use Rattle.std.proofs.Common.{◌≡◌, ℕ, ◌+◌, ◌<◌, ◌∙◌, ap, List, [], ◌∷◌, ◌++◌, length, take, get_or, take-suc, add-one, arith}
use Rattle.row.specs.declared.Row.{Row}
use Rattle.row.specs.Agreement.{disagreements}
use Rattle.listing.specs.Listing.{disagreeing_thirds}

thirds-join : (rs ss : List Row) → disagreeing_thirds (rs ++ ss) ≡ disagreeing_thirds rs + disagreeing_thirds ss
unfolding disagreeing_thirds
thirds-join [] ss = omega arith
thirds-join (r ∷ rs) ss = let h = thirds-join rs ss in omega arith

-- those of one row more
pub thirds-next : (rows : List Row) (i : ℕ) (d : Row) {n a : ℕ} → i < length rows → n ≡ disagreeing_thirds (take i rows) → a ≡ disagreements (get_or rows i d).thirds
    → n + a ≡ disagreeing_thirds (take (i + 1) rows)
unfolding disagreeing_thirds
thirds-next rows i d {n} {a} h e q =
    let k : take (i + 1) rows ≡ take i rows ++ (get_or rows i d ∷ []) = rw add-one (take-suc rows i d h) in
    let j : disagreeing_thirds (take (i + 1) rows) ≡ disagreeing_thirds (take i rows) + (disagreements (get_or rows i d).thirds + 0) = ap disagreeing_thirds k ∙ thirds-join (take i rows) (get_or rows i d ∷ []) in
    omega (arith, e, q, j)
