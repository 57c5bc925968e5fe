-- Lines one under the other, as a writer puts them: the first, then an LF before each other one, then `)` and LF.
use Rattle.std.specs.Prelude.{ℕ, ◌≡◌, refl, List, [], ◌∷◌, ◌++◌}
use Rattle.std.proofs.Common.{sym, ◌∙◌, ap, append_assoc}
use Rattle.text.specs.Piece.{Piece, byte, end, last, canonical}
use Rattle.text.specs.Lines.{ended, under}
use Rattle.text.specs.Laws.Put.{canonical-append}

pub under-append : (pss qss : List (List Piece)) → under (pss ++ qss) ≡ under pss ++ under qss
unfolding under
under-append [] qss = refl
under-append (ps ∷ pss) qss = ap (λ (l : List ℕ). 10 ∷ l)
    (ap (λ (l : List ℕ). canonical ps ++ l) (under-append pss qss) ∙ sym (append_assoc (canonical ps) (under pss) (under qss)))

pub ended-under : (ps : List Piece) (pss : List (List Piece)) → canonical (ended (ps ∷ pss)) ≡ canonical ps ++ (under pss ++ (41 ∷ 10 ∷ []))
unfolding ended under
ended-under ps [] = canonical-append ps (byte 41 ∷ last ∷ [])
ended-under ps (qs ∷ pss) =
    canonical-append ps (end ∷ ended (qs ∷ pss))
    ∙ ap (λ (l : List ℕ). canonical ps ++ (10 ∷ l)) (ended-under qs pss ∙ sym (append_assoc (canonical qs) (under pss) (41 ∷ 10 ∷ [])))
