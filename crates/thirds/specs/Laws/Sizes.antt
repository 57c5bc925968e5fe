-- How many bytes a group of thirds has at most.
use Rattle.std.specs.Prelude.{ℕ, zero, suc, ◌+◌, ◌-◌, ◌≤◌, ◌<◌, ◌≡◌, refl, [], Bool, true, false, eqb, leb, length}
use Rattle.std.proofs.Common.{lit≤, leb-true, leb-false, arith}
use Rattle.text.specs.Choice.{◌and◌}
use Rattle.text.specs.Piece.{words}
use Rattle.text.specs.Numbers.{number}
use Rattle.text.specs.Laws.Sizes.{size, cons-size, append-size, digits-size, number_size, spell-size, cond-size}
use Rattle.text.specs.Laws.Base.{below, below_at}
use Rattle.surface.specs.Descriptions.{dry, description_name}
use Rattle.thirds.specs.Groups.{measure_pieces, description_pieces, third_pieces, Three, group_pieces}
use Rattle.thirds.specs.declared.Group.{Group}
use Rattle.thirds.specs.declared.Group.TheVariants.{Codes, Coverages, Depths, Descriptions}

measure-size : (x : ℕ) → size (measure_pieces x) ≤ 3
unfolding measure_pieces
measure-size x = cond-size 3 (eqb x 0) (words "NR") (number 2 x) (rw spell-size (lit≤ tt)) (number_size 2 x)

-- past DRY there is no name
abbrev more : ℕ → ℕ → ℕ
more zero k = k
more (suc n) k = suc (more n k)

more-is : (n k : ℕ) → more n k ≡ n + k
more-is zero k = omega arith
more-is (suc n) k = let h = more-is n k in omega arith

pub no_name : (d : ℕ) → dry < d → description_name d ≡ []
no_name d h = let z : d ≡ more 16 (d - 16) = omega (arith, more-is 16 (d - 16)) in rw z

-- DRY SNOW ON TOP OF COMPACTED SNOW has 33 bytes
names-short : below (λ d. leb (length (description_name d)) 33) 16 ≡ true
unfolding below ◌and◌
names-short = refl

description-size : (d : ℕ) → size (description_pieces d) ≤ 33
description-size d = rw spell-size (go (leb d dry) refl)
  where
    go : (b : Bool) → leb d dry ≡ b → length (description_name d) ≤ 33
    go true e = let h = leb-true d dry e in leb-true _ _ (below_at (λ d. leb (length (description_name d)) 33) 16 names-short d (omega arith))
    go false e = rw (no_name d (leb-false d dry e)) (lit≤ tt)

group-size : (g : Group) (k : ℕ) → ((x : ℕ) → size (third_pieces g x) ≤ k) → (t : Three) → size (group_pieces g t) ≤ k + (k + (k + 3))
group-size g k h t =
    let a = h t.0 in
    let b = h t.1 in
    let c = h t.2 in
    rw (cons-size, append-size, cons-size, append-size, cons-size) (omega arith)

one_code : (x : ℕ) → size (third_pieces Codes x) ≤ 1
unfolding third_pieces
one_code x = rw digits-size (lit≤ tt)

one-coverage : (x : ℕ) → size (third_pieces Coverages x) ≤ 3
unfolding third_pieces
one-coverage = measure-size

one-depth : (x : ℕ) → size (third_pieces Depths x) ≤ 3
unfolding third_pieces
one-depth = measure-size

one-description : (x : ℕ) → size (third_pieces Descriptions x) ≤ 33
unfolding third_pieces
one-description = description-size

pub codes-size : (t : Three) → size (group_pieces Codes t) ≤ 6
codes-size = group-size Codes 1 one_code

pub coverages-size : (t : Three) → size (group_pieces Coverages t) ≤ 12
coverages-size = group-size Coverages 3 one-coverage

pub depths-size : (t : Three) → size (group_pieces Depths t) ≤ 12
depths-size = group-size Depths 3 one-depth

pub descriptions-size : (t : Three) → size (group_pieces Descriptions t) ≤ 102
descriptions-size = group-size Descriptions 33 one-description
