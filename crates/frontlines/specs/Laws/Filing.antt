-- Line 2 is read exactly if its filing is valid and its text is typed.
use Rattle.std.specs.Prelude.{ℕ, ◌/◌, ◌^◌, ◌<◌, ◌≤◌, ◌≡◌, refl, true}
use Rattle.std.proofs.Common.{arith, leb-true}
use Rattle.text.specs.Numbers.{is_digit}
use Rattle.text.specs.Laws.Base.{Laws, Head, and-1, and-2, and_i}
use Rattle.text.specs.Laws.Combine.{seq-laws, if-laws, as-laws, loosen}
use Rattle.text.proofs.Laws.Combine.{gap-laws}
use Rattle.text.specs.Laws.Numbers.{digits-laws}
use Rattle.text.specs.Laws.Sizes.{size, cons-size, append-size, digits-size, verbatim-size}
use Rattle.text.specs.Laws.Lines.{Ends}
use Rattle.frontlines.specs.Filing.{originator_size, real_filing, filing_pieces, read_filing, valid_filing}
use Rattle.frontlines.specs.Laws.Letters.{letters-long, letters-laws, letter-no-space}
use Rattle.frontlines.specs.declared.Filing.{Filing}

-- a filing time has six digits
filing-low : (t : ℕ) → real_filing t ≡ true → t < 10 ^ 6
unfolding real_filing
filing-low t h = let k = leb-true (t / 10000) 31 (and-2 _ _ (and-1 _ _ h)) in omega arith

pub filing-laws : Laws (λ f. valid_filing f ≡ true) filing_pieces read_filing (Head is_digit) Ends
unfolding read_filing filing_pieces valid_filing
filing-laws = as-laws
    (loosen (seq-laws (if-laws (digits-laws 5) real_filing) (gap-laws (letters-laws 7) letter-no-space) (λ m h. tt)) (λ m h. h) (λ m h. tt))
    (λ f. valid_filing f ≡ true) (λ p. record { time = p.0; originator = p.1 }) (λ f. (f.time, f.originator))
    (λ p v. (and_i v.0.1 v.1, refl)) (λ f h. let t = and-1 _ _ h in (((filing-low f.time t, t), and-2 _ _ h), refl))

pub filing-size : (f : Filing) → valid_filing f ≡ true → size (filing_pieces f) ≤ 15
unfolding filing_pieces valid_filing
filing-size f h = let e = letters-long originator_size f.originator (and-2 _ _ h) in rw (append-size, digits-size, cons-size, verbatim-size) (omega arith)
