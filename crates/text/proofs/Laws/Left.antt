-- What is left of a message is its end, and where that starts.
use Rattle.std.specs.Prelude.{ℕ, suc, ◌≡◌, List, ◌++◌, drop}
use Rattle.std.proofs.Common.{sym, ◌∙◌, ap, arith}
use Rattle.text.specs.Piece.{Piece, One, byte1, gap1, loose1, end_lf, end_crlf, last_missing, last_lf, last_crlf, nr_left_out}
use Rattle.text.specs.Piece.{Typed, done, step, nr_written}
use Rattle.text.specs.Read.{Got, got, read_text}
use Rattle.text.specs.Numbers.{read_digits}
use Rattle.text.specs.Laws.Base.{Laws}
use Rattle.text.proofs.Laws.Base.{text-sound}
use Rattle.text.specs.Laws.Numbers.{digits-laws}
use Rattle.text.specs.Out.{place}
use Rattle.text.specs.Laws.Left.{Left, here, later, left-trans, left_there, spaces-left, digits-size}

one_left : {p : Piece} {m r : List ℕ} → One p m r → Left m r
one_left byte1 = later here
one_left (gap1 s) = later (spaces-left s)
one_left (loose1 s) = spaces-left s
one_left end_lf = later here
one_left end_crlf = later (later here)
one_left last_missing = here
one_left last_lf = later here
one_left last_crlf = later (later here)
one_left nr_left_out = here

pub typed-left : {ps : List Piece} {m r : List ℕ} → Typed ps m r → Left m r
typed-left done = here
typed-left (step o t) = left-trans (one_left o) (typed-left t)
typed-left (nr_written s t) = left-trans (typed-left s) (typed-left t)

pub laws-left : {A : Type 0} {v : A → Type 0} {l : A → List Piece} {rd : List ℕ → Got A} {s f : List ℕ → Type 0} → Laws v l rd s f
    → {m : List ℕ} {a : A} {r : List ℕ} → rd m ≡ got a r → Left m r
laws-left F e = typed-left (F.sound e).1

pub text-left : (cs m : List ℕ) (u : Unit {0}) (r : List ℕ) → read_text cs m ≡ got u r → Left m r
text-left cs m u r e = typed-left (text-sound cs m e)

-- what stands behind digits, and behind the spaces that part it from them
pub digits-left : (n : ℕ) (m : List ℕ) {v : ℕ} {r : List ℕ} → read_digits (suc n) m ≡ got v r → (b : List ℕ) → drop (suc n) (m ++ b) ≡ r ++ b
digits-left n m {v} {r} e b =
    let l = laws-left (digits-laws n) e in
    let k = left_there b l in
    let z : place m r ≡ suc n = omega (arith, digits-size (suc n) m e) in
    ap (λ i. drop i (m ++ b)) (sym z) ∙ k
