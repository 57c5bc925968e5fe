-- The promises of reading leave no choice.
use Rattle.std.specs.Prelude.{ℕ, suc, ◌≡◌, refl, List, cond, Bool, true, false, Result, Ok, Err, drop}
use Rattle.std.proofs.Common.{sym, ◌∙◌, ap, arith}
use Rattle.text.specs.declared.refusal.Fault.{Fault}
use Rattle.text.specs.Lines.{Cut, cuts, lines_size}
use Rattle.text.specs.Out.{finished, more}
use Rattle.text.specs.Laws.Out.{took}
use Rattle.text.specs.Laws.Refusals.{fault-one, refused-taken}
use Rattle.row.specs.declared.Row.{Row}
use Rattle.body.specs.declared.Rows.{Rows}
use Rattle.body.specs.declared.RowLine.{RowLine}
use Rattle.body.specs.declared.RowsFound.{RowsFound}
use Rattle.body.specs.Rows.{rows_of, make_rows, Block}
use Rattle.body.specs.Code.Held.{LineHeld, RowsTaken, RowsHeld}

pub line-one : (l : List ℕ) (r s : Result RowLine Fault) → LineHeld l r → LineHeld l s → r ≡ s
line-one l (Ok r) (Ok s) p q =
    let row = took (λ (x : Row). r.row ≡ x) (sym p.says ∙ q.says) refl in
    let closed = p.closes ∙ sym q.closes in
    ap Ok (λ i. record { row = row i; closed = closed i })
line-one l (Ok r) (Err g) p q = refused-taken q p.says
line-one l (Err f) (Ok s) p q = refused-taken p q.says
line-one l (Err f) (Err g) p q = ap Err (fault-one p q)

-- `)` and an empty line are told apart
one_end : (a b : Bool) (cs ds : List Cut) → cond a finished (more cs) ≡ cond b finished (more ds) → a ≡ b
one_end true true cs ds e = refl
one_end false false cs ds e = refl
one_end true false cs ds e = let z : ◌≡◌ {A = ℕ} 0 1 = cc in absurd (omega arith)
one_end false true cs ds e = let z : ◌≡◌ {A = ℕ} 0 1 = cc in absurd (omega arith)

taken-one : {m : List ℕ} {r s : RowsFound} → RowsTaken m r → RowsTaken m s → r ≡ s
taken-one {m} {r} {s} p q =
    let t = sym p.says ∙ q.says in
    let rs = took (λ (b : Block). rows_of r.rows ≡ b.rows) t refl in
    let end = took (λ (b : Block). cond r.closed finished (more (cuts (drop r.next m))) ≡ b.after) t refl in
    let closed = one_end r.closed s.closed (cuts (drop r.next m)) (cuts (drop s.next m)) end in
    let rows = p.kept.zeros ∙ ap make_rows rs ∙ sym q.kept.zeros in
    let next = p.behind ∙ ap (λ (v : Rows). cond r.closed 0 (lines_size (suc v.count) m)) rows
    ∙ ap (λ (b : Bool). cond b 0 (lines_size (suc s.rows.count) m)) closed ∙ sym q.behind in
    λ i. record { rows = rows i; closed = closed i; next = next i }

pub rows-one : (m : List ℕ) (r s : Result RowsFound Fault) → RowsHeld m r → RowsHeld m s → r ≡ s
rows-one m (Ok r) (Ok s) p q = ap Ok (taken-one p q)
rows-one m (Ok r) (Err g) p q = refused-taken q p.says
rows-one m (Err f) (Ok s) p q = refused-taken p q.says
rows-one m (Err f) (Err g) p q = ap Err (fault-one p q)
