-- What writing answers.
use Rattle.std.specs.Prelude.{ℕ, ◌≡◌, List, true, false, leb, length}
use Rattle.std.proofs.Common.{◌∙◌, leb-true}
use Rattle.std.proofs.Math.Path.{ap}
use Rattle.text.specs.Put.{Put}
use Rattle.text.specs.Laws.Put.{whole-put}
use Rattle.body.specs.Rows.{rows_of, latest}
use Rattle.record.specs.declared.Record.{Record}
use Rattle.record.specs.Record.{valid_record}
use Rattle.record.specs.Notice.{notice_text_at}
use Rattle.record.specs.Laws.{notice-latest}
use Rattle.text.specs.declared.Written.{Written}
use Rattle.notice.specs.Writing.{writing, written, Wrote, WroteAt}

-- what a writing promises, by its tests
module _ (time : ℕ) (r : Record) where
  pub wrote-text : {b x : List ℕ} {n : ℕ} → valid_record r ≡ true → leb (length (notice_text_at time r)) (length b) ≡ true
      → Put 0 (notice_text_at time r) b x n → WroteAt time r b x (record { refusal = 0; length = n })
  wrote-text {b} {x} {n} valid fits p =
      let q = whole-put p (leb-true (length (notice_text_at time r)) (length b) fits) in
      record { answer = rw (valid, fits, q.0); holds = rw (valid, fits) q.1 }

  pub wrote-short : {b : List ℕ} → valid_record r ≡ true → leb (length (notice_text_at time r)) (length b) ≡ false
      → WroteAt time r b b (record { refusal = 14; length = 0 })
  wrote-short valid short = record { answer = rw (valid, short); holds = rw (valid, short) }

  pub wrote-invalid : {b : List ℕ} → valid_record r ≡ false → WroteAt time r b b (record { refusal = 13; length = 0 })
  wrote-invalid invalid = record { answer = rw invalid; holds = rw invalid }

  -- the latest time gives the record's own notice
  pub wrote-latest : {b x : List ℕ} {w : Written} → time ≡ latest (rows_of r.rows) → WroteAt time r b x w → Wrote r b x w
  unfolding writing written
  wrote-latest e p =
      let q = ap (λ t. notice_text_at t r) e ∙ notice-latest r in
      record { answer = rw (← q) p.answer; holds = rw (← q) p.holds }
