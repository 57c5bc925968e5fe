-- Records compared part by part, and what the sameness check may say.
use Rattle.std.specs.Prelude.{ℕ, ◌≡◌, List, Bool, true, false}
use Rattle.std.proofs.Common.{sym, ◌∙◌, ap}
use Rattle.text.specs.Laws.Base.{and-1, and-2, and_i, true-false}
use Rattle.sameness.specs.Laws.{addresses-same, same-addresses, filing-same, same-filing, title-same, same-title, items-same}
use Rattle.sameness.proofs.Laws.{rows_same, same-rows}
use Rattle.sameness.specs.Laws.{same-items, language-same, same-language}
use Rattle.record.specs.declared.Record.{Record}
use Rattle.record.specs.declared.Reading.{Reading}
use Rattle.record.specs.Record.{valid_record}
use Rattle.record.specs.Answer.{accepted}
use Rattle.notice.specs.Reading.{reading}
use Rattle.notice.specs.Same.{TellSame, SaysSame, same_record}
use Rattle.notice.specs.Theorems.{accepted-is, read-valid}

-- of valid records, since rows and items are compared only as far as the count goes
record_same : (a b : Record) → valid_record a ≡ true → valid_record b ≡ true → same_record a b ≡ true → a ≡ b
unfolding same_record valid_record
record_same a b v w e =
    let v₁ = and-2 _ _ (and-2 _ _ (and-2 _ _ v)) in
    let w₁ = and-2 _ _ (and-2 _ _ (and-2 _ _ w)) in
    let e₂ = and-2 _ _ e in
    let e₃ = and-2 _ _ e₂ in
    let e₄ = and-2 _ _ e₃ in
    let e₅ = and-2 _ _ e₄ in
    let t = title-same a.title b.title (and-1 _ _ e) in
    let f = filing-same a.filing b.filing (and-1 _ _ e₂) in
    let x = addresses-same a.addresses b.addresses (and-1 _ _ e₃) in
    let r = rows_same a.rows b.rows (and-1 _ _ v₁) (and-1 _ _ w₁) (and-1 _ _ e₄) in
    let is = items-same a.items b.items (and-1 _ _ (and-2 _ _ v₁)) (and-1 _ _ (and-2 _ _ w₁)) (and-1 _ _ e₅) in
    let l = language-same a.language b.language (and-2 _ _ e₅) in
    λ i. record { addresses = x i; filing = f i; title = t i; rows = r i; items = is i; language = l i }

same-record : (a : Record) → same_record a a ≡ true
unfolding same_record
same-record a =
    and_i (same-title a.title) (and_i (same-filing a.filing) (and_i (same-addresses a.addresses)
    (and_i (same-rows a.rows) (and_i (same-items a.items) (same-language a.language)))))

-- a message that is accepted is read as its record
as_read : (m : List ℕ) (a : Reading) → a ≡ reading m → a.refusal ≡ 0 → reading m ≡ accepted a.«record»
as_read m a e z = accepted-is m (ap (λ (r : Reading). r.refusal) (sym e) ∙ z) ∙ ap (λ (r : Reading). accepted r.«record») (sym e)

-- the readings of two messages
module _ (a b : List ℕ) (x : Reading) (first : x ≡ reading a) where
  of-first : (t : TellSame a b) → x ≡ accepted t.tells
  of-first t = first ∙ t.one

  pub first-refused : (x.refusal ≡ 0 → ⊥) → SaysSame a b false
  first-refused n = (λ e. true-false (sym e), λ t. absurd (n (ap (λ (r : Reading). r.refusal) (of-first t))))

  module _ (y : Reading) (second : y ≡ reading b) where
    of-second : (t : TellSame a b) → y ≡ accepted t.tells
    of-second t = second ∙ t.other

    pub second-refused : (y.refusal ≡ 0 → ⊥) → SaysSame a b false
    second-refused n = (λ e. true-false (sym e), λ t. absurd (n (ap (λ (r : Reading). r.refusal) (of-second t))))

    pub compared : x.refusal ≡ 0 → y.refusal ≡ 0 → (r : Bool) → r ≡ same_record x.«record» y.«record» → SaysSame a b r
    compared p q r e = (
      λ z.
          let s = record_same x.«record» y.«record» (read-valid a x first p) (read-valid b y second q) (sym e ∙ z) in
          record { tells = x.«record»; one = as_read a x first p; other = as_read b y second q ∙ ap accepted (sym s) },
      λ t.
          let u = ap (λ (r : Reading). r.«record») (of-first t) in
          let v = ap (λ (r : Reading). r.«record») (of-second t) in
          e ∙ rw (u, v) (same-record t.tells),
    )
