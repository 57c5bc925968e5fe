-- Where lines 3, 4 and 5 of a message stand whose front is read, and how long they are.
use Rattle.std.specs.Prelude.{ℕ, suc, ◌+◌, ◌-◌, ◌<◌, ◌≤◌, ◌≡◌, length, take, drop}
use Rattle.std.proofs.Math.Path.{refl, ap}
use Rattle.std.proofs.Common.{sym, ◌∙◌, arith, length-drop, take-append-drop, length-take-le}
use mathlib.Core.List.{List, [], ◌∷◌}
use Rattle.text.specs.Read.{got, whole}
use Rattle.text.specs.Lines.{Cut, cut, text, onward, cuts, line_size, lines_size}
use Rattle.text.specs.Out.{taken, place, fit}
use Rattle.text.specs.Code.Held.{first_line}
use Rattle.text.specs.Laws.Base.{then-got}
use Rattle.text.specs.Laws.Out.{no-refuse, took, fit-took, next-took}
use Rattle.text.specs.Laws.Left.{Left, here, left-short}
use Rattle.text.specs.Laws.Cuts.{cuts_first}
use Rattle.text.specs.Laws.Lines.{first-within}
use Rattle.text.specs.Laws.Places.{cut-place, cuts-from}
use Rattle.frontlines.specs.Heading.{read_heading, read_serial_line}
use Rattle.front.specs.declared.Front.{Front}
use Rattle.front.specs.Places.{time_on, serial_on}
use Rattle.front.specs.Code.Front.{fill_line, line_refusal, Opening, unopened, kept, next_line, fill_lines}
use Rattle.front.specs.Laws.Places.{time-left, serial-left, time-size, serial-size}
use Rattle.notice.specs.Code.Below.{Opened}

-- the first line of what is left: it starts there, and how long its text is
record At (left : List ℕ) (c : Cut) : Type 0 where
  from : onward c ≡ left
  there : 0 < length left
  size : line_size left ≡ length (text c)

line_at : (left : List ℕ) {c : Cut} {cs : List Cut} → cuts left ≡ c ∷ cs → At left c
unfolding cuts
line_at [] e = let z : ◌≡◌ {A = ℕ} 0 1 = cc in absurd (omega arith)
line_at (x ∷ d) {c} e =
    let i : cut (take (line_size (x ∷ d)) (x ∷ d)) (drop (line_size (x ∷ d)) (x ∷ d)) ≡ c = cc (cuts_first x d) in
    let w = (first-within (x ∷ d) {line = first_line (x ∷ d)} refl).0 in
    record {
      from = ap onward (sym i) ∙ take-append-drop (line_size (x ∷ d)) (x ∷ d);
      there = omega arith;
      size = sym (ap (λ c. length (text c)) (sym i) ∙ length-take-le (line_size (x ∷ d)) (x ∷ d) w);
    }

-- one line of the front that is read
record Filled (n k : ℕ) (o : Opening) (cs : List Cut) (p : Opening × List Cut) : Type 0 where
  first : Cut
  others : List Cut
  front : Front
  rest : List ℕ
  is : cs ≡ first ∷ others
  reads : fill_line k o.front (text first) ≡ got front rest
  goes : fill_lines n (suc k) (kept k first o front) others ≡ taken p

filled : (n k : ℕ) (o : Opening) (cs : List Cut) {p : Opening × List Cut} → fill_lines (suc n) k o cs ≡ taken p → Filled n k o cs p
unfolding fill_lines next_line
filled n k o [] e = no-refuse e
filled n k o (c ∷ cs) e =
    let x = next-took (fit (line_refusal k) (onward c) (fill_line k o.front (text c)) (λ f _. taken (kept k c o f, cs))) e in
    let y = fit-took (line_refusal k) (onward c) (fill_line k o.front (text c)) x.one in
    record {
      first = c;
      others = cs;
      front = y.val;
      rest = y.rest;
      is = refl;
      reads = y.one;
      goes = ap (λ (q : Opening × List Cut). fill_lines n (suc k) q.0 q.1) (took (λ q. (kept k c o y.val, cs) ≡ q) y.two refl) ∙ x.two;
    }

-- what is left so many bytes before the end of the line k
pub record Back (m : List ℕ) (k back : ℕ) (left : List ℕ) : Type 0 where
  pub inside : lines_size k m ≤ length m
  pub enough : back ≤ line_size (drop (lines_size k m) m)
  pub placed : lines_size k m + (line_size (drop (lines_size k m) m) - back) ≡ place m left

back_at : (m : List ℕ) (k back : ℕ) (c : Cut) (left : List ℕ) → At (drop (lines_size k m) m) c → Left (onward c) left
    → length left + length (text c) ≡ back + length (onward c) → Back m k back left
back_at m k back c left a l e =
    let n = ap length a.from ∙ length-drop (lines_size k m) m in
    let t = a.there in
    let s = left-short l in
    record {
      inside = omega (arith, length-drop (lines_size k m) m);
      enough = omega (arith, a.size);
      placed = omega (arith, a.size, length-drop (lines_size k m) m);
    }

-- of a message whose front is read
module _ {m : List ℕ} (o : Opened m) where
  f₁ : Filled 4 0 unopened (cuts m) (o.opening, o.below)
  f₁ = filled 4 0 unopened (cuts m) o.says

  o₁ : Opening
  o₁ = kept 0 f₁.first unopened f₁.front

  f₂ : Filled 3 1 o₁ f₁.others (o.opening, o.below)
  unfolding o₁
  f₂ = filled 3 1 o₁ f₁.others f₁.goes

  o₂ : Opening
  o₂ = kept 1 f₂.first o₁ f₂.front

  f₃ : Filled 2 2 o₂ f₂.others (o.opening, o.below)
  unfolding o₂
  f₃ = filled 2 2 o₂ f₂.others f₂.goes

  o₃ : Opening
  o₃ = kept 2 f₃.first o₂ f₃.front

  f₄ : Filled 1 3 o₃ f₃.others (o.opening, o.below)
  unfolding o₃
  f₄ = filled 1 3 o₃ f₃.others f₃.goes

  o₄ : Opening
  o₄ = kept 3 f₄.first o₃ f₄.front

  f₅ : Filled 0 4 o₄ f₄.others (o.opening, o.below)
  unfolding o₄
  f₅ = filled 0 4 o₄ f₄.others f₄.goes

  lines_are : cuts m ≡ f₁.first ∷ f₂.first ∷ f₃.first ∷ f₄.first ∷ f₅.first ∷ f₅.others
  lines_are = f₁.is ∙ ap (λ k. f₁.first ∷ k) (f₂.is ∙ ap (λ k. f₂.first ∷ k) (f₃.is ∙ ap (λ k. f₃.first ∷ k)
      (f₄.is ∙ ap (λ k. f₄.first ∷ k) f₅.is)))

  opening-is : kept 4 f₅.first o₄ f₅.front ≡ o.opening
  unfolding fill_lines
  opening-is = took (λ (q : Opening × List Cut). kept 4 f₅.first o₄ f₅.front ≡ q.0) f₅.goes refl

  third-is : o.opening.third ≡ f₃.first
  unfolding o₃ o₄
  third-is = ap (λ (q : Opening). q.third) (sym opening-is)

  fourth-is : o.opening.fourth ≡ f₄.first
  unfolding o₄
  fourth-is = ap (λ (q : Opening). q.fourth) (sym opening-is)

  fifth-is : o.opening.fifth ≡ f₅.first
  fifth-is = ap (λ (q : Opening). q.fifth) (sym opening-is)

  -- 12 at the last eight bytes of line 3
  pub time-back : Back m 2 8 (time_on o.opening.third)
  unfolding fill_line
  time-back =
      let c = f₃.first in
      let h = then-got (whole (read_heading (text c))) f₃.reads in
      rw third-is (back_at m 2 8 c (time_on c) (line_at (drop (lines_size 2 m) m) (sym (cuts-from 2 m)
      ∙ ap (drop 2) lines_are)) (time-left c here) (time-size c h.one))

  -- 10 at the last four bytes of line 4
  pub serial-back : Back m 3 4 (serial_on o.opening.fourth)
  unfolding fill_line
  serial-back =
      let c = f₄.first in
      let h = then-got (whole (read_serial_line (text c))) f₄.reads in
      rw fourth-is (back_at m 3 4 c (serial_on c) (line_at (drop (lines_size 3 m) m) (sym (cuts-from 3 m)
      ∙ ap (drop 3) lines_are)) (serial-left c here) (serial-size c h.one))

  -- 11 at the first byte of line 5
  pub aerodrome-at : lines_size 4 m ≡ place m (onward o.opening.fifth)
  aerodrome-at = rw fifth-is (sym (cut-place 4 m (ap (drop 4) lines_are)))
