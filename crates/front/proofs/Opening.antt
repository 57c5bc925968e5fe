-- The front, line by line: what is left from a line on is what all lines say.
use Rattle.std.proofs.Common.{ℕ, zero, suc, [], ◌∷◌, ◌++◌, get_or, ◌+◌, ◌-◌, ◌<◌, ◌≤◌, ◌≡◌, List, length, take, drop, refl, sym, ◌∙◌, ap, add-one, drop_of_length-le, take-append-drop, arith}
use Rattle.std.proofs.Math.Seq.{drop-drop}
use Rattle.text.specs.Read.{misfit, got}
use Rattle.text.specs.Refusals.{number}
use Rattle.text.specs.Lines.{Cut, cut, onward, cuts, lines_size}
use Rattle.text.specs.Out.{refuse}
use Rattle.text.specs.Code.Held.{first_line}
use Rattle.text.specs.declared.refusal.Refusal.{Refusal}
use Rattle.text.specs.declared.Line.{Line as TextLine}
use Rattle.text.specs.Laws.Lines.{line-inside, line-place, line-cuts}
use Rattle.front.specs.declared.Front.{Front}
use Rattle.front.specs.declared.Line.{Line}
use Rattle.front.specs.declared.Line.TheVariants.{First, Second, Third, Fourth, Fifth}
use Rattle.front.specs.Code.Front.{number_of, front_count, blank_front, Opening, unopened, kept, fill_line, line_refusal, next_line, fill_lines, FrontTaken, FrontRefused}

-- the lines in their order, each at its place
abbrev pub lines : List Line
lines = First ∷ Second ∷ Third ∷ Fourth ∷ Fifth ∷ []

number-is : (k : ℕ) (l : Line) → k < front_count → number_of (get_or lines k l) ≡ k
number-is zero l h = refl
number-is (suc zero) l h = refl
number-is (suc (suc zero)) l h = refl
number-is (suc (suc (suc zero))) l h = refl
number-is (suc (suc (suc (suc zero)))) l h = refl
number-is (suc (suc (suc (suc (suc k))))) l h = absurd (omega arith)

pub line-number : {k : ℕ} {l : Line} → k < front_count → l ≡ get_or lines k l → number_of l ≡ k
line-number {k} {l} h e = ap number_of e ∙ number-is k l h

-- k lines are read and fill the front f, and the next one starts at `at`
pub record Upto (m : List ℕ) (k at : ℕ) (f : Front) : Type 0 where
  pub within : at ≤ length m
  pub count : k ≤ front_count
  pub behind : at ≡ lines_size k m
  pub opening : Opening
  pub fronts : opening.front ≡ f
  pub left : fill_lines (front_count - k) k opening (cuts (drop at m)) ≡ fill_lines front_count 0 unopened (cuts m)

pub none-read : (m : List ℕ) → Upto m 0 0 blank_front
unfolding lines_size
none-read m = record { within = omega arith; count = omega arith; behind = refl; opening = unopened; fronts = refl; left = refl }

module _ {m : List ℕ} {k at : ℕ} {f : Front} (u : Upto m k at f) where
  -- all lines are read
  pub all-read : front_count ≤ k → FrontTaken m (record { front = f; next = at })
  unfolding fill_lines
  all-read h =
      let c = u.count in
      let n : front_count - k ≡ 0 = omega arith in
      let z : k ≡ front_count = omega arith in
      record { within = u.within; opening = u.opening; fronts = u.fronts; says = sym u.left ∙ rw n; behind = u.behind ∙ ap (λ (i : ℕ). lines_size i m) z }

  module _ (h : k < front_count) where
    one_left : front_count - k ≡ suc (front_count - (k + 1))
    one_left = omega arith

    -- no line is left
    pub line-missing : {r : Refusal} → number r ≡ line_refusal k → length m ≤ at → FrontRefused m (record { refusal = r; place = at })
    unfolding fill_lines next_line cuts
    line-missing e l = record { within = u.within; says = sym u.left ∙ rw (one_left, drop_of_length-le m l, e) }

    -- the line k stands there, n of it
    module _ (w : at < length m) {n : TextLine} (e : n ≡ first_line (take (length m - at) (drop at m))) where
      abbrev line : List ℕ
      line = take (at + n.size - at) (drop at m)

      here : Cut
      here = cut line (drop (at + n.size) m)

      there : cuts (drop at m) ≡ here ∷ cuts (drop (at + n.next) m)
      unfolding here
      there = let s : at + n.size - at ≡ n.size = omega arith in rw s (line-cuts m at w e)

      starts : onward here ≡ drop at m
      unfolding here
      starts =
          let s : at + n.size - at ≡ n.size = omega arith in
          rw s (ap (λ k. take n.size (drop at m) ++ k) (sym (drop-drop n.size at m)) ∙ take-append-drop n.size (drop at m))

      -- it does not fit
      pub line-misfit : {r : Refusal} → number r ≡ line_refusal k → fill_line k f line ≡ misfit → FrontRefused m (record { refusal = r; place = at })
      unfolding fill_lines next_line here
      line-misfit q x = record { within = u.within; says = sym u.left ∙ rw (one_left, there, u.fronts, x, q) (ap (refuse (line_refusal k)) starts) }

      -- or it fills the front one line further
      module _ {g : Front} (x : fill_line k f line ≡ got g []) where
        step-on : fill_lines (front_count - k) k u.opening (cuts (drop at m))
            ≡ fill_lines (front_count - (k + 1)) (k + 1) (kept k here u.opening g) (cuts (drop (at + n.next) m))
        unfolding fill_lines next_line here
        step-on = rw (one_left, there, u.fronts, x, add-one k)

        pub line-filled : Upto m (k + 1) (at + n.next) g
        line-filled =
            record {
              within = (line-inside m at w e).1;
              count = omega arith;
              behind = rw add-one (line-place m at w e k u.behind);
              opening = kept k here u.opening g;
              fronts = refl;
              left = sym step-on ∙ u.left;
            }
