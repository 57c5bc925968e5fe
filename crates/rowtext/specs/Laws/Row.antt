-- A row is read exactly if it is valid and its text is typed.
use Rattle.std.specs.Prelude.{ℕ, ◌<◌, ◌≤◌, ◌/◌, ◌^◌, ◌≡◌, refl, List, [], ◌∷◌, ◌++◌, cond, Bool, true, false, eqb, leb}
use Rattle.std.proofs.Common.{sym, ◌∙◌, ap, append_assoc, eqb-true, leb-true, arith}
use Rattle.text.specs.Choice.{◌and◌}
use Rattle.text.specs.Piece.{Piece, gap, nr_groups}
use Rattle.text.specs.Numbers.{is_digit, digits}
use Rattle.text.specs.Laws.Base.{Laws, Head, and-1, and-2, head-not, not-space}
use Rattle.text.specs.Laws.Combine.{seq-laws, bind-laws, made-laws, if-laws, revalid, relay}
use Rattle.text.proofs.Laws.Combine.{gap-laws}
use Rattle.text.specs.Laws.Numbers.{digits-laws}
use Rattle.text.specs.Laws.Names.{all-at}
use Rattle.text.specs.Laws.Lines.{Ends}
use Rattle.runway.specs.Time.{real_time, real_day}
use Rattle.runway.specs.Runway.{is_side, valid_runway, runway_pieces}
use Rattle.runway.specs.Laws.Runway.{runway-laws}
use Rattle.surface.specs.Descriptions.{dry}
use Rattle.surface.specs.Third.{is_coverage, valid_coverage, valid_depth, valid_third}
use Rattle.surface.specs.declared.Third.{Third}
use Rattle.thirds.specs.Groups.{highest, group_pieces}
use Rattle.thirds.specs.Laws.Groups.{Shown, codes-laws}
use Rattle.thirds.specs.declared.Group.TheVariants.{Codes, Coverages, Depths, Descriptions}
use Rattle.row.specs.Row.{valid_row, is_short}
use Rattle.rowtext.specs.Text.{numbers_of, group_of, middle_pieces, width_pieces, row_pieces}
use Rattle.rowtext.specs.Reading.{Groups, make_thirds, make_row}
use Rattle.rowtext.specs.Laws.Whole.{read_groups, read_row}
use Rattle.row.specs.declared.Row.{Row}
use Rattle.row.specs.Laws.Row.{three-of}
use Rattle.rowtext.specs.Laws.Tail.{Valid, formed, rest-laws, width-laws}

-- what the groups alone ask
abbrev Weak : Groups → Type 0
Weak g = (g.0 < 10 ^ 8) × (((g.1.0.0 < 10 ^ 2) × (g.1.0.1 ≤ 3)) × (Shown Codes g.1.1.0 × (Valid g.1.1.1.0 × (g.1.1.1.1 < 100))))

-- and their text
abbrev groups : Groups → List Piece
groups g =
    let (time, ((number, side), (code, (rest, width)))) = g in
    digits 8 time ++ ((gap ∷ runway_pieces number side) ++ (group_pieces Codes code ++ (formed (is_short (make_thirds code rest)) rest ++ width_pieces width)))

groups-laws : Laws Weak groups read_groups (Head is_digit) Ends
groups-laws = seq-laws (digits-laws 7)
    (seq-laws (gap-laws runway-laws (not-space is_digit refl))
    (bind-laws codes-laws (λ c _. seq-laws (rest-laws c) width-laws (λ m h. h)) (λ m h. tt))
    (λ m h. head-not 32 is_side refl m h.0))
    (λ m h. tt)

abbrev take_row : Row → Groups
take_row r = (r.time, ((r.number, r.side), (numbers_of Codes r, ((numbers_of Coverages r, (numbers_of Depths r, numbers_of Descriptions r)), r.width))))

-- what a valid third holds can be shown
record Showable (t : Third) : Type 0 where
  code : t.code ≤ highest Codes
  coverage : t.coverage ≤ highest Coverages
  depth : t.depth ≤ highest Depths
  description : t.description ≤ highest Descriptions

pub coverage-low : (c : ℕ) → is_coverage c ≡ true → c ≤ 100
unfolding is_coverage ◌and◌
coverage-low c h = leb-true c 100 (all-at (λ x. leb x 100) (25 ∷ 50 ∷ 75 ∷ 100 ∷ []) c refl h)

valid-third : (t : Third) → valid_third t ≡ true → Showable t
unfolding valid_third valid_coverage valid_depth highest
valid-third t h =
    let c = leb-true t.code 6 (and-1 _ _ h) in
    let h₁ = and-2 _ _ h in
    let h₂ = and-2 _ _ h₁ in
    record {
      code = omega arith;
      coverage = cov _ (eqb t.coverage 0) refl (and-1 _ _ h₂);
      depth = dep _ (eqb t.depth 0) refl (and-2 _ _ h₂);
      description = leb-true t.description dry (and-1 _ _ h₁);
    }
  where
    cov : (e b : Bool) → eqb t.coverage 0 ≡ b → cond b true (is_coverage t.coverage and e) ≡ true → t.coverage ≤ 100
    cov e true q k = let z = eqb-true t.coverage 0 q in omega arith
    cov e false q k = coverage-low t.coverage (and-1 _ _ k)

    dep : (e b : Bool) → eqb t.depth 0 ≡ b → cond b true (e and leb t.depth 999) ≡ true → t.depth ≤ 999
    dep e true q k = let z = eqb-true t.depth 0 q in omega arith
    dep e false q k = leb-true t.depth 999 (and-2 _ _ k)

pub real-low : (t : ℕ) → real_time t ≡ true → t < 10 ^ 8
unfolding real_time real_day
real-low t h = let k = leb-true (t / 1000000) 12 (and-1 _ _ (and-2 _ _ (and-1 _ _ h))) in omega arith

-- a valid row is made of its groups
valid-row : (r : Row) → valid_row r ≡ true → (Weak (take_row r) × (make_row (take_row r) ≡ r)) × (valid_row r ≡ true)
unfolding valid_row valid_runway
valid-row r h =
    let h₁ = and-2 _ _ h in
    let w = and-1 _ _ h₁ in
    let h₂ = and-2 _ _ h₁ in
    let n = leb-true r.number 18 (and-1 _ _ (and-2 _ _ w)) in
    let s = leb-true r.side 3 (and-2 _ _ (and-2 _ _ w)) in
    let x = leb-true r.width 99 (and-1 _ _ h₂) in
    let t = three-of Showable valid_third valid-third r.thirds (and-2 _ _ h₂) in
    let a = t.one in
    let b = t.two in
    let c = t.three in
    let codes-shown : Shown Codes (numbers_of Codes r) = (a.code, b.code, c.code) in
    let rest-shown : Valid (numbers_of Coverages r, (numbers_of Depths r, numbers_of Descriptions r)) =
    ((a.coverage, b.coverage, c.coverage), ((a.depth, b.depth, c.depth), (a.description, b.description, c.description))) in
    let whole : make_row (take_row r) ≡ r = λ i. record { time = r.time; number = r.number; side = r.side; thirds = t.all3 i; width = r.width } in
    (((real-low r.time (and-1 _ _ h), ((omega arith, s), (codes-shown, (rest-shown, omega arith)))), whole), h)

-- the groups' text is the row's
formed-is : (r : Row) (b : Bool) (w : List Piece) → formed b (take_row r).1.1.1.0 ++ w
    ≡ cond b (nr_groups ∷ []) (group_of Coverages r ++ group_of Depths r) ++ (group_of Descriptions r ++ w)
formed-is r true w = refl
formed-is r false w =
    let a = group_of Coverages r in
    let b = group_of Depths r in
    let d = group_of Descriptions r in
    ap (λ (q : List Piece). q ++ w) (sym (append_assoc a b d)) ∙ append_assoc (a ++ b) d w

groups-are : (r : Row) → make_row (take_row r) ≡ r → groups (take_row r) ≡ row_pieces r
unfolding row_pieces middle_pieces
groups-are r e =
    let w = width_pieces r.width in
    ap (λ (x : List Piece). digits 8 r.time ++ (gap ∷ (runway_pieces r.number r.side ++ (group_of Codes r ++ x))))
    (ap (λ (q : Row). formed (is_short q.thirds) (take_row r).1.1.1.0 ++ w) e ∙ formed-is r (is_short r.thirds) w)

pub row_laws : Laws (λ r. valid_row r ≡ true) row_pieces read_row (Head is_digit) Ends
unfolding read_row
row_laws = relay (revalid (if-laws (made-laws groups-laws make_row take_row (λ g v. refl)) valid_row) (λ r. valid_row r ≡ true) (λ r h. h.1) valid-row)
    row_pieces (λ r v. groups-are r (valid-row r v).0.1)
