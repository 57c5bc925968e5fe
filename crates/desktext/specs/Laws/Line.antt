-- An opening line is read exactly if it is the text of an aerodrome and runways with their owners; a row line starts with its sender.
use Rattle.std.specs.Prelude.{ℕ, zero, suc, ◌+◌, ◌-◌, ◌*◌, ◌<◌, ◌≤◌, ◌^◌, ◌≡◌, refl, List, [], ◌∷◌, map, Option, cond, Bool, true, false, eqb, leb, length, take, get_or, replicate}
use Rattle.std.proofs.Common.{sym, subst, ◌∙◌, ap, length-append, eqb-true, leb-true, arith}
use Rattle.std.proofs.lemmas.List.{length-map}
use Rattle.std.proofs.lemmas.Bool.{lt-leb}
use Rattle.text.specs.Refusals.{no_row}
use Rattle.text.specs.Lines.{longest}
use Rattle.text.specs.Names.{is_space, is_letter, read_count}
use Rattle.text.specs.Choice.{◌and◌, all, head_is}
use Rattle.text.specs.Piece.{Typed, Typing, done, step, byte1, byte, bytes, canonical, end, verbatim, lay_all, spell, ◌then◌}
use Rattle.text.specs.Numbers.{digits, is_digit}
use Rattle.text.specs.Laws.Typing.{cut}
use Rattle.text.specs.Read.{Got, misfit, got, whole, read_as}
use Rattle.text.specs.Arrays.{is_zero, pad}
use Rattle.text.specs.Laws.Base.{Laws, Head, Any, inner, inline, and-1, and-2, true-false}
use Rattle.text.specs.Laws.Held.{told-one}
use Rattle.text.specs.Laws.Combine.{seq-laws, as-laws, loosen}
use Rattle.text.proofs.Laws.Combine.{after-laws}
use Rattle.text.specs.Laws.Names.{all-at, count-laws}
use Rattle.text.specs.Laws.Numbers.{digits-laws}
use Rattle.text.specs.Laws.Many.{Every, many-laws}
use Rattle.text.specs.Laws.Arrays.{array_back, take-front}
use Rattle.text.specs.Laws.Put.{canonical-append}
use Rattle.text.specs.Laws.Sizes.{size}
use Rattle.text.specs.Laws.Lines.{Ends, whole-sound, whole-complete}
use Rattle.runway.specs.Runway.{is_side, valid_runway, runway_pieces}
use Rattle.runway.specs.Laws.Runway.{runway-laws}
use Rattle.row.specs.declared.Row.{Row}
use Rattle.row.specs.Row.{highest_runway, valid_row, is_blank_row}
use Rattle.rowtext.specs.Text.{row_pieces}
use Rattle.row.specs.Laws.Row.{blank-row}
use Rattle.rowtext.specs.Laws.Sizes.{row-size}
use Rattle.frontlines.specs.Letters.{is_letters}
use Rattle.frontlines.specs.Heading.{aerodrome_size, read_aerodrome}
use Rattle.frontlines.specs.Laws.Letters.{letters-long, letters-laws}
use Rattle.board.specs.declared.Runway.{Runway}
use Rattle.board.specs.declared.Board.{Board}
use Rattle.board.specs.declared.Answer.{Answer}
use Rattle.board.specs.Board.{places, blank_runway, is_blank_runway, is_aerodrome, rises, rising, valid_list, is_desk, valid_owners, valid_opening, fits_place}
use Rattle.board.specs.Board.{runways_of, valid_board, fresh, blank_board, answer, opening, refused_opening}
use Rattle.board.specs.Report.{row_at}
use Rattle.board.specs.Shows.{nothing, row, shown_at}
use Rattle.board.specs.Laws.Rows.{blank-invalid}
use Rattle.board.specs.Laws.Rules.{rules, used, fit_at}
use Rattle.board.specs.Laws.Demand.{opened-fresh as was-opened}
use Rattle.desktext.specs.declared.OwnedFound.{OwnedFound}
use Rattle.desktext.specs.Code.Held.{HeldSpace, HeldOwned}
use Rattle.desktext.specs.Line.{spaced_pieces, read_spaced, make_runway, read_owner, read_owned, owned_pieces, with_owners, opening_pieces, read_opening, list_of}
use Rattle.desktext.specs.Line.{opening_read, opening_line, sender_pieces, read_sender, report_line}

-- a number of two digits and a side: what a line can hold
abbrev pub Written : Runway → Type 0
Written w = (w.number < 10 ^ 2) × (w.side ≤ 3)

space-inner : (b : ℕ) → is_space b ≡ true → inner b ≡ true
space-inner b h = rw (eqb-true b 32 h)

-- one space is that byte
one-space : (l : List ℕ) → length l ≡ 1 → all is_space l ≡ true → 32 ∷ [] ≡ l
one-space [] e h = absurd (omega arith)
one-space (b ∷ []) e h = ap (λ c. c ∷ []) (sym (eqb-true b 32 (and-1 _ _ h)))
one-space (b ∷ c ∷ l) e h = absurd (omega arith)

pub spaced-laws : Laws Written spaced_pieces (read_as make_runway read_spaced) (Head is_space) (λ r. head_is is_side r ≡ false)
unfolding read_spaced ◌and◌
spaced-laws = as-laws (as-laws (seq-laws (count-laws is_space space-inner 0) runway-laws (λ m h. tt)) (λ p. (p.0 < 10 ^ 2) × (p.1 ≤ 3)) (λ p. p.1)
    (λ p. (32 ∷ [], p))
    (λ p v. (v.1, (λ i. (one-space p.0 v.0.0 v.0.1 i, p.1)))) (λ p v. (((refl, refl), v), refl)))
    Written make_runway (λ w. (w.number, w.side)) (λ p v. (v, refl)) (λ w v. (v, refl))

-- a side does not begin with a space
pub space-no-side : (m : List ℕ) → Head is_space m → head_is is_side m ≡ false
space-no-side [] h = elim h [ ]
space-no-side (x ∷ m) h = rw (eqb-true x 32 h)

-- what a line can hold of a runway and its owner
abbrev Owned : Runway × ℕ → Type 0
Owned p = Written p.0 × (p.1 < 10 ^ 1)

slash-no-side : (m : List ℕ) → Head (eqb 47) m → head_is is_side m ≡ false
slash-no-side [] h = elim h [ ]
slash-no-side (x ∷ m) h = rw (sym (eqb-true 47 x h))

pub owned-laws : Laws Owned owned_pieces read_owned (Head is_space) Any
unfolding read_owned read_owner inline spell ◌and◌
owned-laws = seq-laws spaced-laws (after-laws (digits-laws 0) 47 [] refl (λ m h. refl)) slash-no-side

-- the promises of reading a space, and a runway with its owner, leave no choice
pub space-one : {m : List ℕ} {g : Got (List ℕ)} {r s : Option ℕ} → HeldSpace m g r → HeldSpace m g s → r ≡ s
space-one p q = told-one (λ _. 32 ∷ []) (λ i. i) (λ a b v n. n) p q

pub owned-one : {m : List ℕ} {g : Got (Runway × ℕ)} {r s : Option OwnedFound} → HeldOwned m g r → HeldOwned m g s → r ≡ s
owned-one p q =
    told-one (λ f. (f.runway, f.owner)) (λ f. f.next) (λ a b v n. λ i. record { runway = (v i).0; owner = (v i).1; next = n i }) p q

-- the line ends behind its last owner
pub nothing-owned : read_owned [] ≡ misfit
unfolding read_owned read_spaced read_count
nothing-owned = refl

opening-laws : Laws (λ p. (is_letters aerodrome_size p.0 ≡ true) × ((length p.1 ≤ places) × Every Owned p.1))
    (λ p. opening_pieces p.0 p.1) read_opening (Head is_letter) Ends
unfolding read_opening opening_pieces read_aerodrome
opening-laws = seq-laws (letters-laws 3) (loosen (many-laws owned-laws (λ m h. tt) places) {s = Any} (λ m h. tt) ends) (λ m h. h)
  where
    ends : (r : List ℕ) → r ≡ [] → Any r × (read_owned r ≡ misfit)
    ends r e = rw e (tt, nothing-owned)

pub sender-laws : Laws (λ d. d < 10 ^ 1) sender_pieces read_sender (Head is_digit) Any
unfolding read_sender ◌and◌
sender-laws = as-laws (seq-laws (digits-laws 0) (count-laws is_space space-inner 0) (λ m h. tt)) (λ d. d < 10 ^ 1) (λ p. p.0) (λ d. (d, 32 ∷ []))
    (λ p v. (v.0, (λ i. (p.0, one-space p.1 v.1.0 v.1.1 i)))) (λ d v. ((v, (refl, refl)), refl))

-- runways and owners apart and together
front : {A : Type 0} (f : Runway × ℕ → A) (z : A) (ps : List (Runway × ℕ)) → take (length ps) (pad places z (map f ps)) ≡ map f ps
front f z ps =
    subst (λ n. take n (pad places z (map f ps)) ≡ map f ps) (length-map ps f) (take-front (map f ps) (replicate (places - length (map f ps)) z))

together : (ps : List (Runway × ℕ)) → with_owners (map (λ p. p.0) ps) (map (λ p. p.1) ps) ≡ ps
together [] = refl
together (p ∷ ps) = ap (λ l. p ∷ l) (together ps)

runways-back : (ws : List Runway) (os : List ℕ) → length ws ≡ length os → map (λ p. p.0) (with_owners ws os) ≡ ws
runways-back [] os e = refl
runways-back (w ∷ ws) [] e = absurd (omega arith)
runways-back (w ∷ ws) (o ∷ os) e = ap (λ l. w ∷ l) (runways-back ws os (omega arith))

owners-back : (ws : List Runway) (os : List ℕ) → length ws ≡ length os → map (λ p. p.1) (with_owners ws os) ≡ os
owners-back [] [] e = refl
owners-back [] (o ∷ os) e = absurd (omega arith)
owners-back (w ∷ ws) [] e = refl
owners-back (w ∷ ws) (o ∷ os) e = ap (λ l. o ∷ l) (owners-back ws os (omega arith))

desk-digit : (d : ℕ) → is_desk d ≡ true → d < 10 ^ 1
unfolding is_desk ◌and◌
desk-digit d h = let l = leb-true d 9 (all-at (λ x. leb x 9) (1 ∷ 2 ∷ []) d refl h) in omega arith

all-owned : (v : Runway) (ws : List Runway) (os : List ℕ) → rising v ws ≡ true → all is_desk os ≡ true → Every Owned (with_owners ws os)
unfolding rising rises valid_runway
all-owned v [] os h k = tt
all-owned v (w ∷ ws) [] h k = tt
all-owned v (w ∷ ws) (o ∷ os) h k =
    let g = and-1 _ _ (and-1 _ _ h) in
    let n = leb-true w.number highest_runway (and-1 _ _ (and-2 _ _ g)) in (
      ((omega arith, leb-true w.side 3 (and-2 _ _ (and-2 _ _ g))), desk-digit o (and-1 (is_desk o) (all is_desk os) k)),
      all-owned w ws os (and-2 _ _ h) (and-2 (is_desk o) (all is_desk os) k),
    )

-- an aerodrome, and at most eight runways of six bytes with their space and their owner
spaced-short : (w : Runway) {m k : List ℕ} → Typed (spaced_pieces w) m k → length m ≤ 4 + length k
unfolding digits spell
spaced-short w t = go w.side t
  where
    go : (side : ℕ) {m k : List ℕ} → Typed (byte 32 ∷ runway_pieces w.number side) m k → length m ≤ 4 + length k
    go zero (step byte1 (step byte1 (step byte1 done))) = omega arith
    go (suc zero) (step byte1 (step byte1 (step byte1 (step byte1 done)))) = omega arith
    go (suc (suc zero)) (step byte1 (step byte1 (step byte1 (step byte1 done)))) = omega arith
    go (suc (suc (suc zero))) (step byte1 (step byte1 (step byte1 (step byte1 done)))) = omega arith
    go (suc (suc (suc (suc n)))) (step byte1 (step byte1 (step byte1 done))) = omega arith

owned-short : (p : Runway × ℕ) {m k : List ℕ} → Typed (owned_pieces p) m k → length m ≤ 6 + length k
unfolding digits spell
owned-short p t = let c = cut (spaced_pieces p.0) t in omega (arith, spaced-short p.0 c.left, rest c.right)
  where
    rest : {m k : List ℕ} → Typed (spell (bytes "/") then digits 1 p.1) m k → length m ≤ 2 + length k
    rest (step byte1 (step byte1 done)) = omega arith

runways-short : (ps : List (Runway × ℕ)) {m k : List ℕ} → Typed (lay_all owned_pieces ps) m k → length m ≤ 6 * length ps + length k
runways-short [] done = omega arith
runways-short (p ∷ ps) t = let c = cut (owned_pieces p) t in omega (arith, owned-short p c.left, runways-short ps c.right)

verbatim-short : (a : List ℕ) {m k : List ℕ} → Typed (verbatim a) m k → length m ≤ length a + length k
verbatim-short [] done = omega arith
verbatim-short (x ∷ a) (step byte1 t) = let h = verbatim-short a t in omega arith

-- a line that is longer is refused
pub opening-long : (line : List ℕ) → 52 < length line → opening_line line ≡ refused_opening
unfolding opening_line opening_pieces
opening-long line h = go (whole (read_opening line)) refl
  where
    go : (g : Got (List ℕ × List (Runway × ℕ))) → whole (read_opening line) ≡ g → opening_read g ≡ refused_opening
    go misfit q = refl
    go (got p r) q =
        let (v, t) = whole-sound opening-laws {m = line} q in
        let c = cut (verbatim p.0) t in
        absurd (omega (arith, letters-long aerodrome_size p.0 v.0, v.1.0, verbatim-short p.0 c.left, runways-short p.1 c.right))

-- a line that is refused gives the blank board
pub refused-blank : (line : List ℕ) → eqb (opening_line line).refusal 0 ≡ false → (opening_line line).board ≡ blank_board
unfolding opening_line opening
refused-blank line e = go (whole (read_opening line)) e
  where
    opened : (t : Bool) (b : Board) → eqb (cond t (answer 0 b) refused_opening).refusal 0 ≡ false → (cond t (answer 0 b) refused_opening).board ≡ blank_board
    opened true b e = true-false e
    opened false b e = refl

    go : (g : Got (List ℕ × List (Runway × ℕ))) → eqb (opening_read g).refusal 0 ≡ false → (opening_read g).board ≡ blank_board
    go misfit e = refl
    go (got p r) e = let l = list_of p.1 in opened (valid_opening p.0 l.count l.runways l.owners) (fresh p.0 l.count l.runways l.owners) e

-- a line over 4,096 bytes is no row
pub long-report : (b : Board) (line : List ℕ) → longest < length line → report_line b line ≡ answer no_row b
unfolding report_line
long-report b line h = rw (lt-leb (length line) longest h)

blank-runway : (w : Runway) → is_blank_runway w ≡ true → w ≡ blank_runway
unfolding is_blank_runway
blank-runway w h =
    let n = eqb-true w.number 0 (and-1 _ _ h) in
    let s = eqb-true w.side 0 (and-2 _ _ h) in
    λ i. record { number = n i; side = s i }

blank-is : is_blank_runway blank_runway ≡ true
unfolding is_blank_runway ◌and◌
blank-is = refl

no-owner : (o : ℕ) → is_zero o ≡ true → o ≡ 0
no-owner o h = eqb-true o 0 h

-- the line is the text of an aerodrome, runways and owners that opening takes, with the board b
pub record Opens (line : List ℕ) (b : Board) : Type 0 where
  pub aerodrome : List ℕ
  pub count : ℕ
  pub runways : List Runway
  pub owners : List ℕ
  pub opened : opening aerodrome count runways owners ≡ answer 0 b
  pub text : Typing (opening_pieces aerodrome (with_owners (take count runways) (take count owners))) line

-- a line that opens a board is such a text
pub line-sound : (line : List ℕ) (b : Board) → opening_line line ≡ answer 0 b → Opens line b
unfolding opening_line
line-sound line b e = go (whole (read_opening line)) refl e
  where
    go : (g : Got (List ℕ × List (Runway × ℕ))) → whole (read_opening line) ≡ g → opening_read g ≡ answer 0 b → Opens line b
    go misfit q f = let z = ap (λ x. x.refusal) f in absurd (omega arith)
    go (got p r) q f =
        let l = list_of p.1 in
        let h = (λ i. with_owners (front (λ w. w.0) blank_runway p.1 i) (front (λ w. w.1) 0 p.1 i)) ∙ together p.1 in
        record {
          aerodrome = p.0;
          count = l.count;
          runways = l.runways;
          owners = l.owners;
          opened = f;
          text = subst (λ k. Typing (opening_pieces p.0 k) line) (sym h) (whole-sound opening-laws {m = line} q).1;
        }

same-opening : (a : List ℕ) {n m : ℕ} {vs ws : List Runway} {ps os : List ℕ} {x : Answer} → n ≡ m → vs ≡ ws → ps ≡ os → opening a m ws os ≡ x
    → opening a n vs ps ≡ x
same-opening a c w o e = (λ i. opening a (c i) (w i) (o i)) ∙ e

-- and such a text opens its board
pub line-complete : (line : List ℕ) (b : Board) → Opens line b → opening_line line ≡ answer 0 b
unfolding opening_line valid_opening valid_owners valid_list is_aerodrome
line-complete line b w =
    let a = w.aerodrome in
    let n = w.count in
    let ws = w.runways in
    let os = w.owners in
    let (f, v) = was-opened a n ws os b w.opened in
    let q = rules b v in
    let h : valid_list a n ws ≡ true = subst (λ c. valid_list c.aerodrome c.count c.runways ≡ true) f q.list in
    let u : valid_owners n os ≡ true = subst (λ c. valid_owners c.count c.owners ≡ true) f q.owned in
    let h₁ = and-2 _ _ h in
    let h₂ = and-2 _ _ h₁ in
    let h₃ = and-2 _ _ h₂ in
    let h₄ = and-2 _ _ h₃ in
    let u₁ = and-2 _ _ u in
    let few = leb-true n places (and-1 _ _ h₂) in
    let k = array_back blank_runway is_blank_runway blank-runway blank-is places n ws few (eqb-true (length ws) places (and-1 _ _ h₃)) (and-2 _ _ h₄) in
    let m = array_back 0 is_zero no-owner refl places n os few (eqb-true (length os) places (and-1 _ _ u)) (and-2 _ _ u₁) in
    let ps = with_owners (take n ws) (take n os) in
    let ew = runways-back (take n ws) (take n os) (k.0 ∙ sym m.0) in
    let eo = owners-back (take n ws) (take n os) (k.0 ∙ sym m.0) in
    let c = sym (length-map ps (λ p. p.0)) ∙ (ap length ew ∙ k.0) in
    rw (whole-complete opening-laws (a, ps) {m = line}
    (and-1 _ _ h, (omega arith, all-owned blank_runway (take n ws) (take n os) (and-1 _ _ h₄) (and-1 _ _ u₁))) w.text)
    (same-opening a c (ap (pad places blank_runway) ew ∙ k.1) (ap (pad places 0) eo ∙ m.1) w.opened)

-- any other line is refused as a wrong list is
pub line_refused : (line : List ℕ) → ((b : Board) → Opens line b → ⊥) → opening_line line ≡ refused_opening
unfolding opening_line opening
line_refused line none = go (whole (read_opening line)) refl
  where
    settled : (t : Bool) (b : Board) → opening_line line ≡ cond t (answer 0 b) refused_opening → cond t (answer 0 b) refused_opening ≡ refused_opening
    settled true b e = absurd (none b (line-sound line b e))
    settled false b e = refl

    go : (g : Got (List ℕ × List (Runway × ℕ))) → opening_read (whole (read_opening line)) ≡ opening_read g → opening_read g ≡ refused_opening
    go misfit e = refl
    go (got p r) e =
        let l = list_of p.1 in
        settled (valid_opening p.0 l.count l.runways l.owners) (fresh p.0 l.count l.runways l.owners) e

-- a place that shows a row holds that row, and it is valid
pub shown-row : (b : Board) → valid_board b ≡ true → (i : ℕ) → i < b.count → (r : Row) → shown_at b i ≡ row r → (valid_row r ≡ true) × (row_at b i ≡ r)
unfolding fits_place
shown-row b v i l r e = go (is_blank_row (row_at b i)) refl e
  where
    fit : fits_place (get_or (runways_of b) i blank_runway) (row_at b i) ≡ true
    fit = let k = rules b v in let u = used b k in fit_at blank_runway (runways_of b) b.rows i k.fit (omega arith)

    go : (t : Bool) → is_blank_row (row_at b i) ≡ t → cond t nothing (row (row_at b i)) ≡ row r → (valid_row r ≡ true) × (row_at b i ≡ r)
    go true q f = let o : ◌≡◌ {A = ℕ} 0 1 = cc in absurd (omega arith)
    go false q f =
        let s : row_at b i ≡ r = cc in
        (subst (λ x. valid_row x ≡ true) s (and-1 _ _ (rw q at fit)), s)

-- one that shows nothing holds no valid row
pub shown-nothing : (b : Board) (i : ℕ) → shown_at b i ≡ nothing → valid_row (row_at b i) ≡ false
shown-nothing b i e = go (is_blank_row (row_at b i)) refl e
  where
    go : (t : Bool) → is_blank_row (row_at b i) ≡ t → cond t nothing (row (row_at b i)) ≡ nothing → valid_row (row_at b i) ≡ false
    go true q f = ap valid_row (blank-row (row_at b i) q) ∙ blank-invalid
    go false q f = let o : ◌≡◌ {A = ℕ} 0 1 = cc in absurd (omega arith)

-- a row's line, with its LF
pub line-size : (r : Row) → length (canonical (row_pieces r then (end ∷ []))) ≤ 148
unfolding size
line-size r = let h = row-size r in rw (canonical-append, length-append) (omega arith)
