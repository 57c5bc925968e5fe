-- What the proofs of the desk's steps need: lines, pieces, and the loops over places and bytes.
use Prim.Native.Nat.{ℕ, suc, ◌+◌, ◌-◌, ◌<◌, ◌≤◌}
use mathlib.Core.Path.{◌≡◌, refl, sym, subst, ◌∙◌, ap}
use mathlib.Core.List.{List, [], ◌∷◌, ◌++◌, append-nil, flatten}
use mathlib.Core.Bool.{cond, Bool, true, false}
use native.Mathlib.Numerals.{add-one}
use native.Mathlib.Omega.{arith}
use lib.Dec.{eqb, leb}
use lib.ListN.{length, take, drop, get_or, length-drop, drop_of_length-le}
use lib.Seq.{take_all, drop-cons}
use borrow.Author.Tests.{ne_eqb, leb-true, leb-false}
use Rattle.text.specs.Put.{Put}
use Rattle.text.specs.Code.Held.{Reached}
use Rattle.text.specs.Laws.Held.{one_place}
use Rattle.text.specs.Laws.Put.{more}
use Rattle.board.specs.declared.Board.{Board}
use Rattle.row.specs.declared.Row.{Row}
use Rattle.row.specs.Row.{blank_row}
use Rattle.board.specs.Laws.Rules.{get_d_any}
use Rattle.desktext.specs.declared.Standing.{Standing}
use Rattle.desktext.specs.declared.State.{State}
use Rattle.desktext.specs.Line.{shown_text}
use Rattle.desktext.specs.Desk.{shown_rows, desk_text, desk_board}
use Rattle.desktext.specs.Pieces.{after_line, line_answer, board_of, begun, kept_byte, without_return}
use Rattle.desktext.specs.Pieces.{start_state, after_byte, byte_answer, fed_state, fed_text, last_standing, finish_text, pieces_text}
use Rattle.desktext.specs.Laws.Pieces.{whole-board}
use Rattle.desktext.specs.Theorems.{pieces}

-- one place more
pub rows_more : (b : Board) (i : ℕ) (d : Row) {at p q : ℕ} {first now' then' : List ℕ} → i < length b.rows → Put at (shown_rows i b) first now' p
    → Put p (shown_text (get_or b.rows i d)) now' then' q → Put at (shown_rows (i + 1) b) first then' q
unfolding shown_rows
rows_more b i d h before here = rw (add-one, get_d_any blank_row d b.rows i h) (more before here)

-- of eight places
pub rows_all : (b : Board) (i : ℕ) {at p : ℕ} {first now' : List ℕ} → i ≡ 8 → Put at (shown_rows i b) first now' p → Put at (shown_rows 8 b) first now' p
rows_all b i {at} {p} {first} {now'} e h = subst (λ n. Put at (shown_rows n b) first now' p) e h

-- ---- The CR before an LF

pub return-taken : (l : List ℕ) → take (length (without_return l)) l ≡ without_return l
unfolding without_return
return-taken [] = refl
return-taken (x ∷ []) = go (eqb x 13)
  where
    go : (b : Bool) → take (length (cond b [] (x ∷ []))) (x ∷ []) ≡ cond b [] (x ∷ [])
    go true = refl
    go false = refl
return-taken (x ∷ y ∷ l) = ap (λ k. x ∷ k) (return-taken (y ∷ l))

return-length : (x : ℕ) (l : List ℕ) → length (without_return (x ∷ l)) ≡ cond (eqb (get_or (x ∷ l) (length l) 0) 13) (length l) (suc (length l))
unfolding without_return
return-length x [] = go (eqb x 13)
  where
    go : (b : Bool) → length (cond b [] (x ∷ [])) ≡ cond b 0 1
    go true = refl
    go false = refl
return-length x (y ∷ l) = ap suc (return-length y l) ∙ go (eqb (get_or (y ∷ l) (length l) 0) 13)
  where
    go : (b : Bool) → suc (cond b (length l) (suc (length l))) ≡ cond b (suc (length l)) (suc (suc (length l)))
    go true = refl
    go false = refl

pub return_cut : (l : List ℕ) → 0 < length l → get_or l (length l - 1) 0 ≡ 13 → take (length l - 1) l ≡ without_return l
return_cut [] h e = absurd (omega arith)
return_cut (x ∷ l) h e =
    let z : suc (length l) - 1 ≡ length l = omega arith in
    let f = rw z at e in
    let n : length l ≡ length (without_return (x ∷ l)) = rw (return-length x l, f) in
    rw (z, n) (return-taken (x ∷ l))

pub return_kept : (l : List ℕ) → (0 < length l → get_or l (length l - 1) 0 ≡ 13 → ⊥) → l ≡ without_return l
unfolding without_return
return_kept [] e = refl
return_kept (x ∷ l) e =
    let z : suc (length l) - 1 ≡ length l = omega arith in
    let f = rw z at (e (omega arith)) in
    let n : length (without_return (x ∷ l)) ≡ length (x ∷ l) = rw (return-length x l, ne_eqb (get_or (x ∷ l) (length l) 0) 13 f) in
    sym (take_all (length (without_return (x ∷ l))) (x ∷ l) (omega arith)) ∙ return-taken (x ∷ l)

-- the bytes before a place, or all where it lies past the end
pub reached-take : (m : List ℕ) (i n : ℕ) → Reached m (drop i m) n → take n m ≡ take i m
reached-take m i n h = go (leb i (length m)) refl
  where
    go : (t : Bool) → leb i (length m) ≡ t → take n m ≡ take i m
    go true e = ap (λ k. take k m) (one_place m n i h.within (leb-true i (length m) e) h.left)
    go false e =
        let q = leb-false i (length m) e in
        let z : length m - n ≡ length m - i = sym (length-drop n m) ∙ ap length h.left ∙ length-drop i m in
        take_all n m (omega arith) ∙ sym (take_all i m (omega arith))

-- ---- Byte by byte

abbrev pub state : Standing → List ℕ → ℕ → State
state d held count = record { standing = d; held = held; count = count }

-- what is left, put from here, makes the whole
abbrev pub Goes : ℕ → List ℕ → List ℕ → ℕ → List ℕ → List ℕ → Type 0
Goes at whole first here left now' = (x : List ℕ) (q : ℕ) → Put here left now' x q → Put at whole first x q

-- one byte of a piece
module _ (m : List ℕ) (i : ℕ) (low : i < length m) (s : State) where
  cut : drop i m ≡ get_or m i 0 ∷ drop (i + 1) m
  cut = rw add-one (drop-cons m i 0 low)

  pub state-on : {t : State} → after_byte s (get_or m i 0) ≡ t → fed_state t (drop (i + 1) m) ≡ fed_state s (drop i m)
  unfolding fed_state
  state-on e = sym (ap (fed_state s) cut ∙ ap (λ u. fed_state u (drop (i + 1) m)) e)

  pub text-on : {t : State} → after_byte s (get_or m i 0) ≡ t → byte_answer s (get_or m i 0) ++ fed_text t (drop (i + 1) m) ≡ fed_text s (drop i m)
  unfolding fed_text
  text-on e = rw (cut, e)

  -- an LF: the answer to the line is put
  module _ (lf : get_or m i 0 ≡ 10) where
    pub after-feed : {d : Standing} → d ≡ after_line s.standing (without_return (begun s)) → after_byte s (get_or m i 0) ≡ state d s.held 0
    unfolding after_byte
    after-feed e = rw (lf, e)

    feed-says : byte_answer s (get_or m i 0) ≡ line_answer s.standing (without_return (begun s))
    unfolding byte_answer
    feed-says = rw lf

    pub goes-feed : {t : State} {at r p : ℕ} {whole first now' then' : List ℕ} → after_byte s (get_or m i 0) ≡ t → Goes at whole first r (fed_text s (drop i m)) now'
        → Put r (line_answer s.standing (without_return (begun s))) now' then' p → Goes at whole first p (fed_text t (drop (i + 1) m)) then'
    goes-feed {t} {at} {r} {p} {whole} {first} {now'} {then'} e go put x q left =
        go x q (subst (λ (l : List ℕ). Put r l now' x q) (ap (λ (l : List ℕ). l ++ fed_text t (drop (i + 1) m)) (sym feed-says) ∙ text-on e) (more put left))

  -- any other byte: it is kept, and nothing is put
  module _ (other : get_or m i 0 ≡ 10 → ⊥) where
    pub after-other : after_byte s (get_or m i 0) ≡ kept_byte s (get_or m i 0)
    unfolding after_byte
    after-other = rw (ne_eqb (get_or m i 0) 10 other)

    other-says : byte_answer s (get_or m i 0) ≡ []
    unfolding byte_answer
    other-says = rw (ne_eqb (get_or m i 0) 10 other)

    pub text-kept : {t : State} → after_byte s (get_or m i 0) ≡ t → fed_text t (drop (i + 1) m) ≡ fed_text s (drop i m)
    text-kept {t} e = ap (λ (l : List ℕ). l ++ fed_text t (drop (i + 1) m)) (sym other-says) ∙ text-on e

-- the piece is at its end
module _ (s : State) (m : List ℕ) (i : ℕ) (h : length m ≤ i) where
  pub state-out : fed_state s (drop i m) ≡ s
  unfolding fed_state
  state-out = ap (fed_state s) (drop_of_length-le m h)

  pub text_out : fed_text s (drop i m) ≡ []
  unfolding fed_text
  text_out = ap (fed_text s) (drop_of_length-le m h)

-- the whole input is one piece
pub put_whole : (m : List ℕ) (s : State) → s ≡ start_state → (t : State) → t ≡ fed_state s m → {r q : ℕ} {b x y : List ℕ}
    → Put 0 (fed_text s m) b x r → Put r (finish_text t) x y q → Put 0 (desk_text m) b y q
unfolding pieces_text flatten
put_whole m s e t f {r} {q} {b} {x} {y} p last =
    let all : fed_text s m ++ finish_text t ≡ desk_text m = rw (f, e) (pieces (m ∷ []) ∙ ap desk_text (append-nil m)) in
    subst (λ (l : List ℕ). Put 0 l b y q) all (more p last)

-- and the board that is kept after it
pub kept-whole : (m : List ℕ) {s : State} {d : Standing} → s ≡ fed_state start_state m → d ≡ last_standing s → board_of d ≡ desk_board m
kept-whole m e f = rw (f, e) (whole-board m)
