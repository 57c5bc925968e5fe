-- Every message is wrong, or it is read.
use Rattle.std.specs.Prelude.{ℕ, zero, suc, ◌+◌, ◌<◌, ◌≤◌, ◌≡◌, refl, List, [], ◌∷◌, ◌++◌, map, cond, Bool, true, false, length, ◌⊎◌, eqb, leb}
use Rattle.std.proofs.Common.{sym, subst, ◌∙◌, ap, length-append, arith, inl, inr, ⊎_elim, eqb-true, leb-true, leb-false, le-leb}
use Rattle.std.proofs.lemmas.Bool.{eqb-false}
use Rattle.text.specs.Choice.{same_bytes}
use Rattle.text.specs.Laws.Same.{same_true, same_refl}
use Rattle.text.specs.Laws.Base.{Laws, true-false, no-misfit}
use Rattle.text.specs.Piece.{Piece, Typed, done}
use Rattle.text.specs.Read.{Got, misfit, got, whole}
use Rattle.text.specs.Lines.{lines, text, cuts, closed, all_but_last, line_text}
use Rattle.text.specs.Out.{Out, refuse, taken}
use Rattle.text.specs.Laws.Cuts.{cuts-text}
use Rattle.text.specs.Laws.Lines.{closed_is}
use Rattle.frontlines.specs.declared.Addresses.{Addresses}
use Rattle.frontlines.specs.declared.Filing.{Filing}
use Rattle.frontlines.specs.Addresses.{addresses_pieces, valid_addresses}
use Rattle.frontlines.specs.Filing.{filing_pieces, valid_filing}
use Rattle.frontlines.specs.declared.Heading.{Heading}
use Rattle.frontlines.specs.Laws.Addresses.{addresses-laws}
use Rattle.frontlines.specs.Laws.Filing.{filing-laws}
use Rattle.frontlines.specs.Laws.Heading.{heading-laws, serial-line-laws, aerodrome-laws}
use Rattle.record.specs.declared.Record.{Record}
use Rattle.row.specs.declared.Row.{Row}
use Rattle.rowtext.specs.Reading.{find_row}
use Rattle.rowtext.specs.Theorems.{row-sound, fault-exactly}
use Rattle.body.specs.Rows.{is_among, latest}
use Rattle.items.specs.declared.Item.{Item}
use Rattle.items.specs.Awareness.{awareness_pieces}
use Rattle.items.specs.Language.{valid_language}
use Rattle.items.specs.Laws.Awareness.{awareness-laws}
use Rattle.record.specs.Answer.{accepted}
use Rattle.notice.specs.Reading.{read_notice, reading}
use Rattle.notice.specs.Wrong.{Fits, addresses, filing, heading, serial, aerodrome, Fitting, start, line, new_row}
use Rattle.notice.specs.Wrong.{Rows, front, row, Parted, parted, Aware, aware, ItemsLine, Closed, by_row, by_items, by_language}
use Rattle.notice.specs.Wrong.{Says, HeadingLine, SerialLine, AerodromeLine, Wrong, too_long, missing, unended, no_row, ninth, row_fault, twice}
use Rattle.notice.specs.Wrong.{no_items, bad_items, empty_items, no_language, open_language, bad_language, after, serials, aerodromes, times}
use Rattle.notice.specs.Laws.Wrong.{said, saying, Opened, Ended, ended, agreed}

-- a message is wrong, or read
pub data Verdict (m : List ℕ) : Type 0 where
  wrong : {n p : ℕ} → Wrong m n p → Verdict m
  right : {r : Record} → length m ≤ 4096 → reading m ≡ accepted r → Verdict m

-- a line says something, or nothing of its kind
module _ {A : Type 0} {test : A → Bool} {layout : A → List Piece} {rd : List ℕ → Got A} {s : List ℕ → Type 0}
    (F : Laws (λ a. test a ≡ true) layout rd s (λ r. r ≡ [])) where
  says-or : (l : List ℕ) → ((a : A) × Says test layout l a) ⊎ ((a : A) → Says test layout l a → ⊥)
  says-or l = go (whole (rd l)) refl
    where
      go : (g : Got A) → whole (rd l) ≡ g → ((a : A) × Says test layout l a) ⊎ ((a : A) → Says test layout l a → ⊥)
      go misfit e = inr (λ a u. no-misfit (sym e ∙ said F u))
      go (got a r) e = inl (a, saying F e)

-- a line of lines 1 to 5 fits or does not
module _ {l : List ℕ} where
  no-addresses : ((a : Addresses) → Says valid_addresses addresses_pieces l a → ⊥) → Fits 0 l → ⊥
  no-addresses off (addresses {a = a} u) = off a u

  no-filing : ((f : Filing) → Says valid_filing filing_pieces l f → ⊥) → Fits 1 l → ⊥
  no-filing off (filing {f = f} u) = off f u

  no-heading : ((h : Heading) → HeadingLine l h → ⊥) → Fits 2 l → ⊥
  no-heading off (heading {h = h} u) = off h u

  no-serial : ((n : ℕ) → SerialLine l n → ⊥) → Fits 3 l → ⊥
  no-serial off (serial {n = n} u) = off n u

  no-aerodrome : ((d : List ℕ) → AerodromeLine l d → ⊥) → Fits 4 l → ⊥
  no-aerodrome off (aerodrome {d = d} u) = off d u

fits_or : (k : ℕ) (l : List ℕ) → k < 5 → Fits k l ⊎ (Fits k l → ⊥)
fits_or zero l h = ⊎_elim (λ x. inl (addresses x.1)) (λ off. inr (no-addresses off)) (says-or addresses-laws l)
fits_or (suc zero) l h = ⊎_elim (λ x. inl (filing x.1)) (λ off. inr (no-filing off)) (says-or filing-laws l)
fits_or (suc (suc zero)) l h = ⊎_elim (λ x. inl (heading x.1)) (λ off. inr (no-heading off)) (says-or heading-laws l)
fits_or (suc (suc (suc zero))) l h = ⊎_elim (λ x. inl (serial x.1)) (λ off. inr (no-serial off)) (says-or serial-line-laws l)
fits_or (suc (suc (suc (suc zero)))) l h = ⊎_elim (λ x. inl (aerodrome x.1)) (λ off. inr (no-aerodrome off)) (says-or aerodrome-laws l)
fits_or (suc (suc (suc (suc (suc k))))) l h = absurd (omega arith)

taken-accepted : (m : List ℕ) {r : Record} → length m ≤ 4096 → read_notice (cuts m) ≡ taken r → reading m ≡ accepted r
unfolding reading
taken-accepted m short e = rw (le-leb (length m) 4096 short, e)

-- the lines of a front that is read, and what they say
opened-lines : {m : List ℕ} (o : Opened m)
    → lines m ≡ text o.first ∷ text o.second ∷ text o.third ∷ text o.fourth ∷ text o.fifth ∷ map text o.front
opened-lines {m} o = sym (cuts-text m) ∙ ap (map text) o.is

module _ {m : List ℕ} {rs : List Row} {k : ℕ} (w : Closed m rs k []) where
  -- every line fits: they agree or differ
  ended-verdict : Verdict m
  ended-verdict = go (eqb h.title.serial o.serial) refl (same_bytes h.title.aerodrome o.aerodrome) refl (eqb h.time (latest rs)) refl
    where
      x : Ended m rs
      x = ended w

      o : Opened m
      o = x.opening

      h : Heading
      h = o.heading

      says₃ : HeadingLine (text o.third) h
      says₃ = saying heading-laws o.reads₃

      says₄ : SerialLine (text o.fourth) o.serial
      says₄ = saying serial-line-laws o.reads₄

      says₅ : AerodromeLine (text o.fifth) o.aerodrome
      says₅ = saying aerodrome-laws o.reads₅

      go : (a : Bool) → eqb h.title.serial o.serial ≡ a → (b : Bool) → same_bytes h.title.aerodrome o.aerodrome ≡ b
          → (c : Bool) → eqb h.time (latest rs) ≡ c → Verdict m
      go false p b q c t = wrong (serials w (opened-lines o) says₃ says₄ (eqb-false h.title.serial o.serial p))
      go true p false q c t =
          let e = eqb-true h.title.serial o.serial p in
          wrong (aerodromes w (opened-lines o) says₃ (subst (SerialLine (text o.fourth)) (sym e) says₄) says₅
          (λ z. true-false (sym (ap (same_bytes h.title.aerodrome) (sym z) ∙ same_refl h.title.aerodrome) ∙ q)))
      go true p true q false t =
          let e = eqb-true h.title.serial o.serial p in
          let f = same_true h.title.aerodrome o.aerodrome q in
          wrong (times w (opened-lines o) says₃ (subst (SerialLine (text o.fourth)) (sym e) says₄) (subst (AerodromeLine (text o.fifth)) (sym f) says₅)
          (eqb-false h.time (latest rs) t))
      go true p true q true t =
          let e = eqb-true h.title.serial o.serial p in
          let f = same_true h.title.aerodrome o.aerodrome q in
          right o.short (taken-accepted m o.short (x.reads ∙ agreed o rs x.found e f (eqb-true h.time (latest rs) t)))

closed-verdict : {m : List ℕ} {rs : List Row} {k : ℕ} (ls : List (List ℕ)) → Closed m rs k ls → Verdict m
closed-verdict [] w = ended-verdict w
closed-verdict (l ∷ ls) w = wrong (after w)

language-verdict : {m : List ℕ} {rs : List Row} (ls : List (List ℕ)) → Aware m rs ls → Verdict m
language-verdict [] w = wrong (no_language w)
language-verdict {m} (l ∷ ls) w = go (closed l) refl (valid_language (line_text l)) refl
  where
    go : (a : Bool) → closed l ≡ a → (b : Bool) → valid_language (line_text l) ≡ b → Verdict m
    go false p b q = wrong (open_language w p)
    go true p false q = wrong (bad_language w p q)
    go true p true q = closed-verdict ls (by_language w p q)

-- no items are typed as nothing
nothing-typed : {t : List ℕ} → ItemsLine t [] → t ≡ []
unfolding awareness_pieces
nothing-typed u = go u.typing
  where
    go : {t : List ℕ} → Typed [] t [] → t ≡ []
    go done = refl

alone : (l : List ℕ) → closed l ≡ true → line_text l ≡ [] → l ≡ 41 ∷ []
alone l p e = closed_is l p ∙ ap (λ k. k ++ (41 ∷ [])) (ap (λ b. cond b (all_but_last l) l) (sym p) ∙ e)

items-verdict : {m : List ℕ} {rs : List Row} (ls : List (List ℕ)) → Parted m rs ls → Verdict m
items-verdict [] w = wrong (no_items w)
items-verdict {m} {rs} (l ∷ ls) w = go (closed l) refl (says-or awareness-laws (line_text l))
  where
    go : (a : Bool) → closed l ≡ a → ((is : List Item) × ItemsLine (line_text l) is) ⊎ ((is : List Item) → ItemsLine (line_text l) is → ⊥) → Verdict m
    go a p (inr off) = wrong (bad_items w off)
    go false p (inl (is, u)) = language-verdict ls (aware w u p)
    go true p (inl ([], u)) = wrong (empty_items (subst (λ k. Parted m rs (k ∷ ls)) (alone l p (nothing-typed u)) w))
    go true p (inl (i ∷ is, u)) = closed-verdict ls (by_items w u p)

rows-verdict : {m : List ℕ} (n : ℕ) (rs : List Row) (ls : List (List ℕ)) → n + length rs ≡ 8 → Rows m rs ls → Verdict m
rows-verdict n rs [] e w = wrong (unended w)
rows-verdict n [] ([] ∷ ls) e w = wrong (no_row w)
rows-verdict n (r ∷ rs) ([] ∷ ls) e w = items-verdict ls (parted w)
rows-verdict zero rs ((x ∷ l) ∷ ls) e w = wrong (ninth {rs = rs} (omega arith) w)
rows-verdict {m} (suc n) rs ((x ∷ l) ∷ ls) e w =
    go (find_row (line_text (x ∷ l))) refl (closed (x ∷ l)) refl
    (λ r v. rows-verdict n (rs ++ (r ∷ [])) ls (omega (arith, length-append rs (r ∷ []))) v)
  where
    few : length rs < 8
    few = omega arith

    go : (o : Out Row) → find_row (line_text (x ∷ l)) ≡ o → (c : Bool) → closed (x ∷ l) ≡ c
        → ((r : Row) → Rows m (rs ++ (r ∷ [])) ls → Verdict m) → Verdict m
    go (refuse k left) f c p ih = wrong (row_fault few w ((fault-exactly (line_text (x ∷ l)) k left).0 f))
    go (taken r) f c p ih = seen (is_among r rs) refl c p
      where
        seen : (a : Bool) → is_among r rs ≡ a → (c : Bool) → closed (x ∷ l) ≡ c → Verdict m
        seen true q c p = wrong (twice few w (row-sound (line_text (x ∷ l)) f) q)
        seen false q true p = closed-verdict ls (by_row w (new_row few (row-sound (line_text (x ∷ l)) f) q) p)
        seen false q false p = ih r (row w (new_row few (row-sound (line_text (x ∷ l)) f) q) p)

front-verdict : {m : List ℕ} (n k : ℕ) (ls : List (List ℕ)) → n + k ≡ 5 → Fitting m k ls → Verdict m
front-verdict {m} zero k ls e f = let q : k ≡ 5 = omega arith in rows-verdict 8 [] ls refl (front (subst (λ i. Fitting m i ls) q f))
front-verdict (suc n) k [] e f = wrong (missing {k = k} (omega arith) f)
front-verdict {m} (suc n) k (l ∷ ls) e f = go (fits_or k l (omega arith)) (λ u. front-verdict n (suc k) ls (omega arith) (line f u))
  where
    go : Fits k l ⊎ (Fits k l → ⊥) → (Fits k l → Verdict m) → Verdict m
    go (inl u) ih = ih u
    go (inr off) ih = wrong (Wrong.misfit {k = k} (omega arith) f off)

pub verdict : (m : List ℕ) → Verdict m
verdict m = go (leb (length m) 4096) refl
  where
    go : (b : Bool) → leb (length m) 4096 ≡ b → Verdict m
    go false e = wrong (too_long (leb-false (length m) 4096 e))
    go true e = front-verdict 5 0 (lines m) refl (start (leb-true (length m) 4096 e))
