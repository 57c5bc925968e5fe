-- Lines are read as good parts exactly if they are told by the parts' lines.
use Rattle.std.specs.Prelude.{ℕ, ◌≡◌, cond, Bool, eqb}
use Rattle.std.proofs.Math.Path.{refl}
use Rattle.std.proofs.Common.{sym, subst, ◌∙◌, ap, eqb-true, eq-eqb}
use mathlib.Core.List.{List, [], ◌∷◌, ◌++◌, map}
use Rattle.std.proofs.Math.Bool.{true, false}
use Rattle.text.specs.Choice.{◌and◌, all, is_empty, same_bytes}
use Rattle.text.specs.Piece.{Piece, Typed, Typing}
use Rattle.text.specs.Read.{Got, got, whole}
use Rattle.text.specs.Laws.Base.{true-false, inline, and-1, and-2, and_i}
use Rattle.text.specs.Laws.Lines.{Tells, whole-sound, whole-complete, all_append, next as and-next}
use Rattle.row.specs.declared.Row.{Row}
use Rattle.row.specs.Row.{valid_row}
use Rattle.rowtext.specs.Text.{row_pieces}
use Rattle.rowtext.specs.Laws.Row.{row_laws}
use Rattle.items.specs.declared.Item.{Item}
use Rattle.text.specs.Laws.Same.{same_true, same_refl}
use Rattle.items.specs.Awareness.{valid_items, awareness_pieces}
use Rattle.items.specs.Laws.Awareness.{awareness-laws}
use Rattle.items.specs.Laws.Language.{language-laws}
use Rattle.frontlines.specs.Addresses.{read_addresses}
use Rattle.frontlines.specs.Filing.{read_filing}
use Rattle.frontlines.specs.declared.Heading.{Heading}
use Rattle.frontlines.specs.Heading.{read_heading, serial_pieces, read_serial_line, aerodrome_pieces, read_aerodrome, is_serial, valid_title}
use Rattle.frontlines.specs.Laws.Addresses.{addresses-laws}
use Rattle.frontlines.specs.Laws.Filing.{filing-laws}
use Rattle.frontlines.specs.Laws.Heading.{heading-laws, serial-line-laws, aerodrome-laws}
use Rattle.text.specs.Out.{Out, refuse, taken, read_line}
use Rattle.text.specs.Lines.{Cut, cut, text, onward}
use Rattle.text.specs.Laws.Left.{Left}
use Rattle.text.specs.Laws.Cuts.{Ends}
use Rattle.front.specs.Places.{time_on, serial_on}
use Rattle.front.specs.Laws.Places.{time-left, serial-left}
use Rattle.body.specs.Rows.{most_rows, latest, read_rows}
use Rattle.remarks.specs.Remarks.{remark_lines, language_lines, read_remarks}
use Rattle.items.specs.Parts.{none_or_language}
use Rattle.text.specs.Laws.Out.{no-refuse, took, fit-took, next-took, Within, stopped, passed, Any, line-within, next-within, is_number}
use Rattle.body.specs.Laws.Rows.{rows-sound, rows-complete, EndsBlock, rows-within}
use Rattle.text.specs.Laws.Told.{Told, last_line, one_line, told, cutting}
use Rattle.remarks.specs.Laws.Remarks.{remarks-sound, remarks-complete, remarks-tail, remarks-within}
use Rattle.record.specs.declared.Record.{Record}
use Rattle.record.specs.Record.{make_record}
use Rattle.notice.specs.Reading.{agreeing, read_notice}
use Rattle.notice.specs.Laws.Parts.{Parts, made, part_lines, Good, title-valid}

-- inversion of a line, and of the agreement at the end
record Line {A B : Type 0} (f : List ℕ → Got A) (cs : List Cut) (k : A → Cut → List Cut → Out B) (b : B) : Type 0 where
  first : Cut
  others : List Cut
  is : cs ≡ first ∷ others
  val : A
  rest : List ℕ
  reads : whole (f (text first)) ≡ got val rest
  goes : k val first others ≡ taken b

line-took : {A B : Type 0} (n : ℕ) (f : List ℕ → Got A) (cs : List Cut) {k : A → Cut → List Cut → Out B} {b : B} → read_line n f cs k ≡ taken b
    → Line f cs k b
line-took n f [] e = no-refuse e
line-took n f (c ∷ cs) e = let x = fit-took n (onward c) (whole (f (text c))) e in
    record { first = c; others = cs; is = refl; val = x.val; rest = x.rest; reads = x.one; goes = x.two }

record Agreed (h : Heading) (serial : ℕ) (aerodrome : List ℕ) (rows : List Row) (r s : Record) : Type 0 where
  serials : h.title.serial ≡ serial
  aerodromes : h.title.aerodrome ≡ aerodrome
  times : h.time ≡ latest rows
  same : taken r ≡ taken s

agree-took : (h : Heading) (l₃ : Cut) (serial : ℕ) (l₄ : Cut) (aerodrome : List ℕ) (l₅ : Cut) (rows : List Row) (r : Record) {s : Record}
    → agreeing h l₃ serial l₄ aerodrome l₅ rows r ≡ taken s → Agreed h serial aerodrome rows r s
unfolding agreeing
agree-took h l₃ serial l₄ aerodrome l₅ rows r {s} e = go (eqb h.title.serial serial) refl (same_bytes h.title.aerodrome aerodrome) refl
    (eqb h.time (latest rows)) refl e
  where
    go : (a : Bool) → eqb h.title.serial serial ≡ a → (b : Bool) → same_bytes h.title.aerodrome aerodrome ≡ b → (c : Bool)
        → eqb h.time (latest rows) ≡ c
        → cond a (cond b (cond c (taken r) (refuse 12 (time_on l₃))) (refuse 11 (onward l₅))) (refuse 10 (serial_on l₄)) ≡ taken s
        → Agreed h serial aerodrome rows r s
    go true p true q true t f = record {
      serials = eqb-true h.title.serial serial p;
      aerodromes = same_true h.title.aerodrome aerodrome q;
      times =
          eqb-true h.time (latest rows) t;
      same = f;
    }
    go true p true q false t f = no-refuse f
    go true p false q c t f = no-refuse f
    go false p b q c t f = no-refuse f

pub record Taken (cs : List Cut) (r : Record) : Type 0 where
  pub parts : Parts
  pub good : Good parts
  pub tells : Tells (part_lines parts) (map text cs)
  pub is : made parts ≡ r

pub notice-sound : (cs : List Cut) {r : Record} → read_notice cs ≡ taken r → Taken cs r
unfolding read_notice
notice-sound cs {r} e =
    let l₁ = line-took 2 read_addresses cs e in
    let l₂ = line-took 2 read_filing l₁.others l₁.goes in
    let l₃ = line-took 3 read_heading l₂.others l₂.goes in
    let l₄ = line-took 4 read_serial_line l₃.others l₃.goes in
    let l₅ = line-took 4 read_aerodrome l₄.others l₄.goes in
    let n₁ = next-took (read_rows most_rows [] l₅.others) l₅.goes in
    let n₂ = next-took (read_remarks n₁.val.after) n₁.two in
    let a = agree-took l₃.val l₃.first l₄.val l₄.first l₅.val l₅.first n₁.val.rows (make_record l₁.val l₂.val
    l₃.val.title n₁.val.rows n₂.val) n₂.two in
    let w₁ = whole-sound addresses-laws l₁.reads in
    let w₂ = whole-sound filing-laws l₂.reads in
    let w₃ = whole-sound heading-laws l₃.reads in
    let w₄ = whole-sound serial-line-laws l₄.reads in
    let w₅ = whole-sound aerodrome-laws l₅.reads in
    let rs = rows-sound most_rows [] l₅.others n₁.one in
    let rm = remarks-sound n₁.val.after n₂.one in
    let p : Parts = record { addresses = l₁.val; filing = l₂.val; heading = l₃.val; rows = rs.new; remarks = n₂.val } in
    record {
      parts = p;
      good = record {
        addresses = w₁.0;
        filing = w₂.0;
        heading = w₃.0;
        rows = record { valid = rs.valid; other = rs.other; few = rs.few; some = rs.some refl };
        items = rm.items;
        language = rm.language;
        time = a.times ∙ ap latest rs.is;
      };
      tells = subst (λ k. Tells (part_lines p) (map text k)) (sym (l₁.is ∙ ap (λ k. l₁.first ∷ k)
          (l₂.is ∙ ap (λ k. l₂.first ∷ k) (l₃.is ∙ ap (λ k. l₃.first ∷ k) (l₄.is ∙ ap (λ k. l₄.first ∷ k) l₅.is)))))
          (and-next w₁.1 (and-next w₂.1 (and-next w₃.1
          (and-next (subst (λ s. Typed (serial_pieces s) (text l₄.first) []) (sym a.serials) w₄.1)
          (and-next (subst (λ s. Typed (aerodrome_pieces s) (text l₅.first) []) (sym a.aerodromes) w₅.1)
          (rs.tells (remark_lines n₂.val.items n₂.val.language) rm.follows))))));
      is = ap (λ k. make_record l₁.val l₂.val l₃.val.title k n₂.val) (sym rs.is)
          ∙ took (λ s. make_record l₁.val l₂.val l₃.val.title n₁.val.rows n₂.val ≡ s) a.same refl;
    }

-- the other way
record LineOf (ps : List Piece) (tail : List (List Piece)) (cs : List Cut) : Type 0 where
  first : Cut
  others : List Cut
  is : cs ≡ first ∷ others
  typed : Typing ps (text first)
  tells : Tells tail (map text others)

line_of : {ps : List Piece} {tail : List (List Piece)} (cs : List Cut) → is_empty tail ≡ false → Tells (ps ∷ tail) (map text cs) → LineOf ps tail cs
line_of {ps} {tail} cs h t = go (told t)
  where
    go : Told ps tail (map text cs) → LineOf ps tail cs
    go (last_line l k e f q u) = true-false (sym (sym h ∙ ap is_empty e))
    go (one_line l ls f u w) =
        let c = cutting cs f in
        record { first = cut l c.behind; others = c.others; is = c.is; typed = u; tells = subst (Tells tail) (sym c.texts) w }

rows-some : (rs : List Row) (pss : List (List Piece)) → is_empty rs ≡ false → is_empty (map row_pieces rs ++ pss) ≡ false
rows-some [] pss h = true-false h
rows-some (r ∷ rs) pss h = refl

-- the serial and the aerodrome of a good heading
serial-of : (h : Heading) → valid_title h.title ≡ true → is_serial h.title.serial ≡ true
unfolding valid_title
serial-of h v = and-1 _ _ (and-2 _ _ v)

pub notice-complete : (p : Parts) (cs : List Cut) → Good p → Tells (part_lines p) (map text cs) → read_notice cs ≡ taken (made p)
unfolding read_notice agreeing valid_title
notice-complete p cs g t =
    let l₁ = line_of cs refl t in
    let l₂ = line_of l₁.others refl l₁.tells in
    let l₃ = line_of l₂.others refl l₂.tells in
    let l₄ = line_of l₃.others refl l₃.tells in
    let l₅ = line_of l₄.others (rows-some p.rows (remark_lines p.remarks.items p.remarks.language) g.rows.some) l₄.tells in
    let v = title-valid p.heading g.heading in
    let w₁ = whole-complete addresses-laws p.addresses g.addresses l₁.typed in
    let w₂ = whole-complete filing-laws p.filing g.filing l₂.typed in
    let w₃ = whole-complete heading-laws p.heading g.heading l₃.typed in
    let w₄ = whole-complete serial-line-laws p.heading.title.serial (serial-of p.heading v) l₄.typed in
    let w₅ = whole-complete aerodrome-laws p.heading.title.aerodrome (and-2 _ _ (and-2 _ _ v)) l₅.typed in
    let b = rows-complete most_rows [] p.rows l₅.others (remarks-tail p.remarks.items p.remarks.language) g.rows.valid
    g.rows.other g.rows.few
    (λ _. g.rows.some) l₅.tells in
    let m = remarks-complete b.after p.remarks.items p.remarks.language g.items g.language b.follows in
    let is = l₁.is ∙ ap (λ k. l₁.first ∷ k) (l₂.is
    ∙ ap (λ k. l₂.first ∷ k) (l₃.is ∙ ap (λ k. l₃.first ∷ k) (l₄.is ∙ ap (λ k. l₄.first ∷ k) l₅.is))) in
    ap read_notice is ∙ rw (
      w₁,
      w₂,
      w₃,
      w₄,
      w₅,
      b.reads,
      m,
      eq-eqb p.heading.title.serial p.heading.title.serial refl,
      same_refl p.heading.title.aerodrome,
      eq-eqb p.heading.time (latest p.rows) g.time,
    )

-- a refused message: its number is one of the list, and what is left is an end of it
module _ (m : List ℕ) where
  agree-within : (h : Heading) (l₃ : Cut) (serial : ℕ) (l₄ : Cut) (aerodrome : List ℕ) (l₅ : Cut) (rows : List Row) (r : Record)
      → Left m (onward l₃) → Left m (onward l₄) → Left m (onward l₅) → Within is_number m Any (agreeing h l₃ serial l₄ aerodrome l₅ rows r)
  unfolding agreeing is_number
  agree-within h l₃ serial l₄ aerodrome l₅ rows r t₃ t₄ t₅ =
      go (eqb h.title.serial serial) (same_bytes h.title.aerodrome aerodrome) (eqb h.time (latest rows))
    where
      go : (a b c : Bool) → Within is_number m {A = Record} Any (cond a (cond b (cond c (taken r) (refuse 12 (time_on l₃))) (refuse 11 (onward l₅)))
          (refuse 10 (serial_on l₄)))
      go true true true = passed tt
      go true true false = stopped refl (time-left l₃ t₃)
      go true false c = stopped refl t₅
      go false b c = stopped refl (serial-left l₄ t₄)

  pub notice-within : (cs : List Cut) → Ends m cs → Within is_number m Any (read_notice cs)
  unfolding read_notice is_number
  notice-within cs₁ e₁ =
      line-within is_number m Any 2 read_addresses cs₁ _ refl e₁ (λ addresses _ cs₂ _ e₂.
      line-within is_number m Any 2 read_filing cs₂ _ refl e₂ (λ filing _ cs₃ _ e₃.
      line-within is_number m Any 3 read_heading cs₃ _ refl e₃ (λ heading line₃ cs₄ t₃ e₄.
      line-within is_number m Any 4 read_serial_line cs₄ _ refl e₄ (λ serial line₄ cs₅ t₄ e₅.
      line-within is_number m Any 4 read_aerodrome cs₅ _ refl e₅ (λ aerodrome line₅ cs₆ t₅ e₆.
      next-within is_number m Any (EndsBlock m) (read_rows most_rows [] cs₆) _ (rows-within m most_rows [] cs₆ e₆) (λ b l.
      next-within is_number m Any Any (read_remarks b.after) _ (remarks-within m b.after l) (λ x _.
      agree-within heading line₃ serial line₄ aerodrome line₅ b.rows _ t₃ t₄ t₅)))))))

-- every line of a notice stands within its line
rows-inline : (rs : List Row) → all valid_row rs ≡ true → all inline (map row_pieces rs) ≡ true
rows-inline [] h = refl
rows-inline (r ∷ rs) h = and_i (row_laws.within r (and-1 _ _ h)) (rows-inline rs (and-2 _ _ h))

language-inline : (p : List ℕ) → none_or_language p ≡ true → all inline (language_lines p) ≡ true
unfolding none_or_language
language-inline [] v = refl
language-inline (c ∷ p) v = and_i (language-laws.within (c ∷ p) v) refl

remarks-inline : (is : List Item) (p : List ℕ) → valid_items is ≡ true → none_or_language p ≡ true → all inline (remark_lines is p) ≡ true
unfolding inline
remarks-inline is p v w = go (is_empty is and is_empty p)
  where
    go : (b : Bool) → all inline (cond b [] ([] ∷ awareness_pieces is ∷ language_lines p)) ≡ true
    go true = refl
    go false = and_i refl (and_i (awareness-laws.within is v) (language-inline p w))

pub lines-inline : (p : Parts) → Good p → all inline (part_lines p) ≡ true
unfolding valid_title
lines-inline p g =
    let v = title-valid p.heading g.heading in
    and_i (addresses-laws.within p.addresses g.addresses)
    (and_i (filing-laws.within p.filing g.filing) (and_i (heading-laws.within p.heading g.heading)
    (and_i (serial-line-laws.within p.heading.title.serial (serial-of p.heading v))
    (and_i (aerodrome-laws.within p.heading.title.aerodrome (and-2 _ _ (and-2 _ _ v)))
    (all_append inline (map row_pieces p.rows) (remark_lines p.remarks.items p.remarks.language) (rows-inline p.rows g.rows.valid)
    (remarks-inline p.remarks.items p.remarks.language g.items g.language))))))
