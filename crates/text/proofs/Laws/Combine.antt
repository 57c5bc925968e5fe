-- The laws of a format made of others.
use Rattle.std.specs.Prelude.{ℕ, ◌≡◌, eqb}
use Rattle.std.proofs.Math.Path.{refl, subst}
use Rattle.std.proofs.Common.{sym}
use mathlib.Core.List.{List, [], ◌∷◌, ◌++◌}
use Rattle.std.proofs.Math.Bool.{true, false}
use Rattle.text.specs.Piece.{Piece, gap, gap1, Typed, done, step, spell}
use Rattle.text.specs.Read.{Got, skip, read_text, read_after, read_before, read_gap}
use Rattle.text.specs.Laws.Typing.{join, cut}
use Rattle.text.specs.Laws.Base.{Laws, inline, inline-append, and_i, then-got, carry, Head}
use Rattle.text.proofs.Laws.Base.{text-sound}
use Rattle.text.specs.Laws.Base.{solid, space_next, skip_is}
use Rattle.text.proofs.Laws.Base.{text-complete, text_head}
use Rattle.text.specs.Laws.Combine.{Gap}

module _ {A : Type 0} {v_a : A → Type 0} {l_a : A → List Piece} {r_a : List ℕ → Got A} {s_a f_a : List ℕ → Type 0}
    (F : Laws v_a l_a r_a s_a f_a) where
  -- a fixed text before
  pub after-laws : (c : ℕ) (cs : List ℕ) → inline (spell (c ∷ cs)) ≡ true → ((m : List ℕ) → s_a m → solid (c ∷ cs) m ≡ true)
      → Laws v_a (λ a. spell (c ∷ cs) ++ l_a a) (read_after (c ∷ cs) r_a) (Head (eqb c)) f_a
  after-laws c cs clean meet = record {
    sound = λ {a} {m} {r} e.
        let t = then-got (read_text (c ∷ cs) m) e in
        let x = F.sound t.two in
        (x.0, join (text-sound (c ∷ cs) m t.one) x.1);
    complete = λ a v t h.
        let k = cut (spell (c ∷ cs)) t in
        rw (text-complete (c ∷ cs) k.left (meet _ (F.starts a v k.right h)), F.complete a v k.right h);
    starts = λ a v t h. text_head c cs (cut (spell (c ∷ cs)) t).left;
    within = λ a v. inline-append (spell (c ∷ cs)) (l_a a) clean (F.within a v);
  }

  -- a fixed text behind
  pub before-laws : (c : ℕ) (cs : List ℕ) → inline (spell (c ∷ cs)) ≡ true → ((m : List ℕ) → Head (eqb c) m → f_a m)
      → Laws v_a (λ a. l_a a ++ spell (c ∷ cs)) (read_before r_a (c ∷ cs)) s_a (λ r. solid (c ∷ cs) r ≡ true)
  before-laws c cs clean meet = record {
    sound = λ {a} {m} {r} e.
        let t = then-got (r_a m) e in
        let u = then-got (read_text (c ∷ cs) t.mid) t.two in
        let x = F.sound t.one in
        carry (λ a r. v_a a × Typed (l_a a ++ spell (c ∷ cs)) m r) u.two (x.0, join x.1 (text-sound (c ∷ cs) t.mid u.one));
    complete = λ a v t h.
        let k = cut (l_a a) t in
        rw (F.complete a v k.left (meet _ (text_head c cs k.right)), text-complete (c ∷ cs) k.right h);
    starts = λ a v t h. let k = cut (l_a a) t in F.starts a v k.left (meet _ (text_head c cs k.right));
    within = λ a v. inline-append (l_a a) (spell (c ∷ cs)) (F.within a v) clean;
  }

  module _ (meet : (m : List ℕ) → s_a m → space_next m ≡ false) where
    -- a gap before
    pub gap-laws : Laws v_a (λ a. gap ∷ l_a a) (read_gap r_a) (Gap s_a) f_a
    unfolding spell skip inline
    gap-laws = record {
      sound = λ {a} {m} e.
          let t = then-got (read_text (32 ∷ []) m) e in
          let x = F.sound t.two in
          (x.0, join (text-sound (32 ∷ []) m t.one) x.1);
      complete = λ a v t h.
          let k = cut (spell (32 ∷ [])) t in
          let g = text-complete (32 ∷ []) k.left (fits k.mid (meet _ (F.starts a v k.right h))) in
          rw (g, F.complete a v k.right h);
      starts = λ a {m} {r} v t h.
          let k = cut (spell (32 ∷ [])) t in
          let s = F.starts a v k.right h in
          (text_head 32 [] k.left, subst s_a (sym (past k.left (meet _ s))) s);
      within = λ a v. and_i refl (F.within a v);
    }
      where
        fits : (r : List ℕ) → space_next r ≡ false → solid (32 ∷ []) r ≡ true
        fits r q = rw q

        past : {m r : List ℕ} → Typed (gap ∷ []) m r → space_next r ≡ false → skip m ≡ r
        past (step (gap1 s) done) q = skip_is s q
