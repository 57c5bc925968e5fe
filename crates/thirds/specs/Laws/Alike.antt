-- Where both fit, the coverages and the descriptions leave the same rest: each of them is NR.
use Rattle.std.specs.Prelude.{ℕ, ◌<◌, ◌^◌, ◌≡◌, refl, List, [], ◌∷◌, cond, Bool, true, false, leb}
use Rattle.std.proofs.Common.{sym, ◌∙◌, ap, leb-true, leb-false, arith}
use Rattle.text.specs.Piece.{bytes, Typed}
use Rattle.text.specs.Read.{Got, misfit, got, read_seq, read_as, read_after, read_text}
use Rattle.text.specs.Numbers.{is_digit, digits, number}
use Rattle.text.specs.Names.{is_letter, read_name}
use Rattle.text.specs.Laws.Base.{Head, and_l, and_r, then-got}
use Rattle.text.specs.Laws.Combine.{if-laws}
use Rattle.text.specs.Laws.Numbers.{digits-laws, number-laws}
use Rattle.thirds.specs.Groups.{read_measure, read_coverage, read_description, read_third, read_group}
use Rattle.thirds.specs.Laws.Groups.{description-head}
use Rattle.thirds.specs.declared.Group.TheVariants.{Coverages, Descriptions}

-- two readers that leave the same rest wherever both fit
pub record Alike {A B : Type 0} (f : List ℕ → Got A) (g : List ℕ → Got B) : Type 0 where
  pub same : {m : List ℕ} {a : A} {b : B} {r s : List ℕ} → f m ≡ got a r → g m ≡ got b s → r ≡ s

module _ {A B : Type 0} {f : List ℕ → Got A} {g : List ℕ → Got B} (F : Alike f g) where
  alike-after : (cs : List ℕ) → Alike (read_after cs f) (read_after cs g)
  alike-after cs = record {
    same = λ {m} {a} {b} {r} {s} p q.
        let x = then-got (read_text cs m) p in
        let y = then-got (read_text cs m) q in
        let z : x.mid ≡ y.mid = cc (x.one, y.one) in
        F.same (ap f (sym z) ∙ x.two) y.two;
  }

  alike_as : {C D : Type 0} (h : A → C) (k : B → D) → Alike (read_as h f) (read_as k g)
  alike_as h k = record {
    same = λ {m} {a} {b} {r} {s} p q.
        let x = then-got (f m) p in
        let y = then-got (g m) q in
        let z : x.mid ≡ y.mid = F.same x.one y.one in
        cc (x.two, y.two);
  }

  alike-seq : {C D : Type 0} {f' : List ℕ → Got C} {g' : List ℕ → Got D} → Alike f' g' → Alike (read_seq f f') (read_seq g g')
  alike-seq {f' = f'} {g' = g'} G = record {
    same = λ {m} {a} {b} {r} {s} p q.
        let x = then-got (f m) p in
        let y = then-got (g m) q in
        let z : x.mid ≡ y.mid = F.same x.one y.one in
        let x' = then-got (f' x.mid) x.two in
        let y' = then-got (g' y.mid) y.two in
        let z' : x'.mid ≡ y'.mid = G.same (ap f' (sym z) ∙ x'.one) y'.one in
        cc (x'.two, y'.two);
  }

digit-or-letter : {C : Type 0} (m : List ℕ) → Head is_digit m → Head is_letter m → C
digit-or-letter [] h k = absurd h
digit-or-letter (x ∷ m) h k =
    let p = leb-true x 57 (and_r (leb 48 x) (leb x 57) h) in
    let q = leb-true 65 x (and_l (leb 65 x) (leb x 90) k) in
    absurd (omega arith)

number-head : (x : ℕ) {m r : List ℕ} → x < 10 ^ 3 → Typed (number 2 x) m r → Head is_digit m
number-head x {m} {r} h t = go (leb 100 x) refl t
  where
    go : (b : Bool) → leb 100 x ≡ b → Typed (cond b (digits 3 x) (digits 2 x)) m r → Head is_digit m
    go true e t = (digits-laws 2).starts x h t tt
    go false e t = (digits-laws 1).starts x (leb-false 100 x e) t tt

coverage-description : Alike (read_third Coverages) (read_third Descriptions)
unfolding read_third read_coverage read_measure read_description read_name
coverage-description = record { same = λ {m} p q. go m (read_text (bytes "NR") m) refl p q }
  where
    go : (m : List ℕ) (g : Got (Unit {0})) → read_text (bytes "NR") m ≡ g → {a b : ℕ} {r s : List ℕ} → read_coverage m ≡ got a r → read_description m ≡ got b s
        → r ≡ s
    go m misfit e p q =
        let x = (if-laws (if-laws (number-laws 1) (λ x. leb 1 x)) (λ x. leb x 100)).sound {m = m} (rw e at p) in
        digit-or-letter m (number-head _ x.0.0.0 x.1) (description-head m q)
    go m (got u k) e p q = cc (rw e at p, rw e at q)

pub coverages-descriptions : Alike (read_group Coverages) (read_group Descriptions)
unfolding read_group
coverages-descriptions =
    let C = coverage-description in
    let N = alike-after C (bytes "/") in
    alike-after (alike_as (alike-seq C (alike-seq N N)) _ _) (bytes " ")
