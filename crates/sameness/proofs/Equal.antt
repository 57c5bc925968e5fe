-- The definitions say of the parts of a record what `==` answers.
use Rattle.std.specs.Prelude.{ℕ, ◌≡◌, refl, List, [], ◌∷◌, Bool, true, false, eqb, nat_eq, ◌&&◌, length}
use Rattle.std.specs.List.{list_all, zip}
use Rattle.std.specs.Cmp.{both_ways}
use Rattle.std.proofs.Common.{sym, ◌∙◌, ap, subst, arith, eqb-true, length-take}
use Rattle.std.specs.Cmp.Lexicographic.{pointwise}
use Rattle.text.specs.Choice.{◌and◌, same_all, same_bytes}
use Rattle.text.specs.Laws.Iter.{and-is, same-pointwise}
use Rattle.text.specs.Laws.Same.{all_same, same-all}
use Rattle.surface.specs.declared.Third.{Third}
use Rattle.surface.specs.contracts.ThirdPartialEq.TheImpl as thirds
use Rattle.row.specs.declared.Row.{Row}
use Rattle.row.specs.contracts.RowPartialEq.TheImpl as rows
use Rattle.frontlines.specs.declared.Addresses.{Addresses}
use Rattle.frontlines.specs.contracts.AddressesPartialEq.TheImpl as addresses
use Rattle.frontlines.specs.declared.Filing.{Filing}
use Rattle.frontlines.specs.contracts.FilingPartialEq.TheImpl as filings
use Rattle.frontlines.specs.declared.Title.{Title}
use Rattle.frontlines.specs.contracts.TitlePartialEq.TheImpl as titles
use Rattle.items.specs.declared.Item.{Item}
use Rattle.items.specs.contracts.ItemPartialEq.TheImpl as items
use Rattle.items.specs.declared.Items.{Items}
use Rattle.items.specs.declared.Language.{Language}
use Rattle.items.specs.contracts.LanguagePartialEq.TheImpl as languages
use Rattle.items.specs.Parts.{items_of}
use Rattle.body.specs.declared.Rows.{Rows}
use Rattle.body.specs.Rows.{rows_of}
use Rattle.sameness.specs.Same.{same_addresses, same_filing, same_title, same_third, same_row, same_rows, same_numbers, same_item, same_items, same_language}
use Rattle.sameness.proofs.Laws.{third-same, same-third, row_same, same_row_lem}

bytes : (xs ys : List ℕ) → same_bytes xs ys ≡ pointwise nat_eq xs ys
bytes xs ys = sym (same-pointwise nat_eq xs ys)

-- where two tests agree, lists compared by them do too
listed : {A : Type 0} (F E : A → A → Bool) → ((x y : A) → F x y ≡ E x y) → (xs ys : List A) → same_all F xs ys ≡ pointwise E xs ys
listed F E is xs ys = (λ i. same_all (λ x y. is x y i) xs ys) ∙ sym (same-pointwise E xs ys)

-- lines 1 to 3
pub addresses_equal : (a b : Addresses) → same_addresses a b ≡ addresses.ghosts.eq a b
unfolding same_addresses ◌and◌
addresses_equal a b = grind (arith, bytes)

pub filing_equal : (a b : Filing) → same_filing a b ≡ filings.ghosts.eq a b
unfolding same_filing ◌and◌
filing_equal a b = grind (arith, bytes)

pub title_equal : (a b : Title) → same_title a b ≡ titles.ghosts.eq a b
unfolding same_title ◌and◌
title_equal a b = grind (arith, bytes)

-- rows
third_equal : (a b : Third) → same_third a b ≡ thirds.ghosts.eq a b
unfolding same_third ◌and◌
third_equal a b = grind arith

pub thirds_equal : (a b : List Third) → same_all same_third a b ≡ pointwise thirds.ghosts.eq a b
thirds_equal = listed same_third thirds.ghosts.eq third_equal

-- rows for which `==` says yes are equal
told_equal : (a b : Row) → rows.ghosts.eq a b ≡ true → a ≡ b
told_equal a b h =
    let p : pointwise thirds.ghosts.eq a.thirds b.thirds ≡ true = grind arith in
    let x = all_same same_third third-same a.thirds b.thirds (thirds_equal a.thirds b.thirds ∙ p) in
    grind arith

-- by the laws of `same_row` and not by its words, so that an edit of these meets the laws
row_equal : (a b : Row) → same_row a b ≡ rows.ghosts.eq a b
row_equal a b = both_ways _ _
    (λ h. subst (λ c. rows.ghosts.eq a c ≡ true) (row_same a b h) (itself a))
    (λ h. subst (λ c. same_row a c ≡ true) (told_equal a b h) (same_row_lem a))
  where
    itself : (a : Row) → rows.ghosts.eq a a ≡ true
    itself a = let x : pointwise thirds.ghosts.eq a.thirds a.thirds ≡ true = sym (thirds_equal a.thirds a.thirds) ∙ same-all same_third same-third a.thirds in grind arith

pub rows_equal : (a b : Rows) → same_rows a b ≡ (eqb a.count b.count && pointwise rows.ghosts.eq (rows_of a) (rows_of b))
unfolding same_rows
rows_equal a b = rw (listed same_row rows.ghosts.eq row_equal (rows_of a) (rows_of b)) (sym (and-is _ _))

-- the library's test of pairs, of two lists as long
zipped : {A : Type 0} (F : A → A → Bool) (xs ys : List A) → length xs ≡ length ys → same_all F xs ys ≡ list_all (λ p. F p.0 p.1) (zip xs ys)
zipped F [] [] e = refl
zipped F [] (y ∷ ys) e = absurd (omega arith)
zipped F (x ∷ xs) [] e = absurd (omega arith)
zipped F (x ∷ xs) (y ∷ ys) e = ap (λ b. F x y and b) (zipped F xs ys (omega arith)) ∙ sym (and-is _ _)

pub rows_paired : (a b : Rows) → length a.rows ≡ length b.rows → same_rows a b ≡ (eqb a.count b.count && list_all (λ p. same_row p.0 p.1) (zip (rows_of a) (rows_of b)))
unfolding same_rows ◌and◌
rows_paired a b e = go (eqb a.count b.count) refl
  where
    go : (t : Bool) → eqb a.count b.count ≡ t → (t and same_all same_row (rows_of a) (rows_of b)) ≡ (t && list_all (λ p. same_row p.0 p.1) (zip (rows_of a) (rows_of b)))
    go true h = let n = eqb-true a.count b.count h in zipped same_row (rows_of a) (rows_of b) (rw (length-take, length-take, n, e) refl)
    go false h = refl

-- items and plain language
item_equal : (a b : Item) → same_item a b ≡ items.ghosts.eq a b
unfolding same_item same_numbers ◌and◌
item_equal a b = grind (arith, bytes)

pub items_equal : (a b : Items) → same_items a b ≡ (eqb a.count b.count && pointwise items.ghosts.eq (items_of a) (items_of b))
unfolding same_items
items_equal a b = rw (listed same_item items.ghosts.eq item_equal (items_of a) (items_of b)) (sym (and-is _ _))

pub language_equal : (a b : Language) → same_language a b ≡ languages.ghosts.eq a b
unfolding same_language ◌and◌
language_equal a b = grind (arith, bytes)

pub ruleset equal = (addresses_equal, filing_equal, title_equal, rows_equal, rows_paired, items_equal, language_equal)
