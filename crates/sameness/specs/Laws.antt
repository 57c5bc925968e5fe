-- The test of each part says yes exactly where the two are equal; of rows and items where both are valid, so blank past the count.
use Rattle.std.specs.Prelude.{ℕ, ◌≡◌, refl, true, eqb}
use Rattle.std.proofs.Common.{sym, ◌∙◌, ap, eqb-true, eq-eqb}
use Rattle.text.specs.Laws.Base.{and-1, and-2, and_i}
use Rattle.text.specs.Laws.Same.{all_same, same-all, same_true, same_refl}
use Rattle.items.specs.declared.Item.{Item}
use Rattle.frontlines.specs.declared.Addresses.{Addresses}
use Rattle.frontlines.specs.declared.Filing.{Filing}
use Rattle.frontlines.specs.declared.Title.{Title}
use Rattle.items.specs.declared.Items.{Items}
use Rattle.items.specs.declared.Language.{Language}
use Rattle.items.specs.Parts.{items_of, make_items, holds_items}
use Rattle.items.specs.Laws.Parts.{items-made}
use Rattle.sameness.specs.Same.{same_addresses, same_filing, same_title, same_numbers, same_item, same_items, same_language}

pub self : (n : ℕ) → eqb n n ≡ true
self n = eq-eqb n n refl

-- lines 1 to 3
pub addresses-same : (a b : Addresses) → same_addresses a b ≡ true → a ≡ b
unfolding same_addresses
addresses-same a b h =
    let h₁ = and-2 _ _ h in
    let p = eqb-true a.priority b.priority (and-1 _ _ h) in
    let n = eqb-true a.count b.count (and-1 _ _ h₁) in
    let l = same_true a.letters b.letters (and-2 _ _ h₁) in
    λ i. record { priority = p i; count = n i; letters = l i }

pub same-addresses : (a : Addresses) → same_addresses a a ≡ true
unfolding same_addresses
same-addresses a = and_i (self a.priority) (and_i (self a.count) (same_refl a.letters))

pub filing-same : (a b : Filing) → same_filing a b ≡ true → a ≡ b
unfolding same_filing
filing-same a b h =
    let t = eqb-true a.time b.time (and-1 _ _ h) in
    let o = same_true a.originator b.originator (and-2 _ _ h) in
    λ i. record { time = t i; originator = o i }

pub same-filing : (a : Filing) → same_filing a a ≡ true
unfolding same_filing
same-filing a = and_i (self a.time) (same_refl a.originator)

pub title-same : (a b : Title) → same_title a b ≡ true → a ≡ b
unfolding same_title
title-same a b h =
    let h₁ = and-2 _ _ h in
    let n = eqb-true a.serial b.serial (and-1 _ _ h) in
    let r = same_true a.region b.region (and-1 _ _ h₁) in
    let d = same_true a.aerodrome b.aerodrome (and-2 _ _ h₁) in
    λ i. record { region = r i; serial = n i; aerodrome = d i }

pub same-title : (a : Title) → same_title a a ≡ true
unfolding same_title
same-title a = and_i (self a.serial) (and_i (same_refl a.region) (same_refl a.aerodrome))

-- items and plain language
item-same : (a b : Item) → same_item a b ≡ true → a ≡ b
unfolding same_item same_numbers
item-same a b h =
    let n = and-1 _ _ h in
    let n₁ = and-2 _ _ n in
    let n₂ = and-2 _ _ n₁ in
    let n₃ = and-2 _ _ n₂ in
    let n₄ = and-2 _ _ n₃ in
    let h₁ = and-2 _ _ h in
    let l = eqb-true a.letter b.letter (and-1 _ _ n) in
    let r = eqb-true a.number b.number (and-1 _ _ n₁) in
    let s = eqb-true a.side b.side (and-1 _ _ n₂) in
    let m = eqb-true a.amount b.amount (and-1 _ _ n₃) in
    let e = eqb-true a.edge b.edge (and-1 _ _ n₄) in
    let c = eqb-true a.count b.count (and-2 _ _ n₄) in
    let t = same_true a.taxiways b.taxiways (and-1 _ _ h₁) in
    let p = same_true a.name b.name (and-2 _ _ h₁) in
    λ i. record { letter = l i; number = r i; side = s i; amount = m i; edge = e i; count = c i; taxiways = t i; name = p i }

same-numbers : (a : Item) → same_numbers a a ≡ true
unfolding same_numbers
same-numbers a = and_i (self a.letter) (and_i (self a.number)
    (and_i (self a.side) (and_i (self a.amount) (and_i (self a.edge) (self a.count)))))

same_item_lem : (a : Item) → same_item a a ≡ true
unfolding same_item
same_item_lem a = and_i (same-numbers a) (and_i (same_refl a.taxiways) (same_refl a.name))

pub items-same : (a b : Items) → holds_items a ≡ true → holds_items b ≡ true → same_items a b ≡ true → a ≡ b
unfolding same_items
items-same a b v w h =
    let n = eqb-true a.count b.count (and-1 _ _ h) in
    let x = all_same same_item item-same (items_of a) (items_of b) (and-2 _ _ h) in
    let y = sym (items-made a v) ∙ (ap make_items x ∙ items-made b w) in
    λ i. record { count = n i; items = (y i).items }

pub same-items : (a : Items) → same_items a a ≡ true
unfolding same_items
same-items a = and_i (self a.count) (same-all same_item same_item_lem (items_of a))

pub language-same : (a b : Language) → same_language a b ≡ true → a ≡ b
unfolding same_language
language-same a b h =
    let n = eqb-true a.length b.length (and-1 _ _ h) in
    let x = same_true a.bytes b.bytes (and-2 _ _ h) in
    λ i. record { length = n i; bytes = x i }

pub same-language : (a : Language) → same_language a a ≡ true
unfolding same_language
same-language a = and_i (self a.length) (same_refl a.bytes)
