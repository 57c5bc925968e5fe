-- Names in arrays with zeros behind them: there and back.
use Rattle.std.specs.Prelude.{ℕ, zero, suc, ◌-◌, ◌≡◌, refl, List, [], ◌∷◌, ◌++◌, map, length, replicate}
use Rattle.std.proofs.Common.{sym, ◌∙◌, ap, eqb-true, eq-eqb, leb-true, le-leb, arith}
use mathlib.Core.Bool.{Bool, true}
use Rattle.std.proofs.lemmas.List.{length-map}
use Rattle.text.specs.Choice.{all, head_is}
use Rattle.text.specs.Names.{is_letter, is_name, run}
use Rattle.text.specs.Arrays.{pad, is_zero, slots, flat}
use Rattle.text.specs.Laws.Base.{and-1, and-2, and_i}
use Rattle.text.specs.Laws.Many.{Every}
use Rattle.text.specs.Laws.Sizes.{run-size}
use Rattle.text.specs.Laws.Runs.{run_past, run_in}
use Rattle.text.specs.Laws.Arrays.{pad-split, pad-length, slots-flat, wide}
use Rattle.items.specs.Item.{name_at_front, behind_name, is_taxiway, valid_slot}

pub zero_of : (x : ℕ) → is_zero x ≡ true → x ≡ 0
zero_of x h = eqb-true x 0 h

-- an array that holds a name and zeros is its name, in that array
pub name_back : (n : ℕ) (f : List ℕ) → length f ≡ n → all is_zero (behind_name f) ≡ true → pad n 0 (name_at_front f) ≡ f
name_back n f l h = pad-split 0 is_zero zero_of n (name_at_front f) (behind_name f) f (run_past is_name f) l h

zeros-no-name : (n : ℕ) → name_at_front (replicate n 0) ≡ []
unfolding run
zeros-no-name zero = refl
zeros-no-name (suc n) = refl

pub name-there : (w : List ℕ) (n : ℕ) → all is_name w ≡ true → name_at_front (w ++ replicate n 0) ≡ w
unfolding run
name-there [] n h = zeros-no-name n
name-there (x ∷ w) n h = rw (and-1 (is_name x) (all is_name w) h) (ap (λ l. x ∷ l) (name-there w n (and-2 (is_name x) (all is_name w) h)))

-- the first byte of an array is that of its name
pub head-name : (p : ℕ → Bool) → ((x : ℕ) → p x ≡ true → is_name x ≡ true) → (f : List ℕ) → head_is p f ≡ true → head_is p (name_at_front f) ≡ true
unfolding run
head-name p wide [] h = h
head-name p wide (x ∷ f) h = rw (wide x h) h

pub letter-name : (x : ℕ) → is_letter x ≡ true → is_name x ≡ true
letter-name x h = rw (h, mathlib.Core.Bool.or-true)

-- taxiways in their slots
slot-good : (s : List ℕ) → valid_slot s ≡ true → (is_taxiway (name_at_front s) ≡ true) × (pad 3 0 (name_at_front s) ≡ s)
unfolding valid_slot is_taxiway
slot-good s h =
    let l = eqb-true (length s) 3 (and-1 _ _ h) in
    let k = run-size is_name s in (
      and_i (head-name is_letter letter-name s (and-1 _ _ (and-2 _ _ h))) (and_i (run_in is_name s) (le-leb (length (name_at_front s)) 3 (omega arith))),
      name_back 3 s l (and-2 _ _ (and-2 _ _ h)),
    )

abbrev pub Taxiway : List ℕ → Type 0
Taxiway w = (all is_name w ≡ true) × (is_taxiway w ≡ true)

pub slots-names : (ss : List (List ℕ)) → all valid_slot ss ≡ true → Every Taxiway (map name_at_front ss)
slots-names [] h = tt
slots-names (s ∷ ss) h = ((run_in is_name s, (slot-good s (and-1 _ _ h)).0), slots-names ss (and-2 _ _ h))

pub slots-pads : (ss : List (List ℕ)) → all valid_slot ss ≡ true → map (pad 3 0) (map name_at_front ss) ≡ ss
slots-pads [] h = refl
slots-pads (s ∷ ss) h = λ i. (slot-good s (and-1 _ _ h)).1 i ∷ slots-pads ss (and-2 _ _ h) i

pub padded-wide : (ws : List (List ℕ)) → Every Taxiway ws → all (wide 3) (map (pad 3 0) ws) ≡ true
unfolding is_taxiway
padded-wide [] v = refl
padded-wide (w ∷ ws) v =
    let k = leb-true (length w) 3 (and-2 _ _ (and-2 _ _ v.0.1)) in
    and_i (eq-eqb (length (pad 3 0 w)) 3 (pad-length 3 0 w k)) (padded-wide ws v.1)

names_in : (ws : List (List ℕ)) → Every Taxiway ws → map name_at_front (map (pad 3 0) ws) ≡ ws
names_in [] v = refl
names_in (w ∷ ws) v = λ i. name-there w (3 - length w) v.0.0 i ∷ names_in ws v.1 i

pub taxiways-there : (ws : List (List ℕ)) → Every Taxiway ws → map name_at_front (slots 3 (length ws) (pad 24 0 (flat (map (pad 3 0) ws)))) ≡ ws
taxiways-there ws v =
    let n = 24 - length (flat (map (pad 3 0) ws)) in
    let e = slots-flat 3 (map (pad 3 0) ws) (replicate n 0) (padded-wide ws v) in
    ap (map name_at_front) (ap (λ c. slots 3 c (flat (map (pad 3 0) ws) ++ replicate n 0)) (sym (length-map ws (pad 3 0))) ∙ e) ∙ names_in ws v
