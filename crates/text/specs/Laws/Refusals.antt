-- The numbers tell the refusals apart, and what a fault says leaves no other.
use Rattle.std.specs.Prelude.{ℕ, ◌-◌, ◌≡◌, refl, List, [], ◌∷◌, get_or}
use Rattle.std.proofs.Common.{sym, ◌∙◌, ap}
use Rattle.text.specs.Refusals.{number}
use Rattle.text.specs.Out.{Out, taken}
use Rattle.text.specs.Code.Faults.{Refused}
use Rattle.text.specs.Laws.Held.{one_place}
use Rattle.text.specs.Laws.Out.{no-refuse, refused-left}
use Rattle.text.specs.declared.refusal.Fault.{Fault}
use Rattle.text.specs.declared.refusal.Refusal.{Refusal}
use Rattle.text.specs.declared.refusal.Refusal.TheVariants.{TooLong, Line1Or2, Line3, Outline, NoRow, NinthRow, RunwayTwice, WrongItems, WrongLanguage, SerialsDiffer, AerodromesDiffer, NotLatestTime, InvalidRecord, BufferTooShort, OutOfRange, Contradiction, WrongBoard, NotOnBoard, InvalidRow, NotLater, NoReport, OthersRunway, NoDesk, WrongRunway, WrongCodes, WrongCoverageOrDepth, WrongDescriptions, WrongWidth, RunwaysDiffer, RecordCutShort, NumberForm, RadioValue}

-- all of them, the first numbered 1
abbrev refusals : List Refusal
refusals = TooLong ∷ Line1Or2 ∷ Line3 ∷ Outline ∷ NoRow ∷ NinthRow ∷ RunwayTwice ∷ WrongItems ∷ WrongLanguage ∷ SerialsDiffer ∷ AerodromesDiffer ∷ NotLatestTime ∷ InvalidRecord ∷ BufferTooShort ∷ OutOfRange ∷ Contradiction ∷ WrongBoard ∷ NotOnBoard ∷ InvalidRow ∷ NotLater ∷ NoReport ∷ OthersRunway ∷ NoDesk ∷ WrongRunway ∷ WrongCodes ∷ WrongCoverageOrDepth ∷ WrongDescriptions ∷ WrongWidth ∷ RunwaysDiffer ∷ RecordCutShort ∷ NumberForm ∷ RadioValue ∷ []

abbrev numbered : ℕ → Refusal
numbered n = get_or refusals (n - 1) TooLong

found : (r : Refusal) → numbered (number r) ≡ r
found TooLong = refl
found Line1Or2 = refl
found Line3 = refl
found Outline = refl
found NoRow = refl
found NinthRow = refl
found RunwayTwice = refl
found WrongItems = refl
found WrongLanguage = refl
found SerialsDiffer = refl
found AerodromesDiffer = refl
found NotLatestTime = refl
found InvalidRecord = refl
found BufferTooShort = refl
found OutOfRange = refl
found Contradiction = refl
found WrongBoard = refl
found NotOnBoard = refl
found InvalidRow = refl
found NotLater = refl
found NoReport = refl
found OthersRunway = refl
found NoDesk = refl
found WrongRunway = refl
found WrongCodes = refl
found WrongCoverageOrDepth = refl
found WrongDescriptions = refl
found WrongWidth = refl
found RunwaysDiffer = refl
found RecordCutShort = refl
found NumberForm = refl
found RadioValue = refl

pub number-one : (r s : Refusal) → number r ≡ number s → r ≡ s
number-one r s e = sym (found r) ∙ ap numbered e ∙ found s

pub fault-one : {A : Type 0} {m : List ℕ} {o : Out A} {f g : Fault} → Refused m o f → Refused m o g → f ≡ g
fault-one {m = m} {f = f} {g = g} p q =
    let t = refused-left (sym p.says ∙ q.says) in
    let refusal = number-one f.refusal g.refusal t.0 in
    let place = one_place m f.place g.place p.within q.within t.1 in
    λ i. record { refusal = refusal i; place = place i }

-- what is refused was not taken
pub refused-taken : {A C : Type 0} {m : List ℕ} {o : Out A} {f : Fault} {a : A} → Refused m o f → o ≡ taken a → C
refused-taken p e = no-refuse (sym p.says ∙ e)
