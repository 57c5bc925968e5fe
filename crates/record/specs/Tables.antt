-- Parts that fit, and the blank record, evaluated.
use Rattle.std.specs.Prelude.{ℕ, ◌≡◌, refl, List, [], ◌∷◌, map, replicate, Ok, Err}
use Prim.Native.String.{String}
use Rattle.text.specs.Choice.{◌and◌}
use Rattle.text.specs.Piece.{bytes}
use Rattle.text.specs.declared.refusal.Refusal.TheVariants.{SerialsDiffer, AerodromesDiffer, NotLatestTime}
use Rattle.runway.specs.Time.{later}
use Rattle.row.specs.declared.Row.{Row}
use Rattle.row.specs.Row.{blank_row}
use Rattle.items.specs.Awareness.{blank_item}
use Rattle.body.specs.Rows.{rows_of, latest_of, latest_from, latest}
use Rattle.record.specs.Record.{blank_record}
use Rattle.body.specs.Rows as Rows
use Rattle.body.specs.declared.Rows.{Rows}
use Rattle.front.specs.declared.Front.{Front}
use Rattle.front.specs.Code.Front.{blank_front}
use Rattle.record.specs.Code.Fitted.{mismatch}

-- parts that fit, each by itself: a front with these serials, aerodrome and time, over a row of 01120640
abbrev front : ℕ → ℕ → String → ℕ → Front
front first second aerodrome time = record {
  addresses = blank_front.addresses;
  filing = blank_front.filing;
  title = record { region = bytes "XQ"; serial = first; aerodrome = bytes "XQAA" };
  time = time;
  serial = second;
  aerodrome = bytes aerodrome;
}

abbrev one : Rows
one = Rows.make_rows (record { time = 1120640; number = 7; side = 0; thirds = blank_row.thirds; width = 0 } ∷ [])

-- two rows of these times
abbrev over : ℕ → ℕ → List Row
over t s = record { time = t; number = 7; side = 1; thirds = blank_row.thirds; width = 0 }
    ∷ record { time = s; number = 7; side = 3; thirds = blank_row.thirds; width = 0 } ∷ []

pub record Parts : Type 0 where
  agree : mismatch (front 7 7 "XQAA" 1120640) (rows_of one) ≡ Ok tt
  serials : map (λ n. mismatch (front 7 n "XQBB" 1120610) (rows_of one)) (6 ∷ 8 ∷ []) ≡ Err SerialsDiffer ∷ Err SerialsDiffer ∷ []
  aerodromes : mismatch (front 7 7 "XQBB" 1120610) (rows_of one) ≡ Err AerodromesDiffer
  times : map (λ t. mismatch (front 7 7 "XQAA" t) (rows_of one)) (1120639 ∷ 1120641 ∷ []) ≡ Err NotLatestTime ∷ Err NotLatestTime ∷ []
  -- in season order
  night : map (λ t. mismatch (front 7 7 "XQAA" t) (over 12312350 1010010)) (1010010 ∷ 12312350 ∷ []) ≡ Ok tt ∷ Err NotLatestTime ∷ []
  -- "blank means all zero"
  blank : blank_record ≡ record {
    addresses = record { priority = 0; count = 0; letters = replicate 64 0 };
    filing = record { time = 0; originator = replicate 8 0 };
    title = record { region = 0 ∷ 0 ∷ []; serial = 0; aerodrome = 0 ∷ 0 ∷ 0 ∷ 0 ∷ [] };
    rows = record { count = 0; rows = replicate 8 blank_row };
    items = record { count = 0; items = replicate 32 blank_item };
    language = record { length = 0; bytes = replicate 400 0 };
  }

pub parts : Parts
unfolding ◌and◌ latest_of latest_from latest later mismatch
parts = record { agree = refl; serials = refl; aerodromes = refl; times = refl; night = refl; blank = refl }
