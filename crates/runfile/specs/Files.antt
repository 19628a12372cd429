-- What a run file means: its loom and its turns, or why it is refused.
use Rattle.std.specs.Prelude.{ℕ, zero, suc, ◌+◌, cond, List, [], ◌∷◌, length, Some, None, Ok, Err, Option, Result, nat_le}
use Rattle.turns.specs.declared.turn.Turn.{Turn}
use Rattle.lines.specs.Lines.{turn_line, loom_line}
use Rattle.lines.specs.declared.loom.Loom.{Loom}
use Rattle.runfile.specs.declared.refusal.Refusal.{Refusal}
use Rattle.runfile.specs.declared.refusal.Refusal.TheVariants.{TooLong, BadFirstLine, BadTurn, TooManyTurns}

-- the number and the line of each refusal
abbrev pub number_of : Refusal → ℕ
number_of TooLong = 20
number_of BadFirstLine = 21
number_of (BadTurn line) = 22
number_of (TooManyTurns line) = 23

abbrev pub line_of : Refusal → ℕ
line_of TooLong = 0
line_of BadFirstLine = 1
line_of (BadTurn line) = line
line_of (TooManyTurns line) = line

-- where a reader stands: the bytes to come, and the number of their first line
pub record Place : Type 0 where
  pub rest : List ℕ
  pub line : ℕ

-- the loom, and where the turns begin
abbrev pub after_loom : Option (Loom × List ℕ) → Result (Loom × Place) Refusal
after_loom None = Err BadFirstLine
after_loom (Some x) = Ok (x.0, record { rest = x.1; line = 2 })

abbrev pub first_line : List ℕ → Result (Loom × Place) Refusal
first_line bs = after_loom (loom_line bs)

-- The next turn, and where the one after it begins; none where the bytes are at their end.
-- Turns stand in the lines 2 to 4,097.
abbrev pub after_turn : ℕ → Option (Turn × List ℕ) → Result (Option (Turn × Place)) Refusal
after_turn line None = Err (BadTurn line)
after_turn line (Some x) = Ok (Some (x.0, record { rest = x.1; line = line + 1 }))

abbrev pub turn_at : ℕ → List ℕ → Result (Option (Turn × Place)) Refusal
turn_at line [] = Ok None
turn_at line (c ∷ cs) = cond (nat_le 4098 line) (Err (TooManyTurns line)) (after_turn line (turn_line (c ∷ cs)))

abbrev pub next_turn : Place → Result (Option (Turn × Place)) Refusal
next_turn at = turn_at at.line at.rest

-- where a reader stands after it asked for a turn: behind the turn, or where it stood
abbrev pub moved : Place → Result (Option (Turn × Place)) Refusal → Place
moved at (Ok (Some x)) = x.1
moved at (Ok None) = at
moved at (Err e) = at

-- a turn before others
abbrev pub before : Turn → Result (List Turn) Refusal → Result (List Turn) Refusal
before t (Ok ts) = Ok (t ∷ ts)
before t (Err e) = Err e

abbrev pub go_on : Result (Option (Turn × Place)) Refusal → (Place → Result (List Turn) Refusal) → Result (List Turn) Refusal
go_on (Ok None) more = Ok []
go_on (Ok (Some x)) more = before x.0 (more x.1)
go_on (Err e) more = Err e

-- all turns from a place on, asking for at most one more than so many
unfoldable pub turns_from : ℕ → Place → Result (List Turn) Refusal
turns_from zero at = go_on (next_turn at) (λ _. Ok [])
turns_from (suc most) at = go_on (next_turn at) (turns_from most)

abbrev pub with_loom : Loom → Result (List Turn) Refusal → Result (Loom × List Turn) Refusal
with_loom loom (Ok ts) = Ok (loom, ts)
with_loom loom (Err e) = Err e

abbrev pub after_first : Result (Loom × Place) Refusal → Result (Loom × List Turn) Refusal
after_first (Ok x) = with_loom x.0 (turns_from 4096 x.1)
after_first (Err e) = Err e

-- A file: at most 32,768 bytes; the first line; the turns from line 2 on, and after 4,096 turns no line.
abbrev pub file_of : List ℕ → Result (Loom × List Turn) Refusal
file_of bs = cond (nat_le (length bs) 32768) (after_first (first_line bs)) (Err TooLong)
