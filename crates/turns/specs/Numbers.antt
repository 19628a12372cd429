-- The numbers of answers and refusals.
use Rattle.std.specs.Prelude.{ℕ, Some, None, Ok, Err, Option, Result}
use Rattle.turns.specs.Notes.{kind_of}
use Rattle.turns.specs.declared.message.Note.{Note}
use Rattle.turns.specs.declared.answer.Refusal.{Refusal}
use Rattle.turns.specs.declared.answer.Refusal.TheVariants.{WrongTable, NoBoard, SameBoard, Stopped, Lost, Held}
use Rattle.turns.specs.declared.answer.Refusal.TheVariants.{NoLabel, WireFull, NoMessage, RoundOpen, Unwilling}
use Rattle.turns.specs.declared.answer.Refusal.TheVariants.{NoSpare, NotStopped, BadFlag}
use Rattle.turns.specs.declared.making.MakingRefusal.{MakingRefusal}
use Rattle.turns.specs.declared.making.MakingRefusal.TheVariants as making

abbrev pub refusal_number : Refusal → ℕ
refusal_number NoBoard = 1
refusal_number SameBoard = 2
refusal_number Stopped = 3
refusal_number Lost = 4
refusal_number Held = 5
refusal_number NoLabel = 6
refusal_number WireFull = 7
refusal_number NoMessage = 8
refusal_number RoundOpen = 9
refusal_number Unwilling = 10
refusal_number NoSpare = 11
refusal_number NotStopped = 12
refusal_number BadFlag = 13
refusal_number WrongTable = 15

abbrev pub making_number : MakingRefusal → ℕ
making_number making.BadCount = 14
making_number making.WrongTable = 15
making_number making.BadStore = 16

-- What a turn is answered with: it is taken, and may have taken a message off the wire, on which the receiver acted; or it
-- is refused.
abbrev pub Answer : Type 0
Answer = Result (Option Note) Refusal

-- 0 for a turn that is taken
abbrev pub answer_number : Answer → ℕ
answer_number (Ok delivered) = 0
answer_number (Err why) = refusal_number why

-- the kind of the message that was delivered, else 0
abbrev pub answer_kind : Answer → ℕ
answer_kind (Ok None) = 0
answer_kind (Ok (Some note)) = kind_of note
answer_kind (Err why) = 0
