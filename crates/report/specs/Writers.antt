-- What the writer of a report does.
use Rattle.std.specs.Prelude.{ℕ, ◌+◌, Bool, cond, List, length, Ok, Err, Result, nat_le}
use Rattle.report.specs.Writing.{written}
use Rattle.report.specs.declared.writer.BoardLines.{BoardLines}
use Rattle.report.specs.declared.writer.NotWritten.{NotWritten}
use Rattle.report.specs.declared.writer.Report.{Report}
use Rattle.report.specs.declared.writer.TurnLines.{TurnLines}
use Rattle.report.specs.declared.writer.WriteRefusal.{WriteRefusal}
use Rattle.report.specs.declared.writer.WriteRefusal.TheVariants.{TooManyLines, NoRoom}

-- the number of each refusal
abbrev pub refusal_number : WriteRefusal → ℕ
refusal_number TooManyLines = 27
refusal_number NoRoom = 26

-- a new report
abbrev pub begun : TurnLines
begun = record { at = 0; turns = 0 }

-- a line is refused if there are too many, then if it does not fit; the writer is handed back
abbrev pub refused : {V W : Type 0} → WriteRefusal → W → Result V (NotWritten W)
refused why w = Err (record { refusal = why; writer = w })

abbrev pub tried : {V W : Type 0} → Bool → Bool → W → V → Result V (NotWritten W)
tried full fits w next = cond full (refused TooManyLines w) (cond fits (Ok next) (refused NoRoom w))

-- whether a line fits the memory at a place
abbrev pub fits : ℕ → List ℕ → List ℕ → Bool
fits at line out = nat_le (at + length line) (length out)

-- the memory: with the line at its place where it was written, else as it was
abbrev pub after : {V E : Type 0} → Result V E → ℕ → List ℕ → List ℕ → List ℕ
after (Ok v) at line out = written out at line
after (Err e) at line out = out

-- a refusal with the writer as it was
abbrev pub handed_back : {V W : Type 0} → W → Result V WriteRefusal → Result V (NotWritten W)
handed_back w (Ok v) = Ok v
handed_back w (Err why) = refused why w

-- at most 4,096 turn lines
abbrev pub turn_tried : TurnLines → List ℕ → List ℕ → Result TurnLines (NotWritten TurnLines)
turn_tried w out line =
    tried (nat_le 4096 w.turns) (fits w.at line out) w (record { at = w.at + length line; turns = w.turns + 1 })

-- the board lines begin where the turn lines end
abbrev pub boards_begun : TurnLines → BoardLines
boards_begun w = record { at = w.at; turns = w.turns; boards = 0; offset = w.at }

-- at most 19 board lines
abbrev pub board_tried : BoardLines → List ℕ → List ℕ → Result BoardLines (NotWritten BoardLines)
board_tried w out line =
    tried (nat_le 19 w.boards) (fits w.at line out) w
    (record { at = w.at + length line; turns = w.turns; boards = w.boards + 1; offset = w.offset })

-- the last line
abbrev pub end_tried : BoardLines → List ℕ → List ℕ → Result Report (NotWritten BoardLines)
end_tried w out line = cond (fits w.at line out) (Ok (record { length = w.at + length line })) (refused NoRoom w)
