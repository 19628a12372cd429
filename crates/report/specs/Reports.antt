-- Whole reports, and how far a writer has come with one.
use Rattle.std.specs.Prelude.{◌≡◌, ℕ, ◌+◌, ◌<◌, ◌≤◌, true, List, [], ◌∷◌, ◌++◌, length, take, drop}
use Rattle.std.specs.Prelude.{is_ok, IfOk, Result, slice_index}
use Rattle.std.specs.List.{flat_map, AllByRecursion}
use Rattle.report.specs.Lines.{turn_line, board_line, end_line}
use Rattle.report.specs.declared.state.BoardState.{BoardState}
use Rattle.report.specs.declared.writer.BoardLines.{BoardLines}
use Rattle.report.specs.declared.writer.NotWritten.{NotWritten}
use Rattle.report.specs.declared.writer.Report.{Report}
use Rattle.report.specs.declared.writer.TurnLines.{TurnLines}

-- what a turn was answered with
pub record Answer : Type 0 where
  pub number : ℕ
  pub kind : ℕ

-- what a board line tells
pub record BoardFacts : Type 0 where
  pub board : ℕ
  pub state : BoardState
  pub spelling : List ℕ

abbrev pub answered : ℕ → ℕ → Answer
answered n k = record { number = n; kind = k }

abbrev pub told : ℕ → BoardState → List ℕ → BoardFacts
told b s spelling = record { board = b; state = s; spelling = spelling }

-- the lines of the turns after the first n
abbrev pub turn_lines_from : ℕ → List Answer → List ℕ
turn_lines_from n [] = []
turn_lines_from n (a ∷ ts) = turn_line (n + 1) a.number a.kind ++ turn_lines_from (n + 1) ts

abbrev pub turn_lines : List Answer → List ℕ
turn_lines ts = turn_lines_from 0 ts

abbrev pub board_lines : List BoardFacts → List ℕ
board_lines bs = flat_map (λ b. board_line b.board b.state b.spelling) bs

-- turn lines, board lines, and the last line: how many turns there are, and where the board lines begin
abbrev pub report : List Answer → List BoardFacts → List ℕ
report ts bs = turn_lines ts ++ (board_lines bs ++ end_line (length ts) (length (turn_lines ts)))

-- the memory begins with these bytes
pub record Begins (out bytes : List ℕ) : Type 0 where
  pub within : length bytes ≤ length out
  pub front : take (length bytes) out ≡ bytes

-- the writer has written the lines of these turns
pub record TurnsWritten (w : TurnLines) (out : List ℕ) (ts : List Answer) : Type 0 where
  pub at : w.at ≡ length (turn_lines ts)
  pub turns : w.turns ≡ length ts
  pub front : Begins out (turn_lines ts)

-- the writer has written the lines of these turns and boards
pub record BoardsWritten (w : BoardLines) (out : List ℕ) (ts : List Answer) (bs : List BoardFacts) : Type 0 where
  pub at : w.at ≡ length (turn_lines ts ++ board_lines bs)
  pub turns : w.turns ≡ length ts
  pub boards : w.boards ≡ length bs
  pub offset : w.offset ≡ length (turn_lines ts)
  pub front : Begins out (turn_lines ts ++ board_lines bs)

-- the memory begins with the whole report, and its last line points back: at the offset that it prints stands the
-- first board line, with its B
pub record ReportWritten (w : Report) (out : List ℕ) (ts : List Answer) (bs : List BoardFacts) : Type 0 where
  pub long : w.length ≡ length (report ts bs)
  pub front : Begins out (report ts bs)
  pub back : drop (length (turn_lines ts)) (report ts bs) ≡ board_lines bs ++ end_line (length ts) (length (turn_lines ts))
  pub first : 0 < length bs → slice_index out (length (turn_lines ts)) ≡ 66

-- a line more keeps it so
abbrev pub TurnFollows : TurnLines → List ℕ → Answer → Result TurnLines (NotWritten TurnLines) → List ℕ → Type 0
TurnFollows w out a r out' = (ts : List Answer) → TurnsWritten w out ts → IfOk r (λ v. TurnsWritten v out' (ts ++ a ∷ []))

abbrev pub BoardFollows : BoardLines → List ℕ → BoardFacts → Result BoardLines (NotWritten BoardLines) → List ℕ → Type 0
BoardFollows w out b r out' =
    (ts : List Answer) (bs : List BoardFacts) → BoardsWritten w out ts bs → IfOk r (λ v. BoardsWritten v out' ts (bs ++ b ∷ []))

abbrev pub EndFollows : BoardLines → List ℕ → Result Report (NotWritten BoardLines) → List ℕ → Type 0
EndFollows w out r out' =
    (ts : List Answer) (bs : List BoardFacts) → BoardsWritten w out ts bs → IfOk r (λ v. ReportWritten v out' ts bs)

-- Answers and boards as a loom has them: refusals and states of at most two digits and kinds of one; at most 19 boards,
-- with records of at most 30 bytes.
abbrev pub SmallAnswer : Answer → Type 0
SmallAnswer a = (a.number < 100) × (a.kind < 10)

abbrev pub ShortBoard : BoardFacts → Type 0
ShortBoard b = (b.board < 100) × (length b.spelling ≤ 30)

-- 48,000 bytes always suffice: no line of such a report is refused for want of room
abbrev pub TurnFits : TurnLines → List ℕ → Answer → Result TurnLines (NotWritten TurnLines) → Type 0
TurnFits w out a r =
    (ts : List Answer) → TurnsWritten w out ts → AllByRecursion SmallAnswer ts → SmallAnswer a → length ts < 4096
    → 48000 ≤ length out → is_ok r ≡ true

abbrev pub BoardFits : BoardLines → List ℕ → BoardFacts → Result BoardLines (NotWritten BoardLines) → Type 0
BoardFits w out b r =
    (ts : List Answer) (bs : List BoardFacts) → BoardsWritten w out ts bs → AllByRecursion SmallAnswer ts → length ts ≤ 4096
    → AllByRecursion ShortBoard bs → ShortBoard b → length bs < 19 → 48000 ≤ length out → is_ok r ≡ true

abbrev pub EndFits : BoardLines → List ℕ → Result Report (NotWritten BoardLines) → Type 0
EndFits w out r =
    (ts : List Answer) (bs : List BoardFacts) → BoardsWritten w out ts bs → AllByRecursion SmallAnswer ts → length ts ≤ 4096
    → AllByRecursion ShortBoard bs → length bs ≤ 19 → 48000 ≤ length out → is_ok r ≡ true
