-- 48,000 bytes suffice for a report. Assumes nothing.
use Rattle.std.proofs.Common.{◌≡◌, ℕ, ◌+◌, ◌*◌, ◌^◌, ◌<◌, ◌≤◌, Bool, true, false, leb, List, [], ◌∷◌, length}
use Rattle.std.proofs.Common.{is_ok, Result, refl, arith}
use Rattle.std.specs.List.{AllByRecursion}
use Rattle.std.proofs.lemmas.Fmt.{length-decimal-le}
use Rattle.std.proofs.lemmas.List.{length-append}
use Rattle.std.proofs.lemmas.Bool.{le-leb, lt-leb}
use Rattle.records.specs.declared.feed.Feed.{Feed}
use Rattle.records.specs.declared.harness.Harness.{Harness}
use Rattle.report.specs.Lines.{state_number, harness_text, feed_text, turn_line, board_line, end_line}
use Rattle.report.specs.Reports.{Answer, BoardFacts, turn_lines_from, turn_lines, board_lines}
use Rattle.report.specs.Reports.{SmallAnswer, ShortBoard, TurnFits, BoardFits, EndFits}
use Rattle.report.specs.Writers.{tried, fits, turn_tried, board_tried, end_tried}
use Rattle.report.specs.declared.state.BoardState.{BoardState}
use Rattle.report.specs.declared.writer.BoardLines.{BoardLines}
use Rattle.report.specs.declared.writer.NotWritten.{NotWritten}
use Rattle.report.specs.declared.writer.Report.{Report}
use Rattle.report.specs.declared.writer.TurnLines.{TurnLines}

turn_short : (n a k : ℕ) → n < 10000 → a < 100 → k < 10 → length (turn_line n a k) ≤ 10
turn_short n a k hn ha hk =
    simp length-append (omega (arith, length-decimal-le 4 n, length-decimal-le 2 a, length-decimal-le 1 k))

turns_short : (n : ℕ) (ts : List Answer) → AllByRecursion SmallAnswer ts → n + length ts ≤ 4096
    → length (turn_lines_from n ts) ≤ 10 * length ts
turns_short n [] s h = omega arith
turns_short n (t ∷ ts) s h =
    let line = turn_short (n + 1) t.number t.kind (omega arith) s.0.0 s.0.1 in
    let more = turns_short (n + 1) ts s.1 (omega arith) in
    omega (arith, length-append (turn_line (n + 1) t.number t.kind) (turn_lines_from (n + 1) ts))

state_small : (s : BoardState) → state_number s < 10
state_small s = grind arith

board_short : (b : BoardFacts) → ShortBoard b → length (board_line b.board b.state b.spelling) ≤ 38
board_short b s =
    let small = state_small b.state in
    simp length-append (omega (arith, s.0, s.1, length-decimal-le 2 b.board, length-decimal-le 1 (state_number b.state)))

boards_short : (bs : List BoardFacts) → AllByRecursion ShortBoard bs → length (board_lines bs) ≤ 38 * length bs
boards_short [] s = omega arith
boards_short (b ∷ bs) s =
    let line = board_short b s.0 in
    let more = boards_short bs s.1 in
    omega (arith, length-append (board_line b.board b.state b.spelling) (board_lines bs))

end_short : (n o : ℕ) → n ≤ 4096 → o ≤ 40960 → length (end_line n o) ≤ 15
end_short n o hn ho = simp length-append (omega (arith, length-decimal-le 4 n, length-decimal-le 5 o))

-- how long a record's spelling is
pub harness_short : (r : Harness) → r.pick < 2 ^ 32 → r.lifted < 2 ^ 32 → length (harness_text r) ≤ 30
harness_short r hp hl = simp length-append (omega (arith, length-decimal-le 10 r.pick, length-decimal-le 10 r.lifted))

pub feed_short : (r : Feed) → r.pick < 2 ^ 32 → length (feed_text r) ≤ 30
feed_short r hp = simp length-append (omega (arith, length-decimal-le 10 r.pick))

-- a line that fits is taken
ok_tried : {V W : Type 0} (full fit : Bool) (w : W) (next : V) (r : Result V (NotWritten W)) → full ≡ false → fit ≡ true
    → r ≡ tried full fit w next → is_ok r ≡ true
ok_tried full fit w next r f t e = rw (e, f, t)

pub turn_fits : (w : TurnLines) (out : List ℕ) (a : Answer) (r : Result TurnLines (NotWritten TurnLines))
    → r ≡ turn_tried w out (turn_line (w.turns + 1) a.number a.kind) → TurnFits w out a r
turn_fits w out a r e ts h small sa few room =
    let line : List ℕ = turn_line (w.turns + 1) a.number a.kind in
    let long = turns_short 0 ts small (omega arith) in
    let one = turn_short (w.turns + 1) a.number a.kind (omega (arith, h.turns)) sa.0 sa.1 in
    ok_tried (leb 4096 w.turns) (fits w.at line out) w _ r (lt-leb 4096 w.turns (omega (arith, h.turns)))
    (le-leb (w.at + length line) (length out) (omega (arith, h.at, long, one))) e

pub board_fits : (w : BoardLines) (out : List ℕ) (b : BoardFacts) (r : Result BoardLines (NotWritten BoardLines))
    → r ≡ board_tried w out (board_line b.board b.state b.spelling) → BoardFits w out b r
board_fits w out b r e ts bs h small few shorts short less room =
    let line : List ℕ = board_line b.board b.state b.spelling in
    let turns = turns_short 0 ts small (omega arith) in
    let boards = boards_short bs shorts in
    let one = board_short b short in
    let long = length-append (turn_lines ts) (board_lines bs) in
    ok_tried (leb 19 w.boards) (fits w.at line out) w _ r (lt-leb 19 w.boards (omega (arith, h.boards)))
    (le-leb (w.at + length line) (length out) (omega (arith, h.at, turns, boards, one, long))) e

pub end_fits : (w : BoardLines) (out : List ℕ) (r : Result Report (NotWritten BoardLines))
    → r ≡ end_tried w out (end_line w.turns w.offset) → EndFits w out r
end_fits w out r e ts bs h small few shorts less room =
    let line : List ℕ = end_line w.turns w.offset in
    let turns = turns_short 0 ts small (omega arith) in
    let boards = boards_short bs shorts in
    let last = end_short w.turns w.offset (omega (arith, h.turns)) (omega (arith, h.offset, turns)) in
    let long = length-append (turn_lines ts) (board_lines bs) in
    ok_tried false (fits w.at line out) w _ r refl
    (le-leb (w.at + length line) (length out) (omega (arith, h.at, turns, boards, last, long))) e
