-- A line more carries a report on. Assumes nothing.
use Rattle.std.proofs.Common.{◌≡◌, ℕ, ◌+◌, ◌<◌, Bool, true, false, leb, List, [], ◌∷◌, ◌++◌, length, get_or, drop}
use Rattle.std.proofs.Common.{Ok, Err, Result, sym, refl, ap, ◌∙◌, subst, arith}
use Rattle.std.proofs.lemmas.List.{append-nil, append_assoc, length-append, take_at, drop_at, get_or-take, flat_map_more}
use Rattle.std.proofs.Math.Seq.{get_or-append_seam}
use Rattle.report.specs.Lines.{turn_line, board_line, end_line}
use Rattle.report.specs.Reports.{Answer, BoardFacts, turn_lines_from, turn_lines, board_lines, report}
use Rattle.report.specs.Reports.{Begins, TurnsWritten, BoardsWritten, TurnFollows, BoardFollows, EndFollows}
use Rattle.report.specs.Writers.{begun, tried, fits, after, turn_tried, boards_begun, board_tried, end_tried}
use Rattle.report.specs.declared.writer.BoardLines.{BoardLines}
use Rattle.report.specs.declared.writer.NotWritten.{NotWritten}
use Rattle.report.specs.declared.writer.Report.{Report}
use Rattle.report.specs.declared.writer.TurnLines.{TurnLines}
use Rattle.report.specs.Writing.{written}

-- what stood at the front, and the line behind it
begins_more : (out front line : List ℕ) (at : ℕ) → at ≡ length front → Begins out front
    → Begins (written out at line) (front ++ line)
begins_more out front line at e b =
    let whole : written out at line ≡ (front ++ line) ++ drop (at + length line) out = rw (e, b.front, append_assoc) in
    record {
      within = rw whole (simp length-append (omega arith));
      front = rw whole (take_at (front ++ line) _ _ refl);
    }

-- one turn line more, where k turn lines stand before it
turns_push : (n k : ℕ) (ts : List Answer) (a : Answer) → k ≡ n + length ts
    → turn_lines_from n (ts ++ a ∷ []) ≡ turn_lines_from n ts ++ turn_line (k + 1) a.number a.kind
turns_push n k [] a e = let same : k ≡ n = omega arith in rw same (append-nil _)
turns_push n k (b ∷ ts) a e =
    rw (turns_push (n + 1) k ts a (omega arith))
    (sym (append_assoc (turn_line (n + 1) b.number b.kind) (turn_lines_from (n + 1) ts) _))

-- after a line that was taken the writer goes on
tried_ok : {V W : Type 0} (full fit : Bool) (w : W) (next v : V) → Ok v ≡ tried full fit w next → v ≡ next
tried_ok true fit w next v e = cc
tried_ok false true w next v e = cc
tried_ok false false w next v e = cc

pub turn_follows : (w : TurnLines) (out : List ℕ) (a : Answer) (r : Result TurnLines (NotWritten TurnLines)) (out' : List ℕ)
    → r ≡ turn_tried w out (turn_line (w.turns + 1) a.number a.kind)
    → out' ≡ after r w.at (turn_line (w.turns + 1) a.number a.kind) out → TurnFollows w out a r out'
turn_follows w out a (Err e) out' answer memory ts h = tt
turn_follows w out a (Ok v) out' answer memory ts h =
    let line : List ℕ = turn_line (w.turns + 1) a.number a.kind in
    let next = tried_ok (leb 4096 w.turns) (fits w.at line out) w _ v answer in
    let more = turns_push 0 w.turns ts a (omega (arith, h.turns)) in
    rw (next, memory)
    (record {
      at = rw more (omega (arith, h.at, length-append (turn_lines ts) line));
      turns = simp length-append (omega (arith, h.turns));
      front = rw more (begins_more out (turn_lines ts) line w.at h.at h.front);
    })

pub boards_follow : (w : TurnLines) (out : List ℕ) (ts : List Answer) → TurnsWritten w out ts
    → BoardsWritten (boards_begun w) out ts []
boards_follow w out ts h =
    let same = append-nil (turn_lines ts) in
    record {
      at = h.at ∙ ap length (sym same);
      turns = h.turns;
      boards = refl;
      offset = h.at;
      front = subst (λ (xs : List ℕ). Begins out xs) (sym same) h.front;
    }

pub board_follows : (w : BoardLines) (out : List ℕ) (b : BoardFacts) (r : Result BoardLines (NotWritten BoardLines))
    (out' : List ℕ) → r ≡ board_tried w out (board_line b.board b.state b.spelling)
    → out' ≡ after r w.at (board_line b.board b.state b.spelling) out → BoardFollows w out b r out'
board_follows w out b (Err e) out' answer memory ts bs h = tt
board_follows w out b (Ok v) out' answer memory ts bs h =
    let line : List ℕ = board_line b.board b.state b.spelling in
    let next = tried_ok (leb 19 w.boards) (fits w.at line out) w _ v answer in
    let more : turn_lines ts ++ board_lines (bs ++ b ∷ []) ≡ (turn_lines ts ++ board_lines bs) ++ line =
    sym (flat_map_more (λ b. board_line b.board b.state b.spelling) (turn_lines ts) bs b) in
    rw (next, memory)
    (record {
      at = rw more (omega (arith, h.at, length-append (turn_lines ts ++ board_lines bs) line));
      turns = h.turns;
      boards = simp length-append (omega (arith, h.boards));
      offset = h.offset;
      front = rw more (begins_more out (turn_lines ts ++ board_lines bs) line w.at h.at h.front);
    })

-- the first board line begins with B
first_in : (out : List ℕ) (ts : List Answer) (bs : List BoardFacts) → Begins out (report ts bs) → 0 < length bs
    → get_or out (length (turn_lines ts)) 0 ≡ 66
first_in out ts [] begins h = absurd (omega arith)
first_in out ts (b ∷ bs) begins h =
    sym (get_or-take (length (report ts (b ∷ bs))) out (length (turn_lines ts)) 0 (simp length-append (omega arith)))
    ∙ rw begins.front (get_or-append_seam (turn_lines ts) 66 _ 0)

pub end_follows : (w : BoardLines) (out : List ℕ) (r : Result Report (NotWritten BoardLines)) (out' : List ℕ)
    → r ≡ end_tried w out (end_line w.turns w.offset) → out' ≡ after r w.at (end_line w.turns w.offset) out
    → EndFollows w out r out'
end_follows w out (Err e) out' answer memory ts bs h = tt
end_follows w out (Ok v) out' answer memory ts bs h =
    let last : List ℕ = end_line (length ts) (length (turn_lines ts)) in
    let line : List ℕ = end_line w.turns w.offset in
    let next = tried_ok false (fits w.at line out) w _ v answer in
    let more : report ts bs ≡ (turn_lines ts ++ board_lines bs) ++ line = rw (h.turns, h.offset, append_assoc) in
    let front : Begins out' (report ts bs) =
    rw (memory, more) (begins_more out (turn_lines ts ++ board_lines bs) line w.at h.at h.front) in
    record {
      long = rw (next, more) (omega (arith, h.at, length-append (turn_lines ts ++ board_lines bs) line));
      front = front;
      back = drop_at (turn_lines ts) (board_lines bs ++ last) _ refl;
      first = first_in out' ts bs front;
    }

pub begun_written : (out : List ℕ) → TurnsWritten begun out []
begun_written out = record { at = refl; turns = refl; front = record { within = omega arith; front = refl } }
