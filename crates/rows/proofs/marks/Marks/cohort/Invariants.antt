use Rattle.std.proofs.Common.{◌≡◌, ℕ, ◌&&◌, nat_lt}
use Rattle.protocol.specs.Marks.{in_cohort}
use Rattle.rows.specs.Marked.{marks_of}
use Rattle.rows.specs.Sets.{is_in}
use Rattle.rows.proofs.marks.Marks.cohort.Given as goal

abbrev pub invariant-loop-other : goal.invariant-loop-other
invariant-loop-other l = record {
  count : l.cohort.boards ≡ l.boards;
  members : (b : ℕ) → is_in l.cohort b ≡ (nat_lt b l.other && in_cohort l.boards l.round l.board (marks_of l.self) b);
}
