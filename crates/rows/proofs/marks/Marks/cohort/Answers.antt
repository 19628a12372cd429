use Rattle.std.proofs.Common.{◌≡◌, ℕ, ◌||◌, ◌&&◌, eqb, true, false, sym, ap, ◌∙◌, arith}
use Rattle.std.proofs.Math.Bool.{or-false}
use Rattle.std.proofs.lemmas.Bool.{lt-ltb}
use Rattle.protocol.specs.Marks.{in_cohort}
use Rattle.rows.specs.Marked.{marks_of}
use Rattle.rows.specs.Sets.{is_in}
use Rattle.rows.proofs.Cohorts.{one_more}
use Rattle.rows.proofs.marks.Marks.cohort.Goals.{then-asks, else-asks}
use Rattle.rows.proofs.marks.Marks.cohort.Goals as goal

pub loop-other-preserved : goal.loop-other-preserved
loop-other-preserved c =
    let x : ℕ → _ = in_cohort c.args.boards c.args.round c.args.board (marks_of c.args.self.now) in
    let asks = c.asks.ensures c.args.boards (omega arith) in
    elim c.if-asks.branch [
      | then-asks w ↦ record {
        count = ap (λ s. s.boards) w.cohort-is ∙ w.insert.ensures.count ∙ c.loop-other.invariant.count;
        members = λ b. (
            let put : w.insert.result ≡ true = w.insert.ensures.answer ∙ lt-ltb _ _ (omega arith) in
            let yes : c.asks.result ≡ true = w.if-asks.true in
            ap (λ s. is_in s b) w.cohort-is ∙ w.insert.ensures.members b ∙ ap (λ t. is_in c.loop-other.cohort b || (t && eqb b c.loop-other.other)) put
            ∙ one_more x b c.loop-other.other (is_in c.loop-other.cohort b) true (c.loop-other.invariant.members b) (sym asks ∙ yes));
      }
      | else-asks w ↦ record {
        count = ap (λ s. s.boards) w.cohort-is ∙ c.loop-other.invariant.count;
        members = λ b. (
            let no : c.asks.result ≡ false = w.if-asks.false in
            ap (λ s. is_in s b) w.cohort-is ∙ sym (or-false (is_in c.loop-other.cohort b))
            ∙ one_more x b c.loop-other.other (is_in c.loop-other.cohort b) false (c.loop-other.invariant.members b) (sym asks ∙ no));
      }
    ]
