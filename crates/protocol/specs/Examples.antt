-- Worked examples of the rules.
use Rattle.std.specs.Prelude.{◌≡◌, ℕ, suc, true, false}
use Rattle.records.specs.Rules.{Rules}
use Rattle.protocol.specs.Rows.{Save, Back, Marks, no_labels}
use Rattle.protocol.specs.Marks.{need, mark_drop}
use Rattle.protocol.specs.Turns.{Checkpoint}
use Rattle.protocol.specs.Runs.{after_step, new_world}

-- marks towards every other board: heard and first, and heard as it was set aside
abbrev marks : ℕ → ℕ → ℕ → Marks
marks heard first aside = record {
  heard = λ q. heard;
  first = λ q. first;
  sent = no_labels;
  saved = no_labels;
  heard_aside = λ q. aside;
  first_aside = no_labels;
}

pub record Examples {R : Type 0} (rules : Rules R) : Type 0 where
  -- asked to save with the label 3: a board whose first is 3 has to, one whose first is 4 or none has not
  pub save_need : need Save (marks 0 3 0) 1 3 ≡ true
  pub save_later : need Save (marks 0 4 0) 1 3 ≡ false
  pub save_none : need Save (marks 0 0 0) 1 3 ≡ false
  -- asked to go back with the label 2: a board that heard 2 has not to, one that heard 3 has
  pub back_none : need Back (marks 2 0 0) 1 2 ≡ false
  pub back_need : need Back (marks 3 0 0) 1 2 ≡ true
  -- drop, with heard 4 set aside: 0 since gives 4, and 6 since gives 6
  pub drop_aside : (mark_drop (marks 0 0 4)).heard 1 ≡ 4
  pub drop_since : (mark_drop (marks 6 0 4)).heard 1 ≡ 6
  -- with one board, a saving is agreed in its turn
  pub alone : (wear spare : ℕ) →
      let w = new_world 1 rules (suc spare) in
      (after_step 1 rules wear w (record { turn = Checkpoint 0; records = 1 })).history.agreed ≡ true
