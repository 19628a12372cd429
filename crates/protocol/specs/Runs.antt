-- Whole runs: the console's state with the history beside it.
use Rattle.std.specs.Prelude.{ℕ, cond, List, [], ◌∷◌}
use Rattle.records.specs.Rules.{Rules}
use Rattle.store.specs.Meaning.{fresh_meaning}
use Rattle.protocol.specs.Effects.{State, Effect, act}
use Rattle.protocol.specs.Turns.{Turn, Plan, Refuse, Do, refuse_if, plan_of}
use Rattle.protocol.specs.Making.{new_state}
use Rattle.protocol.specs.Histories.{History, new_history, new_turn, tell}

pub record World (R : Type 0) : Type 0 where
  pub state : State R
  pub history : History

-- one step of a run: a turn, and the number of records in the state table that it is handed
pub record Step : Type 0 where
  pub turn : Turn
  pub records : ℕ

module _ {R : Type 0} (n : ℕ) (rules : Rules R) (wear : ℕ) where
  abbrev pub told_by : State R → History → List Effect → World R
  told_by s h [] = record { state = s; history = h }
  told_by s h (e ∷ es) = told_by (act n rules wear s e) (tell s h e) es

  -- a refused turn leaves the state and every story as they were
  abbrev pub after : State R → History → Plan → World R
  after s h (Refuse why) = record { state = s; history = h }
  after s h (Do answer es) = told_by s h es
  after s h (refuse_if test why plan) = cond test (record { state = s; history = h }) (after s h plan)

  abbrev pub after_step : World R → Step → World R
  after_step w step =
      let plan = plan_of n rules wear w.state step.records step.turn in
      after w.state (new_turn w.history) plan

  abbrev pub run : World R → List Step → World R
  run w [] = w
  run w (step ∷ steps) = run (after_step w step) steps

-- a console just made over a new store with this spare
abbrev pub new_world : {R : Type 0} → ℕ → Rules R → ℕ → World R
new_world n rules spare = record { state = new_state rules (fresh_meaning rules.first spare n); history = new_history }
