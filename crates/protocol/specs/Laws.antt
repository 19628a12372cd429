-- What is promised of every run.
use Rattle.std.specs.Prelude.{◌≡◌, ℕ, ◌-◌, ◌*◌, ◌<◌, ◌≤◌, Bool, true, false, cond, List, length, Ok}
use Rattle.std.specs.List.{AllByRecursion}
use Rattle.records.specs.Rules.{Rules, replayed}
use Rattle.records.specs.Stories.{Story, Orphan, NoOrphan}
use Rattle.store.specs.Meaning.{standing_of}
use Rattle.protocol.specs.Rows.{Round, Save, Back}
use Rattle.protocol.specs.Wire.{tally, is_word, is_control}
use Rattle.protocol.specs.Turns.{is_open, most_words, moved, plan_of, store_answers}
use Rattle.protocol.specs.Histories.{History, Stage, Asking, Settled, member, present}
use Rattle.protocol.specs.Runs.{World, Step, after_step, run, new_world}

-- at any time
pub record Laws {R : Type 0} (n : ℕ) (rules : Rules R) (w : World R) : Type 0 where
  -- no orphan among the kept stories, and none among the present stories
  pub kept_sound : NoOrphan n w.history.kept
  pub present_sound : NoOrphan n (present w.history)
  -- each board that is not lost holds the record that the rules make of its own story
  pub records :
      (p : ℕ) → p < n → (w.state.rows p).lost ≡ false → w.state.table p ≡ replayed rules (w.history.own p)
  -- with no round open, each standing record is the one that they make of the kept story
  pub standing :
      is_open n w.state ≡ false → (p : ℕ) → p < n →
      standing_of w.state.store p ≡ Ok (replayed rules (w.history.kept p))
  -- there are at most 682 words on the wire, and at most n(n - 1) other messages: 1,024 in all, if n is at most 19
  pub words : tally is_word w.state.wire ≤ most_words
  pub controls : tally is_control w.state.wire ≤ n * (n - 1)
  pub room : n ≤ 19 → length w.state.wire ≤ 1024

abbrev pub round_of : Stage → Round
round_of (Asking round p) = round
round_of (Settled round agreed) = round

-- The kept stories after a saving, or the present stories after a going back, if the boards of `out` had been left out
-- of the round: these would have their kept stories from before it, or their own stories.
abbrev pub leaving_out : Round → History → History → (ℕ → Bool) → ℕ → Story
leaving_out Save before now out b = cond (out b) (before.kept b) (now.kept b)
leaving_out Back before now out b = cond (out b) (now.own b) (present now b)

-- If a round is agreed in the turn that led from one history to the other, then no members of it but its starter could
-- have been left out, be they one or more: that would give an orphan.
abbrev pub NobodyInVain : ℕ → History → History → Type 0
NobodyInVain n before now =
    now.agreed ≡ true → (out : ℕ → Bool) → ((b : ℕ) → out b ≡ true → member b now.joined ≡ true) →
    (b : ℕ) → out b ≡ true → Orphan n (leaving_out (round_of now.stage) before now out)

-- of each turn
pub record TurnLaws {R : Type 0} (n : ℕ) (rules : Rules R) (wear : ℕ) (w : World R) (step : Step) : Type 0 where
  pub nobody_in_vain : NobodyInVain n w.history (after_step n rules wear w step).history
  -- the store refuses no put, no keep and no drop
  pub store_takes :
      let plan = plan_of n rules wear w.state step.records step.turn in
      AllByRecursion (λ answer. answer ≡ Ok tt) (store_answers n rules wear w.state plan)
  -- no story decides anything of the state: the turn leaves what it would leave with no history beside it
  pub state_alone :
      let plan = plan_of n rules wear w.state step.records step.turn in
      (after_step n rules wear w step).state ≡ moved n rules wear w.state plan

-- For every number of boards, every wear and spare of the store and every list of turns, refused ones included: what
-- is promised at any time holds of a console just made over a new store and after each turn, and what is promised of a
-- turn holds of each.
abbrev pub SoundRuns : {R : Type 0} → Rules R → Type 0
SoundRuns rules = (n wear spare : ℕ) (steps : List Step) →
    let w = run n rules wear (new_world n rules spare) steps in
    Laws n rules w × ((step : Step) → TurnLaws n rules wear w step)
