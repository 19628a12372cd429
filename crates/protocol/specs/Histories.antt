-- What is told beside the console and held by no code: the boards' stories, and how the rounds went. Turns and rules
-- alone make it, never the records.
use Rattle.std.specs.Prelude.{ℕ, suc, Bool, true, false, cond, ◌||◌, List, [], ◌∷◌, ◌++◌, ◌==◌}
use Rattle.records.specs.Stories.{Story}
use Rattle.records.specs.declared.event.Event.{Event}
use Rattle.records.specs.declared.event.Event.TheVariants.{Worked, Sent, Heard}
use Rattle.protocol.specs.Tables.{changed}
use Rattle.protocol.specs.Rows.{Round, Save, Back}
use Rattle.protocol.specs.Effects.{State, Effect, Works, Sends, Flags, Hears, Discards, Replies, Starts, Joins}
use Rattle.protocol.specs.Effects.{Counts, Answers, Decides, Carries}

-- where the latest round stands
pub data Stage : Type 0 where
  -- the round that p started is not decided yet
  Asking : Round → ℕ → Stage
  -- it was decided so; before the first round, as if a saving had been dropped
  Settled : Round → Bool → Stage

pub record History : Type 0 where
  -- each board's own story and kept story
  pub own : ℕ → Story
  pub kept : ℕ → Story
  -- what its own story was when it was last drawn into a round: when it took its checkpoint, if that was a saving
  pub drawn : ℕ → Story
  -- whether it is a member of an agreed going back and has not gone back yet
  pub due : ℕ → Bool
  pub stage : Stage
  -- the members of the latest round without its starter, the latest first
  pub joined : List ℕ
  -- whether a round was agreed in the latest turn
  pub agreed : Bool

abbrev pub new_history : History
new_history = record {
  own = λ i. [];
  kept = λ i. [];
  drawn = λ i. [];
  due = λ i. false;
  stage = Settled Save false;
  joined = [];
  agreed = false;
}

-- at the start of a turn no round is agreed in it yet
abbrev pub new_turn : History → History
new_turn h = record {
  own = h.own;
  kept = h.kept;
  drawn = h.drawn;
  due = h.due;
  stage = h.stage;
  joined = h.joined;
  agreed = false;
}

abbrev pub member : ℕ → List ℕ → Bool
member b [] = false
member b (x ∷ xs) = b == x || member b xs

-- the present stories: a member of an agreed going back counts with its kept story until it goes back
abbrev pub present : History → ℕ → Story
present h b = cond (h.due b) (h.kept b) (h.own b)

-- one event more at the end of p's own story
abbrev pub tell_own : History → ℕ → Event → History
tell_own h p e = record {
  own = changed h.own p (h.own p ++ e ∷ []);
  kept = h.kept;
  drawn = h.drawn;
  due = h.due;
  stage = h.stage;
  joined = h.joined;
  agreed = h.agreed;
}

-- when a saving is agreed, each member's kept story becomes what its own was at its checkpoint
abbrev pub agreed_kept : Round → Bool → (ℕ → Bool) → (ℕ → Story) → (ℕ → Story) → ℕ → Story
agreed_kept Save true is_member drawn kept b = cond (is_member b) (drawn b) (kept b)
agreed_kept Save false is_member drawn kept b = kept b
agreed_kept Back agreed is_member drawn kept b = kept b

-- when a going back is agreed, each member has to go back
abbrev pub agreed_due : Round → Bool → (ℕ → Bool) → (ℕ → Bool) → ℕ → Bool
agreed_due Save agreed is_member due b = due b
agreed_due Back true is_member due b = cond (is_member b) true (due b)
agreed_due Back false is_member due b = due b

-- going back makes the own story equal to the kept one
abbrev pub carried_own : Round → Bool → (ℕ → Story) → (ℕ → Story) → ℕ → ℕ → Story
carried_own Save agreed own kept p = own
carried_own Back true own kept p = changed own p (kept p)
carried_own Back false own kept p = own

abbrev pub carried_due : Round → Bool → (ℕ → Bool) → ℕ → ℕ → Bool
carried_due Save agreed due p = due
carried_due Back true due p = changed due p false
carried_due Back false due p = due

-- the starter p decides: by its answer in the state before
abbrev pub tell_decided : History → Round → Bool → ℕ → History
tell_decided h round agreed p =
    let is_member : ℕ → Bool = λ b. (b == p) || member b h.joined in
    record {
      own = h.own;
      kept = agreed_kept round agreed is_member h.drawn h.kept;
      drawn = h.drawn;
      due = agreed_due round agreed is_member h.due;
      stage = Settled round agreed;
      joined = h.joined;
      agreed = agreed;
    }

-- what an effect in the state s adds
abbrev pub tell : {R : Type 0} → State R → History → Effect → History
tell s h (Works p w) = tell_own h p (Worked w)
tell s h (Sends p q w) = tell_own h p (Sent q (suc (s.rows p).count) w)
tell s h (Flags p up lost willing wipe) = h
tell s h (Hears p q l w) = tell_own h q (Heard p l w)
tell s h (Discards p q) = h
tell s h (Replies p q agrees) = h
tell s h (Starts round p) = record {
  own = h.own;
  kept = h.kept;
  drawn = changed h.drawn p (h.own p);
  due = h.due;
  stage = Asking round p;
  joined = [];
  agreed = h.agreed;
}
tell s h (Joins round p q) = record {
  own = h.own;
  kept = h.kept;
  drawn = changed h.drawn q (h.own q);
  due = h.due;
  stage = h.stage;
  joined = q ∷ h.joined;
  agreed = h.agreed;
}
tell s h (Counts p q agrees) = h
tell s h (Answers round p) = h
tell s h (Decides round p) = tell_decided h round (s.rows p).role.answer p
tell s h (Carries round agreed p) = record {
  own = carried_own round agreed h.own h.kept p;
  kept = h.kept;
  drawn = h.drawn;
  due = carried_due round agreed h.due p;
  stage = h.stage;
  joined = h.joined;
  agreed = h.agreed;
}
