-- What a part is: its first record and a rule for each event; and what the rules make of a story.
use Rattle.std.specs.Prelude.{ℕ, List, fold}
use Rattle.records.specs.declared.event.Event.{Event}
use Rattle.records.specs.declared.event.Event.TheVariants.{Worked, Sent, Heard}

-- each rule is a function of the record, the word and, not for worked, the other board
pub record Rules (R : Type 0) : Type 0 where
  pub first : R
  pub worked : R → ℕ → R
  pub sent : R → ℕ → ℕ → R
  pub heard : R → ℕ → ℕ → R

-- one event's rule
abbrev pub stepped : {R : Type 0} → Rules R → R → Event → R
stepped rules r (Worked word) = rules.worked r word
stepped rules r (Sent to label word) = rules.sent r to word
stepped rules r (Heard from label word) = rules.heard r from word

-- the first record with each event's rule applied in turn
abbrev pub replayed : {R : Type 0} → Rules R → List Event → R
replayed rules story = fold (stepped rules) rules.first story
