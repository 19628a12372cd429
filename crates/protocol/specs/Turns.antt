-- The eight turns: their refusals in order, and what a taken one does.
use Rattle.std.specs.Prelude.{ℕ, zero, suc, Bool, true, false, cond, not, ◌&&◌, ◌||◌, List, [], ◌∷◌, Some, None, Ok, Err, Option, ◌==◌, nat_le, nat_lt}
use Rattle.records.specs.Rules.{Rules}
use Rattle.store.specs.Meaning.{Answer as StoreAnswer}
use Rattle.protocol.specs.Rows.{Round, Save, Back, Phase, Free, Gathering, Answered, held}
use Rattle.protocol.specs.Marks.{need}
use Rattle.protocol.specs.Rounds.{able, says_yes, has_answered}
use Rattle.protocol.specs.Wire.{Note, Word, Ask, Reply, Decision, Message, post, earliest, tally, is_word, is_control}
use Rattle.protocol.specs.Effects.{State, Effect, Works, Sends, Flags, Hears, Discards, Replies, Starts, Joins}
use Rattle.protocol.specs.Effects.{Counts, Answers, Decides, Carries, act, acts, effect_answers}
pub use Rattle.turns.specs.declared.turn.Turn.{Turn}
pub use Rattle.turns.specs.declared.turn.Turn.TheVariants.{Work, Send, Deliver, Checkpoint, Rollback, Stop, Restart}
pub use Rattle.turns.specs.declared.turn.Turn.TheVariants.{SetWilling}
pub use Rattle.turns.specs.Numbers.{Answer}
pub use Rattle.turns.specs.declared.answer.Refusal.{Refusal}
pub use Rattle.turns.specs.declared.answer.Refusal.TheVariants.{WrongTable, NoBoard, SameBoard, Stopped, Lost, Held}
pub use Rattle.turns.specs.declared.answer.Refusal.TheVariants.{NoLabel, WireFull, NoMessage, RoundOpen, Unwilling}
pub use Rattle.turns.specs.declared.answer.Refusal.TheVariants.{NoSpare, NotStopped, BadFlag}

-- What a turn comes to: tests that refuse, in their order, and at their end the message that is delivered, if one is, and
-- the effects.
pub data Plan : Type 0 where
  Refuse : Refusal → Plan
  Do : Option Note → List Effect → Plan
  refuse_if : Bool → Refusal → Plan → Plan

abbrev pub answer_of : Plan → Answer
answer_of (Refuse why) = Err why
answer_of (Do delivered es) = Ok delivered
answer_of (refuse_if test why plan) = cond test (Err why) (answer_of plan)

-- no board below k is in the set
abbrev pub nobody_below : ℕ → (ℕ → Bool) → Bool
nobody_below zero set = true
nobody_below (suc k) set = not (set k) && nobody_below k set

-- a round is open while a board is held or a message other than a word is on the wire
abbrev pub is_open : {R : Type 0} → ℕ → State R → Bool
is_open n s = not (nobody_below n (λ i. held (s.rows i).role.phase)) || nat_lt 0 (tally is_control s.wire)

-- A gathering board that awaits nobody answers its asker; the starter decides, and carries it out.
abbrev pub settled_by : Phase → Bool → Bool → Bool → ℕ → List Effect
settled_by Free idle starter answer p = []
settled_by (Answered round) idle starter answer p = []
settled_by (Gathering round) false starter answer p = []
settled_by (Gathering round) true true answer p = Decides round p ∷ Carries round answer p ∷ []
settled_by (Gathering round) true false answer p = Answers round p ∷ []

abbrev pub settled : {R : Type 0} → ℕ → State R → ℕ → List Effect
settled n s p =
    let role = (s.rows p).role in
    settled_by role.phase (nobody_below n role.awaited) (role.asker == p) role.answer p

-- the last label, and the most words on the wire
abbrev pub last_label : ℕ
last_label = 1000000

abbrev pub most_words : ℕ
most_words = 682

module _ {R : Type 0} (n : ℕ) (rules : Rules R) (wear : ℕ) where
  -- What a message does depends on its kind and on the board's phase.

  -- an ask of p reaches q: a held board sends its present answer; a free one takes part or answers
  abbrev pub asked_when : Bool → Bool → Bool → State R → ℕ → ℕ → Round → List Effect
  asked_when true joins agrees s p q round = Replies p q (s.rows q).role.answer ∷ []
  asked_when false true agrees s p q round = Joins round p q ∷ settled n (act n rules wear s (Joins round p q)) q
  asked_when false false agrees s p q round = Replies p q agrees ∷ []

  -- a lost board throws a word away
  abbrev pub heard_when : Bool → ℕ → ℕ → ℕ → ℕ → List Effect
  heard_when true p q l w = Discards p q ∷ []
  heard_when false p q l w = Hears p q l w ∷ []

  -- a decision is for boards that have answered in that round; others ignore it
  abbrev pub decided_when : Bool → ℕ → ℕ → Round → Bool → List Effect
  decided_when true p q round agreed = Discards p q ∷ Carries round agreed q ∷ []
  decided_when false p q round agreed = Discards p q ∷ []

  abbrev pub delivered : State R → ℕ → ℕ → Note → List Effect
  delivered s p q (Word l w) = heard_when (s.rows q).lost p q l w
  delivered s p q (Ask round l) =
      let row = s.rows q in
      let needed = need round row.marks p l in
      let joins = needed && able round row s.store.spare in
      asked_when (held row.role.phase) joins (says_yes round row needed) s p q round
  delivered s p q (Reply agrees) = Counts p q agrees ∷ settled n (act n rules wear s (Counts p q agrees)) q
  delivered s p q (Decision round agreed) = decided_when (has_answered round (s.rows q).role.phase) p q round agreed

  abbrev pub taken_off : State R → ℕ → ℕ → Option Message → Plan
  taken_off s p q None = Refuse NoMessage
  taken_off s p q (Some (post from to note)) = Do (Some note) (delivered s p q note)

  abbrev pub started : State R → Round → ℕ → Plan
  started s round p = Do None (Starts round p ∷ settled n (act n rules wear s (Starts round p)) p)

  -- the turns, with a state table of the right size
  abbrev pub turn_plan : State R → Turn → Plan
  turn_plan s (Work p w) =
      refuse_if (not (nat_lt p n)) NoBoard (
      refuse_if (not (s.rows p).up) Stopped (
      refuse_if (s.rows p).lost Lost (
      Do None (Works p w ∷ []))))
  turn_plan s (Send p q w) =
      refuse_if (not (nat_lt p n && nat_lt q n)) NoBoard (
      refuse_if (p == q) SameBoard (
      refuse_if (not (s.rows p).up) Stopped (
      refuse_if (s.rows p).lost Lost (
      refuse_if (held (s.rows p).role.phase) Held (
      refuse_if (nat_le last_label (s.rows p).count) NoLabel (
      refuse_if (nat_le most_words (tally is_word s.wire)) WireFull (
      Do None (Sends p q w ∷ []))))))))
  turn_plan s (Deliver p q) =
      refuse_if (not (nat_lt p n && nat_lt q n)) NoBoard (
      refuse_if (p == q) SameBoard (
      refuse_if (not (s.rows q).up) Stopped (
      taken_off s p q (earliest p q s.wire))))
  turn_plan s (Checkpoint p) =
      refuse_if (not (nat_lt p n)) NoBoard (
      refuse_if (not (s.rows p).up) Stopped (
      refuse_if (s.rows p).lost Lost (
      refuse_if (is_open n s) RoundOpen (
      refuse_if (not (s.rows p).willing) Unwilling (
      refuse_if (s.store.spare == 0) NoSpare (
      started s Save p))))))
  turn_plan s (Rollback p) =
      refuse_if (not (nat_lt p n)) NoBoard (
      refuse_if (not (s.rows p).up) Stopped (
      refuse_if (is_open n s) RoundOpen (
      refuse_if (not ((s.rows p).willing || (s.rows p).lost)) Unwilling (
      started s Back p))))
  turn_plan s (Stop p) =
      refuse_if (not (nat_lt p n)) NoBoard (
      refuse_if (not (s.rows p).up) Stopped (
      Do None (Flags p false true (s.rows p).willing true ∷ [])))
  turn_plan s (Restart p) =
      refuse_if (not (nat_lt p n)) NoBoard (
      refuse_if (s.rows p).up NotStopped (
      Do None (Flags p true (s.rows p).lost (s.rows p).willing false ∷ [])))
  turn_plan s (SetWilling p b) =
      refuse_if (not (nat_lt p n)) NoBoard (
      refuse_if (nat_lt 1 b) BadFlag (
      Do None (Flags p (s.rows p).up (s.rows p).lost (b == 1) false ∷ [])))

  -- a turn that is handed a state table of k records
  abbrev pub plan_of : State R → ℕ → Turn → Plan
  plan_of s k turn = refuse_if (not (k == n)) WrongTable (turn_plan s turn)

  -- the state that a turn leaves; a refusal alters nothing
  abbrev pub moved : State R → Plan → State R
  moved s (Refuse why) = s
  moved s (Do answer es) = acts n rules wear s es
  moved s (refuse_if test why plan) = cond test s (moved s plan)

  -- what the store answers to the calls that a turn makes
  abbrev pub store_answers : State R → Plan → List StoreAnswer
  store_answers s (Refuse why) = []
  store_answers s (Do answer es) = effect_answers n rules wear s es
  store_answers s (refuse_if test why plan) = cond test [] (store_answers s plan)
