-- The console's state, and what taken turns do to it, effect by effect.
use Rattle.std.specs.Prelude.{ℕ, suc, Bool, true, false, List, [], ◌∷◌, ◌++◌, Ok, Err, Result}
use Rattle.records.specs.Rules.{Rules}
use Rattle.store.specs.Meaning.{Meaning, standing_of, put_answer, put_after, keep_answer, keep_after, discard_after}
use Rattle.store.specs.Meaning.{Answer as StoreAnswer}
use Rattle.store.specs.declared.refusal.StoreRefusal.{StoreRefusal}
use Rattle.protocol.specs.Tables.{changed}
use Rattle.protocol.specs.Rows.{Round, Save, Back, Row, with_role, with_marks, with_flags}
use Rattle.protocol.specs.Marks.{mark_heard, ask_label, in_cohort}
use Rattle.protocol.specs.Rounds.{row_sent, row_drawn, role_counted, role_answered, row_carried}
use Rattle.protocol.specs.Wire.{Message, post, Word, Ask, Reply, Decision, without, posts}

pub record State (R : Type 0) : Type 0 where
  pub rows : ℕ → Row
  pub wire : List Message
  -- the state table: the record of each board
  pub table : ℕ → R
  -- what the store means
  pub store : Meaning R

-- A taken turn is a list of effects, one carried out after the other.
pub data Effect : Type 0 where
  -- p works the word w
  Works : ℕ → ℕ → Effect
  -- p sends w to q
  Sends : ℕ → ℕ → ℕ → Effect
  -- p is up or not, lost or not, willing or not; and its record is wiped or not
  Flags : ℕ → Bool → Bool → Bool → Bool → Effect
  -- q takes a word of p off the wire, under the label l, and hears it
  Hears : ℕ → ℕ → ℕ → ℕ → Effect
  -- q takes a message of p off the wire and throws it away
  Discards : ℕ → ℕ → Effect
  -- q takes an ask of p off the wire and answers it
  Replies : ℕ → ℕ → Bool → Effect
  -- p starts a round
  Starts : Round → ℕ → Effect
  -- q takes an ask of p off the wire and is drawn into the round
  Joins : Round → ℕ → ℕ → Effect
  -- q takes an answer of p off the wire and counts it
  Counts : ℕ → ℕ → Bool → Effect
  -- p answers its asker
  Answers : Round → ℕ → Effect
  -- p, the starter, decides: by its answer
  Decides : Round → ℕ → Effect
  -- p carries out a decision and sends it to its cohort
  Carries : Round → Bool → ℕ → Effect

-- a stopped board's record becomes the first record
abbrev pub wiped : {R : Type 0} → Rules R → Bool → R → R
wiped rules true r = rules.first
wiped rules false r = r

-- a checkpoint puts the record as pending; joining a going back asks nothing of the store
abbrev pub drawn_store : {R : Type 0} → ℕ → Round → Meaning R → ℕ → R → Meaning R
drawn_store wear Save store p r = put_after wear store p r
drawn_store wear Back store p r = store

-- keep, or drop
abbrev pub carried_store : {R : Type 0} → Round → Bool → Meaning R → ℕ → Meaning R
carried_store Save true store p = keep_after store p
carried_store Save false store p = discard_after store p
carried_store Back agreed store p = store

abbrev pub ok_or : {R : Type 0} → R → Result R StoreRefusal → R
ok_or r (Ok other) = other
ok_or r (Err why) = r

-- going back, the standing record returns
abbrev pub carried_table : {R : Type 0} → Round → Bool → (ℕ → R) → Meaning R → ℕ → ℕ → R
carried_table Save agreed table store p = table
carried_table Back true table store p = changed table p (ok_or (table p) (standing_of store p))
carried_table Back false table store p = table

-- p, drawn in by a, asks its cohort; the wire is given without the ask that drew it in
abbrev pub drawn : {R : Type 0} → ℕ → ℕ → State R → Round → ℕ → ℕ → List Message → State R
drawn n wear s round p a wire = record {
  rows = changed s.rows p (row_drawn n round p a (s.rows p));
  wire = wire ++ posts n (in_cohort n round p (s.rows p).marks)
      (λ b. post p b (Ask round (ask_label round (s.rows p).marks b)));
  table = s.table;
  store = drawn_store wear round s.store p (s.table p);
}

-- another row of p, and another wire
abbrev pub on_row : {R : Type 0} → State R → ℕ → Row → List Message → State R
on_row s p row wire = record { rows = changed s.rows p row; wire = wire; table = s.table; store = s.store }

module _ {R : Type 0} (n : ℕ) (rules : Rules R) (wear : ℕ) where
  abbrev pub act : State R → Effect → State R
  act s (Works p w) = record {
    rows = s.rows;
    wire = s.wire;
    table = changed s.table p (rules.worked (s.table p) w);
    store = s.store;
  }
  act s (Sends p q w) = record {
    rows = changed s.rows p (row_sent (s.rows p) q);
    wire = s.wire ++ post p q (Word (suc (s.rows p).count) w) ∷ [];
    table = changed s.table p (rules.sent (s.table p) q w);
    store = s.store;
  }
  act s (Flags p up lost willing wipe) = record {
    rows = changed s.rows p (with_flags (s.rows p) up lost willing);
    wire = s.wire;
    table = changed s.table p (wiped rules wipe (s.table p));
    store = s.store;
  }
  act s (Hears p q l w) = record {
    rows = changed s.rows q (with_marks (s.rows q) (mark_heard (s.rows q).marks p l));
    wire = without p q s.wire;
    table = changed s.table q (rules.heard (s.table q) p w);
    store = s.store;
  }
  act s (Discards p q) = record { rows = s.rows; wire = without p q s.wire; table = s.table; store = s.store }
  act s (Replies p q agrees) = record {
    rows = s.rows;
    wire = without p q s.wire ++ post q p (Reply agrees) ∷ [];
    table = s.table;
    store = s.store;
  }
  act s (Starts round p) = drawn n wear s round p p s.wire
  act s (Joins round p q) = drawn n wear s round q p (without p q s.wire)
  act s (Counts p q agrees) =
      on_row s q (with_role (s.rows q) (role_counted (s.rows q).role p agrees)) (without p q s.wire)
  act s (Answers round p) = on_row s p (with_role (s.rows p) (role_answered (s.rows p).role round))
      (s.wire ++ post p (s.rows p).role.asker (Reply (s.rows p).role.answer) ∷ [])
  act s (Decides round p) = on_row s p (with_role (s.rows p) (role_answered (s.rows p).role round)) s.wire
  act s (Carries round agreed p) = record {
    rows = changed s.rows p (row_carried round agreed (s.rows p));
    wire = s.wire ++ posts n (s.rows p).role.cohort (λ b. post p b (Decision round agreed));
    table = carried_table round agreed s.table s.store p;
    store = carried_store round agreed s.store p;
  }

  abbrev pub acts : State R → List Effect → State R
  acts s [] = s
  acts s (e ∷ es) = acts (act s e) es

-- what the store answers to the calls that an effect makes
abbrev pub drawn_answer : {R : Type 0} → Round → Meaning R → ℕ → List StoreAnswer
drawn_answer Save store p = put_answer store p ∷ []
drawn_answer Back store p = []

abbrev pub carried_answer : {R : Type 0} → Round → Meaning R → ℕ → List StoreAnswer
carried_answer Save store p = keep_answer store p ∷ []
carried_answer Back store p = []

abbrev pub effect_answer : {R : Type 0} → State R → Effect → List StoreAnswer
effect_answer s (Works p w) = []
effect_answer s (Sends p q w) = []
effect_answer s (Flags p up lost willing wipe) = []
effect_answer s (Hears p q l w) = []
effect_answer s (Discards p q) = []
effect_answer s (Replies p q agrees) = []
effect_answer s (Starts round p) = drawn_answer round s.store p
effect_answer s (Joins round p q) = drawn_answer round s.store q
effect_answer s (Counts p q agrees) = []
effect_answer s (Answers round p) = []
effect_answer s (Decides round p) = []
effect_answer s (Carries round agreed p) = carried_answer round s.store p

abbrev pub effect_answers : {R : Type 0} → ℕ → Rules R → ℕ → State R → List Effect → List StoreAnswer
effect_answers n rules wear s [] = []
effect_answers n rules wear s (e ∷ es) =
    effect_answer s e ++ effect_answers n rules wear (act n rules wear s e) es
