-- What a row holds: one board's marks and standing facts.
use Rattle.std.specs.Prelude.{ℕ, Bool, true, false}
pub use Rattle.turns.specs.declared.round.Round.{Round}
pub use Rattle.turns.specs.declared.round.Round.TheVariants.{Save, Back}
pub use Rattle.turns.specs.declared.round.Phase.{Phase}
pub use Rattle.turns.specs.declared.round.Phase.TheVariants.{Free, Gathering, Answered}

-- labels for each other board; 0 is no label
pub record Marks : Type 0 where
  -- the last label heard in the own story since the last checkpoint, standing or pending
  pub heard : ℕ → ℕ
  -- the first label sent in it since then
  pub first : ℕ → ℕ
  -- the last label sent in the own story
  pub sent : ℕ → ℕ
  -- the last label sent in the kept story; until a member of an agreed saving is told, in its kept story from before
  pub saved : ℕ → ℕ
  -- heard and first as a pending checkpoint set them aside
  pub heard_aside : ℕ → ℕ
  pub first_aside : ℕ → ℕ

-- what a board knows of the round that it is in
pub record Role : Type 0 where
  pub phase : Phase
  -- the board that asked it; the starter is its own asker
  pub asker : ℕ
  -- the boards that it asked
  pub cohort : ℕ → Bool
  -- those of them whose answers it waits for
  pub awaited : ℕ → Bool
  -- its answer so far
  pub answer : Bool

pub record Row : Type 0 where
  pub up : Bool
  pub lost : Bool
  pub willing : Bool
  -- how many words it has sent, those since cut back included
  pub count : ℕ
  pub role : Role
  pub marks : Marks

abbrev pub no_labels : ℕ → ℕ
no_labels q = 0

abbrev pub nobody : ℕ → Bool
nobody q = false

abbrev pub new_marks : Marks
new_marks = record {
  heard = no_labels;
  first = no_labels;
  sent = no_labels;
  saved = no_labels;
  heard_aside = no_labels;
  first_aside = no_labels;
}

-- of a board that is in no round
abbrev pub new_role : Role
new_role = record { phase = Free; asker = 0; cohort = nobody; awaited = nobody; answer = false }

abbrev pub new_row : Row
new_row = record { up = true; lost = false; willing = true; count = 0; role = new_role; marks = new_marks }

-- a board that is not free is held
abbrev pub held : Phase → Bool
held Free = false
held (Gathering round) = true
held (Answered round) = true

abbrev pub gathering : Phase → Bool
gathering Free = false
gathering (Gathering round) = true
gathering (Answered round) = false

-- the row with another part
abbrev pub with_role : Row → Role → Row
with_role row role = record {
  up = row.up;
  lost = row.lost;
  willing = row.willing;
  count = row.count;
  role = role;
  marks = row.marks;
}

abbrev pub with_marks : Row → Marks → Row
with_marks row marks = record {
  up = row.up;
  lost = row.lost;
  willing = row.willing;
  count = row.count;
  role = row.role;
  marks = marks;
}

abbrev pub with_flags : Row → Bool → Bool → Bool → Row
with_flags row up lost willing = record {
  up = up;
  lost = lost;
  willing = willing;
  count = row.count;
  role = row.role;
  marks = row.marks;
}
