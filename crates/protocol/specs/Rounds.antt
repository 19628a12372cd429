-- What rounds do to a board's row.
use Rattle.std.specs.Prelude.{ℕ, suc, Bool, true, false, not, ◌&&◌, ◌||◌, nat_lt}
use Rattle.protocol.specs.Tables.{changed}
use Rattle.protocol.specs.Rows.{Round, Save, Back, Phase, Free, Gathering, Answered, Marks, Role, Row, new_role}
use Rattle.protocol.specs.Marks.{mark_sent, mark_drawn, mark_carried, in_cohort}

-- a word leaves for q, under the next label
abbrev pub row_sent : Row → ℕ → Row
row_sent row q = record {
  up = row.up;
  lost = row.lost;
  willing = row.willing;
  count = suc row.count;
  role = row.role;
  marks = mark_sent row.marks q (suc row.count);
}

-- p of n boards is drawn in by a: it awaits its whole cohort, and its answer starts as yes
abbrev pub role_drawn : ℕ → Round → ℕ → ℕ → Marks → Role
role_drawn n round p a m = record {
  phase = Gathering round;
  asker = a;
  cohort = in_cohort n round p m;
  awaited = in_cohort n round p m;
  answer = true;
}

abbrev pub row_drawn : ℕ → Round → ℕ → ℕ → Row → Row
row_drawn n round p a row = record {
  up = row.up;
  lost = row.lost;
  willing = row.willing;
  count = row.count;
  role = role_drawn n round p a row.marks;
  marks = mark_drawn round row.marks;
}

-- an answer of p is counted: p is no longer awaited, and a no makes the answer no
abbrev pub role_counted : Role → ℕ → Bool → Role
role_counted role p agrees = record {
  phase = role.phase;
  asker = role.asker;
  cohort = role.cohort;
  awaited = changed role.awaited p false;
  answer = role.answer && agrees;
}

abbrev pub role_answered : Role → Round → Role
role_answered role round = record {
  phase = Answered round;
  asker = role.asker;
  cohort = role.cohort;
  awaited = role.awaited;
  answer = role.answer;
}

-- going back ends lost
abbrev pub still_lost : Round → Bool → Bool → Bool
still_lost Save agreed lost = lost
still_lost Back true lost = false
still_lost Back false lost = lost

-- words that are cut back still count, so that no two words share a label
abbrev pub carried_count : Round → Bool → ℕ → ℕ
carried_count round agreed count = count

-- a decision is carried out, and the board is free
abbrev pub row_carried : Round → Bool → Row → Row
row_carried round agreed row = record {
  up = row.up;
  lost = still_lost round agreed row.lost;
  willing = row.willing;
  count = carried_count round agreed row.count;
  role = new_role;
  marks = mark_carried round agreed row.marks;
}

-- whether a free board that needs to can take part, with this spare of the store
abbrev pub able : Round → Row → ℕ → Bool
able Save row spare = row.willing && (not row.lost && nat_lt 0 spare)
able Back row spare = row.willing || row.lost

-- whether a free board says yes, if it does not take part
abbrev pub says_yes : Round → Row → Bool → Bool
says_yes Save row needed = (row.willing && not row.lost) && not needed
says_yes Back row needed = (row.willing || row.lost) && not needed

abbrev pub has_answered : Round → Phase → Bool
has_answered round Free = false
has_answered round (Gathering other) = false
has_answered Save (Answered Save) = true
has_answered Save (Answered Back) = false
has_answered Back (Answered Save) = false
has_answered Back (Answered Back) = true
