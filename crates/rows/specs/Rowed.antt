-- Rows and roles that the rules speak of, as code holds them: a set of boards lies there as bits.
use Rattle.std.specs.Prelude.{ℕ, ◌+◌, cond, ◌&&◌, Some, None, Option, nat_lt}
use Rattle.protocol.specs.Rows.{Role, Row}
use Rattle.protocol.specs.Turns.{last_label}
use Rattle.rows.specs.Marked.{marks_of}
use Rattle.rows.specs.Bits.{has_bit}
use Rattle.rows.specs.declared.role.Role as held
use Rattle.rows.specs.declared.row.Row as kept

abbrev pub role_of : held.Role → Role
role_of r = record { phase = r.phase; asker = r.asker; cohort = has_bit r.cohort; awaited = has_bit r.awaited; answer = r.answer }

abbrev pub row_of : kept.Row → Row
row_of r = record {
  up = r.up;
  lost = r.lost;
  willing = r.willing;
  count = r.count;
  role = role_of r.role;
  marks = marks_of r.marks;
}

-- the label of a word that leaves for a board: none from board 19 on, and none after the last label
abbrev pub next_label : Row → ℕ → Option ℕ
next_label row to = cond (nat_lt to 19 && nat_lt row.count last_label) (Some (row.count + 1)) None
