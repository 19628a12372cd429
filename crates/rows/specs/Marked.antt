-- The marks that the rules speak of, as code holds them.
use Rattle.std.specs.Prelude.{ℕ, List, slice_index_or}
use Rattle.protocol.specs.Rows.{Marks}
use Rattle.rows.specs.declared.mark.Mark.{Mark}
use Rattle.rows.specs.declared.marks.Marks as held

abbrev pub no_mark : Mark
no_mark = record { heard = 0; first = 0; sent = 0; saved = 0; heard_aside = 0; first_aside = 0 }

-- what is noted of board q
abbrev pub mark_at : List Mark → ℕ → Mark
mark_at ms q = slice_index_or ms q no_mark

abbrev pub marks_by : List Mark → Marks
marks_by ms = record {
  heard = λ q. (mark_at ms q).heard;
  first = λ q. (mark_at ms q).first;
  sent = λ q. (mark_at ms q).sent;
  saved = λ q. (mark_at ms q).saved;
  heard_aside = λ q. (mark_at ms q).heard_aside;
  first_aside = λ q. (mark_at ms q).first_aside;
}

abbrev pub marks_of : held.Marks → Marks
marks_of ms = marks_by ms.of
