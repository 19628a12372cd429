-- What words and rounds do to a board's marks, and what a board reads off them.
use Rattle.std.specs.Prelude.{ℕ, max, Bool, true, false, cond, not, ◌&&◌, ◌==◌, nat_le, nat_lt}
use Rattle.protocol.specs.Tables.{changed}
use Rattle.protocol.specs.Rows.{Round, Save, Back, Marks, no_labels}

-- after a word sent to q under the label l: it is the first one too if there was none
abbrev pub mark_sent : Marks → ℕ → ℕ → Marks
mark_sent m q l = record {
  heard = m.heard;
  first = changed m.first q (cond (m.first q == 0) l (m.first q));
  sent = changed m.sent q l;
  saved = m.saved;
  heard_aside = m.heard_aside;
  first_aside = m.first_aside;
}

-- after a word heard from p under the label l
abbrev pub mark_heard : Marks → ℕ → ℕ → Marks
mark_heard m p l = record {
  heard = changed m.heard p l;
  first = m.first;
  sent = m.sent;
  saved = m.saved;
  heard_aside = m.heard_aside;
  first_aside = m.first_aside;
}

-- taking a checkpoint sets heard and first aside and zeroes them
abbrev pub mark_checkpoint : Marks → Marks
mark_checkpoint m = record {
  heard = no_labels;
  first = no_labels;
  sent = m.sent;
  saved = m.saved;
  heard_aside = m.heard;
  first_aside = m.first;
}

-- keep: saved becomes sent
abbrev pub mark_keep : Marks → Marks
mark_keep m = record {
  heard = m.heard;
  first = m.first;
  sent = m.sent;
  saved = m.sent;
  heard_aside = no_labels;
  first_aside = no_labels;
}

-- drop: heard becomes the larger of both values, and first returns
abbrev pub mark_drop : Marks → Marks
mark_drop m = record {
  heard = λ q. max (m.heard q) (m.heard_aside q);
  first = m.first_aside;
  sent = m.sent;
  saved = m.saved;
  heard_aside = no_labels;
  first_aside = no_labels;
}

-- go back: heard and first become 0, and sent becomes saved
abbrev pub mark_back : Marks → Marks
mark_back m = record {
  heard = no_labels;
  first = no_labels;
  sent = m.saved;
  saved = m.saved;
  heard_aside = no_labels;
  first_aside = no_labels;
}

-- being drawn into a round, by a checkpoint or by joining
abbrev pub mark_drawn : Round → Marks → Marks
mark_drawn Save m = mark_checkpoint m
mark_drawn Back m = m

-- carrying out a decision: keep or drop, go back or go on
abbrev pub mark_carried : Round → Bool → Marks → Marks
mark_carried Save true m = mark_keep m
mark_carried Save false m = mark_drop m
mark_carried Back true m = mark_back m
mark_carried Back false m = m

-- the label with which a board that is drawn in asks b, by its marks before
abbrev pub ask_label : Round → Marks → ℕ → ℕ
ask_label Save m b = m.heard b
ask_label Back m b = m.saved b

-- whether p of n boards asks b: saving, whoever it has heard since its last checkpoint; going back, all others
abbrev pub in_cohort : ℕ → Round → ℕ → Marks → ℕ → Bool
in_cohort n Save p m b = nat_lt b n && (not (b == p) && nat_lt 0 (m.heard b))
in_cohort n Back p m b = nat_lt b n && not (b == p)

-- whether a board with these marks, asked by a with the label l, has to take part: saving, if it sent a a word since
-- its last checkpoint that a's checkpoint has heard; going back, if it heard a word that a's kept story does not send
abbrev pub need : Round → Marks → ℕ → ℕ → Bool
need Save m a l = nat_lt 0 (m.first a) && nat_le (m.first a) l
need Back m a l = nat_lt l (m.heard a)
