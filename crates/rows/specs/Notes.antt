-- What words and rounds do to what a board notes of one other board.
use Rattle.std.specs.Prelude.{ℕ, max, cond, ◌==◌}
use Rattle.rows.specs.declared.mark.Mark.{Mark}

-- a word sent is the first one too if there was none
abbrev pub said : ℕ → Mark → Mark
said label m = record m { first = cond (m.first == 0) label m.first; sent = label }

-- a word heard
abbrev pub told : ℕ → Mark → Mark
told label m = record m { heard = label }

-- taking a checkpoint sets heard and first aside and zeroes them
abbrev pub set_aside : Mark → Mark
set_aside m = record m { heard = 0; first = 0; heard_aside = m.heard; first_aside = m.first }

-- keep: saved becomes sent
abbrev pub kept : Mark → Mark
kept m = record m { saved = m.sent; heard_aside = 0; first_aside = 0 }

-- drop: heard becomes the larger of both values, and first returns
abbrev pub brought_back : Mark → Mark
brought_back m = record m { heard = max m.heard m.heard_aside; first = m.first_aside; heard_aside = 0; first_aside = 0 }

-- go back: heard and first become 0, and sent becomes saved
abbrev pub gone_back : Mark → Mark
gone_back m = record m { heard = 0; first = 0; sent = m.saved; heard_aside = 0; first_aside = 0 }
