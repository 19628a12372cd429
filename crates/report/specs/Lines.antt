-- The lines of a report.
use Rattle.std.specs.Prelude.{ℕ, ◌%◌, ◌^◌, Bool, cond, List, ◌++◌, codes, decimal, nat_lt}
use Rattle.records.specs.declared.feed.Feed.{Feed}
use Rattle.records.specs.declared.harness.Harness.{Harness}
use Rattle.report.specs.Texts.{hex_of}
use Rattle.report.specs.declared.state.BoardState.{BoardState}
use Rattle.report.specs.declared.state.BoardState.TheVariants.{Free, Held, Lost, Stopped}

-- number, answer, kind
abbrev pub turn_line : ℕ → ℕ → ℕ → List ℕ
turn_line number answer kind = decimal number ++ (codes " " ++ (decimal answer ++ (codes " " ++ (decimal kind ++ codes "\n"))))

-- the number of each state
abbrev pub state_number : BoardState → ℕ
state_number Free = 0
state_number Held = 1
state_number Lost = 2
state_number Stopped = 3

-- B, board, state and how the record is spelled
abbrev pub board_line : ℕ → BoardState → List ℕ → List ℕ
board_line board state spelling =
    codes "B " ++ (decimal board ++ (codes " " ++ (decimal (state_number state) ++ (codes " " ++ (spelling ++ codes "\n")))))

-- END, how many turn lines there are, and where the board lines begin
abbrev pub end_line : ℕ → ℕ → List ℕ
end_line turns offset = codes "END " ++ (decimal turns ++ (codes " " ++ (decimal offset ++ codes "\n")))

-- pick, lifted, and the sum as 8 digits
abbrev pub harness_text : Harness → List ℕ
harness_text r = decimal r.pick ++ (codes " " ++ (decimal r.lifted ++ (codes " " ++ hex_of r.sum)))

-- bits of single precision, those of every NaN being 7fc00000
abbrev pub is_nan : ℕ → Bool
is_nan bits = nat_lt 0x7f80_0000 (bits % 2 ^ 31)

abbrev pub shown : ℕ → ℕ
shown bits = cond (is_nan bits) 0x7fc0_0000 bits

-- pick, tension and length, the last two as 8 digits of their bits
abbrev pub feed_text : Feed → List ℕ
feed_text r = decimal r.pick ++ (codes " " ++ (hex_of (shown r.tension) ++ (codes " " ++ hex_of (shown r.length))))
