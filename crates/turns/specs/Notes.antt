-- What messages say, and the numbers of their kinds.
use Rattle.std.specs.Prelude.{true, false, ℕ}
use Rattle.turns.specs.declared.round.Round.TheVariants.{Save, Back}
use Rattle.turns.specs.declared.message.Note.{Note}
use Rattle.turns.specs.declared.message.Note.TheVariants.{Word, Ask, Reply, Decision}

-- 1 word, 2 ask to save, 3 yes, 4 no, 5 keep it, 6 drop it, 7 ask to go back, 8 go back, 9 go on
abbrev pub kind_of : Note → ℕ
kind_of (Word label word) = 1
kind_of (Ask Save label) = 2
kind_of (Reply true) = 3
kind_of (Reply false) = 4
kind_of (Decision Save true) = 5
kind_of (Decision Save false) = 6
kind_of (Ask Back label) = 7
kind_of (Decision Back true) = 8
kind_of (Decision Back false) = 9

-- 0 where a kind has none
abbrev pub label_of : Note → ℕ
label_of (Word label word) = label
label_of (Ask round label) = label
label_of (Reply agrees) = 0
label_of (Decision round agreed) = 0

abbrev pub word_of : Note → ℕ
word_of (Word label word) = word
word_of (Ask round label) = 0
word_of (Reply agrees) = 0
word_of (Decision round agreed) = 0
