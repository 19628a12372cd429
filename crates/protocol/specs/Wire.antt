-- The wire: one list of messages, to which new ones join at the end.
use Rattle.std.specs.Prelude.{ℕ, zero, suc, ◌+◌, Bool, false, cond, List, [], ◌∷◌, ◌++◌, Some, None, Option, ◌==◌}
pub use Rattle.turns.specs.declared.message.Note.{Note}
pub use Rattle.turns.specs.declared.message.Note.TheVariants.{Word, Ask, Reply, Decision}

-- a message by its sender, its receiver and what it says
pub data Message : Type 0 where
  post : ℕ → ℕ → Note → Message

-- from p to q
abbrev pub goes : ℕ → ℕ → Message → Bool
goes p q (post from to note) = cond (from == p) (to == q) false

-- the earliest message from p to q, and the wire without it
abbrev pub earliest : ℕ → ℕ → List Message → Option Message
earliest p q [] = None
earliest p q (m ∷ wire) = cond (goes p q m) (Some m) (earliest p q wire)

abbrev pub without : ℕ → ℕ → List Message → List Message
without p q [] = []
without p q (m ∷ wire) = cond (goes p q m) wire (m ∷ without p q wire)

-- a message to each board below k that is in the set, in rising order
abbrev pub posts : ℕ → (ℕ → Bool) → (ℕ → Message) → List Message
posts zero set message = []
posts (suc k) set message = posts k set message ++ cond (set k) (message k ∷ []) []

-- a sum over the wire
abbrev pub tally : (Message → ℕ) → List Message → ℕ
tally f [] = 0
tally f (m ∷ wire) = f m + tally f wire

-- a message is a word, or one of a round's messages
abbrev pub is_word : Message → ℕ
is_word (post p q (Word label word)) = 1
is_word (post p q (Ask round label)) = 0
is_word (post p q (Reply agrees)) = 0
is_word (post p q (Decision round agreed)) = 0

abbrev pub is_control : Message → ℕ
is_control (post p q (Word label word)) = 0
is_control (post p q (Ask round label)) = 1
is_control (post p q (Reply agrees)) = 1
is_control (post p q (Decision round agreed)) = 1
