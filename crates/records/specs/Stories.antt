-- Stories of several boards, and orphans among them.
use Rattle.std.specs.Prelude.{◌≡◌, ℕ, ◌<◌, ◌⊎◌, List, [], ◌∷◌}
use Rattle.records.specs.declared.event.Event.{Event}
use Rattle.records.specs.declared.event.Event.TheVariants.{Sent, Heard}

abbrev pub Story : Type 0
Story = List Event

-- an event stands in a story
abbrev pub Told : Event → Story → Type 0
Told e [] = ⊥
Told e (x ∷ story) = (x ≡ e) ⊎ Told e story

-- An orphan among the stories of n boards: an event of hearing without the event of sending of the same sender,
-- receiver and label in the sender's story.
pub record Orphan (n : ℕ) (stories : ℕ → Story) : Type 0 where
  pub receiver : ℕ
  pub sender : ℕ
  pub label : ℕ
  pub word : ℕ
  pub receiver_in : receiver < n
  pub sender_in : sender < n
  pub is_heard : Told (Heard sender label word) (stories receiver)
  pub not_sent : (w : ℕ) → Told (Sent receiver label w) (stories sender) → ⊥

-- no orphan: each word heard was sent, to the board that heard it and under that label
abbrev pub NoOrphan : ℕ → (ℕ → Story) → Type 0
NoOrphan n stories =
    (receiver sender label word : ℕ) → receiver < n → sender < n → Told (Heard sender label word) (stories receiver)
    → (w : ℕ) × Told (Sent receiver label w) (stories sender)
