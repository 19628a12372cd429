-- How a run file is written: the bytes that spell a loom and its turns.
use Rattle.std.specs.Prelude.{◌≡◌, ℕ, ◌^◌, ◌<◌, ◌≤◌, List, [], ◌∷◌, ◌++◌, length, codes, decimal}
use Rattle.std.specs.List.{flat_map, AllByRecursion}
use Rattle.turns.specs.declared.turn.Turn.{Turn}
use Rattle.turns.specs.declared.turn.Turn.TheVariants.{Work, Send, Deliver, Checkpoint, Rollback, Stop, Restart, SetWilling}
use Rattle.lines.specs.declared.loom.StoreKind.{StoreKind}
use Rattle.lines.specs.declared.loom.StoreKind.TheVariants.{Slots, Journal}
use Rattle.lines.specs.declared.loom.PartKind.{PartKind}
use Rattle.lines.specs.declared.loom.PartKind.TheVariants.{Harness, Feed}
use Rattle.lines.specs.declared.loom.Loom.{Loom}

-- a space and a number
abbrev pub spell_field : ℕ → List ℕ
spell_field n = 32 ∷ decimal n

-- a turn's letter: W, S, D, C, R, X, U, N
abbrev pub letter_of : Turn → ℕ
letter_of (Work board word) = 87
letter_of (Send from to word) = 83
letter_of (Deliver from to) = 68
letter_of (Checkpoint board) = 67
letter_of (Rollback board) = 82
letter_of (Stop board) = 88
letter_of (Restart board) = 85
letter_of (SetWilling board willing) = 78

-- and its numbers, in the order of the line
abbrev pub fields_of : Turn → List ℕ
fields_of (Work board word) = board ∷ word ∷ []
fields_of (Send from to word) = from ∷ to ∷ word ∷ []
fields_of (Deliver from to) = from ∷ to ∷ []
fields_of (Checkpoint board) = board ∷ []
fields_of (Rollback board) = board ∷ []
fields_of (Stop board) = board ∷ []
fields_of (Restart board) = board ∷ []
fields_of (SetWilling board willing) = board ∷ willing ∷ []

-- a line: its fields and byte 0A
abbrev pub spell_fields : List ℕ → List ℕ
spell_fields ns = flat_map spell_field ns ++ 10 ∷ []

abbrev pub spell_turn : Turn → List ℕ
spell_turn t = letter_of t ∷ spell_fields (fields_of t)

-- the store: S 0 or J with its places
abbrev pub store_letter : StoreKind → ℕ
store_letter Slots = 83
store_letter (Journal places) = 74

abbrev pub places_of : StoreKind → ℕ
places_of Slots = 0
places_of (Journal places) = places

-- H or F
abbrev pub part_letter : PartKind → ℕ
part_letter Harness = 72
part_letter Feed = 70

-- LOOM n s e k
abbrev pub spell_loom : Loom → List ℕ
spell_loom loom =
    codes "LOOM" ++ (spell_field loom.boards ++ (32 ∷ store_letter loom.store ∷ (spell_field (places_of loom.store)
    ++ (32 ∷ part_letter loom.part ∷ (10 ∷ [])))))

abbrev pub spell_file : Loom → List Turn → List ℕ
spell_file loom turns = spell_loom loom ++ flat_map spell_turn turns

-- what can be written so: 1 to 19 boards, a journal of n to 1,024 places, numbers below 2^32
abbrev pub FitStore : ℕ → StoreKind → Type 0
FitStore boards Slots = Unit {0}
FitStore boards (Journal places) = (boards ≤ places) × (places ≤ 1024)

abbrev pub FitLoom : Loom → Type 0
FitLoom loom = (1 ≤ loom.boards) × (loom.boards ≤ 19) × FitStore loom.boards loom.store

abbrev pub FitTurn : Turn → Type 0
FitTurn t = AllByRecursion (λ n. n < 2 ^ 32) (fields_of t)

-- these bytes spell this loom and these turns, at most 4,096 of them, all within bounds
pub record SpelledBy (bs : List ℕ) (given : Loom) (ts : List Turn) : Type 0 where
  pub bytes : bs ≡ spell_file given ts
  pub loom : FitLoom given
  pub turns : AllByRecursion FitTurn ts
  pub few : length ts ≤ 4096
