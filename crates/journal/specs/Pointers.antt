-- The pointers back of a log.
use Rattle.std.specs.Prelude.{◌≡◌, ℕ, zero, suc, ◌<◌, List, Some}
use Rattle.std.specs.List.{slice_get}
use Rattle.journal.specs.declared.entry.Entry.{Entry}
use Rattle.journal.specs.declared.entry.EntryKind.{EntryKind}
use Rattle.journal.specs.declared.entry.EntryKind.TheVariants.{First, Put, Keep, Discard}

-- an entry of this board stands at this place
pub record Stands {R : Type 0} (log : List (Entry R)) (p i : ℕ) : Type 0 where
  pub entry : Entry R
  pub here : slice_get log i ≡ Some entry
  pub board : entry.board ≡ p

-- an entry of kind first points to its own place, any other to an earlier entry of its board
abbrev pub PointsBy : {R : Type 0} → EntryKind → List (Entry R) → ℕ → ℕ → ℕ → Type 0
PointsBy First log p i back = back ≡ i
PointsBy Put log p i back = (back < i) × Stands log p back
PointsBy Keep log p i back = (back < i) × Stands log p back
PointsBy Discard log p i back = (back < i) × Stands log p back

-- every entry of the log does so, and every board has one
pub record Threaded {R : Type 0} (log : List (Entry R)) (n : ℕ) : Type 0 where
  pub points : (i : ℕ) (e : Entry R) → slice_get log i ≡ Some e → PointsBy e.kind log e.board i e.back
  pub each : (p : ℕ) → p < n → (i : ℕ) × Stands log p i

-- followed back from a place, in at most so many steps, the pointers end at an entry of kind first of the same board
abbrev pub EndsBy : EntryKind → Type 0 → Type 0
EndsBy First more = Unit {0}
EndsBy Put more = more
EndsBy Keep more = more
EndsBy Discard more = more

abbrev pub Ends : {R : Type 0} → ℕ → List (Entry R) → ℕ → ℕ → Type 0
Ends zero log p i = ⊥
Ends {R = R} (suc steps) log p i =
    (e : Entry R) × (slice_get log i ≡ Some e) × (e.board ≡ p) × EndsBy e.kind (Ends steps log p e.back)

-- The pointers of a log are as they should be: from every entry, followed back, they end at its board's first entry.
pub record Traced {R : Type 0} (log : List (Entry R)) (n : ℕ) : Type 0 where
  pub threads : Threaded log n
  pub ends : (p i : ℕ) → Stands log p i → Ends (suc i) log p i
