-- Lines written into lent memory.
use Rattle.std.specs.Prelude.{ℕ, ◌+◌, List, ◌++◌, length, take, drop}

-- the memory with these bytes at a place: what stood before them and past them stays
abbrev pub written : List ℕ → ℕ → List ℕ → List ℕ
written out at bytes = take at out ++ (bytes ++ drop (at + length bytes) out)
