-- What stands, told by reading a board's entries back from the latest one.
use Rattle.std.specs.Prelude.{ℕ, Bool, true, false, cond, List, [], ◌∷◌, ◌==◌}
use Rattle.journal.specs.declared.entry.Entry.{Entry}
use Rattle.journal.specs.declared.entry.EntryKind.{EntryKind}
use Rattle.journal.specs.declared.entry.EntryKind.TheVariants.{First, Put, Keep, Discard}

-- The log, latest entry first, is read back to the latest put that was kept: past puts that are pending or dropped to the
-- latest keep (kept = false), and from there to the put before it (kept = true). Where there is none, the first record.
abbrev pub step : {R : Type 0} → EntryKind → Bool → R → R → R → R
step First kept r sought found = r
step Put kept r sought found = cond kept r sought
step Keep kept r sought found = found
step Discard kept r sought found = sought

abbrev pub latest_kept : {R : Type 0} → R → ℕ → Bool → List (Entry R) → R
latest_kept first p kept [] = first
latest_kept first p kept (e ∷ es) =
    cond (e.board == p)
    (step e.kind kept e.state (latest_kept first p false es) (latest_kept first p true es))
    (latest_kept first p kept es)
