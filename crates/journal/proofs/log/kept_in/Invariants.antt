use Rattle.std.proofs.Common.{◌≡◌, ◌≤◌, length, take}
use Rattle.journal.specs.Logs.{as_kept, kept_of}
use Rattle.journal.proofs.log.kept_in.Given as goal

abbrev pub invariant-loop-entry : goal.invariant-loop-entry
invariant-loop-entry g l =
    (l.entry-index ≤ length l.log) × (as_kept l.kept ≡ kept_of g.R.Part.rules.first (take l.entry-index l.log) l.board)
