-- How a store and a kind of record are named in a text.
use Rattle.std.specs.Prelude.{ℕ, List, ◌++◌, codes, decimal}
use Rattle.lines.specs.declared.loom.StoreKind.{StoreKind}
use Rattle.lines.specs.declared.loom.StoreKind.TheVariants.{Slots, Journal}
use Rattle.lines.specs.declared.loom.PartKind.{PartKind}
use Rattle.lines.specs.declared.loom.PartKind.TheVariants.{Harness, Feed}

abbrev pub part_name : PartKind → List ℕ
part_name Harness = codes "harness"
part_name Feed = codes "feed"

-- for a slot store: slot store; for a journal: journal of e places
abbrev pub store_name : StoreKind → List ℕ
store_name Slots = codes "slot store"
store_name (Journal places) = codes "journal of " ++ (decimal places ++ codes " places")
