-- What the reader hands out, in terms of what a file means.
use Rattle.std.specs.Prelude.{◌≡◌, ℕ, ◌≤◌, List, length, IfOk, Some, None, Ok, Err, vec_items, Option, Result, Vec}
use Rattle.std.specs.List.{AllByRecursion}
use Rattle.std.specs.declared.alloc.Global.{Global}
use Rattle.turns.specs.declared.turn.Turn.{Turn}
use Rattle.lines.specs.declared.loom.Loom.{Loom}
use Rattle.runfile.specs.declared.refusal.Refusal.{Refusal}
use Rattle.runfile.specs.Files.{Place}
use Rattle.lines.specs.Spelling.{spell_file, FitLoom, FitTurn, SpelledBy}
use Rattle.runfile.specs.declared.file.ReadError.{ReadError}
use Rattle.runfile.specs.declared.file.ReadError.TheVariants.{Refused, NoMemory}
use Rattle.runfile.specs.declared.file.RunFile.{RunFile}
use Rattle.runfile.specs.declared.reader.TurnLine.{TurnLine}

-- a turn that was found at a line, with the number of that line
abbrev pub numbered : ℕ → Result (Option (Turn × Place)) Refusal → Result (Option TurnLine) Refusal
numbered line (Ok (Some x)) = Ok (Some (record { line = line; turn = x.0 }))
numbered line (Ok None) = Ok None
numbered line (Err e) = Err e

-- What was read is what is meant: the value, or the refusal. Only where memory is wanting nothing is said.
abbrev pub Told : {A X : Type 0} → (A → X) → Result A ReadError → Result X Refusal → Type 0
Told see (Ok x) meant = meant ≡ Ok (see x)
Told see (Err (Refused e)) meant = meant ≡ Err e
Told see (Err NoMemory) meant = Unit {0}

abbrev pub ReadTurns : Result (Vec Turn Global) ReadError → Result (List Turn) Refusal → Type 0
ReadTurns r meant = Told vec_items r meant

abbrev pub Read : Result RunFile ReadError → Result (Loom × List Turn) Refusal → Type 0
Read r meant = Told (λ file. (file.loom, vec_items file.turns)) r meant

-- The laws of reading. What is spelled is read back: at most 4,096 turns in at most 32,768 bytes.
abbrev pub ReadsBack : List ℕ → Result RunFile ReadError → Type 0
ReadsBack bs r =
    (loom : Loom) (turns : List Turn) → FitLoom loom → AllByRecursion FitTurn turns → length turns ≤ 4096 → length bs ≤ 32768
    → bs ≡ spell_file loom turns → Read r (Ok (loom, turns))

-- What is read was spelled so, in just these bytes.
abbrev pub Spelled : List ℕ → Result RunFile ReadError → Type 0
Spelled bs r = IfOk r (λ file. SpelledBy bs file.loom (vec_items file.turns))
