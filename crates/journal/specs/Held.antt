-- A journal as code holds it: its memory, how many places are used, how many boards it has.
use Rattle.std.specs.Prelude.{◌≡◌, ℕ, ◌+◌, true, List, take, Option, Result, slice_set}
use Rattle.std.specs.List.{slice_get}
use Rattle.records.specs.declared.part.Part.{Ghosts}
use Rattle.store.specs.Meaning.{Kept, Meaning}
use Rattle.journal.specs.Journals.{journal_meaning, roomy, appended, entry_of}
use Rattle.journal.specs.Pointers.{Threaded, Traced}
use Rattle.journal.specs.declared.entry.Entry.{Entry}
use Rattle.journal.specs.declared.entry.EntryKind.{EntryKind}
use Rattle.journal.specs.declared.memory.Journal.{Journal}

module _ {R : Type 0} {part : Ghosts R} where
  -- what it means
  abbrev pub meaning_of : Journal R part → Meaning R
  meaning_of j = journal_meaning part.rules.first j.entries.now j.used j.boards

  -- what is kept of a board, if it is one
  abbrev pub board_of : Journal R part → ℕ → Option (Kept R)
  board_of j p = slice_get (meaning_of j).boards p

  -- the entries that are used
  abbrev pub log_of : Journal R part → List (Entry R)
  log_of j = take j.used j.entries.now

  -- its memory with an entry of this kind at the first place that is not used
  abbrev pub with_entry : Journal R part → ℕ → EntryKind → R → List (Entry R)
  with_entry j p kind r = slice_set j.entries.now j.used (entry_of p kind r (log_of j))

  -- with that entry used, every pending record has a place left for the entry that ends it
  abbrev pub HasRoomFor : Journal R part → ℕ → EntryKind → R → Type 0
  HasRoomFor j p kind r = roomy part.rules.first (with_entry j p kind r) (j.used + 1) j.boards ≡ true

  -- its memory after a call that appends such an entry, or is refused
  abbrev pub grown : {V E : Type 0} → Result V E → Journal R part → ℕ → EntryKind → R → List (Entry R)
  grown result j p kind r = appended result j.entries.now j.used (entry_of p kind r (log_of j))

  -- its pointers are as they should be
  abbrev pub Threading : Journal R part → Type 0
  Threading j = Threaded (log_of j) j.boards

  abbrev pub Tracing : Journal R part → Type 0
  Tracing j = Traced (log_of j) j.boards
