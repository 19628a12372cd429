-- What a journal means. It has C places, of which U are used; K of its boards have a record pending.
use Rattle.std.specs.Prelude.{◌≡◌, ℕ, ◌+◌, ◌-◌, ◌/◌, Bool, cond, ◌||◌, List, ◌++◌, map, length, take, drop, Some, None, Ok, Err, Option, Result, nat_le, nat_lt, slice_set}
use Rattle.std.specs.List.{range_with_len}
use Rattle.store.specs.Meaning.{Kept, Meaning, discarding, fresh_meaning, keep_after, discard_after, make_refused}
use Rattle.store.specs.declared.refusal.MakeRefusal.{MakeRefusal}
use Rattle.journal.specs.Logs.{kept_of, kept_all, pending_count, latest_from}
use Rattle.journal.specs.declared.entry.Entry.{Entry}
use Rattle.journal.specs.declared.entry.EntryKind.{EntryKind}
use Rattle.journal.specs.declared.entry.EntryKind.TheVariants.{First, Put, Keep, Discard}

-- K, by the used entries
abbrev pub pendings : {R : Type 0} → R → List (Entry R) → ℕ → ℕ → ℕ
pendings first entries used n = pending_count (kept_all first (take used entries) n)

-- every pending record has a place left for the entry that ends it
abbrev pub roomy : {R : Type 0} → R → List (Entry R) → ℕ → ℕ → Bool
roomy first entries used n = nat_le (used + pendings first entries used n) (length entries)

-- where some has none, nothing counts as pending (making and the calls never come to that)
abbrev pub counted : {R : Type 0} → Bool → Kept R → Kept R
counted b k = cond b k (discarding k)

abbrev pub kept_at : {R : Type 0} → R → List (Entry R) → ℕ → ℕ → ℕ → Kept R
kept_at first entries used n p = counted (roomy first entries used n) (kept_of first (take used entries) p)

-- the spare is (C - U - K) / 2
abbrev pub journal_meaning : {R : Type 0} → R → List (Entry R) → ℕ → ℕ → Meaning R
journal_meaning first entries used n = record {
  boards = map (kept_at first entries used n) (range_with_len 0 n);
  spare = (length entries - used - pendings first entries used n) / 2;
}

-- the entry that a call appends: it points back to the board's latest entry
abbrev pub entry_of : {R : Type 0} → ℕ → EntryKind → R → List (Entry R) → Entry R
entry_of p kind r log = record { board = p; kind = kind; state = r; back = latest_from p (length log) 0 log }

-- the memory after a call: the entry at the first unused place where it was taken, else as it was
abbrev pub appended : {V E R : Type 0} → Result V E → List (Entry R) → ℕ → Entry R → List (Entry R)
appended (Ok v) entries used e = slice_set entries used e
appended (Err x) entries used e = entries

-- how many places are used after it
abbrev pub used_after : {V E : Type 0} → Result V E → ℕ → ℕ
used_after (Ok v) used = used + 1
used_after (Err x) used = used

-- the meaning after an entry that ends a pending record, of kind keep or drop
abbrev pub ended_after : {R : Type 0} → EntryKind → Meaning R → ℕ → Meaning R
ended_after First m p = m
ended_after Put m p = m
ended_after Keep m p = keep_after m p
ended_after Discard m p = discard_after m p

-- the entries of a new journal: each board's first record, which points to itself
abbrev pub first_entry : {R : Type 0} → R → ℕ → Entry R
first_entry first p = record { board = p; kind = First; state = first; back = p }

abbrev pub fresh_entries : {R : Type 0} → R → ℕ → List (Entry R)
fresh_entries first n = map (first_entry first) (range_with_len 0 n)

-- what a new journal means: its spare is half the places that are left
abbrev pub new_meaning : {R : Type 0} → R → ℕ → ℕ → Meaning R
new_meaning first places n = fresh_meaning first ((places - n) / 2) n

-- why a journal is not made: of 0 or over 64 boards, then of fewer places than boards or over 1,024
abbrev pub journal_refused : ℕ → ℕ → Option MakeRefusal
journal_refused places n = make_refused (nat_lt places n || nat_lt 1024 places) n

-- the memory after making: the entries of a new journal, and what was there past them; at a refusal as it was
abbrev pub prepared : {R : Type 0} → R → List (Entry R) → ℕ → Option MakeRefusal → List (Entry R)
prepared first entries n None = fresh_entries first n ++ drop n entries
prepared first entries n (Some why) = entries

-- a new journal: the whole memory, with the boards' first entries used
pub record New {R : Type 0} (first : R) (was : List (Entry R)) (n : ℕ)
    (entries : List (Entry R)) (used boards : ℕ) : Type 0 where
  pub memory : entries ≡ fresh_entries first n ++ drop n was
  pub count : used ≡ n
  pub all : boards ≡ n
