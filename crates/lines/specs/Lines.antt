-- What a line is: the pieces of a line one after the other, each ended line by byte 0A.
use Rattle.std.specs.Prelude.{ℕ, zero, suc, cond, ◌&&◌, List, [], ◌∷◌, Some, None, codes, Option, ◌==◌, nat_le}
use Rattle.turns.specs.declared.turn.Turn.{Turn}
use Rattle.turns.specs.declared.turn.Turn.TheVariants.{Work, Send, Deliver, Checkpoint, Rollback, Stop, Restart, SetWilling}
use Rattle.lines.specs.Numbers.{number}
use Rattle.lines.specs.declared.loom.StoreKind.{StoreKind}
use Rattle.lines.specs.declared.loom.StoreKind.TheVariants.{Slots, Journal}
use Rattle.lines.specs.declared.loom.PartKind.{PartKind}
use Rattle.lines.specs.declared.loom.PartKind.TheVariants.{Harness, Feed}
use Rattle.lines.specs.declared.loom.Loom.{Loom}

-- what follows, where there was something to follow
abbrev pub and_then : {A B : Type 0} → Option A → (A → Option B) → Option B
and_then None f = None
and_then (Some x) f = f x

-- one byte that must stand there
abbrev pub byte : ℕ → List ℕ → Option (List ℕ)
byte b [] = None
byte b (c ∷ cs) = cond (c == b) (Some cs) None

-- a space and a number
abbrev pub field : List ℕ → Option (ℕ × List ℕ)
field bs = and_then (byte 32 bs) number

-- so many numbers, each after a space, and the line's end
abbrev pub fields : ℕ → List ℕ → Option (List ℕ × List ℕ)
fields zero bs = and_then (byte 10 bs) (λ rest. Some ([], rest))
fields (suc n) bs = and_then (field bs) (λ a. and_then (fields n a.1) (λ b. Some (a.0 ∷ b.0, b.1)))

-- the numbers of a line, and its end
abbrev pub one_field : List ℕ → Option (ℕ × List ℕ)
one_field bs = and_then (field bs) (λ a. and_then (byte 10 a.1) (λ rest. Some (a.0, rest)))

abbrev pub two_fields : List ℕ → Option ((ℕ × ℕ) × List ℕ)
two_fields bs = and_then (field bs) (λ a. and_then (one_field a.1) (λ b. Some ((a.0, b.0), b.1)))

abbrev pub three_fields : List ℕ → Option ((ℕ × ℕ × ℕ) × List ℕ)
three_fields bs = and_then (field bs) (λ a. and_then (two_fields a.1) (λ b. Some ((a.0, b.0.0, b.0.1), b.1)))

-- a turn made of the numbers of its line
abbrev pub made : {A : Type 0} → (A → Turn) → Option (A × List ℕ) → Option (Turn × List ℕ)
made f x = and_then x (λ a. Some (f a.0, a.1))

-- the turn that a letter begins: W, S, D, C, R, X, U, N
abbrev pub turn_by : ℕ → List ℕ → Option (Turn × List ℕ)
turn_by letter bs =
    cond (letter == 87) (made (λ a. Work a.0 a.1) (two_fields bs))
    (cond (letter == 83) (made (λ a. Send a.0 a.1 a.2) (three_fields bs))
    (cond (letter == 68) (made (λ a. Deliver a.0 a.1) (two_fields bs))
    (cond (letter == 67) (made Checkpoint (one_field bs))
    (cond (letter == 82) (made Rollback (one_field bs))
    (cond (letter == 88) (made Stop (one_field bs))
    (cond (letter == 85) (made Restart (one_field bs))
    (cond (letter == 78) (made (λ a. SetWilling a.0 a.1) (two_fields bs))
    None)))))))

abbrev pub turn_line : List ℕ → Option (Turn × List ℕ)
turn_line [] = None
turn_line (letter ∷ bs) = turn_by letter bs

-- the bytes of a word, one after the other
abbrev pub text : List ℕ → List ℕ → Option (List ℕ)
text [] bs = Some bs
text (c ∷ cs) bs = and_then (byte c bs) (text cs)

-- a space and a letter
abbrev pub first : List ℕ → Option (ℕ × List ℕ)
first [] = None
first (c ∷ cs) = Some (c, cs)

abbrev pub letter_field : List ℕ → Option (ℕ × List ℕ)
letter_field bs = and_then (byte 32 bs) first

-- the store: S with 0 places, or J with at least as many as boards and at most 1,024
abbrev pub store_of : ℕ → ℕ → ℕ → Option StoreKind
store_of boards letter places =
    cond (letter == 83) (cond (places == 0) (Some Slots) None)
    (cond (letter == 74) (cond (nat_le boards places && nat_le places 1024) (Some (Journal places)) None)
    None)

-- the kind of record: H or F
abbrev pub part_of : ℕ → Option PartKind
part_of letter = cond (letter == 72) (Some Harness) (cond (letter == 70) (Some Feed) None)

-- 1 to 19 boards, with a store and a kind of record
abbrev pub loom_of : ℕ → ℕ → ℕ → ℕ → Option Loom
loom_of n s e k =
    cond (nat_le 1 n && nat_le n 19)
    (and_then (store_of n s e) (λ store. and_then (part_of k) (λ part. Some (record { boards = n; store = store; part = part }))))
    None

-- LOOM n s e k
abbrev pub loom_line : List ℕ → Option (Loom × List ℕ)
loom_line bs =
    and_then (text (codes "LOOM") bs) (λ bs.
    and_then (field bs) (λ n.
    and_then (letter_field n.1) (λ s.
    and_then (field s.1) (λ e.
    and_then (letter_field e.1) (λ k.
    and_then (byte 10 k.1) (λ rest.
    and_then (loom_of n.0 s.0 e.0 k.0) (λ loom. Some (loom, rest))))))))
