-- Turn lines and first lines that are spelled are read back, and what is read was spelled so. Assumes nothing.
use Rattle.std.proofs.Common.{◌≡◌, ℕ, zero, suc, ◌^◌, ◌<◌, Bool, true, false, cond, eqb, List, [], ◌∷◌, ◌++◌, length, get_or, Some, Option, sym, refl, ap, ◌∙◌, subst}
use Rattle.std.specs.List.{flat_map, AllByRecursion}
use Rattle.std.proofs.lemmas.List.{append_assoc}
use Rattle.std.proofs.lemmas.Option.{same_Some}
use Rattle.std.proofs.lemmas.Bool.{eqb-true}
use Rattle.turns.specs.declared.turn.Turn.{Turn}
use Rattle.turns.specs.declared.turn.Turn.TheVariants.{Work, Send, Deliver, Checkpoint, Rollback, Stop, Restart, SetWilling}
use Rattle.lines.specs.Lines.{and_then, byte, field, fields, one_field, two_fields, three_fields, made, turn_by, turn_line}
use Rattle.lines.specs.Spelling.{spell_field, spell_fields, letter_of, fields_of, spell_turn, FitTurn}
use Rattle.lines.proofs.Fields.{Listed, one_listed, two_listed, three_listed}
use Rattle.lines.proofs.Spelling.{then_was, then_some, byte_spelled, byte_was, field_spelled, field_was}

-- numbers below 2^32
abbrev Small : List ℕ → Type 0
Small ns = AllByRecursion (λ n. n < 2 ^ 32) ns

fields_cons : (a : ℕ) (ns rest : List ℕ) → spell_fields (a ∷ ns) ++ rest ≡ spell_field a ++ (spell_fields ns ++ rest)
fields_cons a ns rest =
    ap (λ xs. xs ++ rest) (append_assoc (spell_field a) (flat_map spell_field ns) (10 ∷ []))
    ∙ append_assoc (spell_field a) (spell_fields ns) rest

-- the first of some fields
next_field : (a : ℕ) (ns rest : List ℕ) → a < 2 ^ 32 → field (spell_fields (a ∷ ns) ++ rest) ≡ Some (a, spell_fields ns ++ rest)
next_field a [] rest h = ap field (fields_cons a [] rest) ∙ field_spelled a 10 rest h refl
next_field a (n ∷ ns) rest h = ap field (fields_cons a (n ∷ ns) rest) ∙ field_spelled a 32 _ h refl

fields_spelled : (ns rest : List ℕ) → Small ns → fields (length ns) (spell_fields ns ++ rest) ≡ Some (ns, rest)
fields_spelled [] rest h = then_some (byte 10 (10 ∷ rest)) (λ r. Some ([], r)) rest (byte_spelled 10 rest)
fields_spelled (a ∷ ns) rest h =
    then_some _ _ _ (next_field a ns rest h.0)
    ∙ then_some (fields (length ns) (spell_fields ns ++ rest)) (λ b. Some (a ∷ b.0, b.1)) (ns, rest) (fields_spelled ns rest h.1)

-- a value whose numbers are spelled is read back, if no other has these numbers
read_back : {A : Type 0} {ns : A → List ℕ} {read : List ℕ → Option (A × List ℕ)} (a : A) (rest : List ℕ)
    → Listed (length (ns a)) ns read
    → ((y : A) → ns y ≡ ns a → y ≡ a) → Small (ns a) → read (spell_fields (ns a) ++ rest) ≡ Some (a, rest)
read_back {ns = ns} {read = read} a rest l only small =
    let bs : List ℕ = spell_fields (ns a) ++ rest in
    let y = then_was (read bs) (λ x. Some (ns x.0, x.1)) (ns a, rest) (sym (l.same bs) ∙ fields_spelled (ns a) rest small) in
    let same = same_Some (ns y.0.0, y.0.1) (ns a, rest) y.1.1 in
    y.1.0 ∙ (λ i. Some (only y.0.0 (ap (λ z. z.0) same) i, (same i).1))

one_back : (a : ℕ) (rest : List ℕ) → Small (a ∷ []) → one_field (spell_fields (a ∷ []) ++ rest) ≡ Some (a, rest)
one_back a rest = read_back a rest one_listed (λ y e. cc)

two_back : (a b : ℕ) (rest : List ℕ) → Small (a ∷ b ∷ []) → two_fields (spell_fields (a ∷ b ∷ []) ++ rest) ≡ Some ((a, b), rest)
two_back a b rest = read_back (a, b) rest two_listed (λ y e. ap (λ ms. (get_or ms 0 0, get_or ms 1 0)) e)

three_back : (a b c : ℕ) (rest : List ℕ) → Small (a ∷ b ∷ c ∷ [])
    → three_fields (spell_fields (a ∷ b ∷ c ∷ []) ++ rest) ≡ Some ((a, b, c), rest)
three_back a b c rest = read_back (a, b, c) rest three_listed (λ y e. ap (λ ms. (get_or ms 0 0, get_or ms 1 0, get_or ms 2 0)) e)

pub turn_spelled : (t : Turn) (rest : List ℕ) → FitTurn t → turn_line (spell_turn t ++ rest) ≡ Some (t, rest)
turn_spelled (Work p w) rest f = ap (made _) (two_back p w rest f)
turn_spelled (Send p q w) rest f = ap (made _) (three_back p q w rest f)
turn_spelled (Deliver p q) rest f = ap (made _) (two_back p q rest f)
turn_spelled (Checkpoint p) rest f = ap (made _) (one_back p rest f)
turn_spelled (Rollback p) rest f = ap (made _) (one_back p rest f)
turn_spelled (Stop p) rest f = ap (made _) (one_back p rest f)
turn_spelled (Restart p) rest f = ap (made _) (one_back p rest f)
turn_spelled (SetWilling p b) rest f = ap (made _) (two_back p b rest f)

-- from what was read back to the bytes
fields_was : (n : ℕ) (bs : List ℕ) (x : List ℕ × List ℕ) → fields n bs ≡ Some x → (bs ≡ spell_fields x.0 ++ x.1) × Small x.0
fields_was zero bs x e =
    let b = then_was (byte 10 bs) _ x e in
    let same = same_Some ([], b.0) x b.1.1 in
    subst (λ (z : List ℕ × List ℕ). (bs ≡ spell_fields z.0 ++ z.1) × Small z.0) same (byte_was 10 bs b.0 b.1.0, tt)
fields_was (suc n) bs x e =
    let a = then_was (field bs) _ x e in
    let b = then_was (fields n a.0.1) _ x a.1.1 in
    let same = same_Some (a.0.0 ∷ b.0.0, b.0.1) x b.1.1 in
    let f = field_was bs a.0 a.1.0 in
    let g = fields_was n a.0.1 b.0 b.1.0 in
    subst (λ (z : List ℕ × List ℕ). (bs ≡ spell_fields z.0 ++ z.1) × Small z.0) same
    (f.0 ∙ ap (λ r. spell_field a.0.0 ++ r) g.0 ∙ sym (fields_cons a.0.0 b.0.0 b.0.1), (f.1, g.1))

-- a line that begins with this letter spells this turn
abbrev Was : ℕ → List ℕ → Turn × List ℕ → Type 0
Was letter bs x = (letter ∷ bs ≡ spell_turn x.0 ++ x.1) × FitTurn x.0

-- a turn made of numbers whose fields it has
made_was : {A : Type 0} {n : ℕ} {ns : A → List ℕ} {read : List ℕ → Option (A × List ℕ)} → Listed n ns read
    → (f : A → Turn) (l letter : ℕ) (bs : List ℕ) (x : Turn × List ℕ)
    → ((a : A) → (letter_of (f a) ≡ l) × (fields_of (f a) ≡ ns a)) → eqb letter l ≡ true
    → made f (read bs) ≡ Some x → Was letter bs x
made_was {n = n} {ns = ns} {read = read} listed f l letter bs x shape here e =
    let y = then_was (read bs) _ x e in
    let same = same_Some (f y.0.0, y.0.1) x y.1.1 in
    let w = fields_was n bs (ns y.0.0, y.0.1) (listed.same bs ∙ ap (λ o. and_then o (λ z. Some (ns z.0, z.1))) y.1.0) in
    let s = shape y.0.0 in
    subst (λ (z : Turn × List ℕ). Was letter bs z) same (
      (λ i. (eqb-true letter l here ∙ sym s.0) i ∷ (w.0 ∙ ap (λ ms. spell_fields ms ++ y.0.1) (sym s.1)) i),
      subst (λ (ms : List ℕ). Small ms) (sym s.1) w.1,
    )

-- the two ways of a test
pub cond_was : {A : Type 0} {P : Type 0} (b : Bool) (x y : Option A) (z : A)
    → (b ≡ true → x ≡ Some z → P) → (y ≡ Some z → P) → cond b x y ≡ Some z → P
cond_was true x y z here there e = here refl e
cond_was false x y z here there e = there e

letter_was : (letter : ℕ) (bs : List ℕ) (x : Turn × List ℕ) → turn_by letter bs ≡ Some x → Was letter bs x
letter_was letter bs x =
    cond_was (eqb letter 87) _ _ x (made_was two_listed _ 87 letter bs x (λ a. (refl, refl)))
    (cond_was (eqb letter 83) _ _ x (made_was three_listed _ 83 letter bs x (λ a. (refl, refl)))
    (cond_was (eqb letter 68) _ _ x (made_was two_listed _ 68 letter bs x (λ a. (refl, refl)))
    (cond_was (eqb letter 67) _ _ x (made_was one_listed Checkpoint 67 letter bs x (λ a. (refl, refl)))
    (cond_was (eqb letter 82) _ _ x (made_was one_listed Rollback 82 letter bs x (λ a. (refl, refl)))
    (cond_was (eqb letter 88) _ _ x (made_was one_listed Stop 88 letter bs x (λ a. (refl, refl)))
    (cond_was (eqb letter 85) _ _ x (made_was one_listed Restart 85 letter bs x (λ a. (refl, refl)))
    (cond_was (eqb letter 78) _ _ x (made_was two_listed _ 78 letter bs x (λ a. (refl, refl)))
    (λ e. cc))))))))

pub turn_was : (bs : List ℕ) (x : Turn × List ℕ) → turn_line bs ≡ Some x → (bs ≡ spell_turn x.0 ++ x.1) × FitTurn x.0
turn_was [] x e = cc
turn_was (letter ∷ bs) x e = letter_was letter bs x e
