-- Reading so many numbers, one after the other. Assumes nothing.
use Rattle.std.proofs.Common.{rules, ◌≡◌, ℕ, suc, ◌+◌, ◌-◌, ◌<◌, ◌≤◌, List, [], ◌∷◌, ◌++◌, length, take, Some, None, Option, sym, refl, ap, ◌∙◌, arith, append_assoc, append-nil, length-set}
use Rattle.std.proofs.Math.ListN.{set}
use Rattle.std.proofs.lemmas.List.{take_more_set, take_all}
use Rattle.lines.specs.Lines.{and_then, byte, field, fields, one_field, two_fields, three_fields}

-- numbers that were read, before those that follow
abbrev prefixed : List ℕ → Option (List ℕ × List ℕ) → Option (List ℕ × List ℕ)
prefixed ns o = and_then o (λ x. Some (ns ++ x.0, x.1))

-- The first k of n numbers are read, into the front of ns, and the others follow in the bytes that are left.
pub record Halfway (n : ℕ) (bs ns : List ℕ) (k : ℕ) (rest : List ℕ) : Type 0 where
  pub full : length ns ≡ n
  pub whole : fields n bs ≡ prefixed (take k ns) (fields (n - k) rest)

pub halfway_none : (n : ℕ) (bs ns : List ℕ) → length ns ≡ n → Halfway n bs ns 0 bs
halfway_none n bs ns e = record { full = e; whole = let all : n - 0 ≡ n = omega arith in rw all (search rules) }

-- what follows, by its first number
by_next : {n : ℕ} {bs ns : List ℕ} {k : ℕ} {rest : List ℕ} (o : Option (ℕ × List ℕ))
    → Halfway n bs ns k rest → k < n → field rest ≡ o
    → fields n bs ≡ prefixed (take k ns) (and_then o (λ a. and_then (fields (n - (k + 1)) a.1) (λ b. Some (a.0 ∷ b.0, b.1))))
by_next {n = n} {k = k} o h l e =
    let more : n - k ≡ suc (n - (k + 1)) = omega arith in
    h.whole ∙ rw (more, e) refl

pub halfway_more : {n : ℕ} {bs ns : List ℕ} {k : ℕ} {rest : List ℕ} (x : ℕ × List ℕ)
    → Halfway n bs ns k rest → k < n → field rest ≡ Some x
    → Halfway n bs (set ns k x.0) (k + 1) x.1
halfway_more {n = n} {ns = ns} {k = k} x h l e = record {
  full = simp length-set h.full;
  whole = by_next (Some x) h l e ∙ later (fields (n - (k + 1)) x.1)
      ∙ ap (λ ms. prefixed ms (fields (n - (k + 1)) x.1)) (sym (take_more_set ns k x.0 (omega (arith, h.full))));
} where
  later : (o : Option (List ℕ × List ℕ))
      → prefixed (take k ns) (and_then o (λ b. Some (x.0 ∷ b.0, b.1))) ≡ prefixed (take k ns ++ x.0 ∷ []) o
  later o = grind (arith, append_assoc)

pub halfway_err : {n : ℕ} {bs ns : List ℕ} {k : ℕ} {rest : List ℕ}
    → Halfway n bs ns k rest → k < n → field rest ≡ None → fields n bs ≡ None
halfway_err h l e = by_next None h l e

-- all are read, and the line's end follows
pub halfway_end : {n : ℕ} {bs ns : List ℕ} {k : ℕ} {rest : List ℕ} (o : Option (List ℕ))
    → Halfway n bs ns k rest → n ≤ k → byte 10 rest ≡ o
    → fields n bs ≡ and_then o (λ r. Some (ns, r))
halfway_end {n = n} {ns = ns} {k = k} {rest = rest} o h l e =
    let none : n - k ≡ 0 = omega arith in
    h.whole ∙ rw (none, e) (ended o) where
      ended : (x : Option (List ℕ)) → prefixed (take k ns) (and_then x (λ r. Some ([], r))) ≡ and_then x (λ r. Some (ns, r))
      ended None = refl
      ended (Some r) = ap (λ ms. Some (ms, r)) (append-nil (take k ns) ∙ take_all k ns (omega (arith, h.full)))

-- what reads n numbers into a value whose numbers are ns
pub record Listed {A : Type 0} (n : ℕ) (ns : A → List ℕ) (read : List ℕ → Option (A × List ℕ)) : Type 0 where
  pub same : (bs : List ℕ) → fields n bs ≡ and_then (read bs) (λ x. Some (ns x.0, x.1))

pub one_listed : Listed 1 (λ a. a ∷ []) one_field
one_listed = record { same = λ bs. search rules }

pub two_listed : Listed 2 (λ a. a.0 ∷ a.1 ∷ []) two_fields
two_listed = record { same = λ bs. search rules }

pub three_listed : Listed 3 (λ a. a.0 ∷ a.1 ∷ a.2 ∷ []) three_fields
three_listed = record { same = λ bs. search rules }
