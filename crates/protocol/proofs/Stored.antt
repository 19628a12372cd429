-- What a store keeps of each board, as a table; a board that it does not have keeps the first record and none pending.
use Rattle.std.proofs.Common.{◌≡◌, ℕ, zero, suc, ◌-◌, ◌<◌, Bool, true, false, cond, eqb, List, [], ◌∷◌, length, is_ok, Some, None, Ok, Option, sym, refl, ap, ◌∙◌, subst, inl, inr, arith}
use Rattle.std.proofs.lemmas.Bool.{ne_eqb}
use Rattle.std.proofs.lemmas.Bool.Decides.{eqb_tells}
use Rattle.std.specs.List.{slice_get}
use Rattle.records.specs.Rules.{Rules}
use Rattle.store.specs.Meaning.{Kept, Meaning, discard_after, discarding, keep_after, keep_answer, keep_at, keep_under}
use Rattle.store.specs.Meaning.{keeping, put_after, put_answer, put_at, put_under, putting, standing_at, standing_of}
use Rattle.store.specs.Meaning.{updated}
use Rattle.protocol.specs.Effects.{State, carried_store, drawn_store}
use Rattle.protocol.specs.Rows.{Back, Round, Save}
use Rattle.protocol.specs.Tables.{changed}
use Rattle.protocol.proofs.Labels.{first}

abbrev or_first : {R : Type 0} → R → Option (Kept R) → Kept R
or_first r None = record { standing = r; pending = None }
or_first r (Some k) = k

abbrev pub stored_in : {R : Type 0} → Rules R → Meaning R → ℕ → Kept R
stored_in rules m i = or_first rules.first (slice_get m.boards i)

abbrev pub stored_at : {R : Type 0} → Rules R → State R → ℕ → Kept R
stored_at rules s i = stored_in rules s.store i

pub length-updated : {A : Type 0} (f : A → A) (xs : List A) (i : ℕ) → length (updated f xs i) ≡ length xs
length-updated f [] i = refl
length-updated f (x ∷ xs) zero = refl
length-updated f (x ∷ xs) (suc i) = ap suc (length-updated f xs i)

updated_here : {A : Type 0} (f : A → A) (xs : List A) (p : ℕ) (x : A) → slice_get xs p ≡ Some x →
    slice_get (updated f xs p) p ≡ Some (f x)
updated_here f [] p x e = let z : ◌≡◌ {A = ℕ} 0 1 = cc in absurd (omega arith)
updated_here f (y ∷ xs) zero x e = let u : y ≡ x = cc in ap (λ v. Some (f v)) u
updated_here f (y ∷ xs) (suc p) x e = updated_here f xs p x e

updated_other : {A : Type 0} (f : A → A) (xs : List A) (p i : ℕ) → (i ≡ p → ⊥) → slice_get (updated f xs p) i ≡ slice_get xs i
updated_other f [] p i ne = refl
updated_other f (y ∷ xs) zero zero ne = absurd (ne refl)
updated_other f (y ∷ xs) zero (suc i) ne = refl
updated_other f (y ∷ xs) (suc p) zero ne = refl
updated_other f (y ∷ xs) (suc p) (suc i) ne = updated_other f xs p i (λ e. ne (ap suc e))

pub nth_in : {A : Type 0} (xs : List A) (p : ℕ) → p < length xs → (x : A) × (slice_get xs p ≡ Some x)
nth_in [] p h = absurd (omega arith)
nth_in (x ∷ xs) zero h = (x, refl)
nth_in (x ∷ xs) (suc p) h = nth_in xs p (omega arith)

-- the table of a list that is updated at p
stored_updated :
    {R : Type 0} (first : R) (f : Kept R → Kept R) (xs : List (Kept R)) (p : ℕ) → p < length xs → (i : ℕ) →
    or_first first (slice_get (updated f xs p) i)
    ≡ changed (λ j. or_first first (slice_get xs j)) p (f (or_first first (slice_get xs p))) i
stored_updated first f xs p h i = elim (eqb_tells i p) [
  | inl e ↦ (let k = nth_in xs p h in
      rw e.0 (ap (λ j. or_first first (slice_get (updated f xs p) j)) e.1
      ∙ ap (or_first first) (updated_here f xs p k.0 k.1) ∙ ap (λ o. f (or_first first o)) (sym k.1)))
  | inr e ↦ rw e.0 (ap (or_first first) (updated_other f xs p i e.1))
]

module _ {R : Type 0} (rules : Rules R) (m : Meaning R) (p : ℕ) (near : p < length m.boards) where
  -- a board with none pending is given one if there is a spare
  pub put_taken : (stored_in rules m p).pending ≡ None → 0 < m.spare → put_answer m p ≡ Ok tt
  put_taken e o =
      let k = nth_in m.boards p near in
      let d : k.0.pending ≡ None = subst (λ x. (or_first rules.first x).pending ≡ None) k.1 e in
      ap (put_at m.spare) k.1 ∙ ap (put_under m.spare) d ∙ rw (ne_eqb m.spare 0 (λ z. omega arith)) refl

  -- a pending record is kept, or dropped
  pub keep_taken : (r : R) → (stored_in rules m p).pending ≡ Some r → keep_answer m p ≡ Ok tt
  keep_taken r e =
      let k = nth_in m.boards p near in
      let d : k.0.pending ≡ Some r = subst (λ x. (or_first rules.first x).pending ≡ Some r) k.1 e in
      ap keep_at k.1 ∙ ap keep_under d

  pub stored_put : (wear : ℕ) (r : R) → put_answer m p ≡ Ok tt → (i : ℕ) →
      stored_in rules (put_after wear m p r) i ≡ changed (stored_in rules m) p (putting r (stored_in rules m p)) i
  stored_put wear r ok i = rw ok (stored_updated rules.first (putting r) m.boards p near i)

  pub stored_keep : keep_answer m p ≡ Ok tt → (i : ℕ) →
      stored_in rules (keep_after m p) i ≡ changed (stored_in rules m) p (keeping (stored_in rules m p)) i
  stored_keep ok i = rw ok (stored_updated rules.first keeping m.boards p near i)

  pub stored_discard : keep_answer m p ≡ Ok tt → (i : ℕ) →
      stored_in rules (discard_after m p) i ≡ changed (stored_in rules m) p (discarding (stored_in rules m p)) i
  stored_discard ok i = rw ok (stored_updated rules.first discarding m.boards p near i)

  pub stored_standing : standing_of m p ≡ Ok (stored_in rules m p).standing
  stored_standing =
      let k = nth_in m.boards p near in
      ap standing_at k.1 ∙ ap (λ x. Ok (or_first rules.first x).standing) (sym k.1)

size_if : {R : Type 0} (b : Bool) (n : ℕ) (m k : Meaning R) → length m.boards ≡ n → length k.boards ≡ n →
    length (cond b m k).boards ≡ n
size_if true n m k e d = e
size_if false n m k e d = d

pub size_put : {R : Type 0} (wear : ℕ) (m : Meaning R) (p : ℕ) (r : R) →
    length (put_after wear m p r).boards ≡ length m.boards
size_put wear m p r = size_if (is_ok (put_answer m p)) _
    (record { boards = updated (putting r) m.boards p; spare = m.spare - wear }) m
    (length-updated (putting r) m.boards p) refl

pub size_keep : {R : Type 0} (m : Meaning R) (p : ℕ) → length (keep_after m p).boards ≡ length m.boards
size_keep m p = size_if (is_ok (keep_answer m p)) _
    (record { boards = updated keeping m.boards p; spare = m.spare }) m
    (length-updated keeping m.boards p) refl

pub size_discard : {R : Type 0} (m : Meaning R) (p : ℕ) → length (discard_after m p).boards ≡ length m.boards
size_discard m p = size_if (is_ok (keep_answer m p)) _
    (record { boards = updated discarding m.boards p; spare = m.spare }) m
    (length-updated discarding m.boards p) refl

-- drawing a board in, and carrying out a decision, on the table
abbrev pub drawn_stored : {R : Type 0} → Round → (ℕ → Kept R) → ℕ → R → ℕ → Kept R
drawn_stored Save sd p r = changed sd p (putting r (sd p))
drawn_stored Back sd p r = sd

pub drawn_other : {R : Type 0} (r : Round) (sd : ℕ → Kept R) (p i : ℕ) (x : R) → eqb i p ≡ false →
    drawn_stored r sd p x i ≡ sd i
drawn_other Save sd p i x e = rw e
drawn_other Back sd p i x e = refl

abbrev pub carried_stored : {R : Type 0} → Round → Bool → (ℕ → Kept R) → ℕ → ℕ → Kept R
carried_stored Save true sd p = changed sd p (keeping (sd p))
carried_stored Save false sd p = changed sd p (discarding (sd p))
carried_stored Back v sd p = sd

module _ {R : Type 0} (rules : Rules R) (m : Meaning R) (p : ℕ) (near : p < length m.boards) where
  pub stored_drawn : (r : Round) (wear : ℕ) (x : R) → (r ≡ Save → put_answer m p ≡ Ok tt) → (i : ℕ) →
      stored_in rules (drawn_store wear r m p x) i ≡ drawn_stored r (stored_in rules m) p x i
  stored_drawn Save wear x ok i = stored_put rules m p near wear x (ok refl) i
  stored_drawn Back wear x ok i = refl

  pub stored_carried : (r : Round) (v : Bool) → (r ≡ Save → keep_answer m p ≡ Ok tt) → (i : ℕ) →
      stored_in rules (carried_store r v m p) i ≡ carried_stored r v (stored_in rules m) p i
  stored_carried Save true ok i = stored_keep rules m p near (ok refl) i
  stored_carried Save false ok i = stored_discard rules m p near (ok refl) i
  stored_carried Back v ok i = refl

pub size_drawn : {R : Type 0} (r : Round) (wear : ℕ) (m : Meaning R) (p : ℕ) (x : R) →
    length (drawn_store wear r m p x).boards ≡ length m.boards
size_drawn Save wear m p x = size_put wear m p x
size_drawn Back wear m p x = refl

pub size_carried : {R : Type 0} (r : Round) (v : Bool) (m : Meaning R) (p : ℕ) →
    length (carried_store r v m p).boards ≡ length m.boards
size_carried Save true m p = size_keep m p
size_carried Save false m p = size_discard m p
size_carried Back v m p = refl
