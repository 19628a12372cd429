-- Marks that are all changed alike, or at one board. Assumes nothing.
use Rattle.std.proofs.Common.{◌≡◌, ℕ, ◌<◌, List, length, replicate, Bool, true, false, cond, eqb, ltb, sym, refl, ap, ◌∙◌, inl, inr, arith}
use Rattle.std.proofs.Math.ListN.{set}
use Rattle.std.proofs.lemmas.Bool.{cases_lt, ltb-true}
use Rattle.std.proofs.lemmas.Grind.{get_or-set_at}
use Rattle.std.proofs.lemmas.List.{get_or-replicate, get_or-set_other, get_or_past, length-replicate}
use Rattle.std.proofs.lemmas.Bool.Decides.{eqb_tells}
use Rattle.protocol.specs.Marks.{mark_heard, mark_sent}
use Rattle.protocol.specs.Rows.{Marks, new_marks}
use Rattle.rows.specs.declared.mark.Mark.{Mark}
use Rattle.rows.specs.Notes.{said, told}
use Rattle.rows.specs.Marked.{mark_at, marks_by, no_mark}

-- marks of which f was made
abbrev pub marks_through : (Mark → Mark) → List Mark → Marks
marks_through f ms = record {
  heard = λ q. (f (mark_at ms q)).heard;
  first = λ q. (f (mark_at ms q)).first;
  sent = λ q. (f (mark_at ms q)).sent;
  saved = λ q. (f (mark_at ms q)).saved;
  heard_aside = λ q. (f (mark_at ms q)).heard_aside;
  first_aside = λ q. (f (mark_at ms q)).first_aside;
}

pub all_changed : (f : Mark → Mark) (xs ys : List Mark) (n : ℕ) → f no_mark ≡ no_mark → length xs ≡ n → length ys ≡ n
    → ((i : ℕ) → i < n → mark_at ys i ≡ f (mark_at xs i)) → marks_by ys ≡ marks_through f xs
all_changed f xs ys n z a b e = λ i. record {
  heard = λ q. (each q i).heard;
  first = λ q. (each q i).first;
  sent = λ q. (each q i).sent;
  saved = λ q. (each q i).saved;
  heard_aside = λ q. (each q i).heard_aside;
  first_aside = λ q. (each q i).first_aside;
} where
  each : (q : ℕ) → mark_at ys q ≡ f (mark_at xs q)
  each q = elim (cases_lt q n) [
    | inl l ↦ e q l
    | inr l ↦ get_or_past ys q no_mark (omega arith) ∙ sym z ∙ ap f (sym (get_or_past xs q no_mark (omega arith)))
  ]

-- a new board's marks
pub fresh : (n : ℕ) → marks_by (replicate n no_mark) ≡ new_marks
fresh n = λ i. record {
  heard = λ q. (none q i).heard;
  first = λ q. (none q i).first;
  sent = λ q. (none q i).sent;
  saved = λ q. (none q i).saved;
  heard_aside = λ q. (none q i).heard_aside;
  first_aside = λ q. (none q i).first_aside;
} where
  none : (q : ℕ) → mark_at (replicate n no_mark) q ≡ no_mark
  none q = elim (cases_lt q n) [
    | inl l ↦ get_or-replicate n q no_mark no_mark l
    | inr l ↦ get_or_past (replicate n no_mark) q no_mark (omega (arith, length-replicate n no_mark))
  ]

module _ (xs : List Mark) (p label : ℕ) (l : p < length xs) where
  -- a field, where what is noted of one board is changed by f
  field : (f : Mark → Mark) (g : Mark → ℕ) (q : ℕ)
      → g (mark_at (set xs p (f (mark_at xs p))) q) ≡ cond (eqb q p) (g (f (mark_at xs p))) (g (mark_at xs q))
  field f g q = elim (eqb_tells q p) [
    | inl e ↦ (let s = e.1 in rw e.0 (ap g (get_or-set_at xs p q (f (mark_at xs p)) no_mark s l)))
    | inr e ↦ rw e.0 (ap g (get_or-set_other xs p q (f (mark_at xs p)) no_mark e.1))
  ]

  -- a field that f leaves
  left : (f : Mark → Mark) (g : Mark → ℕ) (q : ℕ) → g (f (mark_at xs p)) ≡ g (mark_at xs p)
      → g (mark_at (set xs p (f (mark_at xs p))) q) ≡ g (mark_at xs q)
  left f g q k = elim (eqb_tells q p) [
    | inl e ↦ (let s = e.1 in ap g (get_or-set_at xs p q (f (mark_at xs p)) no_mark s l) ∙ k ∙ ap (λ i. g (mark_at xs i)) (sym s))
    | inr e ↦ ap g (get_or-set_other xs p q (f (mark_at xs p)) no_mark e.1)
  ]

  pub one_said : marks_by (set xs p (said label (mark_at xs p))) ≡ mark_sent (marks_by xs) p label
  one_said = λ i. record {
    heard = λ q. left (said label) (λ m. m.heard) q refl i;
    first = λ q. field (said label) (λ m. m.first) q i;
    sent = λ q. field (said label) (λ m. m.sent) q i;
    saved = λ q. left (said label) (λ m. m.saved) q refl i;
    heard_aside = λ q. left (said label) (λ m. m.heard_aside) q refl i;
    first_aside = λ q. left (said label) (λ m. m.first_aside) q refl i;
  }

  pub one_told : marks_by (set xs p (told label (mark_at xs p))) ≡ mark_heard (marks_by xs) p label
  one_told = λ i. record {
    heard = λ q. field (told label) (λ m. m.heard) q i;
    first = λ q. left (told label) (λ m. m.first) q refl i;
    sent = λ q. left (told label) (λ m. m.sent) q refl i;
    saved = λ q. left (told label) (λ m. m.saved) q refl i;
    heard_aside = λ q. left (told label) (λ m. m.heard_aside) q refl i;
    first_aside = λ q. left (told label) (λ m. m.first_aside) q refl i;
  }

-- what a word notes, where the board may be one of a loom's
noted : (f : Mark → Mark) (m : Marks → Marks) (xs ys : List Mark) (p n : ℕ) (b : Bool) → b ≡ ltb p n → length xs ≡ n
    → (p < length xs → marks_by (set xs p (f (mark_at xs p))) ≡ m (marks_by xs)) → ys ≡ cond b (set xs p (f (mark_at xs p))) xs
    → marks_by ys ≡ cond b (m (marks_by xs)) (marks_by xs)
noted f m xs ys p n true t long one e = ap marks_by e ∙ one (let l = ltb-true p n (sym t) in omega arith)
noted f m xs ys p n false t long one e = ap marks_by e

pub noted_said : (xs ys : List Mark) (p label n : ℕ) (b : Bool) → b ≡ ltb p n → length xs ≡ n
    → ys ≡ cond b (set xs p (said label (mark_at xs p))) xs → marks_by ys ≡ cond b (mark_sent (marks_by xs) p label) (marks_by xs)
noted_said xs ys p label n b t long e = noted (said label) (λ ms. mark_sent ms p label) xs ys p n b t long (one_said xs p label) e

pub noted_told : (xs ys : List Mark) (p label n : ℕ) (b : Bool) → b ≡ ltb p n → length xs ≡ n
    → ys ≡ cond b (set xs p (told label (mark_at xs p))) xs → marks_by ys ≡ cond b (mark_heard (marks_by xs) p label) (marks_by xs)
noted_told xs ys p label n b t long e = noted (told label) (λ ms. mark_heard ms p label) xs ys p n b t long (one_told xs p label) e
