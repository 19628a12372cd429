-- Labels in stories, as proofs take them: here a story has its latest event first.
use Rattle.std.proofs.Common.{◌≡◌, ℕ, zero, suc, ◌<◌, ◌≤◌, max, cond, eqb, ◌⊎◌, [], ◌∷◌, ◌++◌, sym, refl, ap, ◌∙◌, subst, inl, inr, arith}
use Rattle.std.proofs.lemmas.Bool.{eq-eqb}
use Rattle.std.proofs.lemmas.Bool.Decides.{eqb_tells}
use Rattle.std.proofs.Math.Nat.{eq-zero-or-pos}
use Rattle.records.specs.Rules.{Rules, stepped}
use Rattle.records.specs.Stories.{Story, Told}
use Rattle.records.specs.declared.event.Event.{Event}
use Rattle.records.specs.declared.event.Event.TheVariants.{Heard, Sent, Worked}

-- the record that the rules make of a story, the latest event first
abbrev pub made : {R : Type 0} → Rules R → Story → R
made rules [] = rules.first
made rules (e ∷ s) = stepped rules (made rules s) e

-- the label under which an event was sent to q, or heard from p; 0 where it was not
abbrev pub sent_to : ℕ → Event → ℕ
sent_to q (Worked w) = 0
sent_to q (Sent t l w) = cond (eqb t q) l 0
sent_to q (Heard t l w) = 0

abbrev pub heard_from : ℕ → Event → ℕ
heard_from p (Worked w) = 0
heard_from p (Sent t l w) = 0
heard_from p (Heard t l w) = cond (eqb t p) l 0

-- a label stands in a story
abbrev pub In : (Event → ℕ) → ℕ → Story → Type 0
In f l [] = ⊥
In f l (e ∷ s) = (f e ≡ l) ⊎ In f l s

-- no orphan, and an orphan, by labels
abbrev pub NoLabelOrphan : ℕ → (ℕ → Story) → Type 0
NoLabelOrphan n st = (q p l : ℕ) → q < n → p < n → 0 < l → In (heard_from p) l (st q) → In (sent_to q) l (st p)

pub record LabelOrphan (n : ℕ) (st : ℕ → Story) : Type 0 where
  pub receiver : ℕ
  pub sender : ℕ
  pub label : ℕ
  pub receiver_in : receiver < n
  pub sender_in : sender < n
  pub label_pos : 0 < label
  pub is_heard : In (heard_from sender) label (st receiver)
  pub not_sent : In (sent_to receiver) label (st sender) → ⊥

-- the first of two labels that is not 0
abbrev pub pick : ℕ → ℕ → ℕ
pick zero y = y
pick (suc x) y = suc x

-- the last and the first label that f shows in a story
abbrev pub last : (Event → ℕ) → Story → ℕ
last f [] = 0
last f (e ∷ s) = pick (f e) (last f s)

abbrev pub first : (Event → ℕ) → Story → ℕ
first f [] = 0
first f (e ∷ s) = pick (first f s) (f e)

pub pick_assoc : (a b c : ℕ) → pick (pick a b) c ≡ pick a (pick b c)
pick_assoc zero b c = refl
pick_assoc (suc a) b c = refl

pub pick_or : (a b : ℕ) → ((a ≡ 0) × (pick a b ≡ b)) ⊎ ((0 < a) × (pick a b ≡ a))
pick_or zero b = inl (refl, refl)
pick_or (suc a) b = inr (omega arith, refl)

pub pick_zero : (a : ℕ) → pick a 0 ≡ a
pick_zero zero = refl
pick_zero (suc a) = refl

-- the labels that f shows rise
abbrev pub Rising : (Event → ℕ) → Story → Type 0
Rising f [] = Unit {0}
Rising f (e ∷ s) = ((f e ≡ 0) ⊎ (last f s < f e)) × Rising f s

module _ (f : Event → ℕ) where
  pub last_append : (s t : Story) → last f (s ++ t) ≡ pick (last f s) (last f t)
  last_append [] t = refl
  last_append (e ∷ s) t = ap (pick (f e)) (last_append s t) ∙ sym (pick_assoc (f e) (last f s) (last f t))

  pub first-append : (s t : Story) → first f (s ++ t) ≡ pick (first f t) (first f s)
  first-append [] t = sym (pick_zero (first f t))
  first-append (e ∷ s) t = ap (λ x. pick x (f e)) (first-append s t) ∙ pick_assoc (first f t) (first f s) (f e)

  pub in_split : (l : ℕ) (s t : Story) → In f l (s ++ t) → In f l s ⊎ In f l t
  in_split l [] t h = inr h
  in_split l (e ∷ s) t (inl h) = inl (inl h)
  in_split l (e ∷ s) t (inr h) = elim (in_split l s t h) [ inl a ↦ inl (inr a) | inr b ↦ inr b ]

  pub in_left : (l : ℕ) (s t : Story) → In f l s → In f l (s ++ t)
  in_left l [] t h = elim h [ ]
  in_left l (e ∷ s) t (inl h) = inl h
  in_left l (e ∷ s) t (inr h) = inr (in_left l s t h)

  pub in_right : (l : ℕ) (s t : Story) → In f l t → In f l (s ++ t)
  in_right l [] t h = h
  in_right l (e ∷ s) t h = inr (in_right l s t h)

  pub last_in : (s : Story) → 0 < last f s → In f (last f s) s
  last_in [] h = omega arith
  last_in (e ∷ s) h = elim (pick_or (f e) (last f s)) [
    | inl a ↦ inr (subst (λ x. In f x s) (sym a.1) (last_in s (subst (λ x. 0 < x) a.1 h)))
    | inr b ↦ inl (sym b.1)
  ]

  pub in_le_last : (l : ℕ) (s : Story) → Rising f s → 0 < l → In f l s → l ≤ last f s
  in_le_last l [] r p h = elim h [ ]
  in_le_last l (e ∷ s) r p (inl h) = grind (arith, pick_or (f e) (last f s))
  in_le_last l (e ∷ s) r p (inr h) = let ih = in_le_last l s r.1 p h in grind (arith, pick_or (f e) (last f s))

  pub first_in : (s : Story) → 0 < first f s → In f (first f s) s
  first_in [] h = omega arith
  first_in (e ∷ s) h = elim (pick_or (first f s) (f e)) [
    | inl a ↦ inl (sym a.1)
    | inr b ↦ inr (subst (λ x. In f x s) (sym b.1) (first_in s b.0))
  ]

  pub first_le_last : (s : Story) → Rising f s → first f s ≤ last f s
  first_le_last s r = elim (eq-zero-or-pos (first f s)) [
    | inl a ↦ omega arith
    | inr b ↦ in_le_last (first f s) s r b (first_in s b)
  ]

  pub first_le_in : (l : ℕ) (s : Story) → Rising f s → 0 < l → In f l s → (0 < first f s) × (first f s ≤ l)
  first_le_in l [] r p h = elim h [ ]
  first_le_in l (e ∷ s) r p (inl h) = let b = first_le_last s r.1 in grind (arith, pick_or (first f s) (f e))
  first_le_in l (e ∷ s) r p (inr h) = let ih = first_le_in l s r.1 p h in grind (arith, pick_or (first f s) (f e))

  pub rising_left : (s t : Story) → Rising f (s ++ t) → Rising f s
  rising_left [] t r = tt
  rising_left (e ∷ s) t r = (
    elim r.0 [
      | inl a ↦ inl a
      | inr b ↦ inr (grind (arith, last_append s t, pick_or (last f s) (last f t)))
    ],
    rising_left s t r.1,
  )

  pub rising_right : (s t : Story) → Rising f (s ++ t) → Rising f t
  rising_right [] t r = r
  rising_right (e ∷ s) t r = rising_right s t r.1

  -- what stands in the later part is above all that stands in the earlier one
  pub rising_cross : (l k : ℕ) (s t : Story) → Rising f (s ++ t) → 0 < l → 0 < k → In f l s → In f k t → k < l
  rising_cross l k [] t r p o h i = elim h [ ]
  rising_cross l k (e ∷ s) t r p o (inl h) i = let b = in_le_last k (s ++ t) r.1 o (in_right k s t i) in
      omega arith
  rising_cross l k (e ∷ s) t r p o (inr h) i = rising_cross l k s t r.1 p o h i

  pub last_max : (s t : Story) → Rising f (s ++ t) → last f (s ++ t) ≡ max (last f s) (last f t)
  last_max s t r = elim (eq-zero-or-pos (last f s)) [
    | inl a ↦ grind (arith, last_append s t)
    | inr p ↦ elim (eq-zero-or-pos (last f t)) [
      | inl c ↦ grind (arith, last_append s t, pick_or (last f s) (last f t))
      | inr o ↦ let x = rising_cross (last f s) (last f t) s t r p o (last_in s p) (last_in t o) in
          grind (arith, last_append s t, pick_or (last f s) (last f t))
    ]
  ]

  pub first_zero : (s : Story) → last f s ≡ 0 → first f s ≡ 0
  first_zero [] h = refl
  first_zero (e ∷ s) h = elim (pick_or (f e) (last f s))
      [ inl a ↦ let ih = first_zero s (grind arith) in grind arith | inr b ↦ grind arith ]

-- every label heard is above 0
abbrev pub Positive : Story → Type 0
Positive [] = Unit {0}
Positive (Worked w ∷ s) = Positive s
Positive (Sent q l w ∷ s) = Positive s
Positive (Heard p l w ∷ s) = (0 < l) × Positive s

pub positive_right : (s t : Story) → Positive (s ++ t) → Positive t
positive_right [] t h = h
positive_right (Worked w ∷ s) t h = positive_right s t h
positive_right (Sent q l w ∷ s) t h = positive_right s t h
positive_right (Heard p l w ∷ s) t h = positive_right s t h.1

heard_at : (p l w : ℕ) → heard_from p (Heard p l w) ≡ l
heard_at p l w = rw (eq-eqb p p refl)

sent_at : (q l v : ℕ) → sent_to q (Sent q l v) ≡ l
sent_at q l v = rw (eq-eqb q q refl)

pub told_heard : (p l w : ℕ) (s : Story) → Told (Heard p l w) s → In (heard_from p) l s
told_heard p l w [] h = elim h [ ]
told_heard p l w (e ∷ s) (inl h) = inl (ap (heard_from p) h ∙ heard_at p l w)
told_heard p l w (e ∷ s) (inr h) = inr (told_heard p l w s h)

pub told_sent : (q l v : ℕ) (s : Story) → Told (Sent q l v) s → In (sent_to q) l s
told_sent q l v [] h = elim h [ ]
told_sent q l v (e ∷ s) (inl h) = inl (ap (sent_to q) h ∙ sent_at q l v)
told_sent q l v (e ∷ s) (inr h) = inr (told_sent q l v s h)

sent_is_it : (q l : ℕ) (e : Event) → 0 < l → sent_to q e ≡ l → (v : ℕ) × (e ≡ Sent q l v)
sent_is_it q l (Worked w) o h = absurd (omega arith)
sent_is_it q l (Heard t k w) o h = absurd (omega arith)
sent_is_it q l (Sent t k w) o h = elim (eqb_tells t q) [
  | inl i ↦ (w, (let z : k ≡ l = rw i.0 at h in let y = i.1 in cc))
  | inr i ↦ absurd (let z : 0 ≡ l = rw i.0 at h in omega arith)
]

heard_is_it : (p l : ℕ) (e : Event) → 0 < l → heard_from p e ≡ l → (v : ℕ) × (e ≡ Heard p l v)
heard_is_it q l (Worked w) o h = absurd (omega arith)
heard_is_it q l (Sent t k w) o h = absurd (omega arith)
heard_is_it q l (Heard t k w) o h = elim (eqb_tells t q) [
  | inl i ↦ (w, (let z : k ≡ l = rw i.0 at h in let y = i.1 in cc))
  | inr i ↦ absurd (let z : 0 ≡ l = rw i.0 at h in omega arith)
]

pub sent_told : (q l : ℕ) (s : Story) → 0 < l → In (sent_to q) l s → (v : ℕ) × Told (Sent q l v) s
sent_told q l [] o h = elim h [ ]
sent_told q l (e ∷ s) o (inl h) = let k = sent_is_it q l e o h in (k.0, inl k.1)
sent_told q l (e ∷ s) o (inr h) = let k = sent_told q l s o h in (k.0, inr k.1)

pub heard_told : (p l : ℕ) (s : Story) → 0 < l → In (heard_from p) l s → (v : ℕ) × Told (Heard p l v) s
heard_told q l [] o h = elim h [ ]
heard_told q l (e ∷ s) o (inl h) = let k = heard_is_it q l e o h in (k.0, inl k.1)
heard_told q l (e ∷ s) o (inr h) = let k = heard_told q l s o h in (k.0, inr k.1)

pub told_positive : (p l w : ℕ) (s : Story) → Positive s → Told (Heard p l w) s → 0 < l
told_positive p l w [] g h = elim h [ ]
told_positive p l w (Worked x ∷ s) g (inl h) = let z : ◌≡◌ {A = ℕ} 0 1 = cc in omega arith
told_positive p l w (Worked x ∷ s) g (inr h) = told_positive p l w s g h
told_positive p l w (Sent q k x ∷ s) g (inl h) = let z : ◌≡◌ {A = ℕ} 0 1 = cc in omega arith
told_positive p l w (Sent q k x ∷ s) g (inr h) = told_positive p l w s g h
told_positive p l w (Heard q k x ∷ s) g (inl h) = let z : k ≡ l = cc in let y = g.0 in omega arith
told_positive p l w (Heard q k x ∷ s) g (inr h) = told_positive p l w s g.1 h
