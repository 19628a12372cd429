-- When the starter awaits nobody, every member has answered; and if its answer is yes, all said yes.
use Rattle.std.proofs.Common.{◌≡◌, ℕ, ◌<◌, Bool, true, false, eqb, ◌⊎◌, List, [], ◌∷◌, sym, refl, ap, ◌∙◌, subst, inl, inr, arith}
use Rattle.std.proofs.lemmas.Bool.{cases_Bool, eq-eqb, eqb-true, false≢true, or_cases, or_left, or_right, true≢false}
use Rattle.std.proofs.lemmas.Bool.Decides.{eqb_tells, nat_tests}
use Rattle.protocol.specs.Histories.{Asking, Settled, Stage, member}
use Rattle.protocol.specs.Rows.{Answered, Free, Gathering, Phase, Role, Round, gathering, held}
use Rattle.protocol.proofs.Invariant.{Chain, FitsPhase, Frame, bit, child}

pub bit_true : (b : Bool) → 0 < bit b → b ≡ true
bit_true true h = refl
bit_true false h = absurd (omega arith)

pub asking : (g : Stage) (r : Round) → FitsPhase g (Gathering r) → (s : ℕ) × (g ≡ Asking r s)
asking (Asking k s) r (inl e) = let z : ◌≡◌ {A = ℕ} 0 1 = cc in absurd (omega arith)
asking (Asking k s) r (inr (inl e)) = (s, (let z : k ≡ r = cc in ap (λ x. Asking x s) z))
asking (Asking k s) r (inr (inr e)) = let z : ◌≡◌ {A = ℕ} 0 1 = cc in absurd (omega arith)
asking (Settled k v) r (inl e) = let z : ◌≡◌ {A = ℕ} 0 1 = cc in absurd (omega arith)
asking (Settled k v) r (inr e) = let z : ◌≡◌ {A = ℕ} 0 1 = cc in absurd (omega arith)

-- a held board that does not gather has answered
pub has_answered_lem : (r : Round) (s : ℕ) (f : Phase) → FitsPhase (Asking r s) f → held f ≡ true → gathering f ≡ false →
    f ≡ Answered r
has_answered_lem r s f (inl e) h g = absurd (true≢false (sym h ∙ ap held e))
has_answered_lem r s f (inr (inl e)) h g = absurd (true≢false (sym (ap gathering e) ∙ g))
has_answered_lem r s f (inr (inr e)) h g = e

pub gathers_held : (f : Phase) → gathering f ≡ true → held f ≡ true
gathers_held Free h = absurd (false≢true h)
gathers_held (Gathering r) h = refl
gathers_held (Answered r) h = refl

-- the starter is the only board that is its own asker
pub no_other_starter : (t : ℕ → Role) (s p : ℕ) (xs : List ℕ) → Chain t s xs → member p xs ≡ true → (t p).asker ≡ p → ⊥
no_other_starter t s p [] c h e = false≢true h
no_other_starter t s p (y ∷ xs) c h e = elim (or_cases (eqb p y) (member p xs) h) [
  | inl k ↦ (let z = eqb-true p y k in elim c.1 [
    | inl i ↦ c.0 (sym z ∙ sym e ∙ ap (λ x. (t x).asker) z ∙ i)
    | inr i ↦ no_other_starter t s p xs c.2 (subst (λ x. member x xs ≡ true) (sym (ap (λ x. (t x).asker) z) ∙ e) i)
        e
  ])
  | inr k ↦ no_other_starter t s p xs c.2 k e
]

module _ {n : ℕ} {r : Round} {s : ℕ} {t : ℕ → Role} {ak yea nay dec : ℕ → ℕ → ℕ} {j : List ℕ}
    (f : Frame n (Asking r s) t ak yea nay dec j) (idle : (b : ℕ) → (t s).awaited b ≡ false) where
  -- a board that gathers is awaited by its asker
  pub child_awaited : (y k : ℕ) → gathering (t y).phase ≡ true → (t y).asker ≡ k → (k ≡ y → ⊥) → (t k).awaited y ≡ true
  child_awaited y k g e ne =
      let c : child (t y) k y ≡ 1 = grind (arith, nat_tests) in
      let q = f.tokens k y in bit_true ((t k).awaited y) (omega arith)

  pub quiet : (xs : List ℕ) → Chain t s xs → (x : ℕ) → member x xs ≡ true → gathering (t x).phase ≡ false
  quiet [] c x h = absurd (false≢true h)
  quiet (y ∷ xs) c x h = elim (or_cases (eqb x y) (member x xs) h) [
    | inl e ↦ elim (cases_Bool (gathering (t x).phase)) [
      | inl g ↦ (let z = eqb-true x y e in
          let g' : gathering (t y).phase ≡ true = subst (λ u. gathering (t u).phase ≡ true) z g in elim c.1 [
            | inl i ↦ absurd (true≢false (sym (child_awaited y s g' i (λ q. c.0 (sym q))) ∙ idle y))
            | inr i ↦ (let ih = quiet xs c.2 (t y).asker i in elim (eqb_tells (t y).asker y) [
              | inl q ↦ absurd (true≢false (sym g' ∙ subst (λ u. gathering (t u).phase ≡ false) q.1 ih))
              | inr q ↦ absurd (true≢false
                  (sym (f.awaits (t y).asker y (child_awaited y (t y).asker g' refl q.1)) ∙ ih))
            ])
          ])
      | inr g ↦ g
    ]
    | inr e ↦ quiet xs c.2 x e
  ]

  pub nobody_awaits : (a b : ℕ) → (t a).awaited b ≡ false
  nobody_awaits a b = elim (cases_Bool ((t a).awaited b)) [
    | inl h ↦ (let g = f.awaits a b h in
        elim (or_cases (eqb a s) (member a j) (sym (f.tree.members a) ∙ gathers_held _ g)) [
          | inl e ↦ subst (λ u. (t u).awaited b ≡ false) (sym (eqb-true a s e)) (idle b)
          | inr e ↦ absurd (true≢false (sym g ∙ quiet j f.tree.chain a e))
        ])
    | inr h ↦ h
  ]

  pub none_left : (a b : ℕ) → (ak a b ≡ 0) × (yea b a ≡ 0) × (nay b a ≡ 0) × (child (t b) a b ≡ 0)
  none_left a b = let q = f.tokens a b in let z : bit ((t a).awaited b) ≡ 0 = ap bit (nobody_awaits a b) in
      omega arith

  pub answered : (x : ℕ) → member x j ≡ true → (t x).phase ≡ Answered r
  answered x h = has_answered_lem r s _ (f.fits x) (f.tree.members x ∙ or_right (eqb x s) _ h)
      (quiet j f.tree.chain x h)

  yes_below : (t s).answer ≡ true → (xs : List ℕ) → Chain t s xs → ((x : ℕ) → member x xs ≡ true → member x j ≡ true) →
      (x : ℕ) → member x xs ≡ true → (t x).answer ≡ true
  yes_below v [] c u x h = absurd (false≢true h)
  yes_below v (y ∷ xs) c u x h = elim (or_cases (eqb x y) (member x xs) h) [
    | inl e ↦ elim (cases_Bool (t x).answer) [
      | inl g ↦ g
      | inr g ↦ (let z = eqb-true x y e in elim (f.tree.noes x (answered x (u x h)) g) [
        | inl i ↦ absurd (let q = none_left (t x).asker x in omega arith)
        | inr i ↦ elim c.1 [
          | inl k ↦ absurd (true≢false (sym v ∙ subst (λ w. (t w).answer ≡ false) (ap (λ w. (t w).asker) z ∙ k) i))
          | inr k ↦ absurd (true≢false
              (sym (yes_below v xs c.2 (λ w m. u w (or_right (eqb w y) _ m)) (t y).asker k)
              ∙ subst (λ w. (t (t w).asker).answer ≡ false) z i))
        ]
      ])
    ]
    | inr e ↦ yes_below v xs c.2 (λ w m. u w (or_right (eqb w y) _ m)) x e
  ]

  pub all_yes : (t s).answer ≡ true → (x : ℕ) → held (t x).phase ≡ true → (t x).answer ≡ true
  all_yes v x h = elim (or_cases (eqb x s) (member x j) (sym (f.tree.members x) ∙ h)) [
    | inl e ↦ subst (λ u. (t u).answer ≡ true) (sym (eqb-true x s e)) v
    | inr e ↦ yes_below v j f.tree.chain (λ w m. m) x e
  ]

-- of members left out, one was drawn in by a member that stays
pub earliest_out : (t : ℕ → Role) (s : ℕ) (out : ℕ → Bool) → out s ≡ false → (xs : List ℕ) → Chain t s xs → (z : ℕ) →
    member z xs ≡ true → out z ≡ true →
    (x : ℕ) × (member x xs ≡ true) × (out x ≡ true) × (out (t x).asker ≡ false)
    × (((t x).asker ≡ s) ⊎ (member (t x).asker xs ≡ true))
earliest_out t s out o [] c z h k = absurd (false≢true h)
earliest_out t s out o (y ∷ xs) c z h k = elim (or_cases (eqb z y) (member z xs) h) [
  | inl e ↦ (let q = eqb-true z y e in elim (cases_Bool (out (t y).asker)) [
    | inl g ↦ elim c.1 [
      | inl i ↦ absurd (true≢false (sym g ∙ ap out i ∙ o))
      | inr i ↦ (let v = earliest_out t s out o xs c.2 (t y).asker i g in (
        v.0,
        or_right (eqb v.0 y) _ v.1,
        v.2,
        v.3,
        elim v.4 [ inl a ↦ inl a | inr a ↦ inr (or_right (eqb (t v.0).asker y) _ a) ],
      ))
    ]
    | inr g ↦ (
      y,
      or_left (eqb y y) _ (eq-eqb y y refl),
      subst (λ u. out u ≡ true) q k,
      g,
      elim c.1 [ inl i ↦ inl i | inr i ↦ inr (or_right (eqb (t y).asker y) _ i) ],
    )
  ])
  | inr e ↦ (let v = earliest_out t s out o xs c.2 z e k in (
    v.0,
    or_right (eqb v.0 y) _ v.1,
    v.2,
    v.3,
    elim v.4 [ inl a ↦ inl a | inr a ↦ inr (or_right (eqb (t v.0).asker y) _ a) ],
  ))
]
