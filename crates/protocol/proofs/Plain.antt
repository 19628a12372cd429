-- The deeds outside the rounds: work, flags.
use Rattle.std.proofs.Common.{◌≡◌, ℕ, ◌<◌, Bool, true, false, cond, eqb, ◌⊎◌, List, [], ◌∷◌, ◌++◌, sym, refl, ap, ◌∙◌, subst, inl, inr, arith}
use mathlib.Core.Path.{fun_ext}
use Rattle.std.proofs.ByRecursion.{All-weaker}
use Rattle.std.proofs.lemmas.Bool.{eq-eqb, eqb-true, false≢true, or_cases, or_left, or_right}
use Rattle.std.proofs.lemmas.Bool.Decides.{eqb_tells}
use Rattle.std.specs.List.{AllByRecursion}
use Rattle.records.specs.Rules.{Rules}
use Rattle.records.specs.Stories.{Story}
use Rattle.records.specs.declared.event.Event.{Event}
use Rattle.records.specs.declared.event.Event.TheVariants.{Worked}
use Rattle.protocol.specs.Effects.{Flags, State, Works, act}
use Rattle.protocol.specs.Histories.{Asking, History, Settled, Stage, member, present}
use Rattle.protocol.specs.Rows.{Back, Marks, Role, Round, Row, Save, held, with_flags}
use Rattle.protocol.specs.Tables.{changed}
use Rattle.protocol.specs.Wire.{Ask, Decision, Message, Reply, Word, post, tally}
use Rattle.protocol.proofs.Labels.{In, heard_from, last, sent_to}
use Rattle.protocol.proofs.Backwards.{add_own, retell}
use Rattle.protocol.proofs.Segments.{marked_work}
use Rattle.protocol.proofs.Wires.{Flow, replies, tally-append, word_label}
use Rattle.protocol.proofs.Invariant.{BoardAt, Carried, Chain, FitsNote, Frame, Inv, Reasoned, Spared, Tree, Treed}
use Rattle.protocol.proofs.Invariant.{Wanted, asked, labels}

pub eqb_same : (p : ℕ) → eqb p p ≡ true
eqb_same p = elim (eqb_tells p p) [ inl e ↦ e.0 | inr e ↦ absurd (e.1 refl) ]

-- at each place of a table that changed at p
pub pointwise : (P : ℕ → Type 0) (p : ℕ) → P p → ((i : ℕ) → eqb i p ≡ false → P i) → (i : ℕ) → P i
pointwise P p h o i = elim (eqb_tells i p) [ inl e ↦ subst P (sym e.1) h | inr e ↦ o i e.0 ]

pub at_upd : {A : Type 0} (P : ℕ → A → Type 0) (f : ℕ → A) (p : ℕ) (v : A) → P p v →
    ((i : ℕ) → eqb i p ≡ false → P i (f i)) → (i : ℕ) → P i (changed f p v i)
at_upd P f p v h o = pointwise (λ i. P i (changed f p v i)) p (subst (λ t. P p (cond t v (f p))) (sym (eqb_same p)) h)
    (λ i e. subst (λ t. P i (cond t v (f i))) (sym e) (o i e))

-- a story told further
pub told_more : (τ : History) (p : ℕ) (e : Event) (f : Event → ℕ) (l b : ℕ) → In f l (present τ b) →
    In f l (present (add_own τ p e) b)
told_more τ p e f l b h = elim (eqb_tells b p) [
  | inl k ↦ rw k.0 ((elim (τ.due b) as (λ t. In f l (cond t (τ.kept b) (τ.own b)) →
      In f l (cond t (τ.kept b) (e ∷ τ.own p)))
      [ true ↦ λ i. i | false ↦ λ i. inr (subst (λ x. In f l (τ.own x)) k.1 i) ]) h)
  | inr k ↦ rw k.0 h
]

pub told_less : (τ : History) (p : ℕ) (e : Event) (f : Event → ℕ) (l b : ℕ) → f e ≡ 0 → 0 < l →
    In f l (present (add_own τ p e) b) → In f l (present τ b)
told_less τ p e f l b z o h = elim (eqb_tells b p) [
  | inl k ↦ (elim (τ.due b) as (λ t. In f l (cond t (τ.kept b) (e ∷ τ.own p)) →
      In f l (cond t (τ.kept b) (τ.own b))) [
        | true ↦ λ i. i
        | false ↦ λ i. elim i [
          | inl j ↦ absurd (omega arith)
          | inr j ↦ subst (λ x. In f l (τ.own x)) (sym k.1) j
        ]
      ]) (rw k.0 at h)
  | inr k ↦ rw k.0 at h
]

pub told_cases : (τ : History) (p : ℕ) (e : Event) (f : Event → ℕ) (l b : ℕ) → In f l (present (add_own τ p e) b) →
    In f l (present τ b) ⊎ ((b ≡ p) × (f e ≡ l))
told_cases τ p e f l b h = elim (eqb_tells b p) [
  | inl k ↦ (elim (τ.due b) as (λ t. In f l (cond t (τ.kept b) (e ∷ τ.own p)) →
      In f l (cond t (τ.kept b) (τ.own b)) ⊎ ((b ≡ p) × (f e ≡ l))) [
        | true ↦ λ i. inl i
        | false ↦
            λ i. elim i [ inl j ↦ inr (k.1, j) | inr j ↦ inl (subst (λ x. In f l (τ.own x)) (sym k.1) j) ]
      ])
      (rw k.0 at h)
  | inr k ↦ inl (rw k.0 at h)
]

pub carried_more : (st to : ℕ → Story) → ((p q l : ℕ) → In (sent_to q) l (st p) → In (sent_to q) l (to p)) →
    (m : Message) → Carried st m → Carried to m
carried_more st to h (post p q (Word l w)) c = (c.0, h p q l c.1)
carried_more st to h (post p q (Ask r l)) c = tt
carried_more st to h (post p q (Reply y)) c = tt
carried_more st to h (post p q (Decision r v)) c = tt

-- a part of the rows that a change at p leaves
pub same_part : {A : Type 0} (g : Row → A) (rows : ℕ → Row) (p : ℕ) (r : Row) → g r ≡ g (rows p) → (i : ℕ) →
    g (changed rows p r i) ≡ g (rows i)
same_part g rows p r e = pointwise (λ i. g (changed rows p r i) ≡ g (rows i)) p (rw (eqb_same p) e) (λ i k. rw k refl)

pub same_story : {A : Type 0} (g : Story → A) (st : ℕ → Story) (p : ℕ) (x : Story) → g x ≡ g (st p) → (i : ℕ) →
    g (changed st p x i) ≡ g (st i)
same_story g st p x e = pointwise (λ i. g (changed st p x i) ≡ g (st i)) p (rw (eqb_same p) e) (λ i k. rw k refl)

pub fun_ext₂ : {f g : ℕ → ℕ → ℕ} → ((a b : ℕ) → f a b ≡ g a b) → f ≡ g
fun_ext₂ h = fun_ext (λ a. fun_ext (λ b. h a b))

pub frame_like : {n : ℕ} {g : Stage} {t u : ℕ → Role} {a y o d a' y' o' d' : ℕ → ℕ → ℕ} {j : List ℕ} →
    ((i : ℕ) → u i ≡ t i) → ((i k : ℕ) → a' i k ≡ a i k) → ((i k : ℕ) → y' i k ≡ y i k) →
    ((i k : ℕ) → o' i k ≡ o i k) → ((i k : ℕ) → d' i k ≡ d i k) →
    Frame n g t a y o d j → Frame n g u a' y' o' d' j
frame_like {n} {g} {j = j} et ea ey eo ed f =
    rw (fun_ext et, fun_ext₂ ea, fun_ext₂ ey, fun_ext₂ eo, fun_ext₂ ed) f

pub tally_other : (h : Message → ℕ) (m : Message) (w : List Message) → h m ≡ 0 → tally h (w ++ m ∷ []) ≡ tally h w
tally_other h m w z = tally-append h w (m ∷ []) ∙ omega arith

pub notes_like : (g : Stage) (lab to : ℕ → ℕ → ℕ) → ((a b : ℕ) → to a b ≡ lab a b) → (m : Message) →
    FitsNote g lab m → FitsNote g to m
notes_like g lab to e m h = rw (fun_ext₂ e) h

pub labels_like : (g : Stage) (ms to : ℕ → Marks) → ((i b : ℕ) → (to i).heard_aside b ≡ (ms i).heard_aside b) →
    ((i b : ℕ) → (to i).saved b ≡ (ms i).saved b) →
    (a b : ℕ) → labels g to a b ≡ labels g ms a b
labels_like (Asking Save s) ms to e k a b = e a b
labels_like (Asking Back s) ms to e k a b = k a b
labels_like (Settled r v) ms to e k a b = refl

pub chain_asker : (t : ℕ → Role) (s x : ℕ) (xs : List ℕ) → Chain t s xs → member x xs ≡ true →
    ((t x).asker ≡ s) ⊎ (member (t x).asker xs ≡ true)
chain_asker t s x [] c h = absurd (false≢true h)
chain_asker t s x (y ∷ xs) c h = elim (or_cases (eqb x y) (member x xs) h) [
  | inl e ↦ (let z = eqb-true x y e in elim c.1 [
    | inl i ↦ inl (ap (λ k. (t k).asker) z ∙ i)
    | inr i ↦ inr (or_right (eqb (t x).asker y) _ (subst (λ k. member (t k).asker xs ≡ true) (sym z) i))
  ])
  | inr e ↦ elim (chain_asker t s x xs c.2 e) [ inl i ↦ inl i | inr i ↦ inr (or_right (eqb (t x).asker y) _ i) ]
]

pub askers_held : {r : Round} {s : ℕ} {t : ℕ → Role} {nay : ℕ → ℕ → ℕ} {j : List ℕ} → Tree r s t nay j → (x : ℕ) →
    held (t x).phase ≡ true → held (t (t x).asker).phase ≡ true
askers_held {s = s} {t = t} {j = j} tr x h = tr.members (t x).asker ∙
    elim (or_cases (eqb x s) (member x j) (sym (tr.members x) ∙ h)) [
      | inl e ↦ or_left (eqb (t x).asker s) _ (eq-eqb _ _ (ap (λ k. (t k).asker) (eqb-true x s e) ∙ tr.start_own))
      | inr e ↦ elim (chain_asker t s x j tr.chain e)
          [ inl i ↦ or_left (eqb (t x).asker s) _ (eq-eqb _ _ i) | inr i ↦ or_right (eqb (t x).asker s) _ i ]
    ]

pub reasoned_like : (n : ℕ) (g : Stage) (t u : ℕ → Role) (ms to : ℕ → Marks) (w v : List Message) (nay : ℕ → ℕ → ℕ)
    (j : List ℕ) → Treed g t nay j → ((i : ℕ) → u i ≡ t i) →
    ((r : Round) (x : ℕ) → held (t x).phase ≡ true → held (t (t x).asker).phase ≡ true →
    Wanted r ms w x (t x).asker → Wanted r to v x (t x).asker) →
    ((a b : ℕ) → tally (replies true a b) v ≡ tally (replies true a b) w) →
    ((r : Round) (a b : ℕ) → asked n r a (to a) b ≡ asked n r a (ms a) b) →
    ((r : Round) (a b : ℕ) (h : Bool) → held (t a).phase ≡ true → Spared r h ms w a b → Spared r h to v a b) →
    Reasoned n g t ms w → Reasoned n g u to v
reasoned_like n (Settled r v) t u ms to w z nay j tr e hw hr ha hs h = tt
reasoned_like n (Asking r s) t u ms to w z nay j tr e hw hr ha hs h = rw (fun_ext e) (record {
  wanted = λ x hx ne. hw r x hx (askers_held tr x hx) (h.wanted x hx ne);
  covered = λ a b hx ask' o. hs r a b _ hx
      (h.covered a b hx (sym (ha r a b) ∙ ask') (elim o [ inl k ↦ inl (rw (hr b a) at k) | inr k ↦ inr k ]));
})

module _ {R : Type 0} (n : ℕ) (rules : Rules R) (wear : ℕ) (s : State R) (τ : History) (inv : Inv n rules s τ) where
  pub keeps_work : (p w : ℕ) → (s.rows p).lost ≡ false →
      Inv n rules (act n rules wear s (Works p w)) (retell s τ (Works p w))
  keeps_work p w lo = record {
    store_size = inv.store_size;
    base = inv.base;
    mid = inv.mid;
    since = changed inv.since p (Worked w ∷ inv.since p);
    boards = pointwise (BoardAt rules (act n rules wear s (Works p w)) (retell s τ (Works p w)) inv.base inv.mid
        (changed inv.since p (Worked w ∷ inv.since p))) p
        (rw (eqb_same p) (let b = inv.boards p in record {
          marked = marked_work _ _ _ _ _ _ w b.marked;
          standing_is = b.standing_is;
          table_is = λ l. ap (λ r. rules.worked r w) (b.table_is l);
          pending_is = b.pending_is;
          kept_is = b.kept_is;
          due_is = b.due_is;
        }))
        (λ i e. rw e (inv.boards i));
    flow = λ a. pointwise (λ q. Flow (word_label a q)
        (last (heard_from a) (changed τ.own p (Worked w ∷ τ.own p) q)) (s.rows a).count s.wire) p
        (rw (eqb_same p) (inv.flow a p)) (λ i e. rw e (inv.flow a i));
    carried = All-weaker _ _ (carried_more (present τ) (present (add_own τ p (Worked w)))
        (λ a q l. told_more τ p (Worked w) (sent_to q) l a)) s.wire inv.carried;
    flushed = inv.flushed;
    loom = inv.loom;
    notes = inv.notes;
    kept_free = inv.kept_free;
    present_free = λ q a l x y o h. told_more τ p (Worked w) (sent_to q) l a
        (inv.present_free q a l x y o (told_less τ p (Worked w) (heard_from a) l q refl o h));
    frame = inv.frame;
    reasons = inv.reasons;
  }

  pub keeps_flag : (p : ℕ) (u l i wipe : Bool) → (l ≡ false → ((s.rows p).lost ≡ false) × (wipe ≡ false)) →
      Inv n rules (act n rules wear s (Flags p u l i wipe)) (retell s τ (Flags p u l i wipe))
  keeps_flag p u l i wipe lo = record {
    store_size = inv.store_size;
    base = inv.base;
    mid = inv.mid;
    since = inv.since;
    boards = pointwise (BoardAt rules (act n rules wear s (Flags p u l i wipe)) τ inv.base inv.mid inv.since)
        p
        (rw (eqb_same p) (let b = inv.boards p in record {
          marked = b.marked;
          standing_is = b.standing_is;
          table_is = λ e. rw (lo e).1 (b.table_is (lo e).0);
          pending_is = b.pending_is;
          kept_is = b.kept_is;
          due_is = b.due_is;
        }))
        (λ j e. rw e (inv.boards j));
    flow = λ a b. rw (same_part (λ r. r.count) s.rows p (with_flags (s.rows p) u l i) refl a) (inv.flow a b);
    carried = inv.carried;
    flushed = inv.flushed;
    loom = inv.loom;
    notes = subst (λ m. AllByRecursion (FitsNote τ.stage (labels τ.stage m)) s.wire)
        (sym (fun_ext (same_part (λ r. r.marks) s.rows p (with_flags (s.rows p) u l i) refl))) inv.notes;
    kept_free = inv.kept_free;
    present_free = inv.present_free;
    frame = frame_like (same_part (λ r. r.role) s.rows p (with_flags (s.rows p) u l i) refl) (λ a b. refl)
        (λ a b. refl) (λ a b. refl) (λ a b. refl) inv.frame;
    reasons = rw (
      fun_ext (same_part (λ r. r.role) s.rows p (with_flags (s.rows p) u l i) refl),
      fun_ext (same_part (λ r. r.marks) s.rows p (with_flags (s.rows p) u l i) refl),
    ) inv.reasons;
  }
