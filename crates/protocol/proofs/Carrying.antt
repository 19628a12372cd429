-- Carrying out a decision.
use Rattle.std.proofs.Common.{◌≡◌, ℕ, ◌+◌, ◌<◌, ◌≤◌, Bool, true, false, cond, ◌&&◌, eqb, ltb, List, [], ◌∷◌, ◌++◌, length, Ok, sym, refl, ap, ◌∙◌, subst, inl, inr, arith}
use mathlib.Core.Path.{fun_ext}
use Rattle.std.proofs.ByRecursion.{All-append, All-weaker}
use Rattle.std.proofs.lemmas.Bool.{cases_Bool, cases_lt, eqb-false, false≢true, ne_eqb, true≢false}
use Rattle.std.proofs.lemmas.Bool.Decides.{eqb_tells}
use Rattle.std.proofs.Math.Nat.{eq-zero-or-pos}
use Rattle.std.specs.List.{AllByRecursion}
use Rattle.records.specs.Rules.{Rules}
use Rattle.records.specs.Stories.{Story}
use Rattle.store.specs.Meaning.{keep_answer}
use Rattle.protocol.specs.Effects.{Carries, State, act, carried_table, ok_or}
use Rattle.protocol.specs.Histories.{Asking, History, Settled, Stage, carried_due, carried_own, present}
use Rattle.protocol.specs.Marks.{mark_back}
use Rattle.protocol.specs.Rounds.{row_carried}
use Rattle.protocol.specs.Rows.{Answered, Back, Free, Marks, Role, Round, Row, Save, gathering, held}
use Rattle.protocol.specs.Tables.{changed}
use Rattle.protocol.specs.Wire.{Ask, Decision, Message, Reply, Word, post, posts, tally}
use Rattle.protocol.proofs.Labels.{NoLabelOrphan, Rising, heard_from, last, last_max, made, rising_right}
use Rattle.protocol.proofs.Backwards.{retell}
use Rattle.protocol.proofs.Stored.{carried_stored, keep_taken, size_carried, stored_carried, stored_standing}
use Rattle.protocol.proofs.Stored.{stored_at}
use Rattle.protocol.proofs.Segments.{Marked, marked_back, marked_drop, marked_keep}
use Rattle.protocol.proofs.Wires.{Flushed, all_posts, asks, decisions, flow_append, flow_lower, flushed_append}
use Rattle.protocol.proofs.Wires.{replies, tally-append, tally-posts, word_label, words}
use Rattle.protocol.proofs.Invariant.{Board, Carried, FitsNote, FitsPhase, Inv, Reasoned, Treed, bit, child, keeps}
use Rattle.protocol.proofs.Invariant.{roles_of}
use Rattle.protocol.proofs.Plain.{at_upd, eqb_same, pointwise, same_part}

pub keeps_none : (g : Stage) → keeps g Free ≡ false
keeps_none (Asking r s) = refl
keeps_none (Settled Save true) = refl
keeps_none (Settled Save false) = refl
keeps_none (Settled Back v) = refl

abbrev base_c : Round → Bool → Story → Story → Story
base_c Save true base mid = mid ++ base
base_c Save false base mid = base
base_c Back v base mid = base

abbrev since_c : Round → Bool → Story → Story → Story
since_c Save true since mid = since
since_c Save false since mid = since ++ mid
since_c Back true since mid = []
since_c Back false since mid = since

-- messages without words
pub flushed_none : (a b : ℕ) (x : List Message) → tally (words a b) x ≡ 0 → Flushed a b x
flushed_none a b [] h = tt
flushed_none a b (m ∷ x) h = (inr (omega arith), flushed_none a b x (omega arith))

pub tally_none : (h : Message → ℕ) (k : ℕ) (c : ℕ → Bool) (f : ℕ → Message) → ((i : ℕ) → h (f i) ≡ 0) →
    tally h (posts k c f) ≡ 0
tally_none h k c f e = tally-posts h 0 0 k c f (λ i. e i ∙ sym (cond_zero (eqb i 0))) ∙ cond_zero (ltb 0 k && c 0)
  where
    cond_zero : (b : Bool) → ◌≡◌ {A = ℕ} (cond b 0 0) 0
    cond_zero true = refl
    cond_zero false = refl

-- a held board is one of the loom
pub held_near : {R : Type 0} (n : ℕ) (rules : Rules R) (s : State R) (τ : History) → Inv n rules s τ → (p : ℕ) →
    held (s.rows p).role.phase ≡ true → p < n
held_near n rules s τ inv p h =
    elim (cases_lt p n) [ inl u ↦ u | inr u ↦ absurd (true≢false (sym h ∙ ap held (inv.frame.far p u))) ]

-- a board that has answered in a saving has a record pending, which the store keeps or drops
pub sure_keep : {R : Type 0} (n : ℕ) (rules : Rules R) (s : State R) (τ : History) → Inv n rules s τ →
    (p : ℕ) (k : Round) → (s.rows p).role.phase ≡ Answered k → k ≡ Save → keep_answer s.store p ≡ Ok tt
sure_keep n rules s τ inv p Save f e =
    keep_taken rules s.store p
    (subst (λ k. p < k) (sym inv.store_size) (held_near n rules s τ inv p (ap held f))) _
    (rw f at (inv.boards p).pending_is).0
sure_keep n rules s τ inv p Back f e = let z : ◌≡◌ {A = ℕ} 0 1 = cc in absurd (omega arith)

module _ {R : Type 0} (n : ℕ) (rules : Rules R) (wear : ℕ) (s : State R) (τ : History) (inv : Inv n rules s τ)
    (p : ℕ) where
  abbrev At : Stage → ℕ → Type 0
  At g i = Board rules g (s.rows i) (s.table i) (stored_at rules s i) (τ.own i) (τ.kept i) (τ.drawn i) (τ.due i)
      (inv.base i) (inv.mid i) (inv.since i)

  abbrev After : Round → Bool → Stage → ℕ → Type 0
  After r v g i = Board rules g (changed s.rows p (row_carried r v (s.rows p)) i)
      (carried_table r v s.table s.store p i)
      (carried_stored r v (stored_at rules s) p i) (carried_own r v τ.own τ.kept p i) (τ.kept i) (τ.drawn i)
      (carried_due r v τ.due p i)
      (changed inv.base p (base_c r v (inv.base p) (inv.mid p)) i) (changed inv.mid p [] i)
      (changed inv.since p (since_c r v (inv.since p) (inv.mid p)) i)

  after_here : (r : Round) (v : Bool) → p < length s.store.boards → (s.rows p).role.phase ≡ Answered r →
      At (Settled r v) p → After r v (Settled r v) p
  after_here Save true near ph b = let d = rw ph at b.pending_is in rw (eqb_same p) (record {
    marked = marked_keep _ _ _ _ _ _ d.2 b.marked;
    standing_is = rw d.0 refl;
    table_is = b.table_is;
    pending_is = (refl, refl);
    kept_is = rw ph at b.kept_is;
    due_is = b.due_is;
  })
  after_here Save false near ph b = let d = rw ph at b.pending_is in rw (eqb_same p) (record {
    marked = marked_drop _ _ _ _ _ _ d.2 b.marked;
    standing_is = b.standing_is;
    table_is = b.table_is;
    pending_is = (refl, refl);
    kept_is = b.kept_is;
    due_is = b.due_is;
  })
  after_here Back true near ph b = let d = rw ph at b.pending_is in rw (eqb_same p) (record {
    marked = subst (λ o. Marked (mark_back (s.rows p).marks) (s.rows p).count o (inv.base p) [] [])
        (sym b.kept_is) (marked_back _ _ (τ.own p) (inv.base p) (inv.since p)
        (subst (λ x. Marked (s.rows p).marks (s.rows p).count (τ.own p) (inv.base p) x (inv.since p)) d.1
        b.marked));
    standing_is = b.standing_is;
    table_is = λ _. ap (ok_or (s.table p)) (stored_standing rules s.store p near) ∙ b.standing_is
        ∙ ap (made rules) (sym b.kept_is);
    pending_is = (d.0, refl);
    kept_is = b.kept_is;
    due_is = refl;
  })
  after_here Back false near ph b = let d = rw ph at b.pending_is in rw (eqb_same p) (record {
    marked = subst (λ x. Marked (s.rows p).marks (s.rows p).count (τ.own p) (inv.base p) x (inv.since p))
        d.1 b.marked;
    standing_is = b.standing_is;
    table_is = b.table_is;
    pending_is = (d.0, refl);
    kept_is = b.kept_is;
    due_is = b.due_is;
  })

  after_there : (r : Round) (v : Bool) (g : Stage) (i : ℕ) → eqb i p ≡ false → At g i → After r v g i
  after_there Save true g i e b = rw e b
  after_there Save false g i e b = rw e b
  after_there Back true g i e b = rw e b
  after_there Back false g i e b = rw e b

  own_falls : (r : Round) (v : Bool) → At (Settled r v) p → (a i : ℕ) →
      last (heard_from a) (carried_own r v τ.own τ.kept p i) ≤ last (heard_from a) (τ.own i)
  own_falls Save v b a i = omega arith
  own_falls Back false b a i = omega arith
  own_falls Back true b a i =
      at_upd (λ i x. last (heard_from a) x ≤ last (heard_from a) (τ.own i)) τ.own p (τ.kept p)
      (let rs = subst (Rising (heard_from a)) b.marked.split (b.marked.heard_rise a) in
      let x1 = last_max (heard_from a) (inv.since p) (inv.mid p ++ inv.base p) rs in
      let x2 = last_max (heard_from a) (inv.mid p) (inv.base p) (rising_right (heard_from a) (inv.since p) _ rs) in
      let x3 = ap (last (heard_from a)) b.marked.split in let x4 = ap (last (heard_from a)) b.kept_is in
      omega arith) (λ i e. omega arith) i

  present_same : (r : Round) (v : Bool) → (s.rows p).role.phase ≡ Answered r → At (Settled r v) p → (i : ℕ) →
      present τ i ≡ cond (carried_due r v τ.due p i) (τ.kept i) (carried_own r v τ.own τ.kept p i)
  present_same Save v ph b i = refl
  present_same Back false ph b i = refl
  present_same Back true ph b i =
      pointwise (λ i. present τ i ≡ cond (changed τ.due p false i) (τ.kept i) (changed τ.own p (τ.kept p) i))
      p
      (rw (eqb_same p, rw ph at b.due_is) refl) (λ i e. rw e refl) i

  module _ (r : Round) (v : Bool) (ph : (s.rows p).role.phase ≡ Answered r) (st : τ.stage ≡ Settled r v) where
    abbrev s' : State R
    s' = act n rules wear s (Carries r v p)

    abbrev row : Row
    row = row_carried r v (s.rows p)

    abbrev out : List Message
    out = posts n (s.rows p).role.cohort (λ b. post p b (Decision r v))

    here : At (Settled r v) p
    here = subst (λ g. At g p) st (inv.boards p)

    hold : held (s.rows p).role.phase ≡ true
    hold = ap held ph

    p_near : p < n
    p_near = held_near n rules s τ inv p hold

    near : p < length s.store.boards
    near = subst (λ k. p < k) (sym inv.store_size) p_near

    c_boards : (i : ℕ) → After r v τ.stage i
    c_boards = pointwise (λ i. After r v τ.stage i) p
        (subst (λ g. After r v g p) (sym st) (after_here r v near ph here))
        (λ i e. after_there r v τ.stage i e (inv.boards i))

    p_idle : (b : ℕ) → (s.rows p).role.awaited b ≡ false
    p_idle b = elim (cases_Bool ((s.rows p).role.awaited b))
        [ inl h ↦ absurd (true≢false (sym (inv.frame.awaits p b h) ∙ ap gathering ph)) | inr h ↦ h ]

    c_awaited : (i : ℕ) → (roles_of s' i).awaited ≡ (s.rows i).role.awaited
    c_awaited = same_part (λ x. x.role.awaited) s.rows p row (fun_ext (λ b. sym (p_idle b)))

    c_tally : (h : Message → ℕ) → ((i : ℕ) → h (post p i (Decision r v)) ≡ 0) →
        tally h (s.wire ++ out) ≡ tally h s.wire
    c_tally h e = let z = tally_none h n (s.rows p).role.cohort (λ b. post p b (Decision r v)) e in
        tally-append h s.wire out ∙ omega arith

    c_replies : (y : Bool) (a b : ℕ) → tally (replies y a b) (s.wire ++ out) ≡ tally (replies y a b) s.wire
    c_replies true a b = c_tally (replies true a b) (λ i. refl)
    c_replies false a b = c_tally (replies false a b) (λ i. refl)

    c_decs : (a b : ℕ) → tally (decisions a b) (s.wire ++ out)
        ≡ tally (decisions a b) s.wire + cond (eqb p a) (cond (ltb b n && (s.rows p).role.cohort b) 1 0) 0
    c_decs a b = tally-append (decisions a b) s.wire out
        ∙ ap (λ z. tally (decisions a b) s.wire + z) (elim (eqb_tells p a) [
          | inl e ↦ rw e.0 (tally-posts (decisions a b) b 1 n (s.rows p).role.cohort (λ i. post p i (Decision r v))
              (λ i. rw e.0 refl))
          | inr e ↦ rw e.0 (tally_none (decisions a b) n (s.rows p).role.cohort (λ i. post p i (Decision r v))
              (λ i. rw e.0 refl))
        ])

    c_one : (t : Bool) → cond t 1 0 ≤ 1
    c_one true = omega arith
    c_one false = omega arith

    c_child : (a b : ℕ) → child (roles_of s' b) a b ≡ child (s.rows b).role a b
    c_child a = at_upd (λ b x. child x.role a b ≡ child (s.rows b).role a b) s.rows p row (rw ph refl)
        (λ i e. refl)

    p_no_dec : (b : ℕ) → tally (decisions p b) s.wire ≡ 0
    p_no_dec b = elim (eq-zero-or-pos (tally (decisions p b) s.wire)) [
      | inl z ↦ z
      | inr z ↦ absurd (true≢false (sym hold ∙ ap held (inv.frame.dec_free p b z)))
    ]

    c_fit : (g : Stage) → g ≡ Settled r v → FitsPhase g Free
    c_fit g e = rw e (inl refl)

    c_note : (g : Stage) (lab : ℕ → ℕ → ℕ) (b : ℕ) → g ≡ Settled r v → FitsNote g lab (post p b (Decision r v))
    c_note g lab b e = rw e (refl, refl)

    c_notes : (g : Stage) (lab lab' : ℕ → ℕ → ℕ) → g ≡ Settled r v → (m : Message) → FitsNote g lab m →
        FitsNote g lab' m
    c_notes (Asking k z) lab lab' e m h = let z : ◌≡◌ {A = ℕ} 0 1 = cc in absurd (omega arith)
    c_notes (Settled k w) lab lab' e (post a b (Word l x)) h = tt
    c_notes (Settled k w) lab lab' e (post a b (Ask j l)) h = h
    c_notes (Settled k w) lab lab' e (post a b (Reply y)) h = tt
    c_notes (Settled k w) lab lab' e (post a b (Decision j y)) h = h

    c_tree : (g : Stage) (t : ℕ → Role) (no' : ℕ → ℕ → ℕ) (j : List ℕ) → g ≡ Settled r v → Treed g t no' j
    c_tree g t no' j e = rw e tt

    c_reasons : (g : Stage) (t : ℕ → Role) (ms : ℕ → Marks) (w : List Message) → g ≡ Settled r v → Reasoned n g t ms w
    c_reasons g t ms w e = rw e tt

    pub keeps_carry : Inv n rules (act n rules wear s (Carries r v p)) (retell s τ (Carries r v p))
    keeps_carry = record {
      store_size = size_carried r v s.store p ∙ inv.store_size;
      base = changed inv.base p (base_c r v (inv.base p) (inv.mid p));
      mid = changed inv.mid p [];
      since = changed inv.since p (since_c r v (inv.since p) (inv.mid p));
      boards = λ i. subst (λ k. Board rules τ.stage (changed s.rows p row i)
          (carried_table r v s.table s.store p i) k (carried_own r v τ.own τ.kept p i) (τ.kept i)
          (τ.drawn i) (carried_due r v τ.due p i)
          (changed inv.base p (base_c r v (inv.base p) (inv.mid p)) i) (changed inv.mid p [] i)
          (changed inv.since p (since_c r v (inv.since p) (inv.mid p)) i))
          (sym (stored_carried rules s.store p near r v (sure_keep n rules s τ inv p r ph) i)) (c_boards i);
      flow = λ a b. rw (same_part (λ z. z.count) s.rows p row refl a)
          (flow_append (word_label a b) _ _ s.wire _ (all_posts _ n _ _ (λ i _ _. refl))
          (flow_lower (word_label a b) _ _ _ s.wire (own_falls r v here a b) (inv.flow a b)));
      carried = All-append _ s.wire _
          (subst (λ f. AllByRecursion (Carried f) s.wire) (fun_ext (present_same r v ph here)) inv.carried)
          (all_posts _ n _ _ (λ i _ _. tt));
      flushed = λ a b. (let z = tally_none (words a b) n (s.rows p).role.cohort (λ i. post p i (Decision r v))
          (λ i. refl) in flushed_append a b s.wire _ (inr z) (flushed_none a b _ z) (inv.flushed a b));
      loom = All-append _ s.wire _ inv.loom
          (all_posts _ n _ _ (λ i l c. (
            p_near,
            l,
            λ e. true≢false
                (sym c ∙ subst (λ u. (s.rows p).role.cohort u ≡ false) e (inv.frame.self p)),
          )));
      notes = All-append _ s.wire _ (All-weaker _ _ (c_notes τ.stage _ _ st) s.wire inv.notes)
          (all_posts _ n _ _ (λ i _ _. c_note τ.stage _ i st));
      kept_free = inv.kept_free;
      present_free = subst (NoLabelOrphan n) (fun_ext (present_same r v ph here)) inv.present_free;
      frame = record {
        tokens = λ a b. (let x = inv.frame.tokens a b in let x1 = c_tally (asks a b) (λ i. refl) in
            let x2 = c_replies true b a in let x3 = c_replies false b a in
            let c = c_child a b in let w : bit ((roles_of s' a).awaited b) ≡ bit ((s.rows a).role.awaited b) =
            ap (λ f. bit (f b)) (c_awaited a) in omega arith);
        awaits = λ a b. at_upd (λ a x. x.role.awaited b ≡ true → gathering x.role.phase ≡ true) s.rows p row
            (λ h. absurd (false≢true h)) (λ i _. inv.frame.awaits i b) a;
        near = λ a b h. ap (λ f. f b) (c_awaited a) ∙ inv.frame.near a b h;
        self = at_upd (λ a x. x.role.cohort a ≡ false) s.rows p row refl (λ i _. inv.frame.self i);
        dec_one = λ a b. (let c = c_decs a b in let u = c_one (ltb b n && (s.rows p).role.cohort b) in
            let o = inv.frame.dec_one a b in elim (eqb_tells p a) [
              | inl e ↦ (let z : tally (decisions a b) s.wire ≡ 0 =
                  subst (λ x. tally (decisions x b) s.wire ≡ 0) e.1 (p_no_dec b) in let c' = rw e.0 at c in
                  omega arith)
              | inr e ↦ (let c' = rw e.0 at c in omega arith)
            ]);
        dec_free = λ a b. at_upd (λ a x. 0 < tally (decisions a b) (s.wire ++ out) → x.role.phase ≡ Free) s.rows
            p row (λ _. refl)
            (λ i e h. inv.frame.dec_free i b
            (let c = rw (ne_eqb p i (λ u. eqb-false i p e (sym u))) at (c_decs i b) in omega arith)) a;
        fits = at_upd (λ a x. FitsPhase τ.stage x.role.phase) s.rows p row (c_fit τ.stage st)
            (λ i _. inv.frame.fits i);
        far = at_upd (λ a x. n ≤ a → x.role.phase ≡ Free) s.rows p row (λ _. refl) (λ i _. inv.frame.far i);
        tree = c_tree τ.stage _ _ τ.joined st;
      };
      reasons = c_reasons τ.stage _ _ _ st;
    }
