-- The deed of deciding.
use Rattle.std.proofs.Common.{◌≡◌, ℕ, ◌<◌, ◌≤◌, Bool, true, false, cond, ◌||◌, eqb, ◌⊎◌, List, [], ◌∷◌, sym, refl, ap, ◌∙◌, subst, inl, inr, arith}
use mathlib.Core.Path.{fun_ext}
use Rattle.std.proofs.ByRecursion.{All-weaker}
use Rattle.std.proofs.lemmas.Bool.{cases_Bool, cases_lt, eqb-true, or_cases, or_right, true≢false}
use Rattle.std.proofs.lemmas.Bool.Decides.{when_true}
use Rattle.std.specs.List.{AllByRecursion}
use Rattle.records.specs.Rules.{Rules}
use Rattle.records.specs.Stories.{Story}
use Rattle.protocol.specs.Effects.{Decides, State, act}
use Rattle.protocol.specs.Histories.{Asking, History, Settled, agreed_due, agreed_kept, member, present}
use Rattle.protocol.specs.Rounds.{role_answered}
use Rattle.protocol.specs.Rows.{Answered, Back, Free, Gathering, Round, Save, held, with_role}
use Rattle.protocol.specs.Wire.{Ask, Decision, Message, Reply, Word, post, tally}
use Rattle.protocol.proofs.Labels.{In, LabelOrphan, NoLabelOrphan, sent_to}
use Rattle.protocol.proofs.Backwards.{retell}
use Rattle.protocol.proofs.Stored.{stored_at}
use Rattle.protocol.proofs.Wires.{asks, decisions, replies, words}
use Rattle.protocol.proofs.Invariant.{Board, BoardAt, Carried, FitsNote, FitsPhase, Frame, InLoom, Inv, Reasoned}
use Rattle.protocol.proofs.Invariant.{Reasons, Spared, Treed, Wanted, asked, bit, child, labels, marks_of, roles_of}
use Rattle.protocol.proofs.Plain.{askers_held, at_upd, eqb_same, pointwise, same_part}
use Rattle.protocol.proofs.Agreement.{all_yes, answered, asking, earliest_out, no_other_starter, nobody_awaits}
use Rattle.protocol.proofs.Agreement.{none_left}
use Rattle.protocol.proofs.Decided.{all_saving, board_answered, board_at, board_settled, kept_base, present_own}
use Rattle.protocol.proofs.Orphans.{agreed_back, agreed_save, back_free, back_orphan, no_words, save_free}
use Rattle.protocol.proofs.Orphans.{save_orphan}

pub all_both : (P Q : Message → Type 0) (w : List Message) → AllByRecursion P w → AllByRecursion Q w →
    AllByRecursion (λ m. P m × Q m) w
all_both P Q [] a b = tt
all_both P Q (m ∷ w) a b = ((a.0, b.0), all_both P Q w a.1 b.1)

-- each message counts at most what the whole wire does
pub all_le : (h : ℕ → ℕ → Message → ℕ) (w : List Message) →
    AllByRecursion (λ m. (a b : ℕ) → h a b m ≤ tally (h a b) w) w
all_le h [] = tt
all_le h (m ∷ w) = ((λ a b. omega arith), All-weaker _ _ (λ x k a b. let z = k a b in omega arith) w (all_le h w))

settled_note : (r : Round) (v : Bool) (p : ℕ) (lab lab' : ℕ → ℕ → ℕ) (w : List Message) →
    ((a b : ℕ) → tally (asks a b) w ≡ 0) → (m : Message) →
    FitsNote (Asking r p) lab m × ((a b : ℕ) → asks a b m ≤ tally (asks a b) w) → FitsNote (Settled r v) lab' m
settled_note r v p lab lab' w z (post a b (Word l x)) h = tt
settled_note r v p lab lab' w z (post a b (Ask k l)) h = let y = h.1 a b in let u = z a b in
    let o : asks a b (post a b (Ask k l)) ≡ 1 = rw (eqb_same a, eqb_same b) in omega arith
settled_note r v p lab lab' w z (post a b (Reply y)) h = tt
settled_note r v p lab lab' w z (post a b (Decision k y)) h = absurd h.0

module _ {R : Type 0} (n : ℕ) (rules : Rules R) (s : State R) (τ : History) (inv : Inv n rules s τ) (p : ℕ) (in' : ℕ →
    Bool) (mem : (i : ℕ) → in' i ≡ held (s.rows i).role.phase) where
  abbrev Cov : Round → Type 0
  Cov r = (a b : ℕ) → held (s.rows a).role.phase ≡ true → asked n r a (s.rows a).marks b ≡ true →
      Spared r (held (s.rows b).role.phase) (marks_of s) s.wire a b

  abbrev Fit : Round → Type 0
  Fit r = (a : ℕ) → FitsPhase (Asking r p) (s.rows a).role.phase

  kept_as_agreed : (st : τ.stage ≡ Asking Save p) (fit : Fit Save) (cov : Cov Save) (i : ℕ) →
      agreed_save n rules s τ inv p st fit cov i ≡ cond (in' i) (τ.drawn i) (τ.kept i)
  kept_as_agreed st fit cov i = rw (mem i) (elim (cases_Bool (held (s.rows i).role.phase)) [
    | inl e ↦ rw e (sym (when_true _ _ (all_saving p _ (fit i) e) (inv.boards i).pending_is).1)
    | inr e ↦ rw e (sym (kept_base n rules s τ inv Save p st i))
  ])

  present_as_agreed : (st : τ.stage ≡ Asking Back p) (fit : Fit Back) (cov : Cov Back) (i : ℕ) →
      agreed_back n rules s τ inv p st fit cov i ≡ cond (cond (in' i) true (τ.due i)) (τ.kept i) (τ.own i)
  present_as_agreed st fit cov i = rw (mem i) (elim (cases_Bool (held (s.rows i).role.phase)) [
    | inl e ↦ rw e (sym (kept_base n rules s τ inv Back p st i))
    | inr e ↦ rw (e, (board_at n rules s τ inv Back p st i).due_is) refl
  ])

  pub kept-after : (r : Round) (v : Bool) → τ.stage ≡ Asking r p → Fit r → (v ≡ true → Cov r) →
      NoLabelOrphan n (agreed_kept r v in' τ.drawn τ.kept)
  kept-after Save true st fit cov =
      subst (NoLabelOrphan n) (fun_ext (kept_as_agreed st fit (cov refl)))
      (save_free n rules s τ inv p st fit (cov refl))
  kept-after Save false st fit cov = inv.kept_free
  kept-after Back v st fit cov = inv.kept_free

  -- where the round is not an agreed going back, the present stories stay
  present_stays : (st : τ.stage ≡ Asking Save p) (v : Bool) (i : ℕ) →
      present τ i ≡ cond (τ.due i) (agreed_kept Save v in' τ.drawn τ.kept i) (τ.own i)
  present_stays st v i = rw (board_at n rules s τ inv Save p st i).due_is refl

  pub present-after : (r : Round) (v : Bool) → τ.stage ≡ Asking r p → Fit r → (v ≡ true → Cov r) →
      NoLabelOrphan n (λ i. cond (agreed_due r v in' τ.due i) (agreed_kept r v in' τ.drawn τ.kept i)
      (τ.own i))
  present-after Save v st fit cov = subst (NoLabelOrphan n) (fun_ext (present_stays st v)) inv.present_free
  present-after Back true st fit cov =
      subst (NoLabelOrphan n) (fun_ext (present_as_agreed st fit (cov refl)))
      (back_free n rules s τ inv p st fit (cov refl))
  present-after Back false st fit cov = inv.present_free

  carried_back : (st : τ.stage ≡ Asking Back p) (fit : Fit Back) (cov : Cov Back) (m : Message) →
      (Carried (present τ) m × InLoom n m) × ((a b : ℕ) → words a b m ≤ tally (words a b) s.wire) →
      Carried (agreed_back n rules s τ inv p st fit cov) m
  carried_back st fit cov (post a b (Word l x)) h = (
    h.0.0.0,
    elim (cases_Bool (held (s.rows a).role.phase)) [
      | inl e ↦ (let z = no_words n rules s τ inv p st fit cov a b e h.0.1.1 h.0.1.2 in let y = h.1 a b in
          let o : words a b (post a b (Word l x)) ≡ 1 = rw (eqb_same a, eqb_same b) in absurd (omega arith))
      | inr e ↦ rw e (subst (In (sent_to b) l) (present_own n rules s τ inv Back p st a) h.0.0.1)
    ],
  )
  carried_back st fit cov (post a b (Ask k l)) h = tt
  carried_back st fit cov (post a b (Reply y)) h = tt
  carried_back st fit cov (post a b (Decision k y)) h = tt

  pub carried_after : (r : Round) (v : Bool) → τ.stage ≡ Asking r p → Fit r → (v ≡ true → Cov r) →
      AllByRecursion (Carried (λ i. cond (agreed_due r v in' τ.due i) (agreed_kept r v in' τ.drawn τ.kept i) (τ.own i)))
      s.wire
  carried_after Save v st fit cov =
      subst (λ f. AllByRecursion (Carried f) s.wire) (fun_ext (present_stays st v)) inv.carried
  carried_after Back true st fit cov =
      subst (λ f. AllByRecursion (Carried f) s.wire) (fun_ext (present_as_agreed st fit (cov refl)))
      (All-weaker _ _ (carried_back st fit (cov refl)) s.wire
      (all_both _ _ s.wire (all_both _ _ s.wire inv.carried inv.loom) (all_le words s.wire)))
  carried_after Back false st fit cov = inv.carried

  -- the stories with some members left out of an agreed round
  abbrev pub left_out : Round → (ℕ → Bool) → ℕ → Story
  left_out Save out i = cond (out i) (τ.kept i) (agreed_kept Save true in' τ.drawn τ.kept i)
  left_out Back out i = cond (out i) (τ.own i) (cond (agreed_due Back true in' τ.due i) (τ.kept i) (τ.own i))

  pub minimal : (r : Round) → τ.stage ≡ Asking r p → Fit r → Cov r → (out : ℕ → Bool) (x k : ℕ) → x < n → k < n →
      held (s.rows k).role.phase ≡ true →
      out x ≡ true → out k ≡ false → Wanted r (marks_of s) s.wire x k → LabelOrphan n (left_out r out)
  minimal Save st fit cov out x k xn kn hk ox ok w =
      subst (LabelOrphan n) (fun_ext
      (λ i. ap (λ z. cond (out i) z (agreed_save n rules s τ inv p st fit cov i))
      (sym (kept_base n rules s τ inv Save p st i))
      ∙ ap (λ z. cond (out i) (τ.kept i) z) (kept_as_agreed st fit cov i)))
      (save_orphan n rules s τ inv p st fit cov out x k xn kn hk ox ok w)
  minimal Back st fit cov out x k xn kn hk ox ok w =
      subst (LabelOrphan n) (fun_ext (λ i. ap (λ z. cond (out i) (τ.own i) z) (present_as_agreed st fit cov i)))
      (back_orphan n rules s τ inv p st fit cov out x k xn kn hk ox ok w)

module _ {R : Type 0} (n : ℕ) (rules : Rules R) (wear : ℕ) (s : State R) (τ : History) (inv : Inv n rules s τ)
    (r : Round) (p : ℕ)
    (ph : (s.rows p).role.phase ≡ Gathering r) (self' : (s.rows p).role.asker ≡ p) (idle : (b : ℕ) → b < n →
    (s.rows p).role.awaited b ≡ false) where
  pub stage_is : τ.stage ≡ Asking r p
  stage_is =
      let a = asking τ.stage r (subst (FitsPhase τ.stage) ph (inv.frame.fits p)) in
      let tr = subst (λ g. Treed g (roles_of s) (λ x y. tally (replies false x y) s.wire) τ.joined) a.1
      inv.frame.tree in
      elim (or_cases (eqb p a.0) (member p τ.joined) (sym (tr.members p) ∙ ap held ph)) [
        | inl e ↦ a.1 ∙ ap (Asking r) (sym (eqb-true p a.0 e))
        | inr e ↦ absurd (no_other_starter (roles_of s) a.0 p τ.joined tr.chain e self')
      ]

  pub frame_at : Frame n (Asking r p) (roles_of s) (λ a b. tally (asks a b) s.wire)
      (λ a b. tally (replies true a b) s.wire)
      (λ a b. tally (replies false a b) s.wire) (λ a b. tally (decisions a b) s.wire) τ.joined
  frame_at = subst (λ g. Frame n g (roles_of s) (λ a b. tally (asks a b) s.wire)
      (λ a b. tally (replies true a b) s.wire)
      (λ a b. tally (replies false a b) s.wire) (λ a b. tally (decisions a b) s.wire) τ.joined) stage_is
      inv.frame

  reasons_at : Reasons n r p (roles_of s) (marks_of s) s.wire
  reasons_at = subst (λ g. Reasoned n g (roles_of s) (marks_of s) s.wire) stage_is inv.reasons

  idle_all : (b : ℕ) → (s.rows p).role.awaited b ≡ false
  idle_all b = elim (cases_lt b n) [ inl h ↦ idle b h | inr h ↦ inv.frame.near p b h ]

  pub members_are : (i : ℕ) → (eqb i p || member i τ.joined) ≡ held (s.rows i).role.phase
  members_are i = sym (frame_at.tree.members i)

  pub covers : (s.rows p).role.answer ≡ true → (a b : ℕ) → held (s.rows a).role.phase ≡ true →
      asked n r a (s.rows a).marks b ≡ true →
      Spared r (held (s.rows b).role.phase) (marks_of s) s.wire a b
  covers v a b h k = reasons_at.covered a b h k
      (inr (nobody_awaits frame_at idle_all a b, all_yes frame_at idle_all v a h))

  talk_after : (i : ℕ) → ((roles_of (act n rules wear s (Decides r p)) i).awaited ≡ (s.rows i).role.awaited)
      × ((roles_of (act n rules wear s (Decides r p)) i).cohort ≡ (s.rows i).role.cohort)
  talk_after i = (
    same_part (λ x. x.role.awaited) s.rows p (with_role (s.rows p) (role_answered (s.rows p).role r)) refl i,
    same_part (λ x. x.role.cohort) s.rows p (with_role (s.rows p) (role_answered (s.rows p).role r)) refl i,
  )

  nobody-after : (a b : ℕ) → (roles_of (act n rules wear s (Decides r p)) a).awaited b ≡ false
  nobody-after a b = ap (λ f. f b) (talk_after a).0 ∙ nobody_awaits frame_at idle_all a b

  child_after : (a b : ℕ) → child (roles_of (act n rules wear s (Decides r p)) b) a b ≡ 0
  child_after a = at_upd (λ b row. child row.role a b ≡ 0) s.rows p
      (with_role (s.rows p) (role_answered (s.rows p).role r)) refl (λ b e. (none_left frame_at idle_all a b).3)

  not_free_here : (s.rows p).role.phase ≡ Free → ⊥
  not_free_here h = true≢false (sym (ap held ph) ∙ ap held h)

  others_fit : (i : ℕ) → eqb i p ≡ false → ((s.rows i).role.phase ≡ Free) ⊎ ((s.rows i).role.phase ≡ Answered r)
  others_fit i e = elim (cases_Bool (member i τ.joined)) [
    | inl m ↦ inr (answered frame_at idle_all i m)
    | inr m ↦ (let h : held (s.rows i).role.phase ≡ false = sym (members_are i) ∙ (rw (e, m)) in
        elim (frame_at.fits i)
        [ inl k ↦ inl k | inr k ↦ elim k [ inl j ↦ absurd (true≢false (sym (ap held j) ∙ h)) | inr j ↦ inr j ] ])
  ]

  pub keeps_decide : Inv n rules (act n rules wear s (Decides r p)) (retell s τ (Decides r p))
  keeps_decide =
      let v = (s.rows p).role.answer in
      let in' : ℕ → Bool = λ b. eqb b p || member b τ.joined in
      let row = with_role (s.rows p) (role_answered (s.rows p).role r) in
      let bd : (i : ℕ) → Board rules (Settled r v) (s.rows i) (s.table i) (stored_at rules s i) (τ.own i)
      (agreed_kept r v in' τ.drawn τ.kept i) (τ.drawn i) (agreed_due r v in' τ.due i) (inv.base i)
      (inv.mid i) (inv.since i)
      = λ i. board_settled rules r v p in' τ.drawn τ.kept τ.due i _ _ _ _ _ _ _ (members_are i)
      (frame_at.fits i) (board_at n rules s τ inv r p stage_is i) in
      record {
        store_size = inv.store_size;
        base = inv.base;
        mid = inv.mid;
        since = inv.since;
        boards = pointwise (BoardAt rules (act n rules wear s (Decides r p)) (retell s τ (Decides r p)) inv.base
            inv.mid inv.since) p
            (rw (eqb_same p) (board_answered rules r _ _ _ _ _ _ _ _ _ _ _ ph (bd p))) (λ i e. rw e (bd i));
        flow = λ a b. rw (same_part (λ z. z.count) s.rows p row refl a) (inv.flow a b);
        carried = carried_after n rules s τ inv p in' members_are r v stage_is frame_at.fits covers;
        flushed = inv.flushed;
        loom = inv.loom;
        notes = All-weaker _ _ (settled_note r v p (labels (Asking r p) (marks_of s)) (λ a b. 0) s.wire
            (λ a b. (none_left frame_at idle_all a b).0)) s.wire
            (all_both _ _ s.wire (subst (λ g. AllByRecursion (FitsNote g (labels g (marks_of s))) s.wire) stage_is
            inv.notes) (all_le asks s.wire));
        kept_free = kept-after n rules s τ inv p in' members_are r v stage_is frame_at.fits covers;
        present_free = present-after n rules s τ inv p in' members_are r v stage_is frame_at.fits covers;
        frame = record {
          tokens = λ a b. (let z = none_left frame_at idle_all a b in let c = child_after a b in
              let w : bit ((roles_of (act n rules wear s (Decides r p)) a).awaited b) ≡ 0 = ap bit (nobody-after a b) in
              let z0 = z.0 in let z1 = z.1 in let z2 = z.2 in omega arith);
          awaits = λ a b h. absurd (true≢false (sym h ∙ nobody-after a b));
          near = λ a b h. nobody-after a b;
          self = λ a. ap (λ f. f a) (talk_after a).1 ∙ inv.frame.self a;
          dec_one = inv.frame.dec_one;
          dec_free = λ a b. at_upd (λ a x. 0 < tally (decisions a b) s.wire → x.role.phase ≡ Free) s.rows p
              row (λ h. absurd (not_free_here (inv.frame.dec_free p b h))) (λ i e h. inv.frame.dec_free i b h) a;
          fits = at_upd (λ a x. FitsPhase (Settled r v) x.role.phase) s.rows p row (inr refl) others_fit;
          far = at_upd (λ a x. n ≤ a → x.role.phase ≡ Free) s.rows p row
              (λ h. absurd (not_free_here (inv.frame.far p h))) (λ i e. inv.frame.far i);
          tree = tt;
        };
        reasons = tt;
      }

  near_held : (i : ℕ) → held (s.rows i).role.phase ≡ true → i < n
  near_held i h = elim (cases_lt i n) [
    | inl k ↦ k
    | inr k ↦ absurd (true≢false (sym h ∙ ap held (inv.frame.far i k)))
  ]

  pub keeps_minimal : (s.rows p).role.answer ≡ true → (out : ℕ → Bool) → out p ≡ false → (z : ℕ) →
      member z τ.joined ≡ true → out z ≡ true →
      LabelOrphan n (left_out n rules s τ inv p (λ b. eqb b p || member b τ.joined) members_are r out)
  keeps_minimal v out op z mz oz =
      let e = earliest_out (roles_of s) p out op τ.joined frame_at.tree.chain z mz oz in
      let x = e.0 in
      let hx : held (s.rows x).role.phase ≡ true = frame_at.tree.members x ∙ or_right (eqb x p) _ e.1 in
      let hk = askers_held frame_at.tree x hx in
      minimal n rules s τ inv p (λ b. eqb b p || member b τ.joined) members_are r stage_is frame_at.fits
      (covers v) out x (s.rows x).role.asker
      (near_held x hx) (near_held _ hk) hk e.2 e.3
      (reasons_at.wanted x hx (λ k. true≢false (sym e.2 ∙ ap out k ∙ op)))
