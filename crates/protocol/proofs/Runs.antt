-- Every run from a new console is sound.
use Rattle.std.proofs.Common.{◌≡◌, ℕ, zero, suc, ◌-◌, ◌<◌, ◌≤◌, Bool, true, false, cond, not, ◌&&◌, ◌||◌, eqb, ltb, List, [], ◌∷◌, ◌++◌, reverse, length, replicate, Some, None, Ok, Option, sym, refl, ap, ◌∙◌, subst, subst₂, inl, inr, mul-le-mul, arith}
use mathlib.Core.Path.{fun_ext}
use Rattle.std.proofs.ByRecursion.{All-append}
use Rattle.std.proofs.lemmas.Bool.{and_parts, cases_Bool, cases_lt, eqb-false, eqb-true, false≢true, ltb-false, ltb-true, not-false, not-true, or_cases, or_parts, true≢false}
use Rattle.std.proofs.lemmas.Bool.Decides.{eqb_tells}
use Rattle.std.specs.List.{AllByRecursion}
use Rattle.records.specs.Rules.{Rules, replayed}
use Rattle.records.specs.Stories.{NoOrphan, Orphan, Story}
use Rattle.records.specs.declared.event.Event.TheVariants.{Heard, Sent}
use Rattle.store.specs.Meaning.{Kept, Meaning, fresh_meaning, keep_answer, put_answer}
use Rattle.protocol.specs.Effects.{Answers, Carries, Counts, Decides, Discards, Effect, Hears, Joins, Replies, Sends}
use Rattle.protocol.specs.Effects.{Starts, State, Works, act, acts, carried_answer, drawn_answer, effect_answer}
use Rattle.protocol.specs.Effects.{effect_answers}
use Rattle.protocol.specs.Histories.{Asking, History, Settled, Stage, agreed_due, agreed_kept, carried_due, carried_own}
use Rattle.protocol.specs.Histories.{member, new_turn, present, tell}
use Rattle.protocol.specs.Laws.{Laws, NobodyInVain, SoundRuns}
use Rattle.protocol.specs.Marks.{need}
use Rattle.protocol.specs.Rounds.{able, has_answered, role_answered, says_yes}
use Rattle.protocol.specs.Rows.{Answered, Back, Free, Gathering, Phase, Role, Round, Row, Save, gathering, held}
use Rattle.protocol.specs.Rows.{new_marks, new_row, with_role}
use Rattle.protocol.specs.Runs.{Step, World, after, after_step, new_world, run, told_by}
use Rattle.protocol.specs.Tables.{changed}
use Rattle.protocol.specs.Turns.{Checkpoint, Deliver, Do, Plan, Refusal, Refuse, Restart, Rollback, Send}
use Rattle.protocol.specs.Turns.{SetWilling, Stop, Turn, Work, WrongTable, asked_when, decided_when, delivered}
use Rattle.protocol.specs.Turns.{heard_when, is_open, most_words, moved, nobody_below, plan_of, refuse_if, settled, settled_by}
use Rattle.protocol.specs.Turns.{started, store_answers, taken_off, turn_plan}
use Rattle.protocol.specs.Wire.{Ask, Decision, Message, Note, Reply, Word, earliest, is_control, is_word, post, tally}
use Rattle.protocol.proofs.Labels.{LabelOrphan, NoLabelOrphan, Positive, heard_told, made, positive_right, sent_told}
use Rattle.protocol.proofs.Labels.{told_heard, told_positive, told_sent}
use Rattle.protocol.proofs.Backwards.{backwards, backwards_tell, made-reverse, retell, reverse-cond, reverse-told}
use Rattle.protocol.proofs.Backwards.{told-reverse}
use Rattle.protocol.proofs.Stored.{stored_standing, stored_at, stored_in}
use Rattle.protocol.proofs.Segments.{Marked}
use Rattle.protocol.proofs.Wires.{all_taken, decisions, replies, taken, taken_goes}
use Rattle.protocol.proofs.Invariant.{Board, Chain, FitsNote, InLoom, Inv, bit, keeps, labels, marks_of, roles_of}
use Rattle.protocol.proofs.Plain.{eqb_same, keeps_flag, keeps_work}
use Rattle.protocol.proofs.Words.{free_awaits, keeps_hear, keeps_send}
use Rattle.protocol.proofs.Deciding.{frame_at, keeps_decide, keeps_minimal}
use Rattle.protocol.proofs.Replying.{keeps_count, keeps_reply, keeps_toss}
use Rattle.protocol.proofs.Answering.{keeps_answer}
use Rattle.protocol.proofs.Carrying.{keeps_carry, keeps_none, sure_keep}
use Rattle.protocol.proofs.Drawing.{free_of, in_store, keeps_draw, keeps_start, sure_put}
use Rattle.protocol.proofs.Tokens.{few_tokens, token, token_is}
use Rattle.protocol.proofs.Room.{few_run, length_is}

nobody_is : (k : ℕ) (c : ℕ → Bool) → nobody_below k c ≡ true → (b : ℕ) → b < k → c b ≡ false
nobody_is zero c h b l = absurd (omega arith)
nobody_is (suc k) c h b l = let p = and_parts (not (c k)) (nobody_below k c) h in elim (cases_lt b k)
    [ inl i ↦ nobody_is k c p.1 b i | inr i ↦ (let e : b ≡ k = omega arith in ap c e ∙ not-true (c k) p.0) ]

start_out : (t : ℕ → Role) (s : ℕ) (xs : List ℕ) → Chain t s xs → member s xs ≡ true → ⊥
start_out t s [] c h = false≢true h
start_out t s (x ∷ xs) c h =
    elim (or_cases (eqb s x) (member s xs) h) [
      | inl e ↦ c.0 (sym (eqb-true s x e))
      | inr e ↦ start_out t s xs c.2 e
    ]

replies_word : (y : Bool) (a b p q l w : ℕ) → replies y a b (post p q (Word l w)) ≡ 0
replies_word true a b p q l w = refl
replies_word false a b p q l w = refl

replies_decision : (y : Bool) (a b p q : ℕ) (r : Round) (v : Bool) → replies y a b (post p q (Decision r v)) ≡ 0
replies_decision true a b p q r v = refl
replies_decision false a b p q r v = refl

not_held_free : (f : Phase) → held f ≡ false → f ≡ Free
not_held_free = free_of

answered_is : (r : Round) (f : Phase) → has_answered r f ≡ true → f ≡ Answered r
answered_is Save Free h = absurd (false≢true h)
answered_is Save (Gathering k) h = absurd (false≢true h)
answered_is Save (Answered Save) h = refl
answered_is Save (Answered Back) h = absurd (false≢true h)
answered_is Back Free h = absurd (false≢true h)
answered_is Back (Gathering k) h = absurd (false≢true h)
answered_is Back (Answered Save) h = absurd (false≢true h)
answered_is Back (Answered Back) h = refl

decision_stage : (g : Stage) (lab : ℕ → ℕ → ℕ) (a b : ℕ) (r : Round) (v : Bool) →
    FitsNote g lab (post a b (Decision r v)) → g ≡ Settled r v
decision_stage (Asking k s) lab a b r v h = absurd h
decision_stage (Settled k w) lab a b r v h = ap (λ x. Settled x w) (sym h.0) ∙ ap (Settled r) (sym h.1)

able_lost : (r : Round) (w : Row) (k : ℕ) → able r w k ≡ true → r ≡ Save → w.lost ≡ false
able_lost Save w k h e = not-true w.lost (and_parts (not w.lost) (ltb 0 k) (and_parts w.willing _ h).1).0
able_lost Back w k h e = let z : ◌≡◌ {A = ℕ} 0 1 = cc in absurd (omega arith)

able_spare : (r : Round) (w : Row) (k : ℕ) → able r w k ≡ true → r ≡ Save → 0 < k
able_spare Save w k h e = ltb-true 0 k (and_parts (not w.lost) (ltb 0 k) (and_parts w.willing _ h).1).1
able_spare Back w k h e = let z : ◌≡◌ {A = ℕ} 0 1 = cc in absurd (omega arith)

-- a board that says yes has no need
yes_no_need : (r : Round) (w : Row) (b : Bool) → says_yes r w b ≡ true → b ≡ false
yes_no_need Save w b h = not-true b (and_parts (w.willing && not w.lost) (not b) h).1
yes_no_need Back w b h = not-true b (and_parts (w.willing || w.lost) (not b) h).1

all_drawn : {A : Type 0} (r : Round) (m : Meaning A) (p : ℕ) → (r ≡ Save → put_answer m p ≡ Ok tt) →
    AllByRecursion (λ a. a ≡ Ok tt) (drawn_answer r m p)
all_drawn Save m p ok = (ok refl, tt)
all_drawn Back m p ok = tt

all_carried : {A : Type 0} (r : Round) (m : Meaning A) (p : ℕ) → (r ≡ Save → keep_answer m p ≡ Ok tt) →
    AllByRecursion (λ a. a ≡ Ok tt) (carried_answer r m p)
all_carried Save m p ok = (ok refl, tt)
all_carried Back m p ok = tt

-- orphans by labels, of stories read backwards, are orphans
no_orphan : (n : ℕ) (st : ℕ → Story) → ((i : ℕ) → Positive (reverse (st i))) → NoLabelOrphan n (λ i. reverse (st i)) →
    NoOrphan n st
no_orphan n st g h q p l w x y t =
    let t' = told-reverse (Heard p l w) (st q) t in
    let o = told_positive p l w (reverse (st q)) (g q) t' in
    let k = sent_told q l (reverse (st p)) o (h q p l x y o (told_heard p l w (reverse (st q)) t')) in
    (k.0, reverse-told (Sent q l k.0) (st p) k.1)

orphaned : (n : ℕ) (st : ℕ → Story) → LabelOrphan n (λ i. reverse (st i)) → Orphan n st
orphaned n st o =
    let k = heard_told o.sender o.label (reverse (st o.receiver)) o.label_pos o.is_heard in
    record {
      receiver = o.receiver;
      sender = o.sender;
      label = o.label;
      word = k.0;
      receiver_in = o.receiver_in;
      sender_in = o.sender_in;
      is_heard = reverse-told (Heard o.sender o.label k.0) (st o.receiver) k.1;
      not_sent = λ v t. o.not_sent
          (told_sent o.receiver o.label v (reverse (st o.sender))
          (told-reverse (Sent o.receiver o.label v) (st o.sender) t));
    }

module _ {A : Type 0} (n : ℕ) (rules : Rules A) (wear : ℕ) where
  -- the invariant, of a history as it is told
  abbrev pub Sound : State A → History → Type 0
  Sound s h = Inv n rules s (backwards h)

  sound_told : (s : State A) (h : History) (e : Effect) →
      Inv n rules (act n rules wear s e) (retell s (backwards h) e) → Sound (act n rules wear s e) (tell s h e)
  sound_told s h e i = subst (Inv n rules (act n rules wear s e)) (sym (backwards_tell s h e)) i

  -- effects that keep the invariant, draw in nobody in vain and are refused nothing by the store
  pub record Fine (before : History) (s : State A) (h : History) (es : List Effect) : Type 0 where
    pub sound : Sound (told_by n rules wear s h es).state (told_by n rules wear s h es).history
    pub in_vain : NobodyInVain n before (told_by n rules wear s h es).history
    pub takes : AllByRecursion (λ a. a ≡ Ok tt) (effect_answers n rules wear s es)

  finished : (before : History) (s : State A) (h : History) → h.agreed ≡ false → Sound s h → Fine before s h []
  finished before s h e i = record { sound = i; in_vain = λ k. absurd (true≢false (sym k ∙ e)); takes = tt }

  ahead : (before : History) (s : State A) (h : History) (e : Effect) (es : List Effect) →
      AllByRecursion (λ a. a ≡ Ok tt) (effect_answer s e) →
      Fine before (act n rules wear s e) (tell s h e) es → Fine before s h (e ∷ es)
  ahead before s h e es a f =
      record { sound = f.sound; in_vain = f.in_vain; takes = All-append _ (effect_answer s e) _ a f.takes }

  hushed : (s : State A) (h : History) → Sound s h → Sound s (new_turn h)
  hushed s h i = record {
    store_size = i.store_size;
    base = i.base;
    mid = i.mid;
    since = i.since;
    boards = i.boards;
    flow = i.flow;
    carried = i.carried;
    flushed = i.flushed;
    loom = i.loom;
    notes = i.notes;
    kept_free = i.kept_free;
    present_free = i.present_free;
    frame = i.frame;
    reasons = i.reasons;
  }

  module _ (s : State A) (h : History) (inv : Sound s h) (quiet : h.agreed ≡ false) (before : History)
      (same : before.kept ≡ h.kept) (p : ℕ) where
    abbrev is_member : ℕ → Bool
    is_member b = eqb b p || member b h.joined

    ph_after : (r : Round) → ((act n rules wear s (Decides r p)).rows p).role.phase ≡ Answered r
    ph_after r = ap (λ t. (cond t (with_role (s.rows p) (role_answered (s.rows p).role r)) (s.rows p)).role.phase)
        (eqb_same p)

    -- the state and the history once the starter has decided
    abbrev s₁ : Round → State A
    s₁ r = act n rules wear s (Decides r p)

    abbrev h₁ : Round → History
    h₁ r = tell s h (Decides r p)

    -- the starter decides and carries it out
    module _ (r : Round) (e : (s.rows p).role.phase ≡ Gathering r) (own' : (s.rows p).role.asker ≡ p)
        (idle : (b : ℕ) → b < n → (s.rows p).role.awaited b ≡ false) where
      decided : Sound (act n rules wear s (Decides r p)) (tell s h (Decides r p))
      decided = sound_told s h (Decides r p) (keeps_decide n rules wear s (backwards h) inv r p e own' idle)

      carried_out : Sound (act n rules wear (s₁ r) (Carries r (s.rows p).role.answer p))
          (tell (s₁ r) (h₁ r) (Carries r (s.rows p).role.answer p))
      carried_out = sound_told (s₁ r) (h₁ r) (Carries r (s.rows p).role.answer p)
          (keeps_carry n rules wear (s₁ r) (backwards (h₁ r)) decided p r (s.rows p).role.answer (ph_after r) refl)

      starter_stays : (out : ℕ → Bool) → ((b : ℕ) → out b ≡ true → member b h.joined ≡ true) → out p ≡ false
      starter_stays out sub = elim (cases_Bool (out p)) [
        | inl k ↦ absurd (start_out (roles_of s) p h.joined
            (frame_at n rules wear s (backwards h) inv r p e own' idle).tree.chain (sub p k))
        | inr k ↦ k
      ]

    decides_fine : (r : Round) (e : (s.rows p).role.phase ≡ Gathering r) (own' : (s.rows p).role.asker ≡ p)
        (idle : (b : ℕ) → b < n → (s.rows p).role.awaited b ≡ false) →
        NobodyInVain n before (tell (s₁ r) (h₁ r) (Carries r (s.rows p).role.answer p)) →
        Fine before s h (Decides r p ∷ Carries r (s.rows p).role.answer p ∷ [])
    decides_fine r e own' idle v =
        ahead before s h (Decides r p) _ tt (ahead before (s₁ r) (h₁ r) (Carries r (s.rows p).role.answer p) []
        (all_carried r s.store p
        (sure_keep n rules (s₁ r) (backwards (h₁ r)) (decided r e own' idle) p r (ph_after r)))
        (record { sound = carried_out r e own' idle; in_vain = v; takes = tt }))

    reverse_save : (out : ℕ → Bool) (j : ℕ) →
        cond (out j) (reverse (h.kept j)) (cond (is_member j) (reverse (h.drawn j)) (reverse (h.kept j))) ≡
        reverse (cond (out j) (h.kept j) (cond (is_member j) (h.drawn j) (h.kept j)))
    reverse_save out j = ap (cond (out j) (reverse (h.kept j)))
        (sym (reverse-cond (is_member j) (h.drawn j) (h.kept j))) ∙ sym (reverse-cond (out j) (h.kept j) _)

    reverse_back : (out : ℕ → Bool) (j : ℕ) →
        cond (out j) (reverse (h.own j))
        (cond (agreed_due Back true is_member h.due j) (reverse (h.kept j)) (reverse (h.own j))) ≡
        reverse (cond (out j) (h.own j) (cond (agreed_due Back true is_member h.due j) (h.kept j) (h.own j)))
    reverse_back out j = ap (cond (out j) (reverse (h.own j)))
        (sym (reverse-cond (agreed_due Back true is_member h.due j) (h.kept j) (h.own j)))
        ∙ sym (reverse-cond (out j) (h.own j) _)

    settle_go : (f : Phase) (b1 b2 : Bool) → (s.rows p).role.phase ≡ f →
        nobody_below n (s.rows p).role.awaited ≡ b1 → eqb (s.rows p).role.asker p ≡ b2 →
        Fine before s h (settled_by f b1 b2 (s.rows p).role.answer p)
    settle_go Free b1 b2 e i o = finished before s h quiet inv
    settle_go (Answered r) b1 b2 e i o = finished before s h quiet inv
    settle_go (Gathering r) false b2 e i o = finished before s h quiet inv
    settle_go (Gathering r) true false e i o = ahead before s h (Answers r p) [] tt (finished before _ _ quiet
        (sound_told s h (Answers r p)
        (keeps_answer n rules wear s (backwards h) inv r p e (λ k. eqb-false _ p o k) (nobody_is n _ i))))
    settle_go (Gathering Save) true true e i o =
        let own' = eqb-true _ p o in let idle = nobody_is n _ i in
        decides_fine Save e own' idle (λ ag out sub z oz.
        let op = starter_stays Save e own' idle out sub in
        let m = keeps_minimal n rules wear s (backwards h) inv Save p e own' idle ag out op z (sub z oz) oz in
        subst₂ (λ b k. Orphan n (λ j. cond (out j) (k j) (agreed_kept Save b is_member h.drawn h.kept j)))
        (sym ag) (sym same)
        (orphaned n _ (subst (LabelOrphan n) (fun_ext (reverse_save out)) m)))
    settle_go (Gathering Back) true true e i o =
        let own' = eqb-true _ p o in let idle = nobody_is n _ i in
        decides_fine Back e own' idle (λ ag out sub z oz.
        let op = starter_stays Back e own' idle out sub in
        let m = keeps_minimal n rules wear s (backwards h) inv Back p e own' idle ag out op z (sub z oz) oz in
        let eqs : (j : ℕ) → cond (out j) (h.own j)
        (cond (agreed_due Back true is_member h.due j) (h.kept j) (h.own j)) ≡
        cond (out j) (changed h.own p (h.kept p) j)
        (cond (changed (agreed_due Back true is_member h.due) p false j) (h.kept j)
        (changed h.own p (h.kept p) j))
        = λ j. elim (eqb_tells j p) [
          | inl k ↦ (let oj : out j ≡ false = ap out k.1 ∙ op in rw (oj, k.0) (ap h.kept k.1))
          | inr k ↦ rw k.0 refl
        ] in
        subst (λ b. Orphan n (λ j. cond (out j)
        (carried_own Back b h.own (agreed_kept Back b is_member h.drawn h.kept) p j)
        (cond (carried_due Back b (agreed_due Back b is_member h.due) p j)
        (agreed_kept Back b is_member h.drawn h.kept j)
        (carried_own Back b h.own (agreed_kept Back b is_member h.drawn h.kept) p j))))
        (sym ag) (subst (Orphan n) (fun_ext eqs)
        (orphaned n _ (subst (LabelOrphan n) (fun_ext (reverse_back out)) m))))

    settle_fine : Fine before s h (settled n s p)
    settle_fine = settle_go _ _ _ refl refl refl

  module _ (s : State A) (h₀ : History) (inv₀ : Sound s h₀) where
    abbrev h : History
    h = new_turn h₀

    abbrev τ : History
    τ = backwards h

    inv : Sound s h
    inv = hushed s h₀ inv₀

    pub record Good (o : Plan) : Type 0 where
      pub sound : Sound (after n rules wear s h o).state (after n rules wear s h o).history
      pub in_vain : NobodyInVain n h₀ (after n rules wear s h o).history
      pub takes : AllByRecursion (λ a. a ≡ Ok tt) (store_answers n rules wear s o)

    refused : (b : Bool) (k : Refusal) (o : Plan) → (b ≡ false → Good o) → Good (refuse_if b k o)
    refused true k o g = record { sound = inv; in_vain = λ e. absurd (false≢true e); takes = tt }
    refused false k o g = let f = g refl in record { sound = f.sound; in_vain = f.in_vain; takes = f.takes }

    done : (k : Option Note) (es : List Effect) → Fine h₀ s h es → Good (Do k es)
    done k es f = record { sound = f.sound; in_vain = f.in_vain; takes = f.takes }

    -- one effect, which asks nothing of the store and agrees no round
    once : (e : Effect) → effect_answer s e ≡ [] → (tell s h e).agreed ≡ false →
        Inv n rules (act n rules wear s e) (retell s τ e) → Fine h₀ s h (e ∷ [])
    once e a q i = ahead h₀ s h e [] (subst (AllByRecursion (λ x. x ≡ Ok tt)) (sym a) tt)
        (finished h₀ _ _ q (sound_told s h e i))

    some : (k : ℕ) → (k ≡ 0 → ⊥) → 0 < k
    some zero g = absurd (g refl)
    some (suc k) g = omega arith

    below : (p : ℕ) → not (ltb p n) ≡ false → p < n
    below p g = ltb-true p n (not-false _ g)

    both_below : (p q : ℕ) → not (ltb p n && ltb q n) ≡ false → (p < n) × (q < n)
    both_below p q g = let c = and_parts (ltb p n) (ltb q n) (not-false _ g) in
        (ltb-true p n c.0, ltb-true q n c.1)

    shut : is_open n s ≡ false →
        ((i : ℕ) → i < n → held (s.rows i).role.phase ≡ false) × (tally is_control s.wire ≡ 0)
    shut g = let c = or_parts (not (nobody_below n (λ i. held (s.rows i).role.phase)))
        (ltb 0 (tally is_control s.wire)) g in
        (nobody_is n _ (not-false _ c.0), (let u = ltb-false 0 (tally is_control s.wire) c.1 in omega arith))

    -- the messages
    on_heard : (p q l w : ℕ) (b : Bool) → (s.rows q).lost ≡ b → earliest p q s.wire ≡ Some (post p q (Word l w)) →
        Fine h₀ s h (heard_when n rules wear b p q l w)
    on_heard p q l w true e f =
        once (Discards p q) refl refl
        (keeps_toss n rules wear s τ inv p q _ f (λ a b. refl) (λ y a b. replies_word y a b p q l w))
    on_heard p q l w false e f = once (Hears p q l w) refl refl (keeps_hear n rules wear s τ inv p q l w f e)

    on_asked : (p q l : ℕ) (r : Round) (g d y : Bool) → held (s.rows q).role.phase ≡ g →
        (need r (s.rows q).marks p l && able r (s.rows q) s.store.spare) ≡ d →
        (y ≡ true → need r (s.rows q).marks p l ≡ false) → earliest p q s.wire ≡ Some (post p q (Ask r l)) →
        Fine h₀ s h (asked_when n rules wear g d y s p q r)
    on_asked p q l r true d y eh ed ey f =
        once (Replies p q _) refl refl (keeps_reply n rules wear s τ inv p q r l _ f (inl eh))
    on_asked p q l r false false y eh ed ey f =
        once (Replies p q y) refl refl (keeps_reply n rules wear s τ inv p q r l y f (inr ey))
    on_asked p q l r false true y eh ed ey f =
        let c = and_parts _ _ ed in
        let sure : r ≡ Save → put_answer s.store q ≡ Ok tt =
        λ e. sure_put n rules s τ inv q (all_taken (InLoom n) (taken p q _ s.wire f) inv.loom).1
        (free_of _ eh)
        (able_spare r (s.rows q) s.store.spare c.1 e) in
        ahead h₀ s h (Joins r p q) _ (all_drawn r s.store q sure)
        (settle_fine (act n rules wear s (Joins r p q)) (tell s h (Joins r p q))
        (sound_told s h (Joins r p q)
        (keeps_draw n rules wear s τ inv r p q l f (free_of _ eh) c.0
        (able_lost r (s.rows q) s.store.spare c.1) sure)) refl h₀ refl q)

    on_decided : (p q : ℕ) (r : Round) (v b : Bool) → has_answered r (s.rows q).role.phase ≡ b →
        earliest p q s.wire ≡ Some (post p q (Decision r v)) →
        Fine h₀ s h (decided_when n rules wear b p q r v)
    on_decided p q r v false e f =
        once (Discards p q) refl refl
        (keeps_toss n rules wear s τ inv p q _ f (λ a b. refl) (λ y a b. replies_decision y a b p q r v))
    on_decided p q r v true e f =
        let t = keeps_toss n rules wear s τ inv p q _ f (λ a b. refl) (λ y a b. replies_decision y a b p q r v) in
        let st = decision_stage τ.stage _ p q r v
        (all_taken (FitsNote τ.stage (labels τ.stage (marks_of s))) (taken p q _ s.wire f)
        inv.notes) in
        let u = act n rules wear s (Discards p q) in
        ahead h₀ s h (Discards p q) _ tt
        (ahead h₀ u h (Carries r v q) []
        (all_carried r s.store q (sure_keep n rules s τ inv q r (answered_is r _ e)))
        (finished h₀ _ _ refl (sound_told u h (Carries r v q)
        (keeps_carry n rules wear u τ t q r v (answered_is r _ e) st))))

    on_note : (p q : ℕ) (x : Note) → earliest p q s.wire ≡ Some (post p q x) →
        Fine h₀ s h (delivered n rules wear s p q x)
    on_note p q (Word l w) f = on_heard p q l w _ refl f
    on_note p q (Ask r l) f = on_asked p q l r _ _ _ refl refl
        (yes_no_need r (s.rows q) (need r (s.rows q).marks p l)) f
    on_note p q (Reply y) f = ahead h₀ s h (Counts p q y) _ tt
        (settle_fine (act n rules wear s (Counts p q y)) (tell s h (Counts p q y))
        (sound_told s h (Counts p q y) (keeps_count n rules wear s τ inv p q y f)) refl h₀ refl q)
    on_note p q (Decision r v) f = on_decided p q r v _ refl f

    goes_is : (p q a b : ℕ) → cond (eqb a p) (eqb b q) false ≡ true → (a ≡ p) × (b ≡ q)
    goes_is p q a b g = elim (eqb_tells a p) [
      | inl e ↦ (e.1, eqb-true b q (rw e.0 at g))
      | inr e ↦ absurd (false≢true (rw e.0 at g))
    ]

    on_taken : (p q : ℕ) (o : Option Message) → earliest p q s.wire ≡ o → Good (taken_off n rules wear s p q o)
    on_taken p q None e = record { sound = inv; in_vain = λ k. absurd (false≢true k); takes = tt }
    on_taken p q (Some (post a b x)) e =
        let g = goes_is p q a b (taken_goes (taken p q _ s.wire e)) in
        done _ _ (on_note p q x (subst₂ (λ u v. earliest p q s.wire ≡ Some (post u v x)) g.0 g.1 e))

    on_start : (r : Round) (p : ℕ) → p < n → is_open n s ≡ false → (r ≡ Save → (s.rows p).lost ≡ false) →
        (r ≡ Save → 0 < s.store.spare) → Good (started n rules wear s r p)
    on_start r p l o lo sp =
        let sure : r ≡ Save → put_answer s.store p ≡ Ok tt =
        λ e. sure_put n rules s τ inv p l (free_of _ ((shut o).0 p l)) (sp e) in
        done _ _ (ahead h₀ s h (Starts r p) _ (all_drawn r s.store p sure)
        (settle_fine (act n rules wear s (Starts r p)) (tell s h (Starts r p))
        (sound_told s h (Starts r p) (keeps_start n rules wear s τ inv r p l (shut o).0 (shut o).1 lo sure))
        refl h₀ refl p))

    back_save : Back ≡ Save → ⊥
    back_save e = let z : ◌≡◌ {A = ℕ} 0 1 = cc in omega arith

    pub keeps_turn : (t : Turn) → Good (turn_plan n rules wear s t)
    keeps_turn (Work p w) = refused _ _ _
        (λ _. refused _ _ _ (λ _. refused _ _ _
        (λ lo. done _ _ (once (Works p w) refl refl (keeps_work n rules wear s τ inv p w lo)))))
    keeps_turn (Send p q w) = refused _ _ _
        (λ b. refused _ _ _ (λ ne. refused _ _ _
        (λ _. refused _ _ _ (λ lo. refused _ _ _ (λ g. refused _ _ _ (λ _. refused _ _ _ (λ _.
        done _ _ (once (Sends p q w) refl refl
        (keeps_send n rules wear s τ inv p q w (both_below p q b).0 (both_below p q b).1 (eqb-false p q ne)
        (free_of _ g) lo)))))))))
    keeps_turn (Deliver p q) = refused _ _ _ (λ _. refused _ _ _ (λ _. refused _ _ _ (λ _. on_taken p q _ refl)))
    keeps_turn (Checkpoint p) =
        refused _ _ _ (λ b. refused _ _ _
        (λ _. refused _ _ _ (λ lo. refused _ _ _ (λ o. refused _ _ _ (λ _. refused _ _ _ (λ sp.
        on_start Save p (below p b) o (λ _. lo) (λ _. some s.store.spare (eqb-false s.store.spare 0 sp))))))))
    keeps_turn (Rollback p) = refused _ _ _ (λ b. refused _ _ _ (λ _. refused _ _ _ (λ o. refused _ _ _ (λ _.
        on_start Back p (below p b) o (λ e. absurd (back_save e)) (λ e. absurd (back_save e))))))
    keeps_turn (Stop p) = refused _ _ _
        (λ _. refused _ _ _ (λ _. done _ _
        (once _ refl refl (keeps_flag n rules wear s τ inv p _ true _ true (λ e. absurd (true≢false e))))))
    keeps_turn (Restart p) = refused _ _ _
        (λ _. refused _ _ _ (λ _. done _ _
        (once _ refl refl (keeps_flag n rules wear s τ inv p _ (s.rows p).lost _ false (λ e. (e, refl))))))
    keeps_turn (SetWilling p b) =
        refused _ _ _ (λ _. refused _ _ _
        (λ _. done _ _ (once _ refl refl
        (keeps_flag n rules wear s τ inv p _ (s.rows p).lost _ false (λ e. (e, refl))))))

    pub keeps_step : (step : Step) → Good (plan_of n rules wear s step.records step.turn)
    keeps_step step = refused (not (eqb step.records n)) WrongTable (turn_plan n rules wear s step.turn)
        (λ _. keeps_turn step.turn)

  -- at the start
  new_size : {B : Type 0} (k : ℕ) (x : B) → length (replicate k x) ≡ k
  new_size zero x = refl
  new_size (suc k) x = ap suc (new_size k x)

  new_stored : (k i spare : ℕ) →
      stored_in rules (fresh_meaning rules.first spare k) i ≡ record { standing = rules.first; pending = None }
  new_stored zero i spare = refl
  new_stored (suc k) zero spare = refl
  new_stored (suc k) (suc i) spare = new_stored k i spare

  new_marked : Marked new_marks 0 [] [] [] []
  new_marked = record {
    split = refl;
    heard_is = λ q. refl;
    first_is = λ q. refl;
    heard_aside_is = λ q. refl;
    first_aside_is = λ q. refl;
    saved_is = λ q. refl;
    sent_is = λ q. refl;
    sent_rise = λ q. tt;
    heard_rise = λ q. tt;
    count_top = λ q. omega arith;
    heard_pos = tt;
  }

  new_board : (stored : Kept A) → stored ≡ record { standing = rules.first; pending = None } →
      Board rules (Settled Save false) new_row rules.first stored [] [] [] false [] [] []
  new_board stored e = subst (λ k. Board rules (Settled Save false) new_row rules.first k [] [] [] false [] [] [])
      (sym e) (record {
        marked = new_marked;
        standing_is = refl;
        table_is = λ _. refl;
        pending_is = (refl, refl);
        kept_is = refl;
        due_is = refl;
      })

  pub starts : (k : ℕ) → Sound (new_world n rules k).state (new_world n rules k).history
  starts k = record {
    store_size = new_size n _;
    base = λ i. [];
    mid = λ i. [];
    since = λ i. [];
    boards = λ i. new_board _ (new_stored n i k);
    flow = λ p q. omega arith;
    carried = tt;
    flushed = λ a b. tt;
    loom = tt;
    notes = tt;
    kept_free = λ q p l _ _ _ g. absurd g;
    present_free = λ q p l _ _ _ g. absurd g;
    frame = record {
      tokens = λ a b. refl;
      awaits = λ a b g. absurd (false≢true g);
      near = λ a b _. refl;
      self = λ a. refl;
      dec_one = λ a b. omega arith;
      dec_free = λ a b _. refl;
      fits = λ a. inl refl;
      far = λ a _. refl;
      tree = tt;
    };
    reasons = tt;
  }

  keeps_run : (w : World A) → Sound w.state w.history → (steps : List Step) →
      Sound (run n rules wear w steps).state (run n rules wear w steps).history
  keeps_run w i [] = i
  keeps_run w i (step ∷ steps) =
      keeps_run (after_step n rules wear w step) (keeps_step w.state w.history i step).sound steps

  module _ (s : State A) (h : History) (inv : Sound s h) (few : tally is_word s.wire ≤ most_words) where
    one_token : (a b : ℕ) → tally (token a b) s.wire ≤ 1
    one_token a b =
        let x = token_is a b s.wire in let y = inv.frame.tokens a b in let z = inv.frame.dec_one a b in
        elim (cases_lt 0 (tally (decisions a b) s.wire)) [
          | inl g ↦ (let f = inv.frame.dec_free a b g in
              let w : bit ((s.rows a).role.awaited b) ≡ 0 =
              ap bit (free_awaits n rules wear s (backwards h) inv a b (ap gathering f)) in omega arith)
          | inr g ↦ (let w = bit_le ((s.rows a).role.awaited b) in omega arith)
        ]
      where
        bit_le : (b : Bool) → bit b ≤ 1
        bit_le true = omega arith
        bit_le false = omega arith

    own_pos : (i : ℕ) → Positive (reverse (h.own i))
    own_pos i = (inv.boards i).marked.heard_pos

    kept_pos : (i : ℕ) → Positive (reverse (h.kept i))
    kept_pos i = subst Positive (sym (inv.boards i).kept_is) (
        let m = positive_right (inv.since i) _ (subst Positive (inv.boards i).marked.split (own_pos i)) in
        elim (keeps h.stage (s.rows i).role.phase) as (λ t. Positive
        (cond t (inv.mid i ++ inv.base i) (inv.base i))) [
          | true ↦ m
          | false ↦ positive_right (inv.mid i) _ m
        ])

    present_pos : (i : ℕ) → Positive (reverse (present h i))
    present_pos i = subst Positive (sym (reverse-cond (h.due i) (h.kept i) (h.own i)))
        (elim (h.due i) as (λ t. Positive (cond t (reverse (h.kept i)) (reverse (h.own i)))) [
          | true ↦ kept_pos i
          | false ↦ own_pos i
        ])

    standing_kept : is_open n s ≡ false → (p : ℕ) → p < n → (stored_at rules s p).standing ≡ replayed rules (h.kept p)
    standing_kept o p l = (inv.boards p).standing_is ∙ ap (made rules) (sym ((inv.boards p).kept_is ∙
        ap (λ t. cond t (inv.mid p ++ inv.base p) (inv.base p))
        (ap (keeps h.stage) (free_of _ ((shut s h inv o).0 p l)) ∙ keeps_none h.stage)))
        ∙ made-reverse rules (h.kept p)

    pub laws : Laws n rules (record { state = s; history = h })
    laws = record {
      kept_sound = no_orphan n h.kept kept_pos inv.kept_free;
      present_sound = no_orphan n (present h) present_pos
          (subst (NoLabelOrphan n) (fun_ext (λ i. sym (reverse-cond (h.due i) (h.kept i) (h.own i))))
          inv.present_free);
      records = λ p _ lo. (inv.boards p).table_is lo ∙ made-reverse rules (h.own p);
      standing = λ o p l. stored_standing rules s.store p (in_store n rules s (backwards h) inv p l)
          ∙ ap Ok (standing_kept o p l);
      words = few;
      controls = few_tokens n s.wire inv.loom one_token;
      room = λ le. (let e = length_is s.wire in let f = few_tokens n s.wire inv.loom one_token in
          let k = mul-le-mul le (let j : n - 1 ≤ 18 = omega arith in j) in omega arith);
    }

-- the stories decide nothing of the state
told_acts : {A : Type 0} (n : ℕ) (rules : Rules A) (wear : ℕ) (s : State A) (h : History) (es : List Effect) →
    (told_by n rules wear s h es).state ≡ acts n rules wear s es
told_acts n rules wear s h [] = refl
told_acts n rules wear s h (e ∷ es) = told_acts n rules wear (act n rules wear s e) (tell s h e) es

after-moved : {A : Type 0} (n : ℕ) (rules : Rules A) (wear : ℕ) (s : State A) (h : History) (o : Plan) →
    (after n rules wear s h o).state ≡ moved n rules wear s o
after-moved n rules wear s h (Refuse k) = refl
after-moved n rules wear s h (Do k es) = told_acts n rules wear s h es
after-moved n rules wear s h (refuse_if true k o) = refl
after-moved n rules wear s h (refuse_if false k o) = after-moved n rules wear s h o

pub sound_runs : {A : Type 0} (rules : Rules A) → SoundRuns rules
sound_runs rules n wear spare steps =
    let w = run n rules wear (new_world n rules spare) steps in
    let i = keeps_run n rules wear (new_world n rules spare) (starts n rules wear spare) steps in
    let few = few_run n rules wear (new_world n rules spare) (omega arith) steps in (
      laws n rules wear w.state w.history i few,
      λ step. (let g = keeps_step n rules wear w.state w.history i step in record {
        nobody_in_vain = g.in_vain;
        store_takes = g.takes;
        state_alone = after-moved n rules wear w.state (new_turn w.history)
            (plan_of n rules wear w.state step.records step.turn);
      }),
    )
