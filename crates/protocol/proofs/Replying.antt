-- Taking a message off the wire: thrown away, answered, counted.
use Rattle.std.proofs.Common.{◌≡◌, ℕ, ◌+◌, ◌<◌, Bool, true, false, cond, ◌&&◌, eqb, ltb, leb, ◌⊎◌, List, [], ◌∷◌, ◌++◌, Some, sym, refl, ap, ◌∙◌, subst, subst₂, inl, inr, arith}
use mathlib.Core.Path.{fun_ext}
use Rattle.std.proofs.ByRecursion.{All-append}
use Rattle.std.proofs.lemmas.Bool.{and_cases, and_parts, and_right, cases_Bool, cases_eq, eq-eqb, false≢true, leb-false, ltb-false, ne_eqb, true≢false}
use Rattle.std.proofs.lemmas.Bool.Decides.{eqb_tells, nat_tests}
use Rattle.std.proofs.Math.Nat.{eq-zero-or-pos}
use Rattle.std.specs.List.{AllByRecursion}
use Rattle.records.specs.Rules.{Rules}
use Rattle.records.specs.Stories.{Story}
use Rattle.store.specs.Meaning.{Kept}
use Rattle.protocol.specs.Effects.{Counts, Discards, Replies, State, act}
use Rattle.protocol.specs.Histories.{Asking, History, Settled, Stage}
use Rattle.protocol.specs.Marks.{need}
use Rattle.protocol.specs.Rounds.{role_counted}
use Rattle.protocol.specs.Rows.{Answered, Back, Marks, Role, Round, Row, Save, gathering, held, with_role}
use Rattle.protocol.specs.Wire.{Ask, Message, Reply, earliest, post, tally, without}
use Rattle.protocol.proofs.Backwards.{retell}
use Rattle.protocol.proofs.Stored.{stored_at}
use Rattle.protocol.proofs.Wires.{TakenOff, all_rest, all_taken, asks, at, at_is, at_not_from, at_not_to, decisions}
use Rattle.protocol.proofs.Wires.{flow_append, flow_drop, flushed_append, flushed_rest, flushed_taken, replies, taken}
use Rattle.protocol.proofs.Wires.{tally-append, tally_taken, word_label, words}
use Rattle.protocol.proofs.Invariant.{Board, Chain, FitsNote, Frame, InLoom, Inv, Reasoned, Spared, Treed, Wanted, bit}
use Rattle.protocol.proofs.Invariant.{child, labels, marks_of, roles_of}
use Rattle.protocol.proofs.Plain.{at_upd, eqb_same, frame_like, reasoned_like, same_part, tally_other}
use Rattle.protocol.proofs.Agreement.{bit_true}

-- an ask on the wire tells the stage
pub ask_stage : (g : Stage) (ms : ℕ → Marks) (a b : ℕ) (k : Round) (l : ℕ) →
    FitsNote g (labels g ms) (post a b (Ask k l)) → (s : ℕ) × (g ≡ Asking k s) × (l ≡ labels (Asking k s) ms a b)
ask_stage (Asking r s) ms a b k l h =
    (s, ap (λ x. Asking x s) (sym h.0), h.1 ∙ ap (λ x. labels (Asking x s) ms a b) (sym h.0))
ask_stage (Settled r v) ms a b k l h = absurd h

pub board_role : {R : Type 0} (rules : Rules R) (g : Stage) (row : Row) (t : Role) (tb : R) (sd : Kept R)
    (own kp ck : Story) (du : Bool) (base mid since : Story) →
    t.phase ≡ row.role.phase → Board rules g row tb sd own kp ck du base mid since →
    Board rules g (with_role row t) tb sd own kp ck du base mid since
board_role rules g row t tb sd own kp ck du base mid since e b = record {
  marked = b.marked;
  standing_is = b.standing_is;
  table_is = b.table_is;
  pending_is = rw e b.pending_is;
  kept_is = rw e b.kept_is;
  due_is = rw e b.due_is;
}

module _ {R : Type 0} (n : ℕ) (rules : Rules R) (wear : ℕ) (s : State R) (τ : History) (inv : Inv n rules s τ) where
  pub keeps_toss : (p q : ℕ) (m : Message) → earliest p q s.wire ≡ Some m → ((a b : ℕ) → asks a b m ≡ 0) →
      ((y : Bool) (a b : ℕ) → replies y a b m ≡ 0) →
      Inv n rules (act n rules wear s (Discards p q)) (retell s τ (Discards p q))
  keeps_toss p q m f na nr =
      let t = taken p q m s.wire f in
      let same : (y : Bool) (a b : ℕ) →
      tally (replies y a b) (without p q s.wire) ≡ tally (replies y a b) s.wire
      = λ y a b. let z = tally_taken (replies y a b) t in let o = nr y a b in omega arith in
      let fr : Frame n τ.stage (roles_of s) (λ a b. tally (asks a b) (without p q s.wire))
      (λ a b. tally (replies true a b) (without p q s.wire)) (λ a b. tally (replies false a b) (without p q s.wire))
      (λ a b. tally (decisions a b) s.wire) τ.joined
      = frame_like {d = λ a b. tally (decisions a b) s.wire} {d' = λ a b. tally (decisions a b) s.wire}
      (λ i. refl) (λ a b. let z = tally_taken (asks a b) t in let o = na a b in
      omega arith) (same true) (same false) (λ a b. refl) inv.frame in
      record {
        store_size = inv.store_size;
        base = inv.base;
        mid = inv.mid;
        since = inv.since;
        boards = inv.boards;
        flow = λ a b. flow_drop (word_label a b) _ _ t (inv.flow a b);
        carried = all_rest _ t inv.carried;
        flushed = λ a b. flushed_rest a b t (inv.flushed a b);
        loom = all_rest _ t inv.loom;
        notes = all_rest _ t inv.notes;
        kept_free = inv.kept_free;
        present_free = inv.present_free;
        frame = record {
          tokens = fr.tokens;
          awaits = fr.awaits;
          near = fr.near;
          self = fr.self;
          dec_one = λ a b. (let z = tally_taken (decisions a b) t in let o = inv.frame.dec_one a b in omega arith);
          dec_free = λ a b h. inv.frame.dec_free a b (let z = tally_taken (decisions a b) t in omega arith);
          fits = fr.fits;
          far = fr.far;
          tree = fr.tree;
        };
        reasons = reasoned_like n τ.stage _ _ _ _ s.wire (without p q s.wire) _ _ inv.frame.tree
            (λ i. refl)
            (toss_wanted t) (same true) (λ r a b. refl) (λ r a b h _. toss_spared t r a b h) inv.reasons;
      }
    where
      toss_wanted : {v : List Message} → TakenOff p q m s.wire v → (r : Round) (x : ℕ) →
          held (s.rows x).role.phase ≡ true → held (s.rows (s.rows x).role.asker).role.phase ≡ true →
          Wanted r (marks_of s) s.wire x (s.rows x).role.asker →
          Wanted r (marks_of s) v x (s.rows x).role.asker
      toss_wanted t Save x h k w = w
      toss_wanted t Back x h k w =
          (w.0, (let z = tally_taken (words (s.rows x).role.asker x) t in let y = w.1 in omega arith))

      toss_spared : {v : List Message} → TakenOff p q m s.wire v → (r : Round) (a b : ℕ) (h : Bool) →
          Spared r h (marks_of s) s.wire a b → Spared r h (marks_of s) v a b
      toss_spared t Save a b h w = w
      toss_spared t Back a b h w = (w.0, (let z = tally_taken (words a b) t in let y = w.1 in omega arith))

  -- the answer to an ask
  module _ (p q : ℕ) (k : Round) (l : ℕ) (y : Bool) (f : earliest p q s.wire ≡ Some (post p q (Ask k l)))
      (why : (held (s.rows q).role.phase ≡ true) ⊎ (y ≡ true → need k (s.rows q).marks p l ≡ false)) where
    reply_taken : TakenOff p q (post p q (Ask k l)) s.wire (without p q s.wire)
    reply_taken = taken p q _ s.wire f

    reply_loom : (p < n) × (q < n) × (p ≡ q → ⊥)
    reply_loom = all_taken (InLoom n) reply_taken inv.loom

    reply_stage : (z : ℕ) × (τ.stage ≡ Asking k z) × (l ≡ labels (Asking k z) (marks_of s) p q)
    reply_stage = ask_stage τ.stage (marks_of s) p q k l
        (all_taken (FitsNote τ.stage (labels τ.stage (marks_of s))) reply_taken inv.notes)

    reply_wire : List Message
    reply_wire = without p q s.wire ++ post q p (Reply y) ∷ []

    reply_asks : (a b : ℕ) → tally (asks a b) s.wire
        ≡ at a b p q 1 + tally (asks a b) (act n rules wear s (Replies p q y)).wire
    reply_asks a b = let z = tally_taken (asks a b) reply_taken in
        let u = tally_other (asks a b) (post q p (Reply y)) (without p q s.wire) refl in omega arith

    reply_words : (a b : ℕ) → tally (words a b) (act n rules wear s (Replies p q y)).wire
        ≡ tally (words a b) s.wire
    reply_words a b = let z = tally_taken (words a b) reply_taken in
        let u = tally_other (words a b) (post q p (Reply y)) (without p q s.wire) refl in omega arith

    reply_replies : (v : Bool) (a b : ℕ) →
        tally (replies v a b) (act n rules wear s (Replies p q y)).wire
        ≡ tally (replies v a b) s.wire + replies v a b (post q p (Reply y))
    reply_replies v a b = let z = tally_taken (replies v a b) reply_taken in
        let u = tally-append (replies v a b) (without p q s.wire) (post q p (Reply y) ∷ []) in
        let o : replies v a b (post p q (Ask k l)) ≡ 0 = replies_ask v a b in omega arith
      where
        replies_ask : (v : Bool) (a b : ℕ) → replies v a b (post p q (Ask k l)) ≡ 0
        replies_ask true a b = refl
        replies_ask false a b = refl

    reply_sum : (a b : ℕ) → replies true b a (post q p (Reply y)) + replies false b a (post q p (Reply y))
        ≡ at a b p q 1
    reply_sum a b = (elim y as (λ v. replies true b a (post q p (Reply v)) + replies false b a (post q p (Reply v))
        ≡ at a b p q 1)
        [ true ↦ grind (arith, nat_tests) | false ↦ grind (arith, nat_tests) ])

    reply_spared : (r : Round) → k ≡ r → (z : ℕ) → l ≡ labels (Asking r z) (marks_of s) p q → y ≡ true →
        Spared r (held (s.rows q).role.phase) (marks_of s) (act n rules wear s (Replies p q y)).wire p q
    reply_spared Save e z g o = elim why [
      | inl h ↦ inl h
      | inr h ↦ inr (let nd : need Save (s.rows q).marks p l ≡ false =
          subst (λ x. need x (s.rows q).marks p l ≡ false) e (h o) in
          elim (and_cases (ltb 0 ((s.rows q).marks.first p)) (leb ((s.rows q).marks.first p) l) nd) [
            | inl i ↦ inl (let u = ltb-false 0 ((s.rows q).marks.first p) i in omega arith)
            | inr i ↦ inr (let u = leb-false ((s.rows q).marks.first p) l i in omega arith)
          ])
    ]
    reply_spared Back e z g o = (
      elim why [
        | inl h ↦ inl h
        | inr h ↦ inr (let nd : need Back (s.rows q).marks p l ≡ false =
            subst (λ x. need x (s.rows q).marks p l ≡ false) e (h o) in
            let u = ltb-false l ((s.rows q).marks.heard p) nd in omega arith)
      ],
      reply_words p q ∙ (let u =
          flushed_taken p q {m = post p q (Ask k l)}
          (let o : asks p q (post p q (Ask k l)) ≡ 1 = rw (eqb_same p, eqb_same q) in
          omega arith) reply_taken (inv.flushed p q) in
          let z = tally_taken (words p q) reply_taken in omega arith),
    )

    reply_reasons : (g : Stage) → (z : ℕ) → g ≡ Asking k z → l ≡ labels (Asking k z) (marks_of s) p q →
        Reasoned n g (roles_of s) (marks_of s) s.wire →
        Reasoned n g (roles_of s) (marks_of s) (act n rules wear s (Replies p q y)).wire
    reply_reasons (Settled r v) z e g h = tt
    reply_reasons (Asking r z') z e g h = record {
      wanted = λ x hx ne. reply_wanted r x (s.rows x).role.asker (h.wanted x hx ne);
      covered = λ a b hx as' o. elim (cases_eq (replies true b a (post q p (Reply y))) 0) [
        | inl c ↦ spared_same r a b _
            (h.covered a b hx as' (elim o [
              | inl i ↦ inl (let w = reply_replies true b a in omega arith)
              | inr i ↦ inr i
            ]))
        | inr c ↦ (let i : (b ≡ q) × (a ≡ p) × (y ≡ true) = reply_is y b a c in
            let kr : k ≡ r = cc in let gg : l ≡ labels (Asking r z) (marks_of s) p q =
            subst (λ x. l ≡ labels (Asking x z) (marks_of s) p q) kr g in
            subst₂ (λ u v. Spared r (held (s.rows v).role.phase) (marks_of s)
            (act n rules wear s (Replies p q y)).wire u v) (sym i.1) (sym i.0)
            (reply_spared r kr z gg i.2))
      ];
    }
      where
        reply_wanted : (r : Round) (x m : ℕ) → Wanted r (marks_of s) s.wire x m →
            Wanted r (marks_of s) (act n rules wear s (Replies p q y)).wire x m
        reply_wanted Save x m w = w
        reply_wanted Back x m w = (w.0, reply_words m x ∙ w.1)

        spared_same : (r : Round) (a b : ℕ) (h : Bool) → Spared r h (marks_of s) s.wire a b →
            Spared r h (marks_of s) (act n rules wear s (Replies p q y)).wire a b
        spared_same Save a b h w = w
        spared_same Back a b h w = (w.0, reply_words a b ∙ w.1)

        reply_is : (v : Bool) (b a : ℕ) → (replies true b a (post q p (Reply v)) ≡ 0 → ⊥) →
            (b ≡ q) × (a ≡ p) × (v ≡ true)
        reply_is true b a c = elim (eqb_tells q b) [
          | inl i ↦ elim (eqb_tells p a) [
            | inl j ↦ (sym i.1, sym j.1, refl)
            | inr j ↦ absurd (c (rw (i.0, j.0)))
          ]
          | inr i ↦ absurd (c (rw i.0))
        ]
        reply_is false b a c = absurd (c refl)

    reply_tree : (g : Stage) → Treed g (roles_of s) (λ a b. tally (replies false a b) s.wire) τ.joined →
        Treed g (roles_of s) (λ a b. tally (replies false a b) (act n rules wear s (Replies p q y)).wire) τ.joined
    reply_tree (Settled r v) h = tt
    reply_tree (Asking r z) h = record {
      start_phase = h.start_phase;
      start_own = h.start_own;
      members = h.members;
      chain = h.chain;
      noes = λ x e g. elim (h.noes x e g)
          [ inl i ↦ inl (let u = reply_replies false x (s.rows x).role.asker in omega arith) | inr i ↦ inr i ];
    }

    pub keeps_reply : Inv n rules (act n rules wear s (Replies p q y)) (retell s τ (Replies p q y))
    keeps_reply =
        let t = reply_taken in let v = without p q s.wire in
        record {
          store_size = inv.store_size;
          base = inv.base;
          mid = inv.mid;
          since = inv.since;
          boards = inv.boards;
          flow = λ a b. flow_append (word_label a b) _ _ v _ (refl, tt)
              (flow_drop (word_label a b) _ _ t (inv.flow a b));
          carried = All-append _ v _ (all_rest _ t inv.carried) (tt, tt);
          flushed = λ a b. flushed_append a b v _ (inr refl) (inl refl, tt) (flushed_rest a b t (inv.flushed a b));
          loom = All-append _ v _ (all_rest _ t inv.loom)
              ((reply_loom.1, reply_loom.0, (λ e. reply_loom.2 (sym e))), tt);
          notes = All-append _ v _ (all_rest _ t inv.notes) (tt, tt);
          kept_free = inv.kept_free;
          present_free = inv.present_free;
          frame = record {
            tokens = λ a b. (let x = inv.frame.tokens a b in let x1 = reply_asks a b in
                let x2 = reply_replies true b a in let x3 = reply_replies false b a in let x4 = reply_sum a b in
                omega arith);
            awaits = inv.frame.awaits;
            near = inv.frame.near;
            self = inv.frame.self;
            dec_one = λ a b. (let z = tally_taken (decisions a b) t in
                let u = tally_other (decisions a b) (post q p (Reply y)) v refl in let o = inv.frame.dec_one a b in
                omega arith);
            dec_free = λ a b h. inv.frame.dec_free a b (let z = tally_taken (decisions a b) t in
                let u = tally_other (decisions a b) (post q p (Reply y)) v refl in omega arith);
            fits = inv.frame.fits;
            far = inv.frame.far;
            tree = reply_tree τ.stage inv.frame.tree;
          };
          reasons = reply_reasons τ.stage reply_stage.0 reply_stage.1 reply_stage.2 inv.reasons;
        }

  -- an answer that comes in
  module _ (p q : ℕ) (y : Bool) (f : earliest p q s.wire ≡ Some (post p q (Reply y))) where
    count_taken : TakenOff p q (post p q (Reply y)) s.wire (without p q s.wire)
    count_taken = taken p q _ s.wire f

    count_row : Row
    count_row = with_role (s.rows q) (role_counted (s.rows q).role p y)

    count_asks : (a b : ℕ) → tally (asks a b) (without p q s.wire) ≡ tally (asks a b) s.wire
    count_asks a b = let z = tally_taken (asks a b) count_taken in omega arith

    count_words : (a b : ℕ) → tally (words a b) (without p q s.wire) ≡ tally (words a b) s.wire
    count_words a b = let z = tally_taken (words a b) count_taken in omega arith

    count_decs : (a b : ℕ) → tally (decisions a b) (without p q s.wire) ≡ tally (decisions a b) s.wire
    count_decs a b = let z = tally_taken (decisions a b) count_taken in omega arith

    count_replies : (v : Bool) (a b : ℕ) →
        tally (replies v a b) s.wire
        ≡ replies v a b (post p q (Reply y)) + tally (replies v a b) (without p q s.wire)
    count_replies v a b = tally_taken (replies v a b) count_taken

    count_sum : (v : Bool) (a b : ℕ) →
        replies true b a (post p q (Reply v)) + replies false b a (post p q (Reply v)) ≡ at b a p q 1
    count_sum true a b = omega arith
    count_sum false a b = omega arith

    count_one : ((s.rows q).role.awaited p ≡ true) × (tally (asks q p) s.wire ≡ 0)
        × (child (s.rows p).role q p ≡ 0) ×
        (tally (replies true p q) s.wire + tally (replies false p q) s.wire ≡ 1)
    count_one =
        let x = inv.frame.tokens q p in let x2 = count_replies true p q in let x3 = count_replies false p q in
        let x4 = count_sum y q p in
        let o : at p q p q 1 ≡ 1 = rw (eqb_same p, eqb_same q) in
        let b : (s.rows q).role.awaited p ≡ true = bit_true _ (omega arith) in
        let c : bit ((s.rows q).role.awaited p) ≡ 1 = ap bit b in (b, omega arith, omega arith, omega arith)

    count_gathers : gathering (s.rows q).role.phase ≡ true
    count_gathers = inv.frame.awaits q p count_one.0

    talk_same_phase : (i : ℕ) → (roles_of (act n rules wear s (Counts p q y)) i).phase ≡ (s.rows i).role.phase
    talk_same_phase = same_part (λ x. x.role.phase) s.rows q
        (with_role (s.rows q) (role_counted (s.rows q).role p y)) refl

    talk_same_asker : (i : ℕ) → (roles_of (act n rules wear s (Counts p q y)) i).asker ≡ (s.rows i).role.asker
    talk_same_asker = same_part (λ x. x.role.asker) s.rows q
        (with_role (s.rows q) (role_counted (s.rows q).role p y)) refl

    talk_same_cohort : (i : ℕ) → (roles_of (act n rules wear s (Counts p q y)) i).cohort ≡ (s.rows i).role.cohort
    talk_same_cohort = same_part (λ x. x.role.cohort) s.rows q
        (with_role (s.rows q) (role_counted (s.rows q).role p y)) refl

    child_same : (a b : ℕ) → child (roles_of (act n rules wear s (Counts p q y)) b) a b ≡ child (s.rows b).role a b
    child_same a = at_upd (λ b x. child x.role a b ≡ child (s.rows b).role a b) s.rows q
        (with_role (s.rows q) (role_counted (s.rows q).role p y)) refl (λ i e. refl)

    count_awaited : (a b : ℕ) →
        (roles_of (act n rules wear s (Counts p q y)) a).awaited b
        ≡ cond (eqb a q) (cond (eqb b p) false ((s.rows a).role.awaited b)) ((s.rows a).role.awaited b)
    count_awaited a b = at_upd
        (λ a x. x.role.awaited b
        ≡ cond (eqb a q) (cond (eqb b p) false ((s.rows a).role.awaited b)) ((s.rows a).role.awaited b)) s.rows q
        (with_role (s.rows q) (role_counted (s.rows q).role p y))
        (rw (eqb_same q)) (λ i e. rw e) a

    count_answer : (a : ℕ) → (roles_of (act n rules wear s (Counts p q y)) a).answer
        ≡ cond (eqb a q) ((s.rows a).role.answer && y) (s.rows a).role.answer
    count_answer a = at_upd (λ a x. x.role.answer
        ≡ cond (eqb a q) ((s.rows a).role.answer && y) (s.rows a).role.answer) s.rows q
        (with_role (s.rows q) (role_counted (s.rows q).role p y))
        (rw (eqb_same q)) (λ i e. rw e) a

    awaited_before : (a b : ℕ) → (roles_of (act n rules wear s (Counts p q y)) a).awaited b ≡ true →
        (s.rows a).role.awaited b ≡ true
    awaited_before a b h = (let e = sym (count_awaited a b) ∙ h in elim (eqb_tells a q) [
      | inl i ↦ elim (eqb_tells b p) [
        | inl j ↦ absurd (false≢true (rw (i.0, j.0) at e))
        | inr j ↦ rw (i.0, j.0) at e
      ]
      | inr i ↦ rw i.0 at e
    ])

    count_tokens : (a b : ℕ) →
        tally (asks a b) (without p q s.wire) +
        (tally (replies true b a) (without p q s.wire) + tally (replies false b a) (without p q s.wire)) +
        child (roles_of (act n rules wear s (Counts p q y)) b) a b
        ≡ bit ((roles_of (act n rules wear s (Counts p q y)) a).awaited b)
    count_tokens a b =
        let x = inv.frame.tokens a b in let x1 = count_asks a b in let x2 = count_replies true b a in
        let x3 = count_replies false b a in let x4 = count_sum y a b in
        let c = child_same a b in let w = ap bit (count_awaited a b) in
        elim (eqb_tells a q) [
          | inl i ↦ elim (eqb_tells b p) [
            | inl j ↦ (let o : at b a p q 1 ≡ 1 = at_is b a p q 1 (sym j.1) (sym i.1) in
                let z : bit ((roles_of (act n rules wear s (Counts p q y)) a).awaited b) ≡ 0 = w
                ∙ rw (i.0, j.0) refl in
                let aw : bit ((s.rows a).role.awaited b) ≡ 1 =
                ap bit (subst₂ (λ u v. (s.rows u).role.awaited v ≡ true) (sym i.1) (sym j.1)
                count_one.0) in omega arith)
            | inr j ↦ (let o : at b a p q 1 ≡ 0 = at_not_from b a p q 1 (λ u. j.1 (sym u)) in
                let z : bit ((roles_of (act n rules wear s (Counts p q y)) a).awaited b)
                ≡ bit ((s.rows a).role.awaited b) = w ∙ rw (i.0, j.0) refl in omega arith)
          ]
          | inr i ↦ (let o : at b a p q 1 ≡ 0 = at_not_to b a p q 1 (λ u. i.1 (sym u)) in
              let z : bit ((roles_of (act n rules wear s (Counts p q y)) a).awaited b)
              ≡ bit ((s.rows a).role.awaited b) = w ∙ rw i.0 refl in omega arith)
        ]

    no_stays : (a : ℕ) → (s.rows a).role.answer ≡ false →
        (roles_of (act n rules wear s (Counts p q y)) a).answer ≡ false
    no_stays a e = count_answer a ∙ elim (eqb_tells a q) [ inl i ↦ rw (i.0, e) refl | inr i ↦ rw i.0 e ]

    yes_before : (a : ℕ) → (roles_of (act n rules wear s (Counts p q y)) a).answer ≡ true →
        (s.rows a).role.answer ≡ true
    yes_before a h = elim (cases_Bool (s.rows a).role.answer) [
      | inl e ↦ e
      | inr e ↦ absurd (true≢false (sym h ∙ no_stays a e))
    ]

    chain_same : (z : ℕ) (xs : List ℕ) → Chain (roles_of s) z xs →
        Chain (roles_of (act n rules wear s (Counts p q y))) z xs
    chain_same z [] c = tt
    chain_same z (x ∷ xs) c = (c.0, rw (talk_same_asker x) c.1, chain_same z xs c.2)

    count_noes : (r : Round) → (x : ℕ) → (s.rows x).role.phase ≡ Answered r →
        (roles_of (act n rules wear s (Counts p q y)) x).answer ≡ false →
        ((s.rows x).role.answer ≡ false →
        (0 < tally (replies false x (s.rows x).role.asker) s.wire)
        ⊎ ((s.rows (s.rows x).role.asker).role.answer ≡ false)) →
        (0 < tally (replies false x (s.rows x).role.asker) (without p q s.wire))
        ⊎ ((roles_of (act n rules wear s (Counts p q y)) (s.rows x).role.asker).answer ≡ false)
    count_noes r x e g h =
        let nq : x ≡ q → ⊥ = λ i. true≢false
        (sym (subst (λ u. gathering (s.rows u).role.phase ≡ true) (sym i) count_gathers) ∙ ap gathering e) in
        let g' : (s.rows x).role.answer ≡ false = sym (count_answer x ∙ rw (ne_eqb x q nq) refl) ∙ g in
        elim (h g') [
          | inr i ↦ inr (no_stays _ i)
          | inl i ↦ elim (eq-zero-or-pos (tally (replies false x (s.rows x).role.asker) (without p q s.wire))) [
            | inr o ↦ inl o
            | inl o ↦ inr (let c = count_replies false x (s.rows x).role.asker in
                let u : (q ≡ (s.rows x).role.asker) × (y ≡ false) =
                count_is y x (s.rows x).role.asker (omega arith) in
                count_answer _ ∙ rw (eq-eqb _ q (sym u.0), u.1)
                (and_right (s.rows (s.rows x).role.asker).role.answer false refl))
          ]
        ]
      where
        count_is : (v : Bool) (b a : ℕ) → 0 < replies false b a (post p q (Reply v)) → (q ≡ a) × (v ≡ false)
        count_is true b a c = absurd (omega arith)
        count_is false b a c = elim (eqb_tells q a) [
          | inl j ↦ (j.1, refl)
          | inr j ↦ (let z : replies false b a (post p q (Reply false)) ≡ 0 = grind (arith, nat_tests) in
              absurd (omega arith))
        ]

    count_tree : (g : Stage) → Treed g (roles_of s) (λ a b. tally (replies false a b) s.wire) τ.joined →
        Treed g (roles_of (act n rules wear s (Counts p q y)))
        (λ a b. tally (replies false a b) (without p q s.wire)) τ.joined
    count_tree (Settled r v) h = tt
    count_tree (Asking r z) h = record {
      start_phase = talk_same_phase z ∙ h.start_phase;
      start_own = talk_same_asker z ∙ h.start_own;
      members = λ b. ap held (talk_same_phase b) ∙ h.members b;
      chain = chain_same z τ.joined h.chain;
      noes = λ x e g. rw (talk_same_asker x)
          (count_noes r x (sym (talk_same_phase x) ∙ e) g (h.noes x (sym (talk_same_phase x) ∙ e)));
    }

    count_reasons : (g : Stage) → Reasoned n g (roles_of s) (marks_of s) s.wire →
        Reasoned n g (roles_of (act n rules wear s (Counts p q y))) (marks_of s) (without p q s.wire)
    count_reasons (Settled r v) h = tt
    count_reasons (Asking r z) h = record {
      wanted = λ x hx ne. rw (talk_same_asker x)
          (count_wanted r x _ (h.wanted x (sym (ap held (talk_same_phase x)) ∙ hx) ne));
      covered = λ a b hx as' o. rw (ap held (talk_same_phase b))
          (count_spared r a b _ (h.covered a b (sym (ap held (talk_same_phase a)) ∙ hx) as' (covered_before a b o)));
    }
      where
        count_wanted : (r : Round) (x m : ℕ) → Wanted r (marks_of s) s.wire x m →
            Wanted r (marks_of s) (without p q s.wire) x m
        count_wanted Save x m w = w
        count_wanted Back x m w = (w.0, count_words m x ∙ w.1)

        count_spared : (r : Round) (a b : ℕ) (h : Bool) → Spared r h (marks_of s) s.wire a b →
            Spared r h (marks_of s) (without p q s.wire) a b
        count_spared Save a b h w = w
        count_spared Back a b h w = (w.0, count_words a b ∙ w.1)

        yes_came : (v : Bool) (b a : ℕ) → p ≡ b → q ≡ a → v ≡ true → 0 < replies true b a (post p q (Reply v))
        yes_came true b a i j k = let z : replies true b a (post p q (Reply true)) ≡ 1 = grind (arith, nat_tests) in
            omega arith
        yes_came false b a i j k = absurd (false≢true k)

        covered_before : (a b : ℕ) →
            (0 < tally (replies true b a) (without p q s.wire))
            ⊎ (((roles_of (act n rules wear s (Counts p q y)) a).awaited b ≡ false)
            × ((roles_of (act n rules wear s (Counts p q y)) a).answer ≡ true)) →
            (0 < tally (replies true b a) s.wire)
            ⊎ (((s.rows a).role.awaited b ≡ false) × ((s.rows a).role.answer ≡ true))
        covered_before a b (inl o) = inl (let c = count_replies true b a in omega arith)
        covered_before a b (inr o) = elim (eqb_tells a q) [
          | inl i ↦ elim (eqb_tells b p) [
            | inl j ↦ inl (let c = count_replies true b a in
                let an : ((s.rows a).role.answer && y) ≡ true = sym (count_answer a ∙ rw i.0 refl) ∙ o.1 in
                let k : 0 < replies true b a (post p q (Reply y)) =
                yes_came y b a (sym j.1) (sym i.1) (and_parts (s.rows a).role.answer y an).1 in
                omega arith)
            | inr j ↦ inr (sym (count_awaited a b ∙ rw (i.0, j.0) refl) ∙ o.0, yes_before a o.1)
          ]
          | inr i ↦ inr (sym (count_awaited a b ∙ rw i.0 refl) ∙ o.0, yes_before a o.1)
        ]

    pub keeps_count : Inv n rules (act n rules wear s (Counts p q y)) (retell s τ (Counts p q y))
    keeps_count =
        let t = count_taken in
        let row = with_role (s.rows q) (role_counted (s.rows q).role p y) in
        let sm = fun_ext (same_part (λ x. x.marks) s.rows q row refl) in
        record {
          store_size = inv.store_size;
          base = inv.base;
          mid = inv.mid;
          since = inv.since;
          boards = at_upd (λ i x. Board rules τ.stage x (s.table i) (stored_at rules s i) (τ.own i) (τ.kept i)
              (τ.drawn i) (τ.due i) (inv.base i) (inv.mid i) (inv.since i)) s.rows q row
              (board_role rules τ.stage (s.rows q) (role_counted (s.rows q).role p y) _ _ _ _ _ _ _ _ _ refl
              (inv.boards q)) (λ i e. inv.boards i);
          flow = λ a b. rw (same_part (λ z. z.count) s.rows q row refl a)
              (flow_drop (word_label a b) _ _ t (inv.flow a b));
          carried = all_rest _ t inv.carried;
          flushed = λ a b. flushed_rest a b t (inv.flushed a b);
          loom = all_rest _ t inv.loom;
          notes = subst (λ m. AllByRecursion (FitsNote τ.stage (labels τ.stage m)) (without p q s.wire)) (sym sm)
              (all_rest _ t inv.notes);
          kept_free = inv.kept_free;
          present_free = inv.present_free;
          frame = record {
            tokens = count_tokens;
            awaits = λ a b h. ap gathering (talk_same_phase a) ∙ inv.frame.awaits a b (awaited_before a b h);
            near = λ a b h. elim (cases_Bool ((roles_of (act n rules wear s (Counts p q y)) a).awaited b))
                [ inl e ↦ absurd (true≢false (sym (awaited_before a b e) ∙ inv.frame.near a b h)) | inr e ↦ e ];
            self = λ a. ap (λ f. f a) (talk_same_cohort a) ∙ inv.frame.self a;
            dec_one = λ a b. (let c = count_decs a b in let o = inv.frame.dec_one a b in omega arith);
            dec_free = λ a b h. talk_same_phase a ∙ inv.frame.dec_free a b (let c = count_decs a b in omega arith);
            fits = λ a. rw (talk_same_phase a) (inv.frame.fits a);
            far = λ a h. talk_same_phase a ∙ inv.frame.far a h;
            tree = count_tree τ.stage inv.frame.tree;
          };
          reasons = subst (λ m. Reasoned n τ.stage (roles_of (act n rules wear s (Counts p q y))) m
              (without p q s.wire)) (sym sm) (count_reasons τ.stage inv.reasons);
        }
