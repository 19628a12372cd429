-- A board that awaits nobody answers its asker.
use Rattle.std.proofs.Common.{◌≡◌, ℕ, ◌+◌, ◌<◌, Bool, true, false, ◌⊎◌, List, [], ◌∷◌, ◌++◌, sym, refl, ap, ◌∙◌, subst, subst₂, inl, inr, arith}
use mathlib.Core.Path.{fun_ext}
use Rattle.std.proofs.ByRecursion.{All-append}
use Rattle.std.proofs.lemmas.Bool.{cases_eq, cases_lt, eqb-false, ne_eqb, true≢false}
use Rattle.std.proofs.lemmas.Bool.Decides.{eqb_tells}
use Rattle.std.specs.List.{AllByRecursion}
use Rattle.records.specs.Rules.{Rules}
use Rattle.protocol.specs.Effects.{Answers, State, act}
use Rattle.protocol.specs.Histories.{Asking, History, Settled, Stage}
use Rattle.protocol.specs.Rounds.{role_answered}
use Rattle.protocol.specs.Rows.{Answered, Back, Free, Gathering, Phase, Round, Row, Save, gathering, held, with_role}
use Rattle.protocol.specs.Wire.{Message, Reply, post, tally}
use Rattle.protocol.proofs.Backwards.{retell}
use Rattle.protocol.proofs.Stored.{stored_at}
use Rattle.protocol.proofs.Wires.{asks, at, at_is, at_not_from, at_not_to, decisions, flow_append, flushed_append}
use Rattle.protocol.proofs.Wires.{replies, tally-append, word_label, words}
use Rattle.protocol.proofs.Invariant.{Board, Chain, FitsNote, FitsPhase, Inv, Reasoned, Spared, Tree, Treed, Wanted}
use Rattle.protocol.proofs.Invariant.{bit, child, labels, marks_of, roles_of}
use Rattle.protocol.proofs.Plain.{askers_held, at_upd, same_part, tally_other}
use Rattle.protocol.proofs.Agreement.{asking}
use Rattle.protocol.proofs.Decided.{board_answered}

module _ {R : Type 0} (n : ℕ) (rules : Rules R) (wear : ℕ) (s : State R) (τ : History) (inv : Inv n rules s τ)
    (r : Round) (p : ℕ)
    (ph : (s.rows p).role.phase ≡ Gathering r) (other : (s.rows p).role.asker ≡ p → ⊥) (idle : (b : ℕ) → b < n →
    (s.rows p).role.awaited b ≡ false) where
  abbrev k : ℕ
  k = (s.rows p).role.asker

  abbrev y : Bool
  y = (s.rows p).role.answer

  abbrev row : Row
  row = with_role (s.rows p) (role_answered (s.rows p).role r)

  abbrev m : Message
  m = post p k (Reply y)

  abbrev s' : State R
  s' = act n rules wear s (Answers r p)

  ans_stage : (z : ℕ) × (τ.stage ≡ Asking r z)
  ans_stage = asking τ.stage r (subst (FitsPhase τ.stage) ph (inv.frame.fits p))

  ans_tree : Tree r ans_stage.0 (roles_of s) (λ x w. tally (replies false x w) s.wire) τ.joined
  ans_tree = subst (λ g. Treed g (roles_of s) (λ x w. tally (replies false x w) s.wire) τ.joined) ans_stage.1
      inv.frame.tree

  ans_held : held (s.rows p).role.phase ≡ true
  ans_held = ap held ph

  ans_near : (i : ℕ) → held (s.rows i).role.phase ≡ true → i < n
  ans_near i h = elim (cases_lt i n) [
    | inl u ↦ u
    | inr u ↦ absurd (true≢false (sym h ∙ ap held (inv.frame.far i u)))
  ]

  ans_idle : (b : ℕ) → (s.rows p).role.awaited b ≡ false
  ans_idle b = elim (cases_lt b n) [ inl h ↦ idle b h | inr h ↦ inv.frame.near p b h ]

  ans_phase : (i : ℕ) → held (roles_of s' i).phase ≡ held (s.rows i).role.phase
  ans_phase = at_upd (λ i x. held x.role.phase ≡ held (s.rows i).role.phase) s.rows p row (sym ans_held)
      (λ i e. refl)

  ans_asker : (i : ℕ) → (roles_of s' i).asker ≡ (s.rows i).role.asker
  ans_asker = same_part (λ x. x.role.asker) s.rows p row refl

  ans_awaited : (i : ℕ) → (roles_of s' i).awaited ≡ (s.rows i).role.awaited
  ans_awaited = same_part (λ x. x.role.awaited) s.rows p row refl

  ans_answer : (i : ℕ) → (roles_of s' i).answer ≡ (s.rows i).role.answer
  ans_answer = same_part (λ x. x.role.answer) s.rows p row refl

  ans_child : (a b : ℕ) → child (roles_of s' b) a b + at b a p k 1 ≡ child (s.rows b).role a b
  ans_child a = at_upd (λ b x. child x.role a b + at b a p k 1 ≡ child (s.rows b).role a b) s.rows p row
      (let g : gathering (s.rows p).role.phase ≡ true = ap gathering ph in elim (eqb_tells k a) [
        | inl i ↦ (let o = at_is p a p k 1 refl i.1 in
            let w : child (s.rows p).role a p ≡ 1 = rw (g, i.0, ne_eqb a p (λ u. other (i.1 ∙ u))) refl in
            omega arith)
        | inr i ↦ (let o = at_not_to p a p k 1 i.1 in
            let w : child (s.rows p).role a p ≡ 0 = rw (g, i.0) refl in omega arith)
      ])
      (λ b e. let o = at_not_from b a p k 1 (λ u. eqb-false b p e (sym u)) in omega arith)

  ans_sum : (v : Bool) (a b : ℕ) →
      replies true b a (post p k (Reply v)) + replies false b a (post p k (Reply v)) ≡ at b a p k 1
  ans_sum true a b = omega arith
  ans_sum false a b = omega arith

  ans_words : (a b : ℕ) → tally (words a b) (s.wire ++ m ∷ []) ≡ tally (words a b) s.wire
  ans_words a b = tally_other (words a b) m s.wire refl

  ans_replies : (v : Bool) (a b : ℕ) →
      tally (replies v a b) (s.wire ++ m ∷ []) ≡ tally (replies v a b) s.wire + replies v a b m
  ans_replies v a b = tally-append (replies v a b) s.wire (m ∷ []) ∙ omega arith

  ans_chain : (z : ℕ) (xs : List ℕ) → Chain (roles_of s) z xs → Chain (roles_of s') z xs
  ans_chain z [] c = tt
  ans_chain z (x ∷ xs) c = (c.0, rw (ans_asker x) c.1, ans_chain z xs c.2)

  ans_start : (z : ℕ) → (s.rows z).role.asker ≡ z → p ≡ z → ⊥
  ans_start z o e = other (ap (λ u. (s.rows u).role.asker) e ∙ o ∙ sym e)

  no_came : (v : Bool) → v ≡ false → 0 < replies false p k (post p k (Reply v))
  no_came true e = absurd (true≢false e)
  no_came false e = let o = at_is p k p k 1 refl refl in omega arith

  answered_inj : (a b : Round) → ◌≡◌ {A = Phase} (Answered a) (Answered b) → a ≡ b
  answered_inj a b e = cc

  ans_treed : (g : Stage) (z : ℕ) → g ≡ Asking r z →
      Treed g (roles_of s) (λ x w. tally (replies false x w) s.wire) τ.joined →
      Treed g (roles_of s') (λ x w. tally (replies false x w) (s.wire ++ m ∷ [])) τ.joined
  ans_treed (Settled v w) z e h = tt
  ans_treed (Asking q z') z e h = record {
    start_phase = at_upd (λ i x. (s.rows i).role.phase ≡ Gathering q → i ≡ z' → x.role.phase ≡ Gathering q)
        s.rows p row (λ u i. absurd (ans_start z' h.start_own i)) (λ i _ u _. u) z' h.start_phase refl;
    start_own = ans_asker z' ∙ h.start_own;
    members = λ b. ans_phase b ∙ h.members b;
    chain = ans_chain z' τ.joined h.chain;
    noes = λ x. at_upd (λ i u. u.role.phase ≡ Answered q → (roles_of s' i).answer ≡ false →
        (0 < tally (replies false i (roles_of s' i).asker) (s.wire ++ m ∷ []))
        ⊎ ((roles_of s' (roles_of s' i).asker).answer ≡ false)) s.rows p row
        (λ _ g. inl (rw (ans_asker p) (let w = ans_replies false p k in let c = no_came y (sym (ans_answer p) ∙ g) in
        omega arith)))
        (λ i _ g f. rw (ans_asker i)
        (elim (h.noes i g (sym (ans_answer i) ∙ f)) [
          | inl o ↦ inl (let w = ans_replies false i (s.rows i).role.asker in omega arith)
          | inr o ↦ inr (ans_answer _ ∙ o)
        ])) x;
  }

  ans_reasons : (g : Stage) (z : ℕ) → g ≡ Asking r z →
      Treed g (roles_of s) (λ x w. tally (replies false x w) s.wire) τ.joined →
      Reasoned n g (roles_of s) (marks_of s) s.wire → Reasoned n g (roles_of s') (marks_of s) (s.wire ++ m ∷ [])
  ans_reasons (Settled v w) z e t h = tt
  ans_reasons (Asking q z') z e t h = record {
    wanted = λ x hx ne. rw (ans_asker x) (ans_wanted q x _ (h.wanted x (sym (ans_phase x) ∙ hx) ne));
    covered = λ a b hx as' o. rw (ans_phase b) (elim (cases_eq (replies true b a m) 0) [
      | inl c ↦ ans_spared q a b _ (h.covered a b (sym (ans_phase a) ∙ hx) as' (elim o [
        | inl i ↦ inl (let w = ans_replies true b a in omega arith)
        | inr i ↦ inr (ap (λ f. f b) (sym (ans_awaited a)) ∙ i.0, sym (ans_answer a) ∙ i.1)
      ]))
      | inr c ↦ (let i = ans_is y b a c in
          subst₂ (λ u v. Spared q (held (s.rows v).role.phase) (marks_of s) (s.wire ++ m ∷ []) u v) i.1 i.0
          (ans_new q (h.wanted p ans_held (λ u. ans_start z' t.start_own u))))
    ]);
  }
    where
      ans_wanted : (r : Round) (x m' : ℕ) → Wanted r (marks_of s) s.wire x m' →
          Wanted r (marks_of s) (s.wire ++ m ∷ []) x m'
      ans_wanted Save x m' w = w
      ans_wanted Back x m' w = (w.0, ans_words m' x ∙ w.1)

      ans_spared : (r : Round) (a b : ℕ) (h : Bool) → Spared r h (marks_of s) s.wire a b →
          Spared r h (marks_of s) (s.wire ++ m ∷ []) a b
      ans_spared Save a b h w = w
      ans_spared Back a b h w = (w.0, ans_words a b ∙ w.1)

      ans_is : (v : Bool) (b a : ℕ) → (replies true b a (post p k (Reply v)) ≡ 0 → ⊥) → (p ≡ b) × (k ≡ a)
      ans_is true b a c = elim (eqb_tells p b) [
        | inl i ↦ elim (eqb_tells k a) [ inl j ↦ (i.1, j.1) | inr j ↦ absurd (c (rw (i.0, j.0))) ]
        | inr i ↦ absurd (c (rw i.0))
      ]
      ans_is false b a c = absurd (c refl)

      ans_new : (r : Round) → Wanted r (marks_of s) s.wire p k →
          Spared r (held (s.rows p).role.phase) (marks_of s) (s.wire ++ m ∷ []) k p
      ans_new Save w = inl ans_held
      ans_new Back w = (inl ans_held, ans_words k p ∙ w.1)

  ans_fit : (g : Stage) (z : ℕ) → g ≡ Asking r z → FitsPhase g (Answered r)
  ans_fit g z e = rw e (inr (inr refl))

  pub keeps_answer : Inv n rules (act n rules wear s (Answers r p)) (retell s τ (Answers r p))
  keeps_answer =
      let sm = fun_ext (same_part (λ x. x.marks) s.rows p row refl) in
      let hk = askers_held ans_tree p ans_held in
      record {
        store_size = inv.store_size;
        base = inv.base;
        mid = inv.mid;
        since = inv.since;
        boards = at_upd (λ i x. Board rules τ.stage x (s.table i) (stored_at rules s i) (τ.own i) (τ.kept i)
            (τ.drawn i) (τ.due i) (inv.base i) (inv.mid i) (inv.since i)) s.rows p row
            (board_answered rules r _ _ _ _ _ _ _ _ _ _ _ ph (inv.boards p)) (λ i e. inv.boards i);
        flow = λ a b. rw (same_part (λ z. z.count) s.rows p row refl a)
            (flow_append (word_label a b) _ _ s.wire _ (refl, tt) (inv.flow a b));
        carried = All-append _ s.wire _ inv.carried (tt, tt);
        flushed = λ a b. flushed_append a b s.wire _ (inr refl) (inl refl, tt) (inv.flushed a b);
        loom = All-append _ s.wire _ inv.loom ((ans_near p ans_held, ans_near k hk, (λ e. other (sym e))), tt);
        notes = subst (λ f. AllByRecursion (FitsNote τ.stage (labels τ.stage f)) (s.wire ++ m ∷ [])) (sym sm)
            (All-append _ s.wire _ inv.notes (tt, tt));
        kept_free = inv.kept_free;
        present_free = inv.present_free;
        frame = record {
          tokens = λ a b. (let x = inv.frame.tokens a b in let x1 = tally_other (asks a b) m s.wire refl in
              let x2 = ans_replies true b a in let x3 = ans_replies false b a in
              let x4 = ans_sum y a b in let c = ans_child a b in
              let w : bit ((roles_of s' a).awaited b) ≡ bit ((s.rows a).role.awaited b) =
              ap (λ f. bit (f b)) (ans_awaited a) in omega arith);
          awaits = λ a b. at_upd (λ a x. x.role.awaited b ≡ true → gathering x.role.phase ≡ true) s.rows p
              row (λ h. absurd (true≢false (sym h ∙ ans_idle b))) (λ i _. inv.frame.awaits i b) a;
          near = λ a b h. ap (λ f. f b) (ans_awaited a) ∙ inv.frame.near a b h;
          self = λ a. ap (λ f. f a) (same_part (λ x. x.role.cohort) s.rows p row refl a) ∙ inv.frame.self a;
          dec_one = λ a b. (let c = tally_other (decisions a b) m s.wire refl in let o = inv.frame.dec_one a b in
              omega arith);
          dec_free = λ a b h. at_upd (λ a x. (s.rows a).role.phase ≡ Free → x.role.phase ≡ Free) s.rows p row
              (λ u. absurd (true≢false (sym ans_held ∙ ap held u))) (λ i _ u. u) a
              (inv.frame.dec_free a b (let c = tally_other (decisions a b) m s.wire refl in omega arith));
          fits = at_upd (λ a x. FitsPhase τ.stage x.role.phase) s.rows p row
              (ans_fit τ.stage ans_stage.0 ans_stage.1) (λ i _. inv.frame.fits i);
          far = λ a h. at_upd (λ a x. (s.rows a).role.phase ≡ Free → x.role.phase ≡ Free) s.rows p row
              (λ u. absurd (true≢false (sym ans_held ∙ ap held u))) (λ i _ u. u) a (inv.frame.far a h);
          tree = ans_treed τ.stage ans_stage.0 ans_stage.1 inv.frame.tree;
        };
        reasons = subst (λ f. Reasoned n τ.stage (roles_of s') f (s.wire ++ m ∷ [])) (sym sm)
            (ans_reasons τ.stage ans_stage.0 ans_stage.1 inv.frame.tree inv.reasons);
      }
