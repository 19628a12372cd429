-- The deeds on words: sending one, hearing one, throwing one away.
use Rattle.std.proofs.Common.{◌≡◌, ℕ, suc, ◌+◌, ◌<◌, ◌≤◌, Bool, true, false, cond, eqb, ◌⊎◌, List, [], ◌∷◌, ◌++◌, Some, sym, refl, ap, ◌∙◌, subst, inl, inr, arith}
use mathlib.Core.Path.{subst₃}
use Rattle.std.proofs.ByRecursion.{All-append, All-weaker}
use Rattle.std.proofs.lemmas.Bool.{true≢false}
use Rattle.std.proofs.lemmas.Bool.Decides.{eqb_tells, nat_tests}
use Rattle.records.specs.Rules.{Rules}
use Rattle.records.specs.declared.event.Event.TheVariants.{Heard, Sent}
use Rattle.protocol.specs.Effects.{Hears, Sends, State, act}
use Rattle.protocol.specs.Histories.{Asking, History, Settled, Stage, present}
use Rattle.protocol.specs.Marks.{mark_heard}
use Rattle.protocol.specs.Rounds.{row_sent}
use Rattle.protocol.specs.Rows.{Back, Free, Round, Row, Save, gathering, held, with_marks}
use Rattle.protocol.specs.Tables.{changed}
use Rattle.protocol.specs.Wire.{Message, Word, earliest, post, tally, without}
use Rattle.protocol.proofs.Labels.{In, Rising, heard_from, last, last_max, pick_or, rising_right, sent_to}
use Rattle.protocol.proofs.Backwards.{add_own, retell}
use Rattle.protocol.proofs.Segments.{marked_hear, marked_send}
use Rattle.protocol.proofs.Wires.{Flow, Flushed, TakenOff, all_rest, all_taken, asks, at, decisions, flow_append}
use Rattle.protocol.proofs.Wires.{flow_drop, flow_higher, flow_push, flow_taken, flow_top, flushed_append}
use Rattle.protocol.proofs.Wires.{flushed_rest, label_goes, replies, taken, tally_taken, word_label, words}
use Rattle.protocol.proofs.Invariant.{BoardAt, Carried, Inv, Spared, Wanted, asked, bit, marks_of, owes}
use Rattle.protocol.proofs.Plain.{carried_more, eqb_same, frame_like, labels_like, notes_like, pointwise}
use Rattle.protocol.proofs.Plain.{reasoned_like, same_part, same_story, tally_other, told_cases, told_less, told_more}

pub owes_free : (g : Stage) → owes g Free ≡ false
owes_free (Asking r s) = refl
owes_free (Settled Save v) = refl
owes_free (Settled Back true) = refl
owes_free (Settled Back false) = refl

-- one more word from p to q, under the label above all before it
pub flow_sent : (p q c k a b lo hi : ℕ) (w : List Message) → (hi ≡ cond (eqb a p) (suc c) k) → (a ≡ p → k ≡ c) →
    Flow (word_label a b) lo k w →
    (x : ℕ) → Flow (word_label a b) lo hi (w ++ post p q (Word (suc c) x) ∷ [])
flow_sent p q c k a b lo hi w e h f x = elim (eqb_tells a p) [
  | inl i ↦ elim (eqb_tells b q) [
    | inl j ↦ (let g : word_label a b (post p q (Word (suc c) x)) ≡ suc c = grind (arith, nat_tests) in
        let z : hi ≡ word_label a b (post p q (Word (suc c) x)) = grind (arith, nat_tests) in
        rw z (flow_push (word_label a b) lo k (post p q (Word (suc c) x)) w (let t = h i.1 in omega arith) f))
    | inr j ↦ flow_append (word_label a b) lo hi w _ (grind (arith, nat_tests), tt)
        (flow_higher (word_label a b) lo k hi w (let t = h i.1 in grind (arith, nat_tests)) f)
  ]
  | inr i ↦ flow_append (word_label a b) lo hi w _ (grind (arith, nat_tests), tt)
      (flow_higher (word_label a b) lo k hi w (grind (arith, nat_tests)) f)
]

module _ {R : Type 0} (n : ℕ) (rules : Rules R) (wear : ℕ) (s : State R) (τ : History) (inv : Inv n rules s τ) where
  -- a free board awaits nobody, so none of its asks is on the wire
  pub free_awaits : (a b : ℕ) → gathering (s.rows a).role.phase ≡ false → (s.rows a).role.awaited b ≡ false
  free_awaits a b e = (elim ((s.rows a).role.awaited b) as (λ t. (s.rows a).role.awaited b ≡ t → t ≡ false)
      [ true ↦ λ k. (let g = inv.frame.awaits a b k in cc) | false ↦ λ k. refl ]) refl

  pub no_asks : (a b : ℕ) → gathering (s.rows a).role.phase ≡ false → tally (asks a b) s.wire ≡ 0
  no_asks a b e = let f = free_awaits a b e in let t = inv.frame.tokens a b in
      let z : bit ((s.rows a).role.awaited b) ≡ 0 = ap bit f in omega arith

  -- what a board has heard from another is at most the other's count
  pub heard_le : (p q : ℕ) → last (heard_from p) (τ.own q) ≤ (s.rows p).count
  heard_le p q = flow_top _ _ _ _ (inv.flow p q)

  pub heard_aside_le : (p q : ℕ) → (s.rows q).marks.heard_aside p ≤ (s.rows p).count
  heard_aside_le p q =
      let b = (inv.boards q).marked in
      let r = subst (Rising (heard_from p)) b.split (b.heard_rise p) in
      let e = ap (last (heard_from p)) b.split in
      let x = last_max (heard_from p) (inv.since q) (inv.mid q ++ inv.base q) r in
      let y = last_max (heard_from p) (inv.mid q) (inv.base q) (rising_right (heard_from p) (inv.since q) _ r) in
      let h = heard_le p q in let k = b.heard_aside_is p in omega arith

  pub heard_mark_le : (p q : ℕ) → (s.rows q).marks.heard p ≤ last (heard_from p) (τ.own q)
  heard_mark_le p q =
      let b = (inv.boards q).marked in
      let r = subst (Rising (heard_from p)) b.split (b.heard_rise p) in
      let e = ap (last (heard_from p)) b.split in
      let x = last_max (heard_from p) (inv.since q) (inv.mid q ++ inv.base q) r in
      let k = b.heard_is p in omega arith

  module _ (p q w : ℕ) (pn : p < n) (qn : q < n) (ne : p ≡ q → ⊥) (free : (s.rows p).role.phase ≡ Free)
      (lo : (s.rows p).lost ≡ false) where
    not_free : (a : ℕ) → held (s.rows a).role.phase ≡ true → a ≡ p → ⊥
    not_free a h e = let z : held (s.rows p).role.phase ≡ false = ap held free in
        let y : held (s.rows p).role.phase ≡ true = subst (λ x. held (s.rows x).role.phase ≡ true) e h in
        let u : true ≡ false = sym y ∙ z in true≢false u

    send_words : (a b : ℕ) → held (s.rows a).role.phase ≡ true → tally (words a b) s.wire ≡ 0 →
        tally (words a b) (act n rules wear s (Sends p q w)).wire ≡ 0
    send_words a b hx h = tally_other (words a b) _ s.wire (let z = not_free a hx in grind (arith, nat_tests)) ∙ h

    send_wanted : (r : Round) (x k : ℕ) → held (s.rows k).role.phase ≡ true → Wanted r (marks_of s) s.wire x k →
        Wanted r (marks_of (act n rules wear s (Sends p q w))) (act n rules wear s (Sends p q w)).wire x k
    send_wanted Save x k hx h =
        rw (
          same_part (λ z. z.marks.first_aside) s.rows p (row_sent (s.rows p) q) refl x,
          same_part (λ z. z.marks.heard_aside) s.rows p (row_sent (s.rows p) q) refl k,
        ) h
    send_wanted Back x k hx h = (
      rw (
        same_part (λ z. z.marks.heard) s.rows p (row_sent (s.rows p) q) refl x,
        same_part (λ z. z.marks.saved) s.rows p (row_sent (s.rows p) q) refl k,
      ) h.0,
      send_words k x hx h.1,
    )

    send_asked : (r : Round) (a b : ℕ) →
        asked n r a (marks_of (act n rules wear s (Sends p q w)) a) b ≡ asked n r a (marks_of s a) b
    send_asked Save a b = rw (same_part (λ z. z.marks.heard_aside) s.rows p (row_sent (s.rows p) q) refl a)
    send_asked Back a b = refl

    first_of : (b a : ℕ) → (marks_of (act n rules wear s (Sends p q w)) b).first a ≡
        cond (eqb b p) (cond (eqb a q)
        (cond (eqb ((s.rows p).marks.first q) 0) (suc (s.rows p).count) ((s.rows p).marks.first q))
        ((s.rows p).marks.first a)) ((s.rows b).marks.first a)
    first_of b a = elim (eqb_tells b p) [ inl e ↦ grind (arith, nat_tests) | inr e ↦ grind (arith, nat_tests) ]

    send_first : (a b : ℕ) → ((s.rows b).marks.first a ≡ 0)
        ⊎ ((s.rows a).marks.heard_aside b < (s.rows b).marks.first a) →
        ((marks_of (act n rules wear s (Sends p q w)) b).first a ≡ 0)
        ⊎ ((marks_of (act n rules wear s (Sends p q w)) a).heard_aside b < (marks_of (act n rules wear s (Sends p q w))
        b).first a)
    send_first a b h =
        let v = first_of b a in
        let g : (marks_of (act n rules wear s (Sends p q w)) a).heard_aside b ≡ (s.rows a).marks.heard_aside b =
        ap (λ f. f b) (same_part (λ z. z.marks.heard_aside) s.rows p (row_sent (s.rows p) q) refl a) in
        let l = heard_aside_le b a in
        elim (eqb_tells b p) [
          | inl e ↦ elim (eqb_tells a q) [
            | inl k ↦ inr (let y : (s.rows b).marks.first a ≡ (s.rows p).marks.first q = cc in
                let c : (s.rows b).count ≡ (s.rows p).count = ap (λ x. (s.rows x).count) e.1 in
                elim h [ inl z ↦ grind (arith, nat_tests) | inr z ↦ grind (arith, nat_tests) ])
            | inr k ↦ (let y : (marks_of (act n rules wear s (Sends p q w)) b).first a ≡ (s.rows b).marks.first a =
                grind (arith, nat_tests) in
                elim h [ inl z ↦ inl (y ∙ z) | inr z ↦ inr (omega arith) ])
          ]
          | inr e ↦ (let y : (marks_of (act n rules wear s (Sends p q w)) b).first a ≡ (s.rows b).marks.first a =
              grind (arith, nat_tests) in
              elim h [ inl z ↦ inl (y ∙ z) | inr z ↦ inr (omega arith) ])
        ]

    send_spared : (r : Round) (a b : ℕ) (h : Bool) → held (s.rows a).role.phase ≡ true →
        Spared r h (marks_of s) s.wire a b →
        Spared r h (marks_of (act n rules wear s (Sends p q w))) (act n rules wear s (Sends p q w)).wire a b
    send_spared Save a b h hx o = elim o [ inl i ↦ inl i | inr i ↦ inr (send_first a b i) ]
    send_spared Back a b h hx o = (
      elim o.0 [
        | inl i ↦ inl i
        | inr i ↦ inr (
            rw (
              same_part (λ z. z.marks.heard) s.rows p (row_sent (s.rows p) q) refl b,
              same_part (λ z. z.marks.saved) s.rows p (row_sent (s.rows p) q) refl a,
            ) i)
      ],
      send_words a b hx o.1,
    )

    send_flushed : (a b : ℕ) → Flushed a b (act n rules wear s (Sends p q w)).wire
    send_flushed a b = flushed_append a b s.wire (post p q (Word (suc (s.rows p).count) w) ∷ [])
        (elim (eqb_tells p a) [
          | inl e ↦ inl (subst (λ x. tally (asks x b) s.wire ≡ 0) e.1 (no_asks p b (ap gathering free)))
          | inr e ↦ inr (grind (arith, nat_tests))
        ]) (inl refl, tt) (inv.flushed a b)

    count_sent : (a : ℕ) → (changed s.rows p (row_sent (s.rows p) q) a).count
        ≡ cond (eqb a p) (suc (s.rows p).count) (s.rows a).count
    count_sent = pointwise (λ a. (changed s.rows p (row_sent (s.rows p) q) a).count
        ≡ cond (eqb a p) (suc (s.rows p).count) (s.rows a).count) p
        (rw (eqb_same p)) (λ i e. rw e)

    pub keeps_send : Inv n rules (act n rules wear s (Sends p q w)) (retell s τ (Sends p q w))
    keeps_send =
        let c = (s.rows p).count in
        let e = Sent q (suc c) w in
        let r = row_sent (s.rows p) q in
        let m = post p q (Word (suc c) w) in
        let sp = same_part (λ x. x.role) s.rows p r refl in
        record {
          store_size = inv.store_size;
          base = inv.base;
          mid = inv.mid;
          since = changed inv.since p (e ∷ inv.since p);
          boards = pointwise (BoardAt rules (act n rules wear s (Sends p q w)) (retell s τ (Sends p q w)) inv.base
              inv.mid (changed inv.since p (e ∷ inv.since p))) p
              (rw (eqb_same p) (let b = inv.boards p in record {
                marked = marked_send _ _ _ _ _ _ q w b.marked;
                standing_is = b.standing_is;
                table_is = λ l. ap (λ z. rules.sent z q w) (b.table_is l);
                pending_is = rw free (rw free at b.pending_is);
                kept_is = b.kept_is;
                due_is = b.due_is;
              }))
              (λ i k. rw k (inv.boards i));
          flow = λ a b. rw (same_story (last (heard_from a)) τ.own p (e ∷ τ.own p) refl b)
              (flow_sent p q c (s.rows a).count a b _ _ s.wire (ap (λ x. x) (count_sent a))
              (λ k. ap (λ x. (s.rows x).count) k) (inv.flow a b) w);
          carried = All-append _ s.wire (m ∷ [])
              (All-weaker _ _ (carried_more (present τ) (present (add_own τ p e))
              (λ a t l. told_more τ p e (sent_to t) l a)) s.wire inv.carried) (
                (
                  omega arith,
                  let d : τ.due p ≡ false = (inv.boards p).due_is ∙ ap (owes τ.stage) free
                      ∙ owes_free τ.stage in rw (d, eqb_same p) (inl (rw (eqb_same q))),
                ),
                tt,
              );
          flushed = send_flushed;
          loom = All-append _ s.wire (m ∷ []) inv.loom ((pn, qn, ne), tt);
          notes = All-append _ s.wire (m ∷ [])
              (All-weaker _ _ (notes_like τ.stage _ _
              (labels_like τ.stage _ _
              (λ i b. ap (λ f. f b) (same_part (λ z. z.marks.heard_aside) s.rows p r refl i))
              (λ i b. ap (λ f. f b) (same_part (λ z. z.marks.saved) s.rows p r refl i)))) s.wire
              inv.notes) (tt, tt);
          kept_free = inv.kept_free;
          present_free = λ t a l x y o h. told_more τ p e (sent_to t) l a
              (inv.present_free t a l x y o (told_less τ p e (heard_from a) l t refl o h));
          frame = frame_like sp (λ a b. tally_other (asks a b) m s.wire refl)
              (λ a b. tally_other (replies true a b) m s.wire refl)
              (λ a b. tally_other (replies false a b) m s.wire refl)
              (λ a b. tally_other (decisions a b) m s.wire refl) inv.frame;
          reasons = reasoned_like n τ.stage _ _ _ _ s.wire (s.wire ++ m ∷ []) _ _ inv.frame.tree sp
              (λ k x hx ha. send_wanted k x _ ha) (λ a b. tally_other (replies true a b) m s.wire refl) send_asked
              send_spared inv.reasons;
        }

  module _ (p q l w : ℕ) (first' : earliest p q s.wire ≡ Some (post p q (Word l w)))
      (lo : (s.rows q).lost ≡ false) where
    hear_taken : TakenOff p q (post p q (Word l w)) s.wire (without p q s.wire)
    hear_taken = taken p q _ s.wire first'

    hear_pos : (0 < l) × In (sent_to q) l (present τ p)
    hear_pos = all_taken (Carried (present τ)) hear_taken inv.carried

    hear_flow : (last (heard_from p) (τ.own q) < l)
        × Flow (word_label p q) l (s.rows p).count (without p q s.wire)
    hear_flow =
        let e : word_label p q (post p q (Word l w)) ≡ l = rw (eqb_same p, eqb_same q) in
        let f = flow_taken (word_label p q) _ _ (label_goes p q) (let o = hear_pos.0 in
        omega arith) hear_taken (inv.flow p q) in
        rw e at f

    heard_of : (b a : ℕ) → (marks_of (act n rules wear s (Hears p q l w)) b).heard a
        ≡ cond (eqb b q) (cond (eqb a p) l ((s.rows q).marks.heard a)) ((s.rows b).marks.heard a)
    heard_of b a = elim (eqb_tells b q) [ inl e ↦ grind (arith, nat_tests) | inr e ↦ grind (arith, nat_tests) ]

    heard_below : (s.rows q).marks.heard p ≤ l
    heard_below = let h = heard_mark_le p q in let f = hear_flow.0 in omega arith

    heard_grows : (x k : ℕ) → (s.rows x).marks.heard k ≤ (marks_of (act n rules wear s (Hears p q l w)) x).heard k
    heard_grows x k = let e = heard_of x k in let d = heard_below in elim (eqb_tells x q) [
      | inl i ↦ elim (eqb_tells k p) [
        | inl j ↦ (let y : (s.rows x).marks.heard k ≡ (s.rows q).marks.heard p = cc in grind (arith, nat_tests))
        | inr j ↦ (let y : (s.rows x).marks.heard k ≡ (s.rows q).marks.heard k = cc in grind (arith, nat_tests))
      ]
      | inr i ↦ grind (arith, nat_tests)
    ]

    hear_row : Row
    hear_row = with_marks (s.rows q) (mark_heard (s.rows q).marks p l)

    hear_words : (a b : ℕ) → tally (words a b) s.wire ≡ at a b p q 1 + tally (words a b) (without p q s.wire)
    hear_words a b = tally_taken (words a b) hear_taken

    hear_wanted : (r : Round) (x k : ℕ) → Wanted r (marks_of s) s.wire x k →
        Wanted r (marks_of (act n rules wear s (Hears p q l w))) (without p q s.wire) x k
    hear_wanted Save x k h =
        rw (
          same_part (λ z. z.marks.first_aside) s.rows q (with_marks (s.rows q) (mark_heard (s.rows q).marks p l))
              refl x,
          same_part (λ z. z.marks.heard_aside) s.rows q (with_marks (s.rows q) (mark_heard (s.rows q).marks p l))
              refl k,
        ) h
    hear_wanted Back x k h = (
      rw (same_part (λ z. z.marks.saved) s.rows q (with_marks (s.rows q) (mark_heard (s.rows q).marks p l)) refl
          k)
          (let e = heard_grows x k in omega arith),
      (let t = hear_words k x in omega arith),
    )

    hear_asked : (r : Round) (a b : ℕ) →
        asked n r a (marks_of (act n rules wear s (Hears p q l w)) a) b ≡ asked n r a (marks_of s a) b
    hear_asked Save a b = rw (same_part (λ z. z.marks.heard_aside) s.rows q
        (with_marks (s.rows q) (mark_heard (s.rows q).marks p l)) refl a)
    hear_asked Back a b = refl

    hear_same : (a b : ℕ) → tally (words a b) s.wire ≡ 0 →
        (marks_of (act n rules wear s (Hears p q l w)) b).heard a ≡ (s.rows b).marks.heard a
    hear_same a b z = let t = hear_words a b in let e = heard_of b a in elim (eqb_tells b q) [
      | inl i ↦ elim (eqb_tells a p) [
        | inl j ↦ (let g : at a b p q 1 ≡ 1 = grind (arith, nat_tests) in absurd (omega arith))
        | inr j ↦ e ∙ rw (i.0, j.0) (ap (λ x. (s.rows x).marks.heard a) (sym i.1))
      ]
      | inr i ↦ e ∙ rw i.0 refl
    ]

    hear_spared : (r : Round) (a b : ℕ) (h : Bool) → Spared r h (marks_of s) s.wire a b →
        Spared r h (marks_of (act n rules wear s (Hears p q l w))) (without p q s.wire) a b
    hear_spared Save a b h o =
        rw (
          same_part (λ z. z.marks.first) s.rows q (with_marks (s.rows q) (mark_heard (s.rows q).marks p l)) refl
              b,
          same_part (λ z. z.marks.heard_aside) s.rows q (with_marks (s.rows q) (mark_heard (s.rows q).marks p l))
              refl a,
        ) o
    hear_spared Back a b h o = (
      elim o.0 [
        | inl i ↦ inl i
        | inr y ↦ inr (rw (same_part (λ z. z.marks.saved) s.rows q
            (with_marks (s.rows q) (mark_heard (s.rows q).marks p l)) refl a)
            (let g = hear_same a b o.1 in omega arith))
      ],
      (let t = hear_words a b in let z = o.1 in omega arith),
    )

    hear_lo : (a b : ℕ) → last (heard_from a) (changed τ.own q (Heard p l w ∷ τ.own q) b)
        ≡ cond (eqb b q) (cond (eqb a p) l (last (heard_from a) (τ.own b))) (last (heard_from a) (τ.own b))
    hear_lo a b = let o = hear_pos.0 in elim (eqb_tells b q) [
      | inl i ↦ rw i.0 (let y : last (heard_from a) (τ.own b) ≡ last (heard_from a) (τ.own q) =
          ap (λ x. last (heard_from a) (τ.own x)) i.1 in
          grind (arith, nat_tests, pick_or (heard_from a (Heard p l w)) (last (heard_from a) (τ.own q))))
      | inr i ↦ rw i.0 refl
    ]

    hear_flows : (a b : ℕ) → Flow (word_label a b)
        (last (heard_from a) (changed τ.own q (Heard p l w ∷ τ.own q) b)) (s.rows a).count
        (without p q s.wire)
    hear_flows a b = let e = hear_lo a b in elim (eqb_tells b q) [
      | inl i ↦ elim (eqb_tells a p) [
        | inl j ↦ subst₃ (λ x y z. Flow (word_label x y) z (s.rows x).count (without p q s.wire)) (sym j.1)
            (sym i.1) (let z : l ≡ last (heard_from a) (changed τ.own q (Heard p l w ∷ τ.own q) b) =
            grind (arith, nat_tests) in z) hear_flow.1
        | inr j ↦ (let z : last (heard_from a) (changed τ.own q (Heard p l w ∷ τ.own q) b)
            ≡ last (heard_from a) (τ.own b) = grind (arith, nat_tests) in
            rw z (flow_drop (word_label a b) _ _ hear_taken (inv.flow a b)))
      ]
      | inr i ↦ (let z : last (heard_from a) (changed τ.own q (Heard p l w ∷ τ.own q) b)
          ≡ last (heard_from a) (τ.own b) = grind (arith, nat_tests) in
          rw z (flow_drop (word_label a b) _ _ hear_taken (inv.flow a b)))
    ]

    pub keeps_hear : Inv n rules (act n rules wear s (Hears p q l w)) (retell s τ (Hears p q l w))
    keeps_hear =
        let e = Heard p l w in
        let r = with_marks (s.rows q) (mark_heard (s.rows q).marks p l) in
        let sp = same_part (λ x. x.role) s.rows q r refl in
        record {
          store_size = inv.store_size;
          base = inv.base;
          mid = inv.mid;
          since = changed inv.since q (e ∷ inv.since q);
          boards = pointwise (BoardAt rules (act n rules wear s (Hears p q l w)) (retell s τ (Hears p q l w))
              inv.base inv.mid (changed inv.since q (e ∷ inv.since q))) q
              (rw (eqb_same q) (let b = inv.boards q in record {
                marked = marked_hear _ _ _ _ _ _ p l w hear_pos.0 hear_flow.0 b.marked;
                standing_is = b.standing_is;
                table_is = λ k. ap (λ z. rules.heard z p w) (b.table_is k);
                pending_is = b.pending_is;
                kept_is = b.kept_is;
                due_is = b.due_is;
              }))
              (λ i k. rw k (inv.boards i));
          flow = λ a b. rw (same_part (λ z. z.count) s.rows q r refl a) (hear_flows a b);
          carried = all_rest _ hear_taken
              (All-weaker _ _ (carried_more (present τ) (present (add_own τ q e))
              (λ a t k. told_more τ q e (sent_to t) k a)) s.wire inv.carried);
          flushed = λ a b. flushed_rest a b hear_taken (inv.flushed a b);
          loom = all_rest _ hear_taken inv.loom;
          notes = all_rest _ hear_taken (All-weaker _ _ (notes_like τ.stage _ _ (labels_like τ.stage _ _
              (λ i b. ap (λ f. f b) (same_part (λ z. z.marks.heard_aside) s.rows q r refl i))
              (λ i b. ap (λ f. f b) (same_part (λ z. z.marks.saved) s.rows q r refl i)))) s.wire
              inv.notes);
          kept_free = inv.kept_free;
          present_free = λ t a k x y o h. told_more τ q e (sent_to t) k a
              (elim (told_cases τ q e (heard_from a) k t h) [
                | inl i ↦ inv.present_free t a k x y o i
                | inr i ↦ (let j : k ≡ l = (let z = i.1 in grind (arith, nat_tests)) in
                    let g : a ≡ p = (let z = i.1 in grind (arith, nat_tests)) in
                    subst₃ (λ u v z. In (sent_to u) v (present τ z)) (sym i.0) (sym j) (sym g) hear_pos.1)
              ]);
          frame = frame_like sp (λ a b. sym (tally_taken (asks a b) hear_taken ∙ omega arith))
              (λ a b. sym (tally_taken (replies true a b) hear_taken ∙ omega arith))
              (λ a b. sym (tally_taken (replies false a b) hear_taken ∙ omega arith))
              (λ a b. sym (tally_taken (decisions a b) hear_taken ∙ omega arith)) inv.frame;
          reasons = reasoned_like n τ.stage _ _ _ _ s.wire (without p q s.wire) _ _ inv.frame.tree sp
              (λ k x _ _. hear_wanted k x _)
              (λ a b. sym (tally_taken (replies true a b) hear_taken ∙ omega arith)) hear_asked
              (λ k a b h _. hear_spared k a b h) inv.reasons;
        }
