-- Drawing a board into a round.
use Rattle.std.proofs.Common.{◌≡◌, ℕ, ◌+◌, ◌<◌, ◌≤◌, Bool, true, false, cond, ◌&&◌, ◌||◌, eqb, ltb, leb, ◌⊎◌, List, [], ◌∷◌, ◌++◌, length, Some, Ok, sym, refl, ap, ◌∙◌, subst, subst₂, inl, inr, arith}
use Rattle.std.proofs.ByRecursion.{All-append, All-weaker}
use Rattle.std.proofs.lemmas.Bool.{and_parts, and_right, cases_Bool, cases_lt, eq-eqb, eqb-false, eqb-true, false≢true, leb-true, lt-ltb, ltb-true, ne_eqb, or_cases, or_left, or_parts, or_right, true≢false}
use Rattle.std.proofs.lemmas.Bool.Decides.{eqb_tells}
use Rattle.std.specs.List.{AllByRecursion}
use Rattle.records.specs.Rules.{Rules}
use Rattle.records.specs.Stories.{Story}
use Rattle.store.specs.Meaning.{Kept, put_answer}
use Rattle.protocol.specs.Effects.{Joins, Starts, State, act}
use Rattle.protocol.specs.Histories.{Asking, History, Stage, member}
use Rattle.protocol.specs.Marks.{ask_label, in_cohort, mark_drawn, need}
use Rattle.protocol.specs.Rounds.{row_drawn}
use Rattle.protocol.specs.Rows.{Answered, Back, Free, Gathering, Marks, Phase, Round, Row, Save, gathering, held}
use Rattle.protocol.specs.Tables.{changed}
use Rattle.protocol.specs.Wire.{Ask, Decision, Message, Reply, Word, earliest, is_control, post, posts, tally, without}
use Rattle.protocol.proofs.Labels.{made}
use Rattle.protocol.proofs.Backwards.{retell}
use Rattle.protocol.proofs.Stored.{drawn_other, drawn_stored, put_taken, size_drawn, stored_drawn, stored_at}
use Rattle.protocol.proofs.Segments.{Marked, marked_checkpoint}
use Rattle.protocol.proofs.Wires.{TakenOff, all_posts, all_rest, all_taken, asks, at, at_is, at_not_from, at_not_to}
use Rattle.protocol.proofs.Wires.{decisions, flow_append, flow_drop, flushed_append, flushed_rest, flushed_taken}
use Rattle.protocol.proofs.Wires.{replies, taken, tally-append, tally-posts, tally_taken, word_label, words}
use Rattle.protocol.proofs.Invariant.{Board, Chain, FitsNote, FitsPhase, InLoom, Inv, Reasoned, Reasons, Spared, Tree}
use Rattle.protocol.proofs.Invariant.{Treed, Wanted, asked, bit, child, keeps, label_of, labels, marks_of, owes}
use Rattle.protocol.proofs.Invariant.{roles_of}
use Rattle.protocol.proofs.Plain.{askers_held, at_upd, eqb_same, pointwise, same_part}
use Rattle.protocol.proofs.Words.{owes_free}
use Rattle.protocol.proofs.Agreement.{bit_true, gathers_held}
use Rattle.protocol.proofs.Deciding.{all_both, all_le}
use Rattle.protocol.proofs.Replying.{ask_stage}
use Rattle.protocol.proofs.Carrying.{flushed_none, keeps_none, tally_none}

abbrev mid_d : Round → Story → Story → Story
mid_d Save mid since = since
mid_d Back mid since = mid

abbrev since_d : Round → Story → Story
since_d Save since = []
since_d Back since = since

pub asks_self : (n : ℕ) (r : Round) (p : ℕ) (m : Marks) → in_cohort n r p m p ≡ false
asks_self n Save p m = rw (eqb_same p) (and_right (ltb p n) false refl)
asks_self n Back p m = rw (eqb_same p) (and_right (ltb p n) false refl)

pub asks_near : (n : ℕ) (r : Round) (p : ℕ) (m : Marks) (b : ℕ) → in_cohort n r p m b ≡ true → b < n
asks_near n Save p m b h = ltb-true b n (and_parts (ltb b n) _ h).0
asks_near n Back p m b h = ltb-true b n (and_parts (ltb b n) _ h).0

and_again : (x y : Bool) → (y ≡ true → x ≡ true) → (x && y) ≡ y
and_again true y h = refl
and_again false true h = h refl
and_again false false h = refl

pub asked_drawn : (n : ℕ) (r : Round) (p : ℕ) (m : Marks) (b : ℕ) → asked n r p (mark_drawn r m) b ≡ in_cohort n r p m b
asked_drawn n Save p m b = refl
asked_drawn n Back p m b = refl

pub label_drawn : (r : Round) (m : Marks) (b : ℕ) → label_of r (mark_drawn r m) b ≡ ask_label r m b
label_drawn Save m b = refl
label_drawn Back m b = refl

board_drawn : {R : Type 0} (rules : Rules R) (n : ℕ) (r : Round) (z p a : ℕ) (row : Row) (tb : R) (sd : ℕ → Kept R)
    (own kp : Story) (ck : Story) (du : Bool) (base mid since : Story) →
    row.role.phase ≡ Free → (r ≡ Save → row.lost ≡ false) →
    Board rules (Asking r z) row tb (sd p) own kp ck du base mid since →
    Board rules (Asking r z) (row_drawn n r p a row) tb (drawn_stored r sd p tb p) own kp own du base
    (mid_d r mid since) (since_d r since)
board_drawn rules n Save z p a row tb sd own kp ck du base mid since f lo b =
    let d = rw f at b.pending_is in
    let mk = subst (λ x. Marked row.marks row.count own base x since) d.1 b.marked in
    rw (eqb_same p) (record {
      marked = marked_checkpoint _ _ _ _ _ mk;
      standing_is = b.standing_is;
      table_is = b.table_is;
      pending_is = (ap Some (b.table_is (lo refl) ∙ ap (made rules) mk.split), mk.split, (λ q. refl));
      kept_is = b.kept_is;
      due_is = b.due_is;
    })
board_drawn rules n Back z p a row tb sd own kp ck du base mid since f lo b =
    let d = rw f at b.pending_is in
    record {
      marked = b.marked;
      standing_is = b.standing_is;
      table_is = b.table_is;
      pending_is = d;
      kept_is = b.kept_is;
      due_is = b.due_is;
    }

pub in_store : {R : Type 0} (n : ℕ) (rules : Rules R) (s : State R) (τ : History) → Inv n rules s τ → (p : ℕ) →
    p < n → p < length s.store.boards
in_store n rules s τ inv p l = subst (λ k. p < k) (sym inv.store_size) l

-- the store takes the record of a free board where it has a spare
pub sure_put : {R : Type 0} (n : ℕ) (rules : Rules R) (s : State R) (τ : History) → Inv n rules s τ → (p : ℕ) →
    p < n → (s.rows p).role.phase ≡ Free → 0 < s.store.spare → put_answer s.store p ≡ Ok tt
sure_put n rules s τ inv p l f h =
    let d = rw f at (inv.boards p).pending_is in
    put_taken rules s.store p (in_store n rules s τ inv p l) d.0 h

no_decisions : (r : Round) (z : ℕ) (lab : ℕ → ℕ → ℕ) (a b : ℕ) (w : List Message) →
    AllByRecursion (FitsNote (Asking r z) lab) w → tally (decisions a b) w ≡ 0
no_decisions r z lab a b [] h = refl
no_decisions r z lab a b (post i j (Word l x) ∷ w) h = let q = no_decisions r z lab a b w h.1 in omega arith
no_decisions r z lab a b (post i j (Ask k l) ∷ w) h = let q = no_decisions r z lab a b w h.1 in omega arith
no_decisions r z lab a b (post i j (Reply y) ∷ w) h = let q = no_decisions r z lab a b w h.1 in omega arith
no_decisions r z lab a b (post i j (Decision k y) ∷ w) h = absurd h.0

-- what is asked and posted
module _ (n : ℕ) (r : Round) (p : ℕ) (m : Marks) where
  abbrev pub outs : List Message
  outs = posts n (in_cohort n r p m) (λ b. post p b (Ask r (ask_label r m b)))

  pub outs_asks : (a b : ℕ) → tally (asks a b) outs ≡ cond (eqb p a) (bit (in_cohort n r p m b)) 0
  outs_asks a b = elim (eqb_tells p a) [
    | inl e ↦ rw e.0 (tally-posts (asks a b) b 1 n (in_cohort n r p m) (λ i. post p i (Ask r (ask_label r m i)))
        (λ i. rw e.0 refl) ∙
        ap (λ t. cond t 1 0) (and_again (ltb b n) (in_cohort n r p m b) (λ h. lt-ltb b n (asks_near n r p m b h)))
        ∙ bit_is (in_cohort n r p m b))
    | inr e ↦ rw e.0 (tally_none (asks a b) n (in_cohort n r p m) (λ i. post p i (Ask r (ask_label r m i)))
        (λ i. rw e.0 refl))
  ]
    where
      bit_is : (t : Bool) → cond t 1 0 ≡ bit t
      bit_is true = refl
      bit_is false = refl

  pub outs_none : (h : Message → ℕ) → ((i : ℕ) → h (post p i (Ask r (ask_label r m i))) ≡ 0) → tally h outs ≡ 0
  outs_none h e = tally_none h n (in_cohort n r p m) (λ i. post p i (Ask r (ask_label r m i))) e

  pub outs_replies : (y : Bool) (a b : ℕ) → tally (replies y a b) outs ≡ 0
  outs_replies true a b = outs_none (replies true a b) (λ i. refl)
  outs_replies false a b = outs_none (replies false a b) (λ i. refl)

upd_here : {A : Type 0} (f : ℕ → A) (p : ℕ) (v : A) → changed f p v p ≡ v
upd_here f p v = rw (eqb_same p)

wanted_at : (r : Round) (ms to : ℕ → Marks) (w v : List Message) (x k : ℕ) → to x ≡ ms x → to k ≡ ms k →
    tally (words k x) v ≡ tally (words k x) w → Wanted r ms w x k → Wanted r to v x k
wanted_at Save ms to w v x k e g o h = rw (e, g) h
wanted_at Back ms to w v x k e g o h = (rw (e, g) h.0, o ∙ h.1)

spared_at : (r : Round) (ms to : ℕ → Marks) (w v : List Message) (a b : ℕ) (h : Bool) → to a ≡ ms a → to b ≡ ms b →
    tally (words a b) v ≡ tally (words a b) w → Spared r h ms w a b → Spared r h to v a b
spared_at Save ms to w v a b h e g o k = rw (e, g) k
spared_at Back ms to w v a b h e g o k = (rw (e, g) k.0, o ∙ k.1)

spared_held : (r : Round) (ms to : ℕ → Marks) (w v : List Message) (a b : ℕ) (h : Bool) →
    tally (words a b) v ≡ tally (words a b) w → Spared r h ms w a b → Spared r true to v a b
spared_held Save ms to w v a b h o k = inl refl
spared_held Back ms to w v a b h o k = (inl refl, o ∙ k.1)

note_kept : (r : Round) (z p : ℕ) (lab lab' : ℕ → ℕ → ℕ) (w : List Message) → ((b : ℕ) → tally (asks p b) w ≡ 0) →
    ((i b : ℕ) → (i ≡ p → ⊥) → lab' i b ≡ lab i b) → (m : Message) →
    FitsNote (Asking r z) lab m × ((a b : ℕ) → asks a b m ≤ tally (asks a b) w) → FitsNote (Asking r z) lab' m
note_kept r z p lab lab' w o e (post a b (Word l x)) h = tt
note_kept r z p lab lab' w o e (post a b (Ask k l)) h = (
  h.0.0,
  h.0.1 ∙ sym (e a b (λ i.
      let y = h.1 p b in let u = o b in let q = at_is p b a b 1 i refl in omega arith)),
)
note_kept r z p lab lab' w o e (post a b (Reply y)) h = tt
note_kept r z p lab lab' w o e (post a b (Decision k y)) h = h.0

module _ {R : Type 0} (n : ℕ) (rules : Rules R) (wear : ℕ) (s : State R) (τ : History) (inv : Inv n rules s τ)
    (r : Round) (a p l : ℕ)
    (f : earliest a p s.wire ≡ Some (post a p (Ask r l))) (free : (s.rows p).role.phase ≡ Free)
    (nd : need r (s.rows p).marks a l ≡ true) (lo : r ≡ Save → (s.rows p).lost ≡ false) (sure : r ≡ Save →
    put_answer s.store p ≡ Ok tt) where
  abbrev s' : State R
  s' = act n rules wear s (Joins r a p)

  abbrev v : List Message
  v = without a p s.wire

  abbrev mp : Marks
  mp = (s.rows p).marks

  abbrev row : Row
  row = row_drawn n r p a (s.rows p)

  abbrev out : List Message
  out = outs n r p mp

  d_taken : TakenOff a p (post a p (Ask r l)) s.wire v
  d_taken = taken a p _ s.wire f

  d_loom : (a < n) × (p < n) × (a ≡ p → ⊥)
  d_loom = all_taken (InLoom n) d_taken inv.loom

  d_stage : (z : ℕ) × (τ.stage ≡ Asking r z) × (l ≡ labels (Asking r z) (marks_of s) a p)
  d_stage = ask_stage τ.stage (marks_of s) a p r l
      (all_taken (FitsNote τ.stage (labels τ.stage (marks_of s))) d_taken inv.notes)

  abbrev z : ℕ
  z = d_stage.0

  d_tree : Tree r z (roles_of s) (λ x w. tally (replies false x w) s.wire) τ.joined
  d_tree = subst (λ g. Treed g (roles_of s) (λ x w. tally (replies false x w) s.wire) τ.joined) d_stage.1
      inv.frame.tree

  d_reasons : Reasons n r z (roles_of s) (marks_of s) s.wire
  d_reasons = subst (λ g. Reasoned n g (roles_of s) (marks_of s) s.wire) d_stage.1 inv.reasons

  d_notes : AllByRecursion (FitsNote (Asking r z) (λ i b. label_of r (s.rows i).marks b)) s.wire
  d_notes = subst (λ g. AllByRecursion (FitsNote g (labels g (marks_of s))) s.wire) d_stage.1 inv.notes

  d_board : (i : ℕ) → Board rules (Asking r z) (s.rows i) (s.table i) (stored_at rules s i) (τ.own i) (τ.kept i)
      (τ.drawn i) (τ.due i) (inv.base i) (inv.mid i) (inv.since i)
  d_board i = subst (λ g. Board rules g (s.rows i) (s.table i) (stored_at rules s i) (τ.own i) (τ.kept i)
      (τ.drawn i) (τ.due i) (inv.base i) (inv.mid i) (inv.since i)) d_stage.1 (inv.boards i)

  not_held : held (s.rows p).role.phase ≡ false
  not_held = ap held free

  held_else : (i : ℕ) → held (s.rows i).role.phase ≡ true → eqb i p ≡ false
  held_else i h = ne_eqb i p
      (λ e. true≢false (sym h ∙ subst (λ u. held (s.rows u).role.phase ≡ false) (sym e) not_held))

  d_one : tally (asks a p) s.wire ≡ 1 + tally (asks a p) v
  d_one = let t = tally_taken (asks a p) d_taken in let o = at_is a p a p 1 refl refl in omega arith

  a_awaits : (s.rows a).role.awaited p ≡ true
  a_awaits = let t = inv.frame.tokens a p in let o = d_one in bit_true _ (omega arith)

  a_held : held (s.rows a).role.phase ≡ true
  a_held = gathers_held _ (inv.frame.awaits a p a_awaits)

  p_awaits : (b : ℕ) → (s.rows p).role.awaited b ≡ false
  p_awaits b = elim (cases_Bool ((s.rows p).role.awaited b))
      [ inl h ↦ absurd (true≢false (sym (inv.frame.awaits p b h) ∙ ap gathering free)) | inr h ↦ h ]

  p_none : (b : ℕ) → (tally (asks p b) s.wire ≡ 0) × (tally (replies true b p) s.wire ≡ 0)
      × (tally (replies false b p) s.wire ≡ 0) × (child (s.rows b).role p b ≡ 0)
  p_none b = let t = inv.frame.tokens p b in let e : bit ((s.rows p).role.awaited b) ≡ 0 = ap bit (p_awaits b) in
      omega arith

  d_tally : (h : Message → ℕ) → tally h (v ++ out) + h (post a p (Ask r l)) ≡ tally h s.wire + tally h out
  d_tally h = let t = tally_taken h d_taken in let u = tally-append h v out in omega arith

  d_asks : (i b : ℕ) → tally (asks i b) (v ++ out) + at i b a p 1
      ≡ tally (asks i b) s.wire + cond (eqb p i) (bit (in_cohort n r p mp b)) 0
  d_asks i b = let t = d_tally (asks i b) in let u = outs_asks n r p mp i b in omega arith

  d_words : (i b : ℕ) → tally (words i b) (v ++ out) ≡ tally (words i b) s.wire
  d_words i b = let t = d_tally (words i b) in let u = outs_none n r p mp (words i b) (λ i. refl) in omega arith

  d_decs : (i b : ℕ) → tally (decisions i b) (v ++ out) ≡ 0
  d_decs i b = let t = d_tally (decisions i b) in let u = outs_none n r p mp (decisions i b) (λ i. refl) in
      let q = no_decisions r z _ i b s.wire d_notes in omega arith

  d_replies : (y : Bool) (i b : ℕ) → tally (replies y i b) (v ++ out) ≡ tally (replies y i b) s.wire
  d_replies true i b = let t = d_tally (replies true i b) in let u = outs_replies n r p mp true i b in omega arith
  d_replies false i b = let t = d_tally (replies false i b) in let u = outs_replies n r p mp false i b in omega arith

  d_child : (i b : ℕ) → child (roles_of s' b) i b
      ≡ cond (eqb b p) (cond (eqb a i) (cond (eqb i p) 0 1) 0) (child (s.rows b).role i b)
  d_child i = at_upd (λ b x. child x.role i b
      ≡ cond (eqb b p) (cond (eqb a i) (cond (eqb i p) 0 1) 0) (child (s.rows b).role i b)) s.rows p row
      (rw (eqb_same p)) (λ b e. rw e)

  d_awaited : (i b : ℕ) → (roles_of s' i).awaited b ≡ cond (eqb i p) (in_cohort n r p mp b) ((s.rows i).role.awaited b)
  d_awaited i b = at_upd (λ i x. x.role.awaited b
      ≡ cond (eqb i p) (in_cohort n r p mp b) ((s.rows i).role.awaited b)) s.rows p row (rw (eqb_same p))
      (λ i e. rw e) i

  d_tokens : (i b : ℕ) → tally (asks i b)
      (v ++ out) + (tally (replies true b i) (v ++ out) + tally (replies false b i) (v ++ out)) + child (roles_of s' b)
      i b ≡ bit ((roles_of s' i).awaited b)
  d_tokens i b =
      let x = inv.frame.tokens i b in let x1 = d_asks i b in let x2 = d_replies true b i in
      let x3 = d_replies false b i in let c = d_child i b in let w = ap bit (d_awaited i b) in
      elim (eqb_tells i p) [
        | inl e ↦ (let q = p_none b in
            let q0 : tally (asks i b) s.wire ≡ 0 =
            subst (λ u. tally (asks u b) s.wire ≡ 0) (sym e.1) q.0 in
            let q1 : tally (replies true b i) s.wire ≡ 0 =
            subst (λ u. tally (replies true b u) s.wire ≡ 0) (sym e.1) q.1 in
            let q2 : tally (replies false b i) s.wire ≡ 0 =
            subst (λ u. tally (replies false b u) s.wire ≡ 0) (sym e.1) q.2 in
            let q3 : child (s.rows b).role i b ≡ 0 =
            subst (λ u. child (s.rows b).role u b ≡ 0) (sym e.1) q.3 in
            let ai : a ≡ i → ⊥ = λ u. d_loom.2 (u ∙ e.1) in
            let o = at_not_from i b a p 1 ai in
            let y1 = rw (eq-eqb p i (sym e.1)) at x1 in
            let w1 : bit ((roles_of s' i).awaited b) ≡ bit (in_cohort n r p mp b) = w ∙ rw e.0 refl in
            let c1 : child (roles_of s' b) i b ≡ 0 = c
            ∙ elim (eqb_tells b p) [ inl j ↦ rw (j.0, ne_eqb a i ai) refl | inr j ↦ rw j.0 q3 ] in
            omega arith)
        | inr e ↦ (let y1 = rw (ne_eqb p i (λ u. e.1 (sym u))) at x1 in
            let w1 : bit ((roles_of s' i).awaited b) ≡ bit ((s.rows i).role.awaited b) = w ∙ rw e.0 refl in
            elim (eqb_tells b p) [
              | inl j ↦ (let g : child (s.rows b).role i b ≡ 0 =
                  subst (λ u. child (s.rows u).role i u ≡ 0) (sym j.1) (rw free refl) in
                  elim (eqb_tells a i) [
                    | inl k ↦ (let o = at_is i b a p 1 k.1 (sym j.1) in
                        let c1 : child (roles_of s' b) i b ≡ 1 = c ∙ rw (j.0, k.0, e.0) refl in omega arith)
                    | inr k ↦ (let o = at_not_from i b a p 1 k.1 in
                        let c1 : child (roles_of s' b) i b ≡ 0 = c ∙ rw (j.0, k.0) refl in omega arith)
                  ])
              | inr j ↦ (let o = at_not_to i b a p 1 (λ u. j.1 (sym u)) in
                  let c1 : child (roles_of s' b) i b ≡ child (s.rows b).role i b = c ∙ rw j.0 refl in omega arith)
            ])
      ]

  d_asker : (i : ℕ) → eqb i p ≡ false → (roles_of s' i).asker ≡ (s.rows i).role.asker
  d_asker i e = rw (roles_of, e) refl

  d_asker_here : (roles_of s' p).asker ≡ a
  d_asker_here = rw (roles_of, eqb_same p) refl

  d_answer : (i : ℕ) → eqb i p ≡ false → (roles_of s' i).answer ≡ (s.rows i).role.answer
  d_answer i e = rw (roles_of, e) refl

  d_marks : (i : ℕ) → eqb i p ≡ false → marks_of s' i ≡ (s.rows i).marks
  d_marks i e = rw (marks_of, e) refl

  d_marks_here : marks_of s' p ≡ mark_drawn r mp
  d_marks_here = rw (marks_of, eqb_same p) refl

  d_held : (i : ℕ) → held (roles_of s' i).phase ≡ cond (eqb i p) true (held (s.rows i).role.phase)
  d_held = at_upd (λ i x. held x.role.phase ≡ cond (eqb i p) true (held (s.rows i).role.phase)) s.rows p row
      (rw (eqb_same p)) (λ i e. rw e)

  d_chain : (xs : List ℕ) → member p xs ≡ false → Chain (roles_of s) z xs → Chain (roles_of s') z xs
  d_chain [] m c = tt
  d_chain (x ∷ xs) m c = let o = or_parts (eqb p x) (member p xs) m in
      (c.0, rw (d_asker x (ne_eqb x p (λ u. eqb-false p x o.0 (sym u)))) c.1, d_chain xs o.1 c.2)

  p_not_z : p ≡ z → ⊥
  p_not_z e = true≢false (sym (ap held d_tree.start_phase)
      ∙ subst (λ u. held (s.rows u).role.phase ≡ false) e not_held)

  z_else : eqb z p ≡ false
  z_else = ne_eqb z p (λ e. p_not_z (sym e))

  d_treed : Tree r z (roles_of s') (λ x w. tally (replies false x w) (v ++ out)) (p ∷ τ.joined)
  d_treed =
      let mo = or_parts (eqb p z) (member p τ.joined) (sym (d_tree.members p) ∙ not_held) in
      record {
        start_phase = at_upd (λ i x. eqb i p ≡ false → (s.rows i).role.phase ≡ Gathering r →
            x.role.phase ≡ Gathering r) s.rows p row (λ _ _. refl) (λ i _ _ u. u) z z_else d_tree.start_phase;
        start_own = d_asker z z_else ∙ d_tree.start_own;
        members = at_upd (λ b x. held x.role.phase ≡ (eqb b z || (eqb b p || member b τ.joined))) s.rows p
            row
            (sym (or_right (eqb p z) _ (or_left (eqb p p) _ (eqb_same p)))) (λ b e. rw e (d_tree.members b));
        chain = (
          p_not_z,
          subst (λ k. (k ≡ z) ⊎ (member k τ.joined ≡ true)) (sym d_asker_here)
              (elim (or_cases (eqb a z) (member a τ.joined) (sym (d_tree.members a) ∙ a_held))
              [ inl e ↦ inl (eqb-true a z e) | inr e ↦ inr e ]),
          d_chain τ.joined mo.1 d_tree.chain,
        );
        noes = λ x e g. elim (eqb_tells x p) [
          | inl i ↦ absurd (gather_answer
              (sym (subst (λ u. (roles_of s' u).phase ≡ Gathering r) (sym i.1) (rw (roles_of, eqb_same p) refl)) ∙ e))
          | inr i ↦ (let ph : (s.rows x).role.phase ≡ Answered r = sym (rw (roles_of, i.0) refl) ∙ e in
              let hk = askers_held d_tree x (ap held ph) in
              rw (d_asker x i.0) (elim (d_tree.noes x ph (sym (d_answer x i.0) ∙ g)) [
                | inl o ↦ inl (let w = d_replies false x (s.rows x).role.asker in omega arith)
                | inr o ↦ inr (d_answer _ (held_else _ hk) ∙ o)
              ]))
        ];
      }
    where
      gather_answer : ◌≡◌ {A = Phase} (Gathering r) (Answered r) → ⊥
      gather_answer e = let q : ◌≡◌ {A = ℕ} 0 1 = cc in omega arith

  d_new : (q : Round) → need q mp a l ≡ true → l ≡ label_of q (s.rows a).marks p → (to : ℕ → Marks) →
      to p ≡ mark_drawn q mp → to a ≡ (s.rows a).marks → (w : List Message) → tally (words a p) w ≡ 0 →
      Wanted q to w p a
  d_new Save h e to g k w o = let c = and_parts (ltb 0 (mp.first a)) (leb (mp.first a) l) h in
      let c0 = ltb-true 0 (mp.first a) c.0 in let c1 = leb-true (mp.first a) l c.1 in
      rw (g, k) (c0, (omega arith))
  d_new Back h e to g k w o = let c = ltb-true l (mp.heard a) h in (rw (g, k) (omega arith), o)

  d_flush : tally (words a p) (v ++ out) ≡ 0
  d_flush = d_words a p ∙ (let u =
      flushed_taken a p {m = post a p (Ask r l)} (let o = at_is a p a p 1 refl refl in
      omega arith) d_taken (inv.flushed a p) in let t = tally_taken (words a p) d_taken in omega arith)

  d_reasoned : Reasons n r z (roles_of s') (marks_of s') (v ++ out)
  d_reasoned = record {
    wanted = λ x hx ne. elim (eqb_tells x p) [
      | inl i ↦ subst (λ u. Wanted r (marks_of s') (v ++ out) u (roles_of s' u).asker) (sym i.1)
          (rw d_asker_here (d_new r nd d_stage.2 (marks_of s') d_marks_here (d_marks a (held_else a a_held))
          (v ++ out) d_flush))
      | inr i ↦ (let h : held (s.rows x).role.phase ≡ true = sym (d_held x ∙ rw i.0 refl) ∙ hx in
          let hk = askers_held d_tree x h in
          rw (d_asker x i.0) (wanted_at r (marks_of s) (marks_of s') s.wire (v ++ out) x (s.rows x).role.asker
          (d_marks x i.0) (d_marks _ (held_else _ hk)) (d_words _ x) (d_reasons.wanted x h ne)))
    ];
    covered = λ i b hi as' o. elim (eqb_tells i p) [
      | inl e ↦ absurd (elim o [
        | inl y ↦ (let w = d_replies true b i in
            let q : tally (replies true b i) s.wire ≡ 0 =
            subst (λ u. tally (replies true b u) s.wire ≡ 0) (sym e.1) (p_none b).1 in omega arith)
        | inr y ↦ true≢false (sym (sym (asked_drawn n r p mp b)
            ∙ subst (λ u. asked n r p u b ≡ true) d_marks_here
            (subst (λ u. asked n r u (marks_of s' u) b ≡ true) e.1 as'))
            ∙ sym (d_awaited p b ∙ rw (eqb_same p) refl) ∙ subst (λ u. (roles_of s' u).awaited b ≡ false) e.1 y.0)
      ])
      | inr e ↦ (let h : held (s.rows i).role.phase ≡ true = sym (d_held i ∙ rw e.0 refl) ∙ hi in
          let old = d_reasons.covered i b h (subst (λ u. asked n r i u b ≡ true) (d_marks i e.0) as')
          (elim o [
            | inl y ↦ inl (let w = d_replies true b i in omega arith)
            | inr y ↦ inr (sym (d_awaited i b ∙ rw e.0 refl) ∙ y.0, sym (d_answer i e.0) ∙ y.1)
          ]) in
          rw (d_held b) (elim (eqb_tells b p) [
            | inl j ↦ rw j.0 (spared_held r (marks_of s) (marks_of s') s.wire (v ++ out) i b _ (d_words i b) old)
            | inr j ↦ rw j.0 (spared_at r (marks_of s) (marks_of s') s.wire (v ++ out) i b _ (d_marks i e.0)
                (d_marks b j.0) (d_words i b) old)
          ]))
    ];
  }

  d_noted : AllByRecursion (FitsNote (Asking r z) (λ i b. label_of r (marks_of s' i) b)) (v ++ out)
  d_noted = All-append _ v out
      (All-weaker _ _ (note_kept r z p (λ i b. label_of r (s.rows i).marks b) _ v
      (λ b. let t = tally_taken (asks p b) d_taken in let q = (p_none b).0 in omega arith)
      (λ i b e. ap (λ u. label_of r u b) (d_marks i (ne_eqb i p e)))) v
      (all_both _ _ v (all_rest _ d_taken d_notes) (all_le asks v)))
      (all_posts _ n _ _ (λ b _ _. (refl, sym (ap (λ u. label_of r u b) d_marks_here ∙ label_drawn r mp b))))

  d_boards : (i : ℕ) → Board rules (Asking r z) (changed s.rows p row i) (s.table i)
      (drawn_stored r (stored_at rules s) p (s.table p) i) (τ.own i) (τ.kept i) (changed τ.drawn p (τ.own p) i)
      (τ.due i)
      (inv.base i) (changed inv.mid p (mid_d r (inv.mid p) (inv.since p)) i)
      (changed inv.since p (since_d r (inv.since p)) i)
  d_boards = pointwise (λ i. Board rules (Asking r z) (changed s.rows p row i) (s.table i)
      (drawn_stored r (stored_at rules s) p (s.table p) i) (τ.own i) (τ.kept i) (changed τ.drawn p (τ.own p) i)
      (τ.due i)
      (inv.base i) (changed inv.mid p (mid_d r (inv.mid p) (inv.since p)) i)
      (changed inv.since p (since_d r (inv.since p)) i)) p
      (rw (
        upd_here s.rows p row,
        upd_here τ.drawn p (τ.own p),
        upd_here inv.mid p (mid_d r (inv.mid p) (inv.since p)),
        upd_here inv.since p (since_d r (inv.since p)),
      )
      (board_drawn rules n r z p a (s.rows p) _ (stored_at rules s) _ _ (τ.drawn p) _ _ _ _ free lo (d_board p)))
      (λ i e. rw (drawn_other r (stored_at rules s) p i (s.table p) e, e) (d_board i))

  pub keeps_draw : Inv n rules (act n rules wear s (Joins r a p)) (retell s τ (Joins r a p))
  keeps_draw = record {
    store_size = size_drawn r wear s.store p (s.table p) ∙ inv.store_size;
    base = inv.base;
    mid = changed inv.mid p (mid_d r (inv.mid p) (inv.since p));
    since = changed inv.since p (since_d r (inv.since p));
    boards = λ i. subst₂ (λ g k. Board rules g (changed s.rows p row i) (s.table i) k (τ.own i) (τ.kept i)
        (changed τ.drawn p (τ.own p) i) (τ.due i)
        (inv.base i) (changed inv.mid p (mid_d r (inv.mid p) (inv.since p)) i)
        (changed inv.since p (since_d r (inv.since p)) i))
        (sym d_stage.1) (sym (stored_drawn rules s.store p (in_store n rules s τ inv p d_loom.1) r wear
        (s.table p) sure i)) (d_boards i);
    flow = λ i b. rw (same_part (λ x. x.count) s.rows p row refl i)
        (flow_append (word_label i b) _ _ v _ (all_posts _ n _ _ (λ _ _ _. refl))
        (flow_drop (word_label i b) _ _ d_taken (inv.flow i b)));
    carried = All-append _ v _ (all_rest _ d_taken inv.carried) (all_posts _ n _ _ (λ _ _ _. tt));
    flushed = λ i b. (let q = outs_none n r p mp (words i b) (λ _. refl) in
        flushed_append i b v _ (inr q) (flushed_none i b _ q) (flushed_rest i b d_taken (inv.flushed i b)));
    loom = All-append _ v _ (all_rest _ d_taken inv.loom)
        (all_posts _ n _ _ (λ b k c.
        (d_loom.1, k, λ e. true≢false (sym c ∙ subst (λ u. in_cohort n r p mp u ≡ false) e (asks_self n r p mp)))));
    notes = subst (λ g. AllByRecursion (FitsNote g (labels g (marks_of s'))) (v ++ out)) (sym d_stage.1) d_noted;
    kept_free = inv.kept_free;
    present_free = inv.present_free;
    frame = record {
      tokens = d_tokens;
      awaits = λ i b. at_upd (λ i x. x.role.awaited b ≡ true → gathering x.role.phase ≡ true) s.rows p row
          (λ _. refl) (λ i _. inv.frame.awaits i b) i;
      near = λ i b h. d_awaited i b ∙ elim (eqb_tells i p) [
        | inl e ↦ rw e.0 (elim (cases_Bool (in_cohort n r p mp b))
            [ inl c ↦ absurd (let q = asks_near n r p mp b c in omega arith) | inr c ↦ c ])
        | inr e ↦ rw e.0 (inv.frame.near i b h)
      ];
      self = at_upd (λ i x. x.role.cohort i ≡ false) s.rows p row (asks_self n r p mp)
          (λ i _. inv.frame.self i);
      dec_one = λ i b. (let q = d_decs i b in omega arith);
      dec_free = λ i b h. absurd (let q = d_decs i b in omega arith);
      fits = subst (λ g. (i : ℕ) → FitsPhase g (roles_of s' i).phase) (sym d_stage.1)
          (at_upd (λ i x. FitsPhase (Asking r z) x.role.phase) s.rows p row (inr (inl refl))
          (λ i _. subst (λ g. FitsPhase g (s.rows i).role.phase) d_stage.1 (inv.frame.fits i)));
      far = at_upd (λ i x. n ≤ i → x.role.phase ≡ Free) s.rows p row
          (λ h. absurd (let q = d_loom.1 in omega arith)) (λ i _. inv.frame.far i);
      tree = subst (λ g. Treed g (roles_of s') (λ x w. tally (replies false x w) (v ++ out)) (p ∷ τ.joined))
          (sym d_stage.1) d_treed;
    };
    reasons = subst (λ g. Reasoned n g (roles_of s') (marks_of s') (v ++ out)) (sym d_stage.1) d_reasoned;
  }

pub free_of : (f : Phase) → held f ≡ false → f ≡ Free
free_of Free h = refl
free_of (Gathering r) h = absurd (true≢false h)
free_of (Answered r) h = absurd (true≢false h)

board_restage : {R : Type 0} (rules : Rules R) (g k : Stage) (r : Row) (tb : R) (sd : Kept R) (own kp ck : Story)
    (du : Bool) (base mid since : Story) →
    r.role.phase ≡ Free → Board rules g r tb sd own kp ck du base mid since →
    Board rules k r tb sd own kp ck du base mid since
board_restage rules g k r tb sd own kp ck du base mid since f b = record {
  marked = b.marked;
  standing_is = b.standing_is;
  table_is = b.table_is;
  pending_is = b.pending_is;
  kept_is = b.kept_is ∙ ap (λ t. cond t (mid ++ base) base)
      (ap (keeps g) f ∙ keeps_none g ∙ sym (ap (keeps k) f ∙ keeps_none k));
  due_is = b.due_is ∙ ap (owes g) f ∙ owes_free g ∙ sym (ap (owes k) f ∙ owes_free k);
}

tally_le : (h k : Message → ℕ) → ((m : Message) → h m ≤ k m) → (w : List Message) → tally h w ≤ tally k w
tally_le h k e [] = omega arith
tally_le h k e (m ∷ w) = let x = e m in let ih = tally_le h k e w in omega arith

at_one : (a b p q : ℕ) → at a b p q 1 ≤ 1
at_one a b p q = elim (eqb_tells p a) [
  | inl i ↦ elim (eqb_tells q b) [ inl j ↦ rw (i.0, j.0) (omega arith) | inr j ↦ rw (i.0, j.0) (omega arith) ]
  | inr i ↦ rw i.0 (omega arith)
]

pub asks_le : (a b : ℕ) (m : Message) → asks a b m ≤ is_control m
asks_le a b (post p q (Word l w)) = omega arith
asks_le a b (post p q (Ask r l)) = at_one a b p q
asks_le a b (post p q (Reply y)) = omega arith
asks_le a b (post p q (Decision r v)) = omega arith

pub replies_le : (y : Bool) (a b : ℕ) (m : Message) → replies y a b m ≤ is_control m
replies_le true a b (post p q (Word l w)) = omega arith
replies_le true a b (post p q (Ask r l)) = omega arith
replies_le true a b (post p q (Reply true)) = at_one a b p q
replies_le true a b (post p q (Reply false)) = omega arith
replies_le true a b (post p q (Decision r v)) = omega arith
replies_le false a b (post p q (Word l w)) = omega arith
replies_le false a b (post p q (Ask r l)) = omega arith
replies_le false a b (post p q (Reply true)) = omega arith
replies_le false a b (post p q (Reply false)) = at_one a b p q
replies_le false a b (post p q (Decision r v)) = omega arith

pub decisions_le : (a b : ℕ) (m : Message) → decisions a b m ≤ is_control m
decisions_le a b (post p q (Word l w)) = omega arith
decisions_le a b (post p q (Ask r l)) = omega arith
decisions_le a b (post p q (Reply y)) = omega arith
decisions_le a b (post p q (Decision r v)) = at_one a b p q

word_note : (g : Stage) (lab : ℕ → ℕ → ℕ) (m : Message) → (ℕ → ℕ → is_control m ≤ 0) → FitsNote g lab m
word_note g lab (post p q (Word l w)) h = tt
word_note g lab (post p q (Ask r l)) h = absurd (let q = h 0 0 in omega arith)
word_note g lab (post p q (Reply y)) h = absurd (let q = h 0 0 in omega arith)
word_note g lab (post p q (Decision r v)) h = absurd (let q = h 0 0 in omega arith)

module _ {R : Type 0} (n : ℕ) (rules : Rules R) (wear : ℕ) (s : State R) (τ : History) (inv : Inv n rules s τ)
    (r : Round) (p : ℕ) (pn : p < n)
    (rest : (i : ℕ) → i < n → held (s.rows i).role.phase ≡ false) (none' : tally is_control s.wire ≡ 0)
    (lo : r ≡ Save → (s.rows p).lost ≡ false) (sure : r ≡ Save → put_answer s.store p ≡ Ok tt) where
  abbrev t' : State R
  t' = act n rules wear s (Starts r p)

  abbrev mq : Marks
  mq = (s.rows p).marks

  abbrev rowq : Row
  rowq = row_drawn n r p p (s.rows p)

  abbrev outq : List Message
  outq = outs n r p mq

  all_free : (i : ℕ) → (s.rows i).role.phase ≡ Free
  all_free i = elim (cases_lt i n) [ inl h ↦ free_of _ (rest i h) | inr h ↦ inv.frame.far i h ]

  s_awaited : (i b : ℕ) → (s.rows i).role.awaited b ≡ false
  s_awaited i b = elim (cases_Bool ((s.rows i).role.awaited b))
      [ inl h ↦ absurd (true≢false (sym (inv.frame.awaits i b h) ∙ ap gathering (all_free i))) | inr h ↦ h ]

  z_asks : (i b : ℕ) → tally (asks i b) (s.wire ++ outq) ≡ cond (eqb p i) (bit (in_cohort n r p mq b)) 0
  z_asks i b = let t = tally-append (asks i b) s.wire outq in let u = outs_asks n r p mq i b in
      let q = tally_le (asks i b) is_control (asks_le i b) s.wire in omega arith

  z_replies : (y : Bool) (i b : ℕ) → tally (replies y i b) (s.wire ++ outq) ≡ 0
  z_replies y i b = let t = tally-append (replies y i b) s.wire outq in let u = outs_replies n r p mq y i b in
      let q = tally_le (replies y i b) is_control (replies_le y i b) s.wire in omega arith

  z_decs : (i b : ℕ) → tally (decisions i b) (s.wire ++ outq) ≡ 0
  z_decs i b = let t = tally-append (decisions i b) s.wire outq in
      let u = outs_none n r p mq (decisions i b) (λ _. refl) in
      let q = tally_le (decisions i b) is_control (decisions_le i b) s.wire in omega arith

  z_child : (i b : ℕ) → child (roles_of t' b) i b ≡ 0
  z_child i = at_upd (λ b x. child x.role i b ≡ 0) s.rows p rowq
      (elim (eqb_tells p i) [ inl e ↦ rw (e.0, eq-eqb i p (sym e.1)) refl | inr e ↦ rw e.0 refl ])
      (λ b e. rw (all_free b) refl)

  z_awaited : (i b : ℕ) → (roles_of t' i).awaited b ≡ cond (eqb i p) (in_cohort n r p mq b) false
  z_awaited i b = at_upd (λ i x. x.role.awaited b ≡ cond (eqb i p) (in_cohort n r p mq b) false) s.rows p rowq
      (rw (eqb_same p)) (λ i e. rw e (s_awaited i b)) i

  z_phase : (i : ℕ) → eqb i p ≡ false → (roles_of t' i).phase ≡ Free
  z_phase i e = rw (roles_of, e) (all_free i)

  z_held : (i : ℕ) → held (roles_of t' i).phase ≡ eqb i p
  z_held = at_upd (λ i x. held x.role.phase ≡ eqb i p) s.rows p rowq (sym (eqb_same p))
      (λ i e. rw e (ap held (all_free i)))

  z_is : (i : ℕ) → held (roles_of t' i).phase ≡ true → i ≡ p
  z_is i h = eqb-true i p (sym (z_held i) ∙ h)

  z_marks : marks_of t' p ≡ mark_drawn r mq
  z_marks = rw (marks_of, eqb_same p) refl

  or_false : (b : Bool) → b ≡ (b || false)
  or_false true = refl
  or_false false = refl

  z_board : (i : ℕ) → Board rules (Asking r p) (s.rows i) (s.table i) (stored_at rules s i) (τ.own i) (τ.kept i)
      (τ.drawn i) (τ.due i) (inv.base i) (inv.mid i) (inv.since i)
  z_board i = board_restage rules τ.stage (Asking r p) _ _ _ _ _ _ _ _ _ _ (all_free i) (inv.boards i)

  z_boards : (i : ℕ) → Board rules (Asking r p) (changed s.rows p rowq i) (s.table i)
      (drawn_stored r (stored_at rules s) p (s.table p) i) (τ.own i) (τ.kept i) (changed τ.drawn p (τ.own p) i)
      (τ.due i)
      (inv.base i) (changed inv.mid p (mid_d r (inv.mid p) (inv.since p)) i)
      (changed inv.since p (since_d r (inv.since p)) i)
  z_boards = pointwise (λ i. Board rules (Asking r p) (changed s.rows p rowq i) (s.table i)
      (drawn_stored r (stored_at rules s) p (s.table p) i) (τ.own i) (τ.kept i) (changed τ.drawn p (τ.own p) i)
      (τ.due i)
      (inv.base i) (changed inv.mid p (mid_d r (inv.mid p) (inv.since p)) i)
      (changed inv.since p (since_d r (inv.since p)) i)) p
      (rw (
        upd_here s.rows p rowq,
        upd_here τ.drawn p (τ.own p),
        upd_here inv.mid p (mid_d r (inv.mid p) (inv.since p)),
        upd_here inv.since p (since_d r (inv.since p)),
      )
      (board_drawn rules n r p p p (s.rows p) _ (stored_at rules s) _ _ (τ.drawn p) _ _ _ _ (all_free p) lo
      (z_board p)))
      (λ i e. rw (drawn_other r (stored_at rules s) p i (s.table p) e, e) (z_board i))

  pub keeps_start : Inv n rules (act n rules wear s (Starts r p)) (retell s τ (Starts r p))
  keeps_start = record {
    store_size = size_drawn r wear s.store p (s.table p) ∙ inv.store_size;
    base = inv.base;
    mid = changed inv.mid p (mid_d r (inv.mid p) (inv.since p));
    since = changed inv.since p (since_d r (inv.since p));
    boards = λ i. subst (λ k. Board rules (Asking r p) (changed s.rows p rowq i) (s.table i) k (τ.own i)
        (τ.kept i) (changed τ.drawn p (τ.own p) i) (τ.due i)
        (inv.base i) (changed inv.mid p (mid_d r (inv.mid p) (inv.since p)) i)
        (changed inv.since p (since_d r (inv.since p)) i))
        (sym (stored_drawn rules s.store p (in_store n rules s τ inv p pn) r wear (s.table p) sure i))
        (z_boards i);
    flow = λ i b. rw (same_part (λ x. x.count) s.rows p rowq refl i)
        (flow_append (word_label i b) _ _ s.wire _ (all_posts _ n _ _ (λ _ _ _. refl)) (inv.flow i b));
    carried = All-append _ s.wire _ inv.carried (all_posts _ n _ _ (λ _ _ _. tt));
    flushed = λ i b. (let q = outs_none n r p mq (words i b) (λ _. refl) in
        flushed_append i b s.wire _ (inr q) (flushed_none i b _ q) (inv.flushed i b));
    loom = All-append _ s.wire _ inv.loom
        (all_posts _ n _ _ (λ b k c.
        (pn, k, λ e. true≢false (sym c ∙ subst (λ u. in_cohort n r p mq u ≡ false) e (asks_self n r p mq)))));
    notes = All-append _ s.wire _
        (All-weaker _ _ (λ m h. word_note (Asking r p) _ m (λ i j. let q = h i j in omega arith)) s.wire
        (all_le (λ _ _. is_control) s.wire))
        (all_posts _ n _ _ (λ b _ _. (refl, sym (ap (λ u. label_of r u b) z_marks ∙ label_drawn r mq b))));
    kept_free = inv.kept_free;
    present_free = inv.present_free;
    frame = record {
      tokens = λ i b. (let x1 = z_asks i b in let x2 = z_replies true b i in let x3 = z_replies false b i in
          let c = z_child i b in let w = ap bit (z_awaited i b) in elim (eqb_tells i p) [
            | inl e ↦ (let y1 = rw (eq-eqb p i (sym e.1)) at x1 in
                let w1 : bit ((roles_of t' i).awaited b) ≡ bit (in_cohort n r p mq b) = w ∙ rw e.0 refl in omega arith)
            | inr e ↦ (let y1 = rw (ne_eqb p i (λ u. e.1 (sym u))) at x1 in
                let w1 : bit ((roles_of t' i).awaited b) ≡ 0 = w ∙ rw e.0 refl in omega arith)
          ]);
      awaits = λ i b. at_upd (λ i x. x.role.awaited b ≡ true → gathering x.role.phase ≡ true) s.rows p rowq
          (λ _. refl) (λ i _. inv.frame.awaits i b) i;
      near = λ i b h. z_awaited i b ∙ elim (eqb_tells i p) [
        | inl e ↦ rw e.0 (elim (cases_Bool (in_cohort n r p mq b))
            [ inl c ↦ absurd (let q = asks_near n r p mq b c in omega arith) | inr c ↦ c ])
        | inr e ↦ rw e.0 refl
      ];
      self = at_upd (λ i x. x.role.cohort i ≡ false) s.rows p rowq (asks_self n r p mq)
          (λ i _. inv.frame.self i);
      dec_one = λ i b. (let q = z_decs i b in omega arith);
      dec_free = λ i b h. absurd (let q = z_decs i b in omega arith);
      fits = at_upd (λ i x. FitsPhase (Asking r p) x.role.phase) s.rows p rowq (inr (inl refl))
          (λ i _. inl (all_free i));
      far = at_upd (λ i x. n ≤ i → x.role.phase ≡ Free) s.rows p rowq (λ h. absurd (omega arith))
          (λ i _. inv.frame.far i);
      tree = record {
        start_phase = rw (roles_of, eqb_same p) refl;
        start_own = rw (roles_of, eqb_same p) refl;
        members = λ b. z_held b ∙ or_false (eqb b p);
        chain = tt;
        noes = λ x e g. absurd (elim (eqb_tells x p) [
          | inl i ↦ (let k : (roles_of t' x).phase ≡ Gathering r =
              subst (λ u. (roles_of t' u).phase ≡ Gathering r) (sym i.1) (rw (roles_of, eqb_same p) refl) in
              true≢false (sym (ap gathering k) ∙ ap gathering e))
          | inr i ↦ false≢true (sym (ap held (z_phase x i.0)) ∙ ap held e)
        ]);
      };
    };
    reasons = record {
      wanted = λ x hx ne. absurd (ne (z_is x hx));
      covered = λ i b hi as' o. absurd (let e = z_is i hi in elim o [
        | inl y ↦ (let q = z_replies true b i in omega arith)
        | inr y ↦ true≢false (sym (sym (asked_drawn n r p mq b)
            ∙ subst (λ u. asked n r p u b ≡ true) z_marks (subst (λ u. asked n r u (marks_of t' u) b ≡ true) e as'))
            ∙ sym (z_awaited p b ∙ rw (eqb_same p) refl) ∙ subst (λ u. (roles_of t' u).awaited b ≡ false) e y.0)
      ]);
    };
  }
