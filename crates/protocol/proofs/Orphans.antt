-- No orphan comes of an agreed round, and leaving members out would make one.
use Rattle.std.proofs.Common.{◌≡◌, ℕ, ◌<◌, Bool, true, false, cond, eqb, ◌⊎◌, ◌++◌, sym, refl, ◌∙◌, subst, inl, inr, arith}
use Rattle.std.proofs.lemmas.Bool.{cases_Bool, lt-ltb, ne_eqb, true≢false}
use Rattle.std.proofs.lemmas.Bool.Decides.{when_true}
use Rattle.records.specs.Rules.{Rules}
use Rattle.records.specs.Stories.{Story}
use Rattle.records.specs.declared.event.Event.{Event}
use Rattle.protocol.specs.Effects.{State}
use Rattle.protocol.specs.Histories.{Asking, History}
use Rattle.protocol.specs.Rows.{Back, Save, held}
use Rattle.protocol.specs.Wire.{tally}
use Rattle.protocol.proofs.Labels.{In, LabelOrphan, NoLabelOrphan, Rising, first_in, first_le_in, heard_from}
use Rattle.protocol.proofs.Labels.{in_le_last, in_left, in_right, in_split, last_in, rising_cross, rising_left}
use Rattle.protocol.proofs.Labels.{rising_right, sent_to}
use Rattle.protocol.proofs.Wires.{words}
use Rattle.protocol.proofs.Invariant.{FitsPhase, Inv, Spared, Wanted, asked, marks_of}
use Rattle.protocol.proofs.Decided.{all_saving, base_own, kept_base, no_mid, none_saving, not_saving, own_splits}
use Rattle.protocol.proofs.Decided.{present_own, rise_parts}

-- a part of an order without its last part
module _ {R : Type 0} (n : ℕ) (rules : Rules R) (s : State R) (τ : History) (inv : Inv n rules s τ) (p : ℕ)
    (st : τ.stage ≡ Asking Save p)
    (fit : (a : ℕ) → FitsPhase (Asking Save p) (s.rows a).role.phase)
    (cov : (a b : ℕ) → held (s.rows a).role.phase ≡ true → asked n Save a (s.rows a).marks b ≡ true →
    Spared Save (held (s.rows b).role.phase) (marks_of s) s.wire a b) where
  -- the kept stories once the round is agreed
  abbrev pub agreed_save : ℕ → Story
  agreed_save i = cond (held (s.rows i).role.phase) (inv.mid i ++ inv.base i) (inv.base i)

  base_agreed : (f : Event → ℕ) (l i : ℕ) → In f l (inv.base i) → In f l (agreed_save i)
  base_agreed f l i h = elim (held (s.rows i).role.phase) as (λ t. In f l
      (cond t (inv.mid i ++ inv.base i) (inv.base i)))
      [ true ↦ in_right f l (inv.mid i) (inv.base i) h | false ↦ h ]

  kept_pair : (q a l : ℕ) → q < n → a < n → 0 < l → In (heard_from a) l (inv.base q) → In (sent_to q) l (inv.base a)
  kept_pair q a l x y o h = subst (In (sent_to q) l) (kept_base n rules s τ inv Save p st a)
      (inv.kept_free q a l x y o (subst (In (heard_from a) l) (sym (kept_base n rules s τ inv Save p st q)) h))

  own_pair : (q a l : ℕ) → q < n → a < n → 0 < l → In (heard_from a) l (τ.own q) → In (sent_to q) l (τ.own a)
  own_pair q a l x y o h = subst (In (sent_to q) l) (present_own n rules s τ inv Save p st a)
      (inv.present_free q a l x y o (subst (In (heard_from a) l) (sym (present_own n rules s τ inv Save p st q)) h))

  mid_agreed : (q a l : ℕ) → q < n → a < n → 0 < l → held (s.rows q).role.phase ≡ true →
      In (heard_from a) l (inv.mid q) → In (sent_to q) l (agreed_save a)
  mid_agreed q a l x y o hq h =
      let bq = (inv.boards q).marked in
      let ba = (inv.boards a).marked in
      let ho : In (heard_from a) l (τ.own q) =
      subst (In (heard_from a) l) (sym bq.split)
      (in_right (heard_from a) l (inv.since q) _ (in_left (heard_from a) l (inv.mid q) (inv.base q) h)) in
      let so = own_pair q a l x y o ho in
      elim (cases_Bool (held (s.rows a).role.phase)) [
        | inl e ↦ rw e (elim (own_splits n rules s τ inv Save p st (sent_to q) l a so) [
          | inl i ↦ (let u = (when_true _ _ (all_saving p _ (fit a) e) (inv.boards a).pending_is).2 q in
              let z = in_le_last (sent_to q) l (inv.since a)
              (rising_left (sent_to q) (inv.since a) _ (subst (Rising (sent_to q)) ba.split (ba.sent_rise q)))
              o i in
              absurd (omega arith))
          | inr i ↦ i
        ])
        | inr e ↦ rw e (elim (own_splits n rules s τ inv Save p st (sent_to q) l a so) [
          | inl i ↦ (let lm = in_le_last (heard_from a) l (inv.mid q)
              (rising_left (heard_from a) (inv.mid q) (inv.base q)
              (rise_parts n rules s τ inv Save p st (heard_from a) q (bq.heard_rise a))) o h in
              let fi = first_le_in (sent_to q) l (inv.since a)
              (rising_left (sent_to q) (inv.since a) _ (subst (Rising (sent_to q)) ba.split (ba.sent_rise q)))
              o i in
              let ah = bq.heard_aside_is a in let ff = ba.first_is q in
              let ne : eqb a q ≡ false =
              ne_eqb a q (λ k. true≢false (sym hq ∙ subst (λ z. held (s.rows z).role.phase ≡ false) k e)) in
              let pos : 0 < (s.rows q).marks.heard_aside a = omega arith in
              let as' : asked n Save q (s.rows q).marks a ≡ true = rw (lt-ltb a n y, ne, lt-ltb 0 _ pos) refl in
              elim (cov q a hq as') [
                | inl k ↦ absurd (true≢false (sym k ∙ e))
                | inr k ↦ elim k [ inl z ↦ absurd (omega arith) | inr z ↦ absurd (omega arith) ]
              ])
          | inr i ↦ subst (λ m. In (sent_to q) l (m ++ inv.base a))
              (no_mid n rules s τ inv Save p st a (not_saving _ e)) i
        ])
      ]

  pub save_free : NoLabelOrphan n agreed_save
  save_free q a l x y o h = (elim (held (s.rows q).role.phase) as (λ t. held (s.rows q).role.phase ≡ t →
      In (heard_from a) l (cond t (inv.mid q ++ inv.base q) (inv.base q)) → In (sent_to q) l (agreed_save a)) [
        | true ↦ λ e i. elim (in_split (heard_from a) l (inv.mid q) (inv.base q) i)
            [ inl k ↦ mid_agreed q a l x y o e k | inr k ↦ base_agreed (sent_to q) l a (kept_pair q a l x y o k) ]
        | false ↦ λ e i. base_agreed (sent_to q) l a (kept_pair q a l x y o i)
      ]) refl h

  -- a member x left out, which its asker k drew in, and k stays
  pub save_orphan : (out : ℕ → Bool) (x k : ℕ) → x < n → k < n → held (s.rows k).role.phase ≡ true → out x ≡ true →
      out k ≡ false → Wanted Save (marks_of s) s.wire x k →
      LabelOrphan n (λ i. cond (out i) (inv.base i) (agreed_save i))
  save_orphan out x k xn kn hk ox ok w =
      let bk = (inv.boards k).marked in let bx = (inv.boards x).marked in
      let ak = bk.heard_aside_is x in let fx = bx.first_aside_is k in
      let w0 = w.0 in let w1 = w.1 in
      record {
        receiver = k;
        sender = x;
        label = (s.rows k).marks.heard_aside x;
        receiver_in = kn;
        sender_in = xn;
        label_pos = omega arith;
        is_heard = rw (ok, hk) (in_left (heard_from x) _ (inv.mid k) (inv.base k)
            (subst (λ z. In (heard_from x) z (inv.mid k)) (sym ak)
            (last_in (heard_from x) (inv.mid k) (omega arith))));
        not_sent = λ h. (let h' : In (sent_to k) ((s.rows k).marks.heard_aside x) (inv.base x) = rw ox at h in
            let c = rising_cross (sent_to k) _ _ (inv.mid x) (inv.base x)
            (rise_parts n rules s τ inv Save p st (sent_to k) x (bx.sent_rise k)) (omega arith) (omega arith)
            (first_in (sent_to k) (inv.mid x) (omega arith)) h' in omega arith);
      }

module _ {R : Type 0} (n : ℕ) (rules : Rules R) (s : State R) (τ : History) (inv : Inv n rules s τ) (p : ℕ)
    (st : τ.stage ≡ Asking Back p)
    (fit : (a : ℕ) → FitsPhase (Asking Back p) (s.rows a).role.phase)
    (cov : (a b : ℕ) → held (s.rows a).role.phase ≡ true → asked n Back a (s.rows a).marks b ≡ true →
    Spared Back (held (s.rows b).role.phase) (marks_of s) s.wire a b) where
  -- the present stories once the round is agreed
  abbrev pub agreed_back : ℕ → Story
  agreed_back i = cond (held (s.rows i).role.phase) (inv.base i) (τ.own i)

  base_back : (f : Event → ℕ) (l i : ℕ) → In f l (inv.base i) → In f l (agreed_back i)
  base_back f l i h = elim (held (s.rows i).role.phase) as (λ t. In f l (cond t (inv.base i) (τ.own i)))
      [ true ↦ h | false ↦ base_own n rules s τ inv Back p st f l i h ]

  kept_pair_back : (q a l : ℕ) → q < n → a < n → 0 < l → In (heard_from a) l (inv.base q) →
      In (sent_to q) l (inv.base a)
  kept_pair_back q a l x y o h = subst (In (sent_to q) l) (kept_base n rules s τ inv Back p st a)
      (inv.kept_free q a l x y o (subst (In (heard_from a) l) (sym (kept_base n rules s τ inv Back p st q)) h))

  own_pair_back : (q a l : ℕ) → q < n → a < n → 0 < l → In (heard_from a) l (τ.own q) → In (sent_to q) l (τ.own a)
  own_pair_back q a l x y o h = subst (In (sent_to q) l) (present_own n rules s τ inv Back p st a)
      (inv.present_free q a l x y o (subst (In (heard_from a) l) (sym (present_own n rules s τ inv Back p st q)) h))

  -- with no checkpoint pending a story is since and base
  two_parts : (f : Event → ℕ) (l i : ℕ) → In f l (τ.own i) → In f l (inv.since i) ⊎ In f l (inv.base i)
  two_parts f l i h = elim (own_splits n rules s τ inv Back p st f l i h) [
    | inl k ↦ inl k
    | inr k ↦ inr
        (subst (λ m. In f l (m ++ inv.base i)) (no_mid n rules s τ inv Back p st i (none_saving p _ (fit i))) k)
  ]

  own_back : (q a l : ℕ) → q < n → a < n → 0 < l → held (s.rows q).role.phase ≡ false →
      In (heard_from a) l (τ.own q) → In (sent_to q) l (agreed_back a)
  own_back q a l x y o hq h =
      let so = own_pair_back q a l x y o h in
      let bq = (inv.boards q).marked in let ba = (inv.boards a).marked in
      elim (cases_Bool (held (s.rows a).role.phase)) [
        | inr e ↦ rw e so
        | inl e ↦ rw e (elim (two_parts (heard_from a) l q h) [
          | inr i ↦ kept_pair_back q a l x y o i
          | inl i ↦ (let lh = in_le_last (heard_from a) l (inv.since q)
              (rising_left (heard_from a) (inv.since q) _
              (subst (Rising (heard_from a)) bq.split (bq.heard_rise a))) o i in
              let hh = bq.heard_is a in let ss = ba.saved_is q in
              let ne : eqb q a ≡ false =
              ne_eqb q a (λ k. true≢false (sym e ∙ subst (λ z. held (s.rows z).role.phase ≡ false) k hq)) in
              let as' : asked n Back a (s.rows a).marks q ≡ true = rw (lt-ltb q n x, ne) refl in
              elim (cov a q e as').0 [
                | inl k ↦ absurd (true≢false (sym k ∙ hq))
                | inr k ↦ elim (two_parts (sent_to q) l a so) [
                  | inr j ↦ j
                  | inl j ↦ (let c = rising_cross (sent_to q) l _ (inv.since a) (inv.mid a ++ inv.base a)
                      (subst (Rising (sent_to q)) ba.split (ba.sent_rise q)) o (omega arith) j
                      (in_right (sent_to q) _ (inv.mid a) (inv.base a)
                      (last_in (sent_to q) (inv.base a) (omega arith))) in absurd (omega arith))
                ]
              ])
        ])
      ]

  pub back_free : NoLabelOrphan n agreed_back
  back_free q a l x y o h = (elim (held (s.rows q).role.phase) as (λ t. held (s.rows q).role.phase ≡ t →
      In (heard_from a) l (cond t (inv.base q) (τ.own q)) → In (sent_to q) l (agreed_back a)) [
        | true ↦ λ e i. base_back (sent_to q) l a (kept_pair_back q a l x y o i)
        | false ↦ λ e i. own_back q a l x y o e i
      ]) refl h

  pub back_orphan : (out : ℕ → Bool) (x k : ℕ) → x < n → k < n → held (s.rows k).role.phase ≡ true → out x ≡ true →
      out k ≡ false → Wanted Back (marks_of s) s.wire x k →
      LabelOrphan n (λ i. cond (out i) (τ.own i) (agreed_back i))
  back_orphan out x k xn kn hk ox ok w =
      let bk = (inv.boards k).marked in let bx = (inv.boards x).marked in
      let hx = bx.heard_is k in let sk = bk.saved_is x in
      let w0 = w.0 in
      record {
        receiver = x;
        sender = k;
        label = (s.rows x).marks.heard k;
        receiver_in = xn;
        sender_in = kn;
        label_pos = omega arith;
        is_heard = rw ox (subst (In (heard_from k) _) (sym bx.split)
            (in_left (heard_from k) _ (inv.since x) _
            (subst (λ z. In (heard_from k) z (inv.since x)) (sym hx)
            (last_in (heard_from k) (inv.since x) (omega arith)))));
        not_sent = λ h. (let h' : In (sent_to x) ((s.rows x).marks.heard k) (inv.base k) = rw (ok, hk) at h in
            let c = in_le_last (sent_to x) _ (inv.base k)
            (rising_right (sent_to x) (inv.mid k) _
            (rise_parts n rules s τ inv Back p st (sent_to x) k (bk.sent_rise x))) (omega arith) h' in
            omega arith);
      }

  -- no word of a member is on the wire
  pub no_words : (a b : ℕ) → held (s.rows a).role.phase ≡ true → b < n → (a ≡ b → ⊥) →
      tally (words a b) s.wire ≡ 0
  no_words a b h y ne = let e : eqb b a ≡ false = ne_eqb b a (λ k. ne (sym k)) in
      let as' : asked n Back a (s.rows a).marks b ≡ true = rw (lt-ltb b n y, e) refl in (cov a b h as').1
