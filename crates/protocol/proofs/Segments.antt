-- One board: its marks and records are functions of the three parts of its own story, base, mid and since.
use Rattle.std.proofs.Common.{◌≡◌, ℕ, suc, ◌<◌, ◌≤◌, Bool, true, false, [], ◌∷◌, ◌++◌, sym, refl, ap, ◌∙◌, subst, inl, inr, append_assoc, arith}
use Rattle.std.proofs.lemmas.Bool.Decides.{eqb_tells, nat_tests}
use Rattle.records.specs.Stories.{Story}
use Rattle.records.specs.declared.event.Event.TheVariants.{Heard, Sent, Worked}
use Rattle.protocol.specs.Marks.{mark_back, mark_checkpoint, mark_drop, mark_heard, mark_keep, mark_sent}
use Rattle.protocol.specs.Rows.{Answered, Back, Free, Gathering, Marks, Phase, Save}
use Rattle.protocol.proofs.Labels.{Positive, Rising, first, first-append, first_zero, heard_from, last, last_append}
use Rattle.protocol.proofs.Labels.{last_max, pick_or, pick_zero, positive_right, rising_left, rising_right, sent_to}

-- held in a saving round
abbrev pub saving : Phase → Bool
saving Free = false
saving (Gathering Save) = true
saving (Gathering Back) = false
saving (Answered Save) = true
saving (Answered Back) = false

-- the marks, of the three parts
pub record Marked (m : Marks) (count : ℕ) (own base mid since : Story) : Type 0 where
  pub split : own ≡ since ++ (mid ++ base)
  pub heard_is : (q : ℕ) → m.heard q ≡ last (heard_from q) since
  pub first_is : (q : ℕ) → m.first q ≡ first (sent_to q) since
  pub heard_aside_is : (q : ℕ) → m.heard_aside q ≡ last (heard_from q) mid
  pub first_aside_is : (q : ℕ) → m.first_aside q ≡ first (sent_to q) mid
  pub saved_is : (q : ℕ) → m.saved q ≡ last (sent_to q) base
  pub sent_is : (q : ℕ) → m.sent q ≡ last (sent_to q) own
  pub sent_rise : (q : ℕ) → Rising (sent_to q) own
  pub heard_rise : (q : ℕ) → Rising (heard_from q) own
  pub count_top : (q : ℕ) → m.sent q ≤ count
  pub heard_pos : Positive own

pub marked_work : (m : Marks) (count : ℕ) (own base mid since : Story) (w : ℕ) → Marked m count own base mid since →
    Marked m count (Worked w ∷ own) base mid (Worked w ∷ since)
marked_work m c own base mid since w b = record {
  split = ap (λ s. Worked w ∷ s) b.split;
  heard_is = b.heard_is;
  first_is = λ q. b.first_is q ∙ sym (pick_zero (first (sent_to q) since));
  heard_aside_is = b.heard_aside_is;
  first_aside_is = b.first_aside_is;
  saved_is = b.saved_is;
  sent_is = b.sent_is;
  sent_rise = λ q. (inl refl, b.sent_rise q);
  heard_rise = λ q. (inl refl, b.heard_rise q);
  count_top = b.count_top;
  heard_pos = b.heard_pos;
}

pub marked_send : (m : Marks) (count : ℕ) (own base mid since : Story) (q w : ℕ) → Marked m count own base mid since →
    Marked (mark_sent m q (suc count)) (suc count) (Sent q (suc count) w ∷ own) base mid (Sent q (suc count) w ∷ since)
marked_send m c own base mid since q w b = record {
  split = ap (λ s. Sent q (suc c) w ∷ s) b.split;
  heard_is = b.heard_is;
  first_is = λ t. grind (arith, nat_tests, b.first_is t, b.first_is q);
  heard_aside_is = b.heard_aside_is;
  first_aside_is = b.first_aside_is;
  saved_is = b.saved_is;
  sent_is = λ t. grind (arith, nat_tests, b.sent_is t);
  sent_rise = λ t. (
    elim (eqb_tells q t) [
      | inl e ↦ inr (grind (arith, b.sent_is t, b.count_top t))
      | inr e ↦ inl (grind arith)
    ],
    b.sent_rise t,
  );
  heard_rise = λ t. (inl refl, b.heard_rise t);
  count_top = λ t. grind (arith, nat_tests, b.count_top t);
  heard_pos = b.heard_pos;
}

pub marked_hear : (m : Marks) (count : ℕ) (own base mid since : Story) (p l w : ℕ) → 0 < l →
    last (heard_from p) own < l → Marked m count own base mid since →
    Marked (mark_heard m p l) count (Heard p l w ∷ own) base mid (Heard p l w ∷ since)
marked_hear m c own base mid since p l w pos lt b = record {
  split = ap (λ s. Heard p l w ∷ s) b.split;
  heard_is = λ t. grind (arith, nat_tests, b.heard_is t, pick_or (heard_from t (Heard p l w)) (last (heard_from t) since));
  first_is = λ q. b.first_is q ∙ sym (pick_zero (first (sent_to q) since));
  heard_aside_is = b.heard_aside_is;
  first_aside_is = b.first_aside_is;
  saved_is = b.saved_is;
  sent_is = b.sent_is;
  sent_rise = λ t. (inl refl, b.sent_rise t);
  heard_rise = λ t. (elim (eqb_tells p t) [ inl e ↦ inr (grind arith) | inr e ↦ inl (grind arith) ], b.heard_rise t);
  count_top = b.count_top;
  heard_pos = (pos, b.heard_pos);
}

pub marked_checkpoint : (m : Marks) (count : ℕ) (own base since : Story) → Marked m count own base [] since →
    Marked (mark_checkpoint m) count own base since []
marked_checkpoint m c own base since b = record {
  split = b.split;
  heard_is = λ q. refl;
  first_is = λ q. refl;
  heard_aside_is = b.heard_is;
  first_aside_is = b.first_is;
  saved_is = b.saved_is;
  sent_is = b.sent_is;
  sent_rise = b.sent_rise;
  heard_rise = b.heard_rise;
  count_top = b.count_top;
  heard_pos = b.heard_pos;
}

-- no word was sent in the part
abbrev pub Unsent : Story → Type 0
Unsent s = (q : ℕ) → last (sent_to q) s ≡ 0

pub marked_keep : (m : Marks) (count : ℕ) (own base mid since : Story) → Unsent since →
    Marked m count own base mid since →
    Marked (mark_keep m) count own (mid ++ base) [] since
marked_keep m c own base mid since u b = record {
  split = b.split;
  heard_is = b.heard_is;
  first_is = b.first_is;
  heard_aside_is = λ q. refl;
  first_aside_is = λ q. refl;
  saved_is = λ q. grind (
    arith,
    b.sent_is q,
    u q,
    ap (last (sent_to q)) b.split,
    last_append (sent_to q) since (mid ++ base),
  );
  sent_is = b.sent_is;
  sent_rise = b.sent_rise;
  heard_rise = b.heard_rise;
  count_top = b.count_top;
  heard_pos = b.heard_pos;
}

pub marked_drop : (m : Marks) (count : ℕ) (own base mid since : Story) → Unsent since →
    Marked m count own base mid since →
    Marked (mark_drop m) count own base [] (since ++ mid)
marked_drop m c own base mid since u b = record {
  split = b.split ∙ sym (append_assoc since mid base);
  heard_is = λ q. (
      let r = rising_left (heard_from q) (since ++ mid) base
      (subst (Rising (heard_from q)) (b.split ∙ sym (append_assoc since mid base)) (b.heard_rise q)) in
      grind (arith, last_max (heard_from q) since mid r, b.heard_is q, b.heard_aside_is q));
  first_is = λ q. grind (
    arith,
    first-append (sent_to q) since mid,
    first_zero (sent_to q) since (u q),
    b.first_aside_is q,
    pick_zero (first (sent_to q) mid),
  );
  heard_aside_is = λ q. refl;
  first_aside_is = λ q. refl;
  saved_is = b.saved_is;
  sent_is = b.sent_is;
  sent_rise = b.sent_rise;
  heard_rise = b.heard_rise;
  count_top = b.count_top;
  heard_pos = b.heard_pos;
}

pub marked_back : (m : Marks) (count : ℕ) (own base since : Story) → Marked m count own base [] since →
    Marked (mark_back m) count base base [] []
marked_back m c own base since b = record {
  split = refl;
  heard_is = λ q. refl;
  first_is = λ q. refl;
  heard_aside_is = λ q. refl;
  first_aside_is = λ q. refl;
  saved_is = b.saved_is;
  sent_is = b.saved_is;
  sent_rise = λ q. rising_right (sent_to q) since base (subst (Rising (sent_to q)) b.split (b.sent_rise q));
  heard_rise = λ q. rising_right (heard_from q) since base (subst (Rising (heard_from q)) b.split (b.heard_rise q));
  count_top = λ q. grind (
    arith,
    b.sent_is q,
    b.saved_is q,
    b.count_top q,
    ap (last (sent_to q)) b.split,
    last_max (sent_to q) since base (subst (Rising (sent_to q)) b.split (b.sent_rise q)),
  );
  heard_pos = positive_right since base (subst Positive b.split b.heard_pos);
}
