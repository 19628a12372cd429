-- Histories read backwards. The proofs about rounds take each story with its latest event first, so that a story that
-- is told further begins with what is new; here is what effects add to such a history.
use Rattle.std.proofs.Common.{◌≡◌, ℕ, suc, Bool, true, false, cond, ◌||◌, eqb, ◌⊎◌, List, [], ◌∷◌, reverse, fold, refl, ap, ◌∙◌, inl, inr}
use mathlib.Core.List.{reverse-append, reverse_aux}
use mathlib.Core.Path.{fun_ext}
use Rattle.records.specs.Rules.{Rules, replayed, stepped}
use Rattle.records.specs.Stories.{Story, Told}
use Rattle.records.specs.declared.event.Event.{Event}
use Rattle.records.specs.declared.event.Event.TheVariants.{Heard, Sent, Worked}
use Rattle.protocol.specs.Effects.{Answers, Carries, Counts, Decides, Discards, Effect, Flags, Hears, Joins, Replies}
use Rattle.protocol.specs.Effects.{Sends, Starts, State, Works}
use Rattle.protocol.specs.Histories.{Asking, History, Settled, Stage, agreed_kept, carried_due, carried_own, member}
use Rattle.protocol.specs.Histories.{tell, tell_own}
use Rattle.protocol.specs.Rows.{Back, Round, Save}
use Rattle.protocol.specs.Tables.{changed}
use Rattle.protocol.proofs.Labels.{made}

-- one event more at the front
abbrev pub add_own : History → ℕ → Event → History
add_own h p e = record h { own = changed h.own p (e ∷ h.own p) }

abbrev pub retell : {R : Type 0} → State R → History → Effect → History
retell s h (Works p w) = add_own h p (Worked w)
retell s h (Sends p q w) = add_own h p (Sent q (suc (s.rows p).count) w)
retell s h (Flags p up lost willing wipe) = h
retell s h (Hears p q l w) = add_own h q (Heard p l w)
retell s h (Discards p q) = h
retell s h (Replies p q agrees) = h
retell s h (Starts round p) = tell s h (Starts round p)
retell s h (Joins round p q) = tell s h (Joins round p q)
retell s h (Counts p q agrees) = h
retell s h (Answers round p) = h
retell s h (Decides round p) = tell s h (Decides round p)
retell s h (Carries round agreed p) = tell s h (Carries round agreed p)

-- a history as it is told, read backwards
abbrev pub backwards : History → History
backwards h = record h {
  own = λ i. reverse (h.own i);
  kept = λ i. reverse (h.kept i);
  drawn = λ i. reverse (h.drawn i);
}

pub reverse-cond : (b : Bool) (x y : Story) → reverse (cond b x y) ≡ cond b (reverse x) (reverse y)
reverse-cond true x y = refl
reverse-cond false x y = refl

same_history :
    {ow ow' kp kp' dr dr' : ℕ → Story} (du : ℕ → Bool) (st : Stage) (jo : List ℕ) (ag : Bool) → ow ≡ ow' → kp ≡ kp' →
    dr ≡ dr' →
    ◌≡◌ {A = History} (record { own = ow; kept = kp; drawn = dr; due = du; stage = st; joined = jo; agreed = ag })
    (record { own = ow'; kept = kp'; drawn = dr'; due = du; stage = st; joined = jo; agreed = ag })
same_history du st jo ag a b c =
    λ j. record { own = a j; kept = b j; drawn = c j; due = du; stage = st; joined = jo; agreed = ag }

backwards_own : (h : History) (p : ℕ) (e : Event) → backwards (tell_own h p e) ≡ add_own (backwards h) p e
backwards_own h p e = same_history h.due h.stage h.joined h.agreed
    (fun_ext (λ i. reverse-cond (eqb i p) _ (h.own i)
    ∙ ap (λ x. cond (eqb i p) x (reverse (h.own i))) (reverse-append (h.own p) (e ∷ [])))) refl refl

backwards_kept : (r : Round) (v : Bool) (is_member : ℕ → Bool) (dr kp : ℕ → Story) (i : ℕ) →
    reverse (agreed_kept r v is_member dr kp i) ≡ agreed_kept r v is_member (λ j. reverse (dr j)) (λ j. reverse (kp j)) i
backwards_kept Save true is_member dr kp i = reverse-cond (is_member i) (dr i) (kp i)
backwards_kept Save false is_member dr kp i = refl
backwards_kept Back v is_member dr kp i = refl

backwards_carried : (r : Round) (v : Bool) (ow kp : ℕ → Story) (p i : ℕ) →
    reverse (carried_own r v ow kp p i) ≡ carried_own r v (λ j. reverse (ow j)) (λ j. reverse (kp j)) p i
backwards_carried Save v ow kp p i = refl
backwards_carried Back true ow kp p i = reverse-cond (eqb i p) (kp p) (ow i)
backwards_carried Back false ow kp p i = refl

pub backwards_tell : {R : Type 0} (s : State R) (h : History) (e : Effect) →
    backwards (tell s h e) ≡ retell s (backwards h) e
backwards_tell s h (Works p w) = backwards_own h p (Worked w)
backwards_tell s h (Sends p q w) = backwards_own h p (Sent q (suc (s.rows p).count) w)
backwards_tell s h (Flags p up lost willing wipe) = refl
backwards_tell s h (Hears p q l w) = backwards_own h q (Heard p l w)
backwards_tell s h (Discards p q) = refl
backwards_tell s h (Replies p q agrees) = refl
backwards_tell s h (Starts round p) = same_history h.due (Asking round p) [] h.agreed refl refl
    (fun_ext (λ i. reverse-cond (eqb i p) (h.own p) (h.drawn i)))
backwards_tell s h (Joins round p q) = same_history h.due h.stage (q ∷ h.joined) h.agreed refl refl
    (fun_ext (λ i. reverse-cond (eqb i q) (h.own q) (h.drawn i)))
backwards_tell s h (Counts p q agrees) = refl
backwards_tell s h (Answers round p) = refl
backwards_tell s h (Decides round p) =
    same_history (tell s h (Decides round p)).due (Settled round (s.rows p).role.answer) h.joined
    (s.rows p).role.answer refl
    (fun_ext (backwards_kept round (s.rows p).role.answer (λ b. eqb b p || member b h.joined) h.drawn
    h.kept)) refl
backwards_tell s h (Carries round agreed p) =
    same_history (carried_due round agreed h.due p) h.stage h.joined h.agreed
    (fun_ext (backwards_carried round agreed h.own h.kept p)) refl refl

-- the rules make of a story read backwards what they make of the story
pub made-reverse : {R : Type 0} (rules : Rules R) (s : Story) → made rules (reverse s) ≡ replayed rules s
made-reverse rules s = go s []
  where
    go : (s t : Story) → made rules (reverse_aux s t) ≡ fold (stepped rules) (made rules t) s
    go [] t = refl
    go (e ∷ s) t = go s (e ∷ t)

-- the same events stand in it
told_either : (e : Event) (s t : Story) → Told e s ⊎ Told e t → Told e (reverse_aux s t)
told_either e [] t (inl h) = elim h [ ]
told_either e [] t (inr h) = h
told_either e (x ∷ s) t (inl (inl h)) = told_either e s (x ∷ t) (inr (inl h))
told_either e (x ∷ s) t (inl (inr h)) = told_either e s (x ∷ t) (inl h)
told_either e (x ∷ s) t (inr h) = told_either e s (x ∷ t) (inr (inr h))

either_told : (e : Event) (s t : Story) → Told e (reverse_aux s t) → Told e s ⊎ Told e t
either_told e [] t h = inr h
either_told e (x ∷ s) t h =
    elim (either_told e s (x ∷ t) h) [ inl a ↦ inl (inr a) | inr (inl b) ↦ inl (inl b) | inr (inr b) ↦ inr b ]

pub told-reverse : (e : Event) (s : Story) → Told e s → Told e (reverse s)
told-reverse e s h = told_either e s [] (inl h)

pub reverse-told : (e : Event) (s : Story) → Told e (reverse s) → Told e s
reverse-told e s h = elim (either_told e s [] h) [ inl a ↦ a | inr b ↦ elim b [ ] ]
