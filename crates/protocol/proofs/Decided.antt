-- The turn in which the starter decides.
use Rattle.std.proofs.Common.{◌≡◌, ℕ, Bool, true, false, cond, ◌⊎◌, [], ◌++◌, Some, None, MatchBool, sym, refl, ap, ◌∙◌, subst, inl, inr}
use Rattle.std.proofs.lemmas.Bool.{true≢false}
use Rattle.std.proofs.lemmas.Bool.Decides.{when_false}
use Rattle.records.specs.Rules.{Rules}
use Rattle.records.specs.Stories.{Story}
use Rattle.records.specs.declared.event.Event.{Event}
use Rattle.store.specs.Meaning.{Kept}
use Rattle.protocol.specs.Effects.{State}
use Rattle.protocol.specs.Histories.{Asking, History, Settled, Stage, agreed_due, agreed_kept, present}
use Rattle.protocol.specs.Rounds.{role_answered}
use Rattle.protocol.specs.Rows.{Answered, Back, Free, Gathering, Phase, Round, Row, Save, held, with_role}
use Rattle.protocol.proofs.Labels.{In, Rising, in_right, in_split, made, rising_right}
use Rattle.protocol.proofs.Stored.{stored_at}
use Rattle.protocol.proofs.Segments.{Unsent, saving}
use Rattle.protocol.proofs.Invariant.{Board, FitsPhase, Inv, keeps, owes}

pub board_settled : {R : Type 0} (rules : Rules R) (r : Round) (v : Bool) (p : ℕ) (in' : ℕ → Bool) (ck kp : ℕ → Story)
    (du : ℕ → Bool) (i : ℕ)
    (row : Row) (tb : R) (sd : Kept R) (own base mid since : Story) → in' i ≡ held row.role.phase →
    FitsPhase (Asking r p) row.role.phase →
    Board rules (Asking r p) row tb sd own (kp i) (ck i) (du i) base mid since →
    Board rules (Settled r v) row tb sd own (agreed_kept r v in' ck kp i) (ck i) (agreed_due r v in' du i) base mid
    since
board_settled rules Save true p in' ck kp du i row tb sd own base mid since e (inl f) b = record {
  marked = b.marked;
  standing_is = b.standing_is;
  table_is = b.table_is;
  pending_is = b.pending_is;
  kept_is = rw (f, e) (rw f b.kept_is);
  due_is = b.due_is;
}
board_settled rules Save true p in' ck kp du i row tb sd own base mid since e (inr (inl f)) b = record {
  marked = b.marked;
  standing_is = b.standing_is;
  table_is = b.table_is;
  pending_is = b.pending_is;
  kept_is = rw (f, e) (rw f (rw f at b.pending_is).1);
  due_is = b.due_is;
}
board_settled rules Save true p in' ck kp du i row tb sd own base mid since e (inr (inr f)) b = record {
  marked = b.marked;
  standing_is = b.standing_is;
  table_is = b.table_is;
  pending_is = b.pending_is;
  kept_is = rw (f, e) (rw f (rw f at b.pending_is).1);
  due_is = b.due_is;
}
board_settled rules Save false p in' ck kp du i row tb sd own base mid since e f b = record {
  marked = b.marked;
  standing_is = b.standing_is;
  table_is = b.table_is;
  pending_is = b.pending_is;
  kept_is = b.kept_is;
  due_is = b.due_is;
}
board_settled rules Back true p in' ck kp du i row tb sd own base mid since e (inl f) b = record {
  marked = b.marked;
  standing_is = b.standing_is;
  table_is = b.table_is;
  pending_is = b.pending_is;
  kept_is = b.kept_is;
  due_is = rw (f, e) (rw f b.due_is);
}
board_settled rules Back true p in' ck kp du i row tb sd own base mid since e (inr (inl f)) b = record {
  marked = b.marked;
  standing_is = b.standing_is;
  table_is = b.table_is;
  pending_is = b.pending_is;
  kept_is = b.kept_is;
  due_is = rw (f, e) (rw f refl);
}
board_settled rules Back true p in' ck kp du i row tb sd own base mid since e (inr (inr f)) b = record {
  marked = b.marked;
  standing_is = b.standing_is;
  table_is = b.table_is;
  pending_is = b.pending_is;
  kept_is = b.kept_is;
  due_is = rw (f, e) (rw f refl);
}
board_settled rules Back false p in' ck kp du i row tb sd own base mid since e f b = record {
  marked = b.marked;
  standing_is = b.standing_is;
  table_is = b.table_is;
  pending_is = b.pending_is;
  kept_is = b.kept_is;
  due_is = b.due_is;
}

-- gathering or answered, a board stands the same
pub board_answered : {R : Type 0} (rules : Rules R) (r : Round) (g : Stage) (row : Row) (tb : R) (sd : Kept R)
    (own kp ck : Story) (du : Bool) (base mid since : Story) →
    row.role.phase ≡ Gathering r → Board rules g row tb sd own kp ck du base mid since →
    Board rules g (with_role row (role_answered row.role r)) tb sd own kp ck du base mid since
board_answered rules r g row tb sd own kp ck du base mid since e b = record {
  marked = b.marked;
  standing_is = b.standing_is;
  table_is = b.table_is;
  pending_is = go_pending r (rw e at b.pending_is);
  kept_is = rw e at b.kept_is ∙ ap (λ x. cond x (mid ++ base) base) (go_keeps g r);
  due_is = (rw e at b.due_is) ∙ go_owes g r;
}
  where
    go_pending : (k : Round) →
        MatchBool (saving (Gathering k))
        ((sd.pending ≡ Some (made rules (mid ++ base))) × (ck ≡ mid ++ base) × Unsent since)
        ((sd.pending ≡ None) × (mid ≡ [])) →
        MatchBool (saving (Answered k))
        ((sd.pending ≡ Some (made rules (mid ++ base))) × (ck ≡ mid ++ base) × Unsent since)
        ((sd.pending ≡ None) × (mid ≡ []))
    go_pending Save h = h
    go_pending Back h = h

    go_keeps : (h : Stage) (k : Round) → keeps h (Gathering k) ≡ keeps h (Answered k)
    go_keeps (Asking r s) k = refl
    go_keeps (Settled Save true) Save = refl
    go_keeps (Settled Save true) Back = refl
    go_keeps (Settled Save false) k = refl
    go_keeps (Settled Back v) k = refl

    go_owes : (h : Stage) (k : Round) → owes h (Gathering k) ≡ owes h (Answered k)
    go_owes (Asking r s) k = refl
    go_owes (Settled Back true) Save = refl
    go_owes (Settled Back true) Back = refl
    go_owes (Settled Back false) k = refl
    go_owes (Settled Save v) k = refl

pub not_saving : (f : Phase) → held f ≡ false → saving f ≡ false
not_saving Free h = refl
not_saving (Gathering r) h = absurd (true≢false h)
not_saving (Answered r) h = absurd (true≢false h)

pub all_saving : (s : ℕ) (f : Phase) → FitsPhase (Asking Save s) f → held f ≡ true → saving f ≡ true
all_saving s f (inl e) h = absurd (true≢false (sym h ∙ ap held e))
all_saving s f (inr (inl e)) h = ap saving e
all_saving s f (inr (inr e)) h = ap saving e

pub none_saving : (s : ℕ) (f : Phase) → FitsPhase (Asking Back s) f → saving f ≡ false
none_saving s f (inl e) = ap saving e
none_saving s f (inr (inl e)) = ap saving e
none_saving s f (inr (inr e)) = ap saving e

-- the stories in a round that is still asking
module _ {R : Type 0} (n : ℕ) (rules : Rules R) (s : State R) (τ : History) (inv : Inv n rules s τ) (r : Round)
    (p : ℕ) (st : τ.stage ≡ Asking r p) where
  pub board_at : (i : ℕ) → Board rules (Asking r p) (s.rows i) (s.table i) (stored_at rules s i) (τ.own i)
      (τ.kept i) (τ.drawn i) (τ.due i) (inv.base i) (inv.mid i) (inv.since i)
  board_at i = subst (λ g. Board rules g (s.rows i) (s.table i) (stored_at rules s i) (τ.own i) (τ.kept i)
      (τ.drawn i) (τ.due i) (inv.base i) (inv.mid i) (inv.since i)) st (inv.boards i)

  pub kept_base : (i : ℕ) → τ.kept i ≡ inv.base i
  kept_base i = (board_at i).kept_is

  pub present_own : (i : ℕ) → present τ i ≡ τ.own i
  present_own i = rw (board_at i).due_is

  pub own_splits : (f : Event → ℕ) (l i : ℕ) → In f l (τ.own i) →
      In f l (inv.since i) ⊎ In f l (inv.mid i ++ inv.base i)
  own_splits f l i h = in_split f l (inv.since i) (inv.mid i ++ inv.base i)
      (subst (In f l) (inv.boards i).marked.split h)

  pub base_own : (f : Event → ℕ) (l i : ℕ) → In f l (inv.base i) → In f l (τ.own i)
  base_own f l i h = subst (In f l) (sym (inv.boards i).marked.split)
      (in_right f l (inv.since i) _ (in_right f l (inv.mid i) (inv.base i) h))

  pub no_mid : (i : ℕ) → saving (s.rows i).role.phase ≡ false → inv.mid i ≡ []
  no_mid i e = (when_false _ _ e (inv.boards i).pending_is).1

  pub rise_parts : (f : Event → ℕ) (i : ℕ) → Rising f (τ.own i) → Rising f (inv.mid i ++ inv.base i)
  rise_parts f i h = rising_right f (inv.since i) _ (subst (Rising f) (inv.boards i).marked.split h)

  held_of : ℕ → Bool
  held_of i = held (s.rows i).role.phase
