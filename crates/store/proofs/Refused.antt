-- What a refusal leaves, for every store's meaning. Assumes nothing.
use Rattle.std.proofs.Common.{◌≡◌, ℕ, ◌-◌, cond, is_ok, Err, Result, ap}
use Rattle.store.specs.Meaning.{Answer, Meaning, updated, put_answer, put_after, putting, keep_answer, keep_after, keeping, discarding, discard_after}
use Rattle.store.specs.declared.refusal.StoreRefusal.{StoreRefusal}

module _ {R : Type 0} (m : Meaning R) (p : ℕ) where
  pub put_refused : (w : ℕ) (r : R) (x : StoreRefusal) → Err x ≡ put_answer m p → m ≡ put_after w m p r
  put_refused w r x e = ap (λ (v : Result (Unit {0}) _). cond (is_ok v) (record { boards = updated (putting r) m.boards p; spare = m.spare - w }) m) e

  pub keep_refused : (x : StoreRefusal) → Err x ≡ keep_answer m p → m ≡ keep_after m p
  keep_refused x e = ap (λ (v : Result (Unit {0}) _). cond (is_ok v) (record { boards = updated keeping m.boards p; spare = m.spare }) m) e

  pub discard_refused : (x : StoreRefusal) → Err x ≡ keep_answer m p → m ≡ discard_after m p
  discard_refused x e = ap (λ (v : Result (Unit {0}) _). cond (is_ok v) (record { boards = updated discarding m.boards p; spare = m.spare }) m) e

-- which of two the answer chooses: the new where the call is taken, else the old
pub by_answer : {A : Type 0} (v w : Answer) (new old : A) → v ≡ w → cond (is_ok v) new old ≡ cond (is_ok w) new old
by_answer v w new old e = ap (λ (u : Answer). cond (is_ok u) new old) e
