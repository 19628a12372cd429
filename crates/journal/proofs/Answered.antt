-- What put, keep and drop answer, by whether a record is pending and by the spare; for every store's meaning. Assumes nothing.
use Rattle.std.proofs.Common.{◌≡◌, ℕ, Bool, true, false, cond, eqb, is_some, Some, None, Ok, Err, Option, Result, sym, refl, ap, ◌∙◌, arith}
use Rattle.std.specs.List.{slice_get}
use Rattle.std.proofs.lemmas.Bool.{cond-true, cond-false, eq-eqb, ne_eqb}
use Rattle.store.specs.Meaning.{Kept, Meaning, pending_at, pending_of, put_under, put_at, put_answer, keep_under, keep_at, keep_answer}
use Rattle.store.specs.declared.refusal.StoreRefusal.{StoreRefusal}
use Rattle.store.specs.declared.refusal.StoreRefusal.TheVariants.{WrongPending, NoSpare}

pub err_not_ok : {A E : Type 0} {e : E} {x : A} → Err e ≡ Ok x → ⊥
err_not_ok h = let z : ◌≡◌ {A = ℕ} 0 1 = cc in omega arith

not_both : ◌≡◌ {A = Result Bool StoreRefusal} (Ok true) (Ok false) → ⊥
not_both h = let z : ◌≡◌ {A = ℕ} 0 1 = cc in omega arith

err_same : {A : Type 0} {x y : StoreRefusal} → ◌≡◌ {A = Result A StoreRefusal} (Err x) (Err y) → x ≡ y
err_same h = cc

module _ {R : Type 0} (s : ℕ) where
  put_taken_at : (o : Option (Kept R)) → Ok true ≡ pending_at o → Err WrongPending ≡ put_at s o
  put_taken_at None h = absurd (err_not_ok (sym h))
  put_taken_at (Some k) h = go k.pending h where
    go : (q : Option R) → ◌≡◌ {A = Result Bool StoreRefusal} (Ok true) (Ok (is_some q)) → Err WrongPending ≡ put_under s q
    go None h = absurd (not_both h)
    go (Some x) h = refl

  put_free_at : (o : Option (Kept R)) → Ok false ≡ pending_at o → cond (eqb s 0) (Err NoSpare) (Ok tt) ≡ put_at s o
  put_free_at None h = absurd (err_not_ok (sym h))
  put_free_at (Some k) h = go k.pending h where
    go : (q : Option R) → ◌≡◌ {A = Result Bool StoreRefusal} (Ok false) (Ok (is_some q)) → cond (eqb s 0) (Err NoSpare) (Ok tt) ≡ put_under s q
    go None h = refl
    go (Some x) h = absurd (not_both (sym h))

  put_err_at : (o : Option (Kept R)) (x : StoreRefusal) → Err x ≡ pending_at o → Err x ≡ put_at s o
  put_err_at None x h = ap (λ (y : StoreRefusal). Err y) (err_same h)
  put_err_at (Some k) x h = absurd (err_not_ok h)

module _ {R : Type 0} where
  keep_taken_at : (o : Option (Kept R)) → Ok true ≡ pending_at o → Ok tt ≡ keep_at o
  keep_taken_at None h = absurd (err_not_ok (sym h))
  keep_taken_at (Some k) h = go k.pending h where
    go : (q : Option R) → ◌≡◌ {A = Result Bool StoreRefusal} (Ok true) (Ok (is_some q)) → Ok tt ≡ keep_under q
    go None h = absurd (not_both h)
    go (Some x) h = refl

  keep_free_at : (o : Option (Kept R)) → Ok false ≡ pending_at o → Err WrongPending ≡ keep_at o
  keep_free_at None h = absurd (err_not_ok (sym h))
  keep_free_at (Some k) h = go k.pending h where
    go : (q : Option R) → ◌≡◌ {A = Result Bool StoreRefusal} (Ok false) (Ok (is_some q)) → Err WrongPending ≡ keep_under q
    go None h = refl
    go (Some x) h = absurd (not_both (sym h))

  keep_err_at : (o : Option (Kept R)) (x : StoreRefusal) → Err x ≡ pending_at o → Err x ≡ keep_at o
  keep_err_at None x h = ap (λ (y : StoreRefusal). Err y) (err_same h)
  keep_err_at (Some k) x h = absurd (err_not_ok h)

module _ {R : Type 0} (m : Meaning R) (p : ℕ) where
  pub put_taken : Ok true ≡ pending_of m p → Err WrongPending ≡ put_answer m p
  put_taken h = put_taken_at m.spare (slice_get m.boards p) h

  pub put_spent : Ok false ≡ pending_of m p → m.spare ≡ 0 → Err NoSpare ≡ put_answer m p
  put_spent h z = sym (cond-true _ _ _ (eq-eqb m.spare 0 z)) ∙ put_free_at m.spare (slice_get m.boards p) h

  pub put_good : Ok false ≡ pending_of m p → (m.spare ≡ 0 → ⊥) → Ok tt ≡ put_answer m p
  put_good h z = sym (cond-false _ _ _ (ne_eqb m.spare 0 z)) ∙ put_free_at m.spare (slice_get m.boards p) h

  pub put_err : (x : StoreRefusal) → Err x ≡ pending_of m p → Err x ≡ put_answer m p
  put_err x h = put_err_at m.spare (slice_get m.boards p) x h

  pub keep_good : Ok true ≡ pending_of m p → Ok tt ≡ keep_answer m p
  keep_good h = keep_taken_at (slice_get m.boards p) h

  pub keep_free : Ok false ≡ pending_of m p → Err WrongPending ≡ keep_answer m p
  keep_free h = keep_free_at (slice_get m.boards p) h

  pub keep_err : (x : StoreRefusal) → Err x ≡ pending_of m p → Err x ≡ keep_answer m p
  keep_err x h = keep_err_at (slice_get m.boards p) x h
