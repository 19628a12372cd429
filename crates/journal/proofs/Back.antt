-- What stands is the record of the latest put that was kept. Assumes nothing.
use Rattle.std.proofs.Common.{◌≡◌, ℕ, Bool, true, false, cond, eqb, List, [], ◌∷◌, reverse, sym, refl, ap, ◌∙◌, subst}
use mathlib.Core.List.{reverse-cons}
use Rattle.std.proofs.lemmas.List.{reverse-reverse}
use Rattle.std.proofs.lemmas.List.Sums.{fold_push}
use Rattle.store.specs.Meaning.{Kept, or_else}
use Rattle.journal.specs.Logs.{by_kind, told, kept_of}
use Rattle.journal.specs.Back.{step, latest_kept}
use Rattle.journal.specs.declared.entry.Entry.{Entry}
use Rattle.journal.specs.declared.entry.EntryKind.{EntryKind}
use Rattle.journal.specs.declared.entry.EntryKind.TheVariants.{First, Put, Keep, Discard}

-- what is kept of a board, by what reading back finds
pub record ReadBack {R : Type 0} (first : R) (p : ℕ) (k : Kept R) (es : List (Entry R)) : Type 0 where
  pub stands : k.standing ≡ latest_kept first p false es
  pub would : or_else k.pending k.standing ≡ latest_kept first p true es

module _ {R : Type 0} (first : R) (p : ℕ) where
  by_kind_lem : (kind : EntryKind) (r : R) (k : Kept R) (es : List (Entry R)) → ReadBack first p k es
      → ((by_kind kind r k).standing ≡ step kind false r (latest_kept first p false es) (latest_kept first p true es))
      × (or_else (by_kind kind r k).pending (by_kind kind r k).standing
      ≡ step kind true r (latest_kept first p false es) (latest_kept first p true es))
  by_kind_lem First r k es b = (refl, refl)
  by_kind_lem Put r k es b = (b.stands, refl)
  by_kind_lem Keep r k es b = (b.would, b.would)
  by_kind_lem Discard r k es b = (b.stands, b.stands)

  one_more : (k : Kept R) (e : Entry R) (es : List (Entry R)) → ReadBack first p k es → ReadBack first p (told p k e) (e ∷ es)
  one_more k e es b =
      let h = go (eqb e.board p) (by_kind_lem e.kind e.state k es b) in record { stands = h.0; would = h.1 } where
        go : (t : Bool)
            → ((by_kind e.kind e.state k).standing
            ≡ step e.kind false e.state (latest_kept first p false es) (latest_kept first p true es))
            × (or_else (by_kind e.kind e.state k).pending (by_kind e.kind e.state k).standing
            ≡ step e.kind true e.state (latest_kept first p false es) (latest_kept first p true es))
            → ((cond t (by_kind e.kind e.state k) k).standing
            ≡ cond t (step e.kind false e.state (latest_kept first p false es) (latest_kept first p true es))
            (latest_kept first p false es))
            × (or_else (cond t (by_kind e.kind e.state k) k).pending (cond t (by_kind e.kind e.state k) k).standing
            ≡ cond t (step e.kind true e.state (latest_kept first p false es) (latest_kept first p true es))
            (latest_kept first p true es))
        go true h = h
        go false h = (b.stands, b.would)

  read_from : (es : List (Entry R)) → ReadBack first p (kept_of first (reverse es) p) es
  read_from [] = record { stands = refl; would = refl }
  read_from (e ∷ es) =
      let more : kept_of first (reverse (e ∷ es)) p ≡ told p (kept_of first (reverse es) p) e =
      ap (λ log. kept_of first log p) (reverse-cons e es) ∙ fold_push (told p) _ (reverse es) e in
      subst (λ (k : Kept R). ReadBack first p k (e ∷ es)) (sym more)
      (one_more (kept_of first (reverse es) p) e es (read_from es))

  -- what stands is the record of the latest put that was kept, or the first one
  pub stands_latest : (log : List (Entry R)) → (kept_of first log p).standing ≡ latest_kept first p false (reverse log)
  stands_latest log = ap (λ xs. (kept_of first xs p).standing) (sym (reverse-reverse log)) ∙ (read_from (reverse log)).stands
