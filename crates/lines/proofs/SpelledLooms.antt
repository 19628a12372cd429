-- First lines that are spelled are read back, and what is read was spelled so. Assumes nothing.
use Rattle.std.proofs.Common.{◌≡◌, ℕ, ◌^◌, ◌<◌, ◌&&◌, leb, List, [], ◌∷◌, ◌++◌, Some, codes, sym, refl, ap, ◌∙◌, subst, arith}
use Rattle.std.proofs.lemmas.List.{append_assoc}
use Rattle.std.proofs.lemmas.Grind.{common_steps}
use Rattle.std.proofs.lemmas.Option.{same_Some}
use Rattle.std.proofs.lemmas.Bool.{leb-true, and_parts}
use Rattle.lines.specs.Lines.{byte, field, text, first, letter_field, store_of, part_of, loom_of, loom_line}
use Rattle.lines.specs.Spelling.{spell_field, store_letter, places_of, part_letter, spell_loom, FitStore, FitLoom}
use Rattle.lines.specs.declared.loom.StoreKind.{StoreKind}
use Rattle.lines.specs.declared.loom.StoreKind.TheVariants.{Slots, Journal}
use Rattle.lines.specs.declared.loom.PartKind.{PartKind}
use Rattle.lines.specs.declared.loom.PartKind.TheVariants.{Harness, Feed}
use Rattle.lines.specs.declared.loom.Loom.{Loom}
use Rattle.lines.proofs.Spelling.{then_was, byte_was, field_spelled, field_was}
use Rattle.lines.proofs.SpelledLines.{cond_was}

-- a word of fixed bytes
text_was : (w bs rest : List ℕ) → text w bs ≡ Some rest → bs ≡ w ++ rest
text_was [] bs rest e = cc
text_was (c ∷ cs) bs rest e =
    let a = then_was (byte c bs) (text cs) rest e in
    byte_was c bs a.0 a.1.0 ∙ ap (λ xs. c ∷ xs) (text_was cs a.0 rest a.1.1)

-- a space and a letter
first_was : (bs : List ℕ) (x : ℕ × List ℕ) → first bs ≡ Some x → bs ≡ x.0 ∷ x.1
first_was [] x e = cc
first_was (c ∷ cs) x e = grind (arith, common_steps)

letter_field_was : (bs : List ℕ) (x : ℕ × List ℕ) → letter_field bs ≡ Some x → bs ≡ 32 ∷ x.0 ∷ x.1
letter_field_was bs x e =
    let a = then_was (byte 32 bs) first x e in
    byte_was 32 bs a.0 a.1.0 ∙ ap (λ xs. 32 ∷ xs) (first_was a.0 x a.1.1)

-- the store by its letter and places, the part by its letter
store_spelled : (n : ℕ) (s : StoreKind) → FitStore n s → store_of n (store_letter s) (places_of s) ≡ Some s
store_spelled n Slots f = refl
store_spelled n (Journal e) f = grind (arith, f.0, f.1)

store_was : (n l e : ℕ) (s : StoreKind) → store_of n l e ≡ Some s → (l ≡ store_letter s) × (e ≡ places_of s) × FitStore n s
store_was n l e Slots h = grind (arith, common_steps)
store_was n l e (Journal k) h = grind (arith, common_steps)

part_spelled : (k : PartKind) → part_of (part_letter k) ≡ Some k
part_spelled Harness = refl
part_spelled Feed = refl

part_was : (l : ℕ) (k : PartKind) → part_of l ≡ Some k → l ≡ part_letter k
part_was l Harness h = grind (arith, common_steps)
part_was l Feed h = grind (arith, common_steps)

abbrev pub loom_from : ℕ → StoreKind → PartKind → Loom
loom_from n s k = record { boards = n; store = s; part = k }

loom_made : (n : ℕ) (s : StoreKind) (k : PartKind) → FitLoom (loom_from n s k)
    → loom_of n (store_letter s) (places_of s) (part_letter k) ≡ Some (loom_from n s k)
loom_made n s k f = let a = store_spelled n s f.2 in let b = part_spelled k in grind (arith, common_steps, a, b, f.0, f.1)

-- a loom was made of these
pub record Made (n l e m : ℕ) (loom : Loom) : Type 0 where
  pub fit : FitLoom loom
  pub boards : n ≡ loom.boards
  pub store : l ≡ store_letter loom.store
  pub places : e ≡ places_of loom.store
  pub part : m ≡ part_letter loom.part

loom_was_made : (n l e m : ℕ) (loom : Loom) → loom_of n l e m ≡ Some loom → Made n l e m loom
loom_was_made n l e m loom =
    cond_was (leb 1 n && leb n 19) _ _ loom
    (λ b h.
    let p = and_parts (leb 1 n) (leb n 19) b in
    let s = then_was (store_of n l e) _ loom h in
    let k = then_was (part_of m) _ loom s.1.1 in
    let w = store_was n l e s.0 s.1.0 in
    subst (λ (z : Loom). Made n l e m z) (same_Some (loom_from n s.0 k.0) loom k.1.1)
    (record {
      fit = (leb-true 1 n p.0, leb-true n 19 p.1, w.2);
      boards = refl;
      store = w.0;
      places = w.1;
      part = part_was m k.0 k.1.0;
    }))
    (λ h. cc)

-- the first line with what follows it
abbrev laid : Loom → List ℕ → List ℕ
laid loom rest =
    codes "LOOM" ++ (spell_field loom.boards ++ (32 ∷ store_letter loom.store ∷ (spell_field (places_of loom.store)
    ++ (32 ∷ part_letter loom.part ∷ (10 ∷ rest)))))

laid_is : (loom : Loom) (rest : List ℕ) → spell_loom loom ++ rest ≡ laid loom rest
laid_is loom rest =
    ap (λ xs. codes "LOOM" ++ xs)
    (append_assoc (spell_field loom.boards) _ rest
    ∙ ap (λ xs. spell_field loom.boards ++ (32 ∷ store_letter loom.store ∷ xs))
    (append_assoc (spell_field (places_of loom.store)) _ rest))

few_places : (n : ℕ) (s : StoreKind) → FitStore n s → places_of s < 2 ^ 32
few_places n Slots f = omega arith
few_places n (Journal e) f = omega arith

pub loom_spelled : (loom : Loom) (rest : List ℕ) → FitLoom loom → loom_line (spell_loom loom ++ rest) ≡ Some (loom, rest)
loom_spelled loom rest f =
    let tail : List ℕ = 32 ∷ part_letter loom.part ∷ (10 ∷ rest) in
    let mid : List ℕ = 32 ∷ store_letter loom.store ∷ (spell_field (places_of loom.store) ++ tail) in
    let n : field (spell_field loom.boards ++ mid) ≡ Some (loom.boards, mid) =
    field_spelled loom.boards 32 _ (omega (arith, f.1)) refl in
    let e : field (spell_field (places_of loom.store) ++ tail) ≡ Some (places_of loom.store, tail) =
    field_spelled (places_of loom.store) 32 _ (few_places loom.boards loom.store f.2) refl in
    let m = loom_made loom.boards loom.store loom.part f in
    let whole : loom_line (laid loom rest) ≡ Some (loom, rest) = rw (n, e, m) refl in
    ap loom_line (laid_is loom rest) ∙ whole

-- the line, put together from its pieces
laid_from : {bs w nr sr pr kr rest : List ℕ} {n l e m : ℕ} (loom : Loom) → Made n l e m loom
    → bs ≡ codes "LOOM" ++ w → w ≡ spell_field n ++ nr → nr ≡ 32 ∷ l ∷ sr
    → sr ≡ spell_field e ++ pr → pr ≡ 32 ∷ m ∷ kr → kr ≡ 10 ∷ rest
    → bs ≡ laid loom rest
laid_from loom d hw hn hs he hk hr =
    let tail = hk ∙ (λ i. 32 ∷ d.part i ∷ hr i) in
    let mid = hs ∙ (λ i. 32 ∷ d.store i ∷ (he ∙ (λ j. spell_field (d.places j) ++ tail j)) i) in
    hw ∙ ap (λ xs. codes "LOOM" ++ xs) (hn ∙ (λ i. spell_field (d.boards i) ++ mid i))

pub loom_was : (bs : List ℕ) (x : Loom × List ℕ) → loom_line bs ≡ Some x → (bs ≡ spell_loom x.0 ++ x.1) × FitLoom x.0
loom_was bs x e =
    let w = then_was (text (codes "LOOM") bs) _ x e in
    let n = then_was (field w.0) _ x w.1.1 in
    let s = then_was (letter_field n.0.1) _ x n.1.1 in
    let p = then_was (field s.0.1) _ x s.1.1 in
    let k = then_was (letter_field p.0.1) _ x p.1.1 in
    let r = then_was (byte 10 k.0.1) _ x k.1.1 in
    let m = then_was (loom_of n.0.0 s.0.0 p.0.0 k.0.0) _ x r.1.1 in
    let made = loom_was_made n.0.0 s.0.0 p.0.0 k.0.0 m.0 m.1.0 in
    let spelt : bs ≡ laid m.0 r.0 =
    laid_from m.0 made (text_was (codes "LOOM") bs w.0 w.1.0) (field_was w.0 n.0 n.1.0).0
    (letter_field_was n.0.1 s.0 s.1.0) (field_was s.0.1 p.0 p.1.0).0
    (letter_field_was p.0.1 k.0 k.1.0) (byte_was 10 k.0.1 r.0 r.1.0) in
    subst (λ (z : Loom × List ℕ). (bs ≡ spell_loom z.0 ++ z.1) × FitLoom z.0) (same_Some (m.0, r.0) x m.1.1)
    (spelt ∙ sym (laid_is m.0 r.0), made.fit)
