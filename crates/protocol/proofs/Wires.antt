-- Sums and orders over the wire.
use Rattle.std.proofs.Common.{◌≡◌, ℕ, zero, suc, ◌+◌, ◌<◌, ◌≤◌, Bool, true, false, cond, ◌&&◌, eqb, ltb, ◌⊎◌, List, [], ◌∷◌, ◌++◌, Some, sym, refl, ◌∙◌, subst, inl, inr, arith}
use Rattle.std.proofs.ByRecursion.{All-append}
use Rattle.std.proofs.lemmas.Bool.{eq-eqb, ne_eqb}
use Rattle.std.proofs.lemmas.Bool.Decides.{eqb_tells, nat_tests}
use Rattle.std.specs.List.{AllByRecursion}
use Rattle.protocol.specs.Wire.{Ask, Decision, Message, Reply, Word, earliest, goes, post, posts, tally, without}

-- v at a message from a to b, else 0
abbrev pub at : ℕ → ℕ → ℕ → ℕ → ℕ → ℕ
at a b p q v = cond (eqb p a) (cond (eqb q b) v 0) 0

pub at_is : (a b p q v : ℕ) → p ≡ a → q ≡ b → at a b p q v ≡ v
at_is a b p q v e k = rw (eq-eqb p a e, eq-eqb q b k)

pub at_not_from : (a b p q v : ℕ) → (p ≡ a → ⊥) → at a b p q v ≡ 0
at_not_from a b p q v e = rw (ne_eqb p a e)

pub at_not_to : (a b p q v : ℕ) → (q ≡ b → ⊥) → at a b p q v ≡ 0
at_not_to a b p q v e = elim (eqb_tells p a) [ inl i ↦ rw (i.0, ne_eqb q b e) | inr i ↦ rw i.0 ]

abbrev pub word_label : ℕ → ℕ → Message → ℕ
word_label a b (post p q (Word l w)) = at a b p q l
word_label a b (post p q (Ask r l)) = 0
word_label a b (post p q (Reply y)) = 0
word_label a b (post p q (Decision r v)) = 0

abbrev pub words : ℕ → ℕ → Message → ℕ
words a b (post p q (Word l w)) = at a b p q 1
words a b (post p q (Ask r l)) = 0
words a b (post p q (Reply y)) = 0
words a b (post p q (Decision r v)) = 0

abbrev pub asks : ℕ → ℕ → Message → ℕ
asks a b (post p q (Word l w)) = 0
asks a b (post p q (Ask r l)) = at a b p q 1
asks a b (post p q (Reply y)) = 0
asks a b (post p q (Decision r v)) = 0

abbrev pub replies : Bool → ℕ → ℕ → Message → ℕ
replies y a b (post p q (Word l w)) = 0
replies y a b (post p q (Ask r l)) = 0
replies true a b (post p q (Reply true)) = at a b p q 1
replies true a b (post p q (Reply false)) = 0
replies false a b (post p q (Reply true)) = 0
replies false a b (post p q (Reply false)) = at a b p q 1
replies y a b (post p q (Decision r v)) = 0

abbrev pub decisions : ℕ → ℕ → Message → ℕ
decisions a b (post p q (Word l w)) = 0
decisions a b (post p q (Ask r l)) = 0
decisions a b (post p q (Reply y)) = 0
decisions a b (post p q (Decision r v)) = at a b p q 1

pub tally-append : (h : Message → ℕ) (w v : List Message) → tally h (w ++ v) ≡ tally h w + tally h v
tally-append h [] v = omega arith
tally-append h (m ∷ w) v = let ih = tally-append h w v in omega arith

-- m is the earliest message from p to q on w, and v is w without it
pub data TakenOff (p q : ℕ) (m : Message) : List Message → List Message → Type 0 where
  here : {w : List Message} → goes p q m ≡ true → TakenOff p q m (m ∷ w) w
  there : {x : Message} {w v : List Message} → goes p q x ≡ false → TakenOff p q m w v →
      TakenOff p q m (x ∷ w) (x ∷ v)

pub taken : (p q : ℕ) (m : Message) (w : List Message) → earliest p q w ≡ Some m → TakenOff p q m w (without p q w)
taken p q m [] e = let z : ◌≡◌ {A = ℕ} 0 1 = cc in absurd (omega arith)
taken p q m (x ∷ w) e =
    (elim (goes p q x) as (λ t. goes p q x ≡ t → cond t (Some x) (earliest p q w) ≡ Some m →
    TakenOff p q m (x ∷ w) (cond t w (x ∷ without p q w))) [
      | true ↦ λ g k. (let s : x ≡ m = cc in subst (λ y. goes p q y ≡ true → TakenOff p q m (y ∷ w) w) (sym s) here g)
      | false ↦ λ g k. there g (taken p q m w k)
    ]) refl e

pub taken_goes : {p q : ℕ} {m : Message} {w v : List Message} → TakenOff p q m w v → goes p q m ≡ true
taken_goes (here g) = g
taken_goes (there g t) = taken_goes t

pub tally_taken : (h : Message → ℕ) {p q : ℕ} {m : Message} {w v : List Message} → TakenOff p q m w v →
    tally h w ≡ h m + tally h v
tally_taken h (here g) = refl
tally_taken h (there g t) = let ih = tally_taken h t in omega arith

pub all_rest : (P : Message → Type 0) {p q : ℕ} {m : Message} {w v : List Message} → TakenOff p q m w v →
    AllByRecursion P w → AllByRecursion P v
all_rest P (here g) a = a.1
all_rest P (there g t) a = (a.0, all_rest P t a.1)

pub all_taken : (P : Message → Type 0) {p q : ℕ} {m : Message} {w v : List Message} → TakenOff p q m w v →
    AllByRecursion P w → P m
all_taken P (here g) a = a.0
all_taken P (there g t) a = all_taken P t a.1

pub all_posts : (P : Message → Type 0) (k : ℕ) (c : ℕ → Bool) (f : ℕ → Message) →
    ((b : ℕ) → b < k → c b ≡ true → P (f b)) → AllByRecursion P (posts k c f)
all_posts P zero c f h = tt
all_posts P (suc k) c f h =
    All-append P (posts k c f) (cond (c k) (f k ∷ []) []) (all_posts P k c f (λ b l e. h b (omega arith) e))
    ((elim (c k) as (λ t. c k ≡ t → AllByRecursion P (cond t (f k ∷ []) [])) [
      | true ↦ λ e. (h k (omega arith) e, tt)
      | false ↦ λ e. tt
    ]) refl)

-- the messages of `posts` that h counts: the one to b
pub tally-posts : (h : Message → ℕ) (b v k : ℕ) (c : ℕ → Bool) (f : ℕ → Message) →
    ((i : ℕ) → h (f i) ≡ cond (eqb i b) v 0) →
    tally h (posts k c f) ≡ cond (ltb b k && c b) v 0
tally-posts h b v zero c f e = grind (arith, nat_tests)
tally-posts h b v (suc k) c f e =
    let ih = tally-posts h b v k c f e in
    tally-append h (posts k c f) (cond (c k) (f k ∷ []) []) ∙
    (elim (c k) as (λ t. c k ≡ t →
    tally h (posts k c f) + tally h (cond t (f k ∷ []) []) ≡ cond (ltb b (suc k) && c b) v 0)
    [ true ↦ λ g. grind (arith, nat_tests, e k, ih) | false ↦ λ g. grind (arith, nat_tests, e k, ih) ]) refl

-- the labels that g shows rise along the wire, above lo and up to hi
abbrev pub Flow : (Message → ℕ) → ℕ → ℕ → List Message → Type 0
Flow g lo hi [] = lo ≤ hi
Flow g lo hi (m ∷ w) = ((g m ≡ 0) × Flow g lo hi w) ⊎ ((lo < g m) × Flow g (g m) hi w)

pub flow_higher : (g : Message → ℕ) (lo hi up : ℕ) (w : List Message) → hi ≤ up → Flow g lo hi w → Flow g lo up w
flow_higher g lo hi up [] l f = omega arith
flow_higher g lo hi up (m ∷ w) l (inl f) = inl (f.0, flow_higher g lo hi up w l f.1)
flow_higher g lo hi up (m ∷ w) l (inr f) = inr (f.0, flow_higher g (g m) hi up w l f.1)

pub flow_lower : (g : Message → ℕ) (lo hi down : ℕ) (w : List Message) → down ≤ lo → Flow g lo hi w → Flow g down hi w
flow_lower g lo hi down [] l f = omega arith
flow_lower g lo hi down (m ∷ w) l (inl f) = inl (f.0, flow_lower g lo hi down w l f.1)
flow_lower g lo hi down (m ∷ w) l (inr f) = inr (omega arith, f.1)

-- the wire's own end is at most hi
pub flow_top : (g : Message → ℕ) (lo hi : ℕ) (w : List Message) → Flow g lo hi w → lo ≤ hi
flow_top g lo hi [] f = f
flow_top g lo hi (m ∷ w) (inl f) = flow_top g lo hi w f.1
flow_top g lo hi (m ∷ w) (inr f) = let t = flow_top g (g m) hi w f.1 in omega arith

pub flow_push : (g : Message → ℕ) (lo hi : ℕ) (m : Message) (w : List Message) → hi < g m → Flow g lo hi w →
    Flow g lo (g m) (w ++ m ∷ [])
flow_push g lo hi m [] l f = inr (omega arith, omega arith)
flow_push g lo hi m (x ∷ w) l (inl f) = inl (f.0, flow_push g lo hi m w l f.1)
flow_push g lo hi m (x ∷ w) l (inr f) = inr (f.0, flow_push g (g x) hi m w l f.1)

pub flow_none : (g : Message → ℕ) (lo hi : ℕ) (v : List Message) → AllByRecursion (λ m. g m ≡ 0) v → lo ≤ hi →
    Flow g lo hi v
flow_none g lo hi [] a l = l
flow_none g lo hi (m ∷ v) a l = inl (a.0, flow_none g lo hi v a.1 l)

pub flow_append : (g : Message → ℕ) (lo hi : ℕ) (w v : List Message) → AllByRecursion (λ m. g m ≡ 0) v →
    Flow g lo hi w → Flow g lo hi (w ++ v)
flow_append g lo hi [] v a f = flow_none g lo hi v a f
flow_append g lo hi (x ∷ w) v a (inl f) = inl (f.0, flow_append g lo hi w v a f.1)
flow_append g lo hi (x ∷ w) v a (inr f) = inr (f.0, flow_append g (g x) hi w v a f.1)

pub flow_rest : (g : Message → ℕ) {p q : ℕ} {m : Message} {w v : List Message} (lo hi : ℕ) → g m ≡ 0 →
    TakenOff p q m w v → Flow g lo hi w → Flow g lo hi v
flow_rest g lo hi z (here k) (inl f) = f.1
flow_rest g lo hi z (here k) (inr f) = absurd (omega arith)
flow_rest g lo hi z (there k t) (inl f) = inl (f.0, flow_rest g lo hi z t f.1)
flow_rest g lo hi z (there {x = x} k t) (inr f) = inr (f.0, flow_rest g (g x) hi z t f.1)

pub flow_taken : (g : Message → ℕ) {p q : ℕ} {m : Message} {w v : List Message} (lo hi : ℕ) →
    ((x : Message) → goes p q x ≡ false → g x ≡ 0) →
    0 < g m → TakenOff p q m w v → Flow g lo hi w → (lo < g m) × Flow g (g m) hi v
flow_taken g lo hi o z (here k) (inl f) = absurd (omega arith)
flow_taken g lo hi o z (here k) (inr f) = f
flow_taken g lo hi o z (there k t) (inl f) = let r = flow_taken g lo hi o z t f.1 in (r.0, inl (f.0, r.1))
flow_taken g lo hi o z (there {x = x} k t) (inr f) = let e = o x k in absurd (omega arith)

-- behind an ask from a to b stands no word from a to b
abbrev pub Flushed : ℕ → ℕ → List Message → Type 0
Flushed a b [] = Unit {0}
Flushed a b (m ∷ w) = ((asks a b m ≡ 0) ⊎ (tally (words a b) w ≡ 0)) × Flushed a b w

pub flushed_append : (a b : ℕ) (w v : List Message) → (tally (asks a b) w ≡ 0) ⊎ (tally (words a b) v ≡ 0) →
    Flushed a b v → Flushed a b w → Flushed a b (w ++ v)
flushed_append a b [] v o g f = g
flushed_append a b (m ∷ w) v (inl o) g f = (inl (omega arith), flushed_append a b w v (inl (omega arith)) g f.1)
flushed_append a b (m ∷ w) v (inr o) g f = (
  elim f.0 [ inl k ↦ inl k | inr k ↦ inr (tally-append (words a b) w v ∙ omega arith) ],
  flushed_append a b w v (inr o) g f.1,
)

pub flushed_rest : (a b : ℕ) {p q : ℕ} {m : Message} {w v : List Message} → TakenOff p q m w v → Flushed a b w →
    Flushed a b v
flushed_rest a b (here k) f = f.1
flushed_rest a b (there {w = w} {v = v} k t) f = (
  elim f.0 [ inl z ↦ inl z | inr z ↦ inr (omega (arith, tally_taken (words a b) t)) ],
  flushed_rest a b t f.1,
)

pub words_goes : (a b : ℕ) (x : Message) → goes a b x ≡ false → words a b x ≡ 0
words_goes a b (post p q (Word l w)) e = grind (arith, nat_tests)
words_goes a b (post p q (Ask r l)) e = refl
words_goes a b (post p q (Reply y)) e = refl
words_goes a b (post p q (Decision r v)) e = refl

pub flushed_taken : (a b : ℕ) {m : Message} {w v : List Message} → 0 < asks a b m → TakenOff a b m w v →
    Flushed a b w → tally (words a b) v ≡ 0
flushed_taken a b z (here k) f = elim f.0 [ inl e ↦ omega arith | inr e ↦ e ]
flushed_taken a b z (there {x = x} k t) f = let ih = flushed_taken a b z t f.1 in omega (arith, words_goes a b x k)

pub flow_drop : (g : Message → ℕ) {p q : ℕ} {m : Message} {w v : List Message} (lo hi : ℕ) → TakenOff p q m w v →
    Flow g lo hi w → Flow g lo hi v
flow_drop g lo hi (here k) (inl f) = f.1
flow_drop g lo hi (here {w = w} k) (inr f) = flow_lower g _ hi lo w (omega arith) f.1
flow_drop g lo hi (there k t) (inl f) = inl (f.0, flow_drop g lo hi t f.1)
flow_drop g lo hi (there {x = x} k t) (inr f) = inr (f.0, flow_drop g (g x) hi t f.1)

pub label_goes : (a b : ℕ) (x : Message) → goes a b x ≡ false → word_label a b x ≡ 0
label_goes a b (post p q (Word l w)) e = grind (arith, nat_tests)
label_goes a b (post p q (Ask r l)) e = refl
label_goes a b (post p q (Reply y)) e = refl
label_goes a b (post p q (Decision r v)) e = refl
