-- Control messages with tokens of their own number at most n (n - 1).
use Rattle.std.proofs.Common.{◌≡◌, ℕ, zero, suc, ◌+◌, ◌-◌, ◌*◌, ◌<◌, ◌≤◌, true, false, cond, eqb, List, [], ◌∷◌, sym, refl, ap, ◌∙◌, inl, inr, arith}
use Rattle.std.proofs.lemmas.Bool.{cases_lt}
use Rattle.std.proofs.lemmas.Bool.Decides.{eqb_tells}
use Rattle.std.specs.List.{AllByRecursion}
use Rattle.protocol.specs.Wire.{Ask, Decision, Message, Reply, Word, is_control, post, tally}
use Rattle.protocol.proofs.Wires.{asks, at_is, decisions, replies}
use Rattle.protocol.proofs.Invariant.{InLoom}

abbrev sum : (ℕ → ℕ) → ℕ → ℕ
sum f zero = 0
sum f (suc k) = sum f k + f k

sum_add : (f g : ℕ → ℕ) (k : ℕ) → sum (λ i. f i + g i) k ≡ sum f k + sum g k
sum_add f g zero = refl
sum_add f g (suc k) = let ih = sum_add f g k in omega arith

sum_same : (f g : ℕ → ℕ) (k : ℕ) → ((i : ℕ) → f i ≡ g i) → sum f k ≡ sum g k
sum_same f g zero e = refl
sum_same f g (suc k) e = let ih = sum_same f g k e in let x = e k in omega arith

sum_ge : (f : ℕ → ℕ) (k i : ℕ) → i < k → f i ≤ sum f k
sum_ge f zero i h = absurd (omega arith)
sum_ge f (suc k) i h = elim (cases_lt i k) [
  | inl l ↦ (let ih = sum_ge f k i l in omega arith)
  | inr l ↦ (let e : i ≡ k = omega arith in let x : f i ≡ f k = ap f e in omega arith)
]

sum_le : (f : ℕ → ℕ) (c k : ℕ) → ((i : ℕ) → i < k → f i ≤ c) → sum f k ≤ k * c
sum_le f c zero h = omega arith
sum_le f c (suc k) h = let ih = sum_le f c k (λ i l. h i (omega arith)) in let x = h k (omega arith) in omega arith

-- all but one place
abbrev off : ℕ → ℕ → ℕ → ℕ
off a b x = cond (eqb a b) 0 x

off_le : (a k : ℕ) (x : ℕ → ℕ) → ((b : ℕ) → x b ≤ 1) →
    (sum (λ b. off a b (x b)) k ≤ k) × (a < k → sum (λ b. off a b (x b)) k ≤ k - 1)
off_le a zero x h = (omega arith, λ l. absurd (omega arith))
off_le a (suc k) x h = let ih = off_le a k x h in let i0 = ih.0 in let y = h k in
    elim (eqb_tells a k) [
      | inl e ↦ (let z : off a k (x k) ≡ 0 = rw e.0 refl in (omega arith, λ l. omega arith))
      | inr e ↦ (let z : off a k (x k) ≡ x k = rw e.0 refl in
          (omega arith, λ l. (let i1 = ih.1 (let n = e.1 in omega arith) in omega arith)))
    ]

-- the token of a pair: an ask, its answer or its decision
abbrev pub token : ℕ → ℕ → Message → ℕ
token a b m = asks a b m + (replies true b a m + replies false b a m) + decisions a b m

abbrev grid : ℕ → (ℕ → ℕ → ℕ) → ℕ
grid n f = sum (λ a. sum (λ b. off a b (f a b)) n) n

off_add : (a b x y : ℕ) → off a b (x + y) ≡ off a b x + off a b y
off_add a b x y = elim (eqb_tells a b) [ inl e ↦ rw e.0 refl | inr e ↦ rw e.0 refl ]

grid_add : (n : ℕ) (f g : ℕ → ℕ → ℕ) → grid n (λ a b. f a b + g a b) ≡ grid n f + grid n g
grid_add n f g = sum_same _ _ n
    (λ a. sum_same _ _ n (λ b. off_add a b (f a b) (g a b)) ∙ sum_add (λ b. off a b (f a b)) (λ b. off a b (g a b)) n)
    ∙ sum_add (λ a. sum (λ b. off a b (f a b)) n) (λ a. sum (λ b. off a b (g a b)) n) n

grid_ge : (n : ℕ) (f : ℕ → ℕ → ℕ) (a b : ℕ) → a < n → b < n → (a ≡ b → ⊥) → f a b ≤ grid n f
grid_ge n f a b la lb ne = let x = sum_ge (λ c. off a c (f a c)) n b lb in
    let y = sum_ge (λ c. sum (λ d. off c d (f c d)) n) n a la in
    elim (eqb_tells a b) [
      | inl e ↦ absurd (ne e.1)
      | inr e ↦ (let z : off a b (f a b) ≡ f a b = rw e.0 refl in omega arith)
    ]

grid_one : (n : ℕ) (m : Message) → InLoom n m → is_control m ≤ grid n (λ a b. token a b m)
grid_one n (post p q (Word l w)) h = omega arith
grid_one n (post p q (Ask r l)) h = let x =
    grid_ge n (λ a b. token a b (post p q (Ask r l))) p q h.0 h.1 h.2 in let o = at_is p q p q 1 refl refl in
    omega arith
grid_one n (post p q (Reply true)) h = let x =
    grid_ge n (λ a b. token a b (post p q (Reply true))) q p h.1 h.0 (λ e. h.2 (sym e)) in
    let o = at_is p q p q 1 refl refl in omega arith
grid_one n (post p q (Reply false)) h = let x =
    grid_ge n (λ a b. token a b (post p q (Reply false))) q p h.1 h.0 (λ e. h.2 (sym e)) in
    let o = at_is p q p q 1 refl refl in omega arith
grid_one n (post p q (Decision r v)) h = let x =
    grid_ge n (λ a b. token a b (post p q (Decision r v))) p q h.0 h.1 h.2 in
    let o = at_is p q p q 1 refl refl in omega arith

grid_all : (n : ℕ) (w : List Message) → AllByRecursion (InLoom n) w →
    tally is_control w ≤ grid n (λ a b. tally (token a b) w)
grid_all n [] h = omega arith
grid_all n (m ∷ w) h = let ih = grid_all n w h.1 in let x = grid_one n m h.0 in
    let y = grid_add n (λ a b. token a b m) (λ a b. tally (token a b) w) in omega arith

pub few_tokens : (n : ℕ) (w : List Message) → AllByRecursion (InLoom n) w → ((a b : ℕ) → tally (token a b) w ≤ 1) →
    tally is_control w ≤ n * (n - 1)
few_tokens n w h o = let x = grid_all n w h in
    let y = sum_le (λ a. sum (λ b. off a b (tally (token a b) w)) n) (n - 1) n
    (λ a l. (off_le a n (λ b. tally (token a b) w) (o a)).1 l) in omega arith

tally-sum : (h k : Message → ℕ) (w : List Message) → tally (λ m. h m + k m) w ≡ tally h w + tally k w
tally-sum h k [] = refl
tally-sum h k (m ∷ w) = let ih = tally-sum h k w in omega arith

pub token_is : (a b : ℕ) (w : List Message) →
    tally (token a b) w ≡ tally (asks a b) w + (tally (replies true b a) w + tally (replies false b a) w) + tally
    (decisions a b) w
token_is a b w = let x = tally-sum (λ m. asks a b m + (replies true b a m + replies false b a m)) (decisions a b) w in
    let y = tally-sum (asks a b) (λ m. replies true b a m + replies false b a m) w in
    let z = tally-sum (replies true b a) (replies false b a) w in omega arith
