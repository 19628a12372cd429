-- Numbers and lines that are spelled are read back, and what is read was spelled so. Assumes nothing.
use Rattle.std.proofs.Common.{◌≡◌, ℕ, zero, suc, ◌^◌, ◌<◌, true, false, eqb, ltb, List, [], ◌∷◌, ◌++◌, length, get_or, Some, None, decimal, Option, sym, refl, ap, ◌∙◌, arith, rules}
use Rattle.std.specs.Char.{is_ascii_digit}
use Rattle.std.specs.Str.{all_ascii_digits}
use Rattle.std.proofs.lemmas.Fmt.{digits_decimal, digits_value-decimal, decimal-digits_value, decimal_nonempty, first_decimal, decimal_digit}
use Rattle.std.proofs.lemmas.Str.Parse.{IsNumeralModel, numerals_by_fold, tells_all_ascii_digits}
use Rattle.std.proofs.lemmas.Grind.{common_steps}
use Rattle.std.proofs.lemmas.Option.{cond_some}
use Rattle.std.proofs.lemmas.Bool.{cond-true, lt-ltb, ltb-true, and_from, and_parts, eqb-true}
use Rattle.lines.specs.Lines.{and_then, byte, field}
use Rattle.lines.specs.Spelling.{spell_field}
use Rattle.lines.specs.Numbers.{digits, after_digits, value_from, plain, is_number, number}

own : IsNumeralModel (λ ds. all_ascii_digits ds ≡ true) (value_from 0)
own = numerals_by_fold _ tells_all_ascii_digits value_from (search rules)

-- digits before a byte that is none
digits-before : (ds : List ℕ) (c : ℕ) (rest : List ℕ) → all_ascii_digits ds ≡ true → is_ascii_digit c ≡ false
    → (digits (ds ++ c ∷ rest) ≡ ds) × (after_digits (ds ++ c ∷ rest) ≡ c ∷ rest)
digits-before [] c rest h n = (grind (arith, n), grind (arith, n))
digits-before (d ∷ ds) c rest h n =
    let more = digits-before ds c rest (and_parts (is_ascii_digit d) (all_ascii_digits ds) h).1 n in
    (grind (arith, common_steps, more.0), grind (arith, common_steps, more.1))

plain_by : (ds : List ℕ) → 0 < length ds → (get_or ds 0 0 ≡ 48 → length ds ≡ 1) → plain ds ≡ true
plain_by [] h z = grind arith
plain_by (c ∷ []) h z = refl
plain_by (c ∷ d ∷ ds) h z = grind (arith, common_steps, z)

decimal_zero : (n : ℕ) → n < 2 ^ 64 → get_or (decimal n) 0 0 ≡ 48 → length (decimal n) ≡ 1
decimal_zero zero h z = ap length (decimal_digit 0 (omega arith))
decimal_zero (suc n) h z = absurd (let f = first_decimal (suc n) (omega arith) h in omega (arith, f, z))

pub number_spelled : (n c : ℕ) (rest : List ℕ) → n < 2 ^ 32 → is_ascii_digit c ≡ false
    → number (decimal n ++ c ∷ rest) ≡ Some (n, c ∷ rest)
number_spelled n c rest small other =
    let large : n < 2 ^ 64 = omega arith in
    let d = digits-before (decimal n) c rest (digits_decimal own n large) other in
    let v : value_from 0 (digits (decimal n ++ c ∷ rest)) ≡ n = ap (value_from 0) d.0 ∙ digits_value-decimal own n large in
    let p : plain (digits (decimal n ++ c ∷ rest)) ≡ true =
    ap plain d.0 ∙ plain_by (decimal n) (decimal_nonempty n large) (decimal_zero n large) in
    cond-true _ _ _ (and_from _ _ p (ap (λ k. ltb k (2 ^ 32)) v ∙ lt-ltb _ _ small)) ∙ (λ i. Some (v i, d.1 i))

-- what is read as a number was spelled so
digits_all : (bs : List ℕ) → (all_ascii_digits (digits bs) ≡ true) × (digits bs ++ after_digits bs ≡ bs)
digits_all [] = (refl, refl)
digits_all (c ∷ cs) = let more = digits_all cs in (grind (arith, common_steps, more.0), grind (arith, common_steps, more.1))

plain_parts : (ds : List ℕ) → plain ds ≡ true → (0 < length ds) × (get_or ds 0 0 ≡ 48 → length ds ≡ 1)
plain_parts [] p = cc
plain_parts (c ∷ []) p = (omega arith, λ _. refl)
plain_parts (c ∷ d ∷ ds) p = (omega arith, λ e. grind (arith, common_steps))

pub number_was : (bs : List ℕ) (n : ℕ) (rest : List ℕ) → number bs ≡ Some (n, rest) → (bs ≡ decimal n ++ rest) × (n < 2 ^ 32)
number_was bs n rest e =
    let h = cond_some (is_number (digits bs)) (value_from 0 (digits bs), after_digits bs) (n, rest) e in
    let p = and_parts _ _ h.0 in
    let parts = plain_parts (digits bs) p.0 in
    let small : value_from 0 (digits bs) < 2 ^ 32 = ltb-true _ _ p.1 in
    let d : decimal (value_from 0 (digits bs)) ≡ digits bs =
    decimal-digits_value own (digits bs) (digits_all bs).0 parts.0 parts.1 (omega arith) in
    let v : value_from 0 (digits bs) ≡ n = ap (λ x. x.0) h.1 in
    (sym (digits_all bs).1 ∙ ap (λ ds. ds ++ after_digits bs) (sym d) ∙ (λ i. decimal (v i) ++ (h.1 i).1), omega arith)

-- a byte that is spelled
pub byte_spelled : (b : ℕ) (rest : List ℕ) → byte b (b ∷ rest) ≡ Some rest
byte_spelled b rest = grind arith

pub byte_was : (b : ℕ) (bs rest : List ℕ) → byte b bs ≡ Some rest → bs ≡ b ∷ rest
byte_was b [] rest e = cc
byte_was b (c ∷ cs) rest e = let h = cond_some (eqb c b) cs rest e in λ i. eqb-true c b h.0 i ∷ h.1 i

-- what came before, where something followed
pub then_was : {A B : Type 0} (o : Option A) (f : A → Option B) (y : B) → and_then o f ≡ Some y
    → (x : A) × ((o ≡ Some x) × (f x ≡ Some y))
then_was None f y e = cc
then_was (Some x) f y e = (x, (refl, e))

pub then_some : {A B : Type 0} (o : Option A) (f : A → Option B) (x : A) → o ≡ Some x → and_then o f ≡ f x
then_some o f x e = ap (λ p. and_then p f) e

-- a space and a number
pub field_spelled : (n c : ℕ) (rest : List ℕ) → n < 2 ^ 32 → is_ascii_digit c ≡ false
    → field (spell_field n ++ c ∷ rest) ≡ Some (n, c ∷ rest)
field_spelled n c rest small other =
    then_some _ number _ (byte_spelled 32 (decimal n ++ c ∷ rest)) ∙ number_spelled n c rest small other

pub field_was : (bs : List ℕ) (x : ℕ × List ℕ) → field bs ≡ Some x → (bs ≡ spell_field x.0 ++ x.1) × (x.0 < 2 ^ 32)
field_was bs x e =
    let s = then_was (byte 32 bs) number x e in
    let w = number_was s.0 x.0 x.1 s.1.1 in
    (byte_was 32 bs s.0 s.1.0 ∙ ap (λ cs. 32 ∷ cs) w.0, w.1)
