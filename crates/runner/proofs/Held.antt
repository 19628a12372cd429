-- Of a reader's bytes, as many are enough as tell a file that is too long. Assumes nothing.
use Rattle.std.proofs.Common.{◌≡◌, ℕ, ◌<◌, Bool, true, false, leb, List, [], ◌++◌, take, length, Some, None, IfSome, Option, arith, ap, ◌∙◌, sym, refl}
use Rattle.std.specs.Option.{option_map}
use Rattle.std.proofs.lemmas.List.{take_all, length-take-le}
use Rattle.std.proofs.lemmas.Bool.{cond-false, leb-true, leb-false, lt-leb}
use Rattle.runfile.specs.Files.{file_of}

pub front : (o : Option (List ℕ)) (n : ℕ) (bs : List ℕ) → IfSome (option_map (take n) o) (λ xs. bs ≡ [] ++ xs)
    → IfSome o (λ all. bs ≡ take n all)
front None n bs h = tt
front (Some all) n bs h = h

front_means : (all : List ℕ) → file_of (take 32769 all) ≡ file_of all
front_means all = go (leb (length all) 32768) refl where
  go : (b : Bool) → leb (length all) 32768 ≡ b → file_of (take 32769 all) ≡ file_of all
  go true e = let short = leb-true _ _ e in ap file_of (take_all 32769 all (omega arith))
  go false e =
      let long = leb-false _ _ e in
      let cut : length (take 32769 all) ≡ 32769 = length-take-le 32769 all (omega arith) in
      let more : 32768 < length (take 32769 all) = omega arith in
      cond-false _ _ _ (lt-leb _ _ more) ∙ sym (cond-false _ _ _ e)

pub means : (o : Option (List ℕ)) (bs : List ℕ) → IfSome o (λ all. bs ≡ take 32769 all)
    → IfSome o (λ all. file_of bs ≡ file_of all)
means None bs h = tt
means (Some all) bs h = ap file_of h ∙ front_means all
