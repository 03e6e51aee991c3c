-- What is known where a reader's answer is a value.
use Rattle.std.proofs.Common.{◌≡◌, ℕ, ◌<◌, ◌≤◌, Bool, false, List, length, get_or, position, Option, Some, None, Result, Ok, refl, arith}
use Rattle.std.specs.List.{All, position_or_len}
use Rattle.std.proofs.lemmas.Bool.Decides.{nat_tests}
use Rattle.std.proofs.lemmas.List.Sums.{fails_before_first, position_or_len_is}
use Rattle.dsd_values.proofs.Digits.{none_all}
use Rattle.dsd_values.specs.Reading.{bounded, filled, complete, within}
use Rattle.dsd_values.specs.declared.fault.ValueFault.{ValueFault}

pub record IsFilled (V : Type 0) (most : ℕ) (outside : Option ℕ) (text : List ℕ) (value : Result V ValueFault) (v : V) : Type 0 where
  pub some : 0 < length text
  pub short : length text ≤ most
  pub none : outside ≡ None
  pub is : value ≡ Ok v

pub filled_ok : (V : Type 0) (most : ℕ) (outside : Option ℕ) (text : List ℕ) (value : Result V ValueFault) (v : V) → filled most outside text value ≡ Ok v → IsFilled V most outside text value v
filled_ok V most (Some i) text value v e = absurd (grind (arith, nat_tests))
filled_ok V most None text value v e = record { some = grind (arith, nat_tests); short = grind (arith, nat_tests); none = refl; is = grind (arith, nat_tests) }

pub filled_gives : (V : Type 0) (most : ℕ) (outside : Option ℕ) (text : List ℕ) (value : Result V ValueFault) → 0 < length text → length text ≤ most → outside ≡ None → filled most outside text value ≡ value
filled_gives V most outside text value some short none = rw none (grind (arith, nat_tests))

pub bounded_ok : (V : Type 0) (most : ℕ) (outside : Option ℕ) (text : List ℕ) (value : Result V ValueFault) (v : V) → bounded most outside text value ≡ Ok v → (length text ≤ most) × (outside ≡ None) × (value ≡ Ok v)
bounded_ok V most (Some i) text value v e = absurd (grind (arith, nat_tests))
bounded_ok V most None text value v e = (grind (arith, nat_tests), refl, grind (arith, nat_tests))

pub bounded_gives : (V : Type 0) (most : ℕ) (outside : Option ℕ) (text : List ℕ) (value : Result V ValueFault) → length text ≤ most → outside ≡ None → bounded most outside text value ≡ value
bounded_gives V most outside text value short none = rw none (grind (arith, nat_tests))

pub complete_ok : (V : Type 0) (least : ℕ) (text : List ℕ) (value : Result V ValueFault) (v : V) → complete least text value ≡ Ok v → (least ≤ length text) × (value ≡ Ok v)
complete_ok V least text value v e = (grind (arith, nat_tests), grind (arith, nat_tests))

pub complete_gives : (V : Type 0) (least : ℕ) (text : List ℕ) (value : Result V ValueFault) → least ≤ length text → complete least text value ≡ value
complete_gives V least text value long = grind (arith, nat_tests)

pub within_ok : (low high n v : ℕ) → within low high n ≡ Ok v → (n ≡ v) × (low ≤ v) × (v ≤ high)
within_ok low high n v e = (grind (arith, nat_tests), grind (arith, nat_tests), grind (arith, nat_tests))

pub within_gives : (low high n v : ℕ) → n ≡ v → low ≤ v → v ≤ high → within low high n ≡ Ok v
within_gives low high n v same least most = rw same (grind (arith, nat_tests))

abbrev pub read_as : {V : Type 0} → V → Result V ValueFault
read_as x = Ok x

pub ok_is : (V : Type 0) (x y : V) → read_as x ≡ Ok y → x ≡ y
ok_is V x y e = cc

-- a test by its place, and the fact for each byte
module _ (p : ℕ → Bool) (P : ℕ → Type 0) where
  pub all_pass : ((b : ℕ) → p b ≡ false → P b) → (text : List ℕ) → position p text ≡ None → All P text
  all_pass passes text none k d here =
      let far : length text ≤ position_or_len p text = none_all p text none in
      passes (get_or text k d) (fails_before_first p text k d (omega arith))

  pub none_outside : ((b : ℕ) → P b → p b ≡ false) → (text : List ℕ) → All P text → position p text ≡ None
  none_outside fails text all =
      let whole : position_or_len p text ≡ length text = position_or_len_is p text (length text) 0 (omega arith) (λ k here. fails (get_or text k 0) (all k 0 here)) (λ past. absurd (omega arith)) in
      grind (arith, nat_tests)
