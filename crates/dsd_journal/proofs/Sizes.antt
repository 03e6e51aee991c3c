-- Which bytes are the first of a payload's length.
use Rattle.std.proofs.Common.{◌≡◌, ◌≢◌, ◌⊎◌, inl, inr, ℕ, zero, suc, ◌+◌, ◌*◌, ◌<◌, ◌≤◌, true, false, ◌&&◌, ◌||◌, ◌==◌, nat_lt, nat_le, if◌then◌else◌, List, [], ◌∷◌, ◌++◌, get_or, drop, refl, sym, ap, subst, arith, Result, Ok, Err, IfOk, IfErr}
use Rattle.std.proofs.lemmas.Bool.{cases_eq, cases_lt, cases_Bool}
use Rattle.std.proofs.lemmas.Bool.Decides.{nat_tests}
use Rattle.std.proofs.lemmas.Nat.{be_bytes_4}
use Rattle.std.specs.Int.{w32, to_be_bytes}
use Rattle.dsd_values.specs.declared.limits.TheConstants.{SET_BYTES}
use Rattle.dsd_journal.specs.JournalImage.{IsPayloadLength}
use Rattle.dsd_journal.specs.Reading.{StartsSize, EndsSize, size_of, size_second, size_third, size_fourth}

-- the four bytes of a number below 2 ^ 24
digits : (n b c d : ℕ) → b < 256 → c < 256 → d < 256 → n ≡ b * 65536 + c * 256 + d → to_be_bytes w32 n ≡ 0 ∷ b ∷ c ∷ d ∷ []
digits n b c d hb hc hd is = be_bytes_4 (0 ∷ b ∷ c ∷ d ∷ []) n refl small (omega (arith, is))
  where
    small : (i : ℕ) → get_or (0 ∷ b ∷ c ∷ d ∷ []) i 0 < 256
    small zero = omega arith
    small (suc zero) = hb
    small (suc (suc zero)) = hc
    small (suc (suc (suc zero))) = hd
    small (suc (suc (suc (suc i)))) = omega arith

starts_0 : StartsSize []
starts_0 = record { size = 1; sized = (omega arith, omega arith); rest = to_be_bytes w32 1; spelled = refl }

starts_1 : StartsSize (0 ∷ [])
starts_1 = record { size = 1; sized = (omega arith, omega arith); rest = 0 ∷ 0 ∷ 1 ∷ []; spelled = refl }

below : (b c : ℕ) → b ≤ 4 → c < 256 → (b < 4) ⊎ (c ≡ 0) → b * 65536 + c * 256 ≤ 262144
below b c hb hc (inl less) = omega (arith, less, hc)
below b c hb hc (inr none) = omega (arith, none, hb)

starts_3 : (b c : ℕ) → b ≤ 4 → c < 256 → (b < 4) ⊎ (c ≡ 0) → StartsSize (0 ∷ b ∷ c ∷ [])
starts_3 b c hb hc four = elim (cases_eq (b + c) 0) [
  | inl none ↦ record { size = 1; sized = (omega arith, omega arith); rest = 1 ∷ []; spelled = sym (digits 1 b c 1 (omega (arith, hb)) hc (omega arith) (omega (arith, none))) }
  | inr some ↦ record {
    size = b * 65536 + c * 256;
    sized = (omega (arith, some), below b c hb hc four);
    rest = 0 ∷ [];
    spelled = sym (digits (b * 65536 + c * 256) b c 0 (omega (arith, hb)) hc (omega arith) (omega arith));
  }
]

starts_2 : (b : ℕ) → b ≤ 4 → StartsSize (0 ∷ b ∷ [])
starts_2 b hb = let s = starts_3 b 0 hb (omega arith) (inr refl) in record { size = s.size; sized = s.sized; rest = 0 ∷ s.rest; spelled = s.spelled }

-- with which bytes none goes on
not_1 : (a : ℕ) → a ≢ 0 → StartsSize (a ∷ []) → ⊥
not_1 a some s = let e = ap (λ (l : List ℕ). get_or l 0 0) s.spelled in some (omega (arith, e, s.sized.1))

not_2 : (b : ℕ) → 4 < b → StartsSize (0 ∷ b ∷ []) → ⊥
not_2 b more s = let e = ap (λ (l : List ℕ). get_or l 1 0) s.spelled in omega (arith, more, e, s.sized.1)

not_3 : (b c : ℕ) → (256 ≤ c) ⊎ ((4 ≤ b) × (c ≢ 0)) → StartsSize (0 ∷ b ∷ c ∷ []) → ⊥
not_3 b c (inl big) s = let e = ap (λ (l : List ℕ). get_or l 2 0) s.spelled in omega (arith, e, big)
not_3 b c (inr four) s =
    let e1 = ap (λ (l : List ℕ). get_or l 1 0) s.spelled in
    let e2 = ap (λ (l : List ℕ). get_or l 2 0) s.spelled in
    four.1 (omega (arith, e1, e2, four.0, s.sized.1))

not_4 : (b c d : ℕ) → (256 ≤ d) ⊎ (IsPayloadLength (b * 65536 + c * 256 + d) → ⊥) → StartsSize (0 ∷ b ∷ c ∷ d ∷ []) → ⊥
not_4 b c d (inl big) s = let e = ap (λ (l : List ℕ). get_or l 3 0) s.spelled in omega (arith, e, big)
not_4 b c d (inr out) s =
    let e1 = ap (λ (l : List ℕ). get_or l 1 0) s.spelled in
    let e2 = ap (λ (l : List ℕ). get_or l 2 0) s.spelled in
    let e3 = ap (λ (l : List ℕ). get_or l 3 0) s.spelled in
    let is : s.size ≡ b * 65536 + c * 256 + d = omega (arith, e1, e2, e3, s.sized.1) in
    out (subst IsPayloadLength is s.sized)

-- a length stands at the front, or the bytes end or go wrong inside it
pub record Decides (bytes : List ℕ) (answer : Result ℕ ℕ) : Type 0 where
  pub ok : IfOk answer (λ size. IsPayloadLength size × (bytes ≡ to_be_bytes w32 size ++ drop 4 bytes))
  pub err : IfErr answer (EndsSize bytes)

bad : (bytes : List ℕ) (k : ℕ) → EndsSize bytes k → Decides bytes (Err k)
bad bytes k e = record { ok = tt; err = e }

third_test : (b c : ℕ) → nat_lt c 256 && (nat_lt b 4 || c == 0) ≡ true → (c < 256) × ((b < 4) ⊎ (c ≡ 0))
third_test b c is = elim (cases_lt b 4) [ inl less ↦ (grind (arith, nat_tests), inl less) | inr more ↦ (grind (arith, nat_tests), inr (grind (arith, nat_tests))) ]

third_fails : (b c : ℕ) → nat_lt c 256 && (nat_lt b 4 || c == 0) ≡ false → (256 ≤ c) ⊎ ((4 ≤ b) × (c ≢ 0))
third_fails b c is = elim (cases_lt c 256) [ inl less ↦ inr (grind (arith, nat_tests), λ none. grind (arith, nat_tests)) | inr more ↦ inl more ]

fourth_test : (d n : ℕ) → nat_lt d 256 && (nat_lt 0 n && nat_le n SET_BYTES) ≡ true → (d < 256) × IsPayloadLength n
fourth_test d n is = (grind (arith, nat_tests), (grind (arith, nat_tests), grind (arith, nat_tests)))

fourth_fails : (d n : ℕ) → nat_lt d 256 && (nat_lt 0 n && nat_le n SET_BYTES) ≡ false → (256 ≤ d) ⊎ (IsPayloadLength n → ⊥)
fourth_fails d n is = elim (cases_lt d 256) [ inl less ↦ inr (λ h. (let low = h.0 in let high = h.1 in grind (arith, nat_tests))) | inr more ↦ inl more ]

decides_4 : (b c : ℕ) → b ≤ 4 → c < 256 → (b < 4) ⊎ (c ≡ 0) → (rest : List ℕ) → Decides (0 ∷ b ∷ c ∷ rest) (size_fourth b c rest)
decides_4 b c hb hc four [] = bad (0 ∷ b ∷ c ∷ []) 3 (record { few = omega arith; before = starts_3 b c hb hc four; ends = inl refl })
decides_4 b c hb hc four (d ∷ rest) = elim (cases_Bool (nat_lt d 256 && (nat_lt 0 (b * 65536 + c * 256 + d) && nat_le (b * 65536 + c * 256 + d) SET_BYTES))) [
  | inl is ↦ (let tests = fourth_test d (b * 65536 + c * 256 + d) is in
      subst (λ t. Decides (0 ∷ b ∷ c ∷ d ∷ rest) (if t then Ok (b * 65536 + c * 256 + d) else Err 3)) (sym is)
      (record { ok = (tests.1, ap (λ (l : List ℕ). l ++ rest) (sym (digits (b * 65536 + c * 256 + d) b c d (omega (arith, hb)) hc tests.0 refl))); err = tt }))
  | inr is ↦ subst (λ t. Decides (0 ∷ b ∷ c ∷ d ∷ rest) (if t then Ok (b * 65536 + c * 256 + d) else Err 3)) (sym is)
      (bad (0 ∷ b ∷ c ∷ d ∷ rest) 3 (record { few = omega arith; before = starts_3 b c hb hc four; ends = inr (omega arith, not_4 b c d (fourth_fails d (b * 65536 + c * 256 + d) is)) }))
]

decides_3 : (b : ℕ) → b ≤ 4 → (rest : List ℕ) → Decides (0 ∷ b ∷ rest) (size_third b rest)
decides_3 b hb [] = bad (0 ∷ b ∷ []) 2 (record { few = omega arith; before = starts_2 b hb; ends = inl refl })
decides_3 b hb (c ∷ rest) = elim (cases_Bool (nat_lt c 256 && (nat_lt b 4 || c == 0))) [
  | inl is ↦ (let tests = third_test b c is in subst (λ t. Decides (0 ∷ b ∷ c ∷ rest) (if t then size_fourth b c rest else Err 2)) (sym is) (decides_4 b c hb tests.0 tests.1 rest))
  | inr is ↦ subst (λ t. Decides (0 ∷ b ∷ c ∷ rest) (if t then size_fourth b c rest else Err 2)) (sym is)
      (bad (0 ∷ b ∷ c ∷ rest) 2 (record { few = omega arith; before = starts_2 b hb; ends = inr (omega arith, not_3 b c (third_fails b c is)) }))
]

second_test : (b : ℕ) → nat_le b 4 ≡ true → b ≤ 4
second_test b is = grind (arith, nat_tests)

second_fails : (b : ℕ) → nat_le b 4 ≡ false → 4 < b
second_fails b is = grind (arith, nat_tests)

decides_2 : (rest : List ℕ) → Decides (0 ∷ rest) (size_second rest)
decides_2 [] = bad (0 ∷ []) 1 (record { few = omega arith; before = starts_1; ends = inl refl })
decides_2 (b ∷ rest) = elim (cases_Bool (nat_le b 4)) [
  | inl is ↦ subst (λ t. Decides (0 ∷ b ∷ rest) (if t then size_third b rest else Err 1)) (sym is) (decides_3 b (second_test b is) rest)
  | inr is ↦ subst (λ t. Decides (0 ∷ b ∷ rest) (if t then size_third b rest else Err 1)) (sym is)
      (bad (0 ∷ b ∷ rest) 1 (record { few = omega arith; before = starts_1; ends = inr (omega arith, not_2 b (second_fails b is)) }))
]

first_test : (a : ℕ) → (a == 0) ≡ true → a ≡ 0
first_test a is = grind (arith, nat_tests)

first_fails : (a : ℕ) → (a == 0) ≡ false → a ≢ 0
first_fails a is = λ none. grind (arith, nat_tests)

pub size_decides : (bytes : List ℕ) → Decides bytes (size_of bytes)
size_decides [] = bad [] 0 (record { few = omega arith; before = starts_0; ends = inl refl })
size_decides (a ∷ rest) = elim (cases_Bool (a == 0)) [
  | inl is ↦ subst (λ t. Decides (a ∷ rest) (if t then size_second rest else Err 0)) (sym is) (subst (λ n. Decides (n ∷ rest) (size_second rest)) (sym (first_test a is)) (decides_2 rest))
  | inr is ↦ subst (λ t. Decides (a ∷ rest) (if t then size_second rest else Err 0)) (sym is)
      (bad (a ∷ rest) 0 (record { few = omega arith; before = starts_0; ends = inr (omega arith, not_1 a (first_fails a is)) }))
]
