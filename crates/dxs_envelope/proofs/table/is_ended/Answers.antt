use Rattle.std.proofs.Common.{◌≡◌, ◌<◌, ◌==◌, true, false, arith, ℕ}
use Rattle.std.proofs.lemmas.Bool.Decides.{nat_tests}

some_bytes : (n : ℕ) → (n == 0) ≡ false → 0 < n
some_bytes n e = grind (arith, nat_tests)

no_bytes : (n : ℕ) → (n == 0) ≡ true → n ≡ 0
no_bytes n e = grind (arith, nat_tests)
