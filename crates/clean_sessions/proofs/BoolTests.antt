-- Tests that are known.
use Rattle.std.proofs.Common.{◌≡◌, Bool, true, false, not, ◌&&◌, refl}

pub both_true : (a b : Bool) → (a && b) ≡ true → (a ≡ true) × (b ≡ true)
both_true true b e = (refl, e)
both_true false b e = cc

pub never_both : (b : Bool) → b ≡ true → b ≡ false → ⊥
never_both true t f = cc
never_both false t f = cc

pub twice_not : (b : Bool) → not (not b) ≡ b
twice_not true = refl
twice_not false = refl
