-- What is said of noise, from one call to the call above it.
use Rattle.std.proofs.Common.{ℕ, Result, Err}
use Rattle.dsd_end.specs.EndFaults.{IfNoise}
use Rattle.dsd_end.specs.declared.fault.EndFault.{EndFault}
use Rattle.dsd_end.specs.declared.fault.EndFault.TheVariants as ends

-- two facts of a fault that is handed on give a third, whatever the calls give
pub noise_both : (T U : Type 0) (P Q S : ℕ → Type 0) (fault : EndFault) → ((n : ℕ) → P n → Q n → S n) → (let r : Result T EndFault = Err fault in IfNoise r P) → (let r : Result T EndFault = Err fault in IfNoise r Q)
    → (let r : Result U EndFault = Err fault in IfNoise r S)
noise_both T U P Q S ends.Station f k l = tt
noise_both T U P Q S (ends.Full n) f k l = tt
noise_both T U P Q S (ends.Noise n) f k l = f n k l
noise_both T U P Q S ends.Failed f k l = tt
noise_both T U P Q S ends.Memory f k l = tt
