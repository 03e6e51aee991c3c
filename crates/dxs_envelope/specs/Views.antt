-- What contracts see of a set that is lent, and of a reading of a transmission.
use Rattle.std.specs.Prelude.{ℕ, List, Option}
use Rattle.dxs_envelope.specs.declared.fault.EnvelopeFault.{EnvelopeFault}

-- a set of a text: where it starts, and its bytes
pub record SetAt : Type 0 where
  pub start : ℕ
  pub bytes : List ℕ

-- what is told of a text: sets, and then its right end, or where it is no transmission and why
pub record Told : Type 0 where
  pub sets : List SetAt
  pub fault : Option EnvelopeFault
