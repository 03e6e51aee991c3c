-- What is answered of the text of a set that is written: it is refused for its first segment that is too long, else for its length (this
-- project's profile).
use Rattle.std.specs.Prelude.{ℕ, nat_lt, List, length, Option, Some, None, Result, Ok, Err, if◌then◌else◌}
use Rattle.dsd_values.specs.declared.limits.TheConstants.{SET_BYTES}
use Rattle.dsd_pricing.specs.declared.fault.WriteFault.{WriteFault}
use Rattle.dsd_pricing.specs.declared.fault.WriteFault.TheVariants.{LongSegment, LongSet}

-- the text where none of its segments is too long, else the length of the first that is
abbrev pub unless_too_long : Option ℕ → List ℕ → Result (List ℕ) WriteFault
unless_too_long (Some size) text = Err (LongSegment size)
unless_too_long None text = Ok text

-- a text of no more bytes than a set may have
abbrev pub whole : Result (List ℕ) WriteFault → Result (List ℕ) WriteFault
whole (Ok text) = if nat_lt SET_BYTES (length text) then Err (LongSet (length text)) else Ok text
whole (Err fault) = Err fault
