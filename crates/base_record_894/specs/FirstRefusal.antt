-- The first refusal of a text that is to be a base record.
use Rattle.std.specs.Prelude.{ℕ, List, Option}
use Rattle.transaction_set.specs.Refusal.{Judged, Refusal, first_refusal}
use Rattle.base_record_894.specs.Said.{Said, nothing, reason_of, after, is_whole}

-- how its segments are judged
abbrev pub judged : Judged Said
judged = record { reason = reason_of; after = after; whole = is_whole }

-- The first refusal of the text, where there is one.
abbrev pub refusal_of : List ℕ → Option Refusal
refusal_of text = first_refusal judged nothing text
