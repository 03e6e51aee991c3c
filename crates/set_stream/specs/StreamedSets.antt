-- A set whose text comes in pieces.
use Rattle.std.specs.Prelude.{◌≡◌, ℕ, List, [], ◌++◌, length, Option, Some, None, MatchOption}
use Rattle.segments.specs.Streaming.{Stream, reached}
use Rattle.transaction_set.specs.Taking.{IsFaultOf}
use Rattle.transaction_set.specs.declared.set_fault.SetFault.{SetFault}
use Rattle.dsd_record.specs.SetTexts.{set_refusal}
use Rattle.dsd_record.specs.TakenSets.{HasTaken}
use Rattle.dsd_record.specs.declared.set_reader.Begun.{Begun}

-- what contracts see of a stream: the segments of its text, the set so far, and why it was given up
pub record SetSoFar : Type 0 where
  pub segments : Stream
  pub set : Begun
  pub fault : Option SetFault

-- The segments that ended were taken. Behind them stand the bytes that are begun, and then those that are still to come.
pub record Reads (text : List ℕ) (segments : Stream) (set : Begun) (more : List ℕ) : Type 0 where
  pub sound : segments.fault ≡ None
  pub read : List ℕ
  pub taken : HasTaken read set
  pub place : segments.begun.place ≡ length read
  pub joined : text ≡ read ++ (segments.begun.rest ++ more)

-- the text is refused so, whatever follows it
abbrev pub IsRefusedBy : List ℕ → SetFault → Type 0
IsRefusedBy text fault = (rest : List ℕ) → IsFaultOf fault (set_refusal (text ++ rest))

-- The stream has taken this text.
abbrev pub IsStreamOf : List ℕ → SetSoFar → Type 0
IsStreamOf text stream = MatchOption stream.fault (Reads text stream.segments stream.set []) (IsRefusedBy text)

-- how far it has come, while it is not given up
abbrev pub reached_in : Option SetFault → Stream → ℕ
reached_in None segments = reached segments
reached_in (Some fault) segments = 0

abbrev pub comes_to : SetSoFar → ℕ
comes_to stream = reached_in stream.fault stream.segments
