-- Two ends on a wire, with at most one frame in flight.
use Rattle.std.specs.Prelude.{ℕ, List, [], ◌∷◌, ◌++◌, Option, Some, None}
use Rattle.std.specs.List.{fold}
use Rattle.dsd_values.specs.declared.role.Role.{Role}
use Rattle.dsd_values.specs.declared.role.Role.TheVariants.{Supplier, Receiver}
use Rattle.dex_line.specs.FrameShapes.{FrameShape, Damaged, Bad}
use Rattle.dex_handshake.specs.LineTable.{started}
use Rattle.dex_handshake.specs.LineRun.{LineEnd, EndStep, end_hears, end_quiets, fresh}

-- a frame on its way to an end
pub record Flight : Type 0 where
  pub to : Role
  pub frame : FrameShape

pub record Wire : Type 0 where
  pub supplier : LineEnd
  pub receiver : LineEnd
  pub flight : Option Flight

-- The frame in flight is delivered, or lost, or Damaged or Bad takes its place. While none is in flight, an end hears a Quiet.
pub data WireEvent : Type 0 where
  Deliver : WireEvent
  Lose : WireEvent
  Damage : WireEvent
  Spoil : WireEvent
  QuietAt : Role → WireEvent

-- what is said is then in flight to the other end
abbrev pub toward : Role → Option FrameShape → Option Flight
toward to None = None
toward to (Some frame) = Some (record { to = to; frame = frame })

-- an end of the wire has made this step, and nothing else is in flight
abbrev pub stepped : Role → Wire → EndStep → Wire
stepped Supplier wire step = record { supplier = step.end; receiver = wire.receiver; flight = toward Receiver step.say }
stepped Receiver wire step = record { supplier = wire.supplier; receiver = step.end; flight = toward Supplier step.say }

abbrev pub end_at : Role → Wire → LineEnd
end_at Supplier wire = wire.supplier
end_at Receiver wire = wire.receiver

abbrev pub delivers : Wire → Option Flight → Wire
delivers wire None = wire
delivers wire (Some flight) = stepped flight.to wire (end_hears (end_at flight.to wire) flight.frame)

abbrev pub in_place : Wire → Option Flight → FrameShape → Wire
in_place wire None frame = wire
in_place wire (Some flight) frame = record wire { flight = Some (record { to = flight.to; frame = frame }) }

abbrev pub silences : Wire → Option Flight → Role → Wire
silences wire None role = stepped role wire (end_quiets (end_at role wire))
silences wire (Some flight) role = wire

-- an event that cannot be changes nothing
abbrev pub wire_after : Wire → WireEvent → Wire
wire_after wire Deliver = delivers wire wire.flight
wire_after wire Lose = record wire { flight = None }
wire_after wire Damage = in_place wire wire.flight Damaged
wire_after wire Spoil = in_place wire wire.flight Bad
wire_after wire (QuietAt role) = silences wire wire.flight role

-- two ends that have heard nothing: the supplier has bid
abbrev pub first_wire : List ℕ → List ℕ → List ℕ → List ℕ → List (List ℕ) → List (List ℕ) → Wire
first_wire own peer its theirs texts others = record {
  supplier = fresh Supplier own peer texts;
  receiver = fresh Receiver its theirs others;
  flight = toward Receiver (started Supplier own peer).say;
}

-- the wire behind these events
abbrev pub wire_of : List ℕ → List ℕ → List ℕ → List ℕ → List (List ℕ) → List (List ℕ) → List WireEvent → Wire
wire_of own peer its theirs texts others events = fold wire_after (first_wire own peer its theirs texts others) events

-- the frames that are in flight, one after another, at these events
abbrev pub flying : Option Flight → List FrameShape
flying None = []
flying (Some flight) = flight.frame ∷ []

abbrev pub flights : Wire → List WireEvent → List FrameShape
flights wire [] = flying wire.flight
flights wire (event ∷ events) = flying wire.flight ++ flights (wire_after wire event) events
