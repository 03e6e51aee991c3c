-- What a contract sees of a frame: its kind, with the list of its text.
use Rattle.std.specs.Prelude.{ℕ, Bool, List, [], ◌∷◌, Option, Some, None}
use Rattle.dex_line.specs.declared.frame.Frame.{Frame}
use Rattle.dex_line.specs.declared.frame.Frame.TheVariants as frames
use Rattle.dex_line.specs.declared.lent.Captured.{Captured}
use Rattle.dex_line.specs.declared.lent.Captured.TheVariants as lent

-- A block tells besides whether it is the last of its text. Damaged is a header or block whose check is another one,
-- and Bad is what is no frame.
pub data FrameShape : Type 0 where
  Enq : FrameShape
  Ack0 : FrameShape
  Ack1 : FrameShape
  Nak : FrameShape
  Eot : FrameShape
  Header : List ℕ → FrameShape
  Block : Bool → List ℕ → FrameShape
  Damaged : FrameShape
  Bad : FrameShape

abbrev pub frame_seen : Frame → FrameShape
frame_seen frames.Enq = Enq
frame_seen frames.Ack0 = Ack0
frame_seen frames.Ack1 = Ack1
frame_seen frames.Nak = Nak
frame_seen frames.Eot = Eot
frame_seen (frames.Header text) = Header text.items
frame_seen (frames.Block last text) = Block last text.items
frame_seen frames.Damaged = Damaged
frame_seen frames.Bad = Bad

-- a frame that is lent out of captured bytes
abbrev pub captured_seen : Captured → FrameShape
captured_seen lent.Enq = Enq
captured_seen lent.Ack0 = Ack0
captured_seen lent.Ack1 = Ack1
captured_seen lent.Nak = Nak
captured_seen lent.Eot = Eot
captured_seen (lent.Header text) = Header text.now
captured_seen (lent.Block last text) = Block last text.now
captured_seen lent.Damaged = Damaged
captured_seen lent.Bad = Bad

-- an answer of the scanner
abbrev pub answer_seen : Option Frame → Option FrameShape
answer_seen None = None
answer_seen (Some frame) = Some (frame_seen frame)

-- the same as a list
abbrev pub shapes_seen : Option Frame → List FrameShape
shapes_seen None = []
shapes_seen (Some frame) = frame_seen frame ∷ []
