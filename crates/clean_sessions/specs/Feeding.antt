-- A frame that is fed to an end whole: its bytes are heard 64 at a time, and then the rest.
use Rattle.std.specs.Prelude.{◌≡◌, ◌≢◌, ℕ, false, List, [], ◌∷◌, take, drop, length, map, Option, Some}
use Rattle.dex_line.specs.FrameShapes.{FrameShape}
use Rattle.dex_line.specs.FrameSpelling.{spelling}
use Rattle.dsd_record.specs.Choices.{Chooser}
use Rattle.dsd_station.specs.declared.call.Reception.{Reception}
use Rattle.dsd_station.specs.declared.call.Reception.TheVariants.{Piece}
use Rattle.dsd_end.specs.PollStep.{Along, Done, HearsFrame, behind_piece}
use Rattle.dsd_end.specs.Standings.{Standing, has_ended}

-- pieces of these bytes, each as large as one listen can hear
abbrev pub AreFed : List ℕ → List (List ℕ) → Type 0
AreFed bytes [] = bytes ≡ []
AreFed bytes (piece ∷ pieces) = (bytes ≢ []) × (piece ≡ take 64 bytes) × AreFed (drop 64 bytes) pieces

-- what so many polls hear
abbrev pub heard_each : List (List ℕ) → List (Option Reception)
heard_each pieces = map (λ (piece : List ℕ). Some (Piece piece)) pieces

-- an end whose first poll is not still to come, and to which no frame has begun
pub record IsCalm (standing : Standing) : Type 0 where
  pub later : standing.first ≡ false
  pub none : standing.begun ≡ []

-- the same of one that runs
pub record IsListening (standing : Standing) : Type 0 where
  pub calm : IsCalm standing
  pub runs : has_ended standing.line ≡ false

-- the bytes of a frame are counted, and no other has begun behind it
abbrev pub counted : ℕ → Done → Done
counted size done = record done { standing = behind_piece done.standing size [] }

-- The frame is heard once, as the table and the own turn behind it have it, and its bytes are counted.
pub record HearsOnce (chooser : Chooser) (standing : Standing) (frame : FrameShape) (done : Done) : Type 0 where
  pub turn : Done
  pub hears : HearsFrame chooser standing frame turn
  pub whole : done ≡ counted (length (spelling frame)) turn

-- An end is fed a frame: these are its polls, and what it has done behind them.
pub record IsFed (chooser : Chooser) (standing : Standing) (frame : FrameShape) (pieces : List (List ℕ)) (done : Done) : Type 0 where
  pub cut : AreFed (spelling frame) pieces
  pub polls : Along chooser standing (heard_each pieces) done
