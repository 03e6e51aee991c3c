-- A run of the line at one end: what it says at what it hears, where its k-th own turn is given the k-th text.
use Rattle.std.specs.Prelude.{◌≡◌, ℕ, ◌+◌, Bool, nat_lt, if◌then◌else◌, List, [], ◌∷◌, ◌++◌, map, Option, Some, None}
use Rattle.std.specs.List.{fold}
use Rattle.dsd_values.specs.declared.role.Role.{Role}
use Rattle.dex_line.specs.BlockCut.{blocks_of}
use Rattle.dex_line.specs.FrameShapes.{FrameShape, Block}
use Rattle.dex_handshake.specs.LineTable.{Line, LineStep, InText, Finished, Ended, hears, quiets, unplugs, gives, turn_of, started, says_nothing}
use Rattle.dex_handshake.specs.declared.session_end.SessionEnd.{SessionEnd}

-- what an end hears of the line
pub data Heard : Type 0 where
  HeardFrame : FrameShape → Heard
  HeardQuiet : Heard
  HeardUnplugged : Heard

-- the load of a text: its blocks; a turn without a text has none
abbrev pub frame_of_block : List ℕ × Bool → FrameShape
frame_of_block block = Block block.1 block.0

abbrev pub load_of : List ℕ → List FrameShape
load_of text = map frame_of_block (blocks_of text)

-- the texts of an end's turns: those that wait for its own turns, those that it was given, those that it handed on, and the
-- frames that it has taken in the turn that it hears or has heard last
pub record Turns : Type 0 where
  pub waiting : List (List ℕ)
  pub given : List (List ℕ)
  pub handed : List (List ℕ)
  pub took : List FrameShape

-- an end of the line: its state and its turns
pub record LineEnd : Type 0 where
  pub line : Line
  pub turns : Turns

-- an end after one thing heard, and what it says at it
pub record EndStep : Type 0 where
  pub end : LineEnd
  pub say : Option FrameShape

-- the turns behind one more: the text heard is handed on, and this text is given
abbrev pub with_text : Turns → List ℕ → List ℕ → List (List ℕ) → Turns
with_text turns heard text more =
    record { waiting = more; given = turns.given ++ text ∷ []; handed = turns.handed ++ heard ∷ []; took = turns.took }

abbrev pub ended_step : Turns → LineStep → EndStep
ended_step turns step = record { end = record { line = step.next; turns = turns }; say = step.say }

-- where the own turn must be given, it is given the next text that waits
abbrev pub with_turn : Turns → LineStep → Line → List (List ℕ) → EndStep
with_turn turns step (Finished own heard) (text ∷ more) =
    ended_step (with_text turns heard text more) (gives (Finished own heard) (load_of text))
with_turn turns step line waiting = ended_step turns step

-- the frames taken in a turn, where a line has heard a frame and is then in the next state
abbrev pub took_after : List FrameShape → Line → FrameShape → Line → List FrameShape
took_after took (InText own old) frame (InText same new) = if nat_lt old.taken new.taken then took ++ frame ∷ [] else took
took_after took line frame (InText own new) = []
took_after took line frame next = took

-- a frame, at which the line makes this step
abbrev pub steps : LineEnd → FrameShape → LineStep → EndStep
steps end frame step =
    with_turn (record end.turns { took = took_after end.turns.took end.line frame step.next }) step step.next end.turns.waiting

abbrev pub end_hears : LineEnd → FrameShape → EndStep
end_hears end frame = steps end frame (hears end.line frame)

abbrev pub end_quiets : LineEnd → EndStep
end_quiets end = ended_step end.turns (quiets end.line)

abbrev pub end_step : LineEnd → Heard → EndStep
end_step end (HeardFrame frame) = end_hears end frame
end_step end HeardQuiet = end_quiets end
end_step end HeardUnplugged = ended_step end.turns (says_nothing (unplugs end.line))

-- ---- runs

abbrev pub end_of : Line → Option SessionEnd
end_of (Ended end) = Some end
end_of _ = None

abbrev pub said_of : Option FrameShape → List FrameShape
said_of None = []
said_of (Some frame) = frame ∷ []

-- an end, and all frames that it has said
pub record Run : Type 0 where
  pub end : LineEnd
  pub said : List FrameShape

abbrev pub run_step : Run → EndStep → Run
run_step run step = record { end = step.end; said = run.said ++ said_of step.say }

abbrev pub run_hears : Run → Heard → Run
run_hears run heard = run_step run (end_step run.end heard)

-- an end that has heard nothing, to which these texts will be given
abbrev pub fresh : Role → List ℕ → List ℕ → List (List ℕ) → LineEnd
fresh role own peer texts = record { line = (started role own peer).next; turns = record { waiting = texts; given = []; handed = []; took = [] } }

-- the run over what is heard
abbrev pub run_of : Role → List ℕ → List ℕ → List (List ℕ) → List Heard → Run
run_of role own peer texts heard =
    fold run_hears (record { end = fresh role own peer texts; said = said_of (started role own peer).say }) heard

-- what an end has said at what it has heard, and how its session has ended, where it has. Its k-th own turn was given
-- the k-th text, and these are all texts that it was given.
pub record Lined (role : Role) (own peer : List ℕ) (heard : List Heard) (texts : List (List ℕ)) (out : List FrameShape) (end : Option SessionEnd) : Type 0 where
  pub told : (run_of role own peer texts heard).said ≡ out
  pub over : end_of (run_of role own peer texts heard).end.line ≡ end
  pub all : (run_of role own peer texts heard).end.turns.waiting ≡ []
  pub given : (front back : List Heard) → heard ≡ front ++ back → turn_of (run_of role own peer texts front).end.line ≡ None
