-- A frame that is fed to an end of a world whole, where no call fails.
use Rattle.std.specs.Prelude.{◌≡◌, ℕ, Bool, true, false, not, List, [], ◌∷◌, ◌++◌, length, map, Option, Some, ⊤}
use Rattle.dsd_values.specs.declared.role.Role.{Role}
use Rattle.dsd_record.specs.Choices.{Chooser}
use Rattle.dsd_station.specs.Failures.{failed_in}
use Rattle.dsd_station.specs.Placed.{EachFedBy}
use Rattle.dsd_journal.specs.declared.header.Header.{Header}
use Rattle.dex_line.specs.FrameShapes.{FrameShape}
use Rattle.dex_line.specs.FrameSpelling.{spelling}
use Rattle.dex_line.specs.Hearing.{AreSpoken}
use Rattle.dex_handshake.specs.Sound.{IsSayable}
use Rattle.dsd_end.specs.PollStep.{Done}
use Rattle.dsd_end.specs.Standings.{Standing, has_ended}
use Rattle.clean_sessions.specs.Feeding.{IsCalm, IsFed}
use Rattle.cable_world.specs.Noted.{Noted}
use Rattle.cable_world.specs.Scenes.{Scene, Side, due, sent_to, side}
use Rattle.cable_world.specs.Steps.{other}
use Rattle.cable_world.specs.declared.answer.Answer.{Answer}
use Rattle.cable_world.specs.declared.answer.Answer.TheVariants.{Broken, Ended, NotOpened, Opened, Running}

abbrev pub is_fault : Answer → Bool
is_fault Opened = false
is_fault (NotOpened fault) = true
is_fault Running = false
is_fault (Ended end) = false
is_fault (Broken fault) = true

-- The step answers no fault, and no call of it is refused, fails or stops.
pub record GoesWell (one : Noted) : Type 0 where
  pub answer : is_fault one.answer ≡ false
  pub calls : failed_in one.part ≡ 0

abbrev pub GoWell : List Noted → Type 0
GoWell [] = ⊤
GoWell (one ∷ noted) = GoesWell one × GoWell noted

-- An end that stands so at this side, between one frame and the next: it runs until its line has ended, its first poll was made, no frame has begun, all
-- that it was fed is taken, and what it has to say can be spelled.
pub record Attends (header : Header) (standing : Standing) (its : Side) : Type 0 where
  pub titled : standing.header ≡ header
  pub calm : IsCalm standing
  pub runs : its.runs ≡ not (has_ended standing.line)
  pub fed : EachFedBy (length its.log.calls) its.log.plan.fed
  pub taken : due its ≡ []
  pub sayable : IsSayable header.own standing.line

-- From one scene to the next this end was fed the frame, in pieces of 64 bytes and the rest; behind it the end attends again, and what it has said in these polls
-- waits for the other end, frame by frame.
pub record TakesFrame (role : Role) (chooser : Chooser) (header : Header) (standing : Standing) (frame : FrameShape) (scene next : Scene) (last : Option Standing) : Type 0 where
  pub pieces : List (List ℕ)
  pub done : Done
  pub fed : IsFed chooser standing frame pieces done
  pub stands : last ≡ Some done.standing
  pub attends : Attends header done.standing (side next role)
  pub spoken : AreSpoken done.said
  pub waits : next.waiting ≡ scene.waiting ++ sent_to (other role) (map spelling done.said)
  pub apart : side next (other role) ≡ side scene (other role)
