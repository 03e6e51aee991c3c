-- A frame that is fed to an end whole is taken whole.
use Rattle.std.proofs.Common.{◌≡◌, ◌≢◌, ℕ, Bool, true, false, List, [], ◌++◌, length, map, Option, Some, sym, ◌∙◌, ap, subst}
use Rattle.std.specs.Prelude.{not}
use Rattle.dsd_values.specs.declared.role.Role.{Role}
use Rattle.dsd_record.specs.Choices.{Chooser}
use Rattle.dsd_station.specs.declared.feeding.Given.{Given}
use Rattle.dsd_station.specs.declared.feeding.Given.TheVariants as given
use Rattle.dsd_station.specs.Placed.{EachFedBy}
use Rattle.dsd_station.specs.Plans.{with_fed}
use Rattle.dsd_station.specs.Replayed.{State}
use Rattle.dsd_journal.specs.Headers.{IsHeader}
use Rattle.dsd_journal.specs.declared.header.Header.{Header}
use Rattle.dex_line.specs.FrameShapes.{FrameShape, Enq, Ack0, Ack1, Nak, Eot, Header as HeaderFrame, Block, Damaged, Bad}
use Rattle.dex_line.specs.FrameSpelling.{IsSpoken, spelling}
use Rattle.dsd_end.specs.Standings.{Standing, has_ended}
use Rattle.clean_sessions.specs.Feeding.{IsFed}
use Rattle.clean_sessions.proofs.FramesFed.{heard_once}
use Rattle.cable_world.specs.Diligence.{ComesBy}
use Rattle.cable_world.specs.Living.{CallSo}
use Rattle.cable_world.specs.Noted.{Noted, steps_of}
use Rattle.cable_world.specs.Obeying.{Hears, HearsIf, IsPolledOut}
use Rattle.cable_world.specs.Scenes.{Scene, Side, due, fed, sent_to, side}
use Rattle.cable_world.specs.Steps.{other}
use Rattle.clean_worlds.specs.WholeFrames.{Attends, GoWell, TakesFrame}
use Rattle.clean_worlds.proofs.FramesSaid.{same_frames}
use Rattle.clean_worlds.proofs.PolledOut.{PollsOut, polled_whole}
use Rattle.clean_worlds.proofs.SayableFrames.{once_says_on}
use Rattle.clean_worlds.proofs.Stepped.{bytes_due, bytes_fed, fed_other, fed_own, fed_waiting}

pub spelled_some : (frame : FrameShape) → IsSpoken frame → spelling frame ≢ []
spelled_some Enq spoken none = cc
spelled_some Ack0 spoken none = cc
spelled_some Ack1 spoken none = cc
spelled_some Nak spoken none = cc
spelled_some Eot spoken none = cc
spelled_some (HeaderFrame text) spoken none = cc
spelled_some (Block last text) spoken none = cc
spelled_some Damaged spoken none = absurd spoken
spelled_some Bad spoken none = absurd spoken

module _ (role : Role) (chooser : Chooser) (header : Header) (standing : Standing) (frame : FrameShape) (scene : Scene) (is : IsHeader header) (attends : Attends header standing (side scene role)) (goes : has_ended standing.line ≡ false) (spoken : IsSpoken frame) where
  abbrev what : Given
  what = given.Bytes (spelling frame)

  runs : (side scene role).runs ≡ true
  runs = attends.runs ∙ ap not goes

  -- it is polled out behind the feeding
  polls : (noted : List Noted) (state : State) (next : Scene) (last : Option Standing) → Hears role what scene (steps_of noted) next → ComesBy role chooser header state (Some standing) noted last
      → CallSo (steps_of noted) → GoWell noted → PollsOut role chooser standing (spelling frame) (fed scene role what) next last
  polls noted state next last hears comes calls well =
      let out : IsPolledOut role (fed scene role what) (steps_of noted) next = subst (λ (b : Bool). HearsIf b role what scene (steps_of noted) next) runs hears in
      let there : side (fed scene role what) role ≡ record (side scene role) { log = with_fed (side scene role).log what } = fed_own role scene what in
      polled_whole role chooser header frame spoken noted state standing (fed scene role what) next last (spelled_some frame spoken) attends.calm.none attends.calm.later goes
      (ap (λ (s : Side). s.runs) there ∙ runs)
      (subst (λ (s : Side). EachFedBy (length s.log.calls) s.log.plan.fed) (sym there) (bytes_fed (side scene role) what attends.fed))
      (ap due there ∙ bytes_due (side scene role) (spelling frame) attends.taken) out comes calls well

  pub takes_frame : (noted : List Noted) (state : State) (next : Scene) (last : Option Standing) → Hears role what scene (steps_of noted) next → ComesBy role chooser header state (Some standing) noted last
      → CallSo (steps_of noted) → GoWell noted → TakesFrame role chooser header standing frame scene next last
  takes_frame noted state next last hears comes calls well =
      let out = polls noted state next last hears comes calls well in
      let all : IsFed chooser standing frame out.pieces out.done = record { cut = out.cut; polls = out.polls } in
      let once = heard_once chooser frame spoken standing out.pieces out.done (record { calm = attends.calm; runs = goes }) all in
      let (on, calm) = once_says_on chooser header standing frame out.done is attends.sayable once in
      let same : out.frames ≡ out.done.said = same_frames out.frames out.done.said out.spoken on.spoken out.said in
      record {
        pieces = out.pieces;
        done = out.done;
        fed = all;
        stands = out.stands;
        attends = record {
          titled = on.titled ∙ attends.titled;
          calm = record { later = on.first ∙ attends.calm.later; none = calm };
          runs = out.runs;
          fed = out.fed;
          taken = out.taken;
          sayable = on.sayable;
        };
        spoken = on.spoken;
        waits =
            out.waits ∙ ap (λ (l : List (Role × List ℕ)). l ++ sent_to (other role) (map spelling out.frames)) (fed_waiting role scene what)
            ∙ ap (λ (l : List FrameShape). scene.waiting ++ sent_to (other role) (map spelling l)) same;
        apart = out.apart ∙ fed_other role scene what;
      }
