-- A round of CLEAN with one waiting frame is a step of the hall.
use Rattle.std.proofs.Common.{◌≡◌, ℕ, Bool, true, false, List, [], ◌∷◌, length, map, Option, Some, refl, sym, ◌∙◌, ap, subst}
use Rattle.dsd_values.specs.declared.role.Role.{Role}
use Rattle.dsd_values.specs.declared.role.Role.TheVariants.{Receiver, Supplier}
use Rattle.dsd_record.specs.Choices.{Chooser}
use Rattle.dsd_station.specs.declared.feeding.Given.{Given}
use Rattle.dsd_station.specs.declared.feeding.Given.TheVariants as given
use Rattle.dsd_station.specs.Replayed.{State}
use Rattle.dsd_journal.specs.Headers.{IsHeader}
use Rattle.dsd_journal.specs.declared.header.Header.{Header}
use Rattle.dex_line.specs.FrameShapes.{FrameShape}
use Rattle.dex_line.specs.FrameSpelling.{spelling}
use Rattle.dex_line.specs.Hearing.{AreSpoken}
use Rattle.dsd_end.specs.Standings.{Standing, has_ended}
use Rattle.clean_sessions.specs.Feeding.{IsFed}
use Rattle.clean_sessions.specs.Halls.{Hall, polled}
use Rattle.cable_world.specs.Diligence.{ComesBy, FollowsIf}
use Rattle.cable_world.specs.Leaving.{behind_if}
use Rattle.cable_world.specs.Living.{CallSo}
use Rattle.cable_world.specs.Noted.{Noted, step_of, steps_of}
use Rattle.cable_world.specs.Obeying.{DeliversOf, Hears, HearsIf, IsPolledOut, IsRound, IsRoundOf, unchanged}
use Rattle.cable_world.specs.Scenes.{Scene, fed, sent_to, side, stepped, with_waiting}
use Rattle.cable_world.specs.Steps.{WorldStep, other, same_role}
use Rattle.clean_worlds.specs.WholeFrames.{Attends, GoWell, TakesFrame}
use Rattle.clean_worlds.specs.WorldHalls.{BothCome, IsCleanRound, ShowsHall}
use Rattle.clean_worlds.proofs.FrameTaken.{takes_frame}

-- ---- the other end

pub apart_roles : (near far : Role) → other near ≡ far → same_role far near ≡ false
apart_roles near far is = ap (λ (r : Role). same_role r near) (sym is) ∙ by near
  where
    by : (role : Role) → same_role (other role) role ≡ false
    by Supplier = refl
    by Receiver = refl

pub follows_other : (role : Role) (chooser : Chooser) (header : Header) (state : State) (one : Noted) (by : Role) (before after : Option Standing) → one.role ≡ by → same_role role by ≡ false
    → FollowsIf (same_role role one.role) chooser header state one before after → after ≡ before
follows_other role chooser header state one by before after is not follows =
    subst (λ (b : Bool). FollowsIf b chooser header state one before after) (ap (same_role role) is ∙ not) follows

-- it makes no step while this one is polled out
pub polled_apart : (role far : Role) (chooser : Chooser) (header : Header) → same_role far role ≡ false → (noted : List Noted) (state : State) (scene next : Scene) (before after : Option Standing)
    → IsPolledOut role scene (steps_of noted) next → ComesBy far chooser header state before noted after → after ≡ before
polled_apart role far chooser header not [] state scene next before after out comes = comes
polled_apart role far chooser header not (one ∷ noted) state scene next before after (busy, makes, out) (mid, follows, comes) =
    polled_apart role far chooser header not noted (behind_if (same_role far one.role) state (step_of one)) (stepped scene (step_of one)) next mid after out comes
    ∙ follows_other far chooser header state one role before mid makes.role not follows

pub hears_apart : (runs : Bool) (role far : Role) (chooser : Chooser) (header : Header) → same_role far role ≡ false → (what : Given) (noted : List Noted) (state : State) (scene next : Scene) (before after : Option Standing)
    → HearsIf runs role what scene (steps_of noted) next → ComesBy far chooser header state before noted after → after ≡ before
hears_apart true role far chooser header not what noted state scene next before after hears comes = polled_apart role far chooser header not noted state (fed scene role what) next before after hears comes
hears_apart false role far chooser header not what [] state scene next before after hears comes = comes
hears_apart false role far chooser header not what (one ∷ noted) state scene next before after hears comes = let no = hears.0 in absurd (cc)

-- ---- the round

pub waits_not : (role : Role) (scene : Scene) (waiting : List (Role × List ℕ)) → side (with_waiting scene waiting) role ≡ side scene role
waits_not Supplier scene waiting = refl
waits_not Receiver scene waiting = refl

-- the one frame is heard by its end, and none waits any more
pub round_hears : (near : Role) (frame : FrameShape) (scene next : Scene) (made : List WorldStep) → scene.waiting ≡ (near, spelling frame) ∷ [] → IsRound scene made next
    → Hears near (given.Bytes (spelling frame)) (with_waiting scene []) made next
round_hears near frame scene next made waits round =
    let delivers = subst (λ (l : List (Role × List ℕ)). IsRoundOf l scene made next) waits round in
    subst (λ (l : List (Role × List ℕ)). DeliversOf l unchanged scene made next) waits delivers

module _ (chooser : Role → Chooser) (header : Role → Header) (is : (role : Role) → IsHeader (header role)) (near far : Role) (hall : Hall) (scene : Scene) (standing : Role → Option Standing)
    (shows : ShowsHall chooser header near far hall scene standing) (frame : FrameShape) (flight : hall.flight ≡ frame ∷ []) (goes : has_ended hall.near.standing.line ≡ false) where
  pub one_waits : scene.waiting ≡ (near, spelling frame) ∷ []
  one_waits = shows.waiting ∙ ap (λ (l : List FrameShape). sent_to near (map spelling l)) flight

  step_behind : (next : Scene) (last : Role → Option Standing) → TakesFrame near (chooser near) (header near) hall.near.standing frame (with_waiting scene []) next (last near) → last far ≡ standing far
      → IsCleanRound chooser header near far hall next last
  step_behind next last taken rests = record {
    new = record { near = hall.far; far = polled hall.near (length taken.pieces) taken.done.standing; flight = taken.done.said };
    step = record {
      frame = frame;
      pieces = taken.pieces;
      done = taken.done;
      flight = flight;
      fed = subst (λ (c : Chooser). IsFed c hall.near.standing frame taken.pieces taken.done) (sym shows.choosers.0) taken.fed;
      next = refl;
    };
    shows = record {
      roles = (shows.roles.1, shows.roles.0);
      choosers = (shows.choosers.1, shows.choosers.0);
      near_attends = subst (Attends (header far) hall.far.standing) (sym far_side) shows.far_attends;
      far_attends = taken.attends;
      near_stands = rests ∙ shows.far_stands;
      far_stands = taken.stands;
      waiting = taken.waits ∙ ap (λ (r : Role). sent_to r (map spelling taken.done.said)) shows.roles.0;
      spoken = taken.spoken;
    };
  }
    where
      far_side : side next far ≡ side scene far
      far_side = ap (side next) (sym shows.roles.0) ∙ taken.apart ∙ ap (side (with_waiting scene [])) shows.roles.0 ∙ waits_not far scene []

  pub round_clean : (state : Role → State) (noted : List Noted) (next : Scene) (last : Role → Option Standing) → IsRound scene (steps_of noted) next → BothCome chooser header state standing noted last
      → CallSo (steps_of noted) → GoWell noted → IsCleanRound chooser header near far hall next last
  round_clean state noted next last round come calls well =
      let bare : Scene = with_waiting scene [] in
      let hears = round_hears near frame scene next (steps_of noted) one_waits round in
      let spoken = (subst AreSpoken flight shows.spoken).0 in
      let attends : Attends (header near) hall.near.standing (side bare near) = subst (Attends (header near) hall.near.standing) (sym (waits_not near scene [])) shows.near_attends in
      let comes : ComesBy near (chooser near) (header near) (state near) (Some hall.near.standing) noted (last near) =
      subst (λ (s : Option Standing). ComesBy near (chooser near) (header near) (state near) s noted (last near)) shows.near_stands (come near) in
      step_behind next last (takes_frame near (chooser near) (header near) hall.near.standing frame bare (is near) attends goes spoken noted (state near) next (last near) hears comes calls well)
      (hears_apart (side bare near).runs near far (chooser far) (header far) (apart_roles near far shows.roles.0) (given.Bytes (spelling frame)) noted (state far) bare next (standing far) (last far) hears (come far))
