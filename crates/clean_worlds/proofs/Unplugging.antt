-- Behind UNPLUG no end runs, where no call fails.
use Rattle.std.proofs.Common.{◌≡◌, ℕ, Bool, true, false, List, [], ◌∷◌, ◌++◌, length, map, Option, Some, refl, sym, ◌∙◌, ap, subst, append-nil}
use Rattle.std.specs.Prelude.{not}
use Rattle.dsd_values.specs.declared.role.Role.{Role}
use Rattle.dsd_record.specs.Choices.{Chooser}
use Rattle.dsd_station.specs.declared.call.Call.{Call}
use Rattle.dsd_station.specs.declared.call.Reception.{Reception}
use Rattle.dsd_station.specs.declared.call.Reception.TheVariants.{Cut}
use Rattle.dsd_station.specs.declared.feeding.Given.TheVariants as given
use Rattle.dsd_station.specs.ByPlan.{due_by}
use Rattle.dsd_station.specs.Heard.{answers_in}
use Rattle.dsd_station.specs.Placed.{EachFedBy}
use Rattle.dsd_station.specs.Planned.{Due, DueCut}
use Rattle.dsd_station.specs.Replayed.{State}
use Rattle.dsd_station.proofs.Planning.{due_by-fed}
use Rattle.dsd_journal.specs.declared.header.Header.{Header}
use Rattle.dsd_end.specs.PollStep.{Done, HearsUnless, Next, PollsAt, bytes_of}
use Rattle.dsd_end.specs.PollsHeard.{receptions_of}
use Rattle.dsd_end.specs.Standings.{Standing, has_ended}
use Rattle.dsd_end.proofs.LinedPolls.{cut_ends}
use Rattle.dex_line.specs.FrameShapes.{FrameShape}
use Rattle.dex_line.specs.FrameSpelling.{spelling}
use Rattle.cable_world.specs.Diligence.{ComesBy, FollowsIf, Steps}
use Rattle.cable_world.specs.Living.{AreCallsOf, CallSo}
use Rattle.cable_world.specs.Noted.{Noted, kind_of, step_of, steps_of}
use Rattle.cable_world.specs.Obeying.{Hears, HearsIf, IsPolledOut, Makes}
use Rattle.cable_world.specs.Scenes.{Scene, Side, due, fed, sent_to, side, stepped}
use Rattle.cable_world.specs.Steps.{Poll, StepKind, frames_in, other, same_role}
use Rattle.clean_worlds.specs.WholeFrames.{GoWell, GoesWell}
use Rattle.clean_worlds.specs.CleanBeginnings.{CanHear}
use Rattle.clean_worlds.proofs.FramesSaid.{part_says, same_frames}
use Rattle.clean_worlds.proofs.Pieces.{AreHeard, are_heard}
use Rattle.clean_worlds.proofs.PolledOnce.{follows_own, heard_some, polls_well}
use Rattle.clean_worlds.proofs.Stepped.{busy_runs, bytes_fed, fed_other, fed_own, fed_waiting, not_idle, stepped_other, stepped_own, stepped_waiting}

-- ---- a poll that hears that the cable is unplugged

-- it ends, and says nothing
pub record CutOff (done : Done) : Type 0 where
  pub ended : has_ended done.standing.line ≡ true
  pub silent : done.said ≡ []

cut_off : (ended : Bool) (chooser : Chooser) (standing : Standing) (done : Done) → has_ended standing.line ≡ ended → HearsUnless ended chooser standing Cut done → CutOff done
cut_off true chooser standing done over e = record { ended = ap (λ (d : Done). has_ended d.standing.line) e ∙ over; silent = ap (λ (d : Done). d.said) e }
cut_off false chooser standing done over e = record { ended = ap (λ (d : Done). has_ended d.standing.line) e ∙ cut_ends standing.line; silent = ap (λ (d : Done). d.said) e }

pub cut_polled : (chooser : Chooser) (standing : Standing) (part : List Call) (left : List Due) (done : Done) → standing.first ≡ false → AreHeard (answers_in part) (DueCut ∷ []) left → Steps chooser standing part done → CutOff done
cut_polled chooser standing part left done later are steps =
    let (one, heard) = heard_some standing.first chooser standing steps.heard done later steps.next.polls in
    let only : answers_in part ≡ one ∷ [] = steps.listened ∙ ap (λ (h : Option Reception). receptions_of (h ∷ [])) heard in
    let (is, rest) : AreHeard (one ∷ []) (DueCut ∷ []) left = subst (λ (l : List Reception). AreHeard l (DueCut ∷ []) left) only are in
    let cut : steps.heard ≡ Some Cut = heard ∙ ap Some is in
    let next : Next chooser standing (Some Cut) done = subst (λ (h : Option Reception). Next chooser standing h done) cut steps.next in
    cut_off (has_ended standing.line) chooser standing done refl (subst (λ (b : Bool). PollsAt b chooser standing (Some Cut) done) later next.polls)

-- ---- one end

-- it runs no more, nothing more waits, and the other end is as it was
pub record IsCut (role : Role) (scene next : Scene) : Type 0 where
  pub rests : (side next role).runs ≡ false
  pub waiting : next.waiting ≡ scene.waiting
  pub apart : side next (other role) ≡ side scene (other role)

-- one poll that is due this alone
pub cut_once : (role : Role) (chooser : Chooser) (header : Header) (state : State) (standing : Standing) (scene : Scene) (one : Noted) (after : Option Standing) → standing.first ≡ false
    → EachFedBy (length (side scene role).log.calls) (side scene role).log.plan.fed → due (side scene role) ≡ DueCut ∷ [] → Makes role Poll scene (step_of one)
    → AreCallsOf (kind_of one.answer) one.part → GoesWell one → FollowsIf (same_role role one.role) chooser header state one (Some standing) after → IsCut role scene (stepped scene (step_of one))
cut_once role chooser header state standing scene one after later fed some makes calls well follows =
    let its : Side = side scene role in
    let polls = polls_well chooser header _ one.answer one.part standing after makes.kind well.answer (follows_own role chooser header state one (Some standing) after makes.role follows) in
    let left : List Due = due_by its.log.plan.fed (its.log.calls ++ one.part) in
    let are : AreHeard (answers_in one.part) (DueCut ∷ []) left = subst (λ (l : List Due). AreHeard (answers_in one.part) l left) some (are_heard its.log.plan its.log.calls one.part fed makes.answers) in
    let off = cut_polled chooser standing one.part left polls.done later are polls.steps in
    let says = part_says one.part (subst (λ (k : StepKind). AreCallsOf k one.part) makes.kind calls) well.calls in
    let none : says.frames ≡ [] = same_frames says.frames [] says.spoken tt (sym says.bytes ∙ polls.steps.said ∙ ap (λ (l : List FrameShape). bytes_of (record { standing = standing; said = l; loads = [] })) off.silent) in
    let silent : frames_in one.part ≡ [] = says.each ∙ ap (map spelling) none in
    record {
      rests = ap (λ (s : Side). s.runs) (stepped_own role scene (step_of one) makes.role) ∙ polls.runs ∙ ap not off.ended;
      waiting = stepped_waiting role scene (step_of one) makes.role ∙ ap (λ (l : List (List ℕ)). scene.waiting ++ sent_to (other role) l) silent ∙ append-nil scene.waiting;
      apart = stepped_other role scene (step_of one) makes.role;
    }

cut_out : (role : Role) (chooser : Chooser) (header : Header) (noted : List Noted) (state : State) (standing : Standing) (scene next : Scene) (last : Option Standing) → standing.first ≡ false
    → (side scene role).runs ≡ true → EachFedBy (length (side scene role).log.calls) (side scene role).log.plan.fed → due (side scene role) ≡ DueCut ∷ [] → IsPolledOut role scene (steps_of noted) next
    → ComesBy role chooser header state (Some standing) noted last → CallSo (steps_of noted) → GoWell noted → IsCut role scene next
cut_out role chooser header [] state standing scene next last later on fed some out comes calls well = absurd (not_idle (side scene role) DueCut [] on some out.0)
cut_out role chooser header (one ∷ noted) state standing scene next last later on fed some (busy, makes, out) (mid, follows, comes) calls well =
    let cut = cut_once role chooser header state standing scene one mid later fed some makes calls.0 well.0 follows in
    by noted out cut
  where
    by : (noted : List Noted) → IsPolledOut role (stepped scene (step_of one)) (steps_of noted) next → IsCut role scene (stepped scene (step_of one)) → IsCut role scene next
    by [] out cut = subst (IsCut role scene) (sym out.1) cut
    by (more ∷ noted) out cut = let runs = busy_runs (side (stepped scene (step_of one)) role) out.0 in let rests = cut.rests in absurd (cc)

pub cut_end : (role : Role) (chooser : Chooser) (header : Header) (noted : List Noted) (state : State) (scene next : Scene) (before last : Option Standing)
    → ((side scene role).runs ≡ true → (now : Standing) × (before ≡ Some now) × CanHear now (side scene role)) → Hears role given.Unplugged scene (steps_of noted) next
    → ComesBy role chooser header state before noted last → CallSo (steps_of noted) → GoWell noted → IsCut role scene next
cut_end role chooser header noted state scene next before last hear hears comes calls well = by (side scene role).runs refl hears
  where
    behind : (now : Standing) → before ≡ Some now → CanHear now (side scene role) → (side scene role).runs ≡ true → IsPolledOut role (fed scene role given.Unplugged) (steps_of noted) next → IsCut role scene next
    behind now is can on out =
        let there = fed_own role scene given.Unplugged in
        let cut = cut_out role chooser header noted state now (fed scene role given.Unplugged) next last can.later (ap (λ (s : Side). s.runs) there ∙ on)
        (subst (λ (s : Side). EachFedBy (length s.log.calls) s.log.plan.fed) (sym there) (bytes_fed (side scene role) given.Unplugged can.fed))
        (ap due there ∙ due_by-fed (side scene role).log.plan.fed (record { given = given.Unplugged; at = length (side scene role).log.calls }) (side scene role).log.calls refl ∙ ap (λ (l : List Due). l ++ DueCut ∷ []) can.taken)
        out (subst (λ (s : Option Standing). ComesBy role chooser header state s noted last) is comes) calls well in
        record { rests = cut.rests; waiting = cut.waiting ∙ fed_waiting role scene given.Unplugged; apart = cut.apart ∙ fed_other role scene given.Unplugged }

    by : (runs : Bool) → (side scene role).runs ≡ runs → HearsIf runs role given.Unplugged scene (steps_of noted) next → IsCut role scene next
    by true on out = let (now, is, can) = hear on in behind now is can on out
    by false off (none, same) = subst (IsCut role scene) (sym same) (record { rests = off; waiting = refl; apart = refl })
