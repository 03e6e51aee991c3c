-- An end that is opened, and the first poll of a handheld, where no call fails.
use Rattle.std.proofs.Common.{◌≡◌, ℕ, Bool, true, false, List, [], ◌∷◌, ◌++◌, length, map, Option, Some, None, refl, sym, ◌∙◌, ap, subst, append-nil}
use Rattle.std.specs.Prelude.{not}
use Rattle.dsd_values.specs.declared.role.Role.{Role}
use Rattle.dsd_values.specs.declared.role.Role.TheVariants.{Receiver, Supplier}
use Rattle.dsd_record.specs.Choices.{Chooser}
use Rattle.dsd_station.specs.declared.call.Call.{Call}
use Rattle.dsd_station.specs.declared.call.Call.TheVariants.{Attach, Size, Read, Write, Sync, Listen, Speak, Restart}
use Rattle.dsd_station.specs.declared.call.Reception.{Reception}
use Rattle.dsd_station.specs.ByPlan.{due_by}
use Rattle.dsd_station.specs.Failures.{failed_in}
use Rattle.dsd_station.specs.Heard.{answers_in}
use Rattle.dsd_station.specs.Logged.{Log}
use Rattle.dsd_station.specs.Placed.{EachFedBy}
use Rattle.dsd_station.specs.Planned.{Due}
use Rattle.dsd_station.specs.Plans.{after_restart}
use Rattle.dsd_station.specs.Replayed.{State, state_of}
use Rattle.dsd_station.proofs.Planning.{due_by_none}
use Rattle.dsd_journal.specs.JournalImage.{Holds}
use Rattle.dsd_journal.specs.declared.entry.Entry.{Entry}
use Rattle.dsd_journal.specs.declared.header.Header.{Header}
use Rattle.dex_line.specs.FrameShapes.{Enq}
use Rattle.dex_line.specs.FrameSpelling.{spelling}
use Rattle.dsd_end.specs.PollStep.{Done, PollsAt, begins, bytes_of}
use Rattle.dsd_end.specs.PollsHeard.{receptions_of}
use Rattle.dsd_end.specs.Standings.{Standing, first_standing, has_ended}
use Rattle.cable_world.specs.Diligence.{Follows, FollowsIf}
use Rattle.cable_world.specs.Leaving.{state_behind}
use Rattle.cable_world.specs.Living.{AreCallsOf, is_opening}
use Rattle.cable_world.specs.Noted.{Noted, kind_of, runs_by, step_of}
use Rattle.cable_world.specs.Obeying.{Makes}
use Rattle.cable_world.specs.Scenes.{Scene, Side, due, restarted, sent_to, side, side_stepped, stepped}
use Rattle.cable_world.specs.Steps.{Opening, Poll, StepKind, frames_in, other, same_role}
use Rattle.cable_world.proofs.Unarmed.{left_restarted}
use Rattle.cable_world.specs.declared.answer.Answer.{Answer}
use Rattle.cable_world.specs.declared.answer.Answer.TheVariants as answers
use Rattle.clean_worlds.specs.WholeFrames.{GoesWell, is_fault}
use Rattle.clean_worlds.proofs.FramesSaid.{part_says, same_frames}
use Rattle.clean_worlds.proofs.Pieces.{AreHeard, are_heard}
use Rattle.clean_worlds.proofs.PolledOnce.{follows_own, polls_well}
use Rattle.clean_worlds.proofs.Stepped.{played_due, played_fed, stepped_other, stepped_own, stepped_waiting, works_played}

-- ---- a station that restarts

pub restarted_own : (role : Role) (scene : Scene) → side (restarted scene role) role ≡ record (side scene role) { log = after_restart (side scene role).log }
restarted_own Supplier scene = refl
restarted_own Receiver scene = refl

pub restarted_other : (role : Role) (scene : Scene) → side (restarted scene role) (other role) ≡ side scene (other role)
restarted_other Supplier scene = refl
restarted_other Receiver scene = refl

restarted_waiting : (role : Role) (scene : Scene) → (restarted scene role).waiting ≡ scene.waiting
restarted_waiting Supplier scene = refl
restarted_waiting Receiver scene = refl

-- ---- an opening

opening_silent : (part : List Call) → AreCallsOf Opening part → frames_in part ≡ []
opening_silent [] may = refl
opening_silent (Attach journal port answer ∷ part) may = absurd may.0
opening_silent (Size answer ∷ part) may = opening_silent part may.1
opening_silent (Read at room answer ∷ part) may = opening_silent part may.1
opening_silent (Write at bytes outcome ∷ part) may = absurd may.0
opening_silent (Sync outcome ∷ part) may = opening_silent part may.1
opening_silent (Listen answer ∷ part) may = absurd may.0
opening_silent (Speak bytes outcome ∷ part) may = absurd may.0
opening_silent (Restart ∷ part) may = absurd may.0

-- it has answered Ok
record Opens (header : Header) (journal : List ℕ) (answer : Answer) (part : List Call) (after : Option Standing) : Type 0 where
  entries : List Entry
  holds : Holds header entries journal
  stands : after ≡ Some (first_standing header entries)
  runs : runs_by answer ≡ true
  fine : failed_in part ≡ 0

opens : (chooser : Chooser) (header : Header) (journal : List ℕ) (answer : Answer) (part : List Call) (before after : Option Standing) → kind_of answer ≡ Opening → is_fault answer ≡ false
    → Follows chooser header journal answer part before after → Opens header journal answer part after
opens chooser header journal answers.Opened part before after kind fine (entries, holds, stands, calls) = record { entries = entries; holds = holds; stands = stands; runs = refl; fine = calls }
opens chooser header journal (answers.NotOpened fault) part before after kind fine follows = absurd (cc)
opens chooser header journal answers.Running part before after kind fine follows = let no : false ≡ true = ap is_opening kind in absurd (cc)
opens chooser header journal (answers.Ended end) part before after kind fine follows = let no : false ≡ true = ap is_opening kind in absurd (cc)
opens chooser header journal (answers.Broken fault) part before after kind fine follows = let no : false ≡ true = ap is_opening kind in absurd (cc)

-- Where it runs then, the end stands first over the entries that its journal holds, and nothing is due to it. The other end is as it was.
pub record Leaves (role : Role) (header : Header) (journal : List ℕ) (scene new : Scene) (after : Option Standing) : Type 0 where
  pub entries : List Entry
  pub holds : Holds header entries journal
  pub stands : after ≡ Some (first_standing header entries)
  pub runs : (side new role).runs ≡ true
  pub fed : EachFedBy (length (side new role).log.calls) (side new role).log.plan.fed
  pub taken : due (side new role) ≡ []
  pub works : (state_of (side new role).log.calls).left ≡ None
  pub apart : side new (other role) ≡ side scene (other role)

opened_side : (role : Role) (scene : Scene) (one : Noted) → (step_of one).role ≡ role
    → side (stepped (restarted scene role) (step_of one)) role ≡ side_stepped (record (side scene role) { log = after_restart (side scene role).log }) (step_of one)
opened_side role scene one own = stepped_own role (restarted scene role) (step_of one) own ∙ ap (λ (s : Side). side_stepped s (step_of one)) (restarted_own role scene)

pub opened_apart : (role : Role) (scene : Scene) (one : Noted) → (step_of one).role ≡ role → side (stepped (restarted scene role) (step_of one)) (other role) ≡ side scene (other role)
opened_apart role scene one own = stepped_other role (restarted scene role) (step_of one) own ∙ restarted_other role scene

pub opens_so : (role : Role) (chooser : Chooser) (header : Header) (state : State) (scene : Scene) (one : Noted) (before after : Option Standing) → Makes role Opening (restarted scene role) (step_of one)
    → is_fault one.answer ≡ false → FollowsIf (same_role role one.role) chooser header state one before after
    → Leaves role header (state_behind state (step_of one)).journal scene (stepped (restarted scene role) (step_of one)) after
opens_so role chooser header state scene one before after makes fine follows =
    let log : Log = after_restart (side scene role).log in
    let o = opens chooser header (state_behind state (step_of one)).journal one.answer one.part before after makes.kind fine (follows_own role chooser header state one before after makes.role follows) in
    let now = opened_side role scene one makes.role in
    record {
      entries = o.entries;
      holds = o.holds;
      stands = o.stands;
      runs = ap (λ (s : Side). s.runs) now ∙ o.runs;
      fed = subst (λ (s : Side). EachFedBy (length s.log.calls) s.log.plan.fed) (sym now) (played_fed log one.part tt);
      taken = ap due now ∙ played_due log one.part ∙ sym (due_by_none (log.calls ++ one.part));
      works = subst (λ (s : Side). (state_of s.log.calls).left ≡ None) (sym now) (works_played log one.part (left_restarted (side scene role).log) o.fine);
      apart = opened_apart role scene one makes.role;
    }

-- an opening that runs then has answered Ok
pub runs_well : (role : Role) (scene : Scene) (one : Noted) → Makes role Opening (restarted scene role) (step_of one) → (side (stepped (restarted scene role) (step_of one)) role).runs ≡ true → is_fault one.answer ≡ false
runs_well role scene one makes on = by one.answer makes.kind (ap (λ (s : Side). s.runs) (sym (opened_side role scene one makes.role)) ∙ on)
  where
    by : (answer : Answer) → kind_of answer ≡ Opening → runs_by answer ≡ true → is_fault answer ≡ false
    by answers.Opened kind on = refl
    by (answers.NotOpened fault) kind on = absurd (cc)
    by answers.Running kind on = refl
    by (answers.Ended end) kind on = refl
    by (answers.Broken fault) kind on = absurd (cc)

-- and nothing more waits
pub record OpensWell (role : Role) (header : Header) (journal : List ℕ) (scene new : Scene) (after : Option Standing) : Type 0 where
  pub leaves : Leaves role header journal scene new after
  pub waiting : new.waiting ≡ scene.waiting

pub opens_well : (role : Role) (chooser : Chooser) (header : Header) (state : State) (scene : Scene) (one : Noted) (before after : Option Standing) → Makes role Opening (restarted scene role) (step_of one)
    → AreCallsOf (kind_of one.answer) one.part → GoesWell one → FollowsIf (same_role role one.role) chooser header state one before after
    → OpensWell role header (state_behind state (step_of one)).journal scene (stepped (restarted scene role) (step_of one)) after
opens_well role chooser header state scene one before after makes calls well follows =
    let silent : frames_in one.part ≡ [] = opening_silent one.part (subst (λ (k : StepKind). AreCallsOf k one.part) makes.kind calls) in
    record {
      leaves = opens_so role chooser header state scene one before after makes well.answer follows;
      waiting =
          stepped_waiting role (restarted scene role) (step_of one) makes.role ∙ ap (λ (l : List (List ℕ)). (restarted scene role).waiting ++ sent_to (other role) l) silent
          ∙ append-nil (restarted scene role).waiting ∙ restarted_waiting role scene;
    }

-- ---- the first poll

pub polls_first : (first : Bool) (chooser : Chooser) (standing : Standing) (heard : Option Reception) (done : Done) → first ≡ true → PollsAt first chooser standing heard done → (heard ≡ None) × (done ≡ begins standing)
polls_first true chooser standing None done is polls = (refl, polls)
polls_first true chooser standing (Some heard) done is polls = absurd polls
polls_first false chooser standing heard done is polls = absurd (cc)

-- its Enq waits for the other end
pub record Begins (role : Role) (standing : Standing) (scene new : Scene) (after : Option Standing) : Type 0 where
  pub stands : after ≡ Some (begins standing).standing
  pub runs : (side new role).runs ≡ not (has_ended standing.line)
  pub fed : EachFedBy (length (side new role).log.calls) (side new role).log.plan.fed
  pub taken : due (side new role) ≡ []
  pub waiting : new.waiting ≡ scene.waiting ++ (other role, spelling Enq) ∷ []
  pub apart : side new (other role) ≡ side scene (other role)

pub begins_well : (role : Role) (chooser : Chooser) (header : Header) (state : State) (standing : Standing) (scene : Scene) (one : Noted) (after : Option Standing) → standing.first ≡ true
    → EachFedBy (length (side scene role).log.calls) (side scene role).log.plan.fed → due (side scene role) ≡ [] → Makes role Poll scene (step_of one) → AreCallsOf (kind_of one.answer) one.part → GoesWell one
    → FollowsIf (same_role role one.role) chooser header state one (Some standing) after → Begins role standing scene (stepped scene (step_of one)) after
begins_well role chooser header state standing scene one after first fed none makes calls well follows =
    let its : Side = side scene role in
    let polls = polls_well chooser header _ one.answer one.part standing after makes.kind well.answer (follows_own role chooser header state one (Some standing) after makes.role follows) in
    let (deaf, done) = polls_first standing.first chooser standing polls.steps.heard polls.done first polls.steps.next.polls in
    let says = part_says one.part (subst (λ (k : StepKind). AreCallsOf k one.part) makes.kind calls) well.calls in
    let enq : says.frames ≡ Enq ∷ [] = same_frames says.frames (Enq ∷ []) says.spoken (tt, tt) (sym says.bytes ∙ polls.steps.said ∙ ap (λ (d : Done). bytes_of d) done) in
    let left : List Due = due_by its.log.plan.fed (its.log.calls ++ one.part) in
    let nothing : answers_in one.part ≡ [] = polls.steps.listened ∙ ap (λ (h : Option Reception). receptions_of (h ∷ [])) deaf in
    let still : left ≡ [] = subst (λ (l : List Reception). AreHeard l (due its) left) nothing (are_heard its.log.plan its.log.calls one.part fed makes.answers) ∙ none in
    let now : side (stepped scene (step_of one)) role ≡ side_stepped its (step_of one) = stepped_own role scene (step_of one) makes.role in
    record {
      stands = polls.stands ∙ ap (λ (d : Done). Some d.standing) done;
      runs = ap (λ (s : Side). s.runs) now ∙ polls.runs ∙ ap (λ (d : Done). not (has_ended d.standing.line)) done;
      fed = subst (λ (s : Side). EachFedBy (length s.log.calls) s.log.plan.fed) (sym now) (played_fed its.log one.part fed);
      taken = ap due now ∙ played_due its.log one.part ∙ still;
      waiting =
          stepped_waiting role scene (step_of one) makes.role ∙ ap (λ (l : List (List ℕ)). scene.waiting ++ sent_to (other role) l) (says.each ∙ ap (map spelling) enq);
      apart = stepped_other role scene (step_of one) makes.role;
    }
