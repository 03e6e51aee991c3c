-- One poll of an end that is due bytes, where no call fails.
use Rattle.std.proofs.Common.{◌≡◌, ℕ, Bool, true, false, List, [], ◌∷◌, ◌++◌, length, take, drop, map, Option, Some, None, refl, sym, ◌∙◌, ap, subst}
use Rattle.std.specs.Prelude.{not}
use Rattle.std.specs.List.{flat_map}
use Rattle.dsd_values.specs.declared.role.Role.{Role}
use Rattle.dsd_values.specs.declared.role.Role.TheVariants.{Receiver, Supplier}
use Rattle.dsd_record.specs.Choices.{Chooser}
use Rattle.dsd_station.specs.declared.call.Call.{Call}
use Rattle.dsd_station.specs.declared.call.Reception.{Reception}
use Rattle.dsd_station.specs.declared.call.Reception.TheVariants.{Piece}
use Rattle.dsd_station.specs.ByPlan.{due_by}
use Rattle.dsd_station.specs.Heard.{answers_in}
use Rattle.dsd_station.specs.Placed.{EachFedBy}
use Rattle.dsd_station.specs.Planned.{Due, DueByte}
use Rattle.dsd_station.specs.Replayed.{State}
use Rattle.dsd_journal.specs.declared.header.Header.{Header}
use Rattle.dex_line.specs.FrameShapes.{FrameShape}
use Rattle.dex_line.specs.FrameSpelling.{spelling}
use Rattle.dex_line.specs.Hearing.{AreSpoken}
use Rattle.dex_handshake.specs.LineTable.{Line, Ready, Bidding, Awaiting, SentAll, InText, Finished, Ended}
use Rattle.dsd_end.specs.declared.end.Turn.TheVariants as turns
use Rattle.dsd_end.specs.EndSeen.{turn_at}
use Rattle.dsd_end.specs.PollStep.{Done, Next, PollsAt, bytes_of}
use Rattle.dsd_end.specs.PollsHeard.{receptions_of}
use Rattle.dsd_end.specs.Standings.{Standing, has_ended}
use Rattle.cable_world.specs.Diligence.{Follows, FollowsIf, Steps}
use Rattle.cable_world.specs.Living.{AreCallsOf, is_opening}
use Rattle.cable_world.specs.Noted.{Noted, kind_of, runs_by, step_of}
use Rattle.cable_world.specs.Obeying.{Makes}
use Rattle.cable_world.specs.Scenes.{Scene, Side, due, sent_to, side, side_stepped, stepped}
use Rattle.cable_world.specs.Steps.{Poll, StepKind, frames_in, other, same_role}
use Rattle.cable_world.specs.declared.answer.Answer.{Answer}
use Rattle.cable_world.specs.declared.answer.Answer.TheVariants as answers
use Rattle.clean_worlds.specs.WholeFrames.{GoesWell, is_fault}
use Rattle.clean_worlds.proofs.FramesSaid.{SaysFrames, part_says}
use Rattle.clean_worlds.proofs.Pieces.{AreHeard, are_heard, piece_heard, piece_left}
use Rattle.clean_worlds.proofs.Stepped.{played_due, played_fed, stepped_other, stepped_own, stepped_waiting}

-- ---- what was answered

running_line : (line : Line) → turns.Running ≡ turn_at line → has_ended line ≡ false
running_line (Ended end) e = absurd (cc)
running_line (Ready own) e = refl
running_line (Bidding own load) e = refl
running_line (Awaiting own sending) e = refl
running_line (SentAll own) e = refl
running_line (InText own taking) e = refl
running_line (Finished own text) e = refl

ended_line : (line : Line) (end : _) → turns.Ended end ≡ turn_at line → has_ended line ≡ true
ended_line (Ended end) by e = refl
ended_line (Ready own) by e = absurd (cc)
ended_line (Bidding own load) by e = absurd (cc)
ended_line (Awaiting own sending) by e = absurd (cc)
ended_line (SentAll own) by e = absurd (cc)
ended_line (InText own taking) by e = absurd (cc)
ended_line (Finished own text) by e = absurd (cc)

-- it is one step of the table, and it runs on as its line does
pub record PollsWell (chooser : Chooser) (standing : Standing) (answer : Answer) (part : List Call) (after : Option Standing) : Type 0 where
  pub done : Done
  pub steps : Steps chooser standing part done
  pub stands : after ≡ Some done.standing
  pub runs : runs_by answer ≡ not (has_ended done.standing.line)

turned_well : (chooser : Chooser) (standing now last : Standing) (answer : Answer) (part : List Call) (done : Done) (after : Option Standing) → (let s : Option Standing = Some standing in s) ≡ Some now
    → Steps chooser now part done → done.standing ≡ last → after ≡ Some last → runs_by answer ≡ not (has_ended last.line) → PollsWell chooser standing answer part after
turned_well chooser standing now last answer part done after before steps same stands runs =
    let at : now ≡ standing = cc in
    record {
      done = done;
      steps = subst (λ (s : Standing). Steps chooser s part done) at steps;
      stands = stands ∙ ap Some (sym same);
      runs = runs ∙ ap (λ (s : Standing). not (has_ended s.line)) (sym same);
    }

pub polls_well : (chooser : Chooser) (header : Header) (journal : List ℕ) (answer : Answer) (part : List Call) (standing : Standing) (after : Option Standing) → kind_of answer ≡ Poll → is_fault answer ≡ false
    → Follows chooser header journal answer part (Some standing) after → PollsWell chooser standing answer part after
polls_well chooser header journal answers.Opened part standing after kind fine follows =
    let no : true ≡ false = ap is_opening kind in absurd (cc)
polls_well chooser header journal (answers.NotOpened fault) part standing after kind fine follows = absurd (cc)
polls_well chooser header journal answers.Running part standing after kind fine (now, last, before, (done, steps, turn, same), stands) =
    turned_well chooser standing now last answers.Running part done after before steps same stands (ap not (sym (running_line last.line turn)))
polls_well chooser header journal (answers.Ended end) part standing after kind fine (now, last, before, (done, steps, turn, same), stands) =
    turned_well chooser standing now last (answers.Ended end) part done after before steps same stands (ap not (sym (ended_line last.line end turn)))
polls_well chooser header journal (answers.Broken fault) part standing after kind fine follows = absurd (cc)

-- ---- what was heard

pub heard_some : (first : Bool) (chooser : Chooser) (standing : Standing) (heard : Option Reception) (done : Done) → first ≡ false → PollsAt first chooser standing heard done → (one : Reception) × (heard ≡ Some one)
heard_some true chooser standing heard done later polls = absurd (cc)
heard_some false chooser standing None done later polls = absurd polls
heard_some false chooser standing (Some one) done later polls = (one, refl)

-- the poll has heard a piece of the bytes that were due, and the rest is due then
pub record HearsPieceOf (chooser : Chooser) (standing : Standing) (bytes : List ℕ) (behind : List Due) (done : Done) : Type 0 where
  pub next : Next chooser standing (Some (Piece (take 64 bytes))) done
  pub left : behind ≡ map DueByte (drop 64 bytes)

pub hears_piece : (chooser : Chooser) (standing : Standing) (its : Side) (part : List Call) (b : ℕ) (more : List ℕ) (done : Done) → standing.first ≡ false → EachFedBy (length its.log.calls) its.log.plan.fed
    → due its ≡ map DueByte (b ∷ more) → AreHeard (answers_in part) (due its) (due_by its.log.plan.fed (its.log.calls ++ part)) → Steps chooser standing part done
    → HearsPieceOf chooser standing (b ∷ more) (due_by its.log.plan.fed (its.log.calls ++ part)) done
hears_piece chooser standing its part b more done later fed some are steps =
    let (one, heard) = heard_some standing.first chooser standing steps.heard done later steps.next.polls in
    let only : answers_in part ≡ one ∷ [] = steps.listened ∙ ap (λ (h : Option Reception). receptions_of (h ∷ [])) heard in
    let left : List Due = due_by its.log.plan.fed (its.log.calls ++ part) in
    let (is, rest) : AreHeard (one ∷ []) (map DueByte (b ∷ more)) left =
    subst (λ (l : List Due). AreHeard (one ∷ []) l left) some (subst (λ (l : List Reception). AreHeard l (due its) left) only are) in
    let piece : steps.heard ≡ Some (Piece (take 64 (b ∷ more))) = heard ∙ ap Some (is ∙ piece_heard b more) in
    record { next = subst (λ (h : Option Reception). Next chooser standing h done) piece steps.next; left = rest ∙ piece_left b more }

-- ---- the poll as a whole

pub record PollsOnce (role : Role) (chooser : Chooser) (standing : Standing) (bytes : List ℕ) (scene new : Scene) (after : Option Standing) : Type 0 where
  pub done : Done
  pub next : Next chooser standing (Some (Piece (take 64 bytes))) done
  pub stands : after ≡ Some done.standing
  pub runs : (side new role).runs ≡ not (has_ended done.standing.line)
  pub fed : EachFedBy (length (side new role).log.calls) (side new role).log.plan.fed
  pub left : due (side new role) ≡ map DueByte (drop 64 bytes)
  pub frames : List FrameShape
  pub spoken : AreSpoken frames
  pub said : flat_map spelling frames ≡ bytes_of done
  pub waits : new.waiting ≡ scene.waiting ++ sent_to (other role) (map spelling frames)
  pub apart : side new (other role) ≡ side scene (other role)

pub same_roles : (role : Role) → same_role role role ≡ true
same_roles Supplier = refl
same_roles Receiver = refl

pub follows_own : (role : Role) (chooser : Chooser) (header : Header) (state : State) (one : Noted) (before after : Option Standing) → one.role ≡ role
    → FollowsIf (same_role role one.role) chooser header state one before after → FollowsIf true chooser header state one before after
follows_own role chooser header state one before after own follows =
    subst (λ (b : Bool). FollowsIf b chooser header state one before after) (ap (same_role role) own ∙ same_roles role) follows

pub polls_once : (role : Role) (chooser : Chooser) (header : Header) (state : State) (standing : Standing) (b : ℕ) (more : List ℕ) (scene : Scene) (one : Noted) (after : Option Standing)
    → standing.first ≡ false → EachFedBy (length (side scene role).log.calls) (side scene role).log.plan.fed → due (side scene role) ≡ map DueByte (b ∷ more) → Makes role Poll scene (step_of one)
    → AreCallsOf (kind_of one.answer) one.part → GoesWell one → FollowsIf (same_role role one.role) chooser header state one (Some standing) after
    → PollsOnce role chooser standing (b ∷ more) scene (stepped scene (step_of one)) after
polls_once role chooser header state standing b more scene one after later fed some makes calls well follows =
    let its : Side = side scene role in
    let polls = polls_well chooser header _ one.answer one.part standing after makes.kind well.answer (follows_own role chooser header state one (Some standing) after makes.role follows) in
    let says : SaysFrames (frames_in one.part) _ = part_says one.part (subst (λ (k : StepKind). AreCallsOf k one.part) makes.kind calls) well.calls in
    let hears = hears_piece chooser standing its one.part b more polls.done later fed some (are_heard its.log.plan its.log.calls one.part fed makes.answers) polls.steps in
    let now : side (stepped scene (step_of one)) role ≡ side_stepped its (step_of one) = stepped_own role scene (step_of one) makes.role in
    record {
      done = polls.done;
      next = hears.next;
      stands = polls.stands;
      runs = ap (λ (s : Side). s.runs) now ∙ polls.runs;
      fed = subst (λ (s : Side). EachFedBy (length s.log.calls) s.log.plan.fed) (sym now) (played_fed its.log one.part fed);
      left = ap due now ∙ played_due its.log one.part ∙ hears.left;
      frames = says.frames;
      spoken = says.spoken;
      said = sym says.bytes ∙ polls.steps.said;
      waits = stepped_waiting role scene (step_of one) makes.role ∙ ap (λ (l : List (List ℕ)). scene.waiting ++ sent_to (other role) l) says.each;
      apart = stepped_other role scene (step_of one) makes.role;
    }
