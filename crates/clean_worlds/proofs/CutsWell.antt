-- CLEAN unplugs the cable: that goes well, where nothing armed is left.
use Rattle.std.proofs.Common.{◌≡◌, ℕ, Bool, true, false, List, [], ◌∷◌, ◌++◌, length, Option, Some, refl, sym, ◌∙◌, ap, subst}
use Rattle.dsd_values.specs.declared.role.Role.{Role}
use Rattle.dsd_record.specs.Choices.{Chooser}
use Rattle.dsd_station.specs.declared.call.Call.{Call}
use Rattle.dsd_station.specs.declared.call.Reception.{Reception}
use Rattle.dsd_station.specs.declared.feeding.Given.TheVariants as given
use Rattle.dsd_station.specs.ByPlan.{due_by}
use Rattle.dsd_station.specs.Heard.{answers_in}
use Rattle.dsd_station.specs.Placed.{EachFedBy}
use Rattle.dsd_station.specs.Planned.{Due, DueCut}
use Rattle.dsd_station.specs.Replayed.{State}
use Rattle.dsd_station.proofs.Planning.{due_by-fed}
use Rattle.dsd_journal.specs.declared.header.Header.{Header}
use Rattle.dsd_end.specs.EndFaults.{IsNoise}
use Rattle.dsd_end.specs.FullTurns.{HearsFull}
use Rattle.dsd_end.specs.PollStep.{Done}
use Rattle.dsd_end.specs.Polls.{with_flags}
use Rattle.dsd_end.specs.Standings.{Standing, has_ended}
use Rattle.cable_world.specs.Diligence.{ComesBy, FollowsIf, Steps}
use Rattle.cable_world.specs.Faulting.{FindsFull}
use Rattle.cable_world.specs.Leaving.{state_behind}
use Rattle.cable_world.specs.Living.{CallSo}
use Rattle.cable_world.specs.Noted.{Noted, step_of, steps_of}
use Rattle.cable_world.specs.Obeying.{Hears, HearsIf, IsPolledOut, Makes}
use Rattle.cable_world.specs.Scenes.{Scene, Side, due, fed, side, stepped}
use Rattle.cable_world.specs.Steps.{Poll, same_role}
use Rattle.clean_worlds.specs.CleanBeginnings.{CanHear}
use Rattle.clean_worlds.specs.Faultless.{IsSpared, WorksIfRunning}
use Rattle.clean_worlds.specs.WholeFrames.{GoWell, GoesWell}
use Rattle.clean_worlds.proofs.AnswersWell.{Excludes, poll_well}
use Rattle.clean_worlds.proofs.Pieces.{AreHeard, are_heard}
use Rattle.clean_worlds.proofs.PolledOnce.{follows_own}
use Rattle.clean_worlds.proofs.SparedCalls.{calls_well, spared_fed, spared_stepped}
use Rattle.clean_worlds.proofs.Stepped.{busy_runs, bytes_fed, fed_own}
use Rattle.clean_worlds.proofs.Unplugging.{IsCut, cut_once, cut_polled}

-- a poll that is due this alone finds no full journal and no noise
cut_excludes : (chooser : Chooser) (standing : Standing) (part : List Call) (left : List Due) → standing.first ≡ false → AreHeard (answers_in part) (DueCut ∷ []) left → Excludes chooser standing part
cut_excludes chooser standing part left later are = record { full = full; noise = noise }
  where
    full : (n : ℕ) → FindsFull chooser standing part n → ⊥
    full n f =
        let (is, rest) : AreHeard (f.heard ∷ []) (DueCut ∷ []) left = subst (λ (l : List Reception). AreHeard l (DueCut ∷ []) left) f.listened are in
        subst (λ (h : Reception). HearsFull chooser standing h n) is f.full

    noise : (last : Standing) (count : ℕ) (done : Done) → IsNoise last count → Steps chooser standing part done → done.standing ≡ with_flags last false false → ⊥
    noise last count done n steps same =
        let off = cut_polled chooser standing part left done later are steps in
        let ended : has_ended last.line ≡ true = ap (λ (s : Standing). has_ended s.line) (sym same) ∙ off.ended in
        let goes = n.goes_on in
        absurd (cc)

-- the steps go well, and still nothing armed is left
pub record CutsWell (role : Role) (noted : List Noted) (next : Scene) : Type 0 where
  pub well : GoWell noted
  pub spared : IsSpared (side next role).log

cut_one : (role : Role) (chooser : Chooser) (header : Header) (state : State) (standing : Standing) (scene : Scene) (one : Noted) (after : Option Standing) → standing.first ≡ false → WorksIfRunning (side scene role)
    → IsSpared (side scene role).log → (side scene role).runs ≡ true → EachFedBy (length (side scene role).log.calls) (side scene role).log.plan.fed → due (side scene role) ≡ DueCut ∷ [] → Makes role Poll scene (step_of one)
    → FollowsIf (same_role role one.role) chooser header state one (Some standing) after → GoesWell one
cut_one role chooser header state standing scene one after later works is on fed some makes follows =
    let its : Side = side scene role in
    let fine = calls_well its.log one.part (works on) is makes.answers in
    let left : List Due = due_by its.log.plan.fed (its.log.calls ++ one.part) in
    let are : AreHeard (answers_in one.part) (DueCut ∷ []) left = subst (λ (l : List Due). AreHeard (answers_in one.part) l left) some (are_heard its.log.plan its.log.calls one.part fed makes.answers) in
    record {
      answer = poll_well chooser header (state_behind state (step_of one)).journal one.answer one.part standing after makes.kind fine.none (cut_excludes chooser standing one.part left later are)
          (follows_own role chooser header state one (Some standing) after makes.role follows);
      calls = fine.none;
    }

cut_out_well : (role : Role) (chooser : Chooser) (header : Header) (noted : List Noted) (state : State) (standing : Standing) (scene next : Scene) (last : Option Standing) → standing.first ≡ false → WorksIfRunning (side scene role)
    → IsSpared (side scene role).log → EachFedBy (length (side scene role).log.calls) (side scene role).log.plan.fed → due (side scene role) ≡ DueCut ∷ [] → IsPolledOut role scene (steps_of noted) next
    → ComesBy role chooser header state (Some standing) noted last → CallSo (steps_of noted) → CutsWell role noted next
cut_out_well role chooser header [] state standing scene next last later works is fed some (idle, same) comes calls = record { well = tt; spared = subst (λ (s : Scene). IsSpared (side s role).log) (sym same) is }
cut_out_well role chooser header (one ∷ noted) state standing scene next last later works is fed some (busy, makes, out) (mid, follows, comes) calls =
    let well = cut_one role chooser header state standing scene one mid later works is (busy_runs (side scene role) busy) fed some makes follows in
    by noted out well (cut_once role chooser header state standing scene one mid later fed some makes calls.0 well follows)
  where
    by : (noted : List Noted) → IsPolledOut role (stepped scene (step_of one)) (steps_of noted) next → GoesWell one → IsCut role scene (stepped scene (step_of one)) → CutsWell role (one ∷ noted) next
    by [] (idle, same) well cut = record { well = (well, tt); spared = subst (λ (s : Scene). IsSpared (side s role).log) (sym same) (spared_stepped role scene (step_of one) makes.role is) }
    by (more ∷ noted) out well cut = let runs = busy_runs (side (stepped scene (step_of one)) role) out.0 in let rests = cut.rests in absurd (cc)

none_well : (noted : List Noted) → steps_of noted ≡ [] → GoWell noted
none_well [] none = tt
none_well (one ∷ noted) none = absurd (cc)

pub cut_well : (role : Role) (chooser : Chooser) (header : Header) (noted : List Noted) (state : State) (scene next : Scene) (before last : Option Standing)
    → ((side scene role).runs ≡ true → (now : Standing) × (before ≡ Some now) × CanHear now (side scene role)) → WorksIfRunning (side scene role) → IsSpared (side scene role).log
    → Hears role given.Unplugged scene (steps_of noted) next → ComesBy role chooser header state before noted last → CallSo (steps_of noted) → CutsWell role noted next
cut_well role chooser header noted state scene next before last hear works is hears comes calls = by (side scene role).runs refl hears
  where
    behind : (now : Standing) → before ≡ Some now → CanHear now (side scene role) → IsPolledOut role (fed scene role given.Unplugged) (steps_of noted) next → CutsWell role noted next
    behind now is_now can out =
        let there = fed_own role scene given.Unplugged in
        cut_out_well role chooser header noted state now (fed scene role given.Unplugged) next last can.later (subst WorksIfRunning (sym there) works)
        (subst (λ (s : Side). IsSpared s.log) (sym there) (spared_fed (side scene role).log given.Unplugged is))
        (subst (λ (s : Side). EachFedBy (length s.log.calls) s.log.plan.fed) (sym there) (bytes_fed (side scene role) given.Unplugged can.fed))
        (ap due there ∙ due_by-fed (side scene role).log.plan.fed (record { given = given.Unplugged; at = length (side scene role).log.calls }) (side scene role).log.calls refl ∙ ap (λ (l : List Due). l ++ DueCut ∷ []) can.taken)
        out (subst (λ (s : Option Standing). ComesBy role chooser header state s noted last) is_now comes) calls

    by : (runs : Bool) → (side scene role).runs ≡ runs → HearsIf runs role given.Unplugged scene (steps_of noted) next → CutsWell role noted next
    by true on out = let (now, is_now, can) = hear on in behind now is_now can out
    by false off (none, same) = record { well = none_well noted none; spared = subst (λ (s : Scene). IsSpared (side s role).log) (sym same) is }
