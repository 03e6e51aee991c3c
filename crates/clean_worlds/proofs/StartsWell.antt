-- An end that is opened goes well, and so does the first poll of a handheld, where nothing armed is left.
use Rattle.std.proofs.Common.{◌≡◌, ℕ, true, false, List, Option, Some, sym, ◌∙◌, ap, arith}
use Rattle.dsd_values.specs.declared.role.Role.{Role}
use Rattle.dsd_record.specs.Choices.{Chooser}
use Rattle.dsd_station.specs.declared.call.Call.{Call}
use Rattle.dsd_station.specs.Replayed.{State}
use Rattle.dsd_journal.specs.declared.header.Header.{Header}
use Rattle.dsd_end.specs.EndFaults.{IsNoise}
use Rattle.dsd_end.specs.PollStep.{Done}
use Rattle.dsd_end.specs.Polls.{with_flags}
use Rattle.dsd_end.specs.Standings.{Standing}
use Rattle.cable_world.specs.Diligence.{FollowsIf, Steps}
use Rattle.cable_world.specs.Faulting.{FindsFull}
use Rattle.cable_world.specs.Leaving.{state_behind}
use Rattle.cable_world.specs.Noted.{Noted, step_of}
use Rattle.cable_world.specs.Obeying.{Makes}
use Rattle.cable_world.specs.Scenes.{Scene, Side, restarted, side, stepped}
use Rattle.cable_world.specs.Steps.{Opening, Poll, same_role}
use Rattle.clean_worlds.specs.Faultless.{IsSpared, WorksIfRunning}
use Rattle.clean_worlds.specs.WholeFrames.{GoesWell}
use Rattle.clean_worlds.proofs.AnswersWell.{Excludes, opening_well, poll_well}
use Rattle.clean_worlds.proofs.Opened.{polls_first}
use Rattle.clean_worlds.proofs.PolledOnce.{follows_own}
use Rattle.clean_worlds.proofs.SparedCalls.{calls_well, spared_again, spared_stepped, works_again, works_stepped}

-- It goes well, and behind it still nothing armed is left and the station works.
pub record StepsWell (role : Role) (one : Noted) (next : Scene) : Type 0 where
  pub well : GoesWell one
  pub spared : IsSpared (side next role).log
  pub works : WorksIfRunning (side next role)

pub opens_unhindered : (role : Role) (chooser : Chooser) (header : Header) (state : State) (scene : Scene) (one : Noted) (before after : Option Standing) → IsSpared (side scene role).log
    → Makes role Opening (restarted scene role) (step_of one) → FollowsIf (same_role role one.role) chooser header state one before after → StepsWell role one (stepped (restarted scene role) (step_of one))
opens_unhindered role chooser header state scene one before after is makes follows =
    let its : Side = side (restarted scene role) role in
    let spared = spared_again role scene is in
    let fine = calls_well its.log one.part (works_again role scene) spared makes.answers in
    record {
      well = record {
        answer = opening_well chooser header (state_behind state (step_of one)).journal one.answer one.part before after makes.kind fine.none (follows_own role chooser header state one before after makes.role follows);
        calls = fine.none;
      };
      spared = spared_stepped role (restarted scene role) (step_of one) makes.role spared;
      works = λ runs. works_stepped role (restarted scene role) (step_of one) makes.role fine;
    }

-- the first poll hears nothing
first_excludes : (chooser : Chooser) (standing : Standing) (part : List Call) → standing.first ≡ true → standing.heard ≡ 0 → Excludes chooser standing part
first_excludes chooser standing part first none = record { full = full; noise = noise }
  where
    full : (n : ℕ) → FindsFull chooser standing part n → ⊥
    full n f = let begun = f.begun in absurd (cc)

    noise : (last : Standing) (count : ℕ) (done : Done) → IsNoise last count → Steps chooser standing part done → done.standing ≡ with_flags last false false → ⊥
    noise last count done n steps same =
        let (deaf, is) = polls_first standing.first chooser standing steps.heard done first steps.next.polls in
        let heard : last.heard ≡ standing.heard = ap (λ (s : Standing). s.heard) (sym same) ∙ ap (λ (d : Done). d.standing.heard) is in
        let many = n.many in
        let count_is = n.heard in
        omega (arith, heard, many, count_is, none)

pub begins_unhindered : (role : Role) (chooser : Chooser) (header : Header) (state : State) (standing : Standing) (scene : Scene) (one : Noted) (after : Option Standing) → standing.first ≡ true → standing.heard ≡ 0
    → IsSpared (side scene role).log → WorksIfRunning (side scene role) → (side scene role).runs ≡ true → Makes role Poll scene (step_of one)
    → FollowsIf (same_role role one.role) chooser header state one (Some standing) after → StepsWell role one (stepped scene (step_of one))
begins_unhindered role chooser header state standing scene one after first none is works on makes follows =
    let its : Side = side scene role in
    let fine = calls_well its.log one.part (works on) is makes.answers in
    record {
      well = record {
        answer = poll_well chooser header (state_behind state (step_of one)).journal one.answer one.part standing after makes.kind fine.none (first_excludes chooser standing one.part first none)
            (follows_own role chooser header state one (Some standing) after makes.role follows);
        calls = fine.none;
      };
      spared = spared_stepped role scene (step_of one) makes.role is;
      works = λ runs. works_stepped role scene (step_of one) makes.role fine;
    }
