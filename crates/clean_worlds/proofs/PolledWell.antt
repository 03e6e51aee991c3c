-- An end whose calls do not fail and whose journal has room goes well poll by poll.
use Rattle.std.proofs.Common.{◌≡◌, ℕ, ◌<◌, ◌≤◌, Bool, true, false, List, [], ◌∷◌, ◌++◌, length, Option, Some, refl, sym, ◌∙◌, ap, subst, arith, length-append}
use Rattle.std.specs.Prelude.{not}
use Rattle.dsd_values.specs.declared.role.Role.{Role}
use Rattle.dsd_record.specs.Choices.{Chooser}
use Rattle.dsd_station.specs.declared.call.Call.{Call}
use Rattle.dsd_station.specs.declared.call.Reception.{Reception}
use Rattle.dsd_station.specs.Heard.{answers_in}
use Rattle.dsd_station.specs.Replayed.{State}
use Rattle.dsd_journal.specs.Headers.{IsHeader}
use Rattle.dsd_journal.specs.declared.entry.Entry.{Entry}
use Rattle.dsd_journal.specs.declared.header.Header.{Header}
use Rattle.own_turn.specs.TurnsGrow.{IsGrown}
use Rattle.own_turn.proofs.TurnsGrowing.{grown_on}
use Rattle.dsd_end.specs.Carrying.{Carried}
use Rattle.dsd_end.specs.EndFaults.{IsNoise}
use Rattle.dsd_end.specs.PollStep.{Along, Done, joined, nothing}
use Rattle.dsd_end.specs.Polls.{with_flags}
use Rattle.dsd_end.specs.PollsHeard.{receptions_of}
use Rattle.dsd_end.specs.Runs.{bytes_heard}
use Rattle.dsd_end.specs.Standings.{Standing, has_ended}
use Rattle.dsd_end.specs.declared.fault.TheConstants.{NOISE_BYTES}
use Rattle.dsd_end.proofs.Onward.{carried_more}
use Rattle.dsd_end.proofs.Polling.{next_goes}
use Rattle.dsd_end.proofs.PollsRun.{greets}
use Rattle.dsd_end.proofs.RunsGrown.{grown_weaker}
use Rattle.dsd_end.proofs.SoundPolls.{IsAt, along_soundly}
use Rattle.cable_world.specs.Diligence.{Follows, FollowsIf, Steps}
use Rattle.cable_world.specs.Faulting.{FindsFull}
use Rattle.cable_world.specs.Leaving.{state_behind}
use Rattle.cable_world.specs.Noted.{Noted, step_of}
use Rattle.cable_world.specs.Obeying.{Makes}
use Rattle.cable_world.specs.Scenes.{Scene, Side, side, stepped}
use Rattle.cable_world.specs.Steps.{Poll, same_role}
use Rattle.clean_worlds.specs.Faultless.{HasRoom, IsSpared, WorksIfRunning}
use Rattle.clean_worlds.specs.WholeFrames.{GoesWell, is_fault}
use Rattle.clean_worlds.proofs.AnswersWell.{Excludes, poll_well}
use Rattle.clean_worlds.proofs.BytesBounded.{next_counts}
use Rattle.clean_worlds.proofs.NeverFull.{hears_full, not_outgrown, outgrows_behind}
use Rattle.clean_worlds.proofs.PolledOnce.{follows_own, polls_well}
use Rattle.clean_worlds.proofs.SparedCalls.{calls_well, spared_stepped, works_stepped}
use Rattle.clean_worlds.proofs.Stepped.{stepped_own}

pub not_true : (b : Bool) → not b ≡ true → b ≡ false
not_true true e = absurd (cc)
not_true false e = refl

module _ (header : Header) (is : IsHeader header) (chooser : Chooser) (first : List Entry) where
  -- Its session goes on, over what it was opened with; so many bytes were heard.
  pub record GoesOn (standing : Standing) (bytes : List ℕ) : Type 0 where
    pub titled : standing.header ≡ header
    pub later : standing.first ≡ false
    pub on : has_ended standing.line ≡ false
    pub at : IsAt header bytes standing
    pub grown : IsGrown header.role chooser (Carried bytes) first standing.desk.entries
    pub heard : standing.heard ≤ length bytes

  -- Nothing that is armed at its station is left, and where it runs the station works and its session goes on.
  pub record Stands (its : Side) (standing : Option Standing) (bytes : List ℕ) : Type 0 where
    pub spared : IsSpared its.log
    pub works : WorksIfRunning its
    pub goes : its.runs ≡ true → (now : Standing) × (standing ≡ Some now) × GoesOn now bytes

  pub stands_as : (old new : Side) (before after : Option Standing) (bytes more : List ℕ) → new ≡ old → after ≡ before → more ≡ bytes → Stands old before bytes → Stands new after more
  stands_as old new before after bytes more same still none s =
      subst (λ (x : Side). Stands x after more) (sym same) (subst (λ (x : Option Standing). Stands old x more) (sym still) (subst (Stands old before) (sym none) s))

  -- one poll on
  goes_further : (now : Standing) (bytes : List ℕ) (part : List Call) (done : Done) → GoesOn now bytes → Steps chooser now part done → has_ended done.standing.line ≡ false
      → GoesOn done.standing (bytes ++ bytes_heard (answers_in part))
  goes_further now bytes part done g steps on =
      let one : Along chooser now (steps.heard ∷ []) (joined done (nothing done.standing)) = (done, nothing done.standing, steps.next, refl, refl) in
      let so = along_soundly header chooser (greets header.own is.own) now (steps.heard ∷ []) bytes (joined done (nothing done.standing)) g.titled g.at one in
      let more : List ℕ = bytes_heard (receptions_of (steps.heard ∷ [])) in
      let counts = next_counts chooser now steps.heard done steps.next in
      let before = g.heard in
      let long = length-append bytes more in
      let goes : GoesOn done.standing (bytes ++ more) = record {
        titled = so.is;
        later = (next_goes chooser (λ (set : List ℕ). Unit {0}) (λ text set lent. tt) now steps.heard done steps.next).first g.later;
        on = on;
        at = so.at;
        grown = grown_on header.role chooser (Carried (bytes ++ more)) first now.desk.entries done.standing.desk.entries
            (grown_weaker header.role chooser (Carried bytes) (Carried (bytes ++ more)) (carried_more bytes more) first now.desk.entries g.grown) so.grown;
        heard = omega (arith, counts, before, long);
      } in
      subst (λ (l : List Reception). GoesOn done.standing (bytes ++ bytes_heard l)) (sym steps.listened) goes

  module _ (total : List ℕ) (room : HasRoom header.role chooser first total) (quiet : length total < NOISE_BYTES) where
    excludes : (standing : Standing) (bytes more : List ℕ) (part : List Call) → GoesOn standing bytes → total ≡ (bytes ++ bytes_heard (answers_in part)) ++ more → Excludes chooser standing part
    excludes standing bytes more part g split = record { full = full; noise = noise }
      where
        full : (n : ℕ) → FindsFull chooser standing part n → ⊥
        full n f =
            let heard : List ℕ = bytes_heard (f.heard ∷ []) in
            let all : total ≡ (bytes ++ heard) ++ more = split ∙ ap (λ (l : List Reception). (bytes ++ bytes_heard l) ++ more) f.listened in
            not_outgrown header.role chooser first (bytes ++ heard) more (subst (HasRoom header.role chooser first) all room)
            (outgrows_behind header.role chooser first standing.desk.entries bytes heard g.grown (hears_full header is chooser standing f.heard bytes n g.titled g.at g.on f.full))

        noise : (last : Standing) (count : ℕ) (done : Done) → IsNoise last count → Steps chooser standing part done → done.standing ≡ with_flags last false false → ⊥
        noise last count done n steps same =
            let heard : List ℕ = bytes_heard (receptions_of (steps.heard ∷ [])) in
            let all : length total ≡ length ((bytes ++ heard) ++ more) = ap length split ∙ ap (λ (l : List Reception). length ((bytes ++ bytes_heard l) ++ more)) steps.listened in
            let counts = next_counts chooser standing steps.heard done steps.next in
            let last_heard : done.standing.heard ≡ last.heard = ap (λ (s : Standing). s.heard) same in
            let before = g.heard in
            let is_count = n.heard in
            let many = n.many in
            let long = length-append bytes heard in
            let longer = length-append (bytes ++ heard) more in
            omega (arith, all, counts, last_heard, before, is_count, many, long, longer, quiet)

    pub poll_on : (role : Role) (state : State) (scene : Scene) (one : Noted) (before after : Option Standing) (bytes more : List ℕ) → Makes role Poll scene (step_of one) → (side scene role).runs ≡ true
        → Stands (side scene role) before bytes → FollowsIf (same_role role one.role) chooser header state one before after → total ≡ (bytes ++ bytes_heard (answers_in one.part)) ++ more
        → GoesWell one × Stands (side (stepped scene (step_of one)) role) after (bytes ++ bytes_heard (answers_in one.part))
    poll_on role state scene one before after bytes more makes on stands follows split =
        let its : Side = side scene role in
        let journal : List ℕ = (state_behind state (step_of one)).journal in
        let (now, is_now, g) = stands.goes on in
        let fine = calls_well its.log one.part (stands.works on) stands.spared makes.answers in
        let own : Follows chooser header journal one.answer one.part (Some now) after =
        subst (λ (s : Option Standing). Follows chooser header journal one.answer one.part s after) is_now (follows_own role chooser header state one before after makes.role follows) in
        let well : is_fault one.answer ≡ false = poll_well chooser header journal one.answer one.part now after makes.kind fine.none (excludes now bytes more one.part g split) own in
        let polls = polls_well chooser header journal one.answer one.part now after makes.kind well own in (
          record { answer = well; calls = fine.none },
          record {
            spared = spared_stepped role scene (step_of one) makes.role stands.spared;
            works = λ runs. works_stepped role scene (step_of one) makes.role fine;
            goes = λ runs.
                let line : has_ended polls.done.standing.line ≡ false =
                not_true (has_ended polls.done.standing.line) (sym polls.runs ∙ ap (λ (s : Side). s.runs) (sym (stepped_own role scene (step_of one) makes.role)) ∙ runs) in
                (polls.done.standing, polls.stands, goes_further now bytes one.part polls.done g polls.steps line);
          },
        )
