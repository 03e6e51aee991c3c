-- Behind steps that go well, of which one opened it, no call of an end has answered a fault.
use Rattle.std.proofs.Common.{◌≡◌, ℕ, Bool, true, false, List, [], ◌∷◌, ◌++◌, Option, Some, None, refl, sym, ◌∙◌, ap, subst}
use Rattle.dsd_values.specs.declared.role.Role.{Role}
use Rattle.dsd_values.specs.declared.role.Role.TheVariants.{Receiver, Supplier}
use Rattle.dsd_record.specs.Choices.{Chooser}
use Rattle.dsd_station.specs.declared.call.Call.{Call}
use Rattle.dsd_station.specs.Replayed.{State}
use Rattle.dsd_journal.specs.JournalImage.{Holds}
use Rattle.dsd_journal.specs.declared.entry.Entry.{Entry}
use Rattle.dsd_journal.specs.declared.header.Header.{Header}
use Rattle.dsd_end.specs.PollStep.{Done}
use Rattle.dsd_end.specs.Standings.{Standing}
use Rattle.dsd_end.proofs.Polling.{next_goes}
use Rattle.cable_world.specs.Diligence.{ComesBy, Follows, FollowsIf, Steps}
use Rattle.cable_world.specs.Holding.{HoldsLast}
use Rattle.cable_world.specs.Leaving.{behind_if}
use Rattle.cable_world.specs.Noted.{Noted, step_of, steps_of}
use Rattle.cable_world.specs.Scenes.{Scene}
use Rattle.cable_world.specs.Steps.{WorldStep, same_role}
use Rattle.cable_world.specs.declared.answer.Answer.{Answer}
use Rattle.cable_world.specs.declared.answer.Answer.TheVariants as answers
use Rattle.clean_worlds.specs.CleanBeginnings.{OpensOver, PlaysClean}
use Rattle.clean_worlds.specs.CleanPlays.{choosers, headers}
use Rattle.clean_worlds.specs.WholeFrames.{GoWell, GoesWell, is_fault}
use Rattle.clean_worlds.specs.WorldHalls.{BothCome}

abbrev has_failed : Option Standing → Bool
has_failed None = false
has_failed (Some standing) = standing.failed

-- ---- a step

polled_fine : (chooser : Chooser) (standing : Standing) (part : List Call) (done : Done) → Steps chooser standing part done → done.standing.failed ≡ false
polled_fine chooser standing part done steps = (next_goes chooser (λ (set : List ℕ). Unit {0}) (λ text set lent. tt) standing steps.heard done steps.next).failed ∙ steps.next.fine

step_fine : (chooser : Chooser) (header : Header) (journal : List ℕ) (answer : Answer) (part : List Call) (before after : Option Standing) → is_fault answer ≡ false → Follows chooser header journal answer part before after
    → has_failed after ≡ false
step_fine chooser header journal answers.Opened part before after fine follows = ap has_failed follows.2
step_fine chooser header journal (answers.NotOpened fault) part before after fine follows = absurd (cc)
step_fine chooser header journal answers.Running part before after fine (standing, last, was, (done, steps, turn, same), now) =
    ap has_failed now ∙ sym (ap (λ (s : Standing). s.failed) same) ∙ polled_fine chooser standing part done steps
step_fine chooser header journal (answers.Ended end) part before after fine (standing, last, was, (done, steps, turn, same), now) =
    ap has_failed now ∙ sym (ap (λ (s : Standing). s.failed) same) ∙ polled_fine chooser standing part done steps
step_fine chooser header journal (answers.Broken fault) part before after fine follows = absurd (cc)

step_fine_if : (own : Bool) (chooser : Chooser) (header : Header) (state : State) (one : Noted) (before after : Option Standing) → FollowsIf own chooser header state one before after → GoesWell one → has_failed before ≡ false
    → has_failed after ≡ false
step_fine_if true chooser header state one before after follows well fine = step_fine chooser header _ one.answer one.part before after well.answer follows
step_fine_if false chooser header state one before after follows well fine = ap has_failed follows ∙ fine

-- ---- steps

stays_fine : (role : Role) (chooser : Chooser) (header : Header) (noted : List Noted) (state : State) (before after : Option Standing) → ComesBy role chooser header state before noted after → GoWell noted
    → has_failed before ≡ false → has_failed after ≡ false
stays_fine role chooser header [] state before after comes well fine = ap has_failed comes ∙ fine
stays_fine role chooser header (one ∷ noted) state before after (next, follows, comes) well fine =
    stays_fine role chooser header noted (behind_if (same_role role one.role) state (step_of one)) next after comes well.1
    (step_fine_if (same_role role one.role) chooser header state one before next follows well.0 fine)

same_roles : (role other : Role) → other ≡ role → same_role role other ≡ true
same_roles Supplier Supplier is = refl
same_roles Supplier Receiver is = absurd (cc)
same_roles Receiver Supplier is = absurd (cc)
same_roles Receiver Receiver is = refl

opened_fine : (role : Role) (chooser : Chooser) (header : Header) (front : List WorldStep) (opening : WorldStep) (rest : List WorldStep) (noted : List Noted) (state : State) (before after : Option Standing)
    → steps_of noted ≡ front ++ opening ∷ rest → opening.role ≡ role → ComesBy role chooser header state before noted after → GoWell noted → has_failed after ≡ false
opened_fine role chooser header [] opening rest [] state before after joined own comes well = absurd (cc)
opened_fine role chooser header [] opening rest (one ∷ noted) state before after joined own (next, follows, comes) well =
    let head : step_of one ≡ opening = cc in
    let its : same_role role one.role ≡ true = same_roles role one.role (ap (λ (s : WorldStep). s.role) head ∙ own) in
    stays_fine role chooser header noted (behind_if (same_role role one.role) state (step_of one)) next after comes well.1
    (step_fine chooser header _ one.answer one.part before next well.0.answer (subst (λ (b : Bool). FollowsIf b chooser header state one before next) its follows))
opened_fine role chooser header (step ∷ front) opening rest [] state before after joined own comes well = absurd (cc)
opened_fine role chooser header (step ∷ front) opening rest (one ∷ noted) state before after joined own (next, follows, comes) well =
    let tail : steps_of noted ≡ front ++ opening ∷ rest = cc in
    opened_fine role chooser header front opening rest noted (behind_if (same_role role one.role) state (step_of one)) next after tail own comes well.1

-- ---- a clean event

module _ (id other_id : List ℕ) (supplier receiver : Chooser) (state : Role → State) (noted : List Noted) (next : Scene) (before last : Role → Option Standing)
    (come : BothCome (choosers supplier receiver) (headers id other_id) state before noted last) (well : GoWell noted) (plays : PlaysClean id other_id supplier receiver state (steps_of noted) next last) where
  over_fine : (role : Role) (entries : List Entry) → OpensOver role (headers id other_id role) (state role) (steps_of noted) entries → has_failed (last role) ≡ false
  over_fine role entries over =
      opened_fine role (choosers supplier receiver role) (headers id other_id role) over.before over.opening over.rest noted (state role) (before role) (last role) over.joined over.own.0 (come role) well

  pub both_fine : (role : Role) → has_failed (last role) ≡ false
  both_fine Supplier = over_fine Supplier plays.supplier_entries plays.supplier_opens
  both_fine Receiver = over_fine Receiver plays.receiver_entries plays.receiver_opens

-- so the image holds the entries of its standing
pub holds_now : (header : Header) (last : Option Standing) (image : List ℕ) → HoldsLast header last image → has_failed last ≡ false → (now : Standing) → last ≡ Some now → Holds header now.desk.entries image
holds_now header None image holds fine now is = absurd (cc)
holds_now header (Some standing) image holds fine now is = subst (λ (s : Standing). Holds header s.desk.entries image) (same standing now is) (holds fine)
  where
    same : (one other : Standing) → Some one ≡ Some other → one ≡ other
    same one other e = cc
