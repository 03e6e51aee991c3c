-- What an end hears it has taken then, as far as it runs, whatever its calls answer.
use Rattle.std.proofs.Common.{◌≡◌, ℕ, Bool, true, false, ◌&&◌, List, [], ◌∷◌, ◌++◌, length, Option, Some, None, refl, sym, ◌∙◌, ap, subst}
use Rattle.std.specs.Prelude.{not}
use Rattle.dsd_values.specs.declared.role.Role.{Role}
use Rattle.dsd_values.specs.declared.role.Role.TheVariants.{Receiver, Supplier}
use Rattle.dsd_record.specs.Choices.{Chooser}
use Rattle.dsd_station.specs.declared.call.Call.{Call}
use Rattle.dsd_station.specs.declared.call.Reception.{Reception}
use Rattle.dsd_station.specs.declared.feeding.Given.{Given}
use Rattle.dsd_station.specs.ByPlan.{due_by}
use Rattle.dsd_station.specs.Heard.{answers_in}
use Rattle.dsd_station.specs.Placed.{EachFedBy}
use Rattle.dsd_station.specs.Planned.{Due}
use Rattle.dsd_station.specs.Plans.{with_fed}
use Rattle.dsd_station.specs.Replayed.{State, state_of}
use Rattle.dsd_journal.specs.declared.entry.Entry.{Entry}
use Rattle.dsd_journal.specs.declared.header.Header.{Header}
use Rattle.dsd_end.specs.PollStep.{Done}
use Rattle.dsd_end.specs.PollsHeard.{receptions_of}
use Rattle.dsd_end.specs.Standings.{Standing, first_standing}
use Rattle.dsd_end.proofs.Polling.{next_goes}
use Rattle.cable_world.specs.Diligence.{ComesBy, FollowsIf, Steps}
use Rattle.cable_world.specs.Leaving.{behind_if, state_behind}
use Rattle.cable_world.specs.Noted.{Noted, runs_by, step_of, steps_of}
use Rattle.cable_world.specs.Obeying.{HearsIf, IsPolledIf, IsPolledOut, Makes, Opens}
use Rattle.cable_world.specs.Scenes.{Scene, Side, due, fed, is_nothing, restarted, side, stepped}
use Rattle.cable_world.specs.Steps.{Opening, Poll, other, same_role}
use Rattle.cable_world.specs.declared.answer.Answer.{Answer}
use Rattle.cable_world.specs.declared.answer.Answer.TheVariants as answers
use Rattle.clean_worlds.specs.CleanBeginnings.{CanHear, RunningHear}
use Rattle.clean_worlds.specs.Faultless.{RunningWork}
use Rattle.clean_worlds.specs.WholeFrames.{is_fault}
use Rattle.clean_worlds.proofs.Opened.{opens_so, polls_first, runs_well}
use Rattle.clean_worlds.proofs.Pieces.{AreHeard, are_heard}
use Rattle.clean_worlds.proofs.PolledOnce.{follows_own, polls_well}
use Rattle.clean_worlds.proofs.Stepped.{busy_runs, bytes_fed, fed_own, played_due, played_fed, stepped_other, stepped_own, works_played}

-- It can hear, and its station works.
pub record CanGoOn (standing : Standing) (its : Side) : Type 0 where
  pub can : CanHear standing its
  pub works : (state_of its.log.calls).left ≡ None

-- an end that runs can go on
abbrev pub GoesIfRunning : Option Standing → Side → Type 0
GoesIfRunning standing its = its.runs ≡ true → (now : Standing) × (standing ≡ Some now) × CanGoOn now its

abbrev pub RunningGo : (Role → Option Standing) → Scene → Type 0
RunningGo standing scene = (role : Role) → GoesIfRunning (standing role) (side scene role)

pub running_hear : (standing : Role → Option Standing) (scene : Scene) → RunningGo standing scene → RunningHear standing scene
running_hear standing scene go role on = let (now, is, can) = go role on in (now, is, can.can)

pub running_work : (standing : Role → Option Standing) (scene : Scene) → RunningGo standing scene → RunningWork scene
running_work standing scene go role on = let (now, is, can) = go role on in can.works

-- its first poll was made
record Listens (standing : Standing) (its : Side) : Type 0 where
  later : standing.first ≡ false
  works : (state_of its.log.calls).left ≡ None
  fed : EachFedBy (length its.log.calls) its.log.plan.fed

abbrev ListensIf : Option Standing → Side → Type 0
ListensIf standing its = its.runs ≡ true → (now : Standing) × (standing ≡ Some now) × Listens now its

-- ---- a poll

runs_on : (answer : Answer) → runs_by answer ≡ true → is_fault answer ≡ false
runs_on answers.Opened on = refl
runs_on (answers.NotOpened fault) on = absurd (cc)
runs_on answers.Running on = refl
runs_on (answers.Ended end) on = refl
runs_on (answers.Broken fault) on = absurd (cc)

stays_later : (chooser : Chooser) (standing : Standing) (part : List Call) (done : Done) → Steps chooser standing part done → standing.first ≡ false → done.standing.first ≡ false
stays_later chooser standing part done steps later = (next_goes chooser (λ (set : List ℕ). Unit {0}) (λ text set lent. tt) standing steps.heard done steps.next).first later

polled_listens : (role : Role) (chooser : Chooser) (header : Header) (state : State) (scene : Scene) (one : Noted) (standing : Standing) (after : Option Standing) → Listens standing (side scene role)
    → Makes role Poll scene (step_of one) → FollowsIf (same_role role one.role) chooser header state one (Some standing) after → ListensIf after (side (stepped scene (step_of one)) role)
polled_listens role chooser header state scene one standing after listens makes follows on =
    let now = stepped_own role scene (step_of one) makes.role in
    let running : runs_by one.answer ≡ true = ap (λ (s : Side). s.runs) (sym now) ∙ on in
    let polls = polls_well chooser header (state_behind state (step_of one)).journal one.answer one.part standing after makes.kind (runs_on one.answer running)
    (follows_own role chooser header state one (Some standing) after makes.role follows) in (
      polls.done.standing,
      polls.stands,
      record {
        later = stays_later chooser standing one.part polls.done polls.steps listens.later;
        works = subst (λ (s : Side). (state_of s.log.calls).left ≡ None) (sym now) (works_played (side scene role).log one.part listens.works polls.steps.fine);
        fed = subst (λ (s : Side). EachFedBy (length s.log.calls) s.log.plan.fed) (sym now) (played_fed (side scene role).log one.part listens.fed);
      },
    )

-- ---- polled out

idle_taken : (dues : List Due) (runs : Bool) → runs ≡ true → (runs && not (is_nothing dues)) ≡ false → dues ≡ []
idle_taken [] runs on idle = refl
idle_taken (one ∷ dues) true on idle = absurd (cc)
idle_taken (one ∷ dues) false on idle = absurd (cc)

polled_hears : (role : Role) (chooser : Chooser) (header : Header) (noted : List Noted) (state : State) (scene next : Scene) (before after : Option Standing) → ListensIf before (side scene role)
    → IsPolledOut role scene (steps_of noted) next → ComesBy role chooser header state before noted after → GoesIfRunning after (side next role)
polled_hears role chooser header [] state scene next before after listens (idle, same) comes =
    λ on.
    let runs : (side scene role).runs ≡ true = ap (λ (s : Scene). (side s role).runs) (sym same) ∙ on in
    let (now, is, l) = listens runs in
    (now, comes ∙ is, subst (λ (s : Scene). CanGoOn now (side s role)) (sym same) (record { can = record { later = l.later; fed = l.fed; taken = idle_taken (due (side scene role)) (side scene role).runs runs idle }; works = l.works }))
polled_hears role chooser header (one ∷ noted) state scene next before after listens (busy, makes, out) (mid, follows, comes) =
    let (now, is, l) = listens (busy_runs (side scene role) busy) in
    polled_hears role chooser header noted (behind_if (same_role role one.role) state (step_of one)) (stepped scene (step_of one)) next mid after
    (polled_listens role chooser header state scene one now mid l makes (subst (λ (s : Option Standing). FollowsIf (same_role role one.role) chooser header state one s mid) is follows)) out comes

pub polled_beside : (role : Role) (noted : List Noted) (scene next : Scene) → IsPolledOut role scene (steps_of noted) next → side next (other role) ≡ side scene (other role)
polled_beside role [] scene next (idle, same) = ap (λ (s : Scene). side s (other role)) same
polled_beside role (one ∷ noted) scene next (busy, makes, out) = polled_beside role noted (stepped scene (step_of one)) next out ∙ stepped_other role scene (step_of one) makes.role

-- what is fed and polled out, or not heard
pub heard_on : (runs : Bool) (role : Role) (what : Given) (chooser : Chooser) (header : Header) (noted : List Noted) (state : State) (scene next : Scene) (before after : Option Standing) → GoesIfRunning before (side scene role)
    → HearsIf runs role what scene (steps_of noted) next → ComesBy role chooser header state before noted after → GoesIfRunning after (side next role)
heard_on true role what chooser header noted state scene next before after hears out comes =
    let there = fed_own role scene what in
    let listens : ListensIf before (record (side scene role) { log = with_fed (side scene role).log what }) =
    λ on. let (now, is, can) = hears on in (now, is, record { later = can.can.later; fed = bytes_fed (side scene role) what can.can.fed; works = can.works }) in
    polled_hears role chooser header noted state (fed scene role what) next before after (subst (ListensIf before) (sym there) listens) out comes
heard_on false role what chooser header [] state scene next before after hears (none, same) comes =
    λ on.
    let (now, is, can) = hears (ap (λ (s : Scene). (side s role).runs) (sym same) ∙ on) in
    (now, comes ∙ is, subst (λ (s : Scene). CanGoOn now (side s role)) (sym same) can)
heard_on false role what chooser header (one ∷ noted) state scene next before after hears (none, same) comes = absurd (cc)

-- ---- opened

opened_later : (entries : List Entry) (header : Header) → header.role ≡ Receiver → (first_standing header entries).first ≡ false
opened_later entries header is = ap (λ (r : Role). (first_standing (record header { role = r }) entries).first) is

-- a receiver
pub receiver_hears : (chooser : Chooser) (header : Header) → header.role ≡ Receiver → (noted : List Noted) (state : State) (scene next : Scene) (before after : Option Standing) → Opens Receiver (restarted scene Receiver) (steps_of noted) next
    → ComesBy Receiver chooser header state before noted after → GoesIfRunning after (side next Receiver)
receiver_hears chooser header own [] state scene next before after opens comes = absurd opens
receiver_hears chooser header own (one ∷ more ∷ noted) state scene next before after (makes, (none, same)) comes = absurd (cc)
receiver_hears chooser header own (one ∷ []) state scene next before after (makes, (none, same)) (mid, follows, comes) =
    λ on.
    let runs : (side (stepped (restarted scene Receiver) (step_of one)) Receiver).runs ≡ true = ap (λ (s : Scene). (side s Receiver).runs) (sym same) ∙ on in
    let o = opens_so Receiver chooser header state scene one before mid makes (runs_well Receiver scene one makes runs) follows in (
      first_standing header o.entries,
      comes ∙ o.stands,
      subst (λ (s : Scene). CanGoOn (first_standing header o.entries) (side s Receiver)) (sym same) (record { can = record { later = opened_later o.entries header own; fed = o.fed; taken = o.taken }; works = o.works }),
    )

-- the first poll of a handheld
first_hears : (chooser : Chooser) (header : Header) (state : State) (scene : Scene) (one : Noted) (standing : Standing) (after : Option Standing) → standing.first ≡ true
    → (state_of (side scene Supplier).log.calls).left ≡ None → EachFedBy (length (side scene Supplier).log.calls) (side scene Supplier).log.plan.fed → due (side scene Supplier) ≡ [] → Makes Supplier Poll scene (step_of one)
    → FollowsIf (same_role Supplier one.role) chooser header state one (Some standing) after → GoesIfRunning after (side (stepped scene (step_of one)) Supplier)
first_hears chooser header state scene one standing after first works fed none makes follows on =
    let its : Side = side scene Supplier in
    let now = stepped_own Supplier scene (step_of one) makes.role in
    let running : runs_by one.answer ≡ true = ap (λ (s : Side). s.runs) (sym now) ∙ on in
    let polls = polls_well chooser header (state_behind state (step_of one)).journal one.answer one.part standing after makes.kind (runs_on one.answer running)
    (follows_own Supplier chooser header state one (Some standing) after makes.role follows) in
    let (deaf, done) = polls_first standing.first chooser standing polls.steps.heard polls.done first polls.steps.next.polls in
    let left : List Due = due_by its.log.plan.fed (its.log.calls ++ one.part) in
    let nothing : answers_in one.part ≡ [] = polls.steps.listened ∙ ap (λ (h : Option Reception). receptions_of (h ∷ [])) deaf in
    let still : left ≡ [] = subst (λ (l : List Reception). AreHeard l (due its) left) nothing (are_heard its.log.plan its.log.calls one.part fed makes.answers) ∙ none in (
      polls.done.standing,
      polls.stands,
      record {
        can = record {
          later = ap (λ (d : Done). d.standing.first) done;
          fed = subst (λ (s : Side). EachFedBy (length s.log.calls) s.log.plan.fed) (sym now) (played_fed its.log one.part fed);
          taken = ap due now ∙ played_due its.log one.part ∙ still;
        };
        works = subst (λ (s : Side). (state_of s.log.calls).left ≡ None) (sym now) (works_played its.log one.part works polls.steps.fine);
      },
    )

-- a handheld
module _ (chooser : Chooser) (header : Header) (own : header.role ≡ Supplier) where
  polled_if : (runs : Bool) (one : Noted) (noted : List Noted) (state later_state : State) (scene next : Scene) (before mid after : Option Standing) → Makes Supplier Opening (restarted scene Supplier) (step_of one)
      → (side (stepped (restarted scene Supplier) (step_of one)) Supplier).runs ≡ runs → IsPolledIf runs Supplier (stepped (restarted scene Supplier) (step_of one)) (steps_of noted) next
      → FollowsIf (same_role Supplier one.role) chooser header state one before mid → ComesBy Supplier chooser header later_state mid noted after → GoesIfRunning after (side next Supplier)
  polled_if false one noted state later_state scene next before mid after makes runs (none, same) follows comes =
      λ on. let is : (side next Supplier).runs ≡ false = ap (λ (s : Scene). (side s Supplier).runs) same ∙ runs in absurd (cc)
  polled_if true one [] state later_state scene next before mid after makes runs (step, only, polls, same) follows comes = absurd (cc)
  polled_if true one (two ∷ more ∷ noted) state later_state scene next before mid after makes runs (step, only, polls, same) follows comes = absurd (cc)
  polled_if true one (two ∷ []) state later_state scene next before mid after makes runs (step, only, polls, same) follows (last, then_follows, ends) =
      let new : Scene = stepped (restarted scene Supplier) (step_of one) in
      let o = opens_so Supplier chooser header state scene one before mid makes (runs_well Supplier scene one makes runs) follows in
      let is : step_of two ≡ step = cc in
      let first : (first_standing header o.entries).first ≡ true = ap (λ (r : Role). (first_standing (record header { role = r }) o.entries).first) own in
      let hears = first_hears chooser header later_state new two (first_standing header o.entries) last first o.works o.fed o.taken (subst (Makes Supplier Poll new) (sym is) polls)
      (subst (λ (s : Option Standing). FollowsIf (same_role Supplier two.role) chooser header later_state two s last) o.stands then_follows) in
      subst (λ (s : Scene). GoesIfRunning after (side s Supplier)) (sym (same ∙ ap (stepped new) (sym is))) (subst (λ (s : Option Standing). GoesIfRunning s (side (stepped new (step_of two)) Supplier)) (sym ends) hears)

  pub supplier_hears : (noted : List Noted) (state : State) (scene next : Scene) (before after : Option Standing) → Opens Supplier (restarted scene Supplier) (steps_of noted) next
      → ComesBy Supplier chooser header state before noted after → GoesIfRunning after (side next Supplier)
  supplier_hears [] state scene next before after opens comes = absurd opens
  supplier_hears (one ∷ noted) state scene next before after (makes, first) (mid, follows, comes) =
      polled_if (side (stepped (restarted scene Supplier) (step_of one)) Supplier).runs one noted state (behind_if (same_role Supplier one.role) state (step_of one)) scene next before mid after makes refl first follows comes
