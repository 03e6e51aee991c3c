-- Progress by steps one behind the other, and what it tells of all of them.
use Rattle.std.proofs.Common.{◌≡◌, ℕ, Bool, true, false, List, [], ◌∷◌, ◌++◌, refl, sym, ◌∙◌, ap, subst, Option, Some, None}
use Rattle.std.specs.Option.{option_map}
use Rattle.dsd_values.specs.declared.role.Role.{Role}
use Rattle.dsd_values.specs.declared.role.Role.TheVariants.{Receiver, Supplier}
use Rattle.dsd_station.specs.declared.call.Call.{Call}
use Rattle.dsd_station.specs.Replayed.{IsFine, State, state_of}
use Rattle.cable_world.specs.Changing.{KeepsEnd}
use Rattle.cable_world.specs.Diligence.{ComesBy, Follows, FollowsIf}
use Rattle.cable_world.specs.Holding.{HoldsLast}
use Rattle.cable_world.specs.Leaving.{Begins, GoesOn, LeavesRuns, behind_if, image_left}
use Rattle.cable_world.specs.Living.{begins_run, is_opening}
use Rattle.cable_world.specs.Noted.{Noted, kind_of, step_of, steps_of}
use Rattle.cable_world.specs.Progressing.{BeginsAnew, ComesBehind, ComesIf, ComesOn, ComesTo, IsPlaying, LeavesSo, OneEnd, OpenRun, OpensNot, Progress, RunsBy, RunsFurther, begun_by, longer, progress_at}
use Rattle.cable_world.specs.Seats.{SeatView, with_spoken}
use Rattle.cable_world.specs.Steps.{other, same_role}
use Rattle.cable_world.specs.declared.answer.Answer.{Answer}

-- ---- one behind the other

comes_both : (its : OneEnd) (a b : List Noted) (old between new : Progress) → ComesTo its old a between → ComesTo its between b new → ComesTo its old (a ++ b) new
comes_both its [] b old between new first second = subst (λ (p : Progress). ComesTo its p b new) first second
comes_both its (one ∷ a) b old between new (next, step, rest) second = (next, step, comes_both its a b next between new rest second)

pub on_then : (its : OneEnd) (a b : List Noted) (old mid new : SeatView) → ComesOn its old a mid → ComesOn its mid b new → ComesOn its old (a ++ b) new
on_then its a b old mid new one two = λ standing run so.
    let (between, on, comes, there) = one standing run so in
    let (last, later, goes, then) = two between on there in
    (last, later, comes_both its a b (progress_at old standing run) (progress_at mid between on) (progress_at new last later) comes goes, then)

-- no step: whatever else the seat has, the end is where it was
pub on_kept : (its : OneEnd) (old new : SeatView) → KeepsEnd old new → ComesOn its old [] new
on_kept its old new keeps = λ standing run so. (
  standing,
  run,
  ap (λ (c : List Call). record { state = state_of c; standing = standing; run = run }) keeps.calls,
  record {
    fine = subst (λ (c : List Call). IsFine (state_of c)) (sym keeps.calls) so.fine;
    refused = so.refused ∙ sym keeps.refused;
    leaves = subst (λ (c : List Call). LeavesSo its run (state_of c)) (sym keeps.calls) so.leaves;
    holds = subst (λ (c : List Call). HoldsLast its.header standing (image_left (state_of c))) (sym keeps.calls) so.holds;
    plays = λ player is. subst (λ (c : List Call). IsPlaying its standing run c player) (sym keeps.calls) (so.plays player (sym keeps.player ∙ is));
  },
)

-- which frames were spoken is no part of it
on_spoken : (its : OneEnd) (made : List Noted) (old seat new : SeatView) (frames : List (List ℕ)) → new ≡ with_spoken seat frames → ComesOn its old made seat → ComesOn its old made new
on_spoken its made old seat new frames is on = subst (ComesOn its old made) (sym is) (λ standing run so.
    let (last, later, comes, there) = on standing run so in
    (last, later, comes, record { fine = there.fine; refused = there.refused; leaves = there.leaves; holds = there.holds; plays = there.plays }))

-- a step of the other end
on_other : (its : OneEnd) (one : Noted) (seat : SeatView) → same_role its.role one.role ≡ false → ComesOn its seat (one ∷ []) seat
on_other its one seat not = λ standing run so.
    let at : Progress = progress_at seat standing run in
    (standing, run, (at, subst (λ (b : Bool). ComesIf b its at one at) (sym not) refl, refl), so)

-- a step of one end at its seat, and the other end at its own
pub on_noted : (its : OneEnd) (role far : Role) (answer : Answer) (part : List Call) (own_old own_seat own_new other_old other_new : SeatView) (frames : List (List ℕ)) → other far ≡ role
    → own_new ≡ with_spoken own_seat frames → other_new ≡ other_old
    → (its.role ≡ role → ComesOn its own_old (record { role = its.role; answer = answer; part = part } ∷ []) own_seat)
    → (its.role ≡ role → ComesOn its own_old (record { role = role; answer = answer; part = part } ∷ []) own_new)
    × (its.role ≡ far → ComesOn its other_old (record { role = role; answer = answer; part = part } ∷ []) other_new)
on_noted its role far answer part own_old own_seat own_new other_old other_new frames apart own_is other_is comes = (
  (λ r. on_spoken its (record { role = role; answer = answer; part = part } ∷ []) own_old own_seat own_new frames own_is
      (subst (λ (x : Role). ComesOn its own_old (record { role = x; answer = answer; part = part } ∷ []) own_seat) r (comes r))),
  (λ r. subst (ComesOn its other_old (record { role = role; answer = answer; part = part } ∷ [])) (sym other_is)
      (on_other its (record { role = role; answer = answer; part = part }) other_old (subst (λ (x : Role). same_role its.role x ≡ false) apart (subst (λ (x : Role). same_role x (other far) ≡ false) (sym r) (not_same far))))),
)
  where
    not_same : (role : Role) → same_role role (other role) ≡ false
    not_same Supplier = refl
    not_same Receiver = refl

-- ---- what is told of all

same_run : (a b : OpenRun) → Some a ≡ Some b → a ≡ b
same_run a b e = cc

differ : {run : OpenRun} → None ≡ Some run → ⊥
differ e = cc

module _ (its : OneEnd) where
  own : (one : Noted) (old next : Progress) → ComesIf (same_role its.role one.role) its old one next → same_role its.role one.role ≡ true → ComesBehind its old one next
  own one old next step is = subst (λ (b : Bool). ComesIf b its old one next) is step

  others : (one : Noted) (old next : Progress) → ComesIf (same_role its.role one.role) its old one next → same_role its.role one.role ≡ false → next ≡ old
  others one old next step is = subst (λ (b : Bool). ComesIf b its old one next) is step

  by_begin : (one : Noted) (old next : Progress) → ComesBehind its old one next → begins_run (step_of one) ≡ true → BeginsAnew its old one next
  by_begin one old next s begins = subst (λ (b : Bool). RunsBy b (is_opening (kind_of one.answer)) its old one next) begins s.runs

  by_opening : (one : Noted) (old next : Progress) → ComesBehind its old one next → begins_run (step_of one) ≡ false → is_opening (kind_of one.answer) ≡ true → OpensNot old one next
  by_opening one old next s begins opening = subst (λ (b : Bool). RunsBy false b its old one next) opening (subst (λ (b : Bool). RunsBy b (is_opening (kind_of one.answer)) its old one next) begins s.runs)

  by_poll : (one : Noted) (old next : Progress) → ComesBehind its old one next → begins_run (step_of one) ≡ false → is_opening (kind_of one.answer) ≡ false → RunsFurther its old one next
  by_poll one old next s begins opening = subst (λ (b : Bool). RunsBy false b its old one next) opening (subst (λ (b : Bool). RunsBy b (is_opening (kind_of one.answer)) its old one next) begins s.runs)

  -- before the first run no end is polled
  only_opening : (one : Noted) (old next : Progress) → ComesBehind its old one next → begins_run (step_of one) ≡ false → old.run ≡ None → OpensNot old one next
  only_opening one old next s begins is = go (is_opening (kind_of one.answer)) refl
    where
      go : (opening : Bool) → is_opening (kind_of one.answer) ≡ opening → OpensNot old one next
      go true o = by_opening one old next s begins o
      go false o = absurd (differ (sym is ∙ (by_poll one old next s begins o).was))

  -- a run that went on before still does, unless another begins
  still_on : (one : Noted) (old next : Progress) (run : OpenRun) → ComesBehind its old one next → begins_run (step_of one) ≡ false → old.run ≡ Some run → next.run ≡ Some (longer one.part run)
  still_on one old next run s begins is = go (is_opening (kind_of one.answer)) refl
    where
      go : (opening : Bool) → is_opening (kind_of one.answer) ≡ opening → next.run ≡ Some (longer one.part run)
      go true o = (by_opening one old next s begins o).run ∙ ap (λ (r : Option OpenRun). option_map (longer one.part) r) is
      go false o = let f = by_poll one old next s begins o in f.now ∙ ap (λ (r : OpenRun). Some (longer one.part r)) (same_run f.run run (sym f.was ∙ is))

  goes_by : (noted : List Noted) (old new : Progress) (run : OpenRun) → old.run ≡ Some run → ComesTo its old noted new → GoesOn its.role its.header old.state run.first run.heard run.gone (steps_of noted)
  goes_by [] old new run is comes = tt
  goes_by (one ∷ noted) old new run is (next, step, rest) = (
    (λ o. goes_by noted old new run is (subst (λ (p : Progress). ComesTo its p noted new) (others one old next step o) rest)),
    (λ o b k.
        let s = own one old next step o in
        let f = by_poll one old next s b k in
        let same : f.run ≡ run = same_run f.run run (sym f.was ∙ is) in (
          subst IsFine s.state f.fine,
          subst (λ (x : State). LeavesRuns its.role its.header run.first (longer one.part run).heard (longer one.part run).gone x) s.state
              (subst (λ (r : OpenRun). LeavesRuns its.role its.header r.first (longer one.part r).heard (longer one.part r).gone next.state) same f.leaves),
        )),
    (λ o b k. let f = by_opening one old next (own one old next step o) b k in (f.unwriting, f.silent)),
    (λ o b.
        let s = own one old next step o in
        subst (λ (x : State). GoesOn its.role its.header x run.first (longer one.part run).heard (longer one.part run).gone (steps_of noted)) s.state
        (goes_by noted next new (longer one.part run) (still_on one old next run s b is) rest)),
    (λ o b.
        let s = own one old next step o in
        let f = by_begin one old next s b in (
          f.first,
          f.begins,
          subst (λ (x : State). GoesOn its.role its.header x f.first (begun_by f.first one.part).heard (begun_by f.first one.part).gone (steps_of noted)) s.state
              (goes_by noted next new (begun_by f.first one.part) f.run rest),
        )),
  )

  pub begins_by : (noted : List Noted) (old new : Progress) → old.run ≡ None → ComesTo its old noted new → Begins its.role its.header old.state (steps_of noted)
  begins_by [] old new is comes = tt
  begins_by (one ∷ noted) old new is (next, step, rest) = (
    (λ o. begins_by noted old new is (subst (λ (p : Progress). ComesTo its p noted new) (others one old next step o) rest)),
    (λ o b.
        let s = own one old next step o in
        let f = only_opening one old next s b is in
        (f.unwriting, subst (λ (x : State). Begins its.role its.header x (steps_of noted)) s.state (begins_by noted next new (f.run ∙ ap (λ (r : Option OpenRun). option_map (longer one.part) r) is) rest))),
    (λ o b.
        let s = own one old next step o in
        let f = by_begin one old next s b in (
          f.first,
          f.begins,
          subst (λ (x : State). GoesOn its.role its.header x f.first (begun_by f.first one.part).heard (begun_by f.first one.part).gone (steps_of noted)) s.state
              (goes_by noted next new (begun_by f.first one.part) f.run rest),
        )),
  )

  follows_if : (own : Bool) (one : Noted) (old next : Progress) → same_role its.role one.role ≡ own → ComesIf own its old one next → FollowsIf own its.chooser its.header old.state one old.standing next.standing
  follows_if true one old next o s = subst (λ (x : State). Follows its.chooser its.header x.journal one.answer one.part old.standing next.standing) s.state s.follows
  follows_if false one old next o same = ap (λ (p : Progress). p.standing) same

  state_if : (own : Bool) (one : Noted) (old next : Progress) → ComesIf own its old one next → next.state ≡ behind_if own old.state (step_of one)
  state_if true one old next s = s.state
  state_if false one old next same = ap (λ (p : Progress). p.state) same

  pub diligent_by : (noted : List Noted) (old new : Progress) → ComesTo its old noted new → ComesBy its.role its.chooser its.header old.state old.standing noted new.standing
  diligent_by [] old new same = ap (λ (p : Progress). p.standing) same
  diligent_by (one ∷ noted) old new (next, step, rest) = (
    next.standing,
    follows_if (same_role its.role one.role) one old next refl step,
    subst (λ (x : State). ComesBy its.role its.chooser its.header x next.standing noted new.standing) (state_if (same_role its.role one.role) one old next step) (diligent_by noted next new rest),
  )
