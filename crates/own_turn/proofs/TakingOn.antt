-- The sets of a text, taken one by one.
use Rattle.std.proofs.Common.{◌≡◌, ℕ, ◌+◌, List, [], ◌∷◌, length, map, Some, None, Result, Ok, Err, refl, sym, ◌∙◌, ap, subst, arith}
use Rattle.std.specs.Prelude.{IfErr, OnOk}
use Rattle.dsd_values.specs.declared.role.Role.{Role}
use Rattle.dxs_envelope.specs.FirstFault.{refused, whole}
use Rattle.dxs_envelope.specs.Views.{SetAt, Told}
use Rattle.dxs_envelope.specs.declared.fault.EnvelopeFault.{EnvelopeFault}
use Rattle.dsd_journal.specs.declared.adding_fault.StageFault.{StageFault}
use Rattle.dsd_journal.specs.declared.adding_fault.StageFault.TheVariants as stages
use Rattle.own_turn.specs.Desks.{DeskView, desk_of}
use Rattle.own_turn.specs.OwnTurn.{Desk, InTurn, Takes, TakesSet, with_fault}
use Rattle.own_turn.specs.Staging.{StagesTo, TakesTold, TakesToldNext}
use Rattle.own_turn.proofs.Composing.{Leads, leads_done}

abbrev pub bytes_told : Told → List (List ℕ)
bytes_told told = map (λ (set : SetAt). set.bytes) told.sets

module _ (role : Role) (first : DeskView) (told : Told) where
  -- some are taken, and what is left leads on
  pub record IsTaking (now : DeskView) (left : Told) : Type 0 where
    pub leads : Leads (TakesSet role) (bytes_told told) (bytes_told left) (desk_of first) (desk_of now)
    pub fault : left.fault ≡ told.fault

  abbrev Exact : Result (Unit {0}) StageFault → DeskView → Type 0
  Exact result new = StagesTo result (TakesTold role told) (TakesToldNext role told) first new

  module _ (now : DeskView) (left : Told) (is : IsTaking now left) where
    taken_all : left.sets ≡ [] → InTurn (TakesSet role) (bytes_told told) (desk_of first) (desk_of now)
    taken_all e = leads_done (TakesSet role) (bytes_told told) (desk_of first) (desk_of now) (subst (λ (sets : List SetAt). Leads (TakesSet role) (bytes_told told) (map (λ (set : SetAt). set.bytes) sets) (desk_of first) (desk_of now)) e is.leads)

    -- all are taken
    pub taking_ends : left ≡ whole → TakesTold role told (desk_of first) (desk_of now)
    taking_ends e =
        let none : told.fault ≡ None = sym is.fault ∙ ap (λ (t : Told). t.fault) e in
        (desk_of now, taken_all (ap (λ (t : Told). t.sets) e), sym (ap (with_fault (desk_of now)) none))

    -- and the text ends in a fault
    pub taking_refused : (fault : EnvelopeFault) (result : Result (Unit {0}) StageFault) (new : DeskView) → left ≡ refused fault → OnOk result (new ≡ record now { refused = now.refused + 1 })
        → IfErr result (λ e. e ≡ stages.Memory) → Exact result new
    taking_refused fault (Ok done) new e ok err =
        let some : told.fault ≡ Some fault = sym is.fault ∙ ap (λ (t : Told). t.fault) e in
        (desk_of now, taken_all (ap (λ (t : Told). t.sets) e), ap desk_of ok ∙ sym (ap (with_fault (desk_of now)) some))
    taking_refused fault (Err stages.Memory) new e ok err = tt
    taking_refused fault (Err (stages.Full n)) new e ok err = let no : stages.Full n ≡ stages.Memory = err in cc

-- ---- a text that was heard

-- without a heard text there are no sets
pub takes_none : (role : Role) (text : List ℕ) (desk : Desk) → length text ≡ 0 → Takes role text desk desk
takes_none role [] desk none = (desk, refl, refl)
takes_none role (byte ∷ more) desk none = absurd (omega (arith, none))
