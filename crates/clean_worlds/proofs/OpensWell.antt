-- CLEAN opens both ends: that goes well, where nothing armed is left.
use Rattle.std.proofs.Common.{◌≡◌, Bool, true, List, [], ◌∷◌, Option, refl, sym, ◌∙◌, ap, subst}
use Rattle.dsd_values.specs.declared.role.Role.{Role}
use Rattle.dsd_values.specs.declared.role.Role.TheVariants.{Receiver, Supplier}
use Rattle.dsd_record.specs.Choices.{Chooser}
use Rattle.dsd_station.specs.declared.feeding.Given.TheVariants as given
use Rattle.dsd_station.specs.Replayed.{State}
use Rattle.dsd_journal.specs.declared.header.Header.{Header}
use Rattle.dsd_end.specs.Standings.{Standing, first_standing}
use Rattle.cable_world.specs.Diligence.{ComesBy, FollowsIf}
use Rattle.cable_world.specs.Leaving.{behind_if, state_after, state_behind}
use Rattle.cable_world.specs.Living.{CallSo}
use Rattle.cable_world.specs.Noted.{Noted, step_of, steps_of}
use Rattle.cable_world.specs.Obeying.{Hears, IsPolledIf, Makes, Opens, Unplugs}
use Rattle.cable_world.specs.Scenes.{Scene, Side, restarted, side, stepped, with_waiting}
use Rattle.cable_world.specs.Steps.{Poll, WorldStep, same_role}
use Rattle.clean_worlds.specs.CleanBeginnings.{HearsIfRunning, RunningHear}
use Rattle.clean_worlds.specs.Faultless.{AreSpared, IsSpared, RunningWork, WorksIfRunning}
use Rattle.clean_worlds.specs.WholeFrames.{GoWell}
use Rattle.clean_worlds.specs.WorldHalls.{BothCome}
use Rattle.clean_worlds.proofs.CutsWell.{cut_well}
use Rattle.clean_worlds.proofs.NotedParts.{come_parts}
use Rattle.clean_worlds.proofs.Opened.{OpensWell, opens_well}
use Rattle.clean_worlds.proofs.RoundsClean.{hears_apart}
use Rattle.clean_worlds.proofs.RoundsWell.{joined_well}
use Rattle.clean_worlds.proofs.ScriptsKept.{each_role, heard_beside}
use Rattle.clean_worlds.proofs.StartsWell.{StepsWell, begins_unhindered, opens_unhindered}

module _ (chooser : Role → Chooser) (header : Role → Header) where
  -- ---- the cable is unplugged

  pub record UnplugsWell (noted : List Noted) (next : Scene) : Type 0 where
    pub well : GoWell noted
    pub spared : AreSpared next

  pub unplugs_well : (state : Role → State) (scene next : Scene) (before after : Role → Option Standing) (noted : List Noted) → RunningHear before scene → RunningWork scene → AreSpared scene → BothCome chooser header state before noted after
      → CallSo (steps_of noted) → Unplugs scene (steps_of noted) next → UnplugsWell noted next
  unplugs_well state scene next before after noted hear work spared come calls both =
      let bare : Scene = with_waiting scene [] in
      let p = come_parts chooser header state before noted both.first both.rest after come calls both.joined in
      let first : Hears Supplier given.Unplugged bare (steps_of p.front) both.between = subst (λ (l : List WorldStep). Hears Supplier given.Unplugged bare l both.between) (sym p.is) both.before in
      let rest : Hears Receiver given.Unplugged both.between (steps_of p.back) next = subst (λ (l : List WorldStep). Hears Receiver given.Unplugged both.between l next) (sym p.then_is) both.behind in
      let one = cut_well Supplier (chooser Supplier) (header Supplier) p.front (state Supplier) bare both.between (before Supplier) (p.mid Supplier) (hear Supplier) (work Supplier) (spared Supplier) first (p.come Supplier) p.calls in
      let stays : p.mid Receiver ≡ before Receiver =
      hears_apart (side bare Supplier).runs Supplier Receiver (chooser Receiver) (header Receiver) refl given.Unplugged p.front (state Receiver) bare both.between (before Receiver) (p.mid Receiver) first (p.come Receiver) in
      let same : side both.between Receiver ≡ side scene Receiver = heard_beside (side bare Supplier).runs Supplier given.Unplugged p.front bare both.between first in
      let two = cut_well Receiver (chooser Receiver) (header Receiver) p.back (state_after Receiver (state Receiver) both.first) both.between next (p.mid Receiver) (after Receiver)
      (subst (λ (s : Side). HearsIfRunning (p.mid Receiver) s) (sym same) (subst (λ (s : Option Standing). HearsIfRunning s (side scene Receiver)) (sym stays) (hear Receiver)))
      (subst WorksIfRunning (sym same) (work Receiver)) (subst (λ (s : Side). IsSpared s.log) (sym same) (spared Receiver)) rest (p.come_then Receiver) p.calls_then in
      let there : side next Supplier ≡ side both.between Supplier = heard_beside (side both.between Receiver).runs Receiver given.Unplugged p.back both.between next rest in
      record {
        well = subst GoWell (sym p.parts) (joined_well p.front p.back one.well two.well);
        spared = each_role (λ (role : Role). IsSpared (side next role).log) Receiver two.spared (subst (λ (s : Side). IsSpared s.log) (sym there) one.spared);
      }

  -- ---- an end is opened

  pub record StartsWell (role : Role) (noted : List Noted) (next : Scene) : Type 0 where
    pub well : GoWell noted
    pub spared : IsSpared (side next role).log
    pub works : WorksIfRunning (side next role)

  pub receiver_unhindered : (noted : List Noted) (state : State) (scene next : Scene) (before after : Option Standing) → IsSpared (side scene Receiver).log → Opens Receiver (restarted scene Receiver) (steps_of noted) next
      → ComesBy Receiver (chooser Receiver) (header Receiver) state before noted after → StartsWell Receiver noted next
  receiver_unhindered [] state scene next before after spared opens comes = absurd opens
  receiver_unhindered (one ∷ more ∷ noted) state scene next before after spared (makes, (none, same)) comes = absurd (cc)
  receiver_unhindered (one ∷ []) state scene next before after spared (makes, (none, same)) (mid, follows, comes) =
      let s = opens_unhindered Receiver (chooser Receiver) (header Receiver) state scene one before mid spared makes follows in
      record {
        well = (s.well, tt);
        spared = subst (λ (x : Scene). IsSpared (side x Receiver).log) (sym same) s.spared;
        works = subst (λ (x : Scene). WorksIfRunning (side x Receiver)) (sym same) s.works;
      }

  pub supplier_unhindered : (noted : List Noted) (state : State) (scene next : Scene) (before after : Option Standing) → (header Supplier).role ≡ Supplier → IsSpared (side scene Supplier).log
      → Opens Supplier (restarted scene Supplier) (steps_of noted) next → ComesBy Supplier (chooser Supplier) (header Supplier) state before noted after → CallSo (steps_of noted) → StartsWell Supplier noted next
  supplier_unhindered [] state scene next before after own spared opens comes calls = absurd opens
  supplier_unhindered (one ∷ noted) state scene next before after own spared (makes, first) (mid, follows, comes) calls =
      let new : Scene = stepped (restarted scene Supplier) (step_of one) in
      let s = opens_unhindered Supplier (chooser Supplier) (header Supplier) state scene one before mid spared makes follows in
      let o = opens_well Supplier (chooser Supplier) (header Supplier) state scene one before mid makes calls.0 s.well follows in
      let (step, only, polls, same) = subst (λ (b : Bool). IsPolledIf b Supplier new (steps_of noted) next) o.leaves.runs first in
      by noted s o step only polls same comes
    where
      by : (noted : List Noted) → StepsWell Supplier one (stepped (restarted scene Supplier) (step_of one))
          → OpensWell Supplier (header Supplier) (state_behind state (step_of one)).journal scene (stepped (restarted scene Supplier) (step_of one)) mid → (step : WorldStep)
          → steps_of noted ≡ step ∷ [] → Makes Supplier Poll (stepped (restarted scene Supplier) (step_of one)) step → next ≡ stepped (stepped (restarted scene Supplier) (step_of one)) step
          → ComesBy Supplier (chooser Supplier) (header Supplier) (behind_if (same_role Supplier one.role) state (step_of one)) mid noted after → StartsWell Supplier (one ∷ noted) next
      by [] s o step only polls same comes = absurd (cc)
      by (two ∷ more ∷ noted) s o step only polls same comes = absurd (cc)
      by (two ∷ []) s o step only polls same (last, follows, ends) =
          let new : Scene = stepped (restarted scene Supplier) (step_of one) in
          let is : step_of two ≡ step = cc in
          let makes : Makes Supplier Poll new (step_of two) = subst (Makes Supplier Poll new) (sym is) polls in
          let there : next ≡ stepped new (step_of two) = same ∙ ap (stepped new) (sym is) in
          let first : (first_standing (header Supplier) o.leaves.entries).first ≡ true = ap (λ (r : Role). (first_standing (record (header Supplier) { role = r }) o.leaves.entries).first) own in
          let b = begins_unhindered Supplier (chooser Supplier) (header Supplier) (behind_if (same_role Supplier one.role) state (step_of one)) (first_standing (header Supplier) o.leaves.entries) new two last first refl s.spared s.works
          o.leaves.runs makes
          (subst (λ (x : Option Standing). FollowsIf (same_role Supplier two.role) (chooser Supplier) (header Supplier) (behind_if (same_role Supplier one.role) state (step_of one)) two x last) o.leaves.stands follows) in
          record {
            well = (s.well, (b.well, tt));
            spared = subst (λ (x : Scene). IsSpared (side x Supplier).log) (sym there) b.spared;
            works = subst (λ (x : Scene). WorksIfRunning (side x Supplier)) (sym there) b.works;
          }
