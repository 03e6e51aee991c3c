-- CLEAN unplugs the cable and opens both ends.
use Rattle.std.proofs.Common.{◌≡◌, Bool, true, false, List, [], ◌∷◌, Option, Some, refl, sym, ◌∙◌, ap, subst}
use Rattle.dsd_values.specs.declared.role.Role.{Role}
use Rattle.dsd_values.specs.declared.role.Role.TheVariants.{Receiver, Supplier}
use Rattle.dsd_record.specs.Choices.{Chooser}
use Rattle.dsd_station.specs.declared.feeding.Given.TheVariants as given
use Rattle.dsd_station.specs.Replayed.{State}
use Rattle.dsd_journal.specs.declared.header.Header.{Header}
use Rattle.dsd_end.specs.Standings.{Standing, first_standing}
use Rattle.cable_world.specs.Diligence.{ComesBy, FollowsIf}
use Rattle.cable_world.specs.Leaving.{behind_if, state_after, state_behind}
use Rattle.cable_world.specs.Living.{CallSo}
use Rattle.cable_world.specs.Noted.{Noted, step_of, steps_of}
use Rattle.cable_world.specs.Obeying.{Hears, IsPolledIf, Makes, Opens, Starts, StartsIf, Unplugs}
use Rattle.cable_world.specs.Scenes.{Scene, Side, restarted, side, stepped, with_waiting}
use Rattle.cable_world.specs.Steps.{Opening, Poll, WorldStep, same_role}
use Rattle.clean_worlds.specs.CleanBeginnings.{CanHear, MadeWell, RunningHear}
use Rattle.clean_worlds.specs.WholeFrames.{GoWell}
use Rattle.clean_worlds.proofs.NotedParts.{split_made}
use Rattle.clean_worlds.proofs.Opened.{Begins, OpensWell, begins_well, opens_well}
use Rattle.clean_worlds.proofs.RoundsClean.{follows_other, hears_apart}
use Rattle.clean_worlds.proofs.Unplugging.{IsCut, cut_end}

module _ (chooser : Role → Chooser) (header : Role → Header) where
  -- ---- the cable is unplugged

  pub record BothCut (next : Scene) : Type 0 where
    pub rests : (role : Role) → (side next role).runs ≡ false
    pub waiting : next.waiting ≡ []

  pub both_cut : (state : Role → State) (scene next : Scene) (before after : Role → Option Standing) (steps : List WorldStep) → RunningHear before scene → MadeWell chooser header state before steps after
      → Unplugs scene steps next → BothCut next
  both_cut state scene next before after steps hear made both =
      let bare : Scene = with_waiting scene [] in
      let parts = split_made chooser header state before steps both.first both.rest after made both.joined in
      let first : Hears Supplier given.Unplugged bare (steps_of parts.front.noted) both.between = subst (λ (l : List WorldStep). Hears Supplier given.Unplugged bare l both.between) (sym parts.front.is) both.before in
      let rest : Hears Receiver given.Unplugged both.between (steps_of parts.back.noted) next = subst (λ (l : List WorldStep). Hears Receiver given.Unplugged both.between l next) (sym parts.back.is) both.behind in
      let one = cut_end Supplier (chooser Supplier) (header Supplier) parts.front.noted (state Supplier) bare both.between (before Supplier) (parts.mid Supplier) (hear Supplier) first (parts.front.come Supplier) parts.front.calls
      parts.front.well in
      let still : parts.mid Receiver ≡ before Receiver =
      hears_apart (side bare Supplier).runs Supplier Receiver (chooser Receiver) (header Receiver) refl given.Unplugged parts.front.noted (state Receiver) bare both.between (before Receiver) (parts.mid Receiver) first
      (parts.front.come Receiver) in
      let two = cut_end Receiver (chooser Receiver) (header Receiver) parts.back.noted (state_after Receiver (state Receiver) both.first) both.between next (parts.mid Receiver) (after Receiver)
      (hear_on both.between (parts.mid Receiver) one.apart still) rest (parts.back.come Receiver) parts.back.calls parts.back.well in
      record { rests = rests both.between one two; waiting = two.waiting ∙ one.waiting }
    where
      hear_on : (between : Scene) (mid : Option Standing) → side between Receiver ≡ scene.receiver → mid ≡ before Receiver → (side between Receiver).runs ≡ true
          → (now : Standing) × (mid ≡ Some now) × CanHear now (side between Receiver)
      hear_on between mid same still on =
          let (now, is, can) = hear Receiver (ap (λ (s : Side). s.runs) (sym same) ∙ on) in
          (now, still ∙ is, subst (CanHear now) (sym same) can)

      rests : (between : Scene) → IsCut Supplier (with_waiting scene []) between → IsCut Receiver between next → (role : Role) → (side next role).runs ≡ false
      rests between one two Supplier = ap (λ (s : Side). s.runs) two.apart ∙ one.rests
      rests between one two Receiver = two.rests

  -- ---- the receiver is opened

  pub record ReceiverOpens (state : State) (scene next : Scene) (steps : List WorldStep) (after : Option Standing) : Type 0 where
    pub opening : WorldStep
    pub only : steps ≡ opening ∷ []
    pub own : (opening.role ≡ Receiver) × (opening.kind ≡ Opening)
    pub opens : OpensWell Receiver (header Receiver) (state_behind state opening).journal scene next after

  receiver_started : (noted : List Noted) (state : State) (scene next : Scene) (before after : Option Standing) → Opens Receiver (restarted scene Receiver) (steps_of noted) next
      → ComesBy Receiver (chooser Receiver) (header Receiver) state before noted after → CallSo (steps_of noted) → GoWell noted → ReceiverOpens state scene next (steps_of noted) after
  receiver_started [] state scene next before after opens comes calls well = absurd opens
  receiver_started (one ∷ []) state scene next before after (makes, (none, same)) (mid, follows, comes) calls well =
      let o = opens_well Receiver (chooser Receiver) (header Receiver) state scene one before mid makes calls.0 well.0 follows in
      record {
        opening = step_of one;
        only = refl;
        own = (makes.role, makes.kind);
        opens = subst (λ (s : Scene). OpensWell Receiver (header Receiver) (state_behind state (step_of one)).journal scene s after) (sym same)
            (subst (OpensWell Receiver (header Receiver) (state_behind state (step_of one)).journal scene (stepped (restarted scene Receiver) (step_of one))) (sym comes) o);
      }
  receiver_started (one ∷ more ∷ noted) state scene next before after (makes, (none, same)) comes calls well = absurd (cc)

  pub receiver_opens : (state : Role → State) (scene next : Scene) (before after : Role → Option Standing) (steps : List WorldStep) → (side scene Receiver).runs ≡ false
      → MadeWell chooser header state before steps after → Starts Receiver scene steps next → ReceiverOpens (state Receiver) scene next steps (after Receiver)
  receiver_opens state scene next before after steps rests made starts =
      let opens : Opens Receiver (restarted scene Receiver) (steps_of made.noted) next =
      subst (λ (l : List WorldStep). Opens Receiver (restarted scene Receiver) l next) (sym made.is) (subst (λ (b : Bool). StartsIf b Receiver scene steps next) rests starts) in
      subst (λ (l : List WorldStep). ReceiverOpens (state Receiver) scene next l (after Receiver)) made.is
      (receiver_started made.noted (state Receiver) scene next (before Receiver) (after Receiver) opens (made.come Receiver) made.calls made.well)

  -- ---- the handheld is opened, and polled once

  pub record SupplierOpens (state : State) (scene next : Scene) (steps : List WorldStep) (after their_before their_after : Option Standing) : Type 0 where
    pub opening : WorldStep
    pub poll : WorldStep
    pub only : steps ≡ opening ∷ poll ∷ []
    pub own : (opening.role ≡ Supplier) × (opening.kind ≡ Opening)
    pub new : Scene
    pub mid : Option Standing
    pub opens : OpensWell Supplier (header Supplier) (state_behind state opening).journal scene new mid
    pub begins : Begins Supplier (first_standing (header Supplier) opens.leaves.entries) new next after
    pub still : their_after ≡ their_before

  supplier_started : (noted : List Noted) (state theirs : State) (scene next : Scene) (before after their_before their_after : Option Standing) → (header Supplier).role ≡ Supplier
      → Opens Supplier (restarted scene Supplier) (steps_of noted) next → ComesBy Supplier (chooser Supplier) (header Supplier) state before noted after
      → ComesBy Receiver (chooser Receiver) (header Receiver) theirs their_before noted their_after → CallSo (steps_of noted) → GoWell noted
      → SupplierOpens state scene next (steps_of noted) after their_before their_after
  supplier_started [] state theirs scene next before after their_before their_after own opens comes their calls well = absurd opens
  supplier_started (one ∷ noted) state theirs scene next before after their_before their_after own (makes, first) (mid, follows, comes) (their_mid, their_follows, their_comes) calls well =
      let new : Scene = stepped (restarted scene Supplier) (step_of one) in
      let o = opens_well Supplier (chooser Supplier) (header Supplier) state scene one before mid makes calls.0 well.0 follows in
      let (step, only, polls, same) = subst (λ (b : Bool). IsPolledIf b Supplier new (steps_of noted) next) o.leaves.runs first in
      let stays = follows_other Receiver (chooser Receiver) (header Receiver) theirs one Supplier their_before their_mid makes.role refl their_follows in
      by noted o step only polls same comes their_comes calls.1 well.1 stays
    where
      by : (noted : List Noted) → OpensWell Supplier (header Supplier) (state_behind state (step_of one)).journal scene (stepped (restarted scene Supplier) (step_of one)) mid → (step : WorldStep)
          → steps_of noted ≡ step ∷ [] → Makes Supplier Poll (stepped (restarted scene Supplier) (step_of one)) step → next ≡ stepped (stepped (restarted scene Supplier) (step_of one)) step
          → ComesBy Supplier (chooser Supplier) (header Supplier) (behind_if (same_role Supplier one.role) state (step_of one)) mid noted after
          → ComesBy Receiver (chooser Receiver) (header Receiver) (behind_if (same_role Receiver one.role) theirs (step_of one)) their_mid noted their_after → CallSo (steps_of noted) → GoWell noted → their_mid ≡ their_before
          → SupplierOpens state scene next (step_of one ∷ steps_of noted) after their_before their_after
      by [] o step only polls same comes their_comes calls well stays = absurd (cc)
      by (two ∷ more ∷ noted) o step only polls same comes their_comes calls well stays = absurd (cc)
      by (two ∷ []) o step only polls same (last, follows, ends) (their_last, their_follows, their_ends) calls well stays =
          let new : Scene = stepped (restarted scene Supplier) (step_of one) in
          let is : step_of two ≡ step = cc in
          let makes : Makes Supplier Poll new (step_of two) = subst (Makes Supplier Poll new) (sym is) polls in
          let there : next ≡ stepped new (step_of two) = same ∙ ap (stepped new) (sym is) in
          let first : (first_standing (header Supplier) o.leaves.entries).first ≡ true = ap (λ (r : Role). (first_standing (record (header Supplier) { role = r }) o.leaves.entries).first) own in
          let b = begins_well Supplier (chooser Supplier) (header Supplier) _ (first_standing (header Supplier) o.leaves.entries) new two last first o.leaves.fed o.leaves.taken makes calls.0 well.0
          (subst (λ (s : Option Standing). FollowsIf (same_role Supplier two.role) (chooser Supplier) (header Supplier) (behind_if (same_role Supplier one.role) state (step_of one)) two s last) o.leaves.stands follows) in
          record {
            opening = step_of one;
            poll = step_of two;
            only = refl;
            own = (makes_role, makes_kind);
            new = new;
            mid = mid;
            opens = o;
            begins = subst (λ (s : Scene). Begins Supplier (first_standing (header Supplier) o.leaves.entries) new s after) (sym there)
                (subst (Begins Supplier (first_standing (header Supplier) o.leaves.entries) new (stepped new (step_of two))) (sym ends) b);
            still = their_ends ∙ follows_other Receiver (chooser Receiver) (header Receiver) _ two Supplier their_mid their_last makes.role refl their_follows ∙ stays;
          }
        where
          makes_role : (step_of one).role ≡ Supplier
          makes_role = makes.role

          makes_kind : (step_of one).kind ≡ Opening
          makes_kind = makes.kind

  pub supplier_opens : (state : Role → State) (scene next : Scene) (before after : Role → Option Standing) (steps : List WorldStep) → (header Supplier).role ≡ Supplier → (side scene Supplier).runs ≡ false
      → MadeWell chooser header state before steps after → Starts Supplier scene steps next → SupplierOpens (state Supplier) scene next steps (after Supplier) (before Receiver) (after Receiver)
  supplier_opens state scene next before after steps own rests made starts =
      let opens : Opens Supplier (restarted scene Supplier) (steps_of made.noted) next =
      subst (λ (l : List WorldStep). Opens Supplier (restarted scene Supplier) l next) (sym made.is) (subst (λ (b : Bool). StartsIf b Supplier scene steps next) rests starts) in
      subst (λ (l : List WorldStep). SupplierOpens (state Supplier) scene next l (after Supplier) (before Receiver) (after Receiver)) made.is
      (supplier_started made.noted (state Supplier) (state Receiver) scene next (before Supplier) (after Supplier) (before Receiver) (after Receiver) own opens (made.come Supplier) (made.come Receiver) made.calls made.well)
