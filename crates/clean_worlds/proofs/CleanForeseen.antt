-- A clean event of which that was told before it goes well.
use Rattle.std.proofs.Common.{◌≡◌, ℕ, Bool, false, List, [], ◌∷◌, ◌++◌, Option, refl, sym, ◌∙◌, ap, subst, append_assoc, arith}
use Rattle.dsd_values.specs.declared.role.Role.{Role}
use Rattle.dsd_values.specs.declared.role.Role.TheVariants.{Receiver, Supplier}
use Rattle.dsd_record.specs.Choices.{Chooser}
use Rattle.dsd_station.specs.Replayed.{State}
use Rattle.dsd_journal.specs.Headers.{IsHeader, IsId}
use Rattle.dsd_journal.specs.JournalImage.{Holds}
use Rattle.dsd_journal.specs.declared.header.Header.{Header}
use Rattle.dsd_end.specs.Standings.{Standing}
use Rattle.clean_sessions.specs.Beginnings.{opened}
use Rattle.clean_sessions.proofs.QuietSessions.{session_quietly}
use Rattle.cable_world.specs.Leaving.{state_after, state_behind}
use Rattle.cable_world.specs.Living.{CallSo}
use Rattle.cable_world.specs.Noted.{Noted, steps_of}
use Rattle.cable_world.specs.Obeying.{Exchanges, Opens, Plays, StartsIf, Unplugs}
use Rattle.cable_world.specs.Scenes.{Scene, Side, restarted, side}
use Rattle.cable_world.specs.Steps.{WorldStep}
use Rattle.cable_world.specs.declared.event.Event.TheVariants.{Clean}
use Rattle.clean_worlds.specs.CleanBeginnings.{OpensOver, RunningHear}
use Rattle.clean_worlds.specs.CleanPlays.{choosers, headers}
use Rattle.clean_worlds.specs.Faultless.{IsSpared, RunningWork, WorksIfRunning}
use Rattle.clean_worlds.specs.Foreseen.{AreForeseen}
use Rattle.clean_worlds.specs.WholeFrames.{GoWell}
use Rattle.clean_worlds.specs.WorldHalls.{BothCome}
use Rattle.clean_worlds.proofs.CleanBegun.{both_cut, receiver_opens, supplier_opens}
use Rattle.clean_worlds.proofs.CleanPlayed.{after_more, hall_shown}
use Rattle.clean_worlds.proofs.NotedParts.{come_parts}
use Rattle.clean_worlds.proofs.OpensWell.{receiver_unhindered, supplier_unhindered, unplugs_well}
use Rattle.clean_worlds.proofs.RoundsSpared.{exchanges_spared}
use Rattle.clean_worlds.proofs.RoundsWell.{joined_well}
use Rattle.clean_worlds.proofs.ScriptsKept.{each_role}
use Rattle.clean_worlds.proofs.SessionPlayed.{are_headers}

module _ (id other_id : List ℕ) (is_id : IsId id) (others : IsId other_id) (supplier receiver : Chooser) where
  abbrev chooser : Role → Chooser
  chooser = choosers supplier receiver

  abbrev header : Role → Header
  header = headers id other_id

  are : (role : Role) → IsHeader (header role)
  are = are_headers id other_id is_id others supplier receiver [] []

  -- ---- the event

  pub clean_foreseen : (most : ℕ) (state : Role → State) (scene next : Scene) (before last : Role → Option Standing) (noted : List Noted) → RunningHear before scene → RunningWork scene → BothCome chooser header state before noted last
      → CallSo (steps_of noted) → Plays Clean scene (steps_of noted) next → AreForeseen most id other_id supplier receiver state scene (steps_of noted) → GoWell noted
  clean_foreseen most state scene next before last noted hear work come calls plays free =
      let p = come_parts chooser header state before noted plays.first plays.rest last come calls plays.joined in
      let unplugs : Unplugs scene (steps_of p.front) plays.between = subst (λ (l : List WorldStep). Unplugs scene l plays.between) (sym p.is) plays.before in
      let one = unplugs_well chooser header state scene plays.between before p.mid p.front hear work free.spared p.come p.calls unplugs in
      let cut = both_cut chooser header state scene plays.between before p.mid plays.first hear (record { noted = p.front; is = p.is; come = p.come; calls = p.calls; well = one.well }) plays.before in
      let opens = plays.behind in
      let at_first : Role → State = λ (role : Role). state_after role (state role) plays.first in
      let q = come_parts chooser header at_first p.mid p.back opens.first opens.rest last p.come_then p.calls_then (p.then_is ∙ opens.joined) in
      let r_opens : Opens Receiver (restarted plays.between Receiver) (steps_of q.front) opens.between =
      subst (λ (l : List WorldStep). Opens Receiver (restarted plays.between Receiver) l opens.between) (sym q.is) (subst (λ (b : Bool). StartsIf b Receiver plays.between opens.first opens.between) (cut.rests Receiver) opens.before) in
      let two = receiver_unhindered chooser header q.front (at_first Receiver) plays.between opens.between (p.mid Receiver) (q.mid Receiver) (one.spared Receiver) r_opens (q.come Receiver) in
      let r = receiver_opens chooser header at_first plays.between opens.between p.mid q.mid opens.first (cut.rests Receiver) (record { noted = q.front; is = q.is; come = q.come; calls = q.calls; well = two.well }) opens.before in
      let begun = opens.behind in
      let at_second : Role → State = λ (role : Role). state_after role (at_first role) opens.first in
      let t = come_parts chooser header at_second q.mid q.back begun.first begun.rest last q.come_then q.calls_then (q.then_is ∙ begun.joined) in
      let off : (side opens.between Supplier).runs ≡ false = ap (λ (s : Side). s.runs) r.opens.leaves.apart ∙ cut.rests Supplier in
      let s_opens : Opens Supplier (restarted opens.between Supplier) (steps_of t.front) begun.between =
      subst (λ (l : List WorldStep). Opens Supplier (restarted opens.between Supplier) l begun.between) (sym t.is) (subst (λ (b : Bool). StartsIf b Supplier opens.between begun.first begun.between) off begun.before) in
      let three = supplier_unhindered chooser header t.front (at_second Supplier) opens.between begun.between (q.mid Supplier) (t.mid Supplier) refl
      (subst (λ (s : Side). IsSpared s.log) (sym r.opens.leaves.apart) (one.spared Supplier)) s_opens (t.come Supplier) t.calls in
      let s = supplier_opens chooser header at_second opens.between begun.between q.mid t.mid begun.first refl off (record { noted = t.front; is = t.is; come = t.come; calls = t.calls; well = three.well }) begun.before in
      let front : List WorldStep = plays.first ++ opens.first in
      let steps : List WorldStep = steps_of noted in
      let all : steps ≡ front ++ opens.rest = plays.joined ∙ ap (λ (l : List WorldStep). plays.first ++ l) opens.joined ∙ sym (append_assoc plays.first opens.first opens.rest) in
      let whole : steps ≡ (front ++ begun.first) ++ begun.rest = all ∙ ap (λ (l : List WorldStep). front ++ l) begun.joined ∙ sym (append_assoc front begun.first begun.rest) in
      let supplier_over : OpensOver Supplier (header Supplier) (state Supplier) steps s.opens.leaves.entries = record {
        before = front;
        opening = s.opening;
        rest = s.poll ∷ begun.rest;
        joined = all ∙ ap (λ (l : List WorldStep). front ++ l) (begun.joined ∙ ap (λ (l : List WorldStep). l ++ begun.rest) s.only);
        own = s.own;
        holds = subst (λ (x : State). Holds (header Supplier) s.opens.leaves.entries (state_behind x s.opening).journal) (sym (after_more Supplier (state Supplier) plays.first opens.first)) s.opens.leaves.holds;
      } in
      let receiver_over : OpensOver Receiver (header Receiver) (state Receiver) steps r.opens.leaves.entries = record {
        before = plays.first;
        opening = r.opening;
        rest = opens.rest;
        joined = plays.joined ∙ ap (λ (l : List WorldStep). plays.first ++ l) (opens.joined ∙ ap (λ (l : List WorldStep). l ++ opens.rest) r.only);
        own = r.own;
        holds = r.opens.leaves.holds;
      } in
      let foreseen = free.few s.opens.leaves.entries r.opens.leaves.entries supplier_over receiver_over in
      let same : side begun.between Receiver ≡ side opens.between Receiver = s.begins.apart ∙ s.opens.leaves.apart in
      let shows = hall_shown id other_id is_id others supplier receiver (at_second Supplier) (at_first Receiver) plays.between opens.between begun.between opens.first begun.first q.mid t.mid cut.waiting r s in
      let four = exchanges_spared chooser header are Receiver Supplier (opened id other_id supplier receiver s.opens.leaves.entries r.opens.leaves.entries) begun.between next t.mid last
      (λ (role : Role). state_after role (at_second role) begun.first) t.back shows
      (session_quietly id other_id is_id others supplier receiver s.opens.leaves.entries r.opens.leaves.entries (λ turns t ends. (let few = foreseen.blocks turns t ends in let within = foreseen.within in omega (arith, few, within))) foreseen.room) (subst (λ (l : List WorldStep). Exchanges begun.between l next) (sym t.then_is) begun.behind)
      t.come_then t.calls_then (each_role (λ (role : Role). IsSpared (side begun.between role).log) Receiver (subst (λ (x : Side). IsSpared x.log) (sym same) two.spared) three.spared)
      (each_role (λ (role : Role). WorksIfRunning (side begun.between role)) Receiver (subst WorksIfRunning (sym same) two.works) three.works) in
      subst GoWell (sym (p.parts ∙ ap (λ (l : List Noted). p.front ++ l) (q.parts ∙ ap (λ (l : List Noted). q.front ++ l) t.parts)))
      (joined_well p.front (q.front ++ (t.front ++ t.back)) one.well (joined_well q.front (t.front ++ t.back) two.well (joined_well t.front t.back three.well four)))
