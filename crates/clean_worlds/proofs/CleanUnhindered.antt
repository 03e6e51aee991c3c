-- A clean event that nothing hinders goes well.
use Rattle.std.proofs.Common.{◌≡◌, ℕ, Bool, false, List, [], ◌∷◌, ◌++◌, Option, Some, refl, sym, ◌∙◌, ap, subst, arith, append_assoc, append-nil}
use Rattle.dsd_values.specs.declared.role.Role.{Role}
use Rattle.dsd_values.specs.declared.role.Role.TheVariants.{Receiver, Supplier}
use Rattle.dsd_record.specs.Choices.{Chooser}
use Rattle.dsd_station.specs.Replayed.{State}
use Rattle.dsd_journal.specs.Headers.{IsHeader, IsId}
use Rattle.dsd_journal.specs.JournalImage.{Holds}
use Rattle.dsd_journal.specs.declared.entry.Entry.{Entry}
use Rattle.dsd_journal.specs.declared.header.Header.{Header}
use Rattle.own_turn.proofs.TurnsGrowing.{grown_not}
use Rattle.dsd_end.specs.Carrying.{Carried}
use Rattle.dsd_end.specs.PollStep.{begins}
use Rattle.dsd_end.specs.Standings.{Standing, first_standing}
use Rattle.dsd_end.proofs.SoundPolls.{IsAt}
use Rattle.cable_world.specs.Leaving.{state_after, state_behind}
use Rattle.cable_world.specs.Living.{CallSo}
use Rattle.cable_world.specs.Noted.{Noted, steps_of}
use Rattle.cable_world.specs.Obeying.{Exchanges, Opens, Plays, StartsIf, Unplugs}
use Rattle.cable_world.specs.Scenes.{Scene, Side, restarted, side}
use Rattle.cable_world.specs.Steps.{WorldStep}
use Rattle.cable_world.specs.declared.event.Event.TheVariants.{Clean}
use Rattle.clean_worlds.specs.CleanBeginnings.{OpensOver, RunningHear}
use Rattle.clean_worlds.specs.CleanPlays.{choosers, headers}
use Rattle.clean_worlds.specs.Faultless.{HasRoom, IsSpared, IsUnhindered, RunningWork, WorksIfRunning, bytes_by}
use Rattle.clean_worlds.specs.WholeFrames.{GoWell}
use Rattle.clean_worlds.specs.WorldHalls.{BothCome}
use Rattle.clean_worlds.proofs.CleanBegun.{both_cut, receiver_opens, supplier_opens}
use Rattle.clean_worlds.proofs.CleanPlayed.{after_more}
use Rattle.clean_worlds.proofs.NeverFull.{starts_at}
use Rattle.clean_worlds.proofs.NotedParts.{come_parts}
use Rattle.clean_worlds.proofs.OpensWell.{receiver_unhindered, supplier_unhindered, unplugs_well}
use Rattle.clean_worlds.proofs.PolledWell.{Stands}
use Rattle.clean_worlds.proofs.RoundsWell.{bytes_more, joined_well, well_exchanges}
use Rattle.clean_worlds.proofs.SessionPlayed.{are_headers}

module _ (id other_id : List ℕ) (is_id : IsId id) (others : IsId other_id) (supplier receiver : Chooser) where
  abbrev chooser : Role → Chooser
  chooser = choosers supplier receiver

  abbrev header : Role → Header
  header = headers id other_id

  are : (role : Role) → IsHeader (header role)
  are = are_headers id other_id is_id others supplier receiver [] []

  -- ---- where both ends stand behind the openings

  supplier_stands : (entries : List Entry) (its : Side) (after : Option Standing) (bytes : List ℕ) → IsSpared its.log → WorksIfRunning its → after ≡ Some (begins (first_standing (header Supplier) entries)).standing
      → Stands (header Supplier) (are Supplier) supplier entries its after bytes
  supplier_stands entries its after bytes spared works stands =
      let at : IsAt (header Supplier) bytes (first_standing (header Supplier) entries) = starts_at (header Supplier) (are Supplier) supplier entries bytes in
      record {
        spared = spared;
        works = works;
        goes = λ runs. (
          (begins (first_standing (header Supplier) entries)).standing,
          stands,
          record {
            titled = refl;
            later = refl;
            on = refl;
            at = record { past = at.past; rest = at.rest; split = at.split; line = at.line; begun = at.begun };
            grown = grown_not Supplier supplier (Carried bytes) entries;
            heard = omega arith;
          },
        );
      }

  receiver_stands : (entries : List Entry) (its : Side) (after : Option Standing) (bytes : List ℕ) → IsSpared its.log → WorksIfRunning its → after ≡ Some (first_standing (header Receiver) entries)
      → Stands (header Receiver) (are Receiver) receiver entries its after bytes
  receiver_stands entries its after bytes spared works stands = record {
    spared = spared;
    works = works;
    goes = λ runs. (
      first_standing (header Receiver) entries,
      stands,
      record {
        titled = refl;
        later = refl;
        on = refl;
        at = starts_at (header Receiver) (are Receiver) receiver entries bytes;
        grown = grown_not Receiver receiver (Carried bytes) entries;
        heard = omega arith;
      },
    );
  }

  -- ---- the event

  of_role : (P : Role → Type 0) → P Supplier → P Receiver → (role : Role) → P role
  of_role P s r Supplier = s
  of_role P s r Receiver = r

  pub clean_unhindered : (state : Role → State) (scene next : Scene) (before last : Role → Option Standing) (noted : List Noted) → RunningHear before scene → RunningWork scene → BothCome chooser header state before noted last
      → CallSo (steps_of noted) → Plays Clean scene (steps_of noted) next → IsUnhindered chooser header state scene (steps_of noted) → GoWell noted
  unfolding of_role
  clean_unhindered state scene next before last noted hear work come calls plays free =
      let p = come_parts chooser header state before noted plays.first plays.rest last come calls plays.joined in
      let unplugs : Unplugs scene (steps_of p.front) plays.between = subst (λ (l : List WorldStep). Unplugs scene l plays.between) (sym p.is) plays.before in
      let one = unplugs_well chooser header state scene plays.between before p.mid p.front hear work free.spared p.come p.calls unplugs in
      let cut = both_cut chooser header state scene plays.between before p.mid plays.first hear (record { noted = p.front; is = p.is; come = p.come; calls = p.calls; well = one.well }) plays.before in
      let opens = plays.behind in
      let at_first : Role → State = λ (role : Role). state_after role (state role) plays.first in
      let q = come_parts chooser header at_first p.mid p.back opens.first opens.rest last p.come_then p.calls_then (p.then_is ∙ opens.joined) in
      let r_opens : Opens Receiver (restarted plays.between Receiver) (steps_of q.front) opens.between =
      subst (λ (l : List WorldStep). Opens Receiver (restarted plays.between Receiver) l opens.between) (sym q.is) (subst (λ (b : Bool). StartsIf b Receiver plays.between opens.first opens.between) (cut.rests Receiver) opens.before) in
      let two = receiver_unhindered chooser header q.front (at_first Receiver) plays.between opens.between (p.mid Receiver) (q.mid Receiver) (one.spared Receiver) r_opens (q.come Receiver) in
      let r = receiver_opens chooser header at_first plays.between opens.between p.mid q.mid opens.first (cut.rests Receiver) (record { noted = q.front; is = q.is; come = q.come; calls = q.calls; well = two.well }) opens.before in
      let begun = opens.behind in
      let at_second : Role → State = λ (role : Role). state_after role (at_first role) opens.first in
      let t = come_parts chooser header at_second q.mid q.back begun.first begun.rest last q.come_then q.calls_then (q.then_is ∙ begun.joined) in
      let off : (side opens.between Supplier).runs ≡ false = ap (λ (s : Side). s.runs) r.opens.leaves.apart ∙ cut.rests Supplier in
      let s_opens : Opens Supplier (restarted opens.between Supplier) (steps_of t.front) begun.between =
      subst (λ (l : List WorldStep). Opens Supplier (restarted opens.between Supplier) l begun.between) (sym t.is) (subst (λ (b : Bool). StartsIf b Supplier opens.between begun.first begun.between) off begun.before) in
      let three = supplier_unhindered chooser header t.front (at_second Supplier) opens.between begun.between (q.mid Supplier) (t.mid Supplier) refl
      (subst (λ (s : Side). IsSpared s.log) (sym r.opens.leaves.apart) (one.spared Supplier)) s_opens (t.come Supplier) t.calls in
      let s = supplier_opens chooser header at_second opens.between begun.between q.mid t.mid begun.first refl off (record { noted = t.front; is = t.is; come = t.come; calls = t.calls; well = three.well }) begun.before in
      let front : List WorldStep = plays.first ++ opens.first in
      let steps : List WorldStep = steps_of noted in
      let all : steps ≡ front ++ opens.rest = plays.joined ∙ ap (λ (l : List WorldStep). plays.first ++ l) opens.joined ∙ sym (append_assoc plays.first opens.first opens.rest) in
      let whole : steps ≡ (front ++ begun.first) ++ begun.rest = all ∙ ap (λ (l : List WorldStep). front ++ l) begun.joined ∙ sym (append_assoc front begun.first begun.rest) in
      let supplier_over : OpensOver Supplier (header Supplier) (state Supplier) steps s.opens.leaves.entries = record {
        before = front;
        opening = s.opening;
        rest = s.poll ∷ begun.rest;
        joined = all ∙ ap (λ (l : List WorldStep). front ++ l) (begun.joined ∙ ap (λ (l : List WorldStep). l ++ begun.rest) s.only);
        own = s.own;
        holds = subst (λ (x : State). Holds (header Supplier) s.opens.leaves.entries (state_behind x s.opening).journal) (sym (after_more Supplier (state Supplier) plays.first opens.first)) s.opens.leaves.holds;
      } in
      let receiver_over : OpensOver Receiver (header Receiver) (state Receiver) steps r.opens.leaves.entries = record {
        before = plays.first;
        opening = r.opening;
        rest = opens.rest;
        joined = plays.joined ∙ ap (λ (l : List WorldStep). plays.first ++ l) (opens.joined ∙ ap (λ (l : List WorldStep). l ++ opens.rest) r.only);
        own = r.own;
        holds = r.opens.leaves.holds;
      } in
      let first : Role → List Entry = of_role (λ (role : Role). List Entry) s.opens.leaves.entries r.opens.leaves.entries in
      let total : Role → List ℕ = λ (role : Role). bytes_by role steps in
      let heard : Role → List ℕ = λ (role : Role). bytes_by role (front ++ begun.first) in
      let room : (role : Role) → HasRoom (header role).role (chooser role) (first role) (total role) =
      of_role (λ (role : Role). HasRoom (header role).role (chooser role) (first role) (total role)) ((free.room Supplier).journal s.opens.leaves.entries supplier_over) ((free.room Receiver).journal r.opens.leaves.entries receiver_over) in
      let same : side begun.between Receiver ≡ side opens.between Receiver = s.begins.apart ∙ s.opens.leaves.apart in
      let stand : (role : Role) → Stands (header role) (are role) (chooser role) (first role) (side begun.between role) (t.mid role) (heard role) =
      of_role (λ (role : Role). Stands (header role) (are role) (chooser role) (first role) (side begun.between role) (t.mid role) (heard role))
      (supplier_stands s.opens.leaves.entries (side begun.between Supplier) (t.mid Supplier) (heard Supplier) three.spared three.works s.begins.stands)
      (receiver_stands r.opens.leaves.entries (side begun.between Receiver) (t.mid Receiver) (heard Receiver) (subst (λ (x : Side). IsSpared x.log) (sym same) two.spared) (subst WorksIfRunning (sym same) two.works)
      (s.still ∙ r.opens.leaves.stands)) in
      let split : (role : Role) → total role ≡ (heard role ++ bytes_by role (steps_of t.back)) ++ [] =
      λ role. ap (bytes_by role) whole ∙ bytes_more role (front ++ begun.first) begun.rest ∙ ap (λ (l : List WorldStep). heard role ++ bytes_by role l) (sym t.then_is)
      ∙ sym (append-nil (heard role ++ bytes_by role (steps_of t.back))) in
      let four = well_exchanges chooser header are first total room (λ role. (free.room role).bytes) begun.between next t.back (λ (role : Role). state_after role (at_second role) begun.first) t.mid last heard (λ (role : Role). [])
      (subst (λ (l : List WorldStep). Exchanges begun.between l next) (sym t.then_is) begun.behind) t.come_then stand split in
      subst GoWell (sym (p.parts ∙ ap (λ (l : List Noted). p.front ++ l) (q.parts ∙ ap (λ (l : List Noted). q.front ++ l) t.parts)))
      (joined_well p.front (q.front ++ (t.front ++ t.back)) one.well (joined_well q.front (t.front ++ t.back) two.well (joined_well t.front t.back three.well four.well)))
