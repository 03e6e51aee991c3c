-- A clean event is a clean session.
use Rattle.std.proofs.Common.{◌≡◌, ℕ, false, List, [], ◌∷◌, ◌++◌, Option, refl, sym, ◌∙◌, ap, subst, append_assoc}
use Rattle.dsd_values.specs.declared.role.Role.{Role}
use Rattle.dsd_values.specs.declared.role.Role.TheVariants.{Receiver, Supplier}
use Rattle.dsd_record.specs.Choices.{Chooser}
use Rattle.dsd_station.specs.Replayed.{State}
use Rattle.dsd_journal.specs.Headers.{IsId}
use Rattle.dsd_journal.specs.JournalImage.{Holds}
use Rattle.dsd_journal.specs.declared.entry.Entry.{Entry}
use Rattle.dsd_journal.specs.declared.header.Header.{Header}
use Rattle.dex_line.specs.FrameShapes.{Enq}
use Rattle.dex_line.specs.FrameSpelling.{spelling}
use Rattle.dsd_end.specs.Standings.{Standing, first_standing}
use Rattle.dsd_end.specs.PollStep.{begins}
use Rattle.dsd_end.proofs.StepsGoing.{started_sayable}
use Rattle.clean_sessions.specs.Beginnings.{opened}
use Rattle.cable_world.specs.Diligence.{ComesBy}
use Rattle.cable_world.specs.Leaving.{behind_if, state_after, state_behind}
use Rattle.cable_world.specs.Obeying.{Plays}
use Rattle.cable_world.specs.Scenes.{Scene, Side, side}
use Rattle.cable_world.specs.Steps.{WorldStep, same_role}
use Rattle.cable_world.specs.declared.event.Event.TheVariants.{Clean}
use Rattle.clean_worlds.specs.CleanBeginnings.{BeginsClean, MadeWell, PlaysClean, RunningHear}
use Rattle.clean_worlds.specs.CleanPlays.{choosers, headers}
use Rattle.clean_worlds.specs.WholeFrames.{Attends}
use Rattle.clean_worlds.specs.WorldHalls.{ShowsHall}
use Rattle.clean_worlds.proofs.CleanBegun.{ReceiverOpens, SupplierOpens, both_cut, receiver_opens, supplier_opens}
use Rattle.clean_worlds.proofs.NotedParts.{split_made}
use Rattle.clean_worlds.proofs.Opened.{Begins, OpensWell}
use Rattle.clean_worlds.proofs.SessionPlayed.{session_played}

pub after_more : (role : Role) (state : State) (a b : List WorldStep) → state_after role state (a ++ b) ≡ state_after role (state_after role state a) b
after_more role state [] b = refl
after_more role state (step ∷ a) b = after_more role (behind_if (same_role role step.role) state step) a b

module _ (id other_id : List ℕ) (is_id : IsId id) (others : IsId other_id) (supplier receiver : Chooser) where
  -- ---- the hall behind the openings

  supplier_attends : (entries : List Entry) (scene next : Scene) (after : Option Standing) → (b : Begins Supplier (first_standing (headers id other_id Supplier) entries) scene next after)
      → Attends (headers id other_id Supplier) (begins (first_standing (headers id other_id Supplier) entries)).standing (side next Supplier)
  supplier_attends entries scene next after b = record {
    titled = refl;
    calm = record { later = refl; none = refl };
    runs = b.runs;
    fed = b.fed;
    taken = b.taken;
    sayable = started_sayable Supplier id other_id is_id;
  }

  receiver_attends : (journal : List ℕ) (scene next : Scene) (after : Option Standing) (o : OpensWell Receiver (headers id other_id Receiver) journal scene next after)
      → Attends (headers id other_id Receiver) (first_standing (headers id other_id Receiver) o.leaves.entries) (side next Receiver)
  receiver_attends journal scene next after o = record {
    titled = refl;
    calm = record { later = refl; none = refl };
    runs = o.leaves.runs;
    fed = o.leaves.fed;
    taken = o.leaves.taken;
    sayable = started_sayable Receiver other_id id others;
  }

  pub hall_shown : (state their_state : State) (scene mid next : Scene) (receiver_steps supplier_steps : List WorldStep) (before after : Role → Option Standing) → scene.waiting ≡ []
      → (r : ReceiverOpens (choosers supplier receiver) (headers id other_id) their_state scene mid receiver_steps (before Receiver))
      → (s : SupplierOpens (choosers supplier receiver) (headers id other_id) state mid next supplier_steps (after Supplier) (before Receiver) (after Receiver))
      → ShowsHall (choosers supplier receiver) (headers id other_id) Receiver Supplier (opened id other_id supplier receiver s.opens.leaves.entries r.opens.leaves.entries) next after
  hall_shown state their_state scene mid next receiver_steps supplier_steps before after none r s =
      let same : side next Receiver ≡ side mid Receiver = s.begins.apart ∙ s.opens.leaves.apart in
      record {
        roles = (refl, refl);
        choosers = (refl, refl);
        near_attends = subst (Attends (headers id other_id Receiver) (first_standing (headers id other_id Receiver) r.opens.leaves.entries)) (sym same)
            (receiver_attends (state_behind their_state r.opening).journal scene mid (before Receiver) r.opens);
        far_attends = supplier_attends s.opens.leaves.entries s.new next (after Supplier) s.begins;
        near_stands = s.still ∙ r.opens.leaves.stands;
        far_stands = s.begins.stands;
        waiting = s.begins.waiting ∙ ap (λ (l : List (Role × List ℕ)). l ++ (Receiver, spelling Enq) ∷ []) (s.opens.waiting ∙ r.opens.waiting ∙ none);
        spoken = (tt, tt);
      }

  -- ---- CLEAN

  pub begins_clean : (state : Role → State) (scene next : Scene) (before last : Role → Option Standing) (steps : List WorldStep) → RunningHear before scene
      → MadeWell (choosers supplier receiver) (headers id other_id) state before steps last → Plays Clean scene steps next → BeginsClean id other_id supplier receiver state steps next last
  begins_clean state scene next before last steps hear made plays =
      let chooser : Role → Chooser = choosers supplier receiver in
      let header : Role → Header = headers id other_id in
      let first = split_made chooser header state before steps plays.first plays.rest last made plays.joined in
      let cut = both_cut chooser header state scene plays.between before first.mid plays.first hear first.front plays.before in
      let opens = plays.behind in
      let at_first : Role → State = λ (role : Role). state_after role (state role) plays.first in
      let second = split_made chooser header at_first first.mid plays.rest opens.first opens.rest last first.back opens.joined in
      let r = receiver_opens chooser header at_first plays.between opens.between first.mid second.mid opens.first (cut.rests Receiver) second.front opens.before in
      let begun = opens.behind in
      let at_second : Role → State = λ (role : Role). state_after role (at_first role) opens.first in
      let third = split_made chooser header at_second second.mid opens.rest begun.first begun.rest last second.back begun.joined in
      let off : (side opens.between Supplier).runs ≡ false = ap (λ (s : Side). s.runs) r.opens.leaves.apart ∙ cut.rests Supplier in
      let s = supplier_opens chooser header at_second opens.between begun.between second.mid third.mid begun.first refl off third.front begun.before in
      let front : List WorldStep = plays.first ++ opens.first in
      let all : steps ≡ front ++ opens.rest = plays.joined ∙ ap (λ (l : List WorldStep). plays.first ++ l) opens.joined ∙ sym (append_assoc plays.first opens.first opens.rest) in
      let whole : steps ≡ (front ++ begun.first) ++ begun.rest = all ∙ ap (λ (l : List WorldStep). front ++ l) begun.joined ∙ sym (append_assoc front begun.first begun.rest) in
      let at_third : (role : Role) → state_after role (state role) (front ++ begun.first) ≡ state_after role (at_second role) begun.first =
      λ role. after_more role (state role) front begun.first ∙ ap (λ (x : State). state_after role x begun.first) (after_more role (state role) plays.first opens.first) in
      record {
        supplier_entries = s.opens.leaves.entries;
        receiver_entries = r.opens.leaves.entries;
        supplier_opens = record {
          before = front;
          opening = s.opening;
          rest = s.poll ∷ begun.rest;
          joined = all ∙ ap (λ (l : List WorldStep). front ++ l) (begun.joined ∙ ap (λ (l : List WorldStep). l ++ begun.rest) s.only);
          own = s.own;
          holds = subst (λ (x : State). Holds (header Supplier) s.opens.leaves.entries (state_behind x s.opening).journal) (sym (after_more Supplier (state Supplier) plays.first opens.first)) s.opens.leaves.holds;
        };
        receiver_opens = record {
          before = plays.first;
          opening = r.opening;
          rest = opens.rest;
          joined = plays.joined ∙ ap (λ (l : List WorldStep). plays.first ++ l) (opens.joined ∙ ap (λ (l : List WorldStep). l ++ opens.rest) r.only);
          own = r.own;
          holds = r.opens.leaves.holds;
        };
        between = begun.between;
        standing = third.mid;
        shows = hall_shown (at_second Supplier) (at_first Receiver) plays.between opens.between begun.between opens.first begun.first second.mid third.mid cut.waiting r s;
        first = front ++ begun.first;
        rest = begun.rest;
        joined = whole;
        exchanges = begun.behind;
        made = record {
          noted = third.back.noted;
          is = third.back.is;
          come = λ role. subst (λ (x : State). ComesBy role (chooser role) (header role) x (third.mid role) third.back.noted (last role)) (sym (at_third role)) (third.back.come role);
          calls = third.back.calls;
          well = third.back.well;
        };
      }

  pub plays_clean : (state : Role → State) (scene next : Scene) (before last : Role → Option Standing) (steps : List WorldStep) → RunningHear before scene
      → MadeWell (choosers supplier receiver) (headers id other_id) state before steps last → Plays Clean scene steps next → PlaysClean id other_id supplier receiver state steps next last
  plays_clean state scene next before last steps hear made plays =
      let b = begins_clean state scene next before last steps hear made plays in
      record {
        supplier_entries = b.supplier_entries;
        receiver_entries = b.receiver_entries;
        supplier_opens = b.supplier_opens;
        receiver_opens = b.receiver_opens;
        played = session_played id other_id is_id others supplier receiver b.supplier_entries b.receiver_entries next last b.exchanges.0 (record {
          scene = b.between;
          standing = b.standing;
          shows = b.shows;
          steps = b.rest;
          state = λ (role : Role). state_after role (state role) b.first;
          made = b.made;
          are = b.exchanges.1;
        });
      }
