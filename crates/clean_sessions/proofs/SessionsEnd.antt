-- The polls of a clean session make own turns, and so it comes to its end.
use Rattle.std.proofs.Common.{◌≡◌, ◌≤◌, ◌+◌, ℕ, Bool, true, false, ◌&&◌, length, List, [], ◌∷◌, refl, sym, ◌∙◌, ap, subst, arith}
use Rattle.std.specs.Prelude.{All}
use Rattle.dex_handshake.specs.LineTable.{Common}
use Rattle.base_record_894.specs.RecordText.{IsBase}
use Rattle.dsd_record.specs.Choices.{Chooser}
use Rattle.dsd_values.specs.declared.role.Role.TheVariants.{Supplier}
use Rattle.dsd_journal.specs.Headers.{IsId}
use Rattle.dsd_journal.specs.declared.entry.Entry.{Entry}
use Rattle.dsd_journal.specs.declared.header.Header.{Header}
use Rattle.own_turn.specs.DueSets.{DueSet, texts_of}
use Rattle.own_turn.specs.OwnTurn.{Desk, IsLoad, gathered, next_turn, sets_lent}
use Rattle.dsd_end.proofs.OneOutcome.{one_turn}
use Rattle.clean_sessions.specs.Beginnings.{GoesOnClean, fresh_desk, receiver_header, seat_before, supplier_header}
use Rattle.clean_sessions.specs.CleanHeaders.{receiver_ready, supplier_ready}
use Rattle.clean_sessions.specs.CleanTurns.{has_none, next_hearer, next_owner}
use Rattle.clean_sessions.specs.DeliveryStands.{AreBacked}
use Rattle.clean_sessions.specs.Halls.{BeginsTurn, GoesOn, Hall, Post, TakesNext}
use Rattle.clean_sessions.specs.SeatTurns.{AreOwnTurns, EndsWhenSilent, MeetForTurns, Seat, at_desk, has_none as has_no_set, most_turns}
use Rattle.clean_sessions.specs.Sessions.{GoOn, Spoken}
use Rattle.clean_sessions.proofs.HallsWalked.{turn_taken}
use Rattle.clean_sessions.proofs.LoadsCounted.{load_lent}
use Rattle.clean_sessions.proofs.SessionsBegun.{texts_begun}
use Rattle.clean_sessions.proofs.TurnsEnding.{turns_end}

-- ---- without a set there is no text

same_none : (sets : List DueSet) (load : List ℕ) → (sets ≡ [] → load ≡ []) → sets_lent load ≡ texts_of sets → has_no_set sets ≡ has_none load
same_none [] load none lent = sym (ap has_none (none refl))
same_none (set ∷ more) [] none lent = absurd (cc)
same_none (set ∷ more) (byte ∷ load) none lent = refl

empty_load : (header : Header) (control : ℕ) (sets : List DueSet) (load : List ℕ) → IsLoad header control sets load → sets ≡ [] → load ≡ []
empty_load header control [] load is e = is
empty_load header control (set ∷ more) load is e = absurd (cc)

none_gathered : (header : Header) (control : ℕ) (sets : List DueSet) (load : List ℕ) → IsLoad header control sets load → has_no_set sets ≡ has_none load
none_gathered header control sets load is = let lent = load_lent header control sets load is in same_none sets load (empty_load header control sets load is) lent.0

-- ---- seats

abbrev seat_of : Post → Seat
seat_of post = record { header = post.standing.header; chooser = post.chooser; desk = post.standing.desk }

seat_same : (seat : Seat) (header : Header) (chooser : Chooser) (desk : Desk) → header ≡ seat.header → chooser ≡ seat.chooser → desk ≡ seat.desk → (let s : Seat = record { header = header; chooser = chooser; desk = desk } in s) ≡ seat
seat_same seat header chooser desk h c d =
    ap (λ (x : Header). let s : Seat = record { header = x; chooser = chooser; desk = desk } in s) h
    ∙ ap (λ (x : Chooser). let s : Seat = record { header = seat.header; chooser = x; desk = desk } in s) c
    ∙ ap (λ (x : Desk). let s : Seat = record { header = seat.header; chooser = seat.chooser; desk = x } in s) d

-- ---- turn after turn

-- the own turns that the polls of these turns make, behind one in which these sets were gathered
record Makes (silent : Bool) (count : ℕ) (sets : List DueSet) (near far : Seat) (text : List ℕ) : Type 0 where
  turns : List (List DueSet)
  many : length turns ≡ count
  are : AreOwnTurns turns near far text
  ends : EndsWhenSilent silent (sets ∷ turns)

none_both : (none empty : Bool) → (none && empty) ≡ false → empty ≡ true → none ≡ true → ⊥
none_both true true e f g = cc
none_both true false e f g = cc
none_both false empty e f g = cc

going : (more : List Spoken) (sets : List DueSet) (owner hearer : Common) (text : List ℕ) (old new : Hall) → BeginsTurn owner hearer text old → has_no_set sets ≡ has_none text → GoOn more owner hearer text old new
    → Makes owner.empty (length more) sets (seat_of old.near) (seat_of old.far) text
going [] sets owner hearer text old new b none go = record { turns = []; many = refl; are = tt; ends = (λ silent empty. refl, tt) }
going (spoken ∷ more) sets owner hearer text old new b none (next, taken, both, desk, turned, rest) =
    let l = turn_taken owner hearer text old b next taken in
    let g : TakesNext owner hearer text old next = subst (λ (t : Bool). GoesOn t owner hearer text old next) both l.goes in
    let same = one_turn old.near.standing.header old.near.chooser old.near.standing.desk text g.desk desk g.load spoken.text g.turned turned in
    let begins = subst (λ (load : List ℕ). BeginsTurn (next_owner hearer (has_none text)) (next_hearer owner (has_none text)) load next) same.1 g.begins in
    let its : List DueSet = gathered old.near.standing.header turned.proposed in
    let m = going more its (next_owner hearer (has_none text)) (next_hearer owner (has_none text)) spoken.text next new begins
    (none_gathered old.near.standing.header (next_turn turned.proposed) its spoken.text turned.loads) rest in
    let near_seat : seat_of next.near ≡ seat_of old.far = seat_same (seat_of old.far) _ _ _ l.costs.headers.0 l.costs.choosers.0 l.costs.desk in
    let far_seat : seat_of next.far ≡ at_desk (seat_of old.near) desk = seat_same (at_desk (seat_of old.near) desk) _ _ _ l.costs.headers.1 l.costs.choosers.1 (g.left ∙ same.0) in
    let are : AreOwnTurns m.turns (seat_of old.far) (at_desk (seat_of old.near) desk) spoken.text =
    subst (λ (s : Seat). AreOwnTurns m.turns (seat_of old.far) s spoken.text) far_seat (subst (λ (s : Seat). AreOwnTurns m.turns s (seat_of next.far) spoken.text) near_seat m.are) in
    record {
      turns = its ∷ m.turns;
      many = let count = m.many in omega (arith, count);
      are = (desk, spoken.text, turned, refl, are);
      ends = (λ silent empty. absurd (none_both (has_none text) owner.empty both silent (sym none ∙ empty)), subst (λ (t : Bool). EndsWhenSilent t (its ∷ m.turns)) (sym none) m.ends);
    }

-- ---- from the opening on

module _ (id other : List ℕ) (is : IsId id) (others : IsId other) (supplier receiver : Chooser) (supplier_entries receiver_entries : List Entry) where
  abbrev supplier_seat : Seat
  supplier_seat = seat_before (supplier_header id other) supplier supplier_entries

  abbrev receiver_seat : Seat
  receiver_seat = seat_before (receiver_header id other) receiver receiver_entries

  pub session_ends : AreBacked Supplier supplier_entries receiver_entries → All IsBase supplier.drafts → All IsBase receiver.drafts → (first : Spoken) (more : List Spoken) (new : Hall)
      → GoesOnClean id other supplier receiver supplier_entries receiver_entries first more new → 1 + length more ≤ most_turns supplier_seat receiver_seat
  session_ends lists bases also first more new c =
      let t = texts_begun id other is others supplier receiver supplier_entries receiver_entries c.middle c.headers in
      let same = one_turn (supplier_header id other) supplier (fresh_desk supplier_entries) [] t.desk c.desk t.load first.text t.turned c.turned in
      let begins : BeginsTurn (supplier_ready id other) (receiver_ready id other) first.text c.middle =
      subst (λ (load : List ℕ). BeginsTurn (supplier_ready id other) (receiver_ready id other) load c.middle) same.1 t.begins in
      let its : List DueSet = gathered (supplier_header id other) c.turned.proposed in
      let m = going more its (supplier_ready id other) (receiver_ready id other) first.text c.middle new begins (none_gathered (supplier_header id other) (next_turn c.turned.proposed) its first.text c.turned.loads) c.turns in
      let near_seat : seat_of c.middle.near ≡ receiver_seat = seat_same receiver_seat _ _ _ t.headers.0 t.choosers.0 t.desks in
      let far_seat : seat_of c.middle.far ≡ at_desk supplier_seat c.desk = seat_same (at_desk supplier_seat c.desk) _ _ _ t.headers.1 t.choosers.1 (t.left ∙ same.0) in
      let are : AreOwnTurns m.turns receiver_seat (at_desk supplier_seat c.desk) first.text =
      subst (λ (s : Seat). AreOwnTurns m.turns receiver_seat s first.text) far_seat (subst (λ (s : Seat). AreOwnTurns m.turns s (seat_of c.middle.far) first.text) near_seat m.are) in
      let meet : MeetForTurns supplier_seat receiver_seat [] [] = record {
        roles = refl;
        near_drafts = bases;
        far_drafts = also;
        between = record { lists = lists; heard = record { lends = refl; last = tt } };
      } in
      let few = turns_end supplier_seat receiver_seat (its ∷ m.turns) meet refl refl (c.desk, first.text, c.turned, refl, are) m.ends in
      let count = m.many in
      omega (arith, few, count)
