-- A clean session leaves the same sets of each delivery in both lists, within so many turns.
use Rattle.std.proofs.Common.{◌≡◌, ◌≤◌, ◌+◌, ◌*◌, ℕ, Bool, true, false, length, map, List, [], ◌∷◌, refl, sym, ap, subst, ◌∙◌, arith}
use Rattle.std.specs.Prelude.{All}
use Rattle.dsd_values.specs.declared.role.Role.TheVariants.{Supplier}
use Rattle.base_record_894.specs.RecordText.{IsBase}
use Rattle.dsd_record.specs.Choices.{Chooser}
use Rattle.dsd_journal.specs.Headers.{IsId}
use Rattle.dsd_journal.specs.declared.entry.Entry.{Entry}
use Rattle.own_turn.specs.DueSets.{DueSet}
use Rattle.own_turn.specs.OwnTurn.{Desk, gathered, next_turn}
use Rattle.dsd_end.proofs.OneOutcome.{one_turn}
use Rattle.clean_sessions.specs.Beginnings.{IsCleanSession, receiver_header, seat_before, supplier_header}
use Rattle.clean_sessions.specs.CleanHeaders.{receiver_ready, supplier_ready}
use Rattle.clean_sessions.specs.CleanTurns.{has_none}
use Rattle.clean_sessions.specs.CourseTurns.{EndSilent, NothingDue}
use Rattle.clean_sessions.specs.Declining.{HasAnswered}
use Rattle.clean_sessions.specs.DeliveryStands.{AreBacked}
use Rattle.clean_sessions.specs.Halls.{BeginsTurn, Hall}
use Rattle.clean_sessions.specs.SeatTurns.{AreOwnTurns, EndsWhenSilent, MeetForTurns, Seat, at_desk, most_turns}
use Rattle.clean_sessions.specs.Sessions.{Spoken, post_behind, turn_of}
use Rattle.clean_sessions.specs.Settled.{IsSettled, LeavesSettled, blocks_signed}
use Rattle.clean_sessions.specs.BlocksAlone.{blocks_alone}
use Rattle.clean_sessions.specs.SinceLast.{desk_behind, signed_since}
use Rattle.clean_sessions.specs.Turns.{all_alone}
use Rattle.clean_sessions.proofs.BlocksBounded.{blocks_bounded, blocks_once}
use Rattle.clean_sessions.proofs.TurnsOnce.{speak_once}
use Rattle.clean_sessions.proofs.DeliveriesSettled.{session_settles}
use Rattle.clean_sessions.proofs.OpenDeliveries.{both_answered}
use Rattle.clean_sessions.proofs.SessionSeats.{EndSilentBehind, IsChain, IsReady, chain, same_seat, seat_of}
use Rattle.clean_sessions.proofs.SessionsBegun.{session_clean, texts_begun}
use Rattle.clean_sessions.proofs.SilentLoads.{none_alike, silent_load, turns_low}
use Rattle.clean_sessions.proofs.TurnsEnding.{turns_end}

module _ (id other : List ℕ) (supplier receiver : Chooser) (supplier_entries receiver_entries : List Entry) (first : Spoken) (more : List Spoken) (new : Hall)
    (is : IsId id) (others : IsId other) (drafts : All IsBase supplier.drafts) (their_drafts : All IsBase receiver.drafts) (backed : AreBacked Supplier supplier_entries receiver_entries)
    (c : IsCleanSession id other supplier receiver supplier_entries receiver_entries first more new) where
  abbrev pub near : Seat
  near = seat_before (supplier_header id other) supplier supplier_entries

  abbrev pub far : Seat
  far = seat_before (receiver_header id other) receiver receiver_entries

  pub meet : MeetForTurns near far [] []
  meet = record { roles = refl; near_drafts = drafts; far_drafts = their_drafts; between = record { lists = backed; heard = record { lends = refl; last = tt } } }

  behind_ready : IsReady (at_desk near c.desk)
  behind_ready = record {
    own = is.ten;
    peer = others.ten;
    turns = turns_low (supplier_header id other) supplier near.desk c.desk [] first.text c.turned (omega arith);
  }

  far_ready : IsReady far
  far_ready = record { own = others.ten; peer = is.ten; turns = omega arith }

  pub later : IsChain more false (has_none first.text) far (at_desk near c.desk) first.text new
  later =
      let t = texts_begun id other is others supplier receiver supplier_entries receiver_entries c.middle c.headers in
      let same = one_turn (supplier_header id other) supplier near.desk [] t.desk c.desk t.load first.text t.turned c.turned in
      let begins : BeginsTurn (supplier_ready id other) (receiver_ready id other) first.text c.middle =
      subst (λ (load : List ℕ). BeginsTurn (supplier_ready id other) (receiver_ready id other) load c.middle) same.1 t.begins in
      let near_seat : seat_of c.middle.near ≡ far = same_seat (seat_of c.middle.near) far t.headers.0 t.choosers.0 t.desks in
      let far_seat : seat_of c.middle.far ≡ at_desk near c.desk = same_seat (seat_of c.middle.far) (at_desk near c.desk) t.headers.1 t.choosers.1 (t.left ∙ same.0) in
      subst (λ (s : Seat). IsChain more false (has_none first.text) far s first.text new) far_seat
      (subst (λ (s : Seat). IsChain more false (has_none first.text) s (seat_of c.middle.far) first.text new) near_seat
      (chain more (supplier_ready id other) (receiver_ready id other) first.text c.middle new begins (subst IsReady (sym near_seat) far_ready) (subst IsReady (sym far_seat) behind_ready) c.turns))

  abbrev pub first_sets : List DueSet
  first_sets = gathered (supplier_header id other) c.turned.proposed

  abbrev pub all_turns : AreOwnTurns (first_sets ∷ later.turns) near far []
  all_turns = (c.desk, first.text, c.turned, refl, later.taken)

  two_silent : (turns : List (List DueSet)) (t : AreOwnTurns turns far (at_desk near c.desk) first.text) → (has_none first.text ≡ true → NothingDue c.turned.proposed)
      → EndSilentBehind false (has_none first.text) turns far (at_desk near c.desk) first.text t → EndSilent (first_sets ∷ turns) near far [] (c.desk, first.text, c.turned, refl, t)
  two_silent [] t due s = let no = s.0 in absurd (cc)
  two_silent (one ∷ []) t due s = (due s.0, s.1)
  two_silent (one ∷ two ∷ turns) t due s = s

  silent : EndSilent (first_sets ∷ later.turns) near far [] all_turns
  silent = two_silent later.turns later.taken (silent_load (supplier_header id other) supplier near.desk c.desk [] first.text c.turned is.ten others.ten (omega arith)) later.silent

  both_settled : (number : List ℕ) → IsSettled number (post_behind true more new).standing.desk.entries (post_behind false more new).standing.desk.entries
  both_settled number =
      subst (λ (d : Desk). IsSettled number (post_behind true more new).standing.desk.entries d.entries) (sym (later.desks false))
      (subst (λ (d : Desk). IsSettled number d.entries (desk_behind true later.turns far (at_desk near c.desk) first.text later.taken).entries) (sym (later.desks true))
      (session_settles (first_sets ∷ later.turns) near far meet refl refl refl all_turns silent number))

  pub ends : EndsWhenSilent false (first_sets ∷ later.turns)
  ends = (
    (λ no. absurd (cc)),
    subst (λ (b : Bool). EndsWhenSilent b later.turns) (sym (none_alike (supplier_header id other) (next_turn c.turned.proposed) first_sets first.text c.turned.loads)) later.ends,
  )

  few_turns : length (first ∷ more) ≤ most_turns near far
  few_turns =
      let few = turns_end near far (first_sets ∷ later.turns) meet refl refl all_turns ends in
      let size = later.size in
      omega (arith, few, size)

  few_blocks : all_alone (turn_of first ∷ map turn_of more)
      ≤ 2 * (signed_since supplier_entries (post_behind true more new).standing.desk.entries + signed_since receiver_entries (post_behind false more new).standing.desk.entries)
  few_blocks =
      let few = blocks_bounded (first_sets ∷ later.turns) near far meet refl refl all_turns in
      let own = ap (λ (d : Desk). signed_since supplier_entries d.entries) (later.desks true) in
      let theirs = ap (λ (d : Desk). signed_since receiver_entries d.entries) (later.desks false) in
      let here = ap blocks_alone c.sets in
      let rest = later.alone in
      omega (arith, few, own, theirs, here, rest)

  few_polls : (own : Bool) → (post_behind own more new).polls ≤ 60 + 24 * (2 * blocks_signed near far (post_behind true more new) (post_behind false more new))
  few_polls own =
      let clean = session_clean id other is others supplier receiver supplier_entries receiver_entries first more new c in
      let polled = clean.polls own in
      let few = few_blocks in
      omega (arith, polled, few)

  once_each : supplier_entries ≡ [] → receiver_entries ≡ [] → all_alone (turn_of first ∷ map turn_of more) ≤ blocks_signed near far (post_behind true more new) (post_behind false more new)
  once_each none none_there =
      let few = blocks_once (first_sets ∷ later.turns) near far meet refl refl all_turns (speak_once (first_sets ∷ later.turns) near far meet refl none none_there refl refl all_turns) in
      let own = ap (λ (d : Desk). signed_since supplier_entries d.entries) (later.desks true) in
      let theirs = ap (λ (d : Desk). signed_since receiver_entries d.entries) (later.desks false) in
      let here = ap blocks_alone c.sets in
      let rest = later.alone in
      omega (arith, few, own, theirs, here, rest)

  pub session_settled : LeavesSettled near far first more new
  session_settled =
      let both = both_answered (first_sets ∷ later.turns) near far [] [] meet all_turns silent in
      record {
        settled = both_settled;
        answered = subst (λ (d : Desk). HasAnswered near.header.role supplier d.entries) (sym (later.desks true)) both.0;
        their_answered = subst (λ (d : Desk). HasAnswered far.header.role receiver d.entries) (sym (later.desks false)) both.1;
        turns = few_turns;
        blocks = few_blocks;
        polls = few_polls;
        once = once_each;
      }
