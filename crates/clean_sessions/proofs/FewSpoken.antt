-- A clean session speaks no more blocks than its own turns were foretold to speak.
use Rattle.std.proofs.Common.{◌≡◌, ◌≤◌, ◌*◌, ℕ, List, [], ◌∷◌, map, ap, arith}
use Rattle.std.specs.Prelude.{All}
use Rattle.dsd_values.specs.declared.role.Role.TheVariants.{Supplier}
use Rattle.base_record_894.specs.RecordText.{IsBase}
use Rattle.dsd_journal.specs.declared.entry.Entry.{Entry}
use Rattle.dsd_journal.specs.Headers.{IsId}
use Rattle.dsd_record.specs.Choices.{Chooser}
use Rattle.clean_sessions.specs.Beginnings.{IsCleanSession, receiver_header, seat_before, supplier_header}
use Rattle.clean_sessions.specs.BlocksAlone.{blocks_alone}
use Rattle.clean_sessions.specs.DeliveryStands.{AreBacked}
use Rattle.clean_sessions.specs.FewBlocks.{SignAtMost, SpeakAtMost, SpendsFew}
use Rattle.clean_sessions.specs.Halls.{Hall}
use Rattle.clean_sessions.specs.SeatTurns.{IsFresh, MeetForTurns, Seat}
use Rattle.clean_sessions.specs.Sessions.{Spoken, turn_of}
use Rattle.clean_sessions.specs.Turns.{all_alone}
use Rattle.clean_sessions.proofs.BlocksBounded.{blocks_bounded, blocks_once}
use Rattle.clean_sessions.proofs.SessionsBegun.{session_clean}
use Rattle.clean_sessions.proofs.SessionsSettled.{all_turns, ends, first_sets, later}
use Rattle.clean_sessions.proofs.TurnsOnce.{speak_once}

module _ (id other : List ℕ) (supplier receiver : Chooser) (supplier_entries receiver_entries : List Entry) (first : Spoken) (more : List Spoken) (new : Hall)
    (is : IsId id) (others : IsId other) (drafts : All IsBase supplier.drafts) (their_drafts : All IsBase receiver.drafts) (backed : AreBacked Supplier supplier_entries receiver_entries)
    (c : IsCleanSession id other supplier receiver supplier_entries receiver_entries first more new) (most : ℕ)
    (few : SpeakAtMost most (seat_before (supplier_header id other) supplier supplier_entries) (seat_before (receiver_header id other) receiver receiver_entries) []) where
  few_alone : all_alone (turn_of first ∷ map turn_of more) ≤ most
  few_alone =
      let rest = later id other supplier receiver supplier_entries receiver_entries first more new is others drafts their_drafts backed c in
      let sets = first_sets id other supplier receiver supplier_entries receiver_entries first more new is others drafts their_drafts backed c in
      let all = few (sets ∷ rest.turns) (all_turns id other supplier receiver supplier_entries receiver_entries first more new is others drafts their_drafts backed c)
      (ends id other supplier receiver supplier_entries receiver_entries first more new is others drafts their_drafts backed c) in
      let here = ap blocks_alone c.sets in
      let alone = rest.alone in
      omega (arith, all, here, alone)

  pub session_spends : SpendsFew most first more new
  session_spends =
      let clean = session_clean id other is others supplier receiver supplier_entries receiver_entries first more new c in
      let alone = few_alone in
      record {
        blocks = alone;
        polls = λ own. (let polls = clean.polls own in omega (arith, polls, alone));
        bytes = λ within own. clean.heard own (omega (arith, within, alone));
      }

-- ---- blocks that are signed

module _ (near far : Seat) (most : ℕ) (meet : MeetForTurns near far [] []) (fresh : IsFresh near) (their_fresh : IsFresh far) (few : SignAtMost most near far []) where
  pub spoken_twice : SpeakAtMost (2 * most) near far []
  spoken_twice turns t ends =
      let spoken = blocks_bounded turns near far meet fresh their_fresh t in
      let signed = few turns t ends in
      omega (arith, spoken, signed)

  pub spoken_once : near.header.role ≡ Supplier → near.desk.entries ≡ [] → far.desk.entries ≡ [] → SpeakAtMost most near far []
  spoken_once role none none_there turns t ends =
      let spoken = blocks_once turns near far meet fresh their_fresh t (speak_once turns near far meet role none none_there fresh their_fresh t) in
      let signed = few turns t ends in
      omega (arith, spoken, signed)
