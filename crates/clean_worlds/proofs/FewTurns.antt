-- A session that was played has no more turns than one that goes on.
use Rattle.std.proofs.Common.{◌≤◌, ◌+◌, ℕ, List, [], ◌∷◌, length, refl}
use Rattle.std.specs.Prelude.{All}
use Rattle.dsd_values.specs.declared.role.Role.TheVariants.{Supplier}
use Rattle.base_record_894.specs.RecordText.{IsBase}
use Rattle.dsd_record.specs.Choices.{Chooser}
use Rattle.dsd_journal.specs.Headers.{IsId}
use Rattle.dsd_journal.specs.declared.entry.Entry.{Entry}
use Rattle.dex_handshake.specs.LineTable.{Common}
use Rattle.clean_sessions.specs.Beginnings.{GoesOnClean, IsCleanSession, receiver_header, seat_before, supplier_header}
use Rattle.clean_sessions.specs.CleanTurns.{has_none, next_hearer, next_owner}
use Rattle.clean_sessions.specs.DeliveryStands.{AreBacked}
use Rattle.clean_sessions.specs.Halls.{Hall}
use Rattle.clean_sessions.specs.SeatTurns.{most_turns}
use Rattle.clean_sessions.specs.Sessions.{AreTaken, GoOn, Spoken}
use Rattle.clean_sessions.proofs.SessionsEnd.{session_ends}

-- up to the last turn it goes on
goes_on : (more : List Spoken) (owner hearer : Common) (text : List ℕ) (old new : Hall) → AreTaken more owner hearer text old new → (before : Hall) × GoOn more owner hearer text old before
goes_on [] owner hearer text old new taken = (old, refl)
goes_on (spoken ∷ more) owner hearer text old new (next, taken, both, desk, turned, sets, rest) =
    let (before, on) = goes_on more (next_owner hearer (has_none text)) (next_hearer owner (has_none text)) spoken.text next new rest in
    (before, (next, taken, both, desk, turned, on))

pub few_turns : (id other : List ℕ) → IsId id → IsId other → (supplier receiver : Chooser) (supplier_entries receiver_entries : List Entry) → AreBacked Supplier supplier_entries receiver_entries → All IsBase supplier.drafts
    → All IsBase receiver.drafts → (first : Spoken) (more : List Spoken) (new : Hall) → IsCleanSession id other supplier receiver supplier_entries receiver_entries first more new
    → 1 + length more ≤ most_turns (seat_before (supplier_header id other) supplier supplier_entries) (seat_before (receiver_header id other) receiver receiver_entries)
few_turns id other is others supplier receiver supplier_entries receiver_entries lists bases also first more new session =
    let (before, on) = goes_on more _ _ first.text session.middle new session.turns in
    let goes : GoesOnClean id other supplier receiver supplier_entries receiver_entries first more before =
    record { middle = session.middle; headers = session.headers; desk = session.desk; turned = session.turned; turns = on } in
    session_ends id other is others supplier receiver supplier_entries receiver_entries lists bases also first more before goes
