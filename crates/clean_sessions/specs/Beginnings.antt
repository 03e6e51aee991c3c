-- A clean session from its opening to the first turn of texts.
use Rattle.std.specs.Prelude.{◌≡◌, ◌<◌, ◌≤◌, ◌+◌, ◌*◌, ℕ, Bool, false, List, [], ◌∷◌, map}
use Rattle.dsd_values.specs.declared.role.Role.TheVariants.{Receiver, Supplier}
use Rattle.dsd_journal.specs.declared.entry.Entry.{Entry}
use Rattle.dsd_journal.specs.declared.header.Header.{Header}
use Rattle.dsd_record.specs.Choices.{Chooser}
use Rattle.dex_line.specs.FrameShapes.{Enq}
use Rattle.dex_handshake.specs.LineTable.{Ended}
use Rattle.dex_handshake.specs.declared.session_end.SessionEnd.TheVariants.{Complete}
use Rattle.own_turn.specs.DueSets.{texts_of}
use Rattle.own_turn.specs.OwnTurn.{Desk, Turned, gathered}
use Rattle.dsd_end.specs.Standings.{first_standing}
use Rattle.dsd_end.specs.declared.fault.TheConstants.{NOISE_BYTES}
use Rattle.clean_sessions.specs.CleanHeaders.{receiver_ready, supplier_ready}
use Rattle.clean_sessions.specs.Halls.{AreExchanged, BeginsTurn, CleanStep, Hall}
use Rattle.clean_sessions.specs.SeatTurns.{Seat}
use Rattle.clean_sessions.specs.Sessions.{AreTaken, GoOn, Spoken, post_behind, turn_of}
use Rattle.clean_sessions.specs.Turns.{all_alone}

-- the headers of two journals whose ids match
abbrev pub supplier_header : List ℕ → List ℕ → Header
supplier_header id other = record { role = Supplier; own = id; peer = other }

abbrev pub receiver_header : List ℕ → List ℕ → Header
receiver_header id other = record { role = Receiver; own = other; peer = id }

abbrev pub fresh_desk : List Entry → Desk
fresh_desk entries = record { entries = entries; asked = []; refused = 0; turns = 0 }

-- an end at its desk as its session begins
abbrev pub seat_before : Header → Chooser → List Entry → Seat
seat_before header chooser entries = record { header = header; chooser = chooser; desk = fresh_desk entries }

-- both ends were opened over these entries, and the handheld was polled once: its Enq is on its way
abbrev pub opened : List ℕ → List ℕ → Chooser → Chooser → List Entry → List Entry → Hall
opened id other supplier receiver supplier_entries receiver_entries = record {
  near = record { chooser = receiver; standing = first_standing (receiver_header id other) receiver_entries; polls = 0 };
  far = record { chooser = supplier; standing = record (first_standing (supplier_header id other) supplier_entries) { first = false }; polls = 1 };
  flight = Enq ∷ [];
}

-- the two turns with the headers, of one frame each
abbrev pub AreHeadersTaken : Hall → Hall → Type 0
AreHeadersTaken old new =
    (behind : Hall) × (bids : Hall) × (answered : Hall) × AreExchanged 2 old behind × CleanStep behind bids × AreExchanged 2 bids answered × CleanStep answered new

-- The supplier takes its first own turn, which has heard nothing, and bids with the load of that.
pub record BeginsTexts (id other : List ℕ) (old new : Hall) : Type 0 where
  pub desk : Desk
  pub load : List ℕ
  pub turned : Turned (supplier_header id other) old.far.chooser old.far.standing.desk [] desk load
  pub left : new.far.standing.desk ≡ desk
  pub begins : BeginsTurn (supplier_ready id other) (receiver_ready id other) load new
  pub supplier : new.far.polls ≤ 6
  pub receiver : new.near.polls ≤ 5
  pub desks : new.near.standing.desk ≡ old.near.standing.desk
  pub choosers : (new.near.chooser ≡ old.near.chooser) × (new.far.chooser ≡ old.far.chooser)
  pub headers : (new.near.standing.header ≡ old.near.standing.header) × (new.far.standing.header ≡ old.far.standing.header)

-- ---- a session from its opening to its end

-- The turns with the headers are taken, then the supplier's first turn, with these sets, and then those with these more, up to the second in
-- succession without a block.
pub record IsCleanSession (id other : List ℕ) (supplier receiver : Chooser) (supplier_entries receiver_entries : List Entry) (first : Spoken) (more : List Spoken) (new : Hall) : Type 0 where
  pub middle : Hall
  pub headers : AreHeadersTaken (opened id other supplier receiver supplier_entries receiver_entries) middle
  pub desk : Desk
  pub turned : Turned (supplier_header id other) supplier (fresh_desk supplier_entries) [] desk first.text
  pub sets : first.sets ≡ texts_of (gathered (supplier_header id other) turned.proposed)
  pub turns : AreTaken more (supplier_ready id other) (receiver_ready id other) first.text middle new

-- The same up to a turn behind which the session goes on.
pub record GoesOnClean (id other : List ℕ) (supplier receiver : Chooser) (supplier_entries receiver_entries : List Entry) (first : Spoken) (more : List Spoken) (new : Hall) : Type 0 where
  pub middle : Hall
  pub headers : AreHeadersTaken (opened id other supplier receiver supplier_entries receiver_entries) middle
  pub desk : Desk
  pub turned : Turned (supplier_header id other) supplier (fresh_desk supplier_entries) [] desk first.text
  pub turns : GoOn more (supplier_ready id other) (receiver_ready id other) first.text middle new

-- Both ends are complete, and each was polled at most 60 times, and 24 times for each block of the sets that were spoken, each set cut alone and
-- counted as often as it was spoken. With few blocks none has heard so many bytes that it would give up.
pub record EndsClean (first : Spoken) (more : List Spoken) (new : Hall) : Type 0 where
  pub near : new.near.standing.line ≡ Ended Complete
  pub far : new.far.standing.line ≡ Ended Complete
  pub flight : new.flight ≡ []
  pub polls : (own : Bool) → (post_behind own more new).polls ≤ 60 + 24 * all_alone (turn_of first ∷ map turn_of more)
  pub heard : (own : Bool) → all_alone (turn_of first ∷ map turn_of more) ≤ 1_299 → (post_behind own more new).standing.heard < NOISE_BYTES
