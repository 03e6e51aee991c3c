-- A standing: what an end carries from one poll to the next.
use Rattle.std.specs.Prelude.{ℕ, Bool, true, false, List, []}
use Rattle.dsd_values.specs.declared.role.Role.{Role}
use Rattle.dsd_values.specs.declared.role.Role.TheVariants.{Supplier, Receiver}
use Rattle.dex_handshake.specs.LineTable.{Line, Ready, Bidding, Awaiting, SentAll, InText, Finished, Ended, started}
use Rattle.dsd_journal.specs.declared.entry.Entry.{Entry}
use Rattle.dsd_journal.specs.declared.header.Header.{Header}
use Rattle.own_turn.specs.OwnTurn.{Desk}

pub record Standing : Type 0 where
  -- the role and the ids
  pub header : Header
  -- the state of the table, with the text heard in this turn or the load being sent
  pub line : Line
  -- the bytes of a frame that has begun
  pub begun : List ℕ
  -- the entries, what due sets ask of this session, and the counts of refused sets and of own turns with blocks
  pub desk : Desk
  -- how many bytes this run has heard
  pub heard : ℕ
  -- the supplier's first poll is still to come
  pub first : Bool
  -- a call of this end has answered a fault
  pub failed : Bool

abbrev pub is_supplier : Role → Bool
is_supplier Supplier = true
is_supplier Receiver = false

-- the standing of an end that was opened over these entries
abbrev pub first_standing : Header → List Entry → Standing
first_standing header entries = record {
  header = header;
  line = (started header.role header.own header.peer).next;
  begun = [];
  desk = record { entries = entries; asked = []; refused = 0; turns = 0 };
  heard = 0;
  first = is_supplier header.role;
  failed = false;
}

abbrev pub has_ended : Line → Bool
has_ended (Ended end) = true
has_ended (Ready own) = false
has_ended (Bidding own load) = false
has_ended (Awaiting own sending) = false
has_ended (SentAll own) = false
has_ended (InText own taking) = false
has_ended (Finished own text) = false

abbrev pub with_line : Standing → Line → Standing
with_line standing line = record standing { line = line }

abbrev pub with_begun : Standing → List ℕ → Standing
with_begun standing begun = record standing { begun = begun }
