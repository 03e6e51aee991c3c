-- Due sets: which signed sets are to be spoken, and what they ask of a session.
use Rattle.std.specs.Prelude.{ℕ, ◌+◌, ◌==◌, nat_le, Bool, true, false, ◌&&◌, ◌||◌, if◌then◌else◌, bytes_eq, List, [], ◌∷◌, ◌++◌, length, map, Option, Some, None, is_none}
use Rattle.std.specs.List.{filter_map}
use Rattle.std.specs.Option.{option_map}
use Rattle.dsd_record.specs.declared.set_view.SetView.{SetView}
use Rattle.dxs_envelope.specs.Sending.{text_of_sets}
use Rattle.dxs_envelope.specs.declared.outgoing.TheConstants.{TRANSMISSION_BYTES}
use Rattle.dsd_journal.specs.declared.entry.Entry.{Entry}
use Rattle.dsd_journal.specs.declared.header.Header.{Header}
use Rattle.delivery_book.specs.Deeds.{number_in, proposes}
use Rattle.delivery_book.specs.Finals.{final_of}
use Rattle.delivery_book.specs.Lookups.{last_signed, numbers_of}

-- ---- what they ask of a session

-- of one delivery
pub record Asked : Type 0 where
  pub number : List ℕ
  -- how often this session has spoken its last signed set
  pub times : ℕ
  -- a Known proposal of it came after that
  pub since : Bool
  -- a Known proposal of it came in this session
  pub met : Bool
  -- this session signed an acceptance of it
  pub accepts : Bool

abbrev pub unasked : List ℕ → Asked
unasked number = record { number = number; times = 0; since = false; met = false; accepts = false }

abbrev pub asked_of : List ℕ → List Asked → Asked
asked_of number [] = unasked number
asked_of number (asked ∷ more) = if bytes_eq asked.number number then asked else asked_of number more

-- with this of its delivery
abbrev pub with_asked : List Asked → Asked → List Asked
with_asked [] new = new ∷ []
with_asked (asked ∷ more) new = if bytes_eq asked.number new.number then new ∷ more else asked ∷ with_asked more new

-- a Known proposal was met
abbrev pub with_known : List Asked → List ℕ → List Asked
with_known all number = with_asked all (record (asked_of number all) { since = true; met = true })

-- a Known set was met; an acceptance asks nothing
abbrev pub with_known_set : List Asked → Option SetView → List Asked
with_known_set all None = all
with_known_set all (Some set) = if proposes set then with_known all (number_in set) else all

-- a set was signed, an acceptance or not; it was not spoken yet
abbrev pub with_signed : List Asked → List ℕ → Bool → List Asked
with_signed all number acceptance =
    with_asked all (record (asked_of number all) { times = 0; since = false; accepts = (asked_of number all).accepts || acceptance })

-- the last signed set was spoken
abbrev pub with_spoken : List Asked → List ℕ → List Asked
with_spoken all number = with_asked all (record (asked_of number all) { times = (asked_of number all).times + 1; since = false })

-- ---- due sets

-- that delivery is not final, or this session met a Known proposal of it, or signed an acceptance of it
abbrev pub is_wanted : List Entry → Asked → Bool
is_wanted entries asked = is_none (final_of entries asked.number) || asked.met || asked.accepts

-- not spoken yet in this session, or once and a Known proposal came after that
abbrev pub may_speak : Asked → Bool
may_speak asked = asked.times == 0 || (asked.times == 1 && asked.since)

abbrev pub is_due : List Entry → Asked → Bool
is_due entries asked = is_wanted entries asked && may_speak asked

-- a set that is due, with its delivery
pub record DueSet : Type 0 where
  pub number : List ℕ
  pub text : List ℕ

-- the last signed set of a delivery, where it is due
abbrev pub due_of : List Entry → List Asked → List ℕ → Option DueSet
due_of entries all number =
    if is_due entries (asked_of number all)
    then option_map (λ (text : List ℕ). record { number = number; text = text }) (last_signed entries number)
    else None

-- the due sets in the order of their deliveries
abbrev pub due_sets : List Entry → List Asked → List DueSet
due_sets entries all = filter_map (due_of entries all) (numbers_of entries)

-- ---- as far as a text reaches

abbrev pub texts_of : List DueSet → List (List ℕ)
texts_of sets = map (λ (set : DueSet). set.text) sets

-- the transmission of these sets, from this journal's own id to its peer's, is not too long
abbrev pub has_room : Header → ℕ → List DueSet → Bool
has_room header control sets = nat_le (length (text_of_sets header.own header.peer control (texts_of sets))) TRANSMISSION_BYTES

-- these, and of those behind them each that still has room, up to the first that has not
abbrev pub reached : Header → ℕ → List DueSet → List DueSet → List DueSet
reached header control front [] = front
reached header control front (set ∷ more) =
    if has_room header control (front ++ set ∷ []) then reached header control (front ++ set ∷ []) more else front
