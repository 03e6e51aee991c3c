-- What an end has signed of its deliveries from the last set of each before a session on, in blocks; and what is spoken in own turns, in blocks.
use Rattle.std.specs.Prelude.{All, Contains, ◌≡◌, ◌≤◌, ℕ, ◌+◌, ◌-◌, Bool, true, false, not, List, [], ◌∷◌, length, drop, map, ⊤}
use Rattle.dsd_journal.specs.declared.entry.Entry.{Entry}
use Rattle.delivery_book.specs.Deeds.{Deed, deeds_of, signed_of}
use Rattle.delivery_book.specs.Lookups.{numbers_of}
use Rattle.own_turn.specs.DueSets.{DueSet, texts_of}
use Rattle.own_turn.specs.OwnTurn.{Desk}
use Rattle.clean_sessions.specs.BlocksAlone.{blocks_alone}
use Rattle.clean_sessions.specs.DeliveryStands.{is_among, told_in}
use Rattle.clean_sessions.specs.SeatTurns.{AreOwnTurns, Seat, at_desk}

-- the deeds from the last one of so many on
abbrev pub from_last : ℕ → List Deed → List Deed
from_last count deeds = drop (count - 1) deeds

abbrev pub blocks_of_deeds : List Deed → ℕ
blocks_of_deeds deeds = blocks_alone (map (λ (deed : Deed). deed.text) deeds)

-- the sets of a delivery that this end has signed, from the last one of those before on
abbrev pub blocks_since : List ℕ → List Entry → List Entry → ℕ
blocks_since number old new = blocks_of_deeds (from_last (length (signed_of number (deeds_of old))) (signed_of number (deeds_of new)))

-- of all these deliveries
abbrev pub all_since : List (List ℕ) → List Entry → List Entry → ℕ
all_since [] old new = 0
all_since (number ∷ more) old new = blocks_since number old new + all_since more old new

-- of all that this end knows
abbrev pub signed_since : List Entry → List Entry → ℕ
signed_since old new = all_since (numbers_of new) old new

-- ---- own turns

-- the blocks of all that is spoken in them, each set cut alone
abbrev pub blocks_spoken_in : List (List DueSet) → ℕ
blocks_spoken_in [] = 0
blocks_spoken_in (sets ∷ more) = blocks_alone (texts_of sets) + blocks_spoken_in more

-- the desk behind them, of the end whose own turn the first one is, or of the other one
abbrev pub desk_behind : Bool → (turns : List (List DueSet)) → (near far : Seat) → (text : List ℕ) → AreOwnTurns turns near far text → Desk
desk_behind true [] near far text t = near.desk
desk_behind false [] near far text t = far.desk
desk_behind own (first ∷ more) near far text t = desk_behind (not own) more far (at_desk near t.0) t.1 t.4

-- each set that is spoken in them was not spoken since it was signed
abbrev pub SpeakOnce : (turns : List (List DueSet)) → (near far : Seat) → (text : List ℕ) → AreOwnTurns turns near far text → Type 0
SpeakOnce [] near far text t = ⊤
SpeakOnce (first ∷ more) near far text t = ((number : List ℕ) → is_among number first ≡ true → (told_in number t.2.proposed).times ≡ 0) × SpeakOnce more far (at_desk near t.0) t.1 t.4

-- or once since then at most: so no set is spoken a third time
abbrev pub SpeakTwice : (turns : List (List DueSet)) → (near far : Seat) → (text : List ℕ) → AreOwnTurns turns near far text → Type 0
SpeakTwice [] near far text t = ⊤
SpeakTwice (first ∷ more) near far text t = ((number : List ℕ) → is_among number first ≡ true → (told_in number t.2.proposed).times ≤ 1) × SpeakTwice more far (at_desk near t.0) t.1 t.4

-- the text is that of a set of its delivery that this end has signed, from the last one of those before on
abbrev pub IsSince : List Entry → List Entry → DueSet → Type 0
IsSince old new set = Contains (map (λ (deed : Deed). deed.text) (from_last (length (signed_of set.number (deeds_of old))) (signed_of set.number (deeds_of new)))) set.text

-- each set that is spoken in them is such a one of its speaker, which had these entries before
abbrev pub SpeakSince : (own theirs : List Entry) → (turns : List (List DueSet)) → (near far : Seat) → (text : List ℕ) → AreOwnTurns turns near far text → Type 0
SpeakSince own theirs [] near far text t = ⊤
SpeakSince own theirs (first ∷ more) near far text t = All (IsSince own (desk_behind false more far (at_desk near t.0) t.1 t.4).entries) first × SpeakSince theirs own more far (at_desk near t.0) t.1 t.4
