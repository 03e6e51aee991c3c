-- What own turns in a row, up to two in which nothing is due, make of each delivery.
use Rattle.std.specs.Prelude.{◌≡◌, ◌≤◌, ◌+◌, ◌*◌, ℕ, Bool, true, false, ◌||◌, is_some, List, [], ◌∷◌, length, map}
use Rattle.dsd_journal.specs.declared.entry.Entry.{Entry}
use Rattle.delivery_book.specs.Deeds.{Deed, deeds_of, of_delivery}
use Rattle.delivery_book.specs.Finals.{final_of}
use Rattle.delivery_book.specs.Lookups.{awaits_us}
use Rattle.delivery_book.specs.Standing.{acceptance_of}
use Rattle.own_turn.specs.DueSets.{DueSet}
use Rattle.clean_sessions.specs.SeatTurns.{AreOwnTurns, Seat, most_turns}
use Rattle.clean_sessions.specs.Declining.{HasAnswered}
use Rattle.clean_sessions.specs.DeliveryStands.{sets_in}
use Rattle.clean_sessions.specs.Halls.{Hall, Post}
use Rattle.clean_sessions.specs.Sessions.{Spoken, post_behind, turn_of}
use Rattle.clean_sessions.specs.SinceLast.{desk_behind, signed_since}
use Rattle.clean_sessions.specs.Turns.{all_alone}

-- the texts of the sets of a delivery, in their order
abbrev pub texts_in : List ℕ → List Entry → List (List ℕ)
texts_in number entries = map (λ (deed : Deed). deed.text) (of_delivery number (deeds_of entries))

-- Both lists have the same sets of the delivery, an acceptance in both or in none, and with one it is final. Without one it awaits an end.
pub record IsSettled (number : List ℕ) (one other : List Entry) : Type 0 where
  pub same : texts_in number one ≡ texts_in number other
  pub accepted : is_some (acceptance_of number (deeds_of one)) ≡ is_some (acceptance_of number (deeds_of other))
  pub final : is_some (final_of one number) ≡ is_some (acceptance_of number (deeds_of one))
  pub their_final : is_some (final_of other number) ≡ is_some (acceptance_of number (deeds_of other))
  pub awaits : is_some (acceptance_of number (deeds_of one)) ≡ false → 1 ≤ sets_in number one → (awaits_us one number || awaits_us other number) ≡ true

-- behind the turns each delivery is settled
abbrev pub AreSettled : (turns : List (List DueSet)) → (near far : Seat) → (text : List ℕ) → AreOwnTurns turns near far text → Type 0
AreSettled turns near far text t = (number : List ℕ) → IsSettled number (desk_behind true turns near far text t).entries (desk_behind false turns near far text t).entries

-- the blocks of what both ends have signed at these posts of each delivery, from its last set before on
abbrev pub blocks_signed : Seat → Seat → Post → Post → ℕ
blocks_signed near far own other = signed_since near.desk.entries own.standing.desk.entries + signed_since far.desk.entries other.standing.desk.entries

-- What a clean session leaves, from these ends on: each delivery is settled, and each end has declined what awaits it and held back what it left new.
-- It has no more turns than its deliveries allow. What is spoken has no more blocks, and either end was polled no more often, than what they have
-- signed allows; from two empty lists each set is spoken once.
pub record LeavesSettled (near far : Seat) (first : Spoken) (more : List Spoken) (new : Hall) : Type 0 where
  pub settled : (number : List ℕ) → IsSettled number (post_behind true more new).standing.desk.entries (post_behind false more new).standing.desk.entries
  pub answered : HasAnswered near.header.role near.chooser (post_behind true more new).standing.desk.entries
  pub their_answered : HasAnswered far.header.role far.chooser (post_behind false more new).standing.desk.entries
  pub turns : length (first ∷ more) ≤ most_turns near far
  pub blocks : all_alone (turn_of first ∷ map turn_of more) ≤ 2 * blocks_signed near far (post_behind true more new) (post_behind false more new)
  pub polls : (own : Bool) → (post_behind own more new).polls ≤ 60 + 24 * (2 * blocks_signed near far (post_behind true more new) (post_behind false more new))
  pub once : near.desk.entries ≡ [] → far.desk.entries ≡ [] → all_alone (turn_of first ∷ map turn_of more) ≤ blocks_signed near far (post_behind true more new) (post_behind false more new)
