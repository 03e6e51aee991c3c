-- Where the desks of both ends stand on one delivery, and what an own turn has to do with it.
use Rattle.std.specs.Prelude.{◌≡◌, ◌≤◌, ◌+◌, ℕ, max, Bool, true, false, not, ◌&&◌, ◌||◌, ◌==◌, nat_lt, bytes_eq, is_some, List, [], ◌∷◌, length, Some, ⊤}
use Rattle.dsd_values.specs.declared.role.Role.{Role}
use Rattle.dsd_values.specs.declared.role.Role.TheVariants.{Supplier}
use Rattle.base_record_894.specs.BaseRecord.{BaseRecord}
use Rattle.dsd_record.specs.Choices.{Chooser}
use Rattle.dsd_record.specs.ReadSets.{set_in}
use Rattle.dsd_record.specs.declared.set_view.SetView.{SetView}
use Rattle.dsd_journal.specs.declared.entry.Entry.{Entry}
use Rattle.delivery_book.specs.Agreement.{Backed}
use Rattle.delivery_book.specs.Deeds.{deeds_of, number_in, of_delivery, other_role, proposes, signer_of}
use Rattle.delivery_book.specs.Lookups.{last_signed}
use Rattle.delivery_book.specs.Refusals.{is_role}
use Rattle.delivery_book.specs.Signing.{Legal}
use Rattle.delivery_book.specs.Standing.{acceptance_of}
use Rattle.own_turn.specs.DueSets.{Asked, DueSet, asked_of, texts_of}
use Rattle.own_turn.specs.OwnTurn.{Desk, MayAnswer, MayPropose, is_acceptance, sets_lent}
use Rattle.clean_sessions.specs.Courses.{Course, Stand, Told, awaits, hears}

-- ---- both lists

-- one list of the end of this role and one of the other end, both legal, of which each one's taken sets are among the other's signed ones
pub record AreBacked (role : Role) (own partner : List Entry) : Type 0 where
  pub legal : Legal role own
  pub others : Legal (other_role role) partner
  pub backed : Backed own partner
  pub backing : Backed partner own

-- how many sets of a delivery a list has
abbrev pub sets_in : List ℕ → List Entry → ℕ
sets_in number entries = length (of_delivery number (deeds_of entries))

-- ---- the stand

abbrev pub told_by : Asked → Told
told_by asked = record { times = asked.times; since = asked.since; met = asked.met; accepts = asked.accepts }

-- what due sets ask of a delivery
abbrev pub told_in : List ℕ → Desk → Told
told_in number desk = told_by (asked_of number desk.asked)

-- of lists with so many sets: the sets at even places are the supplier's to sign, so the last one is own where the next one is not
abbrev pub stand_at : Role → ℕ → ℕ → Told → Told → Stand
stand_at role own partner mine theirs = record {
  sets = max own partner;
  heard = own == partner && nat_lt 0 own;
  last_own = not (is_role (signer_of (max own partner)) role);
  own = mine;
  partner = theirs;
}

-- from the desk of the end of this role, whose turn comes
abbrev pub stand_of : List ℕ → Role → Desk → Desk → Stand
stand_of number role own partner = stand_at role (sets_in number own.entries) (sets_in number partner.entries) (told_in number own) (told_in number partner)

-- ---- what is heard

-- a set of this delivery is among them
abbrev pub is_among : List ℕ → List DueSet → Bool
is_among number [] = false
is_among number (set ∷ more) = bytes_eq set.number number || is_among number more

-- the last signed sets of some deliveries, each once
abbrev pub AreLast : List Entry → List DueSet → Type 0
AreLast entries [] = ⊤
AreLast entries (set ∷ more) = (last_signed entries set.number ≡ Some set.text) × (is_among set.number more ≡ false) × AreLast entries more

-- the text lends these sets, which its speaker signed as the last ones of their deliveries
pub record IsHeard (speaker : List Entry) (sets : List DueSet) (text : List ℕ) : Type 0 where
  pub lends : sets_lent text ≡ texts_of sets
  pub last : AreLast speaker sets

-- ---- the course

-- the list holds a front of a course of this delivery, and its acceptance stands at the end of the course
pub record IsFront (course : Course) (number : List ℕ) (entries : List Entry) : Type 0 where
  pub most : sets_in number entries ≤ course.sets
  pub ends : is_some (acceptance_of number (deeds_of entries)) ≡ (course.accepted && sets_in number entries == course.sets)

-- a supplier has drafts
abbrev pub may_propose : Role → Bool
may_propose role = is_role role Supplier

-- the course has a set for this end to sign
abbrev pub is_open : Course → Role → Stand → Bool
is_open course role at = awaits course at || (may_propose role && at.sets == 0 && nat_lt 0 course.sets)

-- ---- own sets

-- the text is a set of this delivery: its acceptance, or a proposal
pub record IsOwnSet (number : List ℕ) (acceptance : Bool) (text : List ℕ) : Type 0 where
  pub set : SetView
  pub read : set_in text ≡ Some set
  pub its : number_in set ≡ number
  pub proposes : proposes set ≡ not acceptance

-- what this end signs of a delivery is a set of it
pub record SignsSets (role : Role) (chooser : Chooser) : Type 0 where
  pub answers : (entries : List Entry) (number text : List ℕ) → Legal role entries → (may : MayAnswer role chooser entries number text)
      → IsOwnSet number (is_acceptance chooser entries number may.chosen.version) text
  pub drafts : (entries : List Entry) (draft : BaseRecord) (text : List ℕ) → Legal role entries → MayPropose role chooser entries draft text → IsOwnSet draft.number false text

-- ---- the turn

-- where the course has a set for this end to sign, behind what it has heard, that is signed
abbrev pub GoesOn : Course → Role → Bool → Stand → Stand → Type 0
GoesOn course role sent old new = is_open course role (hears course sent old) ≡ true → new.sets ≡ old.sets + 1

-- What holds between two turns, where the end of this role has its own turn next: both lists are backed, and the text that it has heard lends the
-- last signed sets of its partner that were spoken.
pub record IsBetweenTurns (role : Role) (own partner : Desk) (sets : List DueSet) (text : List ℕ) : Type 0 where
  pub lists : AreBacked role own.entries partner.entries
  pub heard : IsHeard partner.entries sets text

-- The lists before and behind an own turn hold fronts of the course, and the turn goes on with it.
pub record FollowsCourse (course : Course) (number : List ℕ) (role : Role) (old partner new : Desk) (sets : List DueSet) : Type 0 where
  pub before : IsFront course number old.entries
  pub others : IsFront course number partner.entries
  pub behind : IsFront course number new.entries
  pub goes_on : GoesOn course role (is_among number sets) (stand_of number role old partner) (stand_of number (other_role role) partner new)
