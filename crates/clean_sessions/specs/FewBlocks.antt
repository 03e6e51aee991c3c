-- What own turns speak and add from here on, told before they are taken: from both lists and both choosers alone.
use Rattle.std.specs.Prelude.{◌≤◌, ◌<◌, ℕ, ◌+◌, ◌*◌, Bool, true, false, List, [], ◌∷◌, length, map}
use Rattle.dsd_journal.specs.JournalImage.{gate_place}
use Rattle.dsd_journal.specs.declared.entry.Entry.{Entry}
use Rattle.dsd_journal.specs.declared.limits.TheConstants.{JOURNAL_BYTES}
use Rattle.dsd_end.specs.declared.fault.TheConstants.{NOISE_BYTES}
use Rattle.own_turn.specs.DueSets.{DueSet}
use Rattle.own_turn.specs.NextEntry.{TurnAddsNext}
use Rattle.clean_sessions.specs.Halls.{Hall}
use Rattle.clean_sessions.specs.SeatTurns.{AreOwnTurns, EndsWhenSilent, Seat, at_desk}
use Rattle.clean_sessions.specs.Sessions.{Spoken, post_behind, turn_of}
use Rattle.clean_sessions.specs.SinceLast.{blocks_spoken_in, desk_behind, signed_since}
use Rattle.clean_sessions.specs.Turns.{all_alone}

-- With so many blocks an end is polled at most 60 + 24 * 1,299 times. Each poll hears at most 64 bytes, and these are too few to be noise.
abbrev pub most_blocks : ℕ
most_blocks = 1_299

-- Own turns in turn, up to two in a row without a set, speak no more blocks than these, each set cut alone and counted as often as it is spoken.
abbrev pub SpeakAtMost : ℕ → Seat → Seat → List ℕ → Type 0
SpeakAtMost most near far text = (turns : List (List DueSet)) → AreOwnTurns turns near far text → EndsWhenSilent false turns → blocks_spoken_in turns ≤ most

-- Behind own turns in turn, up to two in a row without a set, both ends have signed no more blocks than these: of each delivery the sets from its last one before on.
abbrev pub SignAtMost : ℕ → Seat → Seat → List ℕ → Type 0
SignAtMost most near far text =
    (turns : List (List DueSet)) → (t : AreOwnTurns turns near far text) → EndsWhenSilent false turns
    → signed_since near.desk.entries (desk_behind true turns near far text t).entries + signed_since far.desk.entries (desk_behind false turns near far text t).entries ≤ most

-- Whatever entry the own turn of this end adds next, which has heard this text, the journal has room for it.
abbrev pub HasPlace : Seat → List ℕ → Type 0
HasPlace seat text =
    (entries : List Entry) (entry : Entry) → TurnAddsNext seat.header.role seat.chooser text seat.desk entries entry → gate_place entries + 7 + length entry.payload ≤ JOURNAL_BYTES

-- so it is of the own turn that comes behind these
abbrev pub HasPlaceBehind : (turns : List (List DueSet)) → (near far : Seat) → (text : List ℕ) → AreOwnTurns turns near far text → Type 0
HasPlaceBehind [] near far text t = HasPlace near text
HasPlaceBehind (first ∷ more) near far text t = HasPlaceBehind more far (at_desk near t.0) t.1 t.4

-- Behind own turns in turn, of which so many are taken, the next one finds room.
abbrev pub HaveRoom : Seat → Seat → List ℕ → Type 0
HaveRoom near far text = (turns : List (List DueSet)) → (t : AreOwnTurns turns near far text) → EndsWhenSilent false turns → HasPlaceBehind turns near far text t

-- A session in which this was spoken had no more blocks than these, each end was polled at most 60 times and 24 times for each of them, and what it has heard is no noise.
pub record SpendsFew (most : ℕ) (first : Spoken) (more : List Spoken) (new : Hall) : Type 0 where
  pub blocks : all_alone (turn_of first ∷ map turn_of more) ≤ most
  pub polls : (own : Bool) → (post_behind own more new).polls ≤ 60 + 24 * most
  pub bytes : most ≤ most_blocks → (own : Bool) → (post_behind own more new).standing.heard < NOISE_BYTES
