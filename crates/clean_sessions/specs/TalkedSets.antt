-- What a clean session leaves of the talks of its deliveries.
use Rattle.std.specs.Prelude.{◌≡◌, ◌⊎◌, ℕ, true, is_some, List, [], ◌∷◌, ◌++◌, map}
use Rattle.dsd_values.specs.declared.role.Role.{Role}
use Rattle.dsd_record.specs.Choices.{Chooser}
use Rattle.dsd_record.specs.declared.set_view.SetView.{SetView}
use Rattle.dsd_journal.specs.declared.entry.Entry.{Entry}
use Rattle.delivery_book.specs.Finals.{final_of}
use Rattle.delivery_book.specs.Lookups.{awaits_us}
use Rattle.delivery_book.specs.Signing.{IsWritten, Legal}
use Rattle.dsd_record.specs.Version.{Version}
use Rattle.adjustment_895.specs.AnswerRecord.{AnswerRecord}
use Rattle.own_turn.specs.DueSets.{DueSet, texts_of}
use Rattle.clean_sessions.specs.ChosenAnswers.{IsChosenOn, nine_digits}
use Rattle.clean_sessions.specs.SeatTurns.{AreOwnTurns, Seat}
use Rattle.clean_sessions.specs.Sessions.{Spoken}
use Rattle.clean_sessions.specs.SinceLast.{SpeakOnce, SpeakSince, SpeakTwice}
use Rattle.clean_sessions.specs.Talks.{HasAcceptance, IsTalk, Talk, said_in}

-- Behind an end that declines more was said: the next set cannot be written with nine digits of a control number, but with fewer.
pub record SaysMore (talk : Talk) (said : List SetView) : Type 0 where
  pub next : SetView
  pub more : List SetView
  pub is : said ≡ (talk.known ++ talk.new) ++ next ∷ more
  pub long : (text : List ℕ) → IsWritten next nine_digits text → ⊥
  pub declined : HasAcceptance (talk.known ++ talk.new) → ⊥

-- the sets of a talk were said, and no others
abbrev pub AreSaid : Talk → List SetView → Type 0
AreSaid talk said = (said ≡ talk.known ++ talk.new) ⊎ SaysMore talk said

-- So it is of each delivery in the new lists of both ends, and one whose talk ends in an acceptance is final in both.
pub record FollowsTalks (choosers : Role → Chooser) (old new : Role → List Entry) : Type 0 where
  pub said : (number : List ℕ) (talk : Talk) → IsTalk choosers old number talk → (role : Role) → AreSaid talk (said_in number (new role))
  pub final : (number : List ℕ) (talk : Talk) → IsTalk choosers old number talk → HasAcceptance (talk.known ++ talk.new) → (role : Role) → is_some (final_of (new role) number) ≡ true

-- an end that has an answer, at a level that there is and not too long, wherever a legal list awaits it
abbrev pub NeverWaits : Role → Chooser → Type 0
NeverWaits role chooser = (entries : List Entry) (number : List ℕ) → Legal role entries → awaits_us entries number ≡ true
    → (version : Version) × (answer : AnswerRecord) × IsChosenOn role chooser entries number version answer

-- the delivery is final in both lists
abbrev pub IsFinalInBoth : List ℕ → List Entry → List Entry → Type 0
IsFinalInBoth number one other = (is_some (final_of one number) ≡ true) × (is_some (final_of other number) ≡ true)

-- What is spoken in a session are sets of own turns of both ends: those that an end signs in it, and the last one of each delivery that it had signed before. None is
-- spoken a third time; from two empty lists each is spoken once.
pub record SpeaksFew (near far : Seat) (first : Spoken) (more : List Spoken) : Type 0 where
  pub turns : List (List DueSet)
  pub taken : AreOwnTurns turns near far []
  pub sets : map (λ (spoken : Spoken). spoken.sets) (first ∷ more) ≡ map texts_of turns
  pub since : SpeakSince near.desk.entries far.desk.entries turns near far [] taken
  pub twice : SpeakTwice turns near far [] taken
  pub once : near.desk.entries ≡ [] → far.desk.entries ≡ [] → SpeakOnce turns near far [] taken
