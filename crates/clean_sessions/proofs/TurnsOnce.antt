-- From two empty lists own turns speak each set once.
use Rattle.std.proofs.Common.{◌≡◌, ℕ, true, List, [], ◌∷◌, sym, ap, subst, ◌∙◌}
use Rattle.dsd_values.specs.declared.role.Role.{Role}
use Rattle.dsd_values.specs.declared.role.Role.TheVariants.{Supplier}
use Rattle.dsd_journal.specs.declared.entry.Entry.{Entry}
use Rattle.own_turn.specs.DueSets.{DueSet}
use Rattle.own_turn.specs.OwnTurn.{gathered}
use Rattle.clean_sessions.specs.Courses.{Stand, Told, nothing_told, prepares}
use Rattle.clean_sessions.specs.DeliveryStands.{is_among, may_propose, sets_in, stand_at, told_in}
use Rattle.clean_sessions.specs.Places.{OnceEach}
use Rattle.clean_sessions.specs.SeatTurns.{AreOwnTurns, IsFresh, MeetForTurns, Seat, at_desk}
use Rattle.clean_sessions.specs.SinceLast.{SpeakOnce}
use Rattle.clean_sessions.proofs.CoursesFollowed.{fresh_told}
use Rattle.clean_sessions.proofs.DeliveriesSettled.{at, follow, so_far, turn}
use Rattle.clean_sessions.proofs.DeliveryTurns.{proposed_at}
use Rattle.clean_sessions.proofs.OwnSets.{signs_sets}
use Rattle.clean_sessions.proofs.SeatsMeet.{meet_next}
use Rattle.clean_sessions.proofs.SpokenOnce.{nothing_spoken, once}

abbrev AllOnce : Seat → Seat → List DueSet → Type 0
AllOnce near far sets = (number : List ℕ) → OnceEach (is_among number sets) (at number near far)

turns_once : (turns : List (List DueSet)) (near far : Seat) (sets : List DueSet) (text : List ℕ) → MeetForTurns near far sets text → AllOnce near far sets → (t : AreOwnTurns turns near far text) → SpeakOnce turns near far text t
turns_once [] near far sets text m o t = tt
turns_once (first ∷ more) near far sets text m o (desk, load, turned, is, rest) = (
  λ number there.
      ap (λ (s : Stand). s.own.times)
      (proposed_at near.header near.chooser (signs_sets near.header.role near.chooser m.near_drafts) near.desk far.desk desk sets text load m.between turned (so_far number far (at_desk near desk)) number
      (follow number near far sets text m desk load turned))
      ∙ (each number).1 (sym (ap (is_among number) is) ∙ there),
  turns_once more far (at_desk near desk) (gathered near.header turned.proposed) load (meet_next near far sets text m desk load turned) (λ number. (each number).0) rest,
)
  where
    each : (number : List ℕ) → OnceEach (is_among number (gathered near.header turned.proposed)) (at number far (at_desk near desk))
        × (is_among number (gathered near.header turned.proposed) ≡ true → (prepares (so_far number far (at_desk near desk)) (may_propose near.header.role) (is_among number sets) (at number near far)).own.times ≡ 0)
    each number =
        once (so_far number far (at_desk near desk)) (may_propose near.header.role) (is_among number sets) (is_among number (gathered near.header turned.proposed)) (at number near far) (at number far (at_desk near desk)) (o number)
        (turn number near far sets text m desk load turned)

pub speak_once : (turns : List (List DueSet)) (near far : Seat) → MeetForTurns near far [] [] → near.header.role ≡ Supplier → near.desk.entries ≡ [] → far.desk.entries ≡ [] → IsFresh near → IsFresh far
    → (t : AreOwnTurns turns near far []) → SpeakOnce turns near far [] t
speak_once turns near far m supplier none none_there fresh also t = turns_once turns near far [] [] m (λ number. subst (OnceEach (is_among number [])) (sym (start number)) nothing_spoken) t
  where
    start : (number : List ℕ) → at number near far ≡ stand_at Supplier 0 0 nothing_told nothing_told
    start number =
        ap (λ (l : List Entry). stand_at near.header.role (sets_in number l) (sets_in number far.desk.entries) (told_in number near.desk) (told_in number far.desk)) none
        ∙ ap (λ (l : List Entry). stand_at near.header.role 0 (sets_in number l) (told_in number near.desk) (told_in number far.desk)) none_there
        ∙ ap (λ (r : Role). stand_at r 0 0 (told_in number near.desk) (told_in number far.desk)) supplier
        ∙ ap (λ (k : Told). stand_at Supplier 0 0 k (told_in number far.desk)) (fresh_told number near.desk.asked fresh)
        ∙ ap (λ (k : Told). stand_at Supplier 0 0 nothing_told k) (fresh_told number far.desk.asked also)
