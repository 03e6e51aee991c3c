-- A delivery over own turns in a row that follow its course, to the end of a session.
use Rattle.std.specs.Prelude.{◌≡◌, ◌+◌, ℕ, true, is_some, List, [], ◌∷◌, ⊤}
use Rattle.dsd_journal.specs.declared.entry.Entry.{Entry}
use Rattle.delivery_book.specs.Finals.{final_of}
use Rattle.own_turn.specs.DueSets.{DueSet, due_sets}
use Rattle.own_turn.specs.OwnTurn.{Desk}
use Rattle.clean_sessions.specs.Courses.{Course, blocks_spoken, prepares}
use Rattle.clean_sessions.specs.DeliveryStands.{FollowsCourse, is_among, may_propose, sets_in, stand_of}
use Rattle.clean_sessions.specs.SeatTurns.{AreOwnTurns, Seat, at_desk}

-- each of them follows the course
abbrev pub FollowCourse : Course → List ℕ → (turns : List (List DueSet)) → (near far : Seat) → List DueSet → (text : List ℕ) → AreOwnTurns turns near far text → Type 0
FollowCourse course number [] near far sets text t = ⊤
FollowCourse course number (first ∷ more) near far sets text t =
    FollowsCourse course number near.header.role near.desk far.desk t.0 sets × FollowCourse course number more far (at_desk near t.0) first t.1 t.4

-- nothing is due where the end has taken and signed
abbrev pub NothingDue : Desk → Type 0
NothingDue desk = due_sets desk.entries desk.asked ≡ []

-- the last two of them have nothing to speak
abbrev pub EndSilent : (turns : List (List DueSet)) → (near far : Seat) → (text : List ℕ) → AreOwnTurns turns near far text → Type 0
EndSilent [] near far text t = ⊥
EndSilent (first ∷ []) near far text t = ⊥
EndSilent (first ∷ second ∷ []) near far text t = NothingDue t.2.proposed × NothingDue t.4.2.proposed
EndSilent (first ∷ second ∷ third ∷ more) near far text t = EndSilent (second ∷ third ∷ more) far (at_desk near t.0) t.1 t.4

-- the list holds the whole course, and where that ends with an acceptance the delivery is final in it
pub record HasCourse (course : Course) (number : List ℕ) (entries : List Entry) : Type 0 where
  pub sets : sets_in number entries ≡ course.sets
  pub final : course.accepted ≡ true → is_some (final_of entries number) ≡ true

-- behind the turns both lists do
abbrev pub BothHave : Course → List ℕ → (turns : List (List DueSet)) → (near far : Seat) → (text : List ℕ) → AreOwnTurns turns near far text → Type 0
BothHave course number [] near far text t = HasCourse course number near.desk.entries × HasCourse course number far.desk.entries
BothHave course number (first ∷ more) near far text t = BothHave course number more far (at_desk near t.0) t.1 t.4

-- the blocks of what is spoken of the delivery, where the k-th set of its course is cut into so many
abbrev pub blocks_in : (ℕ → ℕ) → Course → List ℕ → (turns : List (List DueSet)) → (near far : Seat) → List DueSet → (text : List ℕ) → AreOwnTurns turns near far text → ℕ
blocks_in weight course number [] near far sets text t = 0
blocks_in weight course number (first ∷ more) near far sets text t =
    blocks_spoken weight (is_among number first) (prepares course (may_propose near.header.role) (is_among number sets) (stand_of number near.header.role near.desk far.desk))
    + blocks_in weight course number more far (at_desk near t.0) first t.1 t.4
