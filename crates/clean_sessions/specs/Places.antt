-- What holds of a delivery before each turn of a clean session.
use Rattle.std.specs.Prelude.{◌≡◌, ◌≤◌, ◌⊎◌, ℕ, Bool, true, false, ◌||◌}
use Rattle.clean_sessions.specs.Courses.{Course, Stand, Told, flips, has_signed, is_complete, nothing_told}

-- a course with an acceptance has a proposal before it
abbrev pub IsCourse : Course → Type 0
IsCourse course = course.accepted ≡ true → 2 ≤ course.sets

-- an acceptance of an earlier session that nobody heard comes again: its signer met the partner's proposal, or the partner has still to speak this
abbrev pub ComesAgain : Course → Stand → Told → ℕ → Type 0
ComesAgain course at signer times = is_complete course at ≡ true → ((signer.met || signer.accepts) ≡ true) ⊎ (times ≡ 0)

-- before the own turn; the partner has spoken its last set in the turn before, or it has not
abbrev pub IsPlace : Course → Bool → Bool → Bool → Stand → Type 0
-- heard: by the partner, whose choice is to wait, or the course is at its end
IsPlace course true true sent at = at.sets ≡ course.sets
IsPlace course true false sent at = Unit {0}
-- not heard, and own: it was never spoken
IsPlace course false true true at = at.own.times ≡ 0
IsPlace course false true false at = (at.own.times ≡ 0) × ComesAgain course at at.own at.partner.times
-- not heard, and the partner's: it is on its way, or it was never spoken
IsPlace course false false true at = Unit {0}
IsPlace course false false false at = (at.partner.times ≡ 0) × ComesAgain course at at.partner at.own.times

pub record Holds (course : Course) (sent : Bool) (at : Stand) : Type 0 where
  pub some : 1 ≤ at.sets
  pub most : at.sets ≤ course.sets
  pub place : IsPlace course at.heard at.last_own sent at

-- as a session begins, before the supplier's first turn: whatever two such lists hold of the course, or nothing yet
pub record Begins (course : Course) (at : Stand) : Type 0 where
  pub right : IsCourse course
  pub some : 1 ≤ course.sets
  pub most : at.sets ≤ course.sets
  pub none : at.sets ≡ 0 → (at.heard ≡ false) × (at.last_own ≡ false)
  pub own : at.own ≡ nothing_told
  pub partner : at.partner ≡ nothing_told

-- both ends have the whole course
abbrev pub IsDone : Course → Stand → Type 0
IsDone course at = (at.sets ≡ course.sets) × (at.heard ≡ true)

-- no set was spoken more than twice
pub record Bounded (course : Course) (at : Stand) : Type 0 where
  pub most : at.sets ≤ course.sets
  pub own : at.own.times ≤ 2
  pub partner : at.partner.times ≤ 2

-- ---- from two empty lists

-- an own set that was never spoken is the last one, and not heard
pub record OnceEach (sent : Bool) (at : Stand) : Type 0 where
  pub own_calm : at.own.since ≡ false
  pub partner_calm : at.partner.since ≡ false
  pub own : has_signed at ≡ true → at.own.times ≡ 0 → (at.last_own ≡ true) × (at.heard ≡ false)
  pub partner : has_signed (flips at) ≡ true → at.partner.times ≡ 0 → (at.last_own ≡ false) × (at.heard ≡ false)
  pub sending : sent ≡ true → (at.last_own ≡ false) × (at.heard ≡ false) × (1 ≤ at.partner.times)
