-- Behind two own turns in a row in which nothing is due both lists have the same sets of each delivery.
use Rattle.std.proofs.Common.{◌≡◌, ◌⊎◌, ◌≤◌, ℕ, max, Bool, true, false, not, ◌&&◌, ◌==◌, nat_lt, List, [], ◌∷◌, refl, sym, ap, subst, ◌∙◌, inl, inr, arith}
use Rattle.std.proofs.lemmas.Bool.{cases_Bool, cases_eq}
use Rattle.dsd_values.specs.declared.role.Role.{Role}
use Rattle.dsd_values.specs.declared.role.Role.TheVariants.{Receiver, Supplier}
use Rattle.delivery_book.specs.Deeds.{signer_of}
use Rattle.delivery_book.specs.Refusals.{is_role}
use Rattle.own_turn.specs.DueSets.{DueSet}
use Rattle.own_turn.specs.OwnTurn.{Desk, Turned, gathered}
use Rattle.clean_sessions.specs.CourseTurns.{EndSilent}
use Rattle.clean_sessions.specs.Courses.{Course, Stand, TakesTurn, Told, flips, is_complete, is_due, nothing_told, prepares, signs, speaks}
use Rattle.clean_sessions.specs.DeliveryStands.{FollowsCourse, is_among, may_propose, sets_in, stand_of}
use Rattle.clean_sessions.specs.Places.{Begins, Holds, IsCourse}
use Rattle.clean_sessions.specs.SeatTurns.{AreOwnTurns, IsFresh, MeetForTurns, Seat, at_desk}
use Rattle.clean_sessions.specs.SinceLast.{desk_behind}
use Rattle.clean_sessions.specs.Settled.{AreSettled, IsSettled}
use Rattle.clean_sessions.proofs.BoolTests.{never_both}
use Rattle.clean_sessions.proofs.CoursesBehind.{both_fit, complete_is, course_of, right_course}
use Rattle.clean_sessions.proofs.CoursesDone.{signed_due}
use Rattle.clean_sessions.proofs.CoursesFollowed.{Stands, ended, fresh_told, holds_next, max_low, silent_at, some_prepared, turn_at, zero_no}
use Rattle.clean_sessions.proofs.CoursesGrowing.{complete_whole, holds_on, nothing_known, same_course, silent_sets, turned_sets}
use Rattle.clean_sessions.proofs.EvenLists.{settled, settled_turned}
use Rattle.clean_sessions.proofs.DueStands.{backed_turned}
use Rattle.clean_sessions.proofs.OwnSets.{signs_sets}
use Rattle.clean_sessions.proofs.ReadyPlaces.{first_signed}
use Rattle.clean_sessions.proofs.SeatsMeet.{meet_next}
use Rattle.clean_sessions.proofs.SpareSteps.{turn_leaves}
use Rattle.clean_sessions.proofs.TurnsBehind.{behind_good, follows_behind}

-- ---- where nothing is known yet

supplies : (role : Role) → may_propose role ≡ true → role ≡ Supplier
supplies Supplier e = refl
supplies Receiver e = absurd (cc)

module _ (number : List ℕ) where
  abbrev pub at : Seat → Seat → Stand
  at near far = stand_of number near.header.role near.desk far.desk

  -- the course of both lists between two turns
  abbrev pub so_far : Seat → Seat → Course
  so_far near far = course_of number far.desk.entries near.desk.entries

  -- neither end has a set of it, and nothing was told
  record Unknown (near far : Seat) (sets : List DueSet) : Type 0 where
    none : (at near far).sets ≡ 0
    own : (at near far).own ≡ nothing_told
    partner : (at near far).partner ≡ nothing_told
    silent : is_among number sets ≡ false

  -- a session begins
  record Starts (near far : Seat) (sets : List DueSet) : Type 0 where
    supplier : near.header.role ≡ Supplier
    own : (at near far).own ≡ nothing_told
    partner : (at near far).partner ≡ nothing_told
    silent : is_among number sets ≡ false

  abbrev Placed : Seat → Seat → List DueSet → Type 0
  Placed near far sets = Unknown near far sets ⊎ (Starts near far sets ⊎ Holds (so_far near far) (is_among number sets) (at near far))

  module _ (near far : Seat) (sets : List DueSet) (text : List ℕ) (m : MeetForTurns near far sets text) (desk : Desk) (load : List ℕ) (turned : Turned near.header near.chooser near.desk text desk load) where
    abbrev behind : Seat
    behind = at_desk near desk

    abbrev drafts : Bool
    drafts = may_propose near.header.role

    abbrev sent : Bool
    sent = is_among number sets

    abbrev goes : Bool
    goes = is_among number (gathered near.header turned.proposed)

    abbrev course : Course
    course = so_far far behind

    pub follow : FollowsCourse course number near.header.role near.desk far.desk desk sets
    follow = follows_behind near.header near.chooser (signs_sets near.header.role near.chooser m.near_drafts) near.desk far.desk desk sets text load m.between turned number

    pub turn : TakesTurn course drafts sent goes (at near far) (at far behind)
    turn = turn_at course number near far sets text m desk load turned follow

    new_sets : (at far behind).sets ≡ course.sets
    new_sets = turned_max (sets_in number desk.entries) (sets_in number far.desk.entries)
      where
        turned_max : (n k : ℕ) → max k n ≡ max n k
        turned_max n k = omega arith

    most : (at near far).sets ≤ course.sets
    most = max_low (sets_in number near.desk.entries) (sets_in number far.desk.entries) course.sets follow.before.most follow.others.most

    deaf : (at near far).sets ≡ 0 → (at near far).heard ≡ false
    deaf none = zero_no (sets_in number near.desk.entries) (sets_in number far.desk.entries) none

    begins : near.header.role ≡ Supplier → (at near far).own ≡ nothing_told → (at near far).partner ≡ nothing_told → 1 ≤ course.sets → Begins course (at near far)
    begins supplier own partner some = record {
      right = right_course near.header.role number desk.entries far.desk.entries (behind_good near.header near.chooser (signs_sets near.header.role near.chooser m.near_drafts) near.desk far.desk desk sets text load m.between turned number);
      some = some;
      most = most;
      none = λ none. (deaf none, ap (λ (n : ℕ). not (is_role (signer_of n) near.header.role)) none ∙ ap (λ (r : Role). not (is_role Supplier r)) supplier);
      own = own;
      partner = partner;
    }

    -- nothing comes of what is not known where the end has no draft
    left : (at near far).sets ≡ 0 → sent ≡ false → (drafts && nat_lt 0 course.sets) ≡ false → prepares course drafts sent (at near far) ≡ at near far
    left none silent closed =
        ap (λ (b : Bool). prepares course drafts b (at near far)) silent
        ∙ nothing_known course drafts (at near far) (deaf none) (ap (λ (n : ℕ). drafts && n == 0 && nat_lt 0 course.sets) none ∙ by drafts closed)
      where
        by : (d : Bool) → (d && nat_lt 0 course.sets) ≡ false → (d && 0 == 0 && nat_lt 0 course.sets) ≡ false
        by true e = e
        by false e = refl

    first_drafted : (at near far).sets ≡ 0 → sent ≡ false → 1 ≤ course.sets → drafts ≡ true
    first_drafted none silent some = elim (cases_Bool drafts) [
      | inl may ↦ may
      | inr not_may ↦
          let same = left none silent (ap (λ (b : Bool). b && nat_lt 0 course.sets) not_may) in
          let count = sym new_sets ∙ turned_sets course drafts sent goes (at near far) (at far behind) turn ∙ ap (λ (s : Stand). s.sets) same ∙ none in
          absurd (omega (arith, count, some))
    ]

    shorter : is_complete course (at near far) ≡ is_complete (so_far near far) (at near far)
    shorter =
        let fits = both_fit _ number far.desk.entries near.desk.entries (backed_turned near.header.role near.desk.entries far.desk.entries m.between.lists) in
        complete_is course number near.header.role near.desk far.desk follow.before follow.others ∙ sym (complete_is (so_far near far) number near.header.role near.desk far.desk fits.1 fits.0)

    to_stands : Placed near far sets → 1 ≤ course.sets → Stands course drafts sent (at near far)
    to_stands (inl u) some =
        let may = first_drafted u.none u.silent some in
        inl (begins (supplies near.header.role may) u.own u.partner some, may, u.silent)
    to_stands (inr (inl s)) some = inl (begins s.supplier s.own s.partner some, ap may_propose s.supplier, s.silent)
    to_stands (inr (inr h)) some = inr (holds_on (so_far near far) course drafts sent goes (at near far) (at far behind) h turn new_sets most shorter)

    unspoken : course.sets ≡ 0 → (at near far).own ≡ nothing_told → (at near far).partner ≡ nothing_told → sent ≡ false → Unknown far behind (gathered near.header turned.proposed)
    unspoken none own partner silent =
        let zero : (at near far).sets ≡ 0 = let le = most in omega (arith, none, le) in
        let same = left zero silent (closed drafts course.sets none) in
        let low : (at near far).own.times ≤ 2 = subst (λ (t : Told). t.times ≤ 2) (sym own) (omega arith) in
        let low_other : (at near far).partner.times ≤ 2 = subst (λ (t : Told). t.times ≤ 2) (sym partner) (omega arith) in
        let l = turn_leaves near.header near.chooser (signs_sets near.header.role near.chooser m.near_drafts) near.desk far.desk desk sets text load m.between turned number low low_other in
        let quiet : goes ≡ false = by goes l.spoken in
        let next : at far behind ≡ flips (at near far) = turn.next ∙ ap (λ (s : Stand). flips (speaks goes s)) same ∙ ap (λ (b : Bool). flips (speaks b (at near far))) quiet in
        record {
          none = new_sets ∙ none;
          own = ap (λ (s : Stand). s.own) next ∙ partner;
          partner = ap (λ (s : Stand). s.partner) next ∙ own;
          silent = quiet;
        }
      where
        closed : (d : Bool) (n : ℕ) → n ≡ 0 → (d && nat_lt 0 n) ≡ false
        closed true n e = ap (nat_lt 0) e
        closed false n e = refl

        by : (b : Bool) → (b ≡ true → 1 ≤ max (sets_in number far.desk.entries) (sets_in number desk.entries)) → b ≡ false
        by true some = let there = some refl in let count = new_sets in absurd (omega (arith, there, count, none))
        by false some = refl

    abbrev Known : Type 0
    Known = Unknown far behind (gathered near.header turned.proposed) ⊎ Holds course goes (at far behind)

    no_more : (p : Placed near far sets) → course.sets ≡ 0 → Known
    no_more (inl u) none = inl (unspoken none u.own u.partner u.silent)
    no_more (inr (inl s)) none = inl (unspoken none s.own s.partner s.silent)
    no_more (inr (inr h)) none = let some = h.some in let le = most in absurd (omega (arith, some, le, none))

    some_of : (n : ℕ) → (n ≡ 0 → ⊥) → 1 ≤ n
    some_of n e = omega (arith, e)

    known_next : Placed near far sets → Known
    known_next p = elim (cases_eq course.sets 0) [
      | inl none ↦ no_more p none
      | inr other ↦ inr (holds_next course drafts sent goes (at near far) (at far behind) (to_stands p (some_of course.sets other)) turn)
    ]

    placed_next : Placed near far sets → Placed far behind (gathered near.header turned.proposed)
    placed_next p = elim (known_next p) [
      | inl u ↦ inl u
      | inr h ↦ inr (inr h)
    ]

  -- ---- the last two turns

  module _ (near far : Seat) (sets first second : List DueSet) (text : List ℕ) (m : MeetForTurns near far sets text) (p : Placed near far sets)
      (t : AreOwnTurns (first ∷ second ∷ []) near far text) (silent : EndSilent (first ∷ second ∷ []) near far text t) where
    abbrev mid : Seat
    mid = at_desk near t.0

    abbrev end : Seat
    end = at_desk far t.4.0

    meet_mid : MeetForTurns far mid first t.1
    meet_mid = subst (λ (l : List DueSet). MeetForTurns far mid l t.1) (sym t.3) (meet_next near far sets text m t.0 t.1 t.2)

    abbrev short : Course
    short = so_far far mid

    abbrev long : Course
    long = so_far mid end

    abbrev their_drafts : Bool
    their_drafts = may_propose far.header.role

    known : Unknown far mid first ⊎ Holds short (is_among number first) (at far mid)
    known = by (known_next near far sets text m t.0 t.1 t.2 p)
      where
        by : Known near far sets text m t.0 t.1 t.2 → Unknown far mid first ⊎ Holds short (is_among number first) (at far mid)
        by (inl u) = inl (subst (Unknown far mid) (sym t.3) u)
        by (inr h) = inr (subst (λ (l : List DueSet). Holds short (is_among number l) (at far mid)) (sym t.3) h)

    placed_mid : Placed far mid first
    placed_mid = elim known [
      | inl u ↦ inl u
      | inr h ↦ inr (inr h)
    ]

    follow_mid : FollowsCourse long number far.header.role far.desk mid.desk t.4.0 first
    follow_mid = follow far mid first t.1 meet_mid t.4.0 t.4.1 t.4.2

    stands_mid : 1 ≤ long.sets → Stands long their_drafts (is_among number first) (at far mid)
    stands_mid some = to_stands far mid first t.1 meet_mid t.4.0 t.4.1 t.4.2 placed_mid some

    idle : 1 ≤ long.sets → is_due long (prepares long their_drafts (is_among number first) (at far mid)) ≡ false
    idle some =
        (silent_at long number far mid first t.1 meet_mid t.4.0 t.4.1 t.4.2 follow_mid silent.1 (some_prepared long their_drafts (is_among number first) (at far mid) (stands_mid some))).1

    -- the first set would be due
    not_unknown : Unknown far mid first → 1 ≤ long.sets → ⊥
    not_unknown u some =
        let deaf_mid = deaf far mid first t.1 meet_mid t.4.0 t.4.1 t.4.2 u.none in
        let may = first_drafted far mid first t.1 meet_mid t.4.0 t.4.1 t.4.2 u.none u.silent some in
        let made : prepares long their_drafts (is_among number first) (at far mid) ≡ signs long (at far mid) =
        ap (λ (b : Bool). prepares long b (is_among number first) (at far mid)) may ∙ ap (λ (b : Bool). prepares long true b (at far mid)) u.silent
        ∙ first_signed long (at far mid).sets (at far mid).heard (at far mid).last_own (at far mid).own (at far mid).partner u.none deaf_mid some in
        never_both _ (signed_due long (at far mid)) (sym (ap (is_due long) made) ∙ idle some)

    -- nothing was signed in the second turn
    same_length : Holds short (is_among number first) (at far mid) → 1 ≤ long.sets → (at far mid).sets ≡ long.sets
    same_length h some =
        sym (silent_sets long their_drafts (is_among number first) (at far mid) h.some (idle some))
        ∙ sym (turned_sets long their_drafts (is_among number first) _ (at far mid) (at mid end) (turn far mid first t.1 meet_mid t.4.0 t.4.1 t.4.2))
        ∙ new_sets far mid first t.1 meet_mid t.4.0 t.4.1 t.4.2

    same_courses : Holds short (is_among number first) (at far mid) → 1 ≤ long.sets → short ≡ long
    same_courses h some =
        let here = new_sets near far sets text m t.0 t.1 t.2 in
        let there = same_length h some in
        same_course short long (sym here ∙ there)
        (sym (complete_whole short (at far mid) here) ∙ sym (shorter far mid first t.1 meet_mid t.4.0 t.4.1 t.4.2) ∙ complete_whole long (at far mid) there)

    right_mid : IsCourse short
    right_mid = right_course near.header.role number t.0.entries far.desk.entries
        (behind_good near.header near.chooser (signs_sets near.header.role near.chooser m.near_drafts) near.desk far.desk t.0 sets text t.1 m.between t.2 number)

    has_both : Holds short (is_among number first) (at far mid) → 1 ≤ long.sets → sets_in number t.0.entries ≡ sets_in number t.4.0.entries
    has_both h some =
        let same = same_courses h some in
        let count : 1 ≤ short.sets = subst (λ (c : Course). 1 ≤ c.sets) (sym same) some in
        let both = ended short number near far sets first second text right_mid count m t
        (follow near far sets text m t.0 t.1 t.2, (subst (λ (c : Course). FollowsCourse c number far.header.role far.desk mid.desk t.4.0 first) (sym same) follow_mid, tt))
        (to_stands near far sets text m t.0 t.1 t.2 p count) silent in
        both.0.sets ∙ sym both.1.sets

    none_both : (n k : ℕ) → max n k ≡ 0 → k ≡ n
    none_both n k e = omega (arith, e)

    as_many : sets_in number t.0.entries ≡ sets_in number t.4.0.entries
    as_many = elim (cases_eq long.sets 0) [
      | inl none ↦ none_both (sets_in number t.4.0.entries) (sets_in number t.0.entries) none
      | inr other ↦
          let some = some_of far mid first t.1 meet_mid t.4.0 t.4.1 t.4.2 long.sets other in
          elim known [
            | inl u ↦ absurd (not_unknown u some)
            | inr h ↦ has_both h some
          ]
    ]

    settled_both : IsSettled number t.0.entries t.4.0.entries
    settled_both =
        let last = meet_next far mid first t.1 meet_mid t.4.0 t.4.1 t.4.2 in
        settled near.header.role number t.0.entries t.4.0.entries last.between.lists as_many

-- ---- turn after turn

all_settled : (turns : List (List DueSet)) (near far : Seat) (sets : List DueSet) (text : List ℕ) → MeetForTurns near far sets text → ((number : List ℕ) → Placed number near far sets)
    → (t : AreOwnTurns turns near far text) → EndSilent turns near far text t → AreSettled turns near far text t
all_settled [] near far sets text m p t silent = absurd silent
all_settled (first ∷ []) near far sets text m p t silent = absurd silent
all_settled (first ∷ second ∷ []) near far sets text m p t silent = λ number. settled_both number near far sets first second text m (p number) t silent
all_settled (first ∷ second ∷ third ∷ more) near far sets text m p (desk, load, turned, is, rest) silent =
    λ number. settled_turned number (desk_behind true (second ∷ third ∷ more) far (at_desk near desk) load rest).entries (desk_behind false (second ∷ third ∷ more) far (at_desk near desk) load rest).entries
    (all_settled (second ∷ third ∷ more) far (at_desk near desk) first load
    (subst (λ (l : List DueSet). MeetForTurns far (at_desk near desk) l load) (sym is) (meet_next near far sets text m desk load turned))
    (λ number. subst (Placed number far (at_desk near desk)) (sym is) (placed_next number near far sets text m desk load turned (p number))) rest silent number)

pub session_settles : (turns : List (List DueSet)) (near far : Seat) → MeetForTurns near far [] [] → near.header.role ≡ Supplier → IsFresh near → IsFresh far → (t : AreOwnTurns turns near far []) → EndSilent turns near far [] t → AreSettled turns near far [] t
session_settles turns near far m supplier fresh also t silent =
    all_settled turns near far [] [] m
    (λ number. inr (inl (record { supplier = supplier; own = fresh_told number near.desk.asked fresh; partner = fresh_told number far.desk.asked also; silent = refl }))) t silent
