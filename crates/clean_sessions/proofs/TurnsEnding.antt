-- Own turns run out: each that speaks leaves less to be spoken, and two in a row that do not are the last ones.
use Rattle.std.proofs.Common.{◌≡◌, ◌≤◌, ◌+◌, ◌*◌, ℕ, Bool, true, false, ◌||◌, length, List, [], ◌∷◌, ◌++◌, refl, sym, ap, subst, ◌∙◌, inl, inr, arith}
use Rattle.std.specs.Prelude.{Contains}
use Rattle.std.specs.Str.{bytes_eq}
use Rattle.std.proofs.lemmas.Bool.{cases_Bool}
use Rattle.std.proofs.lemmas.Slice.Eq.{bytes_eq-Decides}
use Rattle.dsd_values.specs.declared.role.Role.{Role}
use Rattle.base_record_894.specs.BaseRecord.{BaseRecord}
use Rattle.own_turn.specs.DueSets.{Asked, DueSet, asked_of}
use Rattle.own_turn.specs.OwnTurn.{Desk, Turned, gathered}
use Rattle.clean_sessions.specs.Courses.{Stand, as_number, still_left}
use Rattle.clean_sessions.specs.DeliveryStands.{is_among, stand_of, told_by}
use Rattle.clean_sessions.specs.SeatTurns.{AreOwnTurns, EndsWhenSilent, IsFresh, MeetForTurns, Seat, at_desk, deliveries_of, has_none, most_turns}
use Rattle.clean_sessions.proofs.DeliveriesCovered.{drafts_covered, has_left, has_right, known_covered}
use Rattle.clean_sessions.proofs.NumbersApart.{has}
use Rattle.clean_sessions.proofs.OwnSets.{signs_sets}
use Rattle.clean_sessions.proofs.SeatsMeet.{meet_next}
use Rattle.clean_sessions.proofs.SpareSteps.{TurnLeaves, longest, turn_leaves}

-- ---- sums over deliveries

abbrev pub total : (List ℕ → ℕ) → List (List ℕ) → ℕ
total f [] = 0
total f (number ∷ more) = f number + total f more

total_less : (f g : List ℕ → ℕ) (goes : List ℕ → Bool) (numbers : List (List ℕ)) → ((number : List ℕ) → f number + as_number (goes number) ≤ g number)
    → total f numbers + total (λ (number : List ℕ). as_number (goes number)) numbers ≤ total g numbers
total_less f g goes [] each = omega arith
total_less f g goes (number ∷ more) each = let here = each number in let rest = total_less f g goes more each in omega (arith, here, rest)

total_some : (goes : List ℕ → Bool) (number : List ℕ) (numbers : List (List ℕ)) → goes number ≡ true → has number numbers ≡ true → 1 ≤ total (λ (n : List ℕ). as_number (goes n)) numbers
total_some goes number [] goes_it e = absurd (cc)
total_some goes number (own ∷ more) goes_it e = elim (cases_Bool (bytes_eq own number)) [
  | inl same ↦
      let one : as_number (goes own) ≡ 1 = ap (λ (n : List ℕ). as_number (goes n)) ((bytes_eq-Decides own number).0 same) ∙ ap as_number goes_it in
      omega (arith, one)
  | inr differs ↦ let rest = total_some goes number more goes_it (subst (λ (b : Bool). (b || has number more) ≡ true) differs e) in omega (arith, rest)
]

total_most : (f : List ℕ → ℕ) (numbers : List (List ℕ)) → ((number : List ℕ) → f number ≤ 37) → total f numbers ≤ 37 * length numbers
total_most f [] each = omega arith
total_most f (number ∷ more) each = let here = each number in let rest = total_most f more each in omega (arith, here, rest)

-- ---- between two turns

abbrev stand_between : Seat → Seat → List ℕ → Stand
stand_between near far number = stand_of number near.header.role near.desk far.desk

abbrev spare : Seat → Seat → List ℕ → ℕ
spare near far number = still_left longest (stand_between near far number)

record Between (numbers : List (List ℕ)) (near far : Seat) (sets : List DueSet) (text : List ℕ) : Type 0 where
  meet : MeetForTurns near far sets text
  own : (number : List ℕ) → (stand_between near far number).own.times ≤ 2
  partner : (number : List ℕ) → (stand_between near far number).partner.times ≤ 2
  covers : (number : List ℕ) → 1 ≤ (stand_between near far number).sets → has number numbers ≡ true
  near_drafts : (draft : BaseRecord) → Contains near.chooser.drafts draft → has draft.number numbers ≡ true
  far_drafts : (draft : BaseRecord) → Contains far.chooser.drafts draft → has draft.number numbers ≡ true

module _ (numbers : List (List ℕ)) (near far : Seat) (sets : List DueSet) (text : List ℕ) (b : Between numbers near far sets text)
    (desk : Desk) (load : List ℕ) (turned : Turned near.header near.chooser near.desk text desk load) where
  abbrev spoken_sets : List DueSet
  spoken_sets = gathered near.header turned.proposed

  leaves : (number : List ℕ) → TurnLeaves ((draft : BaseRecord) × Contains near.chooser.drafts draft × (draft.number ≡ number)) (is_among number spoken_sets) (stand_between near far number) (stand_between far (at_desk near desk) number)
  leaves number =
      subst (λ (r : Role). TurnLeaves ((draft : BaseRecord) × Contains near.chooser.drafts draft × (draft.number ≡ number)) (is_among number spoken_sets) (stand_between near far number) (stand_of number r far.desk desk)) (sym b.meet.roles)
      (turn_leaves near.header near.chooser (signs_sets near.header.role near.chooser b.meet.near_drafts) near.desk far.desk desk sets text load b.meet.between turned number (b.own number) (b.partner number))

  covered : (number : List ℕ) → 1 ≤ (stand_between far (at_desk near desk) number).sets → has number numbers ≡ true
  covered number some =
      let l = leaves number in
      elim (l.known some) [
        | inl there ↦ b.covers number there
        | inr drafted ↦ subst (λ (n : List ℕ). has n numbers ≡ true) drafted.2 (b.near_drafts drafted.0 drafted.1)
      ]

  next : Between numbers far (at_desk near desk) spoken_sets load
  next = record {
    meet = meet_next near far sets text b.meet desk load turned;
    own = λ number. let l = leaves number in subst (λ (n : ℕ). n ≤ 2) (sym l.own) (b.partner number);
    partner = λ number. let l = leaves number in l.partner;
    covers = covered;
    near_drafts = b.far_drafts;
    far_drafts = b.near_drafts;
  }

  less : total (spare far (at_desk near desk)) numbers + total (λ (number : List ℕ). as_number (is_among number spoken_sets)) numbers ≤ total (spare near far) numbers
  less = total_less (spare far (at_desk near desk)) (spare near far) (λ (number : List ℕ). is_among number spoken_sets) numbers (λ number. let l = leaves number in l.less)

  -- with a set there is less
  some_less : (set : DueSet) (more : List DueSet) → spoken_sets ≡ set ∷ more → 1 ≤ total (λ (number : List ℕ). as_number (is_among number spoken_sets)) numbers
  some_less set more e =
      let there : is_among set.number spoken_sets ≡ true = ap (is_among set.number) e ∙ ap (λ (t : Bool). t || is_among set.number more) ((bytes_eq-Decides set.number set.number).1 refl) in
      let l = leaves set.number in
      total_some (λ (number : List ℕ). is_among number spoken_sets) set.number numbers there (covered set.number (l.spoken there))

-- ---- turn after turn

two_more : (silent : Bool) → as_number silent ≤ 1
two_more true = omega arith
two_more false = omega arith

turns_few : (numbers : List (List ℕ)) (turns : List (List DueSet)) (silent : Bool) (near far : Seat) (sets : List DueSet) (text : List ℕ) → Between numbers near far sets text → AreOwnTurns turns near far text → EndsWhenSilent silent turns
    → length turns + as_number silent ≤ 2 * total (spare near far) numbers + 2
turns_few numbers [] silent near far sets text b turns ends = let few = two_more silent in omega (arith, few)
turns_few numbers (first ∷ more) silent near far sets text b (desk, load, turned, is, rest) ends =
    by first is ends
    (turns_few numbers more (has_none first) far (at_desk near desk) (gathered near.header turned.proposed) load (next numbers near far sets text b desk load turned) rest ends.1)
    (less numbers near far sets text b desk load turned)
  where
    by : (first : List DueSet) → first ≡ gathered near.header turned.proposed → EndsWhenSilent silent (first ∷ more)
        → length more + as_number (has_none first) ≤ 2 * total (spare far (at_desk near desk)) numbers + 2
        → total (spare far (at_desk near desk)) numbers + total (λ (number : List ℕ). as_number (is_among number (gathered near.header turned.proposed))) numbers ≤ total (spare near far) numbers
        → length (first ∷ more) + as_number silent ≤ 2 * total (spare near far) numbers + 2
    by (set ∷ others) is ends few fewer =
        let some = some_less numbers near far sets text b desk load turned set others (sym is) in
        let quiet = two_more silent in
        omega (arith, few, fewer, some, quiet)
    by [] is ends few fewer = let all = quiet silent ends in omega (arith, all)
      where
        quiet : (silent : Bool) → EndsWhenSilent silent ([] ∷ more) → length more + 1 + as_number silent ≤ 2 * total (spare near far) numbers + 2
        quiet true ends = let none : length more ≡ 0 = ap length (ends.0 refl refl) in omega (arith, none)
        quiet false ends = omega (arith, few, fewer)

-- ---- from the start of a session

still_few : (s : Stand) → still_left longest s ≤ 37
still_few s = omega arith

fresh_times : (number : List ℕ) (asked : List Asked) → asked ≡ [] → (told_by (asked_of number asked)).times ≤ 2
fresh_times number asked e = subst (λ (all : List Asked). (told_by (asked_of number all)).times ≤ 2) (sym e) (omega arith)

pub turns_end : (near far : Seat) (turns : List (List DueSet)) → MeetForTurns near far [] [] → IsFresh near → IsFresh far → AreOwnTurns turns near far [] → EndsWhenSilent false turns → length turns ≤ most_turns near far
turns_end near far turns meet fresh also turned ends =
    let numbers : List (List ℕ) = deliveries_of near ++ deliveries_of far in
    let b : Between numbers near far [] [] = record {
      meet = meet;
      own = λ number. fresh_times number near.desk.asked fresh;
      partner = λ number. fresh_times number far.desk.asked also;
      covers = λ number some. known_covered near far number some;
      near_drafts = λ draft there. has_left draft.number (deliveries_of near) (deliveries_of far) (drafts_covered near draft there);
      far_drafts = λ draft there. has_right draft.number (deliveries_of near) (deliveries_of far) (drafts_covered far draft there);
    } in
    let few = turns_few numbers turns false near far [] [] b turned ends in
    let most = total_most (spare near far) numbers (λ number. still_few (stand_between near far number)) in
    omega (arith, few, most)
