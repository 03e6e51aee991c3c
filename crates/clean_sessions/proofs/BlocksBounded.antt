-- What is spoken in own turns has at most twice the blocks of what their ends have signed of each delivery from its last set before on.
use Rattle.std.proofs.Common.{◌≡◌, ◌≤◌, ◌+◌, ◌*◌, ℕ, Bool, true, false, ◌||◌, length, List, [], ◌∷◌, Option, Some, None, refl, sym, ap, subst, ◌∙◌, inl, inr, length-append, arith}
use Rattle.std.specs.Str.{bytes_eq}
use Rattle.std.specs.Prelude.{⊤}
use Rattle.std.specs.Option.{option_map}
use Rattle.std.proofs.lemmas.Bool.{cases_Bool}
use Rattle.std.proofs.lemmas.Slice.Eq.{bytes_eq-Decides}
use Rattle.dsd_journal.specs.declared.entry.Entry.{Entry}
use Rattle.dex_line.specs.BlockCut.{blocks_of}
use Rattle.delivery_book.specs.Deeds.{Deed, deeds_of, of_delivery}
use Rattle.delivery_book.specs.Lookups.{last_of, numbers_of}
use Rattle.own_turn.specs.DueSets.{DueSet, texts_of}
use Rattle.own_turn.specs.OwnTurn.{Desk, Turned, gathered}
use Rattle.own_turn.proofs.TurnsGrowing.{turn_grows}
use Rattle.clean_sessions.specs.BlocksAlone.{blocks_alone}
use Rattle.clean_sessions.specs.Courses.{Told}
use Rattle.clean_sessions.specs.DeliveryStands.{AreLast, is_among, sets_in}
use Rattle.clean_sessions.specs.SeatTurns.{AreOwnTurns, IsFresh, MeetForTurns, Seat, at_desk}
use Rattle.clean_sessions.specs.SinceLast.{SpeakOnce, SpeakTwice, all_since, blocks_since, blocks_spoken_in, desk_behind, signed_since}
use Rattle.clean_sessions.proofs.CoursesBehind.{deeds_grown}
use Rattle.clean_sessions.proofs.CoursesFollowed.{fresh_told}
use Rattle.clean_sessions.proofs.DeliveriesCovered.{known_has}
use Rattle.clean_sessions.proofs.DeliveryTurns.{new_entries}
use Rattle.clean_sessions.proofs.GatheredSets.{gathered_due, gathered_last}
use Rattle.clean_sessions.proofs.HearingTurns.{last_deed, some_in}
use Rattle.clean_sessions.proofs.NumbersApart.{has}
use Rattle.clean_sessions.proofs.OwnSets.{signs_sets}
use Rattle.clean_sessions.proofs.SeatsMeet.{meet_next}
use Rattle.clean_sessions.proofs.SignedSpare.{blocks_of_one, cost, last_blocks, left_first, most_times, share, since, since_all, spare}
use Rattle.clean_sessions.proofs.SpokenCosts.{own_sets, spoken_low, times_of, turn_costs}
use Rattle.clean_sessions.proofs.TurnsEnding.{total}

-- ---- sums over deliveries

total_least : (f g : List ℕ → ℕ) (numbers : List (List ℕ)) → ((number : List ℕ) → g number ≤ f number) → total g numbers ≤ total f numbers
total_least f g [] each = omega arith
total_least f g (number ∷ more) each = let here = each number in let rest = total_least f g more each in omega (arith, here, rest)

total_one : (f g : List ℕ → ℕ) (number : List ℕ) (w : ℕ) (numbers : List (List ℕ)) → ((n : List ℕ) → g n ≤ f n) → w + g number ≤ f number → has number numbers ≡ true → w + total g numbers ≤ total f numbers
total_one f g number w [] each one e = absurd (cc)
total_one f g number w (own ∷ more) each one e = elim (cases_Bool (bytes_eq own number)) [
  | inl same ↦
      let here : w + g own ≤ f own = subst (λ (n : List ℕ). w + g n ≤ f n) (sym ((bytes_eq-Decides own number).0 same)) one in
      let rest = total_least f g more each in
      omega (arith, here, rest)
  | inr differs ↦
      let here = each own in
      let rest = total_one f g number w more each one (subst (λ (b : Bool). (b || has number more) ≡ true) differs e) in
      omega (arith, here, rest)
]

total_sum : (costs old_spare old_since new_spare new_since : List ℕ → ℕ) (numbers : List (List ℕ)) → ((n : List ℕ) → costs n + new_spare n + 2 * old_since n ≤ old_spare n + 2 * new_since n)
    → total costs numbers + total new_spare numbers + 2 * total old_since numbers ≤ total old_spare numbers + 2 * total new_since numbers
total_sum costs old_spare old_since new_spare new_since [] each = omega arith
total_sum costs old_spare old_since new_spare new_since (number ∷ more) each =
    let here = each number in
    let rest = total_sum costs old_spare old_since new_spare new_since more each in
    omega (arith, here, rest)

total_twice : (f g : List ℕ → ℕ) (numbers : List (List ℕ)) → ((n : List ℕ) → f n ≡ 2 * g n) → total f numbers ≡ 2 * total g numbers
total_twice f g [] each = refl
total_twice f g (number ∷ more) each = let here = each number in let rest = total_twice f g more each in omega (arith, here, rest)

since_total : (old new : List Entry) (numbers : List (List ℕ)) → all_since numbers old new ≡ total (λ (n : List ℕ). blocks_since n old new) numbers
since_total old new [] = refl
since_total old new (number ∷ more) = let rest = since_total old new more in omega (arith, rest)

total_share : (once : Bool) (f : List ℕ → ℕ) (numbers : List (List ℕ)) → total (λ (n : List ℕ). share once (f n)) numbers ≡ share once (total f numbers)
total_share false f [] = refl
total_share true f [] = refl
total_share false f (number ∷ more) = let rest = total_share false f more in omega (arith, rest)
total_share true f (number ∷ more) = let rest = total_share true f more in omega (arith, rest)

share_less : (once : Bool) (a b : ℕ) → a ≤ b → share once a ≤ share once b
share_less true a b le = omega (arith, le)
share_less false a b le = le

share_sum : (once : Bool) (a b : ℕ) → share once (a + b) ≡ share once a + share once b
share_sum true a b = omega arith
share_sum false a b = refl

-- ---- one turn

abbrev all_spare : Bool → List (List ℕ) → Desk → ℕ
all_spare once numbers desk = total (λ (n : List ℕ). spare once (own_sets n desk) (times_of n desk)) numbers

-- of the sets signed from those of a desk on
abbrev all_signed : List (List ℕ) → Desk → Desk → ℕ
all_signed numbers base desk = total (λ (n : List ℕ). since (length (own_sets n base)) (own_sets n desk)) numbers

abbrev IsLater : Desk → Desk → Type 0
IsLater base desk = (number : List ℕ) → length (own_sets number base) ≤ length (own_sets number desk)

abbrev Covers : List (List ℕ) → Desk → Type 0
Covers numbers desk = (number : List ℕ) → 1 ≤ sets_in number desk.entries → has number numbers ≡ true

last_cost : (o : Option Deed) (text : List ℕ) → option_map (λ (d : Deed). d.text) o ≡ Some text → blocks_of_one o ≡ length (blocks_of text)
last_cost None text e = absurd (cc)
last_cost (Some deed) text e = let same : deed.text ≡ text = cc in ap (λ (l : List ℕ). length (blocks_of l)) same

sets_cost : (desk : Desk) (numbers : List (List ℕ)) (sets : List DueSet) → AreLast desk.entries sets → ((number : List ℕ) → is_among number sets ≡ true → has number numbers ≡ true)
    → blocks_alone (texts_of sets) ≤ total (λ (n : List ℕ). cost (is_among n sets) (own_sets n desk)) numbers
sets_cost desk numbers [] last covers = omega arith
sets_cost desk numbers (set ∷ more) last covers =
    let rest = sets_cost desk numbers more last.2 (λ number there. covers number (ap (λ (b : Bool). bytes_eq set.number number || b) there ∙ or_true (bytes_eq set.number number))) in
    let itself : bytes_eq set.number set.number ≡ true = (bytes_eq-Decides set.number set.number).1 refl in
    let here : is_among set.number (set ∷ more) ≡ true = ap (λ (b : Bool). b || is_among set.number more) itself in
    let w = last_cost (last_of (own_sets set.number desk)) set.text last.0 in
    let full : cost (is_among set.number (set ∷ more)) (own_sets set.number desk) ≡ last_blocks (own_sets set.number desk) = ap (λ (b : Bool). cost b (own_sets set.number desk)) here in
    let none : cost (is_among set.number more) (own_sets set.number desk) ≡ 0 = ap (λ (b : Bool). cost b (own_sets set.number desk)) last.1 in
    let all = total_one (λ (n : List ℕ). cost (is_among n (set ∷ more)) (own_sets n desk)) (λ (n : List ℕ). cost (is_among n more) (own_sets n desk)) set.number (length (blocks_of set.text)) numbers
    (λ n. no_less (bytes_eq set.number n) (is_among n more) (own_sets n desk)) (omega (arith, w, full, none)) (covers set.number here) in
    omega (arith, rest, all)
  where
    or_true : (b : Bool) → (b || true) ≡ true
    or_true true = refl
    or_true false = refl

    no_less : (a b : Bool) (deeds : List Deed) → cost b deeds ≤ cost (a || b) deeds
    no_less true true deeds = omega arith
    no_less true false deeds = omega arith
    no_less false b deeds = omega arith

module _ (near far : Seat) (sets : List DueSet) (text : List ℕ) (m : MeetForTurns near far sets text) (desk : Desk) (load : List ℕ) (turned : Turned near.header near.chooser near.desk text desk load) where
  abbrev spoken_sets : List DueSet
  spoken_sets = gathered near.header turned.proposed

  kept_entries : desk.entries ≡ turned.proposed.entries
  kept_entries = new_entries near.header near.chooser (signs_sets near.header.role near.chooser m.near_drafts) near.desk far.desk desk sets text load m.between turned

  known_spoken : (number : List ℕ) → is_among number spoken_sets ≡ true → 1 ≤ sets_in number desk.entries
  known_spoken number there =
      let d = gathered_due near.header turned.proposed number there in
      let y = last_deed number turned.proposed.entries d.0 d.1.last in
      subst (λ (l : List Entry). 1 ≤ sets_in number l) (sym kept_entries) (some_in (of_delivery number (deeds_of turned.proposed.entries)) y.deed y.among)

  grown : (number : List ℕ) → sets_in number near.desk.entries ≤ sets_in number desk.entries
  grown number =
      let g = turn_grows (λ _. Unit {0}) near.header near.chooser near.desk desk text load (λ _ _. tt) turned in
      let longer = ap length (deeds_grown number near.desk.entries g.added) ∙ length-append (of_delivery number (deeds_of near.desk.entries)) (of_delivery number (deeds_of g.added)) in
      let same = ap (sets_in number) g.grown in
      omega (arith, longer, same)

  later_next : (base : Desk) → IsLater base near.desk → IsLater base desk
  later_next base low number =
      let c = turn_costs near.header near.chooser (signs_sets near.header.role near.chooser m.near_drafts) near.desk far.desk desk sets text load m.between turned number false (length (own_sets number base)) (spoken_low near.header near.chooser (signs_sets near.header.role near.chooser m.near_drafts) near.desk far.desk desk sets text load m.between turned number) (low number) in
      c.kept

  -- none of the sets was spoken more often before
  abbrev IsLow : Bool → Type 0
  IsLow once = (number : List ℕ) → is_among number spoken_sets ≡ true → times_of number turned.proposed ≤ most_times once

  turn_total : (once : Bool) (numbers : List (List ℕ)) (base : Desk) → IsLow once → IsLater base near.desk → Covers numbers desk
      → share once (blocks_alone (texts_of spoken_sets)) + all_spare once numbers desk + 2 * all_signed numbers base near.desk ≤ all_spare once numbers near.desk + 2 * all_signed numbers base desk
  turn_total once numbers base few_times low covers =
      let few = sets_cost turned.proposed numbers spoken_sets (gathered_last near.header turned.proposed) (λ number there. covers number (known_spoken number there)) in
      let shared = total_share once (λ (n : List ℕ). cost (is_among n spoken_sets) (own_sets n turned.proposed)) numbers in
      let fewer = share_less once _ _ few in
      let all = total_sum (λ (n : List ℕ). share once (cost (is_among n spoken_sets) (own_sets n turned.proposed))) (λ (n : List ℕ). spare once (own_sets n near.desk) (times_of n near.desk))
      (λ (n : List ℕ). since (length (own_sets n base)) (own_sets n near.desk)) (λ (n : List ℕ). spare once (own_sets n desk) (times_of n desk)) (λ (n : List ℕ). since (length (own_sets n base)) (own_sets n desk)) numbers
      (λ number. each number) in
      omega (arith, fewer, shared, all)
    where
      each : (number : List ℕ)
          → share once (cost (is_among number spoken_sets) (own_sets number turned.proposed)) + spare once (own_sets number desk) (times_of number desk) + 2 * since (length (own_sets number base)) (own_sets number near.desk)
          ≤ spare once (own_sets number near.desk) (times_of number near.desk) + 2 * since (length (own_sets number base)) (own_sets number desk)
      each number =
          let c = turn_costs near.header near.chooser (signs_sets near.header.role near.chooser m.near_drafts) near.desk far.desk desk sets text load m.between turned number once (length (own_sets number base)) (few_times number) (low number) in
          c.less

-- ---- turn after turn

abbrev start_of : Bool → Seat → Seat → Desk
start_of true near far = near.desk
start_of false near far = far.desk

grown_all : (own : Bool) (turns : List (List DueSet)) (near far : Seat) (sets : List DueSet) (text : List ℕ) → MeetForTurns near far sets text → (t : AreOwnTurns turns near far text) (number : List ℕ)
    → sets_in number (start_of own near far).entries ≤ sets_in number (desk_behind own turns near far text t).entries
grown_all true [] near far sets text m t number = omega arith
grown_all false [] near far sets text m t number = omega arith
grown_all true (first ∷ more) near far sets text m (desk, load, turned, is, rest) number =
    let here = grown near far sets text m desk load turned number in
    let later = grown_all false more far (at_desk near desk) (gathered near.header turned.proposed) load (meet_next near far sets text m desk load turned) rest number in
    omega (arith, here, later)
grown_all false (first ∷ more) near far sets text m (desk, load, turned, is, rest) number =
    grown_all true more far (at_desk near desk) (gathered near.header turned.proposed) load (meet_next near far sets text m desk load turned) rest number

-- each turn's sets were not spoken more often before
abbrev AreLow : Bool → (turns : List (List DueSet)) → (near far : Seat) → (text : List ℕ) → AreOwnTurns turns near far text → Type 0
AreLow once [] near far text t = ⊤
AreLow once (first ∷ more) near far text t = ((number : List ℕ) → is_among number first ≡ true → times_of number t.2.proposed ≤ most_times once) × AreLow once more far (at_desk near t.0) t.1 t.4

turns_total : (once : Bool) (turns : List (List DueSet)) (near far : Seat) (sets : List DueSet) (text : List ℕ) → MeetForTurns near far sets text → (t : AreOwnTurns turns near far text) → AreLow once turns near far text t → (mine theirs : List (List ℕ)) (base their_base : Desk)
    → IsLater base near.desk → IsLater their_base far.desk → Covers mine (desk_behind true turns near far text t) → Covers theirs (desk_behind false turns near far text t)
    → share once (blocks_spoken_in turns) + all_spare once mine (desk_behind true turns near far text t) + all_spare once theirs (desk_behind false turns near far text t) + 2 * (all_signed mine base near.desk + all_signed theirs their_base far.desk)
    ≤ all_spare once mine near.desk + all_spare once theirs far.desk + 2 * (all_signed mine base (desk_behind true turns near far text t) + all_signed theirs their_base (desk_behind false turns near far text t))
turns_total true [] near far sets text m t few mine theirs base their_base low their_low covers their_covers = omega arith
turns_total false [] near far sets text m t few mine theirs base their_base low their_low covers their_covers = omega arith
turns_total once (first ∷ more) near far sets text m (desk, load, turned, is, rest) (few, fewer) mine theirs base their_base low their_low covers their_covers =
    let next = meet_next near far sets text m desk load turned in
    let here_covers : Covers mine desk = λ number some. covers number (longer number some next) in
    let here = turn_total near far sets text m desk load turned once mine base (λ number there. few number (ap (is_among number) is ∙ there)) low here_covers in
    let sum = share_sum once (blocks_alone (texts_of first)) (blocks_spoken_in more) in
    let same : share once (blocks_alone (texts_of first)) ≡ share once (blocks_alone (texts_of (gathered near.header turned.proposed))) = ap (λ (l : List DueSet). share once (blocks_alone (texts_of l))) is in
    let later = turns_total once more far (at_desk near desk) (gathered near.header turned.proposed) load next rest fewer theirs mine their_base base their_low (later_next near far sets text m desk load turned base low) their_covers covers in
    omega (arith, here, sum, same, later)
  where
    longer : (number : List ℕ) → 1 ≤ sets_in number desk.entries → MeetForTurns far (at_desk near desk) (gathered near.header turned.proposed) load
        → 1 ≤ sets_in number (desk_behind false more far (at_desk near desk) load rest).entries
    longer number some next = let grows = grown_all false more far (at_desk near desk) (gathered near.header turned.proposed) load next rest number in omega (arith, some, grows)

-- ---- from the start of a session

fresh_spare : (once : Bool) (desk : Desk) (numbers : List (List ℕ)) → desk.asked ≡ [] → all_spare once numbers desk ≡ 2 * all_signed numbers desk desk
fresh_spare once desk numbers fresh = total_twice (λ (n : List ℕ). spare once (own_sets n desk) (times_of n desk)) (λ (n : List ℕ). since (length (own_sets n desk)) (own_sets n desk)) numbers (λ n. each n)
  where
    each : (n : List ℕ) → spare once (own_sets n desk) (times_of n desk) ≡ 2 * since (length (own_sets n desk)) (own_sets n desk)
    each n =
        ap (spare once (own_sets n desk)) (ap (λ (k : Told). k.times) (fresh_told n desk.asked fresh))
        ∙ ap (λ (k : ℕ). k * last_blocks (own_sets n desk)) (left_first once)
        ∙ ap (λ (k : ℕ). 2 * k) (sym (since_all (own_sets n desk)))

all_low : (turns : List (List DueSet)) (near far : Seat) (sets : List DueSet) (text : List ℕ) → MeetForTurns near far sets text → (t : AreOwnTurns turns near far text) → AreLow false turns near far text t
all_low [] near far sets text m t = tt
all_low (first ∷ more) near far sets text m (desk, load, turned, is, rest) = (
  λ number there. spoken_low near.header near.chooser (signs_sets near.header.role near.chooser m.near_drafts) near.desk far.desk desk sets text load m.between turned number (sym (ap (is_among number) is) ∙ there),
  all_low more far (at_desk near desk) (gathered near.header turned.proposed) load (meet_next near far sets text m desk load turned) rest,
)

low_twice : (turns : List (List DueSet)) (near far : Seat) (text : List ℕ) (t : AreOwnTurns turns near far text) → AreLow false turns near far text t → SpeakTwice turns near far text t
low_twice [] near far text t low = tt
low_twice (first ∷ more) near far text (desk, load, turned, is, rest) low = (low.0, low_twice more far (at_desk near desk) load rest low.1)

pub speak_twice : (turns : List (List DueSet)) (near far : Seat) → MeetForTurns near far [] [] → (t : AreOwnTurns turns near far []) → SpeakTwice turns near far [] t
speak_twice turns near far m t = low_twice turns near far [] t (all_low turns near far [] [] m t)

none_low : (turns : List (List DueSet)) (near far : Seat) (text : List ℕ) (t : AreOwnTurns turns near far text) → SpeakOnce turns near far text t → AreLow true turns near far text t
none_low [] near far text t o = tt
none_low (first ∷ more) near far text (desk, load, turned, is, rest) (here, later) = (
  λ number there. let none = here number there in omega (arith, none),
  none_low more far (at_desk near desk) load rest later,
)

bounded : (once : Bool) (turns : List (List DueSet)) (near far : Seat) → MeetForTurns near far [] [] → IsFresh near → IsFresh far → (t : AreOwnTurns turns near far []) → AreLow once turns near far [] t
    → share once (blocks_spoken_in turns) ≤ 2 * (signed_since near.desk.entries (desk_behind true turns near far [] t).entries + signed_since far.desk.entries (desk_behind false turns near far [] t).entries)
bounded once turns near far m fresh also t low =
    let end : Desk = desk_behind true turns near far [] t in
    let their_end : Desk = desk_behind false turns near far [] t in
    let mine : List (List ℕ) = numbers_of end.entries in
    let theirs : List (List ℕ) = numbers_of their_end.entries in
    let all = turns_total once turns near far [] [] m t low mine theirs near.desk far.desk (λ number. omega arith) (λ number. omega arith) (λ number some. known_has number end.entries some) (λ number some. known_has number their_end.entries some) in
    let first = fresh_spare once near.desk mine fresh in
    let second = fresh_spare once far.desk theirs also in
    let one = since_total near.desk.entries end.entries mine in
    let two = since_total far.desk.entries their_end.entries theirs in
    omega (arith, all, first, second, one, two)

pub blocks_bounded : (turns : List (List DueSet)) (near far : Seat) → MeetForTurns near far [] [] → IsFresh near → IsFresh far → (t : AreOwnTurns turns near far [])
    → blocks_spoken_in turns ≤ 2 * (signed_since near.desk.entries (desk_behind true turns near far [] t).entries + signed_since far.desk.entries (desk_behind false turns near far [] t).entries)
blocks_bounded turns near far m fresh also t = bounded false turns near far m fresh also t (all_low turns near far [] [] m t)

-- where each set is spoken once
pub blocks_once : (turns : List (List DueSet)) (near far : Seat) → MeetForTurns near far [] [] → IsFresh near → IsFresh far → (t : AreOwnTurns turns near far []) → SpeakOnce turns near far [] t
    → blocks_spoken_in turns ≤ signed_since near.desk.entries (desk_behind true turns near far [] t).entries + signed_since far.desk.entries (desk_behind false turns near far [] t).entries
blocks_once turns near far m fresh also t o = let all = bounded true turns near far m fresh also t (none_low turns near far [] t o) in omega (arith, all)
