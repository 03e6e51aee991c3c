-- The course that two lists have so far: both are fronts of it, and so is each list that one of them grew from.
use Rattle.std.proofs.Common.{◌≡◌, ◌≤◌, ◌<◌, ◌+◌, ℕ, max, Bool, true, false, not, ◌&&◌, ◌||◌, ◌==◌, cond, is_some, length, List, [], ◌∷◌, ◌++◌, map, Some, None, refl, sym, ap, subst, ◌∙◌, inl, inr, length-append, append-nil, arith}
use Rattle.std.specs.List.{filter}
use Rattle.std.proofs.lemmas.Bool.Decides.{nat_tests}
use Rattle.std.proofs.lemmas.List.Elements.{filter-append, filter_map-append}
use Rattle.std.specs.Str.{bytes_eq}
use Rattle.dsd_values.specs.declared.role.Role.{Role}
use Rattle.dsd_journal.specs.declared.entry.Entry.{Entry}
use Rattle.delivery_book.specs.Deeds.{Deed, deed_of, deeds_of, first_of, level_in, number_in, of_delivery, proposes}
use Rattle.delivery_book.specs.Signing.{Legal}
use Rattle.delivery_book.specs.Standing.{acceptance_of}
use Rattle.own_turn.specs.OwnTurn.{Desk}
use Rattle.clean_sessions.specs.Courses.{Course, is_complete}
use Rattle.clean_sessions.specs.DeedShapes.{AreInTurn, first_kind}
use Rattle.clean_sessions.specs.DeliveryStands.{AreBacked, IsFront, sets_in, stand_of}
use Rattle.clean_sessions.specs.Places.{IsCourse}
use Rattle.clean_sessions.proofs.BoolTests.{never_both}
use Rattle.clean_sessions.proofs.DeedsInTurn.{legal_turns}
use Rattle.clean_sessions.proofs.LastDeeds.{AllPropose, IsLaid, acceptance_is_last, front_proposes, last_place, legal_laid, none_accepted, none_accepting}
use Rattle.clean_sessions.proofs.Meetings.{IsBehind, Meet, behind_length, even_length, lists_meet, one_longer}
use Rattle.clean_sessions.proofs.MirroredDeeds.{mirrored}
use Rattle.clean_sessions.proofs.TakingTurns.{front_untouched}

-- an acceptance is among them
abbrev pub accepts_in : List Deed → Bool
accepts_in deeds = is_some (first_of (filter (λ (d : Deed). not (proposes d.set)) deeds))

abbrev pub has_accepted : List ℕ → List Entry → Bool
has_accepted number entries = is_some (acceptance_of number (deeds_of entries))

abbrev pub course_of : List ℕ → List Entry → List Entry → Course
course_of number one other = record { sets = max (sets_in number one) (sets_in number other); accepted = has_accepted number one || has_accepted number other }

-- ---- behind an acceptance nothing follows

propose_front : (front : List Deed) (next : Deed) (more others : List Deed) (last : Deed) → AllPropose others → front ++ next ∷ more ≡ others ++ last ∷ [] → AllPropose front
propose_front [] next more others last all e = tt
propose_front (deed ∷ front) next more [] last all e = absurd (never front (tail front e))
  where
    tail : (l : List Deed) → deed ∷ (l ++ next ∷ more) ≡ last ∷ [] → l ++ next ∷ more ≡ []
    tail l e = cc

    never : (l : List Deed) → l ++ next ∷ more ≡ [] → ⊥
    never [] e = cc
    never (one ∷ l) e = cc
propose_front (deed ∷ front) next more (other ∷ others) last all e =
    let head : other ≡ deed = cc in
    let tail : front ++ next ∷ more ≡ others ++ last ∷ [] = cc in
    (subst (λ (d : Deed). proposes d.set ≡ true) head all.0, propose_front front next more others last all.1 tail)

none_yet : (deeds : List Deed) → AllPropose deeds → accepts_in deeds ≡ false
none_yet deeds all = ap (λ (l : List Deed). is_some (first_of l)) (none_accepting deeds all)

-- a legal list whose deeds of the delivery go on behind these has no acceptance among these
pub early : (role : Role) (number : List ℕ) (entries : List Entry) (front : List Deed) (next : Deed) (more : List Deed) → Legal role entries → of_delivery number (deeds_of entries) ≡ front ++ next ∷ more → accepts_in front ≡ false
early role number entries front next more legal e = by (legal_laid role entries number legal)
  where
    never : (l : List Deed) → l ++ next ∷ more ≡ [] → ⊥
    never [] e = cc
    never (one ∷ l) e = cc

    by : IsLaid role number (of_delivery number (deeds_of entries)) → accepts_in front ≡ false
    by (inl none) = absurd (never front (sym e ∙ none))
    by (inr (others, last, w)) = none_yet front (propose_front front next more others last (front_proposes role number _ others last w) (sym e ∙ w.is))

pub accepts_mirrored : (deeds : List Deed) → accepts_in (map mirrored deeds) ≡ accepts_in deeds
accepts_mirrored [] = refl
accepts_mirrored (deed ∷ deeds) = by (proposes deed.set) (accepts_mirrored deeds)
  where
    by : (t : Bool) → accepts_in (map mirrored deeds) ≡ accepts_in deeds
        → is_some (first_of (cond (not t) (mirrored deed ∷ filter (λ (d : Deed). not (proposes d.set)) (map mirrored deeds)) (filter (λ (d : Deed). not (proposes d.set)) (map mirrored deeds))))
        ≡ is_some (first_of (cond (not t) (deed ∷ filter (λ (d : Deed). not (proposes d.set)) deeds) (filter (λ (d : Deed). not (proposes d.set)) deeds)))
    by true e = e
    by false e = refl

-- an acceptance is no first set
pub accepted_two : (role : Role) (number : List ℕ) (entries : List Entry) → Legal role entries → has_accepted number entries ≡ true → 2 ≤ sets_in number entries
accepted_two role number entries legal accepted = by (legal_laid role entries number legal)
  where
    level_above : (t : Bool) (last : Deed) (n : ℕ) → is_some (cond t None (Some last)) ≡ true → (cond t n (n + 1)) ≡ n + 1
    level_above true last n e = absurd (cc)
    level_above false last n e = refl

    by : IsLaid role number (of_delivery number (deeds_of entries)) → 2 ≤ sets_in number entries
    by (inl none) = absurd (never_both _ accepted (ap is_some (none_accepted number entries none)))
    by (inr (front, last, w)) =
        let place = last_place (first_kind role) 0 front last (subst (AreInTurn (first_kind role) 0) w.is (legal_turns role entries number legal)) in
        let above = level_above (proposes last.set) last (level_in last.set) (sym (ap is_some (acceptance_is_last role number entries front last w)) ∙ accepted) in
        let count = ap length w.is ∙ one_longer front last in
        omega (arith, place, above, count)

-- ---- fronts by numbers

and_true : (b : Bool) → (b && true) ≡ b
and_true true = refl
and_true false = refl

and_false : (b : Bool) → (b && false) ≡ false
and_false true = refl
and_false false = refl

or_false : (b : Bool) → (b || false) ≡ b
or_false true = refl
or_false false = refl

or_same : (b : Bool) → (b || b) ≡ b
or_same true = refl
or_same false = refl

whole_front : (n k : ℕ) (a accepted : Bool) → n ≡ k → accepted ≡ a → a ≡ (accepted && n == k)
whole_front n k a accepted e f =
    let same : (n == k) ≡ true = grind (arith, nat_tests) in
    sym (ap (λ (b : Bool). accepted && b) same ∙ and_true accepted ∙ f)

part_front : (n k : ℕ) (a accepted : Bool) → n < k → a ≡ false → a ≡ (accepted && n == k)
part_front n k a accepted less f =
    let apart : (n == k) ≡ false = grind (arith, nat_tests) in
    f ∙ sym (ap (λ (b : Bool). accepted && b) apart ∙ and_false accepted)

-- ---- both lists

module _ (role : Role) (number : List ℕ) (one other : List Entry) (b : AreBacked role one other) where
  abbrev mine : List Deed
  mine = of_delivery number (deeds_of one)

  abbrev theirs : List Deed
  theirs = of_delivery number (deeds_of other)

  ahead_fits : IsBehind theirs mine → IsFront (course_of number one other) number one × IsFront (course_of number one other) number other
  ahead_fits ahead =
      let more = behind_length theirs mine ahead in
      let none : accepts_in theirs ≡ false = sym (accepts_mirrored theirs) ∙ early role number one (map mirrored theirs) ahead.last [] b.legal ahead.is in
      let all : (accepts_in mine || accepts_in theirs) ≡ accepts_in mine = ap (λ (t : Bool). accepts_in mine || t) none ∙ or_false (accepts_in mine) in (
        record { most = omega arith; ends = whole_front (length mine) (max (length mine) (length theirs)) (accepts_in mine) (accepts_in mine || accepts_in theirs) (omega (arith, more)) all },
        record { most = omega arith; ends = part_front (length theirs) (max (length mine) (length theirs)) (accepts_in theirs) (accepts_in mine || accepts_in theirs) (omega (arith, more)) none },
      )

  late_fits : IsBehind mine theirs → IsFront (course_of number one other) number one × IsFront (course_of number one other) number other
  late_fits late =
      let more = behind_length mine theirs late in
      let none : accepts_in mine ≡ false = sym (accepts_mirrored mine) ∙ early _ number other (map mirrored mine) late.last [] b.others late.is in
      let all : (accepts_in mine || accepts_in theirs) ≡ accepts_in theirs = ap (λ (t : Bool). t || accepts_in theirs) none in (
        record { most = omega arith; ends = part_front (length mine) (max (length mine) (length theirs)) (accepts_in mine) (accepts_in mine || accepts_in theirs) (omega (arith, more)) none },
        record { most = omega arith; ends = whole_front (length theirs) (max (length mine) (length theirs)) (accepts_in theirs) (accepts_in mine || accepts_in theirs) (omega (arith, more)) all },
      )

  even_fits : theirs ≡ map mirrored mine → IsFront (course_of number one other) number one × IsFront (course_of number one other) number other
  even_fits even =
      let same = even_length mine theirs even in
      let alike : accepts_in theirs ≡ accepts_in mine = ap accepts_in even ∙ accepts_mirrored mine in
      let all : (accepts_in mine || accepts_in theirs) ≡ accepts_in mine = ap (λ (t : Bool). accepts_in mine || t) alike ∙ or_same (accepts_in mine) in (
        record { most = omega arith; ends = whole_front (length mine) (max (length mine) (length theirs)) (accepts_in mine) (accepts_in mine || accepts_in theirs) (omega (arith, same)) all },
        record { most = omega arith; ends = whole_front (length theirs) (max (length mine) (length theirs)) (accepts_in theirs) (accepts_in mine || accepts_in theirs) (omega (arith, same)) (all ∙ sym alike) },
      )

  fits_by : Meet mine theirs → IsFront (course_of number one other) number one × IsFront (course_of number one other) number other
  fits_by (inl even) = even_fits even
  fits_by (inr (inl ahead)) = ahead_fits ahead
  fits_by (inr (inr late)) = late_fits late

  pub both_fit : IsFront (course_of number one other) number one × IsFront (course_of number one other) number other
  both_fit = fits_by (lists_meet role one other number b)

  pub right_course : IsCourse (course_of number one other)
  right_course accepted = by (accepts_in mine) refl
    where
      by : (t : Bool) → accepts_in mine ≡ t → 2 ≤ max (length mine) (length theirs)
      by true e = let two = accepted_two role number one b.legal e in omega (arith, two)
      by false e = let two = accepted_two _ number other b.others (sym (ap (λ (t : Bool). t || accepts_in theirs) e) ∙ accepted) in omega (arith, two)

-- ---- a list that grew

pub deeds_grown : (number : List ℕ) (old added : List Entry) → of_delivery number (deeds_of (old ++ added)) ≡ of_delivery number (deeds_of old) ++ of_delivery number (deeds_of added)
deeds_grown number old added = ap (of_delivery number) (filter_map-append deed_of old added) ∙ filter-append (λ (d : Deed). bytes_eq (number_in d.set) number) (deeds_of old) (deeds_of added)

pub fits_before : (role : Role) (course : Course) (number : List ℕ) (old added : List Entry) → Legal role (old ++ added) → IsFront course number (old ++ added) → IsFront course number old
fits_before role course number old added legal fits = by (of_delivery number (deeds_of added)) (deeds_grown number old added)
  where
    by : (more : List Deed) → of_delivery number (deeds_of (old ++ added)) ≡ of_delivery number (deeds_of old) ++ more → IsFront course number old
    by [] e = front_untouched course number (old ++ added) old (sym (e ∙ append-nil (of_delivery number (deeds_of old)))) fits
    by (next ∷ more) e =
        let most = fits.most in
        let longer = ap length e ∙ length-append (of_delivery number (deeds_of old)) (next ∷ more) in
        record {
          most = omega (arith, most, longer);
          ends = part_front (sets_in number old) course.sets (has_accepted number old) course.accepted (omega (arith, most, longer)) (early role number (old ++ added) (of_delivery number (deeds_of old)) next more legal e);
        }

-- ---- whether the course is complete so far

same_test : (n m k : ℕ) → n ≤ k → m ≤ k → (max n m == k) ≡ (n == k || m == k)
same_test n m k x y = by (n == k) refl
  where
    equal : (a b : ℕ) → (a == b) ≡ true → a ≡ b
    equal a b e = grind (arith, nat_tests)

    is_equal : (a b : ℕ) → a ≡ b → (a == b) ≡ true
    is_equal a b e = grind (arith, nat_tests)

    apart : (a b : ℕ) → (a == b) ≡ false → (a ≡ b → ⊥)
    apart a b e f = never_both _ (is_equal a b f) e

    other : (a b : ℕ) → (a ≡ b → ⊥) → (a == b) ≡ false
    other a b e = grind (arith, nat_tests)

    never : (n ≡ k → ⊥) → (m ≡ k → ⊥) → max n m ≡ k → ⊥
    never a b e = omega (arith, a, b, e)

    second : (n ≡ k → ⊥) → (t : Bool) → (m == k) ≡ t → (max n m == k) ≡ t
    second a true e = let f = equal m k e in is_equal (max n m) k (omega (arith, x, f))
    second a false e = other (max n m) k (never a (apart m k e))

    by : (t : Bool) → (n == k) ≡ t → (max n m == k) ≡ (n == k || m == k)
    by true e = let f = equal n k e in is_equal (max n m) k (omega (arith, y, f)) ∙ sym (ap (λ (t : Bool). t || m == k) e)
    by false e = second (apart n k e) (m == k) refl ∙ sym (ap (λ (t : Bool). t || m == k) e)

complete_by : (n m k : ℕ) (a c accepted : Bool) → n ≤ k → m ≤ k → a ≡ (accepted && n == k) → c ≡ (accepted && m == k) → (accepted && max n m == k) ≡ (a || c)
complete_by n m k a c false x y e f = sym (ap (λ (t : Bool). t || c) e ∙ f)
complete_by n m k a c true x y e f = same_test n m k x y ∙ sym (ap (λ (t : Bool). t || c) e ∙ ap (λ (t : Bool). n == k || t) f)

pub complete_is : (course : Course) (number : List ℕ) (role : Role) (own partner : Desk) → IsFront course number own.entries → IsFront course number partner.entries
    → is_complete course (stand_of number role own partner) ≡ (has_accepted number own.entries || has_accepted number partner.entries)
complete_is course number role own partner mine theirs =
    complete_by (sets_in number own.entries) (sets_in number partner.entries) course.sets (has_accepted number own.entries) (has_accepted number partner.entries) course.accepted mine.most theirs.most mine.ends theirs.ends
