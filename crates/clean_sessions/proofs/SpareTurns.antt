-- What is left to be spoken of a delivery falls with each own turn that speaks of it.
use Rattle.std.proofs.Common.{◌≡◌, ◌≤◌, ◌+◌, ℕ, Bool, true, false, ◌&&◌, ◌==◌, is_some, length, List, [], ◌∷◌, ◌++◌, refl, sym, ap, subst, ◌∙◌, inl, inr, arith}
use Rattle.std.specs.Prelude.{if◌then◌else◌}
use Rattle.std.proofs.lemmas.Bool.Decides.{nat_tests}
use Rattle.dsd_values.specs.declared.role.Role.{Role}
use Rattle.dsd_values.specs.declared.level.TheConstants.Level.{MAX as HIGHEST}
use Rattle.dsd_values.specs.Reading.{level_of}
use Rattle.dsd_values.proofs.Laws.{number_spelled}
use Rattle.segments.specs.Views.{Seg, element_of}
use Rattle.transaction_set.specs.declared.seal.Seal.{Seal}
use Rattle.adjustment_895.specs.AnswerRecord.{AnswerRecord}
use Rattle.adjustment_895.specs.AnswerText.{Is895}
use Rattle.adjustment_895.specs.Grammar.{AreSegments, IsHead}
use Rattle.dsd_record.specs.SetTexts.{IsSet}
use Rattle.dsd_record.specs.declared.set_view.SetView.{SetView}
use Rattle.dsd_record.specs.declared.set_view.SetView.TheVariants as sets
use Rattle.dsd_record.proofs.ReadOnce.{is_set_in}
use Rattle.dsd_journal.specs.declared.entry.Entry.{Entry}
use Rattle.delivery_book.specs.Deeds.{Deed, deeds_of, level_in, of_delivery, proposes}
use Rattle.delivery_book.specs.Signing.{Legal}
use Rattle.delivery_book.specs.Standing.{acceptance_of}
use Rattle.clean_sessions.specs.Courses.{Course}
use Rattle.clean_sessions.specs.DeedShapes.{AreInTurn, first_kind, place_of}
use Rattle.clean_sessions.specs.DeliveryStands.{IsFront, sets_in}
use Rattle.clean_sessions.proofs.DeedsInTurn.{legal_turns}
use Rattle.clean_sessions.proofs.DeedsOfBoth.{AllRead, all_read, read_filter}
use Rattle.clean_sessions.proofs.LastDeeds.{IsLaid, last_place, legal_laid}
use Rattle.clean_sessions.proofs.Meetings.{one_longer}

-- ---- a delivery has eleven sets at most

head_of : (answer : AnswerRecord) (seal : Seal) (segs : List Seg) → AreSegments answer seal segs → (seg : Seg) × IsHead answer seg
head_of answer seal [] s = absurd s
head_of answer seal (one ∷ []) (_, _, s) = absurd s
head_of answer seal (one ∷ two ∷ segs) (_, _, (_, h, _)) = (two, h)

pub level_low : (answer : AnswerRecord) (seal : Seal) (text : List ℕ) → Is895 answer seal text → answer.level ≤ 9
level_low answer seal text is =
    let head = head_of answer seal is.segments is.shape in
    let part = element_of head.0 5 in
    ((number_spelled 0 HIGHEST part (level_of part) refl answer.level).0 head.1.level).at_most

pub set_low : (set : SetView) (text : List ℕ) → IsSet set text → level_in set ≤ 9
set_low (sets.Base base seal) text is = omega arith
set_low (sets.Answer answer seal) text is = level_low answer seal text is

place_low : (t : Bool) (n : ℕ) → n ≤ 9 → (if t then n else n + 1) ≤ 10
place_low true n le = omega (arith, le)
place_low false n le = omega (arith, le)

last_read : (front : List Deed) (last : Deed) → AllRead (front ++ last ∷ []) → level_in last.set ≤ 9
last_read [] last read = set_low last.set last.text (is_set_in last.text last.set read.0)
last_read (one ∷ front) last read = last_read front last read.1

pub few_sets : (role : Role) (number : List ℕ) (entries : List Entry) → Legal role entries → sets_in number entries ≤ 11
few_sets role number entries legal = by (legal_laid role entries number legal)
  where
    by : IsLaid role number (of_delivery number (deeds_of entries)) → sets_in number entries ≤ 11
    by (inl none) = let size = ap length none in omega (arith, size)
    by (inr (front, last, e)) =
        let turns = subst (AreInTurn (first_kind role) 0) e.is (legal_turns role entries number legal) in
        let place = last_place (first_kind role) 0 front last turns in
        let read = subst AllRead e.is (read_filter _ (deeds_of entries) (all_read entries)) in
        let low : place_of last ≤ 10 = place_low (proposes last.set) (level_in last.set) (last_read front last read) in
        let count = ap length e.is ∙ one_longer front last in
        omega (arith, place, low, count)

-- ---- courses that fit what is there

-- a course that ends where this list does
abbrev pub course_so_far : List ℕ → List Entry → Course
course_so_far number entries = record { sets = sets_in number entries; accepted = is_some (acceptance_of number (deeds_of entries)) }

pub fits_so_far : (number : List ℕ) (entries : List Entry) → IsFront (course_so_far number entries) number entries
fits_so_far number entries =
    let same : (sets_in number entries == sets_in number entries) ≡ true = grind (arith, nat_tests) in
    record { most = omega arith; ends = sym (ap (λ (b : Bool). is_some (acceptance_of number (deeds_of entries)) && b) same ∙ and_true (is_some (acceptance_of number (deeds_of entries)))) }
  where
    and_true : (b : Bool) → (b && true) ≡ b
    and_true true = refl
    and_true false = refl
