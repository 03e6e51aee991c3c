-- A set that was taken is known, and what hearing a set makes of a stand.
use Rattle.std.proofs.Common.{◌≡◌, ◌+◌, ℕ, Bool, true, false, not, ◌&&◌, ◌==◌, cond, List, Option, Some, None, refl, sym, ap, subst, ◌∙◌, inl, inr}
use Rattle.std.specs.Prelude.{if◌then◌else◌}
use Rattle.dsd_values.specs.declared.role.Role.{Role}
use Rattle.dsd_record.specs.ReadSets.{set_in}
use Rattle.dsd_record.specs.declared.set_view.SetView.{SetView}
use Rattle.dsd_journal.specs.declared.entry.Entry.{Entry}
use Rattle.delivery_book.specs.Deeds.{deeds_of, number_in, proposes}
use Rattle.delivery_book.specs.Refusals.{read_fault, refused_as, take_fault, was_taken}
use Rattle.delivery_book.specs.Signing.{Legal}
use Rattle.dsd_record.specs.SetTexts.{set_refusal}
use Rattle.delivery_book.proofs.Grown.{legal_founded, legal_last}
use Rattle.delivery_book.proofs.TakeExact.{first_none, second_none, taken_faultless, when_false}
use Rattle.own_turn.specs.DueSets.{Asked, asked_of, with_known, with_known_set}
use Rattle.own_turn.specs.OwnTurn.{Desk, StaysLegal, TakesSet, took}
use Rattle.clean_sessions.specs.Courses.{Course, Told, hears}
use Rattle.clean_sessions.specs.DeliveryStands.{told_by}
use Rattle.clean_sessions.proofs.AskedApart.{own_asked}
use Rattle.clean_sessions.proofs.BoolTests.{never_both}
use Rattle.clean_sessions.proofs.ReadyPlaces.{stand}
use Rattle.clean_sessions.proofs.TakingApart.{asked_number}

-- ---- a set that was taken is known

taken_again : (role : Role) (entries : List Entry) (text : List ℕ) → Legal role entries → was_taken text entries ≡ true → StaysLegal role entries (took text) → ⊥
taken_again role entries text legal was stays =
    let none : take_fault role entries text ≡ None = taken_faultless role entries text (legal_founded role entries legal) (legal_last role entries (took text) stays) in
    never_both (was_taken text entries) was (when_false (was_taken text entries) _ (first_none _ (read_fault (set_in text) role (deeds_of entries)) (second_none (refused_as (set_refusal text)) _ none)))

pub known_taken : (role : Role) (text : List ℕ) (old new : Desk) → Legal role old.entries → was_taken text old.entries ≡ true → TakesSet role text old new → new ≡ record old { asked = with_known_set old.asked (set_in text) }
known_taken role text old new legal was (inl (stays, e)) = absurd (taken_again role old.entries text legal was stays)
known_taken role text old new legal was (inr (illegal, e)) = e ∙ ap (λ (b : Bool). if b then record old { asked = with_known_set old.asked (set_in text) } else record old { refused = old.refused + 1 }) was

abbrev pub met : Told → Told
met told = record told { since = true; met = true }

known_asked : (number : List ℕ) (all : List Asked) → told_by (asked_of number (with_known all number)) ≡ met (told_by (asked_of number all))
known_asked number all =
    let new : Asked = record (asked_of number all) { since = true; met = true } in
    let same : new.number ≡ number = asked_number number all in
    ap told_by (subst (λ (n : List ℕ). asked_of n (with_known all number) ≡ new) same (own_asked all new))

pub told_known : (number text : List ℕ) (all : List Asked) (set : SetView) → set_in text ≡ Some set → number_in set ≡ number
    → told_by (asked_of number (with_known_set all (set_in text))) ≡ cond (proposes set) (met (told_by (asked_of number all))) (told_by (asked_of number all))
told_known number text all set read its =
    ap (λ (o : Option SetView). told_by (asked_of number (with_known_set all o))) read
    ∙ ap (λ (n : List ℕ). told_by (asked_of number (if proposes set then with_known all n else all))) its
    ∙ by (proposes set)
  where
    by : (t : Bool) → told_by (asked_of number (if t then with_known all number else all)) ≡ cond t (met (told_by (asked_of number all))) (told_by (asked_of number all))
    by true = known_asked number all
    by false = refl

-- ---- what hearing makes of a stand

module _ (course : Course) (n : ℕ) (mine theirs : Told) where
  pub hears_again : (last_own proposal : Bool) → proposal ≡ not (not last_own && (course.accepted && n == course.sets)) → hears course true (stand n true last_own mine theirs) ≡ stand n true last_own (cond proposal (met mine) mine) theirs
  hears_again true proposal e = ap (λ (t : Bool). stand n true true (cond t (met mine) mine) theirs) (sym e)
  hears_again false proposal e = by (course.accepted && n == course.sets) e
    where
      by : (c : Bool) → proposal ≡ not c → (if c then stand n true false mine theirs else stand n true false (met mine) theirs) ≡ stand n true false (cond proposal (met mine) mine) theirs
      by true e = ap (λ (t : Bool). stand n true false (cond t (met mine) mine) theirs) (sym e)
      by false e = ap (λ (t : Bool). stand n true false (cond t (met mine) mine) theirs) (sym e)

  pub hears_behind : (last_own : Bool) → last_own ≡ true → hears course true (stand n false last_own mine theirs) ≡ stand n false last_own (met mine) theirs
  hears_behind true e = refl
  hears_behind false e = absurd (cc)

  pub hears_new : (last_own : Bool) → last_own ≡ false → hears course true (stand n false last_own mine theirs) ≡ stand n true last_own mine theirs
  hears_new true e = absurd (cc)
  hears_new false e = refl
