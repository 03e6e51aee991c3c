-- A last signed set is due as the stand of its delivery says.
use Rattle.std.proofs.Common.{◌≡◌, ◌≤◌, ◌+◌, ℕ, Bool, true, false, not, ◌&&◌, ◌||◌, ◌==◌, nat_lt, nat_le, is_none, is_some, length, List, [], ◌∷◌, map, Option, Some, None, refl, sym, ap, subst, ◌∙◌, inl, inr, arith}
use Rattle.std.specs.Option.{option_and_then}
use Rattle.std.proofs.lemmas.Bool.{cases_Bool}
use Rattle.std.proofs.lemmas.Bool.Decides.{nat_tests}
use Rattle.dsd_values.specs.declared.role.Role.{Role}
use Rattle.dsd_record.specs.Chain.{version_of}
use Rattle.dsd_journal.specs.declared.entry.Entry.{Entry}
use Rattle.dsd_journal.specs.declared.entry.EntryKind.{EntryKind}
use Rattle.dsd_journal.specs.declared.entry.EntryKind.TheVariants.{Signed, Took}
use Rattle.delivery_book.specs.Deeds.{Deed, deeds_of, is_signed, of_delivery, other_role}
use Rattle.delivery_book.specs.Finals.{final_of}
use Rattle.delivery_book.specs.Lookups.{last_signed}
use Rattle.delivery_book.specs.Signing.{Legal}
use Rattle.delivery_book.specs.Standing.{acceptance_of, version_at}
use Rattle.delivery_book.proofs.Agreeing.{twice_other}
use Rattle.delivery_book.proofs.Grown.{final_is, legal_closes, legal_founded, no_final}
use Rattle.delivery_book.proofs.Members.{In, in_append}
use Rattle.delivery_book.proofs.Standings.{highest_is}
use Rattle.own_turn.specs.DueSets.{Asked, asked_of, is_due as is_asked, is_wanted as is_asked_for}
use Rattle.own_turn.specs.OwnTurn.{Desk}
use Rattle.clean_sessions.specs.Courses.{Course, Stand, has_signed, is_due, is_final, is_wanted, may_speak}
use Rattle.clean_sessions.specs.DeedShapes.{AreInTurn, first_kind}
use Rattle.clean_sessions.specs.DeliveryStands.{AreBacked, IsFront, stand_at, stand_of, told_in}
use Rattle.clean_sessions.proofs.BoolTests.{never_both}
use Rattle.clean_sessions.proofs.DeedsInTurn.{legal_turns}
use Rattle.clean_sessions.proofs.OneLonger.{late_side}
use Rattle.clean_sessions.proofs.HearingTurns.{last_deed}
use Rattle.clean_sessions.proofs.LastDeeds.{IsLaid, legal_laid, none_accepted}
use Rattle.clean_sessions.proofs.Meetings.{IsBehind, Meet, ahead_stand, behind_length, even_length, even_stand, is_last_own, last_is_own, late_stand, lists_meet, one_longer, own_of_other}
use Rattle.clean_sessions.proofs.MirroredDeeds.{mirrored}
use Rattle.clean_sessions.proofs.ReadyPlaces.{stand}
use Rattle.clean_sessions.proofs.TakingApart.{asked_number}

-- ---- both ends exchanged

pub backed_turned : (role : Role) (own partner : List Entry) → AreBacked role own partner → AreBacked (other_role role) partner own
backed_turned role own partner b = record {
  legal = b.others;
  others = subst (λ (r : Role). Legal r own) (sym (twice_other role)) b.legal;
  backed = b.backing;
  backing = b.backed;
}

pub ahead_side : (role : Role) (number : List ℕ) (one two : List Entry) → AreBacked role one two → IsBehind (of_delivery number (deeds_of two)) (of_delivery number (deeds_of one))
    → is_last_own role (length (of_delivery number (deeds_of two)) + 1) ≡ true
ahead_side role number one two b ahead =
    by (is_last_own role (length (of_delivery number (deeds_of two)) + 1))
    (sym (own_of_other role (length (of_delivery number (deeds_of two)) + 1)) ∙ late_side (other_role role) number two one (backed_turned role one two b) ahead)
  where
    by : (b : Bool) → not b ≡ false → b ≡ true
    by true e = refl
    by false e = absurd (cc)

-- ---- what is final

module _ (role : Role) (number : List ℕ) (entries : List Entry) (legal : Legal role entries) where
  final_some : (a : Deed) → acceptance_of number (deeds_of entries) ≡ Some a → is_none (final_of entries number) ≡ false
  final_some a e =
      let founded = legal_founded role entries legal in
      let f = final_is role number (deeds_of entries) founded (legal_closes role entries legal) a e in
      let h = highest_is number (deeds_of entries) f.0 f.1 in
      let end = founded.ends f.0 h.is.among h.is.proposes in
      let made : version_at (deeds_of entries) f.0 ≡ Some end.version = ap (option_and_then version_of) end.to ∙ end.made in
      ap is_none (f.2 ∙ made)

  by_acceptance : (o : Option Deed) → acceptance_of number (deeds_of entries) ≡ o → is_none (final_of entries number) ≡ not (is_some o)
  by_acceptance (Some a) e = final_some a e
  by_acceptance None e = ap is_none (no_final role number (deeds_of entries) (legal_founded role entries legal) (legal_closes role entries legal) e)

  pub final_none : is_none (final_of entries number) ≡ not (is_some (acceptance_of number (deeds_of entries)))
  final_none = by_acceptance (acceptance_of number (deeds_of entries)) refl

-- ---- as the stand says

module _ (role : Role) (number : List ℕ) (course : Course) (own partner : Desk) (b : AreBacked role own.entries partner.entries) (fits : IsFront course number own.entries) (theirs : IsFront course number partner.entries) where
  abbrev at : Stand
  at = stand_of number role own partner

  abbrev accepted : Bool
  accepted = is_some (acceptance_of number (deeds_of own.entries))

  abbrev mine : List Deed
  mine = of_delivery number (deeds_of own.entries)

  abbrev other : List Deed
  other = of_delivery number (deeds_of partner.entries)

  or_true : (l : Bool) → (l || true) ≡ true
  or_true true = refl
  or_true false = refl

  both_of : (a c t : Bool) → a ≡ c → (a ≡ true → t ≡ true) → (c && t) ≡ a
  both_of true c t e h = ap (λ (x : Bool). x && t) (sym e) ∙ h refl
  both_of false c t e h = ap (λ (x : Bool). x && t) (sym e)

  some_there : accepted ≡ true → nat_lt 0 (length mine) ≡ true
  some_there e = by mine refl
    where
      by : (l : List Deed) → mine ≡ l → nat_lt 0 (length mine) ≡ true
      by [] none = absurd (never_both accepted e (ap is_some (none_accepted number own.entries none)))
      by (x ∷ xs) is = let some : nat_lt 0 (length (x ∷ xs)) ≡ true = grind (arith, nat_tests) in ap (λ (l : List Deed). nat_lt 0 (length l)) is ∙ some

  pub even_at : other ≡ map mirrored mine → at ≡ stand (length mine) (nat_lt 0 (length mine)) (is_last_own role (length mine)) (told_in number own) (told_in number partner)
  even_at even =
      ap (λ (m : ℕ). stand_at role (length mine) m (told_in number own) (told_in number partner)) (even_length mine other even) ∙ even_stand role (told_in number own) (told_in number partner) (length mine)

  pub ahead_at : IsBehind other mine → at ≡ stand (length other + 1) false true (told_in number own) (told_in number partner)
  ahead_at ahead =
      ap (λ (n : ℕ). stand_at role n (length other) (told_in number own) (told_in number partner)) (behind_length other mine ahead) ∙ ahead_stand role (told_in number own) (told_in number partner) (length other)
      ∙ ap (λ (l : Bool). stand (length other + 1) false l (told_in number own) (told_in number partner)) (ahead_side role number own.entries partner.entries b ahead)

  pub late_at : IsBehind mine other → at ≡ stand (length mine + 1) false false (told_in number own) (told_in number partner)
  late_at late =
      ap (λ (m : ℕ). stand_at role (length mine) m (told_in number own) (told_in number partner)) (behind_length mine other late) ∙ late_stand role (told_in number own) (told_in number partner) (length mine)
      ∙ ap (λ (l : Bool). stand (length mine + 1) false l (told_in number own) (told_in number partner)) (late_side role number own.entries partner.entries b late)

  final_stand : is_final course at ≡ accepted
  final_stand = by (lists_meet role own.entries partner.entries number b)
    where
      by : Meet mine other → is_final course at ≡ accepted
      by (inl even) =
          ap (is_final course) (even_at even)
          ∙ both_of accepted (course.accepted && length mine == course.sets) (is_last_own role (length mine) || nat_lt 0 (length mine)) fits.ends
          (λ e. ap (λ (t : Bool). is_last_own role (length mine) || t) (some_there e) ∙ or_true (is_last_own role (length mine)))
      by (inr (inl ahead)) =
          ap (is_final course) (ahead_at ahead)
          ∙ both_of accepted (course.accepted && length other + 1 == course.sets) true (fits.ends ∙ ap (λ (n : ℕ). course.accepted && n == course.sets) (behind_length other mine ahead)) (λ e. refl)
      by (inr (inr late)) =
          let more = behind_length mine other late in
          let most = theirs.most in
          let less : (length mine == course.sets) ≡ false = short (length mine) (length other) course.sets more most in
          ap (is_final course) (late_at late) ∙ no_end (course.accepted && length mine + 1 == course.sets) ∙ sym (fits.ends ∙ ap (λ (t : Bool). course.accepted && t) less ∙ no_end course.accepted)
        where
          no_end : (b : Bool) → (b && false) ≡ false
          no_end true = refl
          no_end false = refl

          short : (n m k : ℕ) → m ≡ n + 1 → m ≤ k → (n == k) ≡ false
          short n m k e le = grind (arith, nat_tests)

  pub wanted : is_wanted course at ≡ is_asked_for own.entries (asked_of number own.asked)
  wanted =
      let asked : Asked = asked_of number own.asked in
      let none : is_none (final_of own.entries asked.number) ≡ not (is_final course at) =
      ap (λ (n : List ℕ). is_none (final_of own.entries n)) (asked_number number own.asked) ∙ final_none role number own.entries b.legal ∙ ap not (sym final_stand) in
      sym (ap (λ (t : Bool). t || asked.met || asked.accepts) none ∙ grouped (not (is_final course at)) asked.met asked.accepts)
    where
      grouped : (x y z : Bool) → (x || y || z) ≡ (x || (y || z))
      grouped true y z = refl
      grouped false y z = refl

  signed_two : (deeds : List Deed) (deed : Deed) → In deed deeds → deed.kind ≡ Signed → 1 ≤ length deeds
  signed_two [] deed h kind = absurd h
  signed_two (one ∷ deeds) deed h kind = omega arith

  pub signed_there : (text : List ℕ) → last_signed own.entries number ≡ Some text → has_signed at ≡ true
  signed_there text e = by (lists_meet role own.entries partner.entries number b)
    where
      two : (n : ℕ) → 2 ≤ n → nat_le 2 n ≡ true
      two n le = grind (arith, nat_tests)

      behind_some : (n : ℕ) (deeds : List Deed) (deed : Deed) → In deed deeds → n ≡ length deeds + 1 → 2 ≤ n
      behind_some n [] deed h e = absurd h
      behind_some n (one ∷ deeds) deed h e = omega (arith, e)

      never_signed : (kind : EntryKind) → is_signed kind ≡ false → kind ≡ Signed → ⊥
      never_signed Signed e f = cc
      never_signed Took e f = cc

      by_laid : IsLaid role number mine → (is_last_own role (length mine) || nat_le 2 (length mine)) ≡ true
      by_laid (inl none) = let y = last_deed number own.entries text e in absurd (subst (In y.deed) none y.among)
      by_laid (inr (front, last, w)) = elim (cases_Bool (is_signed last.kind)) [
        | inl own_last ↦ ap (λ (t : Bool). t || nat_le 2 (length mine)) (side ∙ own_last)
        | inr took ↦
            let y = last_deed number own.entries text e in
            elim (in_append front (last ∷ []) y.deed (subst (In y.deed) w.is y.among)) [
              | inl before ↦ ap (λ (t : Bool). is_last_own role (length mine) || t) (two (length mine) (behind_some (length mine) front y.deed before (ap length w.is ∙ one_longer front last))) ∙ or_true (is_last_own role (length mine))
              | inr (inl here) ↦ absurd (never_signed last.kind took (ap (λ (d : Deed). d.kind) here ∙ y.kind))
              | inr (inr none) ↦ absurd none
            ]
      ]
        where
          side : is_last_own role (length mine) ≡ is_signed last.kind
          side = ap (λ (l : List Deed). is_last_own role (length l)) w.is ∙ ap (is_last_own role) (one_longer front last) ∙ last_is_own role front last (subst (AreInTurn (first_kind role) 0) w.is (legal_turns role own.entries number b.legal))

      by : Meet mine other → has_signed at ≡ true
      by (inl even) = ap has_signed (even_at even) ∙ by_laid (legal_laid role own.entries number b.legal)
      by (inr (inl ahead)) = ap has_signed (ahead_at ahead)
      by (inr (inr late)) =
          let y = last_deed number own.entries text e in
          let some = signed_two mine y.deed y.among y.kind in
          let enough : 2 ≤ length mine + 1 = omega (arith, some) in
          ap has_signed (late_at late) ∙ two (length mine + 1) enough

  pub due_there : (text : List ℕ) → last_signed own.entries number ≡ Some text → is_asked own.entries (asked_of number own.asked) ≡ true → is_due course at ≡ true
  due_there text e asked = ap (λ (t : Bool). t && (is_wanted course at && may_speak (told_in number own))) (signed_there text e) ∙ ap (λ (t : Bool). t && may_speak (told_in number own)) wanted ∙ asked
