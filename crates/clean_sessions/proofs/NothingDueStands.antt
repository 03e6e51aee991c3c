-- Where no set is due, none of this delivery is, as its stand says.
use Rattle.std.proofs.Common.{◌≡◌, ◌⊎◌, ◌≤◌, ◌+◌, ℕ, Bool, true, false, not, ◌&&◌, ◌||◌, nat_le, cond, length, List, [], ◌∷◌, ◌++◌, map, Option, Some, None, refl, sym, ap, subst, ◌∙◌, inl, inr, arith}
use Rattle.std.specs.Str.{bytes_eq}
use Rattle.std.specs.List.{cons_option, filter_map}
use Rattle.std.specs.Option.{option_map}
use Rattle.std.proofs.lemmas.Bool.{cases_Bool}
use Rattle.std.proofs.lemmas.Bool.Decides.{nat_tests}
use Rattle.std.proofs.lemmas.Slice.Eq.{bytes_eq-Decides}
use Rattle.dsd_values.specs.declared.role.Role.{Role}
use Rattle.dsd_journal.specs.declared.entry.EntryKind.{EntryKind}
use Rattle.dsd_journal.specs.declared.entry.EntryKind.TheVariants.{Signed, Took}
use Rattle.delivery_book.specs.Deeds.{Deed, deeds_of, is_signed, of_delivery, signed_of, signer_of}
use Rattle.delivery_book.specs.Lookups.{last_of, last_signed, numbers_of}
use Rattle.delivery_book.specs.Refusals.{is_role}
use Rattle.delivery_book.proofs.Members.{In, in_filter}
use Rattle.own_turn.specs.DueSets.{DueSet, asked_of, due_of, is_due as is_asked}
use Rattle.own_turn.specs.OwnTurn.{Desk}
use Rattle.clean_sessions.specs.CourseTurns.{NothingDue}
use Rattle.clean_sessions.specs.Courses.{Course, Stand, has_signed, is_due, is_wanted, may_speak}
use Rattle.clean_sessions.specs.DeedShapes.{AreInTurn, first_kind}
use Rattle.clean_sessions.specs.DeliveryStands.{AreBacked, IsFront, stand_of, told_in}
use Rattle.clean_sessions.proofs.BoolTests.{both_true}
use Rattle.clean_sessions.proofs.DeedsInTurn.{legal_turns}
use Rattle.clean_sessions.proofs.DeliveriesCovered.{known_has}
use Rattle.clean_sessions.proofs.DueStands.{even_at, late_at, wanted}
use Rattle.clean_sessions.proofs.HearingTurns.{some_in}
use Rattle.clean_sessions.proofs.LastDeeds.{IsLaid, legal_laid}
use Rattle.clean_sessions.proofs.Meetings.{Meet, is_last_own, last_is_own, lists_meet, one_longer, own_more}
use Rattle.clean_sessions.proofs.NumbersApart.{has}
use Rattle.clean_sessions.proofs.OneLonger.{late_side}

-- ---- a signed deed is found

some_signed : (deeds : List Deed) (deed : Deed) → In deed deeds → (found : Deed) × (last_of deeds ≡ Some found)
some_signed [] deed h = absurd h
some_signed (one ∷ []) deed h = (one, refl)
some_signed (one ∷ next ∷ deeds) deed (inl same) = some_signed (next ∷ deeds) next (inl refl)
some_signed (one ∷ next ∷ deeds) deed (inr h) = some_signed (next ∷ deeds) deed h

-- one of two in turn was signed
one_of_two : (kind : EntryKind) (deeds : List Deed) → AreInTurn kind 0 deeds → 2 ≤ length deeds → (deed : Deed) × (In deed deeds × (is_signed deed.kind ≡ true))
one_of_two kind [] turns many = absurd (omega (arith, many))
one_of_two kind (one ∷ []) turns many = absurd (omega (arith, many))
one_of_two Signed (one ∷ two ∷ deeds) turns many = (one, (inl refl, ap is_signed turns.0))
one_of_two Took (one ∷ two ∷ deeds) turns many = (two, (inr (inl refl), ap is_signed turns.2.0))

last_there : (front : List Deed) (last : Deed) → In last (front ++ last ∷ [])
last_there [] last = inl refl
last_there (one ∷ front) last = inr (last_there front last)

module _ (role : Role) (number : List ℕ) (course : Course) (own partner : Desk) (b : AreBacked role own.entries partner.entries) (fits : IsFront course number own.entries) (theirs : IsFront course number partner.entries) where
  abbrev mine : List Deed
  mine = of_delivery number (deeds_of own.entries)

  abbrev at : Stand
  at = stand_of number role own partner

  turns : AreInTurn (first_kind role) 0 mine
  turns = legal_turns role own.entries number b.legal

  abbrev SignedOne : Type 0
  SignedOne = (deed : Deed) × (In deed mine × (is_signed deed.kind ≡ true))

  two_of : (n : ℕ) → nat_le 2 n ≡ true → 2 ≤ n
  two_of n e = grind (arith, nat_tests)

  either : (a c : Bool) → (a || c) ≡ true → (a ≡ true) ⊎ (c ≡ true)
  either true c e = inl refl
  either false c e = inr e

  by_last : (front : List Deed) (last : Deed) → mine ≡ front ++ last ∷ [] → is_signed last.kind ≡ true → SignedOne
  by_last front last e signed = (last, (subst (In last) (sym e) (last_there front last), signed))

  side : (front : List Deed) (last : Deed) → mine ≡ front ++ last ∷ [] → is_last_own role (length mine) ≡ is_signed last.kind
  side front last e = ap (λ (l : List Deed). is_last_own role (length l)) e ∙ ap (is_last_own role) (one_longer front last) ∙ last_is_own role front last (subst (AreInTurn (first_kind role) 0) e turns)

  -- an end that has signed, as the stand says, has a signed set in its list
  signed_one : 1 ≤ at.sets → has_signed at ≡ true → SignedOne
  signed_one some signed = by (legal_laid role own.entries number b.legal) (lists_meet role own.entries partner.entries number b)
    where
      not_true : (x : Bool) → x ≡ false → not x ≡ true
      not_true true e = absurd (cc)
      not_true false e = refl

      even : (l : Bool) → (is_last_own role (length mine) || nat_le 2 (length mine)) ≡ true → IsLaid role number mine → 1 ≤ length mine → SignedOne
      even l e (inl none) there = let size = ap length none in absurd (omega (arith, size, there))
      even l e (inr (front, last, w)) there = elim (either (is_last_own role (length mine)) (nat_le 2 (length mine)) e) [
        | inl own_last ↦ by_last front last w.is (sym (side front last w.is) ∙ own_last)
        | inr two ↦ one_of_two (first_kind role) mine turns (two_of (length mine) two)
      ]

      by : IsLaid role number mine → Meet mine (of_delivery number (deeds_of partner.entries)) → SignedOne
      by laid (inl same) =
          let is = even_at role number course own partner b fits theirs same in
          even true (sym (ap has_signed is) ∙ signed) laid (subst (λ (s : Stand). 1 ≤ s.sets) is some)
      by laid (inr (inl ahead)) = by_last (map _ (of_delivery number (deeds_of partner.entries))) ahead.last ahead.is (ap is_signed ahead.signed)
      by (inl none) (inr (inr late)) =
          let is = late_at role number course own partner b fits theirs late in
          let two : nat_le 2 (length mine + 1) ≡ true = sym (ap has_signed is) ∙ signed in
          let size = ap length none in
          let many = two_of (length mine + 1) two in
          absurd (omega (arith, size, many))
      by (inr (front, last, w)) (inr (inr late)) =
          let next : is_role (signer_of (length mine)) role ≡ false = sym (own_more role (length mine)) ∙ late_side role number own.entries partner.entries b late in
          by_last front last w.is (sym (side front last w.is) ∙ not_true (is_role (signer_of (length mine)) role) next)

  last_found : SignedOne → (text : List ℕ) × (last_signed own.entries number ≡ Some text)
  last_found one =
      let found = some_signed (signed_of number (deeds_of own.entries)) one.0 (in_filter (λ (d : Deed). is_signed d.kind) mine one.0 one.1.0 one.1.1) in
      (found.0.text, ap (option_map (λ (d : Deed). d.text)) found.1)

  -- ---- what is due is among the due sets

  none_among : (numbers : List (List ℕ)) → has number numbers ≡ true → filter_map (due_of own.entries own.asked) numbers ≡ [] → (set : DueSet) → due_of own.entries own.asked number ≡ Some set → ⊥
  none_among [] there none set due = cc
  none_among (one ∷ more) there none set due = elim (cases_Bool (bytes_eq one number)) [
    | inl same ↦ here (due_of own.entries own.asked one) (ap (due_of own.entries own.asked) ((bytes_eq-Decides one number).0 same) ∙ due) none
    | inr differs ↦ none_among more (subst (λ (b : Bool). (b || has number more) ≡ true) differs there) (rest (due_of own.entries own.asked one) none) set due
  ]
    where
      here : (o : Option DueSet) → o ≡ Some set → cons_option o (filter_map (due_of own.entries own.asked) more) ≡ [] → ⊥
      here None e f = cc
      here (Some x) e f = cc

      rest : (o : Option DueSet) → cons_option o (filter_map (due_of own.entries own.asked) more) ≡ [] → filter_map (due_of own.entries own.asked) more ≡ []
      rest None e = e
      rest (Some x) e = absurd (cc)

  never_due : NothingDue own → 1 ≤ at.sets → is_due course at ≡ true → ⊥
  never_due none some due =
      let first = both_true (has_signed at) (is_wanted course at && may_speak (told_in number own)) due in
      let one = signed_one some first.0 in
      let last = last_found one in
      let asked : is_asked own.entries (asked_of number own.asked) ≡ true = sym (ap (λ (t : Bool). t && may_speak (told_in number own)) (wanted role number course own partner b fits theirs)) ∙ first.1 in
      let set : DueSet = record { number = number; text = last.0 } in
      let made : due_of own.entries own.asked number ≡ Some set =
      ap (λ (t : Bool). (let no : Option DueSet = None in cond t (option_map (λ (text : List ℕ). (let d : DueSet = record { number = number; text = text } in d)) (last_signed own.entries number)) no)) asked
      ∙ ap (option_map (λ (text : List ℕ). (let d : DueSet = record { number = number; text = text } in d))) last.1 in
      none_among (numbers_of own.entries) (known_has number own.entries (some_in mine one.0 one.1.0)) none set made

  pub not_due : NothingDue own → 1 ≤ at.sets → is_due course at ≡ false
  not_due none some = by (is_due course at) refl
    where
      by : (b : Bool) → is_due course at ≡ b → is_due course at ≡ false
      by true e = absurd (never_due none some e)
      by false e = e
