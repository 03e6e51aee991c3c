-- How a delivery stands behind its partner's last signed set.
use Rattle.std.proofs.Common.{◌≡◌, ◌+◌, ℕ, Bool, true, false, not, ◌&&◌, ◌==◌, nat_lt, cond, is_some, length, List, [], ◌∷◌, ◌++◌, map, Option, Some, None, refl, sym, ap, subst, ◌∙◌, inl, inr, arith}
use Rattle.std.specs.Str.{bytes_eq}
use Rattle.std.specs.List.{filter}
use Rattle.std.proofs.lemmas.Bool.Decides.{nat_tests}
use Rattle.std.proofs.lemmas.List.{map-append}
use Rattle.dsd_values.specs.declared.role.Role.{Role}
use Rattle.dsd_record.proofs.ReadOnce.{is_set_in}
use Rattle.dsd_journal.specs.declared.entry.EntryKind.{EntryKind}
use Rattle.dsd_journal.specs.declared.entry.EntryKind.TheVariants.{Signed, Took}
use Rattle.delivery_book.specs.Deeds.{Deed, deeds_of, is_signed, number_in, of_delivery, other_kind, other_role, proposes, signed_of}
use Rattle.delivery_book.specs.Lookups.{last_of}
use Rattle.delivery_book.specs.Refusals.{was_taken}
use Rattle.delivery_book.specs.Signing.{AllowsSet}
use Rattle.delivery_book.specs.Standing.{acceptance_of}
use Rattle.delivery_book.proofs.Grown.{legal_more, of_own}
use Rattle.delivery_book.proofs.Listed.{deeds_more, map_in}
use Rattle.delivery_book.proofs.Members.{In, filter_in, in_append}
use Rattle.own_turn.specs.OwnTurn.{Desk, StaysLegal, TakesSet, took}
use Rattle.clean_sessions.specs.Courses.{Course, Told, hears}
use Rattle.clean_sessions.specs.DeedShapes.{AreInTurn, first_kind}
use Rattle.clean_sessions.specs.DeliveryStands.{AreBacked, IsFront, sets_in, stand_at, stand_of, told_in}
use Rattle.clean_sessions.proofs.DeedsInTurn.{legal_turns}
use Rattle.clean_sessions.proofs.HearingTurns.{IsLastDeed, last_signed_behind, taken_before}
use Rattle.clean_sessions.proofs.LastDeeds.{EndsWith, IsLaid, acceptance_is_last, front_proposes, legal_laid, of_twice}
use Rattle.clean_sessions.proofs.Meetings.{IsBehind, Meet, ahead_stand, behind_length, even_length, even_stand, is_last_own, last_is_own, late_stand, lists_meet, one_longer}
use Rattle.clean_sessions.proofs.MirroredDeeds.{allowed_alike, mirrored, took_of_signed, twice_mirrored}
use Rattle.clean_sessions.proofs.ReadyPlaces.{stand}
use Rattle.clean_sessions.proofs.KnownSets.{met, known_taken, told_known, hears_again, hears_behind, hears_new}
use Rattle.clean_sessions.proofs.OneLonger.{late_side, last_same, propose_in}

-- ---- the partner's last signed set is heard

module _ (role : Role) (number text : List ℕ) (course : Course) (old partner : Desk) (b : AreBacked role old.entries partner.entries) (fits : IsFront course number old.entries) (y : IsLastDeed number partner.entries text) where
  abbrev own : List Deed
  own = of_delivery number (deeds_of old.entries)

  abbrev other : List Deed
  other = of_delivery number (deeds_of partner.entries)

  abbrev Heard : Desk → Type 0
  Heard new = stand_of number role new partner ≡ hears course true (stand_of number role old partner)

  turns : AreInTurn (first_kind role) 0 own
  turns = legal_turns role old.entries number b.legal

  -- the same set among the own deeds was taken
  was_own : (deed : Deed) → In deed own → deed.kind ≡ Took → mirrored deed ≡ y.deed → was_taken text old.entries ≡ true
  was_own deed h kind same =
      let its = filter_in (λ (d : Deed). bytes_eq (number_in d.set) number) (deeds_of old.entries) deed h in
      subst (λ (t : List ℕ). was_taken t old.entries ≡ true) (ap (λ (d : Deed). d.text) same ∙ y.text_is) (taken_before old.entries deed its.among kind)

  -- it changes no entry, and is met where it is a proposal
  known_stand : (new : Desk) → was_taken text old.entries ≡ true → TakesSet role text old new
      → stand_of number role new partner ≡ stand_at role (sets_in number old.entries) (sets_in number partner.entries) (cond (proposes y.deed.set) (met (told_in number old)) (told_in number old)) (told_in number partner)
  known_stand new was step =
      ap (λ (d : Desk). stand_of number role d partner) (known_taken role text old new b.legal was step)
      ∙ ap (λ (t : Told). stand_at role (sets_in number old.entries) (sets_in number partner.entries) t (told_in number partner)) (told_known number text old.asked y.deed.set y.read y.number_is)

  -- both have the same sets
  even_heard : (new : Desk) → other ≡ map mirrored own → TakesSet role text old new → (front : List Deed) (last : Deed) → EndsWith role number own front last → Heard new
  even_heard new even step front last e =
      let n : ℕ = length own in
      let same : length other ≡ n = even_length own other even in
      let image = map_in mirrored own y.deed (subst (In y.deed) even y.among) in
      let took_it : image.from.kind ≡ Took = took_kind image.from.kind (ap (λ (d : Deed). d.kind) image.same ∙ y.kind) in
      let was = was_own image.from image.among took_it image.same in
      let count : n ≡ length front + 1 = ap length e.is ∙ one_longer front last in
      let some : nat_lt 0 n ≡ true = filled n (length front) count in
      let side : is_last_own role n ≡ is_signed last.kind = ap (is_last_own role) count ∙ last_is_own role front last (subst (AreInTurn (first_kind role) 0) e.is turns) in
      let ends : not (proposes last.set) ≡ (course.accepted && n == course.sets) = accepted_is (proposes last.set) (acceptance_is_last role number old.entries front last e) ∙ fits.ends in
      let right : proposes y.deed.set ≡ not (not (is_signed last.kind) && (course.accepted && n == course.sets)) = by_last image.from front last e image.among took_it image.same (is_signed last.kind) refl even ends in
      let flagged : proposes y.deed.set ≡ not (not (is_last_own role n) && (course.accepted && n == course.sets)) = right ∙ ap (λ (t : Bool). not (not t && (course.accepted && n == course.sets))) (sym side) in
      let at : (mine : Told) → stand_at role n (length other) mine (told_in number partner) ≡ stand n true (is_last_own role n) mine (told_in number partner) =
      λ mine. ap (λ (m : ℕ). stand_at role n m mine (told_in number partner)) same ∙ even_stand role mine (told_in number partner) n ∙ ap (λ (t : Bool). stand n t (is_last_own role n) mine (told_in number partner)) some in
      known_stand new was step
      ∙ at (cond (proposes y.deed.set) (met (told_in number old)) (told_in number old))
      ∙ sym (hears_again course n (told_in number old) (told_in number partner) (is_last_own role n) (proposes y.deed.set) flagged)
      ∙ ap (hears course true) (sym (at (told_in number old)))
    where
      took_kind : (kind : EntryKind) → other_kind kind ≡ Signed → kind ≡ Took
      took_kind Signed e = absurd (cc)
      took_kind Took e = refl

      filled : (n m : ℕ) → n ≡ m + 1 → nat_lt 0 n ≡ true
      filled n m e = grind (arith, nat_tests)

      accepted_is : (t : Bool) → acceptance_of number (deeds_of old.entries) ≡ cond t None (Some last) → not t ≡ is_some (acceptance_of number (deeds_of old.entries))
      accepted_is true e = sym (ap is_some e)
      accepted_is false e = sym (ap is_some e)

      never_took : (kind : EntryKind) → is_signed kind ≡ true → kind ≡ Took → ⊥
      never_took Signed e f = cc
      never_took Took e f = cc

      by_last : (from : Deed) (front : List Deed) (last : Deed) → EndsWith role number own front last → In from own → from.kind ≡ Took → mirrored from ≡ y.deed → (t : Bool) → is_signed last.kind ≡ t → other ≡ map mirrored own
          → not (proposes last.set) ≡ (course.accepted && length own == course.sets) → proposes y.deed.set ≡ not (not t && (course.accepted && length own == course.sets))
      by_last from front last e among took_it same true signed even ends = elim (in_append front (last ∷ []) from (subst (In from) e.is among)) [
        | inl before ↦ sym (ap (λ (d : Deed). proposes d.set) same) ∙ propose_in front from (front_proposes role number own front last e) before
        | inr (inl here) ↦ absurd (never_took last.kind signed (ap (λ (d : Deed). d.kind) here ∙ took_it))
        | inr (inr none) ↦ absurd none
      ]
      by_last from front last e among took_it same false taken even ends =
          let turned : is_signed (mirrored last).kind ≡ true = other_signed last.kind taken in
          let found : last_of (signed_of number (deeds_of partner.entries)) ≡ Some (mirrored last) =
          ap (λ (l : List Deed). last_of (filter (λ (d : Deed). is_signed d.kind) l)) (even ∙ ap (map mirrored) e.is ∙ map-append mirrored front (last ∷ []))
          ∙ last_signed_behind (map mirrored front) (mirrored last) turned in
          let its : mirrored last ≡ y.deed = some_deed (mirrored last) y.deed (sym found ∙ y.is) in
          sym (ap (λ (d : Deed). proposes d.set) its) ∙ sym (not_not (proposes last.set)) ∙ ap not ends
        where
          other_signed : (kind : EntryKind) → is_signed kind ≡ false → is_signed (other_kind kind) ≡ true
          other_signed Signed e = absurd (cc)
          other_signed Took e = refl

          some_deed : (a b : Deed) → (let r : Option Deed = Some a in r) ≡ Some b → a ≡ b
          some_deed a b e = cc

          not_not : (t : Bool) → not (not t) ≡ t
          not_not true = refl
          not_not false = refl

  -- this end has one more
  ahead_heard : (new : Desk) → IsBehind other own → TakesSet role text old new → Heard new
  ahead_heard new ahead step = by_end (legal_laid role old.entries number b.legal)
    where
      m : ℕ
      m = length other

      kind_back : (kind : EntryKind) → kind ≡ Signed → other_kind kind ≡ Took
      kind_back kind e = ap other_kind e

      by_end : IsLaid role number own → Heard new
      by_end (inl none) = absurd (never none)
        where
          never : own ≡ [] → ⊥
          never none = let size : length own ≡ 0 = ap length none in let more = behind_length other own ahead in omega (arith, size, more)
      by_end (inr (front, last, e)) =
          let same = last_same (map mirrored other) front ahead.last last (sym ahead.is ∙ e.is) in
          let among : In (mirrored y.deed) own = subst (In (mirrored y.deed)) (sym ahead.is) (in_left (map mirrored other) (ahead.last ∷ []) (mirrored y.deed) (in_mirror other y.deed y.among)) in
          let was = was_own (mirrored y.deed) among (kind_back y.deed.kind y.kind) (twice_mirrored y.deed) in
          let proposal : proposes y.deed.set ≡ true = propose_in front (mirrored y.deed) (front_proposes role number own front last e) (subst (In (mirrored y.deed)) same.0 (in_mirror other y.deed y.among)) in
          let count : length own ≡ m + 1 = behind_length other own ahead in
          let mine = subst (λ (k : ℕ). is_last_own role k ≡ is_signed ahead.last.kind)
          (ap (λ (l : List Deed). length l + 1) (sym same.0) ∙ sym (one_longer (map mirrored other) ahead.last) ∙ sym (ap length ahead.is) ∙ count)
          (last_is_own role front ahead.last (subst (AreInTurn (first_kind role) 0) (ahead.is ∙ ap (λ (l : List Deed). l ++ ahead.last ∷ []) same.0) turns)) in
          let side : is_last_own role (m + 1) ≡ true = mine ∙ ap is_signed ahead.signed in
          let at : (told : Told) → stand_at role (length own) m told (told_in number partner) ≡ stand (m + 1) false (is_last_own role (m + 1)) told (told_in number partner) =
          λ told. ap (λ (k : ℕ). stand_at role k m told (told_in number partner)) count ∙ ahead_stand role told (told_in number partner) m in
          known_stand new was step
          ∙ ap (λ (t : Bool). stand_at role (length own) m (cond t (met (told_in number old)) (told_in number old)) (told_in number partner)) proposal
          ∙ at (met (told_in number old))
          ∙ sym (hears_behind course (m + 1) (told_in number old) (told_in number partner) (is_last_own role (m + 1)) side)
          ∙ ap (hears course true) (sym (at (told_in number old)))
        where
          in_mirror : (deeds : List Deed) (deed : Deed) → In deed deeds → In (mirrored deed) (map mirrored deeds)
          in_mirror [] deed h = absurd h
          in_mirror (one ∷ deeds) deed (inl same) = inl (ap mirrored same)
          in_mirror (one ∷ deeds) deed (inr h) = inr (in_mirror deeds deed h)

          in_left : (xs ys : List Deed) (x : Deed) → In x xs → In x (xs ++ ys)
          in_left [] ys x h = absurd h
          in_left (z ∷ xs) ys x (inl same) = inl same
          in_left (z ∷ xs) ys x (inr h) = inr (in_left xs ys x h)

  -- the partner has one more, which is allowed here
  late_heard : (new : Desk) → IsBehind own other → TakesSet role text old new → Heard new
  late_heard new late step = by_end (legal_laid (other_role role) partner.entries number b.others)
    where
      n : ℕ
      n = length own

      some_deed : (a b : Deed) → (let r : Option Deed = Some a in r) ≡ Some b → a ≡ b
      some_deed a b e = cc

      newest : late.last ≡ y.deed
      newest = some_deed late.last y.deed (
          sym (ap (λ (l : List Deed). last_of (filter (λ (d : Deed). is_signed d.kind) l)) late.is ∙ last_signed_behind (map mirrored own) late.last (ap is_signed late.signed))
          ∙ y.is
          )

      count : length other ≡ n + 1
      count = behind_length own other late

      side : is_last_own role (n + 1) ≡ false
      side = late_side role number old.entries partner.entries b late

      heard_stand : (mine : Told) → stand_at role (n + 1) (n + 1) mine (told_in number partner) ≡ stand (n + 1) true (is_last_own role (n + 1)) mine (told_in number partner)
      heard_stand mine = even_stand role mine (told_in number partner) (n + 1) ∙ ap (λ (t : Bool). stand (n + 1) t (is_last_own role (n + 1)) mine (told_in number partner)) some
        where
          some : nat_lt 0 (n + 1) ≡ true
          some = grind (arith, nat_tests)

      taken : (length (of_delivery number (deeds_of (old.entries ++ took text ∷ [])))) ≡ n + 1
      taken =
          ap (λ (l : List Deed). length (of_delivery number l)) (deeds_more old.entries (took text) y.deed.set y.read)
          ∙ ap length (of_own number (deeds_of old.entries) (record { kind = Took; text = text; set = y.deed.set }) y.number_is)
          ∙ one_longer own (record { kind = Took; text = text; set = y.deed.set })

      by_step : StaysLegal role old.entries (took text) → TakesSet role text old new → Heard new
      by_step stays (inr (illegal, e)) = absurd (illegal stays)
      by_step stays (inl (legal, e)) =
          ap (λ (d : Desk). stand_of number role d partner) e
          ∙ ap (λ (k : ℕ). stand_at role k (length other) (told_in number old) (told_in number partner)) taken
          ∙ ap (λ (k : ℕ). stand_at role (n + 1) k (told_in number old) (told_in number partner)) count
          ∙ heard_stand (told_in number old)
          ∙ sym (hears_new course (n + 1) (told_in number old) (told_in number partner) (is_last_own role (n + 1)) side)
          ∙ ap (hears course true) (sym (ap (λ (k : ℕ). stand_at role n k (told_in number old) (told_in number partner)) count ∙ late_stand role (told_in number old) (told_in number partner) n))

      by_end : IsLaid (other_role role) number other → Heard new
      by_end (inl none) = absurd (never none)
        where
          never : other ≡ [] → ⊥
          never none = let size : length other ≡ 0 = ap length none in let more = count in omega (arith, size, more)
      by_end (inr (front, last, e)) =
          let same = last_same (map mirrored own) front late.last last (sym late.is ∙ e.is) in
          let its : last ≡ y.deed = sym same.1 ∙ newest in
          let signed : AllowsSet (other_role role) (map mirrored own) Signed y.deed.set =
          subst (λ (l : List Deed). AllowsSet (other_role role) l Signed y.deed.set) (sym same.0)
          (subst (λ (k : EntryKind). AllowsSet (other_role role) front k y.deed.set) y.kind (subst (λ (d : Deed). AllowsSet (other_role role) front d.kind d.set) its e.allowed)) in
          let here : AllowsSet role (deeds_of old.entries) Took y.deed.set =
          allowed_alike role own (deeds_of old.entries) Took y.deed.set
          (subst (λ (k : List ℕ). of_delivery k own ≡ of_delivery k (deeds_of old.entries)) (sym y.number_is) (of_twice number (deeds_of old.entries)))
          (took_of_signed role own y.deed.set signed) in
          by_step (legal_more role old.entries (took text) b.legal (record { set = y.deed.set; is_set = is_set_in text y.deed.set y.read; allowed = here; signed = tt })) step

  pub heard : (new : Desk) → TakesSet role text old new → Heard new
  heard new step = by_meeting (lists_meet role old.entries partner.entries number b)
    where
      none_there : (l : List Deed) → l ≡ [] → In y.deed l → ⊥
      none_there [] e h = h
      none_there (d ∷ l) e h = cc

      by_laid : other ≡ map mirrored own → IsLaid role number own → Heard new
      by_laid even (inl none) = absurd (none_there other (even ∙ ap (map mirrored) none) y.among)
      by_laid even (inr (front, last, e)) = even_heard new even step front last e

      by_meeting : Meet own other → Heard new
      by_meeting (inl even) = by_laid even (legal_laid role old.entries number b.legal)
      by_meeting (inr (inl ahead)) = ahead_heard new ahead step
      by_meeting (inr (inr late)) = late_heard new late step
