-- What is spoken in own turns are sets that their end signs in them, and the last one of each delivery that it had signed before.
use Rattle.std.proofs.Common.{◌≡◌, ◌≤◌, ◌-◌, ℕ, zero, suc, false, length, drop, List, [], ◌∷◌, ◌++◌, map, Option, Some, None, refl, sym, ap, subst, ◌∙◌, inl, inr, append_assoc, length-append, arith}
use Rattle.std.specs.Prelude.{All}
use Rattle.std.specs.List.{filter}
use Rattle.std.specs.Option.{option_map}
use Rattle.std.proofs.lemmas.List.Elements.{All-cons, All-nil, filter-append}
use Rattle.dsd_journal.specs.declared.entry.Entry.{Entry}
use Rattle.delivery_book.specs.Deeds.{Deed, deeds_of, is_signed, of_delivery, signed_of}
use Rattle.delivery_book.specs.Lookups.{last_of, last_signed}
use Rattle.delivery_book.proofs.Listed.{in_map}
use Rattle.delivery_book.proofs.Members.{In, to_contains}
use Rattle.own_turn.specs.DueSets.{DueSet}
use Rattle.own_turn.specs.OwnTurn.{gathered}
use Rattle.own_turn.proofs.TurnsGrowing.{turn_grows}
use Rattle.clean_sessions.specs.DeliveryStands.{AreLast}
use Rattle.clean_sessions.specs.SeatTurns.{AreOwnTurns, MeetForTurns, Seat, at_desk}
use Rattle.clean_sessions.specs.SinceLast.{IsSince, SpeakSince, desk_behind, from_last}
use Rattle.clean_sessions.proofs.AnswersDeclined.{Grows, grows_then}
use Rattle.clean_sessions.proofs.CoursesBehind.{deeds_grown}
use Rattle.clean_sessions.proofs.SeatsMeet.{meet_next}
use Rattle.clean_sessions.proofs.SessionsGrown.{both_grown}

-- ---- the last one of a front

in_drop : {X : Type 0} (k : ℕ) (front : List X) (x : X) (more : List X) → k ≤ length front → In x (drop k (front ++ x ∷ more))
in_drop zero [] x more le = inl refl
in_drop zero (y ∷ front) x more le = inr (in_drop zero front x more (omega arith))
in_drop (suc k) [] x more le = absurd (omega (arith, le))
in_drop (suc k) (y ∷ front) x more le = in_drop k front x more (omega (arith, le))

some_deed : (a b : Deed) → (let r : Option Deed = Some a in r) ≡ Some b → a ≡ b
some_deed a b e = cc

last_split : (deeds : List Deed) (deed : Deed) → last_of deeds ≡ Some deed → (front : List Deed) × (deeds ≡ front ++ deed ∷ [])
last_split [] deed e = absurd (cc)
last_split (one ∷ []) deed e = ([], ap (λ (d : Deed). d ∷ []) (some_deed one deed e))
last_split (one ∷ two ∷ deeds) deed e =
    let rest = last_split (two ∷ deeds) deed e in
    (one ∷ rest.0, ap (λ (l : List Deed). one ∷ l) rest.1)

-- ---- one set

signed_grown : (number : List ℕ) (old more : List Entry) → signed_of number (deeds_of (old ++ more)) ≡ signed_of number (deeds_of old) ++ signed_of number (deeds_of more)
signed_grown number old more =
    ap (filter (λ (d : Deed). is_signed d.kind)) (deeds_grown number old more)
    ∙ filter-append (λ (d : Deed). is_signed d.kind) (of_delivery number (deeds_of old)) (of_delivery number (deeds_of more))

module _ (old mid new : List Entry) (before : Grows old mid) (later : Grows mid new) where
  since_one : (set : DueSet) → last_signed mid set.number ≡ Some set.text → IsSince old new set
  since_one set last = by (last_of (signed_of set.number (deeds_of mid))) refl last
    where
      by : (o : Option Deed) → last_of (signed_of set.number (deeds_of mid)) ≡ o → option_map (λ (deed : Deed). deed.text) o ≡ Some set.text → IsSince old new set
      by None e f = absurd (cc)
      by (Some deed) e f =
          let text : deed.text ≡ set.text = cc in
          let split = last_split (signed_of set.number (deeds_of mid)) deed e in
          let parts : signed_of set.number (deeds_of new) ≡ split.0 ++ deed ∷ signed_of set.number (deeds_of later.0) =
          ap (λ (l : List Entry). signed_of set.number (deeds_of l)) later.1 ∙ signed_grown set.number mid later.0
          ∙ ap (λ (l : List Deed). l ++ signed_of set.number (deeds_of later.0)) split.1 ∙ append_assoc split.0 (deed ∷ []) (signed_of set.number (deeds_of later.0)) in
          let count = ap length (ap (λ (l : List Entry). signed_of set.number (deeds_of l)) before.1 ∙ signed_grown set.number old before.0) ∙ length-append (signed_of set.number (deeds_of old)) (signed_of set.number (deeds_of before.0)) in
          let size = ap length split.1 ∙ length-append split.0 (deed ∷ []) in
          let there = in_drop (length (signed_of set.number (deeds_of old)) - 1) split.0 deed (signed_of set.number (deeds_of later.0)) (omega (arith, count, size)) in
          let among : In deed (from_last (length (signed_of set.number (deeds_of old))) (signed_of set.number (deeds_of new))) =
          subst (λ (l : List Deed). In deed (drop (length (signed_of set.number (deeds_of old)) - 1) l)) (sym parts) there in
          to_contains (map (λ (d : Deed). d.text) (from_last (length (signed_of set.number (deeds_of old))) (signed_of set.number (deeds_of new)))) set.text
          (subst (λ (t : List ℕ). In t (map (λ (d : Deed). d.text) (from_last (length (signed_of set.number (deeds_of old))) (signed_of set.number (deeds_of new))))) text
          (in_map (λ (d : Deed). d.text) (from_last (length (signed_of set.number (deeds_of old))) (signed_of set.number (deeds_of new))) deed among))

  since_each : (sets : List DueSet) → AreLast mid sets → All (IsSince old new) sets
  since_each [] last = All-nil (IsSince old new)
  since_each (set ∷ more) last = All-cons (IsSince old new) set more (since_one set last.0) (since_each more last.2)

-- ---- turn after turn

pub speak_since : (turns : List (List DueSet)) (near far : Seat) (sets : List DueSet) (text : List ℕ) → MeetForTurns near far sets text → (own theirs : List Entry) → Grows own near.desk.entries → Grows theirs far.desk.entries
    → (t : AreOwnTurns turns near far text) → SpeakSince own theirs turns near far text t
speak_since [] near far sets text m own theirs g h t = tt
speak_since (first ∷ more) near far sets text m own theirs g h (desk, load, turned, is, rest) =
    let next = meet_next near far sets text m desk load turned in
    let turn = turn_grows (λ _. Unit {0}) near.header near.chooser near.desk desk text load (λ _ _. tt) turned in
    let here : Grows own desk.entries = grows_then own near.desk.entries desk.entries g (turn.added, turn.grown) in
    let later = (both_grown more far (at_desk near desk) load rest).1 in
    let last : AreLast desk.entries first = subst (AreLast desk.entries) (sym is) next.between.heard.last in (
      since_each own desk.entries (desk_behind false more far (at_desk near desk) load rest).entries here (later.added, later.grown) first last,
      speak_since more far (at_desk near desk) (gathered near.header turned.proposed) load next theirs own h here rest,
    )
