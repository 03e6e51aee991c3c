-- Two lists with as many sets of a delivery have the same ones, and an acceptance among these is final in both.
use Rattle.std.proofs.Common.{◌≡◌, ◌≤◌, ℕ, Bool, true, false, not, ◌&&◌, ◌||◌, cond, is_none, is_some, length, Option, Some, None, List, [], ◌∷◌, ◌++◌, map, refl, sym, ap, ◌∙◌, inl, inr, arith}
use Rattle.dsd_values.specs.declared.role.Role.{Role}
use Rattle.dsd_record.specs.Version.{Version}
use Rattle.dsd_journal.specs.declared.entry.Entry.{Entry}
use Rattle.dsd_journal.specs.declared.entry.EntryKind.{EntryKind}
use Rattle.dsd_journal.specs.declared.entry.EntryKind.TheVariants.{Signed, Took}
use Rattle.delivery_book.specs.Deeds.{Deed, deeds_of, is_signed, of_delivery, other_kind, other_role, proposes}
use Rattle.delivery_book.specs.Finals.{final_of}
use Rattle.delivery_book.specs.Lookups.{awaits_us}
use Rattle.delivery_book.specs.Signing.{Legal}
use Rattle.clean_sessions.specs.DeliveryStands.{AreBacked, sets_in}
use Rattle.clean_sessions.specs.Settled.{IsSettled, texts_in}
use Rattle.clean_sessions.proofs.CoursesBehind.{accepts_in, accepts_mirrored}
use Rattle.clean_sessions.proofs.DeedsInTurn.{legal_turns}
use Rattle.clean_sessions.proofs.LastDeeds.{IsLaid, acceptance_is_last, awaits_last, legal_laid}
use Rattle.clean_sessions.proofs.OneLonger.{last_same}
use Rattle.std.proofs.lemmas.List.{length-map, map-append}
use Rattle.clean_sessions.proofs.DueStands.{final_none}
use Rattle.clean_sessions.proofs.Meetings.{Meet, behind_length, lists_meet}
use Rattle.clean_sessions.proofs.MirroredDeeds.{mirrored}

texts_mirrored : (deeds : List Deed) → map (λ (d : Deed). d.text) (map mirrored deeds) ≡ map (λ (d : Deed). d.text) deeds
texts_mirrored [] = refl
texts_mirrored (deed ∷ deeds) = ap (λ (l : List (List ℕ)). deed.text ∷ l) (texts_mirrored deeds)

some_where : (o : Option Version) (b : Bool) → is_none o ≡ not b → is_some o ≡ b
some_where None true e = absurd (cc)
some_where None false e = refl
some_where (Some version) true e = refl
some_where (Some version) false e = absurd (cc)

pub settled_turned : (number : List ℕ) (one other : List Entry) → IsSettled number one other → IsSettled number other one
settled_turned number one other s = record {
  same = sym s.same;
  accepted = sym s.accepted;
  final = s.their_final;
  their_final = s.final;
  awaits = λ none some. or_turned (awaits_us one number) (awaits_us other number) (s.awaits (s.accepted ∙ none) (as_many (ap length s.same) some));
}
  where
    or_turned : (a b : Bool) → (a || b) ≡ true → (b || a) ≡ true
    or_turned true true e = refl
    or_turned true false e = refl
    or_turned false b e = ap (λ (c : Bool). c || false) e

    as_many : length (texts_in number one) ≡ length (texts_in number other) → 1 ≤ sets_in number other → 1 ≤ sets_in number one
    as_many e some =
        let a = length-map (of_delivery number (deeds_of one)) (λ (d : Deed). d.text) in
        let b = length-map (of_delivery number (deeds_of other)) (λ (d : Deed). d.text) in
        omega (arith, a, b, e, some)

module _ (role : Role) (number : List ℕ) (one other : List Entry) (b : AreBacked role one other) (even : sets_in number one ≡ sets_in number other) where
  abbrev mine : List Deed
  mine = of_delivery number (deeds_of one)

  abbrev theirs : List Deed
  theirs = of_delivery number (deeds_of other)

  pub mirrors : theirs ≡ map mirrored mine
  mirrors = by (lists_meet role one other number b)
    where
      by : Meet mine theirs → theirs ≡ map mirrored mine
      by (inl e) = e
      by (inr (inl ahead)) = let more = behind_length theirs mine ahead in absurd (omega (arith, even, more))
      by (inr (inr late)) = let more = behind_length mine theirs late in absurd (omega (arith, even, more))

  final_there : (side : Role) (entries : List Entry) → Legal side entries → is_some (final_of entries number) ≡ accepts_in (of_delivery number (deeds_of entries))
  final_there side entries legal = some_where (final_of entries number) (accepts_in (of_delivery number (deeds_of entries))) (final_none side number entries legal)

  proposes_last : (t : Bool) (last : Deed) → is_some (cond t None (Some last)) ≡ false → t ≡ true
  proposes_last true last e = refl
  proposes_last false last e = absurd (cc)

  either_side : (kind : EntryKind) → ((not (is_signed kind) && true) || (not (is_signed (other_kind kind)) && true)) ≡ true
  either_side Signed = refl
  either_side Took = refl

  -- of a last proposal one end has signed it, and the other awaits it
  awaits_one : accepts_in mine ≡ false → 1 ≤ length mine → (awaits_us one number || awaits_us other number) ≡ true
  awaits_one none some = by (legal_laid role one number b.legal) (legal_laid (other_role role) other number b.others)
    where
      by : IsLaid role number mine → IsLaid (other_role role) number theirs → (awaits_us one number || awaits_us other number) ≡ true
      by (inl empty) laid = let size = ap length empty in absurd (omega (arith, size, some))
      by (inr (front, last, w)) (inl empty) = let size = ap length empty in absurd (omega (arith, size, even, some))
      by (inr (front, last, w)) (inr (others, their_last, v)) =
          let turned : theirs ≡ map mirrored front ++ mirrored last ∷ [] = mirrors ∙ ap (map mirrored) w.is ∙ map-append mirrored front (last ∷ []) in
          let same = last_same (map mirrored front) others (mirrored last) their_last (sym turned ∙ v.is) in
          let proposal : proposes last.set ≡ true = proposes_last (proposes last.set) last (sym (ap is_some (acceptance_is_last role number one front last w)) ∙ none) in
          let here : awaits_us one number ≡ (not (is_signed last.kind) && true) =
          awaits_last role number one (legal_turns role one number b.legal) front last w ∙ ap (λ (t : Bool). not (is_signed last.kind) && t) proposal in
          let there : awaits_us other number ≡ (not (is_signed (other_kind last.kind)) && true) =
          awaits_last (other_role role) number other (legal_turns (other_role role) other number b.others) others their_last v
          ∙ ap (λ (d : Deed). not (is_signed d.kind) && proposes d.set) (sym same.1) ∙ ap (λ (t : Bool). not (is_signed (other_kind last.kind)) && t) proposal in
          ap (λ (t : Bool). t || awaits_us other number) here ∙ ap (λ (t : Bool). (not (is_signed last.kind) && true) || t) there ∙ either_side last.kind

  pub settled : IsSettled number one other
  settled = record {
    same = sym (ap (map (λ (d : Deed). d.text)) mirrors ∙ texts_mirrored mine);
    accepted = sym (ap accepts_in mirrors ∙ accepts_mirrored mine);
    final = final_there role one b.legal;
    their_final = final_there _ other b.others;
    awaits = awaits_one;
  }
