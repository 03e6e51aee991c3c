-- The signed texts of legal entries can go out.
use Rattle.std.proofs.Common.{◌≡◌, ℕ, ◌≤◌, List, [], ◌∷◌, ◌++◌, length, Option, Some, None, refl, sym, ◌∙◌, ap, subst, inl, inr, arith, append_assoc, length-append, bytes_eq}
use Rattle.std.specs.Option.{option_map}
use Rattle.dsd_values.specs.declared.role.Role.{Role}
use Rattle.segments.specs.SetUnits.{IsSetText}
use Rattle.segments.specs.declared.segment_writer.TheConstants.{MOST_CONTROL_NUMBER}
use Rattle.base_record_894.proofs.OneRecord.{is_base}
use Rattle.base_record_894.proofs.WrittenBack.{written_back as base_back}
use Rattle.adjustment_895.proofs.OneAnswer.{is_answer}
use Rattle.adjustment_895.proofs.WrittenBack.{written_back as answer_back}
use Rattle.dsd_record.specs.SetTexts.{IsSet}
use Rattle.dsd_record.specs.declared.set_view.SetView.{SetView}
use Rattle.dsd_record.specs.declared.set_view.SetView.TheVariants as sets
use Rattle.dsd_journal.specs.declared.entry.Entry.{Entry}
use Rattle.dsd_journal.specs.declared.entry.EntryKind.{EntryKind}
use Rattle.dsd_journal.specs.declared.entry.EntryKind.TheVariants.{Signed}
use Rattle.dsd_journal.specs.declared.limits.TheConstants.{MOST_ENTRIES}
use Rattle.delivery_book.specs.Deeds.{Deed, deeds_of, is_signed, number_in, of_delivery, signed_of, signed_texts}
use Rattle.delivery_book.specs.Lookups.{last_of, last_signed}
use Rattle.delivery_book.specs.Signing.{AllowsKind, IsWritten, Legal, LegalFrom, next_control}
use Rattle.delivery_book.proofs.Listed.{map_in, signed_kind, signed_text, text_in}
use Rattle.delivery_book.proofs.Members.{In, filter_in, from_contains}
use Rattle.delivery_book.proofs.Rebuilt.{signed_few}

-- ---- what is written of a set

written_set : (set : SetView) (control : ℕ) (text : List ℕ) → control ≤ MOST_CONTROL_NUMBER → IsSet set text → IsWritten set control text → IsSetText text
written_set (sets.Base base seal) control text small is written = (base_back base control text small (is_base text base seal is) written).set
written_set (sets.Answer answer seal) control text small is written = (answer_back answer control text small (is_answer text answer seal is) written).set

-- ---- each signed entry

entry_text : (role : Role) (before entries : List Entry) (entry : Entry) → LegalFrom role before entries → length (before ++ entries) ≤ MOST_ENTRIES → In entry entries → entry.kind ≡ Signed → IsSetText entry.payload
entry_text role before [] entry legal few none signed = absurd none
entry_text role before (first ∷ entries) entry (allowed, legal) few (inl same) signed =
    let kind : first.kind ≡ Signed = ap (λ (e : Entry). e.kind) same ∙ signed in
    let right = subst (λ (k : EntryKind). AllowsKind k role before allowed.set first.payload) kind allowed.signed in
    let small : next_control before ≤ MOST_CONTROL_NUMBER = omega (arith, signed_few before, few, length-append before (first ∷ entries)) in
    subst (λ (e : Entry). IsSetText e.payload) same (written_set allowed.set (next_control before) first.payload small allowed.is_set right.written)
entry_text role before (first ∷ entries) entry (allowed, legal) few (inr among) signed =
    entry_text role (before ++ first ∷ []) entries entry legal (subst (λ (l : List Entry). length l ≤ MOST_ENTRIES) (sym (append_assoc before (first ∷ []) entries)) few) among signed

-- ---- the last one of a delivery

last_in : (deeds : List Deed) (deed : Deed) → last_of deeds ≡ Some deed → In deed deeds
last_in [] deed e = cc
last_in (one ∷ []) deed e = inl (some_same one deed e)
  where
    some_same : (a b : Deed) → Some a ≡ Some b → a ≡ b
    some_same a b h = cc
last_in (one ∷ next ∷ deeds) deed e = inr (last_in (next ∷ deeds) deed e)

module _ (role : Role) (entries : List Entry) (legal : Legal role entries) (few : length entries ≤ MOST_ENTRIES) where
  deed_text : (number text : List ℕ) (o : Option Deed) → last_of (signed_of number (deeds_of entries)) ≡ o → option_map (λ (deed : Deed). deed.text) o ≡ Some text → IsSetText text
  deed_text number text None e is = cc
  deed_text number text (Some deed) e is =
      let own = filter_in (λ (d : Deed). is_signed d.kind) (of_delivery number (deeds_of entries)) deed (last_in (signed_of number (deeds_of entries)) deed e) in
      let among = (filter_in (λ (d : Deed). bytes_eq (number_in d.set) number) (deeds_of entries) deed own.among).among in
      let image = map_in text_in _ deed.text (from_contains (signed_texts entries) deed.text (signed_text entries deed among (signed_kind deed.kind own.holds))) in
      let entry = filter_in (λ (x : Entry). is_signed x.kind) entries image.from image.among in
      let same : deed.text ≡ text = cc in
      subst IsSetText (image.same ∙ same) (entry_text role [] entries image.from legal few entry.among (signed_kind image.from.kind entry.holds))

  pub last_set : (number text : List ℕ) → last_signed entries number ≡ Some text → IsSetText text
  last_set number text e = deed_text number text (last_of (signed_of number (deeds_of entries))) refl e
