-- Drafts under the numbers of their deliveries.
use Rattle.std.proofs.Common.{◌≡◌, ℕ, ◌<◌, bytes_eq, false, List, [], ◌∷◌, ◌++◌, length, map, refl, sym, ap, subst, ◌∙◌, arith, length-append}
use Rattle.std.specs.List.{All}
use Rattle.std.specs.Map.{values_of}
use Rattle.std.proofs.lemmas.List.Elements.{All-append, All-cons, All-head, All-nil, All-tail}
use Rattle.base_record_894.specs.BaseRecord.{BaseRecord}
use Rattle.base_record_894.specs.RecordText.{IsBase}
use Rattle.dsd_record.specs.Choices.{AreDraftsApart, has_draft}
use Rattle.transaction_set.proofs.Small.{both_false}
use Rattle.plain_lines.specs.Keyed.{AreApartBy}
use Rattle.plain_lines.proofs.Keyed.{apart_more, both, pushed_is, turned_texts}
use Rattle.handheld_core.specs.DraftTexts.{AreDrafts, IsDraft, is_known, number_of, numbered}
use Rattle.handheld_core.specs.declared.draft.Draft.{Draft}

drafts_more : (drafts : List Draft) (draft : Draft) → AreDrafts drafts → IsDraft draft → is_known draft.base.number drafts ≡ false → length drafts < 200 → AreDrafts (drafts ++ draft ∷ [])
drafts_more drafts draft are right none room = record {
  each = All-append IsDraft drafts (draft ∷ []) are.each (All-cons IsDraft draft [] right (All-nil IsDraft));
  apart = apart_more bytes_eq turned_texts number_of drafts draft are.apart none;
  few = omega (arith, length-append drafts (draft ∷ []));
}

-- a map with one more is right
pub pushed_right : (after : List (List ℕ × Draft)) (old : List Draft) (draft : Draft) → after ≡ numbered (old ++ draft ∷ []) → AreDrafts old → IsDraft draft
    → is_known draft.base.number old ≡ false → length old < 200 → (after ≡ numbered (values_of after)) × AreDrafts (values_of after)
pushed_right after old draft is are right none room =
    let new : values_of after ≡ old ++ draft ∷ [] = pushed_is bytes_eq turned_texts number_of after (old ++ draft ∷ []) is in
    (is ∙ ap numbered (sym new), subst AreDrafts (sym new) (drafts_more old draft are right none room))

-- ---- their base records

abbrev bases : List Draft → List BaseRecord
bases drafts = map (λ (draft : Draft). draft.base) drafts

pub bases_spelled : (drafts : List Draft) → All IsDraft drafts → All IsBase (bases drafts)
bases_spelled [] each = All-nil IsBase
bases_spelled (draft ∷ drafts) each = All-cons IsBase draft.base (bases drafts) (All-head IsDraft draft drafts each).base (bases_spelled drafts (All-tail IsDraft draft drafts each))

none_among : (number : List ℕ) (drafts : List Draft) → is_known number drafts ≡ false → has_draft number (bases drafts) ≡ false
none_among number [] none = refl
none_among number (draft ∷ drafts) none =
    let is = both bytes_eq turned_texts number_of number draft drafts none in
    both_false (bytes_eq draft.base.number number) (has_draft number (bases drafts)) (turned_texts number draft.base.number is.here) (none_among number drafts is.behind)

pub bases_apart : (drafts : List Draft) → AreApartBy bytes_eq number_of drafts → AreDraftsApart (bases drafts)
bases_apart [] apart = tt
bases_apart (draft ∷ drafts) apart = (none_among draft.base.number drafts apart.0, bases_apart drafts apart.1)
