-- What an end signs of a delivery is a set of it.
use Rattle.std.proofs.Common.{◌≡◌, ◌≤◌, ◌<◌, ◌+◌, ◌^◌, ℕ, Bool, true, false, not, List, [], ◌∷◌, Option, Some, Ok, refl, sym, ap, subst, ◌∙◌, inl, inr, arith}
use Rattle.std.specs.Prelude.{All, if◌then◌else◌}
use Rattle.std.specs.Option.{option_and_then}
use Rattle.std.proofs.lemmas.List.Elements.{All-head, All-tail}
use Rattle.dsd_values.specs.SignatureRecord.{SignatureRecord}
use Rattle.dsd_values.specs.declared.line.Line.{Line}
use Rattle.dsd_values.specs.declared.role.Role.{Role}
use Rattle.dsd_pricing.specs.declared.amounts.Totals.{Totals}
use Rattle.transaction_set.specs.declared.seal.Seal.{Seal}
use Rattle.base_record_894.specs.BaseRecord.{BaseRecord}
use Rattle.base_record_894.specs.RecordText.{IsBase}
use Rattle.adjustment_895.specs.AnswerRecord.{AnswerRecord}
use Rattle.adjustment_895.specs.Grammar.{has_none}
use Rattle.adjustment_895.specs.WrittenText.{written_of}
use Rattle.dsd_record.specs.Chain.{version_of}
use Rattle.dsd_record.specs.Choices.{Chooser}
use Rattle.dsd_record.specs.SetTexts.{IsSet}
use Rattle.dsd_record.specs.Version.{IsVersion, Version}
use Rattle.dsd_record.specs.declared.choice.Choice.{Choice}
use Rattle.dsd_record.specs.declared.choice.Choice.TheVariants.{Accept, Adjust, Wait}
use Rattle.dsd_record.specs.declared.set_view.SetView.{SetView}
use Rattle.dsd_record.specs.declared.set_view.SetView.TheVariants as sets
use Rattle.dsd_record.proofs.ReadOnce.{is_set_in, set_in_is}
use Rattle.dsd_journal.specs.declared.entry.Entry.{Entry}
use Rattle.dsd_journal.specs.declared.entry.EntryKind.TheVariants.{Signed}
use Rattle.delivery_book.specs.Answering.{answer_to}
use Rattle.delivery_book.specs.Deeds.{Deed, deeds_of, level_in}
use Rattle.delivery_book.specs.Lookups.{awaits_us, own_amount, seen_of}
use Rattle.delivery_book.specs.Signing.{AllowsSet, Legal, SignsRightly, next_control}
use Rattle.delivery_book.specs.Standing.{highest_of, version_at}
use Rattle.delivery_book.proofs.Grown.{legal_founded, legal_last}
use Rattle.delivery_book.proofs.Members.{In, from_contains}
use Rattle.delivery_book.proofs.Standings.{highest_is}
use Rattle.own_turn.specs.Choosing.{AnswersBy, accepts}
use Rattle.own_turn.specs.OwnTurn.{MayAnswer, MayPropose, StaysLegal, is_acceptance, signed}
use Rattle.own_turn.proofs.Answering.{awaits_known}
use Rattle.own_turn.proofs.Heads.{sets_apart, ten_apart}
use Rattle.clean_sessions.specs.DeliveryStands.{IsOwnSet, SignsSets}
use Rattle.clean_sessions.proofs.DeedsOfBoth.{all_read}
use Rattle.clean_sessions.proofs.HearingTurns.{read_in}
use Rattle.clean_sessions.proofs.NumberTexts.{IsNumber, answer_number, base_number, set_number}
use Rattle.clean_sessions.proofs.SealChecks.{set_check}
use Rattle.clean_sessions.proofs.SeenVersions.{legal_right}
use Rattle.clean_sessions.proofs.SpareTurns.{level_low, set_low}
use Rattle.clean_sessions.proofs.WrittenHeads.{answers_same, bases_same}

some_same : {X : Type 0} (a b : X) → (let r : Option X = Some a in r) ≡ Some b → a ≡ b
some_same a b e = cc

-- ---- the version that is answered

pub record IsSeenAt (number : List ℕ) (entries : List Entry) (version : Version) : Type 0 where
  pub top : Deed
  pub is : highest_of number (deeds_of entries) ≡ Some top
  pub level : version.level ≡ level_in top.set
  pub its : version.number ≡ number
  pub low : level_in top.set ≤ 9
  pub number_is : IsNumber number
  pub check : version.check < 2 ^ 16
  pub right : IsVersion version

pub seen_at : (role : Role) (number : List ℕ) (entries : List Entry) (version : Version) → Legal role entries → awaits_us entries number ≡ true → seen_of entries number ≡ Some version → IsSeenAt number entries version
seen_at role number entries version legal awaits seen =
    let known = awaits_known entries number awaits in
    let deeds = deeds_of entries in
    let h = highest_is number deeds known.0 known.1 in
    let end = (legal_founded role entries legal).ends known.0 h.is.among h.is.proposes in
    let here : version_at deeds known.0 ≡ Some version = sym (ap (option_and_then (version_at deeds)) known.1) ∙ seen in
    let same : version ≡ end.version = some_same version end.version (sym here ∙ ap (option_and_then version_of) end.to ∙ end.made) in
    let text = is_set_in known.0.text known.0.set (read_in deeds known.0 (all_read entries) h.is.among) in
    record {
      top = known.0;
      is = known.1;
      level = ap (λ (v : Version). v.level) same ∙ end.level;
      its = ap (λ (v : Version). v.number) same ∙ end.number ∙ h.is.number;
      low = set_low known.0.set known.0.text text;
      number_is = subst IsNumber h.is.number (set_number known.0.set known.0.text text);
      check = subst (λ (n : ℕ). n < 2 ^ 16) (sym (ap (λ (v : Version). v.check) same ∙ end.check)) (set_check known.0.set known.0.text text);
      right = legal_right role entries legal known.0 h.is.among h.is.proposes version here;
    }

-- ---- one answer

level_of_lines : (t u : Bool) (n : ℕ) → (if t then n else n + 1) ≡ (if u then n else n + 1) → t ≡ u
level_of_lines true true n e = refl
level_of_lines false false n e = refl
level_of_lines true false n e = absurd (omega (arith, e))
level_of_lines false true n e = absurd (omega (arith, e))

level_most : (t : Bool) (n : ℕ) → n ≤ 9 → (if t then n else n + 1) ≤ 10
level_most true n le = omega (arith, le)
level_most false n le = omega (arith, le)

below_ten : (n : ℕ) → n ≤ 10 → (n ≡ 10 → ⊥) → n < 10
below_ten n le other = omega (arith, le, other)

module _ (role : Role) (entries : List Entry) (number text : List ℕ) (legal : Legal role entries) (stays : StaysLegal role entries (signed text)) (version : Version) (seen : IsSeenAt number entries version)
    (lines : List Line) (totals : Totals) (signature : SignatureRecord) (written : written_of (answer_to role version lines totals signature) (next_control entries) ≡ Ok text) where
  abbrev answer : AnswerRecord
  answer = answer_to role version lines totals signature

  own_number : IsNumber answer.number
  own_number = subst IsNumber (sym seen.its) seen.number_is

  answer_level : answer.level ≡ (if has_none lines then level_in seen.top.set else level_in seen.top.set + 1)
  answer_level = ap (λ (n : ℕ). if has_none lines then n else n + 1) seen.level

  low_by : (other : AnswerRecord) (seal : Seal) → IsSet (sets.Answer other seal) text → written_of other (next_control entries) ≡ Ok text → answer.level < 10
  low_by other seal is right =
      let lower = level_low other seal text is in
      let plain = answer_number other seal text is in
      let high : answer.level ≤ 10 = subst (λ (n : ℕ). n ≤ 10) (sym answer_level) (level_most (has_none lines) (level_in seen.top.set) seen.low) in
      below_ten answer.level high (λ ten. ten_apart answer other (next_control entries) text written right ten (omega (arith, lower)) own_number.plain plain.plain)

  low_set : (set : SetView) → IsSet set text → SignsRightly role entries set text → answer.level < 10
  low_set (sets.Base base seal) is right = absurd (sets_apart base answer (next_control entries) (next_control entries) text right.written written)
  low_set (sets.Answer other seal) is right = low_by other seal is right.written

  pub own_level : answer.level < 10
  own_level = let a = legal_last role entries (signed text) stays in low_set a.set a.is_set a.signed

  by_set : (set : SetView) → IsSet set text → AllowsSet role (deeds_of entries) Signed set → SignsRightly role entries set text → IsOwnSet number (has_none lines) text
  by_set (sets.Base base seal) is allowed right = absurd (sets_apart base answer (next_control entries) (next_control entries) text right.written written)
  by_set (sets.Answer other seal) is allowed right =
      let lower = level_low other seal text is in
      let plain = answer_number other seal text is in
      let same = answers_same answer other (next_control entries) text written right.written (low_by other seal is right.written) (omega (arith, lower)) own_number plain in
      let its : other.number ≡ number = sym same.0 ∙ seen.its in
      let top : allowed.highest ≡ seen.top = some_same allowed.highest seen.top (sym allowed.is_highest ∙ ap (λ (n : List ℕ). highest_of n (deeds_of entries)) its ∙ seen.is) in
      let levels : (if has_none lines then level_in seen.top.set else level_in seen.top.set + 1) ≡ (if has_none other.lines then level_in seen.top.set else level_in seen.top.set + 1) =
      sym answer_level ∙ same.1 ∙ allowed.named.level ∙ ap (λ (d : Deed). if has_none other.lines then level_in d.set else level_in d.set + 1) top in
      record {
        set = sets.Answer other seal;
        read = set_in_is text (sets.Answer other seal) is;
        its = its;
        proposes = ap not (sym (level_of_lines (has_none lines) (has_none other.lines) (level_in seen.top.set) levels));
      }

  own_answer : IsOwnSet number (has_none lines) text
  own_answer = let a = legal_last role entries (signed text) stays in by_set a.set a.is_set a.allowed a.signed

-- ---- a chosen answer

module _ (role : Role) (chooser : Chooser) (entries : List Entry) (number text : List ℕ) (legal : Legal role entries) (may : MayAnswer role chooser entries number text) where
  at : (version : Version) → seen_of entries number ≡ Some version → IsSeenAt number entries version
  at version seen = seen_at role number entries version legal may.chosen.awaits seen

  by_choice : (choice : Choice) → AnswersBy choice role entries number may.chosen.signature text → IsOwnSet number (accepts choice) text
  by_choice Accept a = own_answer role entries number text legal may.legal a.version (at a.version a.seen) [] a.version.totals may.chosen.signature a.written
  by_choice (Adjust []) a = absurd a
  by_choice (Adjust (line ∷ lines)) a = own_answer role entries number text legal may.legal a.version (at a.version a.seen) (line ∷ lines) a.totals may.chosen.signature a.written
  by_choice Wait a = absurd a

  chosen_set : IsOwnSet number (is_acceptance chooser entries number may.chosen.version) text
  chosen_set = by_choice (chooser.choice may.chosen.version (own_amount entries number)) may.chosen.answers

-- ---- a draft

pub each_base : (drafts : List BaseRecord) (draft : BaseRecord) → All IsBase drafts → In draft drafts → IsBase draft
each_base [] draft all h = absurd h
each_base (one ∷ drafts) draft all (inl same) = subst IsBase same (All-head IsBase one drafts all)
each_base (one ∷ drafts) draft all (inr h) = each_base drafts draft (All-tail IsBase one drafts all) h

module _ (role : Role) (chooser : Chooser) (entries : List Entry) (draft : BaseRecord) (text : List ℕ) (bases : All IsBase chooser.drafts) (may : MayPropose role chooser entries draft text) where
  draft_set : (set : SetView) → IsSet set text → SignsRightly role entries set text → IsOwnSet draft.number false text
  draft_set (sets.Answer answer seal) is right = absurd (sets_apart draft answer (next_control entries) (next_control entries) text may.chosen.written right.written)
  draft_set (sets.Base base seal) is right =
      let own = each_base chooser.drafts draft bases (from_contains chooser.drafts draft may.chosen.among) in
      record {
        set = sets.Base base seal;
        read = set_in_is text (sets.Base base seal) is;
        its = bases_same base draft (next_control entries) text right.written may.chosen.written (base_number base seal is.amount is.segments is.shape) (base_number draft own.seal own.amount own.segments own.shape);
        proposes = refl;
      }

  proposed_set : IsOwnSet draft.number false text
  proposed_set = let a = legal_last role entries (signed text) may.legal in draft_set a.set a.is_set a.signed

pub signs_sets : (role : Role) (chooser : Chooser) → All IsBase chooser.drafts → SignsSets role chooser
signs_sets role chooser bases = record {
  answers = λ entries number text legal may. chosen_set role chooser entries number text legal may;
  drafts = λ entries draft text legal may. proposed_set role chooser entries draft text bases may;
}
