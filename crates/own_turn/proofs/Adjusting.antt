-- Where an adjustment may be signed, there is a level left, and where a draft may be, it is the supplier's.
use Rattle.std.proofs.Common.{◌≡◌, ℕ, ◌+◌, ◌<◌, ◌≤◌, position, nat_lt, Bool, true, false, if◌then◌else◌, List, [], ◌∷◌, length, Option, Some, None, Result, Ok, refl, sym, ◌∙◌, ap, subst, inl, inr, arith}
use Rattle.std.specs.List.{cons_option}
use Rattle.std.specs.Option.{option_and_then}
use Rattle.std.proofs.lemmas.Bool.{ltb-false}
use Rattle.dsd_values.specs.Reading.{IsNumberText, is_no_number_byte, level_of}
use Rattle.dsd_values.specs.declared.delivery_number.TheConstants.{DELIVERY_NUMBER_BYTES}
use Rattle.dsd_values.specs.SignatureRecord.{SignatureRecord}
use Rattle.dsd_values.specs.declared.level.TheConstants.Level.{MAX as HIGHEST}
use Rattle.dsd_values.specs.declared.line.Line.{Line}
use Rattle.dsd_values.specs.declared.role.Role.{Role}
use Rattle.dsd_values.specs.declared.role.Role.TheVariants.{Receiver, Supplier}
use Rattle.dsd_values.specs.declared.fault.ValueFault.{ValueFault}
use Rattle.dsd_values.proofs.Laws.{number_spelled}
use Rattle.dsd_values.proofs.Refusals.{filled_ok}
use Rattle.segments.specs.Views.{Seg, element_of}
use Rattle.transaction_set.specs.declared.seal.Seal.{Seal}
use Rattle.base_record_894.specs.BaseRecord.{BaseRecord}
use Rattle.base_record_894.specs.WrittenText.{written_of as base_written}
use Rattle.adjustment_895.specs.AnswerRecord.{AnswerRecord}
use Rattle.adjustment_895.specs.AnswerText.{Is895}
use Rattle.adjustment_895.specs.Grammar.{AreSegments, IsHead, has_none}
use Rattle.dsd_record.specs.Chain.{version_of}
use Rattle.dsd_record.specs.ReadSets.{set_in}
use Rattle.dsd_record.specs.SetTexts.{IsSet}
use Rattle.dsd_record.specs.Version.{Version}
use Rattle.dsd_record.specs.declared.set_view.SetView.{SetView}
use Rattle.dsd_record.specs.declared.set_view.SetView.TheVariants as sets
use Rattle.dsd_record.proofs.ReadOnce.{is_set_in}
use Rattle.dsd_journal.specs.declared.entry.Entry.{Entry}
use Rattle.dsd_journal.specs.declared.entry.EntryKind.TheVariants.{Signed}
use Rattle.delivery_book.specs.Answering.{IsAdjustment, answer_to}
use Rattle.delivery_book.specs.Deeds.{Deed, deed_with, deeds_of, level_in}
use Rattle.delivery_book.specs.Lookups.{awaits_us, seen_of}
use Rattle.delivery_book.specs.Refusals.{adjust_fault, by, propose_fault, top_level, write_fault}
use Rattle.delivery_book.specs.Signing.{AllowsSet, Legal, SignsRightly, next_control}
use Rattle.delivery_book.specs.Standing.{IsNew, highest_of, version_at}
use Rattle.delivery_book.specs.declared.fault.RuleFault.{RuleFault}
use Rattle.delivery_book.specs.declared.fault.RuleFault.TheVariants.{AlreadySigned}
use Rattle.delivery_book.proofs.Grown.{legal_founded, legal_last}
use Rattle.delivery_book.proofs.Members.{In}
use Rattle.delivery_book.proofs.Standings.{highest_is}
use Rattle.delivery_book.proofs.TakeExact.{both_none, new_highest}
use Rattle.own_turn.specs.OwnTurn.{Desk, StaysLegal, signed}
use Rattle.own_turn.specs.Staging.{ProposesDraft}
use Rattle.own_turn.proofs.Answering.{adjust_free, awaits_known}
use Rattle.own_turn.proofs.Heads.{sets_apart, ten_apart}

-- ---- what an answer that is read states

head_of : (answer : AnswerRecord) (seal : Seal) (segs : List Seg) → AreSegments answer seal segs → (seg : Seg) × IsHead answer seg
head_of answer seal [] s = absurd s
head_of answer seal (one ∷ []) (_, _, s) = absurd s
head_of answer seal (one ∷ two ∷ segs) (_, _, (_, h, _)) = (two, h)

level_low : (answer : AnswerRecord) (seal : Seal) (text : List ℕ) → Is895 answer seal text → answer.level ≤ 9
level_low answer seal text is =
    let head = head_of answer seal is.segments is.shape in
    let part = element_of head.0 5 in
    ((number_spelled 0 HIGHEST part (level_of part) refl answer.level).0 head.1.level).at_most

number_plain : (answer : AnswerRecord) (seal : Seal) (text : List ℕ) → Is895 answer seal text → IsNumberText answer.number
number_plain answer seal text is =
    let head = head_of answer seal is.segments is.shape in
    let part = element_of head.0 3 in
    let number = filled_ok (List ℕ) DELIVERY_NUMBER_BYTES (position is_no_number_byte part) part (Ok part) answer.number head.1.number in
    let same : part ≡ answer.number = ok_same part answer.number number.is in
    subst IsNumberText same number.none
  where
    ok_same : (a b : List ℕ) → (let r : Result (List ℕ) ValueFault = Ok a in r) ≡ Ok b → a ≡ b
    ok_same a b e = cc

set_low : (set : SetView) (text : List ℕ) → IsSet set text → level_in set ≤ 9
set_low (sets.Base base seal) text is = omega arith
set_low (sets.Answer answer seal) text is = level_low answer seal text is

-- ---- a deed is read from its text

deed_at : (entry : Entry) (deeds : List Deed) (deed : Deed) (o : Option SetView) → set_in entry.payload ≡ o → In deed (cons_option (deed_with entry o) deeds) → (In deed deeds → set_in deed.text ≡ Some deed.set) → set_in deed.text ≡ Some deed.set
deed_at entry deeds deed None e among later = later among
deed_at entry deeds deed (Some set) e (inl same) later = subst (λ (d : Deed). set_in d.text ≡ Some d.set) same e
deed_at entry deeds deed (Some set) e (inr among) later = later among

deed_read : (entries : List Entry) (deed : Deed) → In deed (deeds_of entries) → set_in deed.text ≡ Some deed.set
deed_read [] deed among = absurd among
deed_read (entry ∷ entries) deed among = deed_at entry (deeds_of entries) deed (set_in entry.payload) refl among (deed_read entries deed)

-- ---- an adjustment has a level

some_same : (a b : Version) → Some a ≡ Some b → a ≡ b
some_same a b e = cc

filled_level : (lines : List Line) (level : ℕ) → 0 < length lines → (if has_none lines then level else level + 1) ≡ level + 1
filled_level [] level some = absurd (omega (arith, some))
filled_level (line ∷ lines) level some = refl

module _ (role : Role) (entries : List Entry) (number : List ℕ) (lines : List Line) (signature : SignatureRecord) (text : List ℕ) (legal : Legal role entries) (awaits : awaits_us entries number ≡ true) (plain : IsNumberText number)
    (some : 0 < length lines) (made : IsAdjustment role entries number lines signature text) (stays : StaysLegal role entries (signed text)) where
  abbrev answer : AnswerRecord
  answer = answer_to role made.version lines made.totals signature

  top_of : (top : Deed) × (highest_of number (deeds_of entries) ≡ Some top)
  top_of = awaits_known entries number awaits

  -- the version is that of the highest proposal
  version_top : (top : Deed) → highest_of number (deeds_of entries) ≡ Some top → (made.version.level ≡ level_in top.set) × (made.version.number ≡ number) × (level_in top.set ≤ 9)
  version_top top is =
      let deeds = deeds_of entries in
      let h = highest_is number deeds top is in
      let end = (legal_founded role entries legal).ends top h.is.among h.is.proposes in
      let here : version_at deeds top ≡ Some made.version = sym (ap (option_and_then (version_at deeds)) is) ∙ made.seen in
      let same : made.version ≡ end.version = some_same made.version end.version (sym here ∙ ap (option_and_then version_of) end.to ∙ end.made) in (
        ap (λ (v : Version). v.level) same ∙ end.level,
        ap (λ (v : Version). v.number) same ∙ end.number ∙ h.is.number,
        set_low top.set top.text (is_set_in top.text top.set (deed_read entries top h.is.among)),
      )

  -- at the highest level the list would not stay legal
  no_level : made.version.level ≡ 9 → made.version.number ≡ number → ⊥
  no_level level same =
      let allows = legal_last role entries (signed text) stays in
      let ten : answer.level ≡ 10 = filled_level lines made.version.level some ∙ ap (λ (n : ℕ). n + 1) level in
      at ten allows.set allows.is_set allows.signed
    where
      at : answer.level ≡ 10 → (set : SetView) → IsSet set text → SignsRightly role entries set text → ⊥
      at ten (sets.Base base seal) is right = sets_apart base answer (next_control entries) (next_control entries) text right.written made.written
      at ten (sets.Answer other seal) is right =
          let low = level_low other seal text is in
          ten_apart answer other (next_control entries) text made.written right.written ten (omega (arith, low)) (subst IsNumberText (sym same) plain) (number_plain other seal text is)

  pub level_left : nat_lt (top_level (highest_of number (deeds_of entries))) HIGHEST ≡ true
  level_left = at (nat_lt (level_in top_of.0.set) HIGHEST) refl
    where
      at : (b : Bool) → nat_lt (level_in top_of.0.set) HIGHEST ≡ b → nat_lt (top_level (highest_of number (deeds_of entries))) HIGHEST ≡ true
      at true e = ap (λ (o : Option Deed). nat_lt (top_level o) HIGHEST) top_of.1 ∙ e
      at false e =
          let top = version_top top_of.0 top_of.1 in
          let high = ltb-false (level_in top_of.0.set) HIGHEST e in
          absurd (no_level (top.0 ∙ omega (arith, high, top.2)) top.1)

pub adjust_refused : (role : Role) (entries : List Entry) (number : List ℕ) (lines : List Line) (signature : SignatureRecord) → Legal role entries → awaits_us entries number ≡ true → IsNumberText number → 0 < length lines
    → (refusal : RuleFault) → adjust_fault role entries number lines signature ≡ Some refusal → (text : List ℕ) → IsAdjustment role entries number lines signature text → StaysLegal role entries (signed text) → ⊥
adjust_refused role entries number lines signature legal awaits plain some refusal e text made stays =
    let low = level_left role entries number lines signature text legal awaits plain some made stays in
    let none = adjust_free role entries number signature awaits lines text low made in
    cc

-- ---- a draft is the supplier's

module _ (entries : List Entry) (draft : BaseRecord) (text : List ℕ) (new : IsNew draft.number (deeds_of entries)) (written : base_written draft (next_control entries) ≡ Ok text) where
  offered : (role : Role) → StaysLegal role entries (signed text) → propose_fault role entries draft ≡ None
  offered Supplier stays = both_none _ _ (ap (λ (o : Option Deed). by o (λ (top : Deed). AlreadySigned (level_in top.set))) (new_highest (deeds_of entries) draft.number new)) (ap write_fault written)
  offered Receiver stays = let allows = legal_last Receiver entries (signed text) stays in absurd (at allows.set allows.allowed allows.signed)
    where
      at : (set : SetView) → AllowsSet Receiver (deeds_of entries) Signed set → SignsRightly Receiver entries set text → ⊥
      at (sets.Base base seal) allowed right = let no = allowed.side in cc
      at (sets.Answer answer seal) allowed right = sets_apart draft answer (next_control entries) (next_control entries) text written right.written

pub propose_refused : (role : Role) (entries : List Entry) (draft : BaseRecord) → (refusal : RuleFault) → propose_fault role entries draft ≡ Some refusal → (text : List ℕ)
    → IsNew draft.number (deeds_of entries) × (base_written draft (next_control entries) ≡ Ok text) → StaysLegal role entries (signed text) → ⊥
propose_refused role entries draft refusal e text made stays = let none = offered entries draft text made.0 made.1 role stays in cc

-- a delivery that is known is proposed no more
seen_not_new : (entries : List Entry) (number : List ℕ) (version : Version) → seen_of entries number ≡ Some version → IsNew number (deeds_of entries) → ⊥
seen_not_new entries number version seen new =
    let none : seen_of entries number ≡ None = ap (option_and_then (version_at (deeds_of entries))) (new_highest (deeds_of entries) number new) in
    cc

pub known_not_proposed : (role : Role) (draft : BaseRecord) (desk : Desk) (version : Version) → seen_of desk.entries draft.number ≡ Some version → ProposesDraft role draft desk desk
known_not_proposed role draft desk version seen = inr (λ text made stays. seen_not_new desk.entries draft.number version seen made.0, refl)
