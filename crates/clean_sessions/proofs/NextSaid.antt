-- A set of a delivery that an end added behind others is the answer that it chose, and the set that the text of that is.
use Rattle.std.proofs.Common.{◌≡◌, ◌≤◌, ◌<◌, ℕ, length, List, [], Some, sym, ap, subst, ◌∙◌, inl, inr, arith}
use Rattle.dsd_values.specs.declared.level.TheConstants.Level.{MAX as HIGHEST}
use Rattle.dsd_values.specs.declared.role.Role.{Role}
use Rattle.base_record_894.specs.BaseRecord.{BaseRecord}
use Rattle.adjustment_895.specs.AnswerRecord.{AnswerRecord}
use Rattle.adjustment_895.specs.WrittenText.{seal_of, written_of}
use Rattle.adjustment_895.proofs.WrittenBack.{written_back}
use Rattle.dsd_record.specs.Choices.{Chooser}
use Rattle.dsd_record.specs.ReadSets.{set_in}
use Rattle.dsd_record.specs.SetTexts.{IsSet}
use Rattle.dsd_record.specs.Version.{Version}
use Rattle.dsd_record.specs.declared.set_view.SetView.{SetView}
use Rattle.dsd_record.specs.declared.set_view.SetView.TheVariants as sets
use Rattle.dsd_record.proofs.ReadOnce.{set_in_is}
use Rattle.dsd_journal.specs.declared.entry.Entry.{Entry}
use Rattle.dsd_journal.specs.declared.entry.EntryKind.TheVariants.{Signed}
use Rattle.delivery_book.specs.Deeds.{deeds_of, number_in, of_delivery}
use Rattle.delivery_book.specs.Lookups.{own_amount, seen_of}
use Rattle.delivery_book.specs.Signing.{AllowsSet, Legal, SignsRightly, next_control}
use Rattle.delivery_book.proofs.Grown.{legal_last}
use Rattle.own_turn.specs.Choosing.{Chosen, ChoosesAnswer, ChoosesDraft}
use Rattle.own_turn.specs.OwnTurn.{StaysLegal, signed}
use Rattle.own_turn.proofs.Heads.{sets_apart}
use Rattle.clean_sessions.specs.ChosenAnswers.{ChoosesRightly, answer_of, nine_digits}
use Rattle.clean_sessions.proofs.AnswersAlike.{answer_chosen}
use Rattle.clean_sessions.proofs.ChosenSigned.{chosen_made, chosen_stated}
use Rattle.clean_sessions.proofs.OwnSets.{own_level, seen_at, signs_sets}

some_set : (a b : SetView) → (let r : _ = Some a in r) ≡ Some b → a ≡ b
some_set a b e = cc

-- the answer that an end chose behind these entries, and the set of the delivery that it signed
pub record IsAnswerTo (role : Role) (chooser : Chooser) (before : List Entry) (number text : List ℕ) (set : SetView) : Type 0 where
  pub version : Version
  pub seen : seen_of before number ≡ Some version
  pub answer : AnswerRecord
  pub chosen : answer_of role chooser number version (own_amount before number) ≡ Some answer
  pub level : answer.level ≤ HIGHEST
  pub is : set ≡ sets.Answer answer (seal_of answer (next_control before))
  pub its : answer.number ≡ number

module _ (role : Role) (chooser : Chooser) (right : ChoosesRightly chooser) (before : List Entry) (number text : List ℕ) (legal : Legal role before) (stays : StaysLegal role before (signed text)) (few : next_control before ≤ nine_digits)
    (set : SetView) (read : set_in text ≡ Some set) (its : number_in set ≡ number) where
  answered : (own : List ℕ) → own ≡ number → ChoosesAnswer role chooser before own text → IsAnswerTo role chooser before number text set
  answered own same c =
      let d = subst (λ (n : List ℕ). ChoosesAnswer role chooser before n text) same c in
      let a = answer_chosen role chooser before number text d in
      let m = chosen_made role chooser before number a.version a.answer right legal d.awaits a.seen a.chosen in
      let seen = seen_at role number before a.version legal d.awaits a.seen in
      let low : a.answer.level < 10 =
      subst (λ (x : AnswerRecord). x.level < 10) (sym m.is)
      (own_level role before number text legal stays a.version seen m.lines m.totals m.signature (ap (λ (x : AnswerRecord). written_of x (next_control before)) (sym m.is) ∙ a.written)) in
      let level : a.answer.level ≤ HIGHEST = omega (arith, low) in
      let given = chosen_stated role chooser before number a.version a.answer right legal d.awaits a.seen m level in
      let back = written_back a.answer (next_control before) text few given a.written in
      record {
        version = a.version;
        seen = a.seen;
        answer = a.answer;
        chosen = a.chosen;
        level = level;
        is = some_set set (sets.Answer a.answer (seal_of a.answer (next_control before))) (sym read ∙ set_in_is text (sets.Answer a.answer (seal_of a.answer (next_control before))) back.spelled);
        its = ap (λ (x : AnswerRecord). x.number) m.is ∙ seen.its;
      }

  own_number : (own : List ℕ) → ChoosesAnswer role chooser before own text → own ≡ number
  own_number own c =
      let o = (signs_sets role chooser right.drafts).answers before own text legal (record { chosen = c; legal = stays }) in
      sym o.its ∙ ap number_in (some_set o.set set (sym o.read ∙ read)) ∙ its

  -- a draft is of a new delivery
  not_draft : (draft : BaseRecord) → ChoosesDraft chooser before draft text → (one : SetView) → one ≡ set → IsSet one text → AllowsSet role (deeds_of before) Signed one → SignsRightly role before one text → 1 ≤ length (of_delivery number (deeds_of before)) → ⊥
  not_draft draft c (sets.Base base seal) same is allowed signs some =
      let none : of_delivery number (deeds_of before) ≡ [] = subst (λ (n : List ℕ). of_delivery n (deeds_of before) ≡ []) (ap number_in same ∙ its) allowed.new in
      let size = ap length none in
      omega (arith, size, some)
  not_draft draft c (sets.Answer answer seal) same is allowed signs some = sets_apart draft answer (next_control before) (next_control before) text c.written signs.written

  pub next_answer : 1 ≤ length (of_delivery number (deeds_of before)) → Chosen role chooser before text → IsAnswerTo role chooser before number text set
  next_answer some (inl (draft, c)) =
      let a = legal_last role before (signed text) stays in
      absurd (not_draft draft c a.set (some_set a.set set (sym (set_in_is text a.set a.is_set) ∙ read)) a.is_set a.allowed a.signed some)
  next_answer some (inr (own, c)) = answered own (own_number own c) c
