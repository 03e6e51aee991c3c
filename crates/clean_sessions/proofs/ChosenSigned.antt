-- The answer that an end chooses may be signed, where it can be written with nine digits.
use Rattle.std.proofs.Common.{◌≡◌, ◌≤◌, ℕ, true, List, [], ◌∷◌, Option, Some, None, Result, Ok, Err, refl, sym, ap, subst, ◌∙◌, inr, arith}
use Rattle.std.specs.Option.{option_and_then}
use Rattle.std.proofs.lemmas.List.Elements.{All-nil}
use Rattle.dsd_values.specs.SignatureRecord.{SignatureRecord}
use Rattle.dsd_values.specs.declared.level.TheConstants.Level.{MAX as HIGHEST}
use Rattle.dsd_values.specs.declared.line.Line.{Line}
use Rattle.dsd_values.specs.declared.role.Role.{Role}
use Rattle.dsd_pricing.specs.declared.amounts.Totals.{Totals}
use Rattle.transaction_set.specs.SoundLines.{AreSoundLines, IsSoundLine}
use Rattle.adjustment_895.specs.AnswerRecord.{AnswerRecord}
use Rattle.adjustment_895.specs.AnswerText.{IsAnswer}
use Rattle.adjustment_895.specs.Grammar.{IsLevelled}
use Rattle.adjustment_895.specs.WrittenText.{seal_of, written_of}
use Rattle.adjustment_895.proofs.Made.{made_answer}
use Rattle.adjustment_895.proofs.WrittenBack.{written_back}
use Rattle.dsd_record.specs.Applying.{Applies}
use Rattle.dsd_record.specs.ChangedPrice.{IsPriceAfter, price_with}
use Rattle.dsd_record.specs.Choices.{Chooser, IsSoundChoice}
use Rattle.dsd_record.specs.LineChanges.{changed}
use Rattle.dsd_record.specs.Naming.{answered_level}
use Rattle.dsd_record.specs.Version.{Version}
use Rattle.dsd_record.specs.declared.choice.Choice.{Choice}
use Rattle.dsd_record.specs.declared.choice.Choice.TheVariants.{Accept, Adjust, Wait}
use Rattle.dsd_record.specs.declared.price_after.ChangeFault.{ChangeFault}
use Rattle.dsd_record.specs.declared.set_view.SetView.TheVariants as sets
use Rattle.dsd_record.proofs.AfterChanges.{found_after}
use Rattle.dsd_record.proofs.Answered.{few_priced, small_priced}
use Rattle.dsd_record.proofs.Prices.{amount_low}
use Rattle.dsd_record.proofs.ReadOnce.{set_in_is}
use Rattle.dsd_journal.specs.declared.entry.Entry.{Entry}
use Rattle.delivery_book.specs.Answering.{answer_to}
use Rattle.delivery_book.specs.Deeds.{deeds_of}
use Rattle.delivery_book.specs.Lookups.{awaits_us, own_amount, seen_of}
use Rattle.delivery_book.specs.Signing.{Legal, next_control}
use Rattle.delivery_book.specs.Standing.{version_at}
use Rattle.delivery_book.proofs.Grown.{legal_founded, legal_more}
use Rattle.delivery_book.proofs.SignExact.{IsReady, is_ready, signs_answer}
use Rattle.delivery_book.proofs.Signed.{to_applies}
use Rattle.own_turn.specs.Choosing.{AnswersBy}
use Rattle.own_turn.specs.OwnTurn.{signed}
use Rattle.own_turn.proofs.Answering.{awaits_free}
use Rattle.clean_sessions.specs.ChosenAnswers.{ChoosesRightly, IsChosenOn, MaySignIt, answer_by, answer_of, nine_digits, priced_answer, signed_answer}
use Rattle.clean_sessions.proofs.LowerControls.{answer_written_too}
use Rattle.clean_sessions.proofs.NumberTexts.{IsNumber}
use Rattle.clean_sessions.proofs.OwnSets.{IsSeenAt, seen_at}

some_answer : (a b : AnswerRecord) → (let r : Option AnswerRecord = Some a in r) ≡ Some b → a ≡ b
some_answer a b e = cc

levelled : (lines : List Line) (level : ℕ) → IsLevelled lines (answered_level lines level)
levelled [] level = tt
levelled (line ∷ lines) level = omega arith

-- ---- what a chosen answer is made of

module _ (role : Role) (chooser : Chooser) (entries : List Entry) (number : List ℕ) (version : Version) (answer : AnswerRecord) (right : ChoosesRightly chooser) (legal : Legal role entries)
    (awaits : awaits_us entries number ≡ true) (is_seen : seen_of entries number ≡ Some version) where
  seen : IsSeenAt number entries version
  seen = seen_at role number entries version legal awaits is_seen

  -- its lines at their price, and its signature
  pub record IsMade : Type 0 where
    pub lines : List Line
    pub totals : Totals
    pub signature : SignatureRecord
    pub signs : chooser.signature number ≡ Some signature
    pub is : answer ≡ answer_to role version lines totals signature
    pub sound : AreSoundLines lines
    pub price : IsPriceAfter version lines totals
    pub answers : (text : List ℕ) → written_of (answer_to role version lines totals signature) (next_control entries) ≡ Ok text → AnswersBy (chooser.choice version (own_amount entries number)) role entries number signature text

  by_price : (line : Line) (lines : List Line) (signature : SignatureRecord) (price : Result Totals ChangeFault) → price_with version (line ∷ lines) ≡ price → chooser.signature number ≡ Some signature
      → chooser.choice version (own_amount entries number) ≡ Adjust (line ∷ lines) → priced_answer role version signature (line ∷ lines) price ≡ Some answer → IsMade
  by_price line lines signature (Err fault) p has is e = absurd (cc)
  by_price line lines signature (Ok totals) p has is e =
      let sound : IsSoundChoice (Adjust (line ∷ lines)) = subst IsSoundChoice is (right.choices version (own_amount entries number) (record { sound = seen.right.each; apart = seen.right.sound.apart })) in
      record {
        lines = line ∷ lines;
        totals = totals;
        signature = signature;
        signs = has;
        is = sym (some_answer _ answer e);
        sound = sound.1;
        price = found_after version (line ∷ lines) (Ok totals) (inr (sym p));
        answers = λ text written. subst (λ (x : Choice). AnswersBy x role entries number signature text) (sym is) (record { version = version; seen = is_seen; totals = totals; price = p; written = written });
      }

  by_choice : (choice : Choice) (signature : SignatureRecord) → chooser.signature number ≡ Some signature → chooser.choice version (own_amount entries number) ≡ choice → answer_by role version signature choice ≡ Some answer → IsMade
  by_choice Accept signature has is e = record {
    lines = [];
    totals = version.totals;
    signature = signature;
    signs = has;
    is = sym (some_answer _ answer e);
    sound = record { sound = All-nil IsSoundLine; apart = tt };
    price = record { few = seen.right.sound.limit; price = seen.right.price };
    answers = λ text written. subst (λ (x : Choice). AnswersBy x role entries number signature text) (sym is) (record { version = version; seen = is_seen; written = written });
  }
  by_choice (Adjust []) signature has is e = absurd (cc)
  by_choice (Adjust (line ∷ lines)) signature has is e = by_price line lines signature (price_with version (line ∷ lines)) refl has is e
  by_choice Wait signature has is e = absurd (cc)

  by_signature : (o : Option SignatureRecord) → chooser.signature number ≡ o → signed_answer role version o (chooser.choice version (own_amount entries number)) ≡ Some answer → IsMade
  by_signature None has e = absurd (cc)
  by_signature (Some signature) has e = by_choice (chooser.choice version (own_amount entries number)) signature has refl e

  pub chosen_made : answer_of role chooser number version (own_amount entries number) ≡ Some answer → IsMade
  chosen_made chosen = by_signature (chooser.signature number) refl chosen

  -- the answer may be stated
  pub chosen_stated : IsMade → answer.level ≤ HIGHEST → IsAnswer answer
  chosen_stated m low =
      let its = subst IsNumber (sym seen.its) seen.number_is in
      let level : answered_level m.lines version.level ≤ HIGHEST = subst (λ (a : AnswerRecord). a.level ≤ HIGHEST) m.is low in
      subst IsAnswer (sym m.is) (made_answer _ m.lines m.totals m.signature
      (record {
        number = record { characters = its.plain; filled = its.some; short = its.short };
        check = seen.check;
        level = level;
        receiver_number = record { characters = refl; short = omega arith };
      })
      m.sound (few_priced version m.lines m.totals m.sound m.price) (levelled m.lines version.level) (small_priced version m.lines m.totals seen.right m.sound m.price)
      (amount_low (changed version.lines m.lines) version.extras m.totals m.price.price) (right.signatures number m.signature m.signs))

-- ---- it may be signed

pub chosen_signed : (role : Role) (chooser : Chooser) (entries : List Entry) (number : List ℕ) (version : Version) (answer : AnswerRecord) → ChoosesRightly chooser → Legal role entries → next_control entries ≤ nine_digits
    → IsChosenOn role chooser entries number version answer → MaySignIt role chooser entries number answer
chosen_signed role chooser entries number version answer right legal few c =
    let m = chosen_made role chooser entries number version answer right legal c.awaits c.seen c.chosen in
    let given = chosen_stated role chooser entries number version answer right legal c.awaits c.seen m c.level in
    let too = answer_written_too answer answer.check (next_control entries) c.text few c.written in
    let back = written_back answer (next_control entries) too.0 few given too.1 in
    let its = (seen_at role number entries version legal c.awaits c.seen).its in
    let same : answer.number ≡ number = ap (λ (a : AnswerRecord). a.number) m.is ∙ its in
    let ready : IsReady answer.number (deeds_of entries) = subst (λ (n : List ℕ). IsReady n (deeds_of entries)) (sym same) (is_ready number (deeds_of entries) (awaits_free entries number c.awaits)) in
    let at : seen_of entries answer.number ≡ Some version = ap (seen_of entries) same ∙ c.seen in
    let made : version_at (deeds_of entries) ready.top ≡ Some version = sym (ap (option_and_then (version_at (deeds_of entries))) ready.is_top) ∙ at in
    let applies = subst (λ (a : AnswerRecord). Applies version a) (sym m.is) (to_applies role version m.lines m.totals m.signature m.price) in
    let allows = signs_answer role entries (legal_founded role entries legal) answer (seal_of answer (next_control entries)) too.0 ready version made applies (ap (λ (a : AnswerRecord). a.role) m.is) c.level back.spelled too.1 in
    record {
      text = too.0;
      may = record {
        chosen = record {
          awaits = c.awaits;
          version = version;
          seen = c.seen;
          signature = m.signature;
          signs = m.signs;
          answers = m.answers too.0 (ap (λ (a : AnswerRecord). written_of a (next_control entries)) (sym m.is) ∙ too.1);
        };
        legal = legal_more role entries (signed too.0) legal allows;
      };
      is = set_in_is too.0 (sets.Answer answer (seal_of answer (next_control entries))) back.spelled;
    }
