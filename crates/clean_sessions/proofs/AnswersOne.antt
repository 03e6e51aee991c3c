-- From where a talk has come to there is one row of answers, and it ends at the highest level.
use Rattle.std.proofs.Common.{◌≡◌, ◌⊎◌, ◌≤◌, ◌+◌, ℕ, zero, suc, Bool, true, false, nat_le, length, List, [], ◌∷◌, Option, Some, None, Result, Ok, Err, refl, sym, ap, subst, ◌∙◌, inl, inr, arith}
use Rattle.std.specs.Prelude.{if◌then◌else◌}
use Rattle.std.specs.Option.{option_map}
use Rattle.std.proofs.lemmas.Bool.{cases_Bool}
use Rattle.std.proofs.lemmas.Bool.Decides.{nat_tests}
use Rattle.dsd_pricing.specs.declared.amounts.Totals.{Totals}
use Rattle.dsd_pricing.specs.declared.fault.WriteFault.{WriteFault}
use Rattle.dsd_values.specs.SignatureRecord.{SignatureRecord}
use Rattle.dsd_values.specs.declared.level.TheConstants.Level.{MAX as HIGHEST}
use Rattle.dsd_values.specs.declared.line.Line.{Line}
use Rattle.dsd_values.specs.declared.role.Role.{Role}
use Rattle.adjustment_895.specs.AnswerRecord.{AnswerRecord}
use Rattle.adjustment_895.specs.Grammar.{has_none}
use Rattle.adjustment_895.specs.WrittenText.{written_of}
use Rattle.dsd_record.specs.ChangedPrice.{price_with}
use Rattle.dsd_record.specs.Choices.{Chooser}
use Rattle.dsd_record.specs.Naming.{answered_level}
use Rattle.dsd_record.specs.Version.{Version}
use Rattle.dsd_record.specs.declared.choice.Choice.{Choice}
use Rattle.dsd_record.specs.declared.choice.Choice.TheVariants.{Accept, Adjust, Wait}
use Rattle.dsd_record.specs.declared.price_after.ChangeFault.{ChangeFault}
use Rattle.delivery_book.specs.Deeds.{other_role}
use Rattle.clean_sessions.specs.ChosenAnswers.{answer_by, answer_of, but_for_named, nine_digits, priced_answer, signed_answer}
use Rattle.clean_sessions.specs.Talks.{AreAnswers, Declines, Says, TalkStand, behind}
use Rattle.clean_sessions.proofs.BoolTests.{never_both}
use Rattle.clean_sessions.proofs.TalksWalked.{some_answer}

same_answer : (a b : AnswerRecord) → (let r : Option AnswerRecord = Some a in r) ≡ Some b → a ≡ b
same_answer a b e = cc

-- ---- the level of an answer

module _ (role : Role) (version : Version) (answer : AnswerRecord) where
  abbrev IsLevel : Type 0
  IsLevel = answer.level ≡ answered_level answer.lines version.level

  level_priced : (signature : SignatureRecord) (lines : List Line) (price : Result Totals ChangeFault) → priced_answer role version signature lines price ≡ Some answer → IsLevel
  level_priced signature lines (Ok totals) e = subst (λ (a : AnswerRecord). a.level ≡ answered_level a.lines version.level) (same_answer _ answer e) refl
  level_priced signature lines (Err fault) e = absurd (cc)

  level_by : (signature : SignatureRecord) (choice : Choice) → answer_by role version signature choice ≡ Some answer → IsLevel
  level_by signature Accept e = subst (λ (a : AnswerRecord). a.level ≡ answered_level a.lines version.level) (same_answer _ answer e) refl
  level_by signature (Adjust []) e = absurd (cc)
  level_by signature (Adjust (line ∷ lines)) e = level_priced signature (line ∷ lines) (price_with version (line ∷ lines)) e
  level_by signature Wait e = absurd (cc)

  level_signed : (signature : Option SignatureRecord) (choice : Choice) → signed_answer role version signature choice ≡ Some answer → IsLevel
  level_signed (Some signature) choice e = level_by signature choice e
  level_signed None choice e = absurd (cc)

says_level : (role : Role) (chooser : Chooser) (number : List ℕ) (at : TalkStand) (answer : AnswerRecord) → Says role chooser number at answer → answer.level ≡ answered_level answer.lines at.version.level
says_level role chooser number at answer says =
    let real = some_answer (answer_of role chooser number at.version at.own) answer says.chosen in
    subst (λ (a : AnswerRecord). a.level ≡ answered_level a.lines at.version.level) real.2
    (level_signed role at.version real.0 (chooser.signature number) (chooser.choice at.version at.own) real.1)

-- ---- whether an end has an answer

says_or_not : (role : Role) (chooser : Chooser) (number : List ℕ) (at : TalkStand) → ((answer : AnswerRecord) × Says role chooser number at answer) ⊎ Declines role chooser number at
says_or_not role chooser number at = by (option_map but_for_named (answer_of role chooser number at.version at.own)) refl
  where
    by_text : (answer : AnswerRecord) → option_map but_for_named (answer_of role chooser number at.version at.own) ≡ Some answer → answer.level ≤ HIGHEST → (r : Result (List ℕ) WriteFault) → written_of answer nine_digits ≡ r
        → ((one : AnswerRecord) × Says role chooser number at one) ⊎ Declines role chooser number at
    by_text answer chosen level (Ok text) written = inl (answer, record { chosen = chosen; level = level; text = text; written = written })
    by_text answer chosen level (Err fault) failed = inr (λ other says.
        let same : answer ≡ other = same_answer answer other (sym chosen ∙ says.chosen) in
        never says.text (sym failed ∙ ap (λ (a : AnswerRecord). written_of a nine_digits) same ∙ says.written))
      where
        never : (text : List ℕ) → (let r : Result (List ℕ) WriteFault = Err fault in r) ≡ Ok text → ⊥
        never text e = cc

    low : (n : ℕ) → nat_le n HIGHEST ≡ true → n ≤ HIGHEST
    low n e = grind (arith, nat_tests)

    high : (n : ℕ) → nat_le n HIGHEST ≡ false → n ≤ HIGHEST → ⊥
    high n e le = never_both _ (is_low n le) e
      where
        is_low : (n : ℕ) → n ≤ HIGHEST → nat_le n HIGHEST ≡ true
        is_low n le = grind (arith, nat_tests)

    by : (o : Option AnswerRecord) → option_map but_for_named (answer_of role chooser number at.version at.own) ≡ o → ((answer : AnswerRecord) × Says role chooser number at answer) ⊎ Declines role chooser number at
    by None none = inr (λ answer says. never answer (sym none ∙ says.chosen))
      where
        never : (answer : AnswerRecord) → (let r : Option AnswerRecord = None in r) ≡ Some answer → ⊥
        never answer e = cc
    by (Some answer) chosen = elim (cases_Bool (nat_le answer.level HIGHEST)) [
      | inl le ↦ by_text answer chosen (low answer.level le) (written_of answer nine_digits) refl
      | inr above ↦ inr (λ other says. high answer.level above (subst (λ (a : AnswerRecord). a.level ≤ HIGHEST) (sym (same_answer answer other (sym chosen ∙ says.chosen))) says.level))
    ]

-- ---- rows of answers

module _ (choosers : Role → Chooser) (number : List ℕ) where
  pub same_answers : (one other : List AnswerRecord) (role : Role) (at : TalkStand) → AreAnswers choosers number role at one → AreAnswers choosers number role at other → one ≡ other
  same_answers [] [] role at a b = refl
  same_answers [] (other ∷ others) role at a b = absurd (a other b.0)
  same_answers (one ∷ more) [] role at a b = absurd (b one a.0)
  same_answers (one ∷ more) (other ∷ others) role at a b =
      let same : one ≡ other = same_answer one other (sym a.0.chosen ∙ b.0.chosen) in
      let rest : more ≡ others = elim (cases_Bool (has_none one.lines)) [
        | inl accepts ↦ a.1 accepts ∙ sym (b.1 (ap (λ (x : AnswerRecord). has_none x.lines) (sym same) ∙ accepts))
        | inr adjusts ↦
            same_answers more others (other_role role) (behind at one) (a.2 adjusts)
            (subst (λ (x : AnswerRecord). AreAnswers choosers number (other_role role) (behind at x) others) (sym same) (b.2 (ap (λ (x : AnswerRecord). has_none x.lines) (sym same) ∙ adjusts)))
      ] in
      ap (λ (x : AnswerRecord). x ∷ more) same ∙ ap (λ (l : List AnswerRecord). other ∷ l) rest

  next_level : (role : Role) (at : TalkStand) (answer : AnswerRecord) → Says role (choosers role) number at answer → has_none answer.lines ≡ false → answer.level ≡ at.version.level + 1
  next_level role at answer says adjusts = says_level role (choosers role) number at answer says ∙ ap (λ (b : Bool). if b then at.version.level else at.version.level + 1) adjusts

  pub answers_few : (answers : List AnswerRecord) (role : Role) (at : TalkStand) → at.version.level ≤ HIGHEST → AreAnswers choosers number role at answers → length answers + at.version.level ≤ 10
  answers_few [] role at low a = omega (arith, low)
  answers_few (answer ∷ more) role at low a = elim (cases_Bool (has_none answer.lines)) [
    | inl accepts ↦ let none = ap length (a.1 accepts) in omega (arith, none, low)
    | inr adjusts ↦
        let level = next_level role at answer a.0 adjusts in
        let few = answers_few more (other_role role) (behind at answer) a.0.level (a.2 adjusts) in
        omega (arith, level, few)
  ]

  -- where a row follows behind each adjustment, one is there
  row : (role : Role) (at : TalkStand)
      → ((answer : AnswerRecord) → answer.level ≤ HIGHEST → answer.level ≡ at.version.level + 1 → (answers : List AnswerRecord) × AreAnswers choosers number (other_role role) (behind at answer) answers)
      → (answers : List AnswerRecord) × AreAnswers choosers number role at answers
  row role at behind_it = elim (says_or_not role (choosers role) number at) [
    | inr declines ↦ ([], declines)
    | inl (answer, says) ↦ elim (cases_Bool (has_none answer.lines)) [
      | inl accepts ↦ (answer ∷ [], (says, (λ e. refl), (λ adjusts. absurd (never_both _ accepts adjusts))))
      | inr adjusts ↦
          let rest = behind_it answer says.level (next_level role at answer says adjusts) in
          (answer ∷ rest.0, (says, (λ accepts. absurd (never_both _ accepts adjusts)), (λ e. rest.1)))
    ]
  ]

  pub some_answers : (n : ℕ) (role : Role) (at : TalkStand) → 10 ≤ at.version.level + n → (answers : List AnswerRecord) × AreAnswers choosers number role at answers
  some_answers zero role at far = row role at (λ answer low level. absurd (omega (arith, far, low, level)))
  some_answers (suc n) role at far = row role at (λ answer low level. some_answers n (other_role role) (behind at answer) (omega (arith, far, level)))
