-- Chosen answers are written, and answers to versions that differ in their integrity value alone differ in the value named alone.
use Rattle.std.proofs.Common.{◌≡◌, ℕ, List, [], ◌∷◌, Option, Some, None, Result, Ok, Err, refl, sym, ap, ◌∙◌}
use Rattle.std.specs.Option.{option_map}
use Rattle.dsd_pricing.specs.declared.amounts.Totals.{Totals}
use Rattle.dsd_values.specs.SignatureRecord.{SignatureRecord}
use Rattle.dsd_values.specs.declared.line.Line.{Line}
use Rattle.dsd_values.specs.declared.role.Role.{Role}
use Rattle.dsd_record.specs.ChangedPrice.{price_with}
use Rattle.dsd_record.specs.Choices.{Chooser}
use Rattle.dsd_record.specs.Version.{Version}
use Rattle.dsd_record.specs.declared.choice.Choice.{Choice}
use Rattle.dsd_record.specs.declared.choice.Choice.TheVariants.{Accept, Adjust, Wait}
use Rattle.dsd_record.specs.declared.price_after.ChangeFault.{ChangeFault}
use Rattle.dsd_journal.specs.declared.entry.Entry.{Entry}
use Rattle.delivery_book.specs.Lookups.{own_amount, seen_of}
use Rattle.own_turn.specs.Choosing.{AnswersBy, ChoosesAnswer}
use Rattle.clean_sessions.specs.ChosenAnswers.{IgnoresCheck, IsChosenAnswer, answer_by, answer_of, but_for_check, but_for_named, priced_answer, signed_answer}

-- ---- a chosen answer

one_version : (a b : Version) (seen : Option Version) → seen ≡ Some a → seen ≡ Some b → a ≡ b
one_version a b seen e f = let same : (let r : Option Version = Some a in r) ≡ Some b = sym e ∙ f in cc

module _ (role : Role) (chooser : Chooser) (before : List Entry) (number text : List ℕ) (c : ChoosesAnswer role chooser before number text) where
  signed_as : (choice : Choice) → chooser.choice c.version (own_amount before number) ≡ choice
      → answer_of role chooser number c.version (own_amount before number) ≡ answer_by role c.version c.signature choice
  signed_as choice is =
      ap (λ (s : Option SignatureRecord). signed_answer role c.version s (chooser.choice c.version (own_amount before number))) c.signs
      ∙ ap (answer_by role c.version c.signature) is

  written_by : (choice : Choice) → chooser.choice c.version (own_amount before number) ≡ choice → AnswersBy choice role before number c.signature text → IsChosenAnswer role chooser before number text
  written_by Accept is a =
      let same : a.version ≡ c.version = one_version a.version c.version (seen_of before number) a.seen c.seen in
      record {
        version = c.version;
        seen = c.seen;
        answer = _;
        chosen = signed_as Accept is ∙ ap (λ (v : Version). answer_by role v c.signature Accept) (sym same);
        written = a.written;
      }
  written_by (Adjust []) is a = absurd a
  written_by (Adjust (line ∷ lines)) is a =
      let same : a.version ≡ c.version = one_version a.version c.version (seen_of before number) a.seen c.seen in
      record {
        version = c.version;
        seen = c.seen;
        answer = _;
        chosen =
            signed_as (Adjust (line ∷ lines)) is
            ∙ ap (λ (v : Version). priced_answer role v c.signature (line ∷ lines) (price_with v (line ∷ lines))) (sym same)
            ∙ ap (priced_answer role a.version c.signature (line ∷ lines)) a.price;
        written = a.written;
      }
  written_by Wait is a = absurd a

  pub answer_chosen : IsChosenAnswer role chooser before number text
  answer_chosen = written_by (chooser.choice c.version (own_amount before number)) refl c.answers

-- ---- alike answers

alike_priced : (role : Role) (version : Version) (signature : SignatureRecord) (lines : List Line) (price : Result Totals ChangeFault)
    → option_map but_for_named (priced_answer role version signature lines price) ≡ option_map but_for_named (priced_answer role (but_for_check version) signature lines price)
alike_priced role version signature lines (Ok totals) = refl
alike_priced role version signature lines (Err fault) = refl

alike_choice : (role : Role) (version : Version) (signature : SignatureRecord) (choice : Choice)
    → option_map but_for_named (answer_by role version signature choice) ≡ option_map but_for_named (answer_by role (but_for_check version) signature choice)
alike_choice role version signature Accept = refl
alike_choice role version signature (Adjust []) = refl
alike_choice role version signature (Adjust (line ∷ lines)) = alike_priced role version signature (line ∷ lines) (price_with version (line ∷ lines))
alike_choice role version signature Wait = refl

alike_signed : (role : Role) (version : Version) (signature : Option SignatureRecord) (choice : Choice)
    → option_map but_for_named (signed_answer role version signature choice) ≡ option_map but_for_named (signed_answer role (but_for_check version) signature choice)
alike_signed role version (Some signature) choice = alike_choice role version signature choice
alike_signed role version None choice = refl

alike_but : (role : Role) (chooser : Chooser) (number : List ℕ) (version : Version) (amount : Option ℕ) → IgnoresCheck chooser
    → option_map but_for_named (answer_of role chooser number version amount) ≡ option_map but_for_named (answer_of role chooser number (but_for_check version) amount)
alike_but role chooser number version amount ignores =
    alike_signed role version (chooser.signature number) (chooser.choice version amount)
    ∙ ap (λ (c : Choice). option_map but_for_named (signed_answer role (but_for_check version) (chooser.signature number) c)) (ignores version amount)

pub alike : (role : Role) (chooser : Chooser) (number : List ℕ) (version other : Version) (amount : Option ℕ) → IgnoresCheck chooser → but_for_check version ≡ but_for_check other
    → option_map but_for_named (answer_of role chooser number version amount) ≡ option_map but_for_named (answer_of role chooser number other amount)
alike role chooser number version other amount ignores same =
    alike_but role chooser number version amount ignores
    ∙ ap (λ (v : Version). option_map but_for_named (answer_of role chooser number v amount)) same
    ∙ sym (alike_but role chooser number other amount ignores)
