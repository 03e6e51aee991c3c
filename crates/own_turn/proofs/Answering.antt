-- Where an answer may be signed, the rules do not refuse it.
use Rattle.std.proofs.Common.{◌≡◌, ℕ, ◌<◌, Bool, true, false, not, ◌&&◌, nat_lt, List, [], ◌∷◌, length, is_none, Option, Some, None, Result, refl, sym, ◌∙◌, ap, subst, arith}
use Rattle.dsd_values.specs.SignatureRecord.{SignatureRecord}
use Rattle.dsd_values.specs.declared.level.TheConstants.Level.{MAX as HIGHEST}
use Rattle.dsd_values.specs.declared.line.Line.{Line}
use Rattle.dsd_values.specs.declared.role.Role.{Role}
use Rattle.dsd_record.specs.Choices.{IsSoundChoice}
use Rattle.dsd_record.specs.Version.{Version}
use Rattle.dsd_record.specs.declared.choice.Choice.{Choice}
use Rattle.dsd_record.specs.declared.choice.Choice.TheVariants.{Accept, Adjust}
use Rattle.dsd_journal.specs.declared.adding_fault.StageFault.{StageFault}
use Rattle.dsd_journal.specs.declared.entry.Entry.{Entry}
use Rattle.delivery_book.specs.Answering.{IsAcceptance, IsAdjustment}
use Rattle.delivery_book.specs.Deeds.{Deed, deeds_of, is_signed, level_in}
use Rattle.delivery_book.specs.Lookups.{awaits_us, is_taken}
use Rattle.delivery_book.specs.Refusals.{◌else_try◌, accept_fault, accepting_fault, adjust_fault, adjusting_fault, answer_fault, by, check_named, known_fault, priced_fault, top_level, turn_fault, when, write_fault}
use Rattle.delivery_book.specs.Signing.{next_control}
use Rattle.delivery_book.specs.Standing.{acceptance_of, highest_of}
use Rattle.delivery_book.specs.declared.fault.RuleFault.{RuleFault}
use Rattle.delivery_book.specs.declared.fault.RuleFault.TheVariants.{AlreadyFinal, LevelLimit, NotOurTurn}
use Rattle.delivery_book.proofs.TakeExact.{both_none}
use Rattle.own_turn.specs.Desks.{DeskView}
use Rattle.own_turn.specs.NextEntry.{AddsNext}
use Rattle.own_turn.specs.OwnTurn.{Desk, StaysLegal, signed}
use Rattle.own_turn.specs.Staging.{SignsChoice, SignsSome, StagesTo}

turn_free : (top : Deed) (b : Bool) → is_signed top.kind ≡ b → not b ≡ true → when (is_signed top.kind) (NotOurTurn (level_in top.set)) ≡ None
turn_free top false e h = ap (λ (t : Bool). when t (NotOurTurn (level_in top.set))) e
turn_free top true e h = cc

free_at : (top acceptance : Option Deed) → (is_taken top && is_none acceptance) ≡ true → (known_fault top else_try (by acceptance (λ (deed : Deed). AlreadyFinal (check_named deed.set)) else_try turn_fault top)) ≡ None
free_at (Some top) None h = turn_free top (is_signed top.kind) refl (first_of_two (not (is_signed top.kind)) h)
  where
    first_of_two : (b : Bool) → (b && true) ≡ true → b ≡ true
    first_of_two true e = refl
    first_of_two false e = cc
free_at (Some top) (Some deed) h = absurd (never (not (is_signed top.kind)) h)
  where
    never : (b : Bool) → (b && false) ≡ true → ⊥
    never true e = cc
    never false e = cc
free_at None acceptance h = cc

-- a delivery that awaits this end may be answered
pub awaits_free : (entries : List Entry) (number : List ℕ) → awaits_us entries number ≡ true → answer_fault (deeds_of entries) number ≡ None
awaits_free entries number h = free_at (highest_of number (deeds_of entries)) (acceptance_of number (deeds_of entries)) h

-- a delivery that is not known awaits nobody
pub awaits_known : (entries : List Entry) (number : List ℕ) → awaits_us entries number ≡ true → (top : Deed) × (highest_of number (deeds_of entries) ≡ Some top)
awaits_known entries number h = at (highest_of number (deeds_of entries)) refl h
  where
    at : (o : Option Deed) → highest_of number (deeds_of entries) ≡ o → (is_taken o && is_none (acceptance_of number (deeds_of entries))) ≡ true → (top : Deed) × (highest_of number (deeds_of entries) ≡ Some top)
    at (Some top) e t = (top, e)
    at None e t = cc

module _ (role : Role) (entries : List Entry) (number : List ℕ) (signature : SignatureRecord) (awaits : awaits_us entries number ≡ true) where
  pub accept_free : (text : List ℕ) → IsAcceptance role entries number signature text → accept_fault role entries number signature ≡ None
  accept_free text a =
      both_none _ _ (awaits_free entries number awaits)
      (ap (λ (o : Option Version). accepting_fault role (next_control entries) o signature) a.seen ∙ ap write_fault a.written)

  pub adjust_free : (changes : List Line) (text : List ℕ) → nat_lt (top_level (highest_of number (deeds_of entries))) HIGHEST ≡ true → IsAdjustment role entries number changes signature text
      → adjust_fault role entries number changes signature ≡ None
  adjust_free changes text low a =
      both_none _ _ (both_none _ _ (awaits_free entries number awaits) (ap (λ (b : Bool). when (not b) LevelLimit) low))
      (ap (λ (o : Option Version). adjusting_fault role (next_control entries) o changes signature) a.seen
      ∙ ap (priced_fault role (next_control entries) a.version changes signature) a.price
      ∙ ap write_fault a.written)

  pub accept_refused : (refusal : RuleFault) → accept_fault role entries number signature ≡ Some refusal → (text : List ℕ) → IsAcceptance role entries number signature text → StaysLegal role entries (signed text) → ⊥
  accept_refused refusal e text made legal = let none = accept_free text made in cc

-- ---- what a choice asks for

module _ (role : Role) (number : List ℕ) (signature : SignatureRecord) (result : Result (Unit {0}) StageFault) (old new : DeskView) where
  abbrev pub SignsAccept : Desk → Desk → Type 0
  SignsAccept = SignsSome role number true (λ entries text. IsAcceptance role entries number signature text)

  abbrev pub SignsAdjust : List Line → Desk → Desk → Type 0
  SignsAdjust lines = SignsSome role number false (λ entries text. IsAdjustment role entries number lines signature text)

  abbrev pub ByChoice : Choice → Type 0
  ByChoice choice = StagesTo result (SignsChoice role choice number signature) (AddsNext (SignsChoice role choice number signature)) old new

  pub by_accept : (choice : Choice) → choice ≡ Accept → StagesTo result SignsAccept (AddsNext SignsAccept) old new → ByChoice choice
  by_accept choice e h = subst ByChoice (sym e) h

  adjusts_some : (lines : List Line) → 0 < length lines → StagesTo result (SignsAdjust lines) (AddsNext (SignsAdjust lines)) old new → ByChoice (Adjust lines)
  adjusts_some [] some h = absurd (omega (arith, some))
  adjusts_some (line ∷ lines) some h = h

  pub by_adjust : (choice : Choice) (lines : List Line) → choice ≡ Adjust lines → IsSoundChoice choice → StagesTo result (SignsAdjust lines) (AddsNext (SignsAdjust lines)) old new → ByChoice choice
  by_adjust choice lines e sound h = subst ByChoice (sym e) (adjusts_some lines (subst IsSoundChoice e sound).0 h)
