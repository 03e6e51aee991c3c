-- The answers of a judge, step by step.
use Rattle.std.proofs.Common.{◌≡◌, ◌≤◌, ℕ, Bool, false, nat_lt, find, Option, Some, Result, sym, ap, subst, ◌∙◌, arith}
use Rattle.std.proofs.lemmas.Bool.{le-ltb}
use Rattle.adjustment_895.specs.AnswerRecord.{AnswerRecord}
use Rattle.dsd_record.specs.Applying.{applied, apply_fault}
use Rattle.dsd_record.specs.Version.{Version}
use Rattle.delivery_book.specs.declared.history.Offer.{Offer}
use Rattle.delivery_book.specs.declared.fault.RuleFault.{RuleFault}
use Rattle.delivery_book.specs.declared.fault.RuleFault.TheVariants.{AlreadyFinal, Stale}
use Rattle.delivery_book.specs.Index.{Stand}
use Rattle.delivery_book.specs.Outcomes.{Judges}
use Rattle.delivery_book.specs.Refusals.{◌else_try◌, as_apply, level_named, when}
use Rattle.delivery_book.specs.StandFaults.{is_offer, named_by_stand, offered}

-- where no test before refuses it
pub judged_on : {X : Type 0} (result : Result X RuleFault) (P : X → Type 0) (stand : Stand) (answer : AnswerRecord) (offer : Offer) → offered answer stand ≡ Some offer → stand.accepted ≡ false → stand.seen.level ≤ offer.level
    → Judges result (as_apply (apply_fault stand.seen answer)) P → Judges result (named_by_stand (offered answer stand) stand answer) P
judged_on result P stand answer offer e unaccepted low h =
    subst (λ (o : Option RuleFault). Judges result o P) (sym (
    ap (λ (o : Option Offer). named_by_stand o stand answer) e
    ∙ ap (λ (b : Bool). when b (AlreadyFinal stand.seen.check) else_try (when (nat_lt offer.level stand.seen.level) (Stale stand.seen.level) else_try as_apply (apply_fault stand.seen answer))) unaccepted
    ∙ ap (λ (b : Bool). when b (Stale stand.seen.level) else_try as_apply (apply_fault stand.seen answer)) (le-ltb offer.level stand.seen.level low)
    )) h

module _ (result : Result Version RuleFault) (stand : Stand) (seen : Version) (answer : AnswerRecord) (check : ℕ) (offer : Offer) (same : seen ≡ stand.seen) where
  offered_so : (found : Option Offer) (level named : ℕ) → found ≡ find (is_offer level named) stand.history.offers → level ≡ level_named answer → named ≡ answer.check → found ≡ Some offer → offered answer stand ≡ Some offer
  offered_so found level named is l n e =
      sym (is ∙ ap (λ (x : ℕ). find (is_offer x named) stand.history.offers) l ∙ ap (λ (x : ℕ). find (is_offer (level_named answer) x) stand.history.offers) n) ∙ e

  -- the last answer of the judge, from what its steps say
  pub judged_at : (found : Option Offer) (level named : ℕ) (accepted : Bool) (kept said : ℕ) → found ≡ find (is_offer level named) stand.history.offers → level ≡ level_named answer → named ≡ answer.check → found ≡ Some offer
      → accepted ≡ stand.accepted → accepted ≡ false → kept ≡ seen.level → said ≡ offer.level → kept ≤ said
      → Judges result (as_apply (apply_fault seen answer)) (λ after. after ≡ applied seen answer check) → Judges result (named_by_stand (offered answer stand) stand answer) (λ after. after ≡ applied stand.seen answer check)
  judged_at found level named accepted kept said is l n e a f k s low h =
      let seen_level : seen.level ≡ stand.seen.level = ap (λ (v : Version). v.level) same in
      judged_on result (λ after. after ≡ applied stand.seen answer check) stand answer offer (offered_so found level named is l n e) (sym a ∙ f) (omega (arith, k, s, low, seen_level))
      (subst (λ (v : Version). Judges result (as_apply (apply_fault v answer)) (λ after. after ≡ applied v answer check)) same h)
