-- What this end signs, from how the delivery stands to the entries.
use Rattle.std.proofs.Common.{◌≡◌, ◌⊎◌, ◌≤◌, ◌+◌, ℕ, false, not, List, [], length, Option, Some, None, Result, Ok, Err, inl, inr, refl, sym, ap, subst, ◌∙◌}
use Rattle.dsd_pricing.specs.declared.amounts.Totals.{Totals}
use Rattle.dsd_values.specs.SignatureRecord.{SignatureRecord}
use Rattle.dsd_values.specs.declared.line.Line.{Line}
use Rattle.dsd_values.specs.declared.role.Role.{Role}
use Rattle.dsd_values.specs.declared.role.Role.TheVariants.{Supplier, Receiver}
use Rattle.base_record_894.specs.BaseRecord.{BaseRecord}
use Rattle.base_record_894.specs.WrittenText.{seal_of as base_seal, written_of as base_written}
use Rattle.adjustment_895.specs.AnswerRecord.{AnswerRecord}
use Rattle.adjustment_895.specs.Grammar.{has_none}
use Rattle.adjustment_895.specs.WrittenText.{seal_of as answer_seal, written_of as answer_written}
use Rattle.dsd_record.specs.Applying.{Applies, applied, apply_fault}
use Rattle.dsd_record.specs.ChangedPrice.{IsPriceAfter, price_with}
use Rattle.dsd_record.specs.SetTexts.{IsSet}
use Rattle.dsd_record.specs.Version.{IsVersion, Version}
use Rattle.dsd_record.proofs.Answered.{small_priced}
use Rattle.dsd_pricing.specs.Pricing.{totals_of}
use Rattle.dsd_values.specs.declared.limits.TheConstants.{MOST_LINES}
use Rattle.dsd_values.specs.declared.quantity.TheConstants.{MOST_TOTAL_QUANTITY}
use Rattle.transaction_set.specs.SoundLines.{IsSoundLine}
use Rattle.std.proofs.lemmas.List.Elements.{All-nil}
use Rattle.dsd_record.specs.declared.price_after.ChangeFault.{ChangeFault}
use Rattle.dsd_record.specs.declared.price_after.ChangeFault.TheVariants as changing
use Rattle.dsd_record.specs.declared.set_view.SetView.{SetView}
use Rattle.dsd_record.specs.declared.set_view.SetView.TheVariants as sets
use Rattle.dsd_record.proofs.Faults.{fault_none}
use Rattle.dsd_record.proofs.Prices.{at_price}
use Rattle.dsd_journal.specs.declared.entry.Entry.{Entry}
use Rattle.dsd_journal.specs.declared.entry.EntryKind.TheVariants.{Signed}
use Rattle.delivery_book.specs.Answering.{IsAcceptance, IsAdjustment, answer_to}
use Rattle.delivery_book.specs.Changes.{IsChange}
use Rattle.delivery_book.specs.Deeds.{deeds_of, number_in}
use Rattle.delivery_book.specs.Index.{AreRules, IsFirst, IsKept, IsStand, Stand, kept_in, stand_after}
use Rattle.delivery_book.specs.Lookups.{seen_of}
use Rattle.delivery_book.specs.Outcomes.{Judges}
use Rattle.delivery_book.specs.Refusals.{◌else_try◌, accept_fault, accepting_fault, adjust_fault, adjusting_fault, is_role, priced_fault, propose_fault, when, write_fault}
use Rattle.delivery_book.specs.Signatures.{IsAccepting, IsAcceptingAt, IsAdjusting, IsAdjustingKnown, IsAnswerAdded, IsBaseAdded, IsSignedAnswer, IsSignedBase, IsWrittenAnswer, IsWrittenBase, pricing_fault, stand_accept_fault, stand_adjust_fault}
use Rattle.delivery_book.specs.Signing.{AllowsSet, IsWritten, next_control}
use Rattle.delivery_book.specs.StandFaults.{stand_answer_fault, stand_known_fault, stand_level_fault, stand_offer_fault}
use Rattle.delivery_book.specs.Takings.{IsAdded}
use Rattle.delivery_book.specs.declared.change.Change.{Change}
use Rattle.delivery_book.specs.declared.fault.RuleFault.{RuleFault}
use Rattle.delivery_book.specs.declared.fault.RuleFault.TheVariants.{AlreadyFinal, Memory, NoDelivery, NotOurTurn}
use Rattle.delivery_book.proofs.Allowed.{allowed_set, change_so, own_level_of}
use Rattle.delivery_book.proofs.Bodies.{all_pass}
use Rattle.delivery_book.proofs.Founded.{Founded}
use Rattle.delivery_book.proofs.Grown.{Closes, legal_closes, legal_founded}
use Rattle.delivery_book.proofs.Rebuilt.{seen_there}
use Rattle.delivery_book.proofs.StandExact.{answering_by, levelling_by, offering_by, seen_number}
use Rattle.delivery_book.proofs.TakeExact.{both_none, first_none, is_own, second_none, when_false}

-- ---- answers

-- the answer applies at the price of its lines
pub to_applies : (role : Role) (version : Version) (lines : List Line) (totals : Totals) (signature : SignatureRecord) → IsPriceAfter version lines totals → Applies version (answer_to role version lines totals signature)
to_applies role version lines totals signature price = at_price version (answer_to role version lines totals signature) refl (record { number = refl; level = refl; check = refl }) price

pub priced_err : (role : Role) (control : ℕ) (version : Version) (changes : List Line) (signature : SignatureRecord) (price : Result Totals ChangeFault) (e : RuleFault) → (e ≡ Memory) ⊎ (pricing_fault price ≡ Some e)
    → (e ≡ Memory) ⊎ (priced_fault role control version changes signature price ≡ Some e)
priced_err role control version changes signature price e (inl m) = inl m
priced_err role control version changes signature (Ok totals) e (inr f) = cc
priced_err role control version changes signature (Err (changing.Limit lines)) e (inr f) = inr f
priced_err role control version changes signature (Err (changing.Price fault)) e (inr f) = inr f
priced_err role control version changes signature (Err changing.Memory) e (inr f) = cc

pub priced_ok : (role : Role) (place : ℕ) (stand : Stand) (control : ℕ) (changes : List Line) (signature : SignatureRecord) (totals : Totals) (result : Result Change RuleFault) → price_with stand.seen changes ≡ Ok totals → IsPriceAfter stand.seen changes totals
    → Judges result (write_fault (answer_written (answer_to role stand.seen changes totals signature) control)) (IsSignedAnswer place stand control (answer_to role stand.seen changes totals signature))
    → Judges result (priced_fault role control stand.seen changes signature (price_with stand.seen changes)) (IsAdjusting role place stand control changes signature)
priced_ok role place stand control changes signature totals result price after h =
    subst (λ (p : Result Totals ChangeFault). Judges result (priced_fault role control stand.seen changes signature p) (IsAdjusting role place stand control changes signature)) (sym price) (with_price result h) where
      with_price : (r : Result Change RuleFault) → Judges r (write_fault (answer_written (answer_to role stand.seen changes totals signature) control)) (IsSignedAnswer place stand control (answer_to role stand.seen changes totals signature))
          → Judges r (write_fault (answer_written (answer_to role stand.seen changes totals signature) control)) (IsAdjusting role place stand control changes signature)
      with_price (Ok change) h = (h.0, record { totals = totals; price = price; after = after; signed = h.1 })
      with_price (Err e) h = h

-- ---- over the entries

module _ (role : Role) (entries : List Entry) (list : List (List ℕ × Stand)) (count : ℕ) (r : AreRules role entries list count) where
  abbrev f : Founded role (deeds_of entries)
  f = legal_founded role entries r.legal

  abbrev c : Closes (deeds_of entries)
  c = legal_closes role entries r.legal

  control_is : (control : ℕ) → control ≡ count + 1 → control ≡ next_control entries
  control_is control e = e ∙ ap (λ (n : ℕ). n + 1) r.signed

  -- a set of this end that is allowed
  signed_so : (set : SetView) (text : List ℕ) (is : IsSet set text) → AllowsSet role (deeds_of entries) Signed set → IsWritten set (next_control entries) text → (change : Change)
      → IsAdded (length entries) (kept_in list (number_in set)) (record { kind = Signed; payload = text }) set change → IsChange role entries change × (change.entry ≡ record { kind = Signed; payload = text })
  signed_so set text is allowed written change added =
      change_so role entries list count r Signed text set is allowed (record { written = written; level = own_level_of role entries f set text is allowed }) change added

  -- ---- a base record

  supplier : (role : Role) → is_role role Receiver ≡ false → role ≡ Supplier
  supplier Supplier e = refl
  supplier Receiver e = cc

  none_known : (o : Option Stand) → stand_known_fault o ≡ None → o ≡ None
  none_known None e = refl
  none_known (Some stand) e = cc

  offered : (base : BaseRecord) (control : ℕ) (o : Option Stand) → o ≡ kept_in list base.number → control ≡ count + 1 → (result : Result Change RuleFault)
      → Judges result (stand_offer_fault role o else_try write_fault (base_written base control)) (IsSignedBase (length entries) o control base)
      → Judges result (propose_fault role entries base) (λ change. IsChange role entries change × ((change.entry.kind ≡ Signed) × (base_written base (next_control entries) ≡ Ok change.entry.payload)))
  offered base control o known e (Ok change) h =
      let b = h.1 in
      let at : control ≡ next_control entries = control_is control e in
      let none = first_none (stand_offer_fault role o) (write_fault (base_written base control)) h.0 in
      let own = supplier role (when_false (is_role role Receiver) (NotOurTurn 0) (first_none (when (is_role role Receiver) (NotOurTurn 0)) (stand_known_fault o) none)) in
      let unknown = none_known o (second_none (when (is_role role Receiver) (NotOurTurn 0)) (stand_known_fault o) none) in
      let new = subst (IsKept base.number entries) (sym known ∙ unknown) (r.knows base.number) in
      let written : base_written base (next_control entries) ≡ Ok b.text = ap (base_written base) (sym at) ∙ b.written in
      let set : SetView = sets.Base base (base_seal base control) in
      let added : IsAdded (length entries) o (record { kind = Signed; payload = b.text }) set change = record { entry = b.entry; number = b.number; seen = b.seen; made = b.made; delivery = b.delivery } in
      let s = signed_so set b.text b.spelled (record { side = own; new = new }) written change (subst (λ (x : Option Stand). IsAdded (length entries) x (record { kind = Signed; payload = b.text }) set change) known added) in (
        both_none _ _ (offering_by role base.number entries f c (kept_in list base.number) (r.knows base.number) ∙ ap (stand_offer_fault role) (sym known) ∙ none) (ap write_fault written),
        (s.0, (ap (λ (x : Entry). x.kind) s.1, written ∙ ap (λ (x : Entry). Ok x.payload) (sym s.1))),
      )
  offered base control o known e (Err fault) (inl m) = inl m
  offered base control o known e (Err fault) (inr w) =
      inr (
      ap (λ (x : Option RuleFault). x else_try write_fault (base_written base (next_control entries))) (offering_by role base.number entries f c (kept_in list base.number) (r.knows base.number) ∙ ap (stand_offer_fault role) (sym known))
      ∙ ap (λ (n : ℕ). stand_offer_fault role o else_try write_fault (base_written base n)) (sym (control_is control e)) ∙ w
      )

  pub proposed_so : (base : BaseRecord) (control : ℕ) (o : Option Stand) → o ≡ kept_in list base.number → control ≡ count + 1 → (result : Result Change RuleFault)
      → Judges result (stand_offer_fault role o else_try write_fault (base_written base control)) (IsSignedBase (length entries) o control base)
      → Judges result (propose_fault role entries base) (λ change. IsChange role entries change × ((change.entry.kind ≡ Signed) × (base_written base (next_control entries) ≡ Ok change.entry.payload)))
  proposed_so base control o known e result h = offered base control o known e result h

  -- ---- an answer

  module _ (number : List ℕ) (stand : Stand) (there : kept_in list number ≡ Some stand) where
    stands : IsStand number entries stand
    stands = subst (IsKept number entries) there (r.knows number)

    numbered : stand.seen.number ≡ number
    numbered = seen_number role number entries f c stand stands

    -- an answer that applies may be signed where it is this end's turn
    answer_allowed : (answer : AnswerRecord) (control : ℕ) → answer.number ≡ number → answer.role ≡ role → Applies stand.seen answer → stand_answer_fault (Some stand) ≡ None → AllowsSet role (deeds_of entries) Signed (sets.Answer answer (answer_seal answer control))
    answer_allowed answer control same own applies none =
        let closed = when_false stand.accepted (AlreadyFinal stand.seen.check) (first_none (when stand.accepted (AlreadyFinal stand.seen.check)) _ none) in
        let ours = when_false stand.ours (NotOurTurn stand.seen.level) (second_none (when stand.accepted (AlreadyFinal stand.seen.check)) _ none) in
        allowed_set role entries f Signed (sets.Answer answer (answer_seal answer control)) (Some stand) (subst (λ (n : List ℕ). IsStand n entries stand) (sym same) stands)
        (all_pass (is_role answer.role role) stand.accepted (not stand.ours) (apply_fault stand.seen answer) (is_own answer.role role own) closed (ap not ours) (fault_none stand.seen answer applies))

    answer_change : (answer : AnswerRecord) (control : ℕ) → control ≡ count + 1 → answer.number ≡ number → answer.role ≡ role → Applies stand.seen answer → stand_answer_fault (Some stand) ≡ None → (change : Change) → (b : IsSignedAnswer (length entries) stand control answer change)
        → IsChange role entries change × ((change.entry ≡ record { kind = Signed; payload = b.text }) × (answer_written answer (next_control entries) ≡ Ok b.text))
    answer_change answer control e same own applies none change b =
        let at : control ≡ next_control entries = control_is control e in
        let written : answer_written answer (next_control entries) ≡ Ok b.text = ap (answer_written answer) (sym at) ∙ b.written in
        let kept : kept_in list answer.number ≡ Some stand = ap (kept_in list) same ∙ there in
        let set : SetView = sets.Answer answer (answer_seal answer control) in
        let added : IsAdded (length entries) (Some stand) (record { kind = Signed; payload = b.text }) set change = record { entry = b.entry; number = b.number; seen = _; made = refl; delivery = b.delivery } in
        let s = signed_so set b.text b.spelled (answer_allowed answer control same own applies none) written change (subst (λ (o : Option Stand). IsAdded (length entries) o (record { kind = Signed; payload = b.text }) set change) (sym kept) added) in
        (s.0, (s.1, written))

    seen_is : seen_of entries number ≡ Some stand.seen
    seen_is = seen_there number entries stand stands

    accepted : (signature : SignatureRecord) (control : ℕ) → control ≡ count + 1 → (result : Result Change RuleFault) → Judges result (stand_accept_fault role control (Some stand) signature) (IsAcceptingAt role (length entries) stand control signature)
        → Judges result (accept_fault role entries number signature) (λ change. IsChange role entries change × ((change.entry.kind ≡ Signed) × IsAcceptance role entries number signature change.entry.payload))
    accepted signature control e (Ok change) h =
        let answer : AnswerRecord = answer_to role stand.seen [] stand.seen.totals signature in
        let none = first_none (stand_answer_fault (Some stand)) _ h.0 in
        let s = answer_change answer control e numbered refl (to_applies role stand.seen [] stand.seen.totals signature h.1.price) none change h.1.signed in
        let written : answer_written answer (next_control entries) ≡ Ok change.entry.payload = s.1.1 ∙ ap (λ (x : Entry). Ok x.payload) (sym s.1.0) in (
          both_none _ _ (answering_by role number entries f c (kept_in list number) (r.knows number) ∙ ap stand_answer_fault there ∙ none)
              (ap (λ (o : Option Version). accepting_fault role (next_control entries) o signature) seen_is ∙ ap write_fault written),
          (s.0, (ap (λ (x : Entry). x.kind) s.1.0, record { version = stand.seen; seen = seen_is; written = written })),
        )
    accepted signature control e (Err fault) (inl m) = inl m
    accepted signature control e (Err fault) (inr w) =
        inr (
        ap (λ (o : Option RuleFault). o else_try accepting_fault role (next_control entries) (seen_of entries number) signature) (answering_by role number entries f c (kept_in list number) (r.knows number) ∙ ap stand_answer_fault there)
        ∙ ap (λ (o : Option Version). stand_answer_fault (Some stand) else_try accepting_fault role (next_control entries) o signature) seen_is
        ∙ ap (λ (n : ℕ). stand_answer_fault (Some stand) else_try write_fault (answer_written (answer_to role stand.seen [] stand.seen.totals signature) n)) (sym (control_is control e)) ∙ w
        )

    adjusting : (changes : List Line) (signature : SignatureRecord) (control : ℕ) → control ≡ count + 1 → (result : Result Change RuleFault) → Judges result (stand_adjust_fault role control (Some stand) changes signature) (IsAdjusting role (length entries) stand control changes signature)
        → Judges result (adjust_fault role entries number changes signature) (λ change. IsChange role entries change × ((change.entry.kind ≡ Signed) × IsAdjustment role entries number changes signature change.entry.payload))
    adjusting changes signature control e (Ok change) h =
        let b = h.1 in
        let answer : AnswerRecord = answer_to role stand.seen changes b.totals signature in
        let none = first_none (stand_level_fault (Some stand)) _ h.0 in
        let turn = first_none (stand_answer_fault (Some stand)) _ none in
        let s = answer_change answer control e numbered refl (to_applies role stand.seen changes b.totals signature b.after) turn change b.signed in
        let written : answer_written answer (next_control entries) ≡ Ok change.entry.payload = s.1.1 ∙ ap (λ (x : Entry). Ok x.payload) (sym s.1.0) in (
          both_none _ _ (levelling_by role number entries f c (kept_in list number) (r.knows number) ∙ ap stand_level_fault there ∙ none)
              (ap (λ (o : Option Version). adjusting_fault role (next_control entries) o changes signature) seen_is
              ∙ ap (priced_fault role (next_control entries) stand.seen changes signature) b.price ∙ ap write_fault written),
          (s.0, (ap (λ (x : Entry). x.kind) s.1.0, record { version = stand.seen; seen = seen_is; totals = b.totals; price = b.price; written = written })),
        )
    adjusting changes signature control e (Err fault) (inl m) = inl m
    adjusting changes signature control e (Err fault) (inr w) =
        inr (
        ap (λ (o : Option RuleFault). o else_try adjusting_fault role (next_control entries) (seen_of entries number) changes signature) (levelling_by role number entries f c (kept_in list number) (r.knows number) ∙ ap stand_level_fault there)
        ∙ ap (λ (o : Option Version). stand_level_fault (Some stand) else_try adjusting_fault role (next_control entries) o changes signature) seen_is
        ∙ ap (λ (n : ℕ). stand_level_fault (Some stand) else_try priced_fault role n stand.seen changes signature (price_with stand.seen changes)) (sym (control_is control e)) ∙ w
        )

  never_known : {X : Type 0} (first rest : Option RuleFault) (P : X → Type 0) (result : Result X RuleFault) (e : RuleFault) → first ≡ Some e → Judges result (Some e) (λ _. ⊥) → Judges result (first else_try rest) P
  never_known first rest P (Ok x) e same h = absurd h.1
  never_known first rest P (Err fault) e same (inl m) = inl m
  never_known first rest P (Err fault) e same (inr w) = inr (ap (λ (o : Option RuleFault). o else_try rest) same ∙ w)

  pub accepted_so : (number : List ℕ) (signature : SignatureRecord) (control : ℕ) (o : Option Stand) → o ≡ kept_in list number → control ≡ count + 1 → (result : Result Change RuleFault) → Judges result (stand_accept_fault role control o signature) (IsAccepting role (length entries) o control signature)
      → Judges result (accept_fault role entries number signature) (λ change. IsChange role entries change × ((change.entry.kind ≡ Signed) × IsAcceptance role entries number signature change.entry.payload))
  accepted_so number signature control (Some stand) known e result h = accepted number stand (sym known) signature control e result h
  accepted_so number signature control None known e result h =
      never_known _ _ _ result NoDelivery (answering_by role number entries f c (kept_in list number) (r.knows number) ∙ ap stand_answer_fault (sym known)) h

  pub adjusted_so : (number : List ℕ) (changes : List Line) (signature : SignatureRecord) (control : ℕ) (o : Option Stand) → o ≡ kept_in list number → control ≡ count + 1 → (result : Result Change RuleFault) → Judges result (stand_adjust_fault role control o changes signature) (IsAdjustingKnown role (length entries) o control changes signature)
      → Judges result (adjust_fault role entries number changes signature) (λ change. IsChange role entries change × ((change.entry.kind ≡ Signed) × IsAdjustment role entries number changes signature change.entry.payload))
  adjusted_so number changes signature control (Some stand) known e result h = adjusting number stand (sym known) changes signature control e result h
  adjusted_so number changes signature control None known e result h =
      never_known _ _ _ result NoDelivery (levelling_by role number entries f c (kept_in list number) (r.knows number) ∙ ap stand_level_fault (sym known)) h

-- ---- steps

pub base_signed : (place control : ℕ) (old : Option Stand) (base : BaseRecord) (sealed : List ℕ × ℕ) (result : Result Change RuleFault) → (write_fault (base_written base control) ≡ None) × IsWrittenBase base control sealed → Judges result None (IsBaseAdded place old base sealed.1 sealed.0)
    → Judges result (write_fault (base_written base control)) (IsSignedBase place old control base)
base_signed place control old base sealed (Ok change) w h =
    (w.0, record { text = sealed.0; entry = h.1.entry; written = w.1.written; spelled = w.1.spelled; number = h.1.number; seen = h.1.seen; made = subst (λ (n : ℕ). IsFirst base n h.1.seen) w.1.check h.1.made; delivery = h.1.delivery })
base_signed place control old base sealed (Err e) w (inl m) = inl m
base_signed place control old base sealed (Err e) w (inr f) = cc

pub answer_signed : (place control : ℕ) (old : Stand) (answer : AnswerRecord) (sealed : List ℕ × ℕ) (result : Result Change RuleFault) → (write_fault (answer_written answer control) ≡ None) × IsWrittenAnswer answer control sealed → Judges result None (IsAnswerAdded place old answer sealed.1 sealed.0)
    → Judges result (write_fault (answer_written answer control)) (IsSignedAnswer place old control answer)
answer_signed place control old answer sealed (Ok change) w h = (
  w.0,
  record {
    text = sealed.0;
    entry = h.1.entry;
    written = w.1.written;
    spelled = w.1.spelled;
    number = h.1.number;
    delivery = h.1.delivery ∙ ap (λ (n : ℕ). stand_after Signed place (has_none answer.lines) (applied old.seen answer n) (Some old)) w.1.check;
  },
)
answer_signed place control old answer sealed (Err e) w (inl m) = inl m
answer_signed place control old answer sealed (Err e) w (inr f) = cc

-- where the first test lets it, the second is asked
pub asked_next : {X : Type 0} (first second : Option RuleFault) (P : X → Type 0) (result : Result X RuleFault) → first ≡ None → Judges result second P → Judges result (first else_try second) P
asked_next first second P result e h = subst (λ (o : Option RuleFault). Judges result (o else_try second) P) (sym e) h

pub asked_first : (first second : Option RuleFault) (e : RuleFault) → (e ≡ Memory) ⊎ (first ≡ Some e) → (e ≡ Memory) ⊎ ((first else_try second) ≡ Some e)
asked_first first second e (inl m) = inl m
asked_first first second e (inr f) = inr (ap (λ (o : Option RuleFault). o else_try second) f)

module _ (role : Role) (place control : ℕ) (signature : SignatureRecord) where
  pub accept_ok : (o : Option Stand) (stand : Stand) (result : Result Change RuleFault) → o ≡ Some stand → stand_answer_fault o ≡ None
      → Judges result (write_fault (answer_written (answer_to role stand.seen [] stand.seen.totals signature) control)) (IsAcceptingAt role place stand control signature)
      → Judges result (stand_accept_fault role control o signature) (IsAccepting role place o control signature)
  accept_ok o stand result there none h =
      subst (λ (x : Option Stand). Judges result (stand_accept_fault role control x signature) (IsAccepting role place x control signature)) (sym there)
      (asked_next (stand_answer_fault (Some stand)) _ (IsAcceptingAt role place stand control signature) result (ap stand_answer_fault (sym there) ∙ none) h)

  pub accept_no : (o : Option Stand) (e : RuleFault) → (e ≡ Memory) ⊎ (stand_answer_fault o ≡ Some e) → (e ≡ Memory) ⊎ (stand_accept_fault role control o signature ≡ Some e)
  accept_no (Some stand) e h = asked_first (stand_answer_fault (Some stand)) _ e h
  accept_no None e h = h

  pub adjust_ok : (o : Option Stand) (stand : Stand) (changes : List Line) (result : Result Change RuleFault) → o ≡ Some stand → stand_level_fault o ≡ None
      → Judges result (priced_fault role control stand.seen changes signature (price_with stand.seen changes)) (IsAdjusting role place stand control changes signature)
      → Judges result (stand_adjust_fault role control o changes signature) (IsAdjustingKnown role place o control changes signature)
  adjust_ok o stand changes result there none h =
      subst (λ (x : Option Stand). Judges result (stand_adjust_fault role control x changes signature) (IsAdjustingKnown role place x control changes signature)) (sym there)
      (asked_next (stand_level_fault (Some stand)) _ (IsAdjusting role place stand control changes signature) result (ap stand_level_fault (sym there) ∙ none) h)

  pub adjust_no : (o : Option Stand) (changes : List Line) (e : RuleFault) → (e ≡ Memory) ⊎ (stand_level_fault o ≡ Some e) → (e ≡ Memory) ⊎ (stand_adjust_fault role control o changes signature ≡ Some e)
  adjust_no (Some stand) changes e h = asked_first (stand_level_fault (Some stand)) _ e h
  adjust_no None changes e h = h

-- an acceptance that is written applies
pub accepting_at : (role : Role) (place control : ℕ) (stand : Stand) (signature : SignatureRecord) (answer : AnswerRecord) (result : Result Change RuleFault) → answer ≡ answer_to role stand.seen [] stand.seen.totals signature → IsPriceAfter stand.seen [] stand.seen.totals
    → Judges result (write_fault (answer_written answer control)) (IsSignedAnswer place stand control answer)
    → Judges result (write_fault (answer_written (answer_to role stand.seen [] stand.seen.totals signature) control)) (IsAcceptingAt role place stand control signature)
accepting_at role place control stand signature answer result is price h =
    whole result (subst (λ (a : AnswerRecord). Judges result (write_fault (answer_written a control)) (IsSignedAnswer place stand control a)) is h) where
      whole : (r : Result Change RuleFault) → Judges r (write_fault (answer_written (answer_to role stand.seen [] stand.seen.totals signature) control)) (IsSignedAnswer place stand control (answer_to role stand.seen [] stand.seen.totals signature))
          → Judges r (write_fault (answer_written (answer_to role stand.seen [] stand.seen.totals signature) control)) (IsAcceptingAt role place stand control signature)
      whole (Ok change) h = (h.0, record { price = price; signed = h.1 })
      whole (Err e) h = h

-- what is signed applies to the version of the highest proposal
pub signs_at : (role : Role) (seen version : Version) (lines changes : List Line) (totals : Totals) (signature : SignatureRecord) (answer : AnswerRecord) → seen ≡ version → lines ≡ changes → answer ≡ answer_to role seen lines totals signature → IsPriceAfter version changes totals
    → Applies version answer
signs_at role seen version lines changes totals signature answer e l a price =
    subst (Applies version) (sym (a ∙ ap (λ (v : Version). answer_to role v lines totals signature) e ∙ ap (λ (x : List Line). answer_to role version x totals signature) l)) (to_applies role version changes totals signature price)

pub accepts_at : (role : Role) (seen version : Version) (signature : SignatureRecord) (answer : AnswerRecord) → seen ≡ version → answer ≡ answer_to role seen [] seen.totals signature → answer ≡ answer_to role version [] version.totals signature
accepts_at role seen version signature answer e a = a ∙ ap (λ (v : Version). answer_to role v [] v.totals signature) e

pub accept_applies : (role : Role) (seen version : Version) (signature : SignatureRecord) (answer : AnswerRecord) → seen ≡ version → answer ≡ answer_to role seen [] seen.totals signature → IsPriceAfter seen [] seen.totals → Applies version answer
accept_applies role seen version signature answer e a price =
    subst (λ (v : Version). Applies v answer) e (subst (Applies seen) (sym a) (to_applies role seen [] seen.totals signature price))

-- the totals of a version may be stated
pub few_units : (version : Version) (totals : Totals) → IsVersion version → length version.lines ≤ MOST_LINES → totals_of version.lines version.extras ≡ Ok totals → totals.quantity ≤ MOST_TOTAL_QUANTITY
few_units version totals is few price = small_priced version [] totals is (record { sound = All-nil IsSoundLine; apart = tt }) (record { few = few; price = price })
