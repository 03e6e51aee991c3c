-- A set that is taken, or passed over.
use Rattle.std.proofs.Common.{◌≡◌, ℕ, ◌+◌, Bool, true, false, not, if◌then◌else◌, length, List, [], ◌∷◌, ◌++◌, Option, Some, None, Result, Ok, Err, refl, sym, ◌∙◌, ap, subst, inl, inr}
use Rattle.dsd_values.specs.declared.role.Role.{Role}
use Rattle.dsd_values.specs.declared.role.Role.TheVariants.{Supplier}
use Rattle.transaction_set.specs.Refusal.{Refusal}
use Rattle.adjustment_895.specs.AnswerRecord.{AnswerRecord}
use Rattle.dsd_record.specs.ReadSets.{set_in}
use Rattle.dsd_record.specs.SetTexts.{set_refusal}
use Rattle.dsd_record.specs.declared.fault.ApplyFault.{ApplyFault}
use Rattle.dsd_record.specs.declared.set_view.SetView.{SetView}
use Rattle.dsd_record.specs.declared.set_view.SetView.TheVariants as sets
use Rattle.dsd_record.proofs.Sets.{not_refused}
use Rattle.dsd_journal.specs.JournalImage.{gate_place}
use Rattle.dsd_journal.specs.declared.adding_fault.StageFault.{StageFault}
use Rattle.dsd_journal.specs.declared.adding_fault.StageFault.TheVariants as stages
use Rattle.dsd_journal.specs.declared.entry.Entry.{Entry}
use Rattle.dsd_journal.specs.declared.entry.EntryKind.TheVariants.{Took}
use Rattle.delivery_book.specs.Books.{Refuses}
use Rattle.delivery_book.specs.Deeds.{Deed, deeds_of, level_in, taken_texts}
use Rattle.delivery_book.specs.Refusals.{◌else_try◌, applying_fault, as_apply, by, check_named, is_lower, is_right_level, is_role, named_fault, own_named, read_fault, refused_as, take_fault, top_level, was_taken, when}
use Rattle.delivery_book.specs.Signing.{Legal}
use Rattle.delivery_book.specs.Standing.{acceptance_of, highest_of, version_at}
use Rattle.delivery_book.specs.declared.book_fault.BookFault.{BookFault}
use Rattle.delivery_book.specs.declared.book_fault.BookFault.TheVariants as books
use Rattle.delivery_book.specs.declared.fault.RuleFault.{RuleFault}
use Rattle.delivery_book.specs.declared.fault.RuleFault.TheVariants as rules
use Rattle.delivery_book.proofs.Grown.{legal_founded, legal_last, legal_more}
use Rattle.delivery_book.proofs.TakeExact.{faultless_taken, taken_faultless}
use Rattle.delivery_book.proofs.Members.{to_contains}
use Rattle.own_turn.specs.Desks.{DeskView, desk_of}
use Rattle.own_turn.specs.DueSets.{with_known_set}
use Rattle.own_turn.specs.NextEntry.{AddsNext}
use Rattle.own_turn.specs.OwnTurn.{StaysLegal, TakesSet, passed_over, took, with_entry}
use Rattle.own_turn.specs.Staging.{IsStaging, PassesOver, StagesTo, as_refusal}
use Rattle.own_turn.specs.declared.refusal.Refusal.TheVariants as refusals
use Rattle.own_turn.proofs.LegalTexts.{any_in, taken_set}

-- ---- what a refusal says

-- a set that stays legal is refused for no rule
legal_faultless : (role : Role) (entries : List Entry) (text : List ℕ) → Legal role entries → StaysLegal role entries (took text) → take_fault role entries text ≡ None
legal_faultless role entries text legal stays = taken_faultless role entries text (legal_founded role entries legal) (legal_last role entries (took text) stays)

faultless_legal : (role : Role) (entries : List Entry) (text : List ℕ) → Legal role entries → take_fault role entries text ≡ None → StaysLegal role entries (took text)
faultless_legal role entries text legal none = legal_more role entries (took text) legal (faultless_taken role entries text (legal_founded role entries legal) none)

refused_not : (role : Role) (entries : List Entry) (text : List ℕ) (fault : RuleFault) → Legal role entries → take_fault role entries text ≡ Some fault → StaysLegal role entries (took text) → ⊥
refused_not role entries text fault legal e stays = let none = legal_faultless role entries text legal stays in cc

-- ---- whether it was taken

-- a text that was taken is no text without a set
taken_read : (role : Role) (entries : List Entry) (text : List ℕ) → Legal role entries → was_taken text entries ≡ true → set_refusal text ≡ None
taken_read role entries text legal e =
    let is = taken_set role entries text legal (to_contains (taken_texts entries) text (any_in (taken_texts entries) text e)) in
    not_refused text is.0 is.1

-- no other rule says that it was
apply_not_known : (o : Option ApplyFault) → as_apply o ≡ Some rules.Known → ⊥
apply_not_known (Some fault) e = cc
apply_not_known None e = cc

when_else : (test : Bool) (fault : RuleFault) (rest : Option RuleFault) → (fault ≡ rules.Known → ⊥) → (rest ≡ Some rules.Known → ⊥) → (when test fault else_try rest) ≡ Some rules.Known → ⊥
when_else true fault rest first later e = let k : fault ≡ rules.Known = cc in first k
when_else false fault rest first later e = later e

by_else : (o : Option Deed) (fault : Deed → RuleFault) (rest : Option RuleFault) → ((deed : Deed) → fault deed ≡ rules.Known → ⊥) → (rest ≡ Some rules.Known → ⊥) → (by o fault else_try rest) ≡ Some rules.Known → ⊥
by_else (Some deed) fault rest first later e = let k : fault deed ≡ rules.Known = cc in first deed k
by_else None fault rest first later e = later e

by_not_known : (o : Option Deed) (fault : Deed → RuleFault) → ((deed : Deed) → fault deed ≡ rules.Known → ⊥) → by o fault ≡ Some rules.Known → ⊥
by_not_known (Some deed) fault first e = let k : fault deed ≡ rules.Known = cc in first deed k
by_not_known None fault first e = cc

named_not_known : (o : Option Deed) (deeds : List Deed) (answer : AnswerRecord) → named_fault o deeds answer ≡ Some rules.Known → ⊥
named_not_known None deeds answer e = cc
named_not_known (Some named) deeds answer e =
    by_else (acceptance_of answer.number deeds) (λ (deed : Deed). rules.AlreadyFinal (check_named deed.set)) _ (λ deed k. cc)
    (when_else (is_lower named (highest_of answer.number deeds)) (rules.Stale (top_level (highest_of answer.number deeds))) (as_apply (applying_fault (version_at deeds named) answer)) (λ k. cc)
    (apply_not_known (applying_fault (version_at deeds named) answer))) e

set_not_known : (role : Role) (deeds : List Deed) (o : Option SetView) → read_fault o role deeds ≡ Some rules.Known → ⊥
set_not_known role deeds None e = cc
set_not_known role deeds (Some (sets.Base base seal)) e =
    when_else (is_role role Supplier) rules.WrongSide (by (highest_of base.number deeds) (λ (top : Deed). rules.Stale (level_in top.set))) (λ k. cc)
    (by_not_known (highest_of base.number deeds) (λ (top : Deed). rules.Stale (level_in top.set)) (λ deed k. cc)) e
set_not_known role deeds (Some (sets.Answer answer seal)) e =
    when_else (is_role answer.role role) rules.WrongSide _ (λ k. cc)
    (when_else (not (is_right_level answer)) rules.WrongSide (named_fault (own_named answer deeds) deeds answer) (λ k. cc) (named_not_known (own_named answer deeds) deeds answer)) e

known_at : (refusal : Option Refusal) (was : Bool) (rest : Option RuleFault) → (refused_as refusal else_try (when was rules.Known else_try rest)) ≡ Some rules.Known → (refusal ≡ None → rest ≡ Some rules.Known → ⊥) → was ≡ true
known_at (Some refusal) was rest e other = cc
known_at None true rest e other = refl
known_at None false rest e other = absurd (other refl e)

not_known_at : (refusal : Option Refusal) (was : Bool) (rest : Option RuleFault) (fault : RuleFault) → (refused_as refusal else_try (when was rules.Known else_try rest)) ≡ Some fault → (fault ≡ rules.Known → ⊥) → (was ≡ true → refusal ≡ None) → was ≡ false
not_known_at refusal false rest fault e not_it read = refl
not_known_at (Some refusal) true rest fault e not_it read = let none = read refl in cc
not_known_at None true rest fault e not_it read = let k : fault ≡ rules.Known = cc in absurd (not_it k)

is_known : (role : Role) (entries : List Entry) (text : List ℕ) → take_fault role entries text ≡ Some rules.Known → was_taken text entries ≡ true
is_known role entries text e = known_at (set_refusal text) (was_taken text entries) (read_fault (set_in text) role (deeds_of entries)) e (λ _. set_not_known role (deeds_of entries) (set_in text))

not_known : (role : Role) (entries : List Entry) (text : List ℕ) (fault : RuleFault) → Legal role entries → (fault ≡ rules.Known → ⊥) → take_fault role entries text ≡ Some fault → was_taken text entries ≡ false
not_known role entries text fault legal other e = not_known_at (set_refusal text) (was_taken text entries) (read_fault (set_in text) role (deeds_of entries)) fault e other (taken_read role entries text legal)

-- ---- what a set comes to

module _ (role : Role) (text : List ℕ) (old new : DeskView) (legal : Legal role old.book.known) where
  abbrev Exact : Result (Unit {0}) StageFault → Type 0
  Exact result = StagesTo result (TakesSet role text) (AddsNext (TakesSet role text)) old new

  passed_known : was_taken text old.book.known ≡ true → new ≡ record old { asked = with_known_set old.asked (set_in text) } → desk_of new ≡ passed_over (desk_of old) text
  passed_known was e =
      ap desk_of e ∙ sym (ap (λ (b : Bool). (if b then record (desk_of old) { asked = with_known_set old.asked (set_in text) } else record (desk_of old) { refused = old.refused + 1 })) was)

  passed_refused : was_taken text old.book.known ≡ false → new ≡ record old { refused = old.refused + 1 } → desk_of new ≡ passed_over (desk_of old) text
  passed_refused was e =
      ap desk_of e ∙ sym (ap (λ (b : Bool). (if b then record (desk_of old) { asked = with_known_set old.asked (set_in text) } else record (desk_of old) { refused = old.refused + 1 })) was)

  by_known : (result : Result (Unit {0}) StageFault) → take_fault role old.book.known text ≡ Some rules.Known → PassesOver refusals.Known text result old new → Exact result
  by_known (Ok done) e p = inr (refused_not role old.book.known text rules.Known legal e, passed_known (is_known role old.book.known text e) p.0)
  by_known (Err stages.Memory) e p = tt
  by_known (Err (stages.Full n)) e p = let no : stages.Full n ≡ stages.Memory = p.1 in cc

  by_rule : (result : Result (Unit {0}) StageFault) (fault : RuleFault) → (fault ≡ rules.Known → ⊥) → take_fault role old.book.known text ≡ Some fault → PassesOver refusals.Rules text result old new → Exact result
  by_rule (Ok done) fault other e p = inr (refused_not role old.book.known text fault legal e, passed_refused (not_known role old.book.known text fault legal other e) p.0)
  by_rule (Err stages.Memory) fault other e p = tt
  by_rule (Err (stages.Full n)) fault other e p = let no : stages.Full n ≡ stages.Memory = p.1 in cc

  by_full : (result : Result (Unit {0}) StageFault) (n : ℕ) → IsStaging old.book → Refuses (books.Full n) (take_fault role old.book.known text) Took (λ t. t ≡ text) old.book → (result ≡ Err (stages.Full n)) × (new ≡ old) → Exact result
  by_full result n staging (none, (t, is, _, size, long)) (e, same) =
      let told : Exact (Err (stages.Full n)) = record {
        entry = took text;
        next = record {
          new = with_entry (desk_of old) (took text);
          step = inl (faultless_legal role old.book.known text legal none, refl);
          behind = ap (λ (d : DeskView). d.book.known) (sym same);
          added = ap (λ (d : DeskView). d.book.known ++ took text ∷ []) (sym same);
        };
        size = size ∙ ap (λ (l : List Entry). gate_place l + 7 + length t) (sym (ap (λ (d : DeskView). d.book.known) same ∙ staging.known)) ∙ ap (λ (l : List ℕ). gate_place new.book.known + 7 + length l) is;
        long = long;
      } in subst Exact (sym e) told

  -- it is not
  pub set_passed : (result : Result (Unit {0}) StageFault) (fault : BookFault) → IsStaging old.book → Refuses fault (take_fault role old.book.known text) Took (λ t. t ≡ text) old.book → PassesOver (as_refusal fault) text result old new → Exact result
  set_passed result (books.Full n) staging r p = by_full result n staging r p
  set_passed result books.Station staging r p = absurd r
  set_passed result books.Memory staging r p = subst Exact (sym p.0) tt
  set_passed result books.Known staging r p = by_known result r p
  set_passed result (books.NotOurTurn level) staging r p = by_rule result (rules.NotOurTurn level) (λ k. cc) r p
  set_passed result (books.AlreadySigned level) staging r p = by_rule result (rules.AlreadySigned level) (λ k. cc) r p
  set_passed result (books.UnknownSet check) staging r p = by_rule result (rules.UnknownSet check) (λ k. cc) r p
  set_passed result (books.AlreadyFinal check) staging r p = by_rule result (rules.AlreadyFinal check) (λ k. cc) r p
  set_passed result books.LevelLimit staging r p = by_rule result rules.LevelLimit (λ k. cc) r p
  set_passed result (books.Stale level) staging r p = by_rule result (rules.Stale level) (λ k. cc) r p
  set_passed result (books.Apply fault) staging r p = by_rule result (rules.Apply fault) (λ k. cc) r p
  set_passed result books.NoDelivery staging r p = by_rule result rules.NoDelivery (λ k. cc) r p
  set_passed result (books.Set fault) staging r p = by_rule result (rules.Set fault) (λ k. cc) r p
  set_passed result (books.Write fault) staging r p = by_rule result (rules.Write fault) (λ k. cc) r p
  set_passed result books.WrongSide staging r p = by_rule result rules.WrongSide (λ k. cc) r p
