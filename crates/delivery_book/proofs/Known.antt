-- Whether a text was taken, by the places of the taken sets of its delivery.
use Rattle.std.proofs.Common.{◌≡◌, ◌⊎◌, ℕ, Bool, true, false, not, ◌||◌, bytes_eq, List, [], ◌∷◌, map, filter, Option, Some, None, Result, Ok, Err, inl, inr, refl, sym, ap, subst, ◌∙◌}
use Rattle.std.specs.List.{list_any}
use Rattle.std.proofs.lemmas.Slice.Eq.{bytes_eq-Decides}
use Rattle.dsd_values.specs.declared.role.Role.{Role}
use Rattle.transaction_set.specs.Refusal.{Refusal}
use Rattle.dsd_record.specs.ReadSets.{set_in}
use Rattle.dsd_record.specs.SetTexts.{IsSet}
use Rattle.dsd_record.specs.declared.set_view.SetView.{SetView}
use Rattle.dsd_record.proofs.ReadOnce.{set_in_is}
use Rattle.dsd_record.proofs.Sets.{not_refused}
use Rattle.dsd_journal.specs.declared.entry.Entry.{Entry}
use Rattle.dsd_journal.specs.declared.entry.EntryKind.TheVariants.{Took}
use Rattle.delivery_book.specs.Changes.{IsChange, is_taken_at, is_text}
use Rattle.delivery_book.specs.Deeds.{Deed, deeds_of, is_signed, number_in, of_delivery, taken_texts}
use Rattle.delivery_book.specs.Index.{AreRules, IsKept, Stand, history_of, kept_in, text_at}
use Rattle.delivery_book.specs.Outcomes.{Judges}
use Rattle.delivery_book.specs.Refusals.{◌else_try◌, read_fault, refused_as, set_fault, take_fault, was_taken, when}
use Rattle.delivery_book.specs.StandFaults.{stand_fault}
use Rattle.delivery_book.specs.Takings.{IsTaken}
use Rattle.delivery_book.specs.declared.change.Change.{Change}
use Rattle.delivery_book.specs.declared.fault.RuleFault.{RuleFault}
use Rattle.delivery_book.specs.declared.fault.RuleFault.TheVariants.{Known, Memory}
use Rattle.delivery_book.proofs.Allowed.{change_so}
use Rattle.delivery_book.proofs.Grown.{legal_closes, legal_founded}
use Rattle.delivery_book.proofs.Listed.{in_map, map_in, taken_text}
use Rattle.delivery_book.proofs.Members.{In, filter_in, from_contains, in_filter}
use Rattle.delivery_book.proofs.Standings.{in_delivery, none_of_new}
use Rattle.delivery_book.proofs.StandExact.{taking_by}
use Rattle.delivery_book.proofs.TakeExact.{second_none, set_allowed, taken_deed, taken_kind}

-- ---- tests of lists

record Passing {X : Type 0} (test : X → Bool) (xs : List X) : Type 0 where
  one : X
  among : In one xs
  holds : test one ≡ true

any_step : {X : Type 0} (test : X → Bool) (x : X) (xs : List X) (b : Bool) → test x ≡ b → (list_any test xs ≡ true → Passing test xs) → (b || list_any test xs) ≡ true → Passing test (x ∷ xs)
any_step test x xs true t ih e = record { one = x; among = inl refl; holds = t }
any_step test x xs false t ih e = let p = ih e in record { one = p.one; among = inr p.among; holds = p.holds }

passing : {X : Type 0} (test : X → Bool) (xs : List X) → list_any test xs ≡ true → Passing test xs
passing test [] e = cc
passing test (x ∷ xs) e = any_step test x xs (test x) refl (passing test xs) e

any_more : {X : Type 0} (test : X → Bool) (y : X) (ys : List X) (x : X) (b : Bool) → test y ≡ b → test x ≡ true → (In x ys → list_any test ys ≡ true) → (y ≡ x) ⊎ In x ys → (b || list_any test ys) ≡ true
any_more test y ys x true t p ih h = refl
any_more test y ys x false t p ih (inl e) = let never : false ≡ true = sym t ∙ ap test e ∙ p in cc
any_more test y ys x false t p ih (inr h) = ih h

any_of : {X : Type 0} (test : X → Bool) (xs : List X) (x : X) → In x xs → test x ≡ true → list_any test xs ≡ true
any_of test [] x h p = absurd h
any_of test (y ∷ ys) x h p = any_more test y ys x (test y) refl p (λ i. any_of test ys x i p) h

same_bool : (a b : Bool) → (a ≡ true → b ≡ true) → (b ≡ true → a ≡ true) → a ≡ b
same_bool true b to from = sym (to refl)
same_bool false true to from = let never = from refl in cc
same_bool false false to from = refl

is_some_text : (text : List ℕ) (o : Option (List ℕ)) → is_text text o ≡ true → o ≡ Some text
is_some_text text (Some other) e = ap (λ (t : List ℕ). Some t) ((bytes_eq-Decides other text).0 e)
is_some_text text None e = cc

some_text_is : (text : List ℕ) (o : Option (List ℕ)) → o ≡ Some text → is_text text o ≡ true
some_text_is text o e = ap (is_text text) e ∙ (bytes_eq-Decides text text).1 refl

same_text : (a b : List ℕ) → Some a ≡ Some b → a ≡ b
same_text a b e = cc

-- ---- the taken sets of a delivery

abbrev theirs : Deed → Bool
theirs deed = not (is_signed deed.kind)

module _ (entries : List Entry) (text : List ℕ) (set : SetView) (read : set_in text ≡ Some set) where
  abbrev of_its : List Deed
  of_its = filter theirs (of_delivery (number_in set) (deeds_of entries))

  found_taken : (places : List ℕ) → map (λ (deed : Deed). Some deed.text) of_its ≡ map (text_at entries) places → is_taken_at text entries places ≡ true → was_taken text entries ≡ true
  found_taken places same e =
      let p = passing (λ (place : ℕ). is_text text (text_at entries place)) places e in
      let h : In (Some text) (map (λ (deed : Deed). Some deed.text) of_its) =
      subst (λ (l : List (Option (List ℕ))). In (Some text) l) (sym same) (subst (λ (o : Option (List ℕ)). In o (map (text_at entries) places)) (is_some_text text (text_at entries p.one) p.holds) (in_map (text_at entries) places p.one p.among)) in
      let m = map_in (λ (deed : Deed). Some deed.text) of_its (Some text) h in
      let q = filter_in theirs (of_delivery (number_in set) (deeds_of entries)) m.from m.among in
      let d = filter_in (λ (deed : Deed). bytes_eq (number_in deed.set) (number_in set)) (deeds_of entries) m.from q.among in
      any_of (λ (taken : List ℕ). bytes_eq taken text) (taken_texts entries) m.from.text (from_contains (taken_texts entries) m.from.text (taken_text entries m.from d.among (taken_kind m.from.kind q.holds)))
      ((bytes_eq-Decides m.from.text text).1 (same_text m.from.text text m.same))

  taken_found : (places : List ℕ) → map (λ (deed : Deed). Some deed.text) of_its ≡ map (text_at entries) places → was_taken text entries ≡ true → is_taken_at text entries places ≡ true
  taken_found places same e =
      let deed : Deed = record { kind = Took; text = text; set = set } in
      let h = in_filter theirs (of_delivery (number_in set) (deeds_of entries)) deed (in_delivery (number_in set) (deeds_of entries) deed (taken_deed entries text set read e) refl) refl in
      let i : In (Some text) (map (text_at entries) places) = subst (λ (l : List (Option (List ℕ))). In (Some text) l) same (in_map (λ (d : Deed). Some d.text) of_its deed h) in
      let m = map_in (text_at entries) places (Some text) i in
      any_of (λ (place : ℕ). is_text text (text_at entries place)) places m.from m.among (some_text_is text (text_at entries m.from) m.same)

  never_new : (places : List ℕ) → was_taken text entries ≡ true → of_delivery (number_in set) (deeds_of entries) ≡ [] → ⊥
  never_new places e new = none_of_new (number_in set) (deeds_of entries) (record { kind = Took; text = text; set = set }) new (taken_deed entries text set read e) refl

  pub known_by : (o : Option Stand) → IsKept (number_in set) entries o → is_taken_at text entries (history_of o).taken ≡ was_taken text entries
  known_by (Some stand) s = same_bool _ _ (found_taken stand.history.taken s.history.taken) (taken_found stand.history.taken s.history.taken)
  known_by None new = same_bool false (was_taken text entries) (λ e. cc) (λ e. absurd (never_new [] e new))

-- ---- what is taken

module _ (role : Role) (entries : List Entry) (list : List (List ℕ × Stand)) (count : ℕ) (r : AreRules role entries list count) (text : List ℕ) (set : SetView) (is : IsSet set text) where
  abbrev kept : Option Stand
  kept = kept_in list (number_in set)

  by_set : (when (is_taken_at text entries (history_of kept).taken) Known else_try stand_fault role kept set) ≡ (when (was_taken text entries) Known else_try set_fault role (deeds_of entries) set)
  by_set =
      ap (λ (b : Bool). when b Known else_try stand_fault role kept set) (known_by entries text set (set_in_is text set is) kept (r.knows (number_in set)))
      ∙ ap (λ (o : Option RuleFault). when (was_taken text entries) Known else_try o) (sym (taking_by role entries (legal_founded role entries r.legal) (legal_closes role entries r.legal) set kept (r.knows (number_in set))))

  by_text : take_fault role entries text ≡ (when (was_taken text entries) Known else_try set_fault role (deeds_of entries) set)
  by_text =
      ap (λ (o : Option Refusal). refused_as o else_try (when (was_taken text entries) Known else_try read_fault (set_in text) role (deeds_of entries))) (not_refused text set is)
      ∙ ap (λ (o : Option SetView). when (was_taken text entries) Known else_try read_fault o role (deeds_of entries)) (set_in_is text set is)

  taken_when : (result : Result Change RuleFault) → Judges result (when (was_taken text entries) Known else_try set_fault role (deeds_of entries) set) (IsTaken entries kept text set)
      → Judges result (when (was_taken text entries) Known else_try set_fault role (deeds_of entries) set) (λ change. IsChange role entries change × (change.entry ≡ record { kind = Took; payload = text }))
  taken_when (Ok change) h =
      let none = second_none (when (was_taken text entries) Known) (set_fault role (deeds_of entries) set) h.0 in
      let allowed = set_allowed role (deeds_of entries) set text (legal_founded role entries r.legal) is none in
      (h.0, change_so role entries list count r Took text set is allowed tt change h.1)
  taken_when (Err e) h = h

  pub taken_so : (result : Result Change RuleFault) → Judges result (when (is_taken_at text entries (history_of kept).taken) Known else_try stand_fault role kept set) (IsTaken entries kept text set)
      → Judges result (take_fault role entries text) (λ change. IsChange role entries change × (change.entry ≡ record { kind = Took; payload = text }))
  taken_so result h =
      subst (λ (o : Option RuleFault). Judges result o (λ change. IsChange role entries change × (change.entry ≡ record { kind = Took; payload = text }))) (sym by_text)
      (taken_when result (subst (λ (o : Option RuleFault). Judges result o (IsTaken entries kept text set)) by_set h))

-- ---- steps

module _ (role : Role) (entries : List Entry) (text : List ℕ) (set : SetView) (known kept : Option Stand) (same : known ≡ kept) (taken : Bool) (is : taken ≡ is_taken_at text entries (history_of known).taken) where
  abbrev at_kept : Option RuleFault
  at_kept = when (is_taken_at text entries (history_of kept).taken) Known else_try stand_fault role kept set

  told : (b : Bool) → taken ≡ b → (when b Known else_try stand_fault role known set) ≡ at_kept
  told b e = ap (λ (x : Bool). when x Known else_try stand_fault role known set) (sym e ∙ is) ∙ ap (λ (o : Option Stand). when (is_taken_at text entries (history_of o).taken) Known else_try stand_fault role o set) same

  pub step_known : taken ≡ true → (Known ≡ Memory) ⊎ (at_kept ≡ Some Known)
  step_known e = inr (sym (told true e))

  pub step_refused : taken ≡ false → (fault : RuleFault) → (fault ≡ Memory) ⊎ (stand_fault role known set ≡ Some fault) → (fault ≡ Memory) ⊎ (at_kept ≡ Some fault)
  step_refused e fault (inl m) = inl m
  step_refused e fault (inr f) = inr (sym (told false e) ∙ f)

  pub step_taken : taken ≡ false → stand_fault role known set ≡ None → (result : Result Change RuleFault) → Judges result None (IsTaken entries known text set) → Judges result at_kept (IsTaken entries kept text set)
  step_taken e none (Ok change) h = (sym (told false e) ∙ none, subst (λ (o : Option Stand). IsTaken entries o text set change) same h.1)
  step_taken e none (Err fault) (inl m) = inl m
  step_taken e none (Err fault) (inr f) = cc
