-- What rules keep: how it stays right behind an entry more, and what is looked up in it.
use Rattle.std.proofs.Common.{◌≡◌, ◌<◌, ◌≤◌, ◌+◌, get_or, ℕ, Bool, true, false, cond, not, ◌&&◌, if◌then◌else◌, bytes_eq, List, [], ◌∷◌, ◌++◌, length, map, is_some, is_none, MatchOption, Option, Some, None, Result, Ok, Err, inl, inr, filter, refl, sym, ap, subst, ◌∙◌, arith}
use Rattle.std.specs.Map.{keys_of}
use Rattle.std.specs.Option.{option_and_then}
use Rattle.std.proofs.lemmas.List.Elements.{filter-append}
use Rattle.std.proofs.lemmas.List.Sums.{fold-append}
use Rattle.indexmap.specs.IndexSet.{insert_key}
use Rattle.dsd_values.specs.declared.role.Role.{Role}
use Rattle.dsd_record.proofs.ReadOnce.{set_in_is}
use Rattle.dsd_journal.specs.declared.entry.Entry.{Entry}
use Rattle.dsd_journal.specs.declared.entry.EntryKind.{EntryKind}
use Rattle.delivery_book.specs.Changes.{IsChange}
use Rattle.delivery_book.specs.declared.change.Change.{Change}
use Rattle.delivery_book.specs.Deeds.{Deed, deeds_of, is_signed, number_in, signed_texts}
use Rattle.delivery_book.specs.Finals.{final_of}
use Rattle.delivery_book.specs.Index.{AreRules, IsKept, IsStand, Stand, final_by_stand, kept_in, text_at}
use Rattle.delivery_book.specs.Lookups.{awaits_us, is_taken, last_signed, number_at, numbers_in, numbers_of, own_amount, seen_of}
use Rattle.delivery_book.specs.Outcomes.{Adds, Admits}
use Rattle.delivery_book.specs.declared.fault.AdmitFault.{AdmitFault}
use Rattle.delivery_book.specs.declared.fault.AdmitFault.TheVariants as admitting
use Rattle.delivery_book.specs.declared.fault.RuleFault.{RuleFault}
use Rattle.delivery_book.specs.Signing.{Allows, Legal}
use Rattle.delivery_book.specs.Standing.{IsNew, acceptance_of, version_at}
use Rattle.delivery_book.proofs.Behind.{kept_more, new_unaccepted}
use Rattle.delivery_book.proofs.Grown.{final_is, legal_closes, legal_founded, legal_last, legal_more, no_final}
use Rattle.delivery_book.proofs.Listed.{deeds_more}

-- ---- numbers

numbers_more : (entries : List Entry) (entry : Entry) (role : Role) (a : Allows role entries entry) → numbers_of (entries ++ entry ∷ []) ≡ insert_key bytes_eq (numbers_of entries) (number_in a.set)
numbers_more entries entry role a =
    ap numbers_in (deeds_more entries entry a.set (set_in_is entry.payload a.set a.is_set))
    ∙ fold-append (λ (numbers : List (List ℕ)) (deed : Deed). insert_key bytes_eq numbers (number_in deed.set)) [] (deeds_of entries) _

-- ---- signed sets

length_more : {X : Type 0} (xs : List X) (x : X) → length (xs ++ x ∷ []) ≡ length xs + 1
length_more [] x = refl
length_more (y ∷ ys) x = let more = length_more ys x in omega (arith, more)

texts_more : (entries : List Entry) (entry : Entry) (b : Bool) → is_signed entry.kind ≡ b → length (signed_texts (entries ++ entry ∷ [])) ≡ (if b then length (signed_texts entries) + 1 else length (signed_texts entries))
texts_more entries entry b e =
    ap (λ (l : List Entry). length (map (λ (x : Entry). x.payload) l)) (filter-append (λ (x : Entry). is_signed x.kind) entries (entry ∷ []) ∙ ap (λ (c : Bool). filter (λ (x : Entry). is_signed x.kind) entries ++ cond c (entry ∷ []) []) e)
    ∙ counted b where
      same_length : (l : List Entry) → length (map (λ (x : Entry). x.payload) (l ++ entry ∷ [])) ≡ length (map (λ (x : Entry). x.payload) l) + 1
      same_length [] = refl
      same_length (y ∷ ys) = let more = same_length ys in omega (arith, more)

      none_more : (l : List Entry) → length (map (λ (x : Entry). x.payload) (l ++ [])) ≡ length (map (λ (x : Entry). x.payload) l)
      none_more [] = refl
      none_more (y ∷ ys) = let more = none_more ys in omega (arith, more)

      counted : (b : Bool) → length (map (λ (x : Entry). x.payload) (filter (λ (x : Entry). is_signed x.kind) entries ++ cond b (entry ∷ []) [])) ≡ (if b then length (signed_texts entries) + 1 else length (signed_texts entries))
      counted true = same_length (filter (λ (x : Entry). is_signed x.kind) entries)
      counted false = none_more (filter (λ (x : Entry). is_signed x.kind) entries)

-- ---- an entry more

-- what is kept is right behind a change
pub rules_more : (role : Role) (entries : List Entry) (old new : List (List ℕ × Stand)) (before count : ℕ) (change : Change) → AreRules role entries old before → IsChange role entries change
    → ((number : List ℕ) → kept_in new number ≡ cond (bytes_eq change.number number) (Some change.delivery) (kept_in old number)) → keys_of new ≡ insert_key bytes_eq (keys_of old) change.number
    → count ≡ (if is_signed change.entry.kind then before + 1 else before)
    → AreRules role (entries ++ change.entry ∷ []) new count
rules_more role entries old new before count change r c kept order counted = record {
  legal = legal_more role entries change.entry r.legal c.allowed;
  knows = λ number.
      subst (λ (o : Option Stand). IsKept number (entries ++ change.entry ∷ []) o) (sym (kept number ∙ ap (λ (n : List ℕ). cond (bytes_eq n number) (Some change.delivery) (kept_in old number)) c.number))
      (kept_more role entries change.entry c.allowed (kept_in old) change.delivery r.knows (subst (λ (n : List ℕ). IsStand n (entries ++ change.entry ∷ []) change.delivery) c.number c.stand) number);
  order = order ∙ ap (λ (l : List (List ℕ)). insert_key bytes_eq l change.number) r.order ∙ ap (insert_key bytes_eq (numbers_of entries)) c.number ∙ sym (numbers_more entries change.entry role c.allowed);
  signed =
      counted ∙ ap (λ (n : ℕ). if is_signed change.entry.kind then n + 1 else n) r.signed
      ∙ sym (texts_more entries change.entry (is_signed change.entry.kind) refl);
}

-- ---- what is looked up

stand_there : (number : List ℕ) (entries : List Entry) (o : Option Stand) (stand : Stand) → IsKept number entries o → o ≡ Some stand → IsStand number entries stand
stand_there number entries o stand k e = subst (IsKept number entries) e k

module _ (role : Role) (entries : List Entry) (list : List (List ℕ × Stand)) (count : ℕ) (r : AreRules role entries list count) where
  keys_many : (l : List (List ℕ × Stand)) → length (keys_of l) ≡ length l
  keys_many [] = refl
  keys_many (x ∷ xs) = let more = keys_many xs in omega (arith, more)

  pub as_many : length list ≡ length (numbers_of entries)
  as_many = sym (keys_many list) ∙ ap length r.order

  pub number_there : (index : ℕ) → get_or (keys_of list) index [] ≡ number_at entries index
  number_there index = ap (λ (l : List (List ℕ)). get_or l index []) r.order

  pub stands_at : (index : ℕ) (stand : Stand) → kept_in list (get_or (keys_of list) index []) ≡ Some stand → IsStand (number_at entries index) entries stand
  stands_at index stand there = stand_there (number_at entries index) entries (kept_in list (number_at entries index)) stand (r.knows (number_at entries index)) (ap (kept_in list) (sym (number_there index)) ∙ there)

  new_there : (number : List ℕ) (o : Option Stand) → IsKept number entries o → o ≡ None → IsNew number (deeds_of entries)
  new_there number o k e = subst (IsKept number entries) e k

  -- the index under which a delivery is kept
  pub found_there : (number : List ℕ) (result : Option ℕ) → MatchOption result (kept_in list number ≡ None) (λ (index : ℕ). (index < length list) × (get_or (keys_of list) index [] ≡ number))
      → MatchOption result (IsNew number (deeds_of entries)) (λ (index : ℕ). (index < length (numbers_of entries)) × (number_at entries index ≡ number))
  found_there number (Some index) h = (subst (λ (n : ℕ). index < n) as_many h.0, sym (number_there index) ∙ h.1)
  found_there number None h = new_there number (kept_in list number) (r.knows number) h

module _ (number : List ℕ) (entries : List Entry) (stand : Stand) (stands : IsStand number entries stand) where
  pub seen_there : seen_of entries number ≡ Some stand.seen
  seen_there = ap (option_and_then (version_at (deeds_of entries))) stands.is_top ∙ stands.seen

  not_some : (o : Option Deed) (b : Bool) → is_some o ≡ b → is_none o ≡ not b
  not_some (Some deed) b e = ap not e
  not_some None b e = ap not e

  pub awaited : (not stand.ours && not stand.accepted) ≡ awaits_us entries number
  awaited =
      sym (
      ap (λ (o : Option Deed). is_taken o && is_none (acceptance_of number (deeds_of entries))) stands.is_top
      ∙ ap (λ (b : Bool). not b && is_none (acceptance_of number (deeds_of entries))) stands.ours
      ∙ ap (λ (b : Bool). not stand.ours && b) (not_some (acceptance_of number (deeds_of entries)) stand.accepted stands.accepted)
      )

  pub amount_there : stand.history.amount ≡ own_amount entries number
  amount_there = sym stands.history.amount

  pub text_there : option_and_then (text_at entries) stand.history.last ≡ last_signed entries number
  text_there = sym stands.history.last

-- ---- finals

final_when : (role : Role) (number : List ℕ) (entries : List Entry) (legal : Legal role entries) (stand : Stand) → IsStand number entries stand → (o : Option Deed) → acceptance_of number (deeds_of entries) ≡ o → (if is_some o then Some stand.seen else None) ≡ final_of entries number
final_when role number entries legal stand s (Some a) e =
    let f = final_is role number (deeds_of entries) (legal_founded role entries legal) (legal_closes role entries legal) a e in
    sym (f.2 ∙ ap (λ (o : Option Deed). option_and_then (version_at (deeds_of entries)) o) (sym f.1 ∙ s.is_top) ∙ s.seen)
final_when role number entries legal stand s None e = sym (no_final role number (deeds_of entries) (legal_founded role entries legal) (legal_closes role entries legal) e)

final_kept : (role : Role) (number : List ℕ) (entries : List Entry) (legal : Legal role entries) (o : Option Stand) → IsKept number entries o → final_by_stand o ≡ final_of entries number
final_kept role number entries legal (Some stand) s =
    ap (λ (b : Bool). if b then Some stand.seen else None) (sym s.accepted) ∙ final_when role number entries legal stand s (acceptance_of number (deeds_of entries)) refl
final_kept role number entries legal None new =
    sym (no_final role number (deeds_of entries) (legal_founded role entries legal) (legal_closes role entries legal) (new_unaccepted number (deeds_of entries) new))

pub final_there : (role : Role) (entries : List Entry) (list : List (List ℕ × Stand)) (count : ℕ) → AreRules role entries list count → (number : List ℕ) → final_by_stand (kept_in list number) ≡ final_of entries number
final_there role entries list count r number = final_kept role number entries r.legal (kept_in list number) (r.knows number)

-- ---- counts

few_signed : (entries : List Entry) → length (filter (λ (x : Entry). is_signed x.kind) entries) ≤ length entries
few_signed [] = omega arith
few_signed (x ∷ xs) = by (is_signed x.kind) (few_signed xs) where
  by : (b : Bool) → length (filter (λ (x : Entry). is_signed x.kind) xs) ≤ length xs → length (cond b (x ∷ filter (λ (x : Entry). is_signed x.kind) xs) (filter (λ (x : Entry). is_signed x.kind) xs)) ≤ length (x ∷ xs)
  by true h = omega (arith, h)
  by false h = omega (arith, h)

mapped : (entries : List Entry) → length (map (λ (x : Entry). x.payload) entries) ≡ length entries
mapped [] = refl
mapped (x ∷ xs) = let more = mapped xs in omega (arith, more)

-- no more sets were signed than there are entries
pub signed_few : (entries : List Entry) → length (signed_texts entries) ≤ length entries
signed_few entries = let few = few_signed entries in let same = mapped (filter (λ (x : Entry). is_signed x.kind) entries) in omega (arith, few, same)

-- rules without entries
pub no_rules : (role : Role) (entries : List Entry) (list : List (List ℕ × Stand)) → entries ≡ [] → list ≡ [] → AreRules role entries list 0
no_rules role entries list e l =
    subst (λ (x : List Entry). AreRules role x list 0) (sym e) (subst (λ (y : List (List ℕ × Stand)). AreRules role [] y 0) (sym l) (record { legal = tt; knows = λ number. refl; order = refl; signed = refl }))

-- ---- calls

kept_end : (old : List Entry) (entry : Entry) (kind : EntryKind) (text : List ℕ) → entry.kind ≡ kind → text ≡ entry.payload → old ++ (record { kind = entry.kind; payload = text }) ∷ [] ≡ old ++ (record { kind = kind; payload = entry.payload }) ∷ []
kept_end old entry kind text k t =
    ap (λ (x : EntryKind). old ++ (record { kind = x; payload = text }) ∷ []) k ∙ ap (λ (x : List ℕ). old ++ (record { kind = kind; payload = x }) ∷ []) t

-- an entry that was let in stands behind the others
pub adds_so : (result : Result (Unit {0}) RuleFault) (fault : Option RuleFault) (entry : Entry) (kind : EntryKind) (Made : List ℕ → Type 0) (old new : List Entry) → fault ≡ None → entry.kind ≡ kind → Made entry.payload
    → Adds result None entry.kind (λ text. text ≡ entry.payload) old new → Adds result fault kind Made old new
adds_so (Ok done) fault entry kind Made old new f k m h = (f, (entry.payload, m, h.1.2 ∙ kept_end old entry kind h.1.0 k h.1.1))
adds_so (Err e) fault entry kind Made old new f k m (inl memory, same) = (inl memory, same)
adds_so (Err e) fault entry kind Made old new f k m (inr never, same) = cc

-- the entry that was let in is the one that was asked for
pub admits_so : (old new : List Entry) (entry : Entry) (kind : EntryKind) (text : List ℕ) (done : Unit {0}) → entry ≡ record { kind = kind; payload = text }
    → (let r : Result (Unit {0}) RuleFault = Ok done in Adds r None entry.kind (λ said. said ≡ entry.payload) old new) → new ≡ old ++ (record { kind = kind; payload = text }) ∷ []
admits_so old new entry kind text done e h =
    h.1.2 ∙ kept_end old entry kind h.1.0 (ap (λ (x : Entry). x.kind) e) h.1.1 ∙ ap (λ (x : Entry). old ++ (record { kind = kind; payload = x.payload }) ∷ []) e

-- an entry that may not stand behind these is not legal there
pub refuses_so : {X Y : Type 0} (role : Role) (entries : List Entry) (entry : Entry) (fault : AdmitFault) (P : X → Type 0) (Q : Y → Type 0)
    → (let r : Result X AdmitFault = Err fault in Admits r (Allows role entries entry) P) → (let r : Result Y AdmitFault = Err fault in Admits r (Legal role (entries ++ entry ∷ [])) Q)
refuses_so role entries entry admitting.Illegal P Q h = λ legal. h (legal_last role entries entry legal)
refuses_so role entries entry admitting.Memory P Q h = tt
