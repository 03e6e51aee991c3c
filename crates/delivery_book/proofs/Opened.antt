-- The entries of a journal, let in one by one.
use Rattle.std.proofs.Common.{◌≡◌, ℕ, ◌+◌, ◌<◌, List, [], ◌∷◌, ◌++◌, length, take, drop, slice_index_or, Result, Err, sym, ap, subst, ◌∙◌, append_assoc}
use Rattle.std.proofs.Math.Numerals.{add-one}
use Rattle.std.proofs.Math.Seq.{take-suc}
use Rattle.std.proofs.lemmas.List.{take-append-drop}
use Rattle.dsd_values.specs.declared.role.Role.{Role}
use Rattle.dsd_journal.specs.declared.entry.Entry.{Entry}
use Rattle.dsd_journal.specs.declared.entry.EntryKind.{EntryKind}
use Rattle.dsd_journal.specs.JournalImage.{gate_place}
use Rattle.delivery_book.specs.BookImages.{IsFirstIllegal}
use Rattle.delivery_book.specs.Outcomes.{Admits}
use Rattle.delivery_book.specs.declared.fault.AdmitFault.{AdmitFault}
use Rattle.delivery_book.specs.declared.fault.AdmitFault.TheVariants.{Illegal}
use Rattle.delivery_book.specs.Signing.{Legal}

-- one entry more of those of a journal
pub one_more : (entries : List Entry) (index : ℕ) (kind : EntryKind) (text : List ℕ) → index < length entries → ((none : Entry) → kind ≡ (slice_index_or entries index none).kind)
    → ((none : Entry) → text ≡ (slice_index_or entries index none).payload) → take (index + 1) entries ≡ take index entries ++ (record { kind = kind; payload = text }) ∷ []
one_more entries index kind text within k t =
    let none : Entry = record { kind = kind; payload = text } in
    let entry : Entry = slice_index_or entries index none in
    ap (λ (n : ℕ). take n entries) (add-one index) ∙ take-suc entries index none within
    ∙ ap (λ (x : EntryKind). take index entries ++ (record { kind = x; payload = entry.payload }) ∷ []) (sym (k none))
    ∙ ap (λ (x : List ℕ). take index entries ++ (record { kind = kind; payload = x }) ∷ []) (sym (t none))

-- the entry at which the rules refuse
pub first_illegal : (role : Role) (entries : List Entry) (index place : ℕ) (kind : EntryKind) (text : List ℕ) → index < length entries → ((none : Entry) → kind ≡ (slice_index_or entries index none).kind)
    → ((none : Entry) → text ≡ (slice_index_or entries index none).payload) → Legal role (take index entries) → (Legal role (take index entries ++ (record { kind = kind; payload = text }) ∷ []) → ⊥)
    → place ≡ gate_place (take index entries) + 1 → IsFirstIllegal role entries place
first_illegal role entries index place kind text within k t legal illegal at = record {
  before = take index entries;
  entry = record { kind = kind; payload = text };
  behind = drop (index + 1) entries;
  split =
      sym (take-append-drop (index + 1) entries) ∙ ap (λ (l : List Entry). l ++ drop (index + 1) entries) (one_more entries index kind text within k t)
      ∙ append_assoc (take index entries) ((record { kind = kind; payload = text }) ∷ []) (drop (index + 1) entries);
  legal = legal;
  illegal = illegal;
  at = at;
}

pub illegal_so : (fault : AdmitFault) (role role' : Role) (old entries : List Entry) (entry : Entry) (P : Unit {0} → Type 0) → fault ≡ Illegal → role ≡ role' → old ≡ entries
    → (let r : Result (Unit {0}) AdmitFault = Err fault in Admits r (Legal role (old ++ entry ∷ [])) P) → Legal role' (entries ++ entry ∷ []) → ⊥
illegal_so fault role role' old entries entry P is r e h legal =
    refuses fault P is h (subst (λ (x : Role). Legal x (old ++ entry ∷ [])) (sym r) (subst (λ (l : List Entry). Legal role' (l ++ entry ∷ [])) (sym e) legal))
  where
    refuses : {A : Type 0} (fault : AdmitFault) (P : Unit {0} → Type 0) → fault ≡ Illegal → (let r : Result (Unit {0}) AdmitFault = Err fault in Admits r A P) → A → ⊥
    refuses {A} fault P is h = subst (λ (x : AdmitFault). (let r : Result (Unit {0}) AdmitFault = Err x in Admits r A P)) is h

-- an entry more was let in
pub one_legal : (role role' : Role) (old entries more : List Entry) (entry : Entry) → role ≡ role' → old ≡ entries → more ≡ entries ++ entry ∷ [] → Legal role (old ++ entry ∷ []) → Legal role' more
one_legal role role' old entries more entry r e m legal =
    subst (Legal role') (sym m) (subst (λ (l : List Entry). Legal role' (l ++ entry ∷ [])) e (subst (λ (x : Role). Legal x (old ++ entry ∷ [])) r legal))
