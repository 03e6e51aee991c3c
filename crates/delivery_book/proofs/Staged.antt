-- What calls of a book come to, from what its rules and its journal answered.
use Rattle.std.proofs.Common.{◌≡◌, ◌⊎◌, inl, inr, ◌<◌, ◌≤◌, ℕ, List, [], ◌∷◌, ◌++◌, length, Option, None, Result, Ok, Err, IfErr, OnOk, sym, ap, subst, ◌∙◌}
use Rattle.std.proofs.lemmas.Bool.{cases_lt}
use Rattle.dsd_station.specs.Told.{Told}
use Rattle.dsd_values.specs.declared.role.Role.{Role}
use Rattle.dsd_journal.specs.declared.entry.Entry.{Entry}
use Rattle.dsd_journal.specs.declared.entry.EntryKind.{EntryKind}
use Rattle.dsd_journal.specs.declared.limits.TheConstants.{JOURNAL_BYTES}
use Rattle.dsd_journal.specs.declared.adding_fault.StageFault.{StageFault}
use Rattle.dsd_journal.specs.declared.adding_fault.StageFault.TheVariants as stages
use Rattle.dsd_journal.specs.JournalImage.{IsPayloadLength}
use Rattle.dsd_journal.specs.Journals.{Rests, View}
use Rattle.dsd_journal.specs.Steps.{Flushes}
use Rattle.delivery_book.specs.Books.{BookView, FlushesOne, IsRefusal, Refuses, Stages, bytes_with, entry_of, with_staged_text}
use Rattle.dsd_record.proofs.ReadOnce.{sized}
use Rattle.delivery_book.specs.Changes.{IsChange}
use Rattle.delivery_book.specs.declared.change.Change.{Change}
use Rattle.delivery_book.proofs.Grown.{legal_more}
use Rattle.delivery_book.specs.Signing.{Legal}
use Rattle.delivery_book.specs.declared.book_fault.BookFault.{BookFault}
use Rattle.delivery_book.specs.declared.book_fault.BookFault.TheVariants.{AlreadyFinal, AlreadySigned, Apply, Full, Known, LevelLimit, Memory, NoDelivery, NotOurTurn, Set, Stale, Station, UnknownSet, Write, WrongSide}
use Rattle.delivery_book.specs.declared.fault.RuleFault.{RuleFault}

-- ---- an entry that is staged

pub change_sized : (role : Role) (entries : List Entry) (change : Change) → IsChange role entries change → IsPayloadLength (length change.entry.payload)
change_sized role entries change c = sized change.entry.payload c.allowed.set c.allowed.is_set

pub change_for : (role role' : Role) (entries entries' : List Entry) (change : Change) → role' ≡ role → entries' ≡ entries → IsChange role entries change → IsChange role' entries' change
change_for role role' entries entries' change r e c = subst (λ (x : Role). IsChange x entries' change) (sym r) (subst (λ (l : List Entry). IsChange role l change) (sym e) c)

pub change_legal : (role : Role) (entries : List Entry) (change : Change) → Legal role entries → IsChange role entries change → Legal role (entries ++ change.entry ∷ [])
change_legal role entries change legal c = legal_more role entries change.entry legal c.allowed

-- what is seen of a journal and of these entries
abbrev seen_with : View → List Entry → BookView
seen_with j entries = record { header = j.header; entries = j.entries; staged = j.staged; known = entries; works = j.works }

pub seen_same : (j j' : View) (entries entries' : List Entry) → j' ≡ j → entries' ≡ entries → seen_with j' entries' ≡ seen_with j entries
seen_same j j' entries entries' e f = ap (λ (x : View). seen_with x entries') e ∙ ap (seen_with j) f

-- the journal would be too long with it
pub full_so : (fault : StageFault) (n wanted : ℕ) → fault ≡ stages.Full n → (JOURNAL_BYTES < wanted → (let r : Result (Unit {0}) StageFault = Err fault in r) ≡ Err (stages.Full wanted))
    → (wanted ≤ JOURNAL_BYTES → ((let r : Result (Unit {0}) StageFault = Err fault in r) ≡ Ok tt) ⊎ ((let r : Result (Unit {0}) StageFault = Err fault in r) ≡ Err stages.Memory)) → (n ≡ wanted) × (JOURNAL_BYTES < n)
full_so fault n wanted e full fits =
    elim (cases_lt JOURNAL_BYTES wanted) [ inl long ↦ let is : n ≡ wanted = same fault n wanted e (full long) in (is, subst (λ (m : ℕ). JOURNAL_BYTES < m) (sym is) long) | inr short ↦ absurd (never fault n e (fits short)) ]
  where
    same : (fault : StageFault) (n wanted : ℕ) → fault ≡ stages.Full n → (let r : Result (Unit {0}) StageFault = Err fault in r) ≡ Err (stages.Full wanted) → n ≡ wanted
    same fault n wanted is e = cc

    never : (fault : StageFault) (n : ℕ) → fault ≡ stages.Full n → ((let r : Result (Unit {0}) StageFault = Err fault in r) ≡ Ok tt) ⊎ ((let r : Result (Unit {0}) StageFault = Err fault in r) ≡ Err stages.Memory) → ⊥
    never fault n is (inl e) = cc
    never fault n is (inr e) = cc

-- ---- a text that the rules allow

module _ (fault : Option RuleFault) (entry : Entry) (kind : EntryKind) (Made : List ℕ → Type 0) (book : BookView) (allowed : fault ≡ None) (is : entry.kind ≡ kind) (made : Made entry.payload) where
  refuses_so : (e : BookFault) → Refuses e None entry.kind (λ text. text ≡ entry.payload) book → Refuses e fault kind Made book
  refuses_so (Full n) h = (
    allowed,
    (
      entry.payload,
      made,
      subst (λ (x : EntryKind). Legal book.header.role (book.known ++ entry_of x entry.payload ∷ [])) is (subst (λ (t : List ℕ). Legal book.header.role (book.known ++ entry_of entry.kind t ∷ [])) h.1.1 h.1.2),
      h.1.3 ∙ ap (λ (t : List ℕ). bytes_with book (length t)) h.1.1,
      h.1.4,
    ),
  )
  refuses_so Station h = h
  refuses_so Memory h = tt
  refuses_so (NotOurTurn level) h = cc
  refuses_so (AlreadySigned level) h = cc
  refuses_so (UnknownSet check) h = cc
  refuses_so (AlreadyFinal check) h = cc
  refuses_so LevelLimit h = cc
  refuses_so Known h = cc
  refuses_so (Stale level) h = cc
  refuses_so (Apply reason) h = cc
  refuses_so NoDelivery h = cc
  refuses_so (Set reason) h = cc
  refuses_so (Write reason) h = cc
  refuses_so WrongSide h = cc

  -- the entry that was staged is the one that was asked for
  pub stages_so : (result : Result (Unit {0}) BookFault) (new : BookView) → Stages result None entry.kind (λ text. text ≡ entry.payload) book new → Stages result fault kind Made book new
  stages_so (Ok done) new h = (
    allowed,
    (
      entry.payload,
      made,
      subst (λ (t : List ℕ). bytes_with book (length t) ≤ JOURNAL_BYTES) h.1.1 h.1.2,
      h.1.3 ∙ ap (λ (t : List ℕ). with_staged_text book entry.kind t) h.1.1 ∙ ap (λ (x : EntryKind). with_staged_text book x entry.payload) is,
    ),
  )
  stages_so (Err e) new h = (refuses_so e h.0, h.1)

-- ---- what was staged, made sure of

module _ (fault : Option RuleFault) (kind : EntryKind) (Made : List ℕ → Type 0) (old staged_book : BookView) where
  never_station : (e : BookFault) → Refuses e fault kind Made old → e ≡ Station → ⊥
  never_station e h is = subst (λ (x : BookFault). Refuses x fault kind Made old) is h

  -- the station still has what it had
  pub rests_still : (staged : Result (Unit {0}) BookFault) (told : Told) → Stages staged fault kind Made old staged_book → Rests old.header old.entries told → Rests staged_book.header staged_book.entries told
  rests_still (Ok done) told s rests = subst (λ (b : BookView). Rests b.header b.entries told) (sym s.1.3) rests
  rests_still (Err e) told s rests = subst (λ (b : BookView). Rests b.header b.entries told) (sym s.1) rests

  module _ (S : Type 0) (new : BookView) where
    -- where the station was asked, it was for a flush of the text
    pub flushes_so : (staged result : Result (Unit {0}) BookFault) (a b : Told) → Stages staged fault kind Made old staged_book → old.staged ≡ []
        → IfErr staged (λ e. (result ≡ Err e) × ((new ≡ staged_book) × S)) → OnOk staged (Flushes staged_book.header staged_book.entries staged_book.staged result a b) → (IsRefusal result → ⊥)
        → FlushesOne result kind Made old a b
    flushes_so (Ok done) result a b s none refused told asked = (
      s.1.0,
      s.1.1,
      subst (λ (l : List Entry). Flushes old.header old.entries (l ++ entry_of kind s.1.0 ∷ []) result a b) none
          (subst (λ (m : BookView). Flushes m.header m.entries m.staged result a b) s.1.3 told),
    )
    flushes_so (Err e) result a b s none refused told asked = absurd (asked (subst IsRefusal (sym refused.0) (never_station e s.0)))
