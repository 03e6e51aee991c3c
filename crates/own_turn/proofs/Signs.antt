-- A set that is signed, or that the rules refuse.
use Rattle.std.proofs.Common.{◌≡◌, ℕ, ◌+◌, Bool, false, List, [], ◌∷◌, ◌++◌, length, Option, Some, Result, Ok, Err, refl, sym, ◌∙◌, ap, subst, inl, inr}
use Rattle.dsd_values.specs.declared.role.Role.{Role}
use Rattle.base_record_894.specs.BaseRecord.{BaseRecord}
use Rattle.base_record_894.specs.WrittenText.{written_of}
use Rattle.dsd_journal.specs.JournalImage.{gate_place}
use Rattle.dsd_journal.specs.declared.adding_fault.StageFault.{StageFault}
use Rattle.dsd_journal.specs.declared.adding_fault.StageFault.TheVariants as stages
use Rattle.dsd_journal.specs.declared.entry.Entry.{Entry}
use Rattle.dsd_journal.specs.declared.entry.EntryKind.TheVariants.{Signed}
use Rattle.delivery_book.specs.Books.{BookView, Refuses}
use Rattle.delivery_book.specs.Deeds.{deeds_of}
use Rattle.delivery_book.specs.Signing.{Legal, next_control}
use Rattle.delivery_book.specs.Standing.{IsNew}
use Rattle.delivery_book.specs.declared.book_fault.BookFault.{BookFault}
use Rattle.delivery_book.specs.declared.book_fault.BookFault.TheVariants as books
use Rattle.delivery_book.specs.declared.fault.RuleFault.{RuleFault}
use Rattle.delivery_book.specs.declared.fault.RuleFault.TheVariants as rules
use Rattle.own_turn.specs.Desks.{DeskView, desk_of}
use Rattle.own_turn.specs.NextEntry.{AddsNext}
use Rattle.own_turn.specs.OwnTurn.{Desk, StaysLegal, signed, with_signature}
use Rattle.own_turn.specs.Staging.{IsStaging, ProposesDraft, SignsSome, StagesTo, as_refusal, as_unsigned}

module _ (role : Role) (number : List ℕ) (acceptance : Bool) (Made : List Entry → List ℕ → Type 0) (old : DeskView) where
  abbrev Signs : Desk → Desk → Type 0
  Signs = SignsSome role number acceptance Made

  abbrev Exact : Result (Unit {0}) StageFault → DeskView → Type 0
  Exact result new = StagesTo result Signs (AddsNext Signs) old new

  full_so : (n : ℕ) (fault : Option RuleFault) → IsStaging old.book → Refuses (books.Full n) fault Signed (Made old.book.known) old.book → old.book.header.role ≡ role → Exact (Err (stages.Full n)) old
  full_so n fault staging (none, (text, made, legal, size, long)) own = record {
    entry = signed text;
    next = record {
      new = with_signature (desk_of old) number acceptance text;
      step = inl (text, made, subst (λ (r : Role). Legal r (old.book.known ++ signed text ∷ [])) own legal, refl);
      behind = refl;
      added = refl;
    };
    size = size ∙ ap (λ (l : List Entry). gate_place l + 7 + length text) (sym staging.known);
    long = long;
  }

  -- no text as said may be signed where the rules refuse
  abbrev IsRefused : Option RuleFault → Type 0
  IsRefused fault = (refusal : RuleFault) → fault ≡ Some refusal → (text : List ℕ) → Made old.book.known text → StaysLegal role old.book.known (signed text) → ⊥

  by_rule : (fault : Option RuleFault) (refusal : RuleFault) → IsRefused fault → fault ≡ Some refusal → Exact (Ok tt) old
  by_rule fault refusal no_text e = inr (no_text refusal e, refl)

  -- it is not signed
  pub unsigned_so : (fault : Option RuleFault) (e : BookFault) → IsStaging old.book → old.book.header.role ≡ role → IsRefused fault → Refuses e fault Signed (Made old.book.known) old.book → Exact (as_unsigned (as_refusal e)) old
  unsigned_so fault (books.Full n) staging own no_text r = full_so n fault staging r own
  unsigned_so fault books.Station staging own no_text r = absurd r
  unsigned_so fault books.Memory staging own no_text r = tt
  unsigned_so fault (books.NotOurTurn level) staging own no_text r = by_rule fault (rules.NotOurTurn level) no_text r
  unsigned_so fault (books.AlreadySigned level) staging own no_text r = by_rule fault (rules.AlreadySigned level) no_text r
  unsigned_so fault (books.UnknownSet check) staging own no_text r = by_rule fault (rules.UnknownSet check) no_text r
  unsigned_so fault (books.AlreadyFinal check) staging own no_text r = by_rule fault (rules.AlreadyFinal check) no_text r
  unsigned_so fault books.LevelLimit staging own no_text r = by_rule fault rules.LevelLimit no_text r
  unsigned_so fault books.Known staging own no_text r = by_rule fault rules.Known no_text r
  unsigned_so fault (books.Stale level) staging own no_text r = by_rule fault (rules.Stale level) no_text r
  unsigned_so fault (books.Apply why) staging own no_text r = by_rule fault (rules.Apply why) no_text r
  unsigned_so fault books.NoDelivery staging own no_text r = by_rule fault rules.NoDelivery no_text r
  unsigned_so fault (books.Set why) staging own no_text r = by_rule fault (rules.Set why) no_text r
  unsigned_so fault (books.Write why) staging own no_text r = by_rule fault (rules.Write why) no_text r
  unsigned_so fault books.WrongSide staging own no_text r = by_rule fault rules.WrongSide no_text r

  -- and the desk stays
  pub unsigned_behind : (result : Result (Unit {0}) StageFault) (fault : Option RuleFault) (e : BookFault) (book : BookView) → IsStaging old.book → old.book.header.role ≡ role → IsRefused fault → result ≡ as_unsigned (as_refusal e)
      → Refuses e fault Signed (Made old.book.known) old.book × (book ≡ old.book) → Exact result (record old { book = book })
  unsigned_behind result fault e book staging own no_text is r =
      subst (λ (x : Result (Unit {0}) StageFault). Exact x (record old { book = book })) (sym is)
      (subst (λ (b : BookView). Exact (as_unsigned (as_refusal e)) (record old { book = b })) (sym r.1) (unsigned_so fault e staging own no_text r.0))

-- a draft whose delivery is new: what the rules ask of its text says nothing of that
module _ (role : Role) (draft : BaseRecord) (old : DeskView) where
  abbrev Written : List Entry → List ℕ → Type 0
  Written entries text = written_of draft (next_control entries) ≡ Ok text

  abbrev NewWritten : List Entry → List ℕ → Type 0
  NewWritten entries text = IsNew draft.number (deeds_of entries) × Written entries text

  as_new : (fault : Option RuleFault) (e : BookFault) → IsNew draft.number (deeds_of old.book.known) → Refuses e fault Signed (Written old.book.known) old.book → Refuses e fault Signed (NewWritten old.book.known) old.book
  as_new fault (books.Full n) new (none, (text, written, legal, size, long)) = (none, (text, (new, written), legal, size, long))
  as_new fault books.Station new r = r
  as_new fault books.Memory new r = r
  as_new fault (books.NotOurTurn level) new r = r
  as_new fault (books.AlreadySigned level) new r = r
  as_new fault (books.UnknownSet check) new r = r
  as_new fault (books.AlreadyFinal check) new r = r
  as_new fault books.LevelLimit new r = r
  as_new fault books.Known new r = r
  as_new fault (books.Stale level) new r = r
  as_new fault (books.Apply why) new r = r
  as_new fault books.NoDelivery new r = r
  as_new fault (books.Set why) new r = r
  as_new fault (books.Write why) new r = r
  as_new fault books.WrongSide new r = r

  pub unsigned_new : (result : Result (Unit {0}) StageFault) (fault : Option RuleFault) (e : BookFault) (book : BookView) → IsStaging old.book → old.book.header.role ≡ role → IsNew draft.number (deeds_of old.book.known)
      → ((refusal : RuleFault) → fault ≡ Some refusal → (text : List ℕ) → NewWritten old.book.known text → StaysLegal role old.book.known (signed text) → ⊥) → result ≡ as_unsigned (as_refusal e)
      → Refuses e fault Signed (Written old.book.known) old.book × (book ≡ old.book) → StagesTo result (ProposesDraft role draft) (AddsNext (ProposesDraft role draft)) old (record old { book = book })
  unsigned_new result fault e book staging own new no_text is r =
      unsigned_behind role draft.number false NewWritten old result fault e book staging own no_text is (as_new fault e new r.0, r.1)
