-- The parts of a turn make the turn.
use Rattle.std.proofs.Common.{◌≡◌, ℕ, List, [], ◌++◌, Result, Ok, Err, ◌∙◌, ap, subst, append-nil}
use Rattle.std.specs.Prelude.{Contains}
use Rattle.dsd_station.specs.Told.{Told}
use Rattle.dsd_values.specs.declared.role.Role.{Role}
use Rattle.dsd_record.specs.Choices.{Chooser}
use Rattle.dsd_journal.specs.declared.adding_fault.StageFault.{StageFault}
use Rattle.dsd_journal.specs.declared.adding_fault.StageFault.TheVariants as stages
use Rattle.dsd_journal.specs.declared.entry.Entry.{Entry}
use Rattle.dsd_journal.specs.declared.header.Header.{Header}
use Rattle.delivery_book.specs.Books.{BookView}
use Rattle.own_turn.specs.Desks.{DeskView, IfFull, IsTooLong, Stores, desk_of}
use Rattle.own_turn.specs.NextEntry.{Answering, AnswersNext, Proposing, ProposesNext, TurnAddsNext}
use Rattle.own_turn.specs.OwnTurn.{AnswersEach, ProposesEach, Takes, sets_lent}
use Rattle.own_turn.specs.Staging.{IsFlushed, IsStaged, IsStaging, KeepsJournal, StagesTo}
use Rattle.own_turn.specs.TurnsGrow.{IsGrown}
use Rattle.own_turn.specs.declared.turn_fault.TurnFault.{TurnFault}
use Rattle.own_turn.specs.declared.turn_fault.TurnFault.TheVariants as turns
use Rattle.own_turn.proofs.Stopping.{stores_flushed}
use Rattle.own_turn.proofs.TurnsGrowing.{turn_next_grows}

own_role : (one other : DeskView) → KeepsJournal one.book other.book → other.book.header.role ≡ one.book.header.role
own_role one other journal = ap (λ (h : Header). h.role) journal.header

module _ (chooser : Chooser) (text : List ℕ) (old taken : DeskView) (first : KeepsJournal old.book taken.book) (takes : Takes old.book.header.role text (desk_of old) (desk_of taken)) where
  abbrev role : Role
  role = old.book.header.role

  abbrev Staged : Result (Unit {0}) StageFault → DeskView → Type 0
  Staged result new = StagesTo result (IsStaged role chooser text) (TurnAddsNext role chooser text) old new

  -- there was no room for an answer
  pub stops_answering : (fault : StageFault) (new : DeskView)
      → (let r : Result (Unit {0}) StageFault = Err fault in StagesTo r (AnswersEach taken.book.header.role chooser) (AnswersNext taken.book.header.role chooser) taken new) → Staged (Err fault) new
  stops_answering stages.Memory new told = tt
  stops_answering (stages.Full n) new told =
      let own = subst (λ (r : Role). IsTooLong (AnswersNext r chooser (desk_of taken)) new.book.known n) (own_role old taken first) told in
      record { entry = own.entry; next = Answering (desk_of taken) takes own.next; size = own.size; long = own.long }

  -- all was done, or there was no room for a proposal
  pub staged_all : (answered new : DeskView) (result : Result (Unit {0}) StageFault) → KeepsJournal taken.book answered.book → AnswersEach taken.book.header.role chooser (desk_of taken) (desk_of answered)
      → StagesTo result (ProposesEach answered.book.header.role chooser) (ProposesNext answered.book.header.role chooser) answered new → Staged result new
  staged_all answered new (Ok done) second answers told = record {
    taken = desk_of taken;
    answered = desk_of answered;
    takes = takes;
    answers = subst (λ (r : Role). AnswersEach r chooser (desk_of taken) (desk_of answered)) (own_role old taken first) answers;
    proposes = subst (λ (r : Role). ProposesEach r chooser (desk_of answered) (desk_of new)) (own_role taken answered second ∙ own_role old taken first) told;
  }
  staged_all answered new (Err stages.Memory) second answers told = tt
  staged_all answered new (Err (stages.Full n)) second answers told =
      let own = subst (λ (r : Role). IsTooLong (ProposesNext r chooser (desk_of answered)) new.book.known n) (own_role taken answered second ∙ own_role old taken first) told in
      record {
        entry = own.entry;
        next = Proposing (desk_of taken) (desk_of answered) takes (subst (λ (r : Role). AnswersEach r chooser (desk_of taken) (desk_of answered)) (own_role old taken first) answers) own.next;
        size = own.size;
        long = own.long;
      }

-- ---- what becomes of the station

pub never_full : {T : Type 0} (result : Result T TurnFault) (P : ℕ → Type 0) → IfFull result (λ _. ⊥) → IfFull result P
never_full (Ok load) P never = tt
never_full (Err turns.Station) P never = tt
never_full (Err (turns.Full n)) P never = absurd never
never_full (Err turns.Memory) P never = tt

-- a flush of all that was staged
pub stores_turn : (chooser : Chooser) (sets : List (List ℕ)) (old staged : BookView) (before after : Told) → KeepsJournal old staged → IsStaging old → old.staged ≡ [] → IsGrown old.header.role chooser (Contains sets) old.known staged.known
    → IsFlushed staged.header staged.entries staged.staged before after → Stores old.header chooser sets old.entries before after
stores_turn chooser sets old staged before after journal staging none grown flushed =
    let first : old.known ≡ old.entries = staging.known ∙ ap (λ (l : List Entry). old.entries ++ l) none ∙ append-nil old.entries in
    let last : staged.known ≡ old.entries ++ staged.staged = (journal.staging staging).known ∙ ap (λ (l : List Entry). l ++ staged.staged) journal.entries in
    stores_flushed old.header chooser sets old.entries staged.staged before after
    (subst (λ (l : List Entry). IsGrown old.header.role chooser (Contains sets) old.entries l) last (subst (λ (l : List Entry). IsGrown old.header.role chooser (Contains sets) l staged.known) first grown))
    (subst (λ (h : Header). IsFlushed h old.entries staged.staged before after) journal.header (subst (λ (l : List Entry). IsFlushed staged.header l staged.staged before after) journal.entries flushed))

-- the entries behind which there is no room grew too
pub grown_full : (role : Role) (chooser : Chooser) (text : List ℕ) (old staged : DeskView) (fault : StageFault) (n : ℕ) → fault ≡ stages.Full n
    → (let r : Result (Unit {0}) StageFault = Err fault in StagesTo r (IsStaged role chooser text) (TurnAddsNext role chooser text) old staged) → IsGrown role chooser (Contains (sets_lent text)) old.book.known staged.book.known
grown_full role chooser text old staged fault n is told =
    let full : IsTooLong (TurnAddsNext role chooser text (desk_of old)) staged.book.known n =
    subst (λ (f : StageFault). (let r : Result (Unit {0}) StageFault = Err f in StagesTo r (IsStaged role chooser text) (TurnAddsNext role chooser text) old staged)) is told in
    turn_next_grows (Contains (sets_lent text)) role chooser (desk_of old) text staged.book.known full.entry (λ set inside. inside) full.next
