-- A turn with nothing to do takes no memory.
use Rattle.std.proofs.Common.{◌≡◌, ℕ, zero, suc, ◌+◌, ◌<◌, Bool, eqb, true, false, if◌then◌else◌, List, [], ◌∷◌, ◌++◌, length, get_or, slice_get, map, Option, Some, None, Result, Ok, Err, refl, sym, ◌∙◌, ap, subst, inl, inr, arith}
use Rattle.std.specs.List.{filter}
use Rattle.dsd_values.specs.declared.role.Role.{Role}
use Rattle.base_record_894.specs.BaseRecord.{BaseRecord}
use Rattle.dsd_record.specs.Choices.{Chooser}
use Rattle.dxs_envelope.specs.FirstFault.{told_of}
use Rattle.dxs_envelope.specs.Views.{SetAt, Told}
use Rattle.dxs_envelope.specs.declared.fault.EnvelopeFault.{EnvelopeFault}
use Rattle.dsd_journal.specs.declared.entry.Entry.{Entry}
use Rattle.dsd_journal.specs.declared.header.Header.{Header}
use Rattle.delivery_book.specs.Deeds.{deeds_of}
use Rattle.delivery_book.specs.Standing.{IsNew}
use Rattle.own_turn.specs.DueSets.{DueSet, Asked, due_sets, has_room, reached}
use Rattle.own_turn.specs.IdleTurns.{AddsNothing, AreKnown, IfNoMemory}
use Rattle.own_turn.specs.OwnTurn.{Answers, AnswersEach, Desk, InTurn, Proposes, Takes, TakesSet, awaiting, gathered, lent, sets_lent, with_fault}
use Rattle.own_turn.specs.Staging.{GivesUp, IsStaged}
use Rattle.own_turn.specs.declared.turn_fault.TurnFault.{TurnFault}
use Rattle.own_turn.specs.declared.turn_fault.TurnFault.TheVariants as turns

-- ---- a text without sets

none_told : (sets : List SetAt) → map (λ (set : SetAt). set.bytes) sets ≡ [] → sets ≡ []
none_told [] e = refl
none_told (set ∷ sets) e = absurd (cc)

pub none_heard : (text : List ℕ) (told : Told) → told ≡ told_of text → eqb (length text) 0 ≡ false → sets_lent text ≡ [] → told.sets ≡ []
none_heard [] told is some none = absurd (cc)
none_heard (byte ∷ text) told is some none = ap (λ (t : Told). t.sets) is ∙ none_told (told_of (byte ∷ text)).sets none

-- ---- what stays where nothing is added

-- the entries, what due sets ask of the session, and the count of turns
pub record IsStill (old new : Desk) : Type 0 where
  pub entries : new.entries ≡ old.entries
  pub asked : new.asked ≡ old.asked
  pub turns : new.turns ≡ old.turns

fault_still : (desk : Desk) (o : Option EnvelopeFault) → IsStill desk (with_fault desk o)
fault_still desk None = record { entries = refl; asked = refl; turns = refl }
fault_still desk (Some fault) = record { entries = refl; asked = refl; turns = refl }

in_turn_none : (role : Role) (sets : List (List ℕ)) (old behind : Desk) → sets ≡ [] → InTurn (TakesSet role) sets old behind → behind ≡ old
in_turn_none role sets old behind none steps = subst (λ (l : List (List ℕ)). InTurn (TakesSet role) l old behind) none steps

pub taken_still : (role : Role) (text : List ℕ) (old taken : Desk) → sets_lent text ≡ [] → Takes role text old taken → IsStill old taken
taken_still role text old taken none (behind, steps, e) =
    let same : behind ≡ old = in_turn_none role (sets_lent text) old behind none steps in
    let all : taken ≡ with_fault old (lent text).fault = e ∙ ap (λ (d : Desk). with_fault d (lent text).fault) same in
    subst (λ (d : Desk). IsStill old d) (sym all) (fault_still old (lent text).fault)

pub answered_still : (role : Role) (chooser : Chooser) (taken answered : Desk) → awaiting taken.entries ≡ [] → AnswersEach role chooser taken answered → answered ≡ taken
answered_still role chooser taken answered none steps = subst (λ (l : List (List ℕ)). InTurn (Answers role chooser) l taken answered) none steps

pub not_proposed : (role : Role) (chooser : Chooser) (draft : BaseRecord) (old new : Desk) → (IsNew draft.number (deeds_of old.entries) → ⊥) → Proposes role chooser draft old new → new ≡ old
not_proposed role chooser draft old new known (inl (text, may, e)) = absurd (known may.chosen.new)
not_proposed role chooser draft old new known (inr (none, e)) = e

proposed_still : (role : Role) (chooser : Chooser) (drafts : List BaseRecord) (old new : Desk) → AreKnown drafts old.entries → InTurn (Proposes role chooser) drafts old new → new ≡ old
proposed_still role chooser [] old new known e = e
proposed_still role chooser (draft ∷ drafts) old new known (next, step, steps) =
    let same : next ≡ old = not_proposed role chooser draft old next known.0 step in
    proposed_still role chooser drafts old new known.1 (subst (λ (d : Desk). InTurn (Proposes role chooser) drafts d new) same steps)

-- what is gathered is the same
pub gathered_still : (header : Header) (role : Role) (chooser : Chooser) (text : List ℕ) (old proposed : Desk) → AddsNothing chooser old text → IsStaged role chooser text old proposed → gathered header proposed ≡ gathered header old
gathered_still header role chooser text old proposed adds s =
    let still = taken_still role text old s.taken adds.lends s.takes in
    let answered : s.answered ≡ s.taken = answered_still role chooser s.taken s.answered (ap awaiting still.entries ∙ adds.awaits) s.answers in
    let entries : s.answered.entries ≡ old.entries = ap (λ (d : Desk). d.entries) answered ∙ still.entries in
    let last : proposed ≡ s.answered = proposed_still role chooser chooser.drafts s.answered proposed (subst (AreKnown chooser.drafts) (sym entries) adds.drafts) s.proposes in
    ap (gathered header) (last ∙ answered) ∙ same_gathered header s.taken old still
  where
    same_gathered : (header : Header) (one other : Desk) → IsStill other one → gathered header one ≡ gathered header other
    same_gathered header one other still =
        ap (λ (n : ℕ). reached header (n + 1) [] (due_sets one.entries one.asked)) still.turns ∙ ap (λ (l : List Entry). reached header (other.turns + 1) [] (due_sets l one.asked)) still.entries
        ∙ ap (λ (l : List Asked). reached header (other.turns + 1) [] (due_sets other.entries l)) still.asked

-- ---- the draft at a place

pub known_at : (drafts : List BaseRecord) (entries : List Entry) (index : ℕ) (draft : BaseRecord) → AreKnown drafts entries → slice_get drafts index ≡ Some draft → IsNew draft.number (deeds_of entries) → ⊥
known_at [] entries index draft known e = cc
known_at (first ∷ drafts) entries zero draft known e = subst (λ (d : BaseRecord). IsNew d.number (deeds_of entries) → ⊥) (same first draft e) known.0
  where
    same : (a b : BaseRecord) → Some a ≡ Some b → a ≡ b
    same a b h = cc
known_at (first ∷ drafts) entries (suc index) draft known e = known_at drafts entries index draft known.1 e

-- ---- deliveries that await

pub none_passes : (test : List ℕ → Bool) (xs : List (List ℕ)) (index : ℕ) → index < length xs → filter test xs ≡ [] → test (get_or xs index []) ≡ true → ⊥
none_passes test [] index within none passes = omega (arith, within)
none_passes test (x ∷ xs) zero within none passes = no_item x (filter test xs) (sym (ap (λ (b : Bool). if b then x ∷ filter test xs else filter test xs) passes) ∙ none)
  where
    no_item : (x : List ℕ) (xs : List (List ℕ)) → x ∷ xs ≡ [] → ⊥
    no_item x xs e = cc
none_passes test (x ∷ xs) (suc index) within none passes = none_passes test xs index (omega (arith, within)) (behind (test x) none) passes
  where
    behind : (b : Bool) → (if b then x ∷ filter test xs else filter test xs) ≡ [] → filter test xs ≡ []
    behind true e = absurd (cc)
    behind false e = e

-- ---- a set that has room is gathered

module _ (header : Header) (control : ℕ) where
  pub reached_from : (front sets : List DueSet) → (more : List DueSet) × (reached header control front sets ≡ front ++ more)
  reached_from front [] = ([], sym (append_none front))
    where
      append_none : (xs : List DueSet) → xs ++ [] ≡ xs
      append_none [] = refl
      append_none (x ∷ xs) = ap (λ (l : List DueSet). x ∷ l) (append_none xs)
  reached_from front (set ∷ sets) = at (has_room header control (front ++ set ∷ [])) (reached_from (front ++ set ∷ []) sets)
    where
      append_on : (xs : List DueSet) (more : List DueSet) → (xs ++ set ∷ []) ++ more ≡ xs ++ set ∷ more
      append_on [] more = refl
      append_on (x ∷ xs) more = ap (λ (l : List DueSet). x ∷ l) (append_on xs more)

      append_none : (xs : List DueSet) → xs ++ [] ≡ xs
      append_none [] = refl
      append_none (x ∷ xs) = ap (λ (l : List DueSet). x ∷ l) (append_none xs)

      at : (b : Bool) → (more : List DueSet) × (reached header control (front ++ set ∷ []) sets ≡ (front ++ set ∷ []) ++ more)
          → (more : List DueSet) × ((if b then reached header control (front ++ set ∷ []) sets else front) ≡ front ++ more)
      at true (more, e) = (set ∷ more, e ∙ append_on front more)
      at false (more, e) = ([], sym (append_none front))

  pub room_some : (front : List DueSet) (set : DueSet) (rest : List DueSet) → has_room header control (front ++ set ∷ []) ≡ true → reached header control front (set ∷ rest) ≡ [] → ⊥
  room_some front set rest room none =
      let here : reached header control front (set ∷ rest) ≡ reached header control (front ++ set ∷ []) rest =
      ap (λ (b : Bool). if b then reached header control (front ++ set ∷ []) rest else front) room in
      let found = reached_from (front ++ set ∷ []) rest in
      not_none front found.0 (sym found.1 ∙ sym here ∙ none)
    where
      not_none : (front more : List DueSet) → (front ++ set ∷ []) ++ more ≡ [] → ⊥
      not_none [] more e = cc
      not_none (x ∷ front) more e = cc

-- ---- the fault of a turn that gives up

pub gives_no_memory : {T : Type 0} (n : ℕ) (result : Result T TurnFault) (P : Type 0) → GivesUp n result → IfNoMemory result P
gives_no_memory n (Ok load) P gives = absurd gives
gives_no_memory n (Err turns.Station) P gives = tt
gives_no_memory n (Err (turns.Full m)) P gives = tt
gives_no_memory n (Err turns.Memory) P (inl e) = absurd (cc)
gives_no_memory n (Err turns.Memory) P (inr e) = absurd (cc)

pub no_memory_map : {T : Type 0} (P Q : Type 0) (r : Result T TurnFault) → (P → Q) → IfNoMemory r P → IfNoMemory r Q
no_memory_map P Q (Ok load) f k = tt
no_memory_map P Q (Err turns.Station) f k = tt
no_memory_map P Q (Err (turns.Full n)) f k = tt
no_memory_map P Q (Err turns.Memory) f k = f k
