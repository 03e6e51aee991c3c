-- An own turn without a load has nothing due, since one set always fits into a transmission.
use Rattle.std.proofs.Common.{◌≡◌, ◌≤◌, ◌+◌, ℕ, Bool, true, false, cond, nat_le, length, List, [], ◌∷◌, ◌++◌, Option, Some, None, refl, sym, ap, subst, ◌∙◌, inl, inr, append-nil, arith}
use Rattle.std.specs.List.{concat}
use Rattle.std.proofs.lemmas.Bool.Decides.{nat_tests}
use Rattle.std.proofs.lemmas.Fmt.{length-decimal-le}
use Rattle.dsd_values.specs.Writing.{number_text}
use Rattle.dsd_values.specs.declared.role.Role.{Role}
use Rattle.segments.specs.declared.segment_writer.TheConstants.{MOST_CONTROL_NUMBER}
use Rattle.base_record_894.specs.BaseRecord.{BaseRecord}
use Rattle.dsd_record.specs.Choices.{Chooser}
use Rattle.dsd_record.specs.ReadSets.{set_in}
use Rattle.dsd_record.specs.SetTexts.{IsSet}
use Rattle.dsd_record.specs.declared.set_view.SetView.{SetView}
use Rattle.dsd_record.specs.declared.set_view.SetView.TheVariants as sets
use Rattle.dxs_envelope.specs.Sending.{text_of_sets}
use Rattle.dxs_envelope.specs.declared.fault.EnvelopeFault.{EnvelopeFault}
use Rattle.dsd_journal.specs.declared.header.Header.{Header}
use Rattle.delivery_book.specs.Refusals.{was_taken}
use Rattle.own_turn.specs.DueSets.{DueSet, due_sets, has_room, reached, with_known_set}
use Rattle.own_turn.specs.OwnTurn.{Answers, Desk, IsLoad, Proposes, TakesSet, Turned, awaiting, gathered, lent, next_turn, sets_lent, spoken, with_fault}
use Rattle.own_turn.proofs.Framing.{envelope_length, transmission_length}
use Rattle.dsd_end.specs.Sealing.{IsSomeSet}
use Rattle.clean_sessions.specs.CourseTurns.{NothingDue}
use Rattle.clean_sessions.specs.CleanTurns.{has_none}
use Rattle.clean_sessions.specs.SeatTurns as seats
use Rattle.clean_sessions.proofs.DeliveryTurns.{each_keeps}
use Rattle.clean_sessions.proofs.LoadsCounted.{head_some}
use Rattle.clean_sessions.proofs.SessionsTaken.{AreSets, dues_are}

-- ---- the count of turns with blocks

set_turns : (role : Role) (n : ℕ) (text : List ℕ) (old new : Desk) → old.turns ≡ n → TakesSet role text old new → new.turns ≡ n
set_turns role n text old new is (inl (legal, e)) = ap (λ (d : Desk). d.turns) e ∙ is
set_turns role n text old new is (inr (none, e)) = ap (λ (d : Desk). d.turns) e ∙ by (was_taken text old.entries) ∙ is
  where
    by : (t : Bool) → (cond t (record old { asked = with_known_set old.asked (set_in text) }) (record old { refused = old.refused + 1 })).turns ≡ old.turns
    by true = refl
    by false = refl

answer_turns : (role : Role) (chooser : Chooser) (n : ℕ) (number : List ℕ) (old new : Desk) → old.turns ≡ n → Answers role chooser number old new → new.turns ≡ n
answer_turns role chooser n number old new is (inl (text, may, e)) = ap (λ (d : Desk). d.turns) e ∙ is
answer_turns role chooser n number old new is (inr (none, e)) = ap (λ (d : Desk). d.turns) e ∙ is

draft_turns : (role : Role) (chooser : Chooser) (n : ℕ) (draft : BaseRecord) (old new : Desk) → old.turns ≡ n → Proposes role chooser draft old new → new.turns ≡ n
draft_turns role chooser n draft old new is (inl (text, may, e)) = ap (λ (d : Desk). d.turns) e ∙ is
draft_turns role chooser n draft old new is (inr (none, e)) = ap (λ (d : Desk). d.turns) e ∙ is

module _ (header : Header) (chooser : Chooser) (old new : Desk) (text load : List ℕ) (t : Turned header chooser old text new load) where
  fault_turns : (desk : Desk) (fault : Option EnvelopeFault) → (with_fault desk fault).turns ≡ desk.turns
  fault_turns desk None = refl
  fault_turns desk (Some fault) = refl

  abbrev Same : Desk → Type 0
  Same desk = desk.turns ≡ old.turns

  taken_turns : Same t.taken
  taken_turns =
      ap (λ (d : Desk). d.turns) t.takes.2 ∙ fault_turns t.takes.0 (lent text).fault
      ∙ each_keeps (TakesSet header.role) Same (sets_lent text) old t.takes.0 (λ set a b is step. set_turns header.role old.turns set a b is step) refl t.takes.1

  answered_turns : Same t.answered
  answered_turns = each_keeps (Answers header.role chooser) Same (awaiting t.taken.entries) t.taken t.answered (λ number a b is step. answer_turns header.role chooser old.turns number a b is step) taken_turns t.answers

  proposed_turns : Same t.proposed
  proposed_turns = each_keeps (Proposes header.role chooser) Same chooser.drafts t.answered t.proposed (λ draft a b is step. draft_turns header.role chooser old.turns draft a b is step) answered_turns t.proposes

  -- it stays a control number
  pub turns_low : old.turns ≤ MOST_CONTROL_NUMBER → new.turns ≤ MOST_CONTROL_NUMBER
  turns_low low = subst (λ (d : Desk). d.turns ≤ MOST_CONTROL_NUMBER) (sym t.speaks) (by (gathered header t.proposed) t.loads)
    where
      by : (sets : List DueSet) → IsLoad header (next_turn t.proposed) sets load → (spoken t.proposed sets).turns ≤ MOST_CONTROL_NUMBER
      by [] is = subst (λ (n : ℕ). n ≤ MOST_CONTROL_NUMBER) (sym proposed_turns) low
      by (set ∷ more) is = is.high

  -- ---- one set fits

  set_short : (set : SetView) (text : List ℕ) → IsSet set text → length text ≤ 262_144
  set_short (sets.Base base seal) text is = is.short
  set_short (sets.Answer answer seal) text is = is.short

  room_for : (set : DueSet) → length header.own ≡ 10 → length header.peer ≡ 10 → old.turns ≤ MOST_CONTROL_NUMBER → IsSomeSet set.text → has_room header (next_turn t.proposed) (set ∷ []) ≡ true
  room_for set ten also low (view, is) =
      let control : ℕ = next_turn t.proposed in
      let same = proposed_turns in
      let few : length (number_text control) ≤ 10 = length-decimal-le 10 control (omega arith) (omega (arith, same, low)) (omega (arith, same, low)) in
      let one : length (number_text 1) ≤ 1 = length-decimal-le 1 1 (omega arith) (omega arith) (omega arith) in
      let frame = envelope_length header.own header.peer control 1 (length (number_text control)) (length (number_text 1)) ten also (omega arith) refl refl in
      let all = transmission_length header.own header.peer control (set.text ∷ []) in
      let alone : length (concat (set.text ∷ [])) ≡ length set.text = ap length (append-nil set.text) in
      let short = set_short view set.text is in
      fits (length (text_of_sets header.own header.peer control (set.text ∷ []))) (omega (arith, few, one, frame, all, alone, short))
    where
      fits : (n : ℕ) → n ≤ 270_000 → nat_le n 270_000 ≡ true
      fits n le = grind (arith, nat_tests)

  reached_some : (front : List DueSet) (first : DueSet) (more : List DueSet) → reached header (next_turn t.proposed) (first ∷ front) more ≡ [] → ⊥
  reached_some front first [] e = cc
  reached_some front first (set ∷ more) e = by (has_room header (next_turn t.proposed) (first ∷ (front ++ set ∷ []))) (reached_some (front ++ set ∷ []) first more) e
    where
      by : (room : Bool) → (reached header (next_turn t.proposed) (first ∷ (front ++ set ∷ [])) more ≡ [] → ⊥) → cond room (reached header (next_turn t.proposed) (first ∷ (front ++ set ∷ [])) more) (first ∷ front) ≡ [] → ⊥
      by true on f = on f
      by false on f = cc

  pub silent_load : length header.own ≡ 10 → length header.peer ≡ 10 → old.turns ≤ MOST_CONTROL_NUMBER → has_none load ≡ true → NothingDue t.proposed
  silent_load ten also low none = by (due_sets t.proposed.entries t.proposed.asked) (dues_are t.proposed.entries t.proposed.asked _) gathered_none
    where
      some_load : (sets : List DueSet) → IsLoad header (next_turn t.proposed) sets load → sets ≡ []
      some_load [] is = refl
      some_load (set ∷ more) is = absurd (head_some _ header.own header.peer (next_turn t.proposed) load is (no_bytes load none))
        where
          no_bytes : (bytes : List ℕ) → has_none bytes ≡ true → bytes ≡ []
          no_bytes [] e = refl
          no_bytes (byte ∷ more) e = absurd (cc)

      gathered_none : gathered header t.proposed ≡ []
      gathered_none = some_load (gathered header t.proposed) t.loads

      by : (due : List DueSet) → AreSets due → reached header (next_turn t.proposed) [] due ≡ [] → due ≡ []
      by [] sets e = refl
      by (set ∷ more) sets e =
          absurd (reached_some [] set more (ap (λ (room : Bool). cond room (reached header (next_turn t.proposed) (set ∷ []) more) []) (sym (room_for set ten also low sets.0)) ∙ e))

-- a load is nothing where no set is gathered, and else it is not
pub none_alike : (header : Header) (control : ℕ) (sets : List DueSet) (load : List ℕ) → IsLoad header control sets load → seats.has_none sets ≡ has_none load
none_alike header control [] load is = sym (ap has_none is)
none_alike header control (set ∷ more) load is = some_bytes load (head_some _ header.own header.peer control load is)
  where
    some_bytes : (bytes : List ℕ) → (bytes ≡ [] → ⊥) → false ≡ has_none bytes
    some_bytes [] some = absurd (some refl)
    some_bytes (byte ∷ more) some = refl
