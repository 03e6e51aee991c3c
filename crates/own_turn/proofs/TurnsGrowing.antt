-- An own turn adds entries, each of which is chosen or lent.
use Rattle.std.proofs.Common.{◌≡◌, ℕ, ◌+◌, Bool, true, false, cond, List, [], ◌∷◌, ◌++◌, Option, Some, None, refl, sym, ◌∙◌, ap, subst, inl, inr, arith, append_assoc, append-nil}
use Rattle.std.specs.Prelude.{Contains}
use Rattle.std.proofs.lemmas.List.Elements.{Contains-append_right}
use Rattle.dsd_values.specs.declared.role.Role.{Role}
use Rattle.base_record_894.specs.BaseRecord.{BaseRecord}
use Rattle.dxs_envelope.specs.declared.fault.EnvelopeFault.{EnvelopeFault}
use Rattle.dsd_record.specs.Choices.{Chooser}
use Rattle.dsd_journal.specs.declared.entry.Entry.{Entry}
use Rattle.dsd_journal.specs.declared.header.Header.{Header}
use Rattle.delivery_book.specs.Refusals.{was_taken}
use Rattle.dsd_record.specs.ReadSets.{set_in}
use Rattle.own_turn.specs.DueSets.{DueSet, with_known_set}
use Rattle.own_turn.specs.NextEntry.{AddsInTurn, Answering, Proposing, Taking, TurnAddsNext}
use Rattle.own_turn.specs.Staging.{IsStaged}
use Rattle.own_turn.specs.OwnTurn.{Desk, InTurn, TakesSet, Takes, StaysLegal, Answers, Proposes, Turned, awaiting, gathered, lent, passed_over, sets_lent, signed, spoken, took, with_fault}
use Rattle.own_turn.specs.TurnsGrow.{AreNew, IsGrown, IsNewAs}

-- ---- what leaves the entries as they are

pub passed_entries : (desk : Desk) (text : List ℕ) → (passed_over desk text).entries ≡ desk.entries
passed_entries desk text = by_test (was_taken text desk.entries)
  where
    by_test : (t : Bool) → (cond t (record desk { asked = with_known_set desk.asked (set_in text) }) (record desk { refused = desk.refused + 1 })).entries ≡ desk.entries
    by_test true = refl
    by_test false = refl

fault_entries : (desk : Desk) (fault : Option EnvelopeFault) → (with_fault desk fault).entries ≡ desk.entries
fault_entries desk None = refl
fault_entries desk (Some fault) = refl

pub spoken_entries : (desk : Desk) (sets : List DueSet) → (spoken desk sets).entries ≡ desk.entries
spoken_entries desk [] = refl
spoken_entries desk (set ∷ more) = refl

-- ---- what grows

module _ (role : Role) (chooser : Chooser) (P : List ℕ → Type 0) where
  pub grown_not : (entries : List Entry) → IsGrown role chooser P entries entries
  grown_not entries = record { added = []; grown = sym (append-nil entries); each = tt; legal = λ l. l }

  pub grown_same : (old new : List Entry) → new ≡ old → IsGrown role chooser P old new
  grown_same old new e = subst (IsGrown role chooser P old) (sym e) (grown_not old)

  new_more : (before one more : List Entry) → AreNew role chooser P before one → AreNew role chooser P (before ++ one) more → AreNew role chooser P before (one ++ more)
  new_more before [] more a b = subst (λ (l : List Entry). AreNew role chooser P l more) (append-nil before) b
  new_more before (entry ∷ one) more (h, a) b =
      (h, new_more (before ++ entry ∷ []) one more a (subst (λ (l : List Entry). AreNew role chooser P l more) (sym (append_assoc before (entry ∷ []) one)) b))

  pub grown_on : (a b c : List Entry) → IsGrown role chooser P a b → IsGrown role chooser P b c → IsGrown role chooser P a c
  grown_on a b c g h = record {
    added = g.added ++ h.added;
    grown = h.grown ∙ ap (λ (l : List Entry). l ++ h.added) g.grown ∙ append_assoc a g.added h.added;
    each = new_more a g.added h.added g.each (subst (λ (l : List Entry). AreNew role chooser P l h.added) g.grown h.each);
    legal = λ l. h.legal (g.legal l);
  }

  pub grown_one : (old : List Entry) (entry : Entry) → StaysLegal role old entry → IsNewAs entry.kind role chooser P old entry.payload → IsGrown role chooser P old (old ++ entry ∷ [])
  grown_one old entry legal new = record { added = entry ∷ []; grown = refl; each = (new, tt); legal = λ _. legal }

  -- ---- the steps

  set_grows : (text : List ℕ) (old new : Desk) → P text → TakesSet role text old new → IsGrown role chooser P old.entries new.entries
  set_grows text old new p (inl (legal, e)) =
      subst (λ (d : Desk). IsGrown role chooser P old.entries d.entries) (sym e) (grown_one old.entries (took text) legal p)
  set_grows text old new p (inr (_, e)) = grown_same old.entries new.entries (ap (λ (d : Desk). d.entries) e ∙ passed_entries old text)

  takes_grow : (texts : List (List ℕ)) (old new : Desk) → ((text : List ℕ) → Contains texts text → P text) → InTurn (TakesSet role) texts old new
      → IsGrown role chooser P old.entries new.entries
  takes_grow [] old new all e = grown_same old.entries new.entries (ap (λ (d : Desk). d.entries) e)
  takes_grow (text ∷ texts) old new all (next, step, more) =
      grown_on old.entries next.entries new.entries (set_grows text old next (all text (0, omega arith, refl)) step)
      (takes_grow texts next new (λ t inside. all t (Contains-append_right (text ∷ []) texts t inside)) more)

  text_grows : (text : List ℕ) (old new : Desk) → ((set : List ℕ) → Contains (sets_lent text) set → P set) → Takes role text old new
      → IsGrown role chooser P old.entries new.entries
  text_grows text old new all (behind, sets, e) =
      grown_on old.entries behind.entries new.entries (takes_grow (sets_lent text) old behind all sets)
      (grown_same behind.entries new.entries (ap (λ (d : Desk). d.entries) e ∙ fault_entries behind (lent text).fault))

  answer_grows : (number : List ℕ) (old new : Desk) → Answers role chooser number old new → IsGrown role chooser P old.entries new.entries
  answer_grows number old new (inl (text, may, e)) =
      subst (λ (d : Desk). IsGrown role chooser P old.entries d.entries) (sym e) (grown_one old.entries (signed text) may.legal (inr (number, may.chosen)))
  answer_grows number old new (inr (_, e)) = grown_same old.entries new.entries (ap (λ (d : Desk). d.entries) e)

  answers_grow : (numbers : List (List ℕ)) (old new : Desk) → InTurn (Answers role chooser) numbers old new → IsGrown role chooser P old.entries new.entries
  answers_grow [] old new e = grown_same old.entries new.entries (ap (λ (d : Desk). d.entries) e)
  answers_grow (number ∷ numbers) old new (next, step, more) =
      grown_on old.entries next.entries new.entries (answer_grows number old next step) (answers_grow numbers next new more)

  draft_grows : (draft : BaseRecord) (old new : Desk) → Proposes role chooser draft old new → IsGrown role chooser P old.entries new.entries
  draft_grows draft old new (inl (text, may, e)) =
      subst (λ (d : Desk). IsGrown role chooser P old.entries d.entries) (sym e) (grown_one old.entries (signed text) may.legal (inl (draft, may.chosen)))
  draft_grows draft old new (inr (_, e)) = grown_same old.entries new.entries (ap (λ (d : Desk). d.entries) e)

  drafts_grow : (drafts : List BaseRecord) (old new : Desk) → InTurn (Proposes role chooser) drafts old new → IsGrown role chooser P old.entries new.entries
  drafts_grow [] old new e = grown_same old.entries new.entries (ap (λ (d : Desk). d.entries) e)
  drafts_grow (draft ∷ drafts) old new (next, step, more) =
      grown_on old.entries next.entries new.entries (draft_grows draft old next step) (drafts_grow drafts next new more)

  -- ---- a turn that goes no further

  next_grows : {A : Type 0} (Step : A → Desk → Desk → Type 0) (items : List A) (old : Desk) (entries : List Entry) (entry : Entry)
      → ((item : A) (one other : Desk) → Contains items item → Step item one other → IsGrown role chooser P one.entries other.entries)
      → AddsInTurn Step items old entries entry → IsGrown role chooser P old.entries entries
  next_grows Step [] old entries entry each adds = absurd adds
  next_grows Step (item ∷ items) old entries entry each (inl adds) = grown_same old.entries entries (sym adds.behind)
  next_grows Step (item ∷ items) old entries entry each (inr (next, step, more)) =
      grown_on old.entries next.entries entries (each item old next (0, omega arith, refl) step)
      (next_grows Step items next entries entry (λ one a b inside. each one a b (Contains-append_right (item ∷ []) items one inside)) more)

-- all that a turn adds to the entries
pub staged_grows : (P : List ℕ → Type 0) (role : Role) (chooser : Chooser) (old new : Desk) (text : List ℕ) → ((set : List ℕ) → Contains (sets_lent text) set → P set)
    → IsStaged role chooser text old new → IsGrown role chooser P old.entries new.entries
staged_grows P role chooser old new text all t =
    let first = text_grows role chooser P text old t.taken all t.takes in
    let second = answers_grow role chooser P (awaiting t.taken.entries) t.taken t.answered t.answers in
    let third = drafts_grow role chooser P chooser.drafts t.answered new t.proposes in
    grown_on role chooser P old.entries t.taken.entries new.entries first
    (grown_on role chooser P t.taken.entries t.answered.entries new.entries second third)

-- and up to the entry that it adds next
pub turn_next_grows : (P : List ℕ → Type 0) (role : Role) (chooser : Chooser) (old : Desk) (text : List ℕ) (entries : List Entry) (entry : Entry) → ((set : List ℕ) → Contains (sets_lent text) set → P set)
    → TurnAddsNext role chooser text old entries entry → IsGrown role chooser P old.entries entries
turn_next_grows P role chooser old text entries entry all (Taking adds) =
    next_grows role chooser P (TakesSet role) (sets_lent text) old entries entry (λ set a b inside step. set_grows role chooser P set a b (all set inside) step) adds
turn_next_grows P role chooser old text entries entry all (Answering taken takes adds) =
    grown_on role chooser P old.entries taken.entries entries (text_grows role chooser P text old taken all takes)
    (next_grows role chooser P (Answers role chooser) (awaiting taken.entries) taken entries entry (λ number a b inside step. answer_grows role chooser P number a b step) adds)
turn_next_grows P role chooser old text entries entry all (Proposing taken answered takes answers adds) =
    grown_on role chooser P old.entries taken.entries entries (text_grows role chooser P text old taken all takes)
    (grown_on role chooser P taken.entries answered.entries entries (answers_grow role chooser P (awaiting taken.entries) taken answered answers)
    (next_grows role chooser P (Proposes role chooser) chooser.drafts answered entries entry (λ draft a b inside step. draft_grows role chooser P draft a b step) adds))

-- an own turn
pub turn_grows : (P : List ℕ → Type 0) (header : Header) (chooser : Chooser) (old new : Desk) (text load : List ℕ) → ((set : List ℕ) → Contains (sets_lent text) set → P set)
    → Turned header chooser old text new load → IsGrown header.role chooser P old.entries new.entries
turn_grows P header chooser old new text load all t =
    let role = header.role in
    let staged = staged_grows P role chooser old t.proposed text all (record { taken = t.taken; answered = t.answered; takes = t.takes; answers = t.answers; proposes = t.proposes }) in
    let last : IsGrown role chooser P t.proposed.entries new.entries =
    grown_same role chooser P t.proposed.entries new.entries (ap (λ (d : Desk). d.entries) t.speaks ∙ spoken_entries t.proposed (gathered header t.proposed)) in
    grown_on role chooser P old.entries t.proposed.entries new.entries staged last
