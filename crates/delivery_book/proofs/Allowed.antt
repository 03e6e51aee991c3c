-- Which entries may stand behind legal ones, by how their delivery stands.
use Rattle.std.proofs.Common.{◌≡◌, ◌≤◌, ◌+◌, ℕ, Bool, true, false, not, ◌&&◌, is_some, is_none, List, [], ◌∷◌, ◌++◌, length, Option, Some, None, Result, Ok, Err, IfOk, refl, sym, ap, subst, ◌∙◌, arith}
use Rattle.std.proofs.lemmas.Slice.Eq.{bytes_eq-Decides}
use Rattle.dsd_values.specs.declared.level.TheConstants.Level.{MAX as HIGHEST}
use Rattle.dsd_values.specs.Reading.{level_of}
use Rattle.dsd_values.specs.declared.fault.Memory.{Memory as NoRoom}
use Rattle.dsd_values.specs.declared.role.Role.{Role}
use Rattle.dsd_values.specs.declared.role.Role.TheVariants.{Supplier, Receiver}
use Rattle.dsd_values.proofs.Laws.{number_spelled}
use Rattle.dsd_pricing.specs.declared.fault.WriteFault.{WriteFault}
use Rattle.segments.specs.Views.{Seg, element_of}
use Rattle.transaction_set.specs.declared.seal.Seal.{Seal}
use Rattle.base_record_894.specs.BaseRecord.{BaseRecord}
use Rattle.adjustment_895.specs.AnswerRecord.{AnswerRecord}
use Rattle.adjustment_895.specs.Grammar.{AreSegments}
use Rattle.dsd_record.specs.Applying.{Applies, apply_fault}
use Rattle.dsd_record.specs.Naming.{Names}
use Rattle.transaction_set.specs.Refusal.{Answers, Refusal}
use Rattle.transaction_set.specs.declared.set_fault.SetFault.{SetFault}
use Rattle.transaction_set.specs.declared.set_fault.SetFault.TheVariants as setfaults
use Rattle.dsd_record.specs.SetTexts.{IsSet, set_refusal}
use Rattle.dsd_record.specs.Version.{Version}
use Rattle.dsd_record.specs.declared.fault.ApplyFault.{ApplyFault}
use Rattle.dsd_record.specs.declared.set_view.SetView.{SetView}
use Rattle.dsd_record.specs.declared.set_view.SetView.TheVariants as sets
use Rattle.dsd_record.proofs.Faults.{fault_none, faultless}
use Rattle.dsd_record.proofs.Sets.{not_refused, one}
use Rattle.dsd_journal.specs.declared.entry.Entry.{Entry}
use Rattle.dsd_journal.specs.declared.entry.EntryKind.{EntryKind}
use Rattle.dsd_journal.specs.declared.entry.EntryKind.TheVariants.{Signed, Took}
use Rattle.delivery_book.specs.Admissions.{Decides, as_no_set, is_admitted, is_allowed, is_base_allowed, is_stand_answered, is_turn}
use Rattle.delivery_book.specs.Changes.{IsChange, is_form, is_set_written, is_written}
use Rattle.delivery_book.specs.Deeds.{Deed, deeds_of, is_signed, number_in, other_kind, proposes, signer}
use Rattle.delivery_book.specs.Index.{AreRules, IsKept, IsMade, IsStand, Stand, accepts, kept_in, stand_after}
use Rattle.delivery_book.specs.Outcomes.{Admits}
use Rattle.delivery_book.specs.Refusals.{is_role}
use Rattle.delivery_book.specs.Signing.{Allows, AllowsAnswer, AllowsBase, AllowsKind, AllowsSet, IsOwnLevel, IsWritten, next_control}
use Rattle.delivery_book.specs.Standing.{acceptance_of, version_at}
use Rattle.delivery_book.specs.Takings.{IsAdded}
use Rattle.delivery_book.specs.declared.change.Change.{Change}
use Rattle.delivery_book.specs.declared.fault.AdmitFault.{AdmitFault}
use Rattle.delivery_book.specs.declared.fault.AdmitFault.TheVariants.{Illegal, Memory}
use Rattle.delivery_book.proofs.Agreeing.{left_of, right_of, some_same}
use Rattle.delivery_book.proofs.Behind.{set_stands, stands_not_new}
use Rattle.delivery_book.proofs.Chained.{both_of}
use Rattle.delivery_book.proofs.Founded.{Founded}
use Rattle.delivery_book.proofs.Grown.{legal_founded}
use Rattle.delivery_book.proofs.SignExact.{none_before, own_level, version_names}
use Rattle.delivery_book.proofs.Standings.{highest_is, none_of_new, not_true}
use Rattle.delivery_book.proofs.TakeExact.{is_own}

-- ---- levels

head_low : (answer : AnswerRecord) (seal : Seal) (segs : List Seg) → AreSegments answer seal segs → answer.level ≤ HIGHEST
head_low answer seal [] s = absurd s
head_low answer seal (first ∷ []) s = absurd s.2
head_low answer seal (first ∷ second ∷ segs) s = ((number_spelled 0 HIGHEST (element_of second 5) (level_of (element_of second 5)) refl answer.level).0 s.2.1.level).at_most

-- ---- tests

same_role : (a b : Role) → is_role a b ≡ true → a ≡ b
same_role Supplier Supplier e = refl
same_role Receiver Receiver e = refl
same_role Supplier Receiver e = cc
same_role Receiver Supplier e = cc

no_stand : (o : Option Stand) → is_none o ≡ true → o ≡ None
no_stand None e = refl
no_stand (Some stand) e = cc

no_fault : (o : Option ApplyFault) → is_none o ≡ true → o ≡ None
no_fault None e = refl
no_fault (Some fault) e = cc

not_accepted : (o : Option Deed) → is_some o ≡ false → o ≡ None
not_accepted None e = refl
not_accepted (Some deed) e = cc

turned_to : (kind top : EntryKind) → is_turn (is_signed top) kind ≡ true → top ≡ other_kind kind
turned_to Signed Signed e = cc
turned_to Signed Took e = refl
turned_to Took Signed e = refl
turned_to Took Took e = cc

turn_so : (kind top : EntryKind) → top ≡ other_kind kind → is_turn (is_signed top) kind ≡ true
turn_so Signed top e = ap (λ (k : EntryKind). not (is_signed k)) e
turn_so Took top e = ap is_signed e

all_hold : (letter closed turn last : Bool) → letter ≡ true → closed ≡ false → turn ≡ true → last ≡ true → (letter && (not closed && (turn && last))) ≡ true
all_hold letter closed turn last a b c d =
    ap (λ (x : Bool). x && (not closed && (turn && last))) a ∙ ap (λ (x : Bool). not x && (turn && last)) b ∙ ap (λ (x : Bool). x && last) c ∙ d

-- ---- sets

module _ (role : Role) (entries : List Entry) (f : Founded role (deeds_of entries)) (kind : EntryKind) where
  base_allowed : (base : BaseRecord) (o : Option Stand) → IsKept base.number entries o → is_base_allowed role kind o ≡ true → AllowsBase role (deeds_of entries) kind base
  base_allowed base o k e = record {
    side = same_role (signer role kind) Supplier (left_of (is_role (signer role kind) Supplier) (is_none o) e);
    new = subst (IsKept base.number entries) (no_stand o (right_of (is_role (signer role kind) Supplier) (is_none o) e)) k;
  }

  stand_allowed : (answer : AnswerRecord) (stand : Stand) → IsStand answer.number entries stand → is_stand_answered role kind stand answer ≡ true → AllowsAnswer role (deeds_of entries) kind answer
  stand_allowed answer stand s e =
      let letter = left_of (is_role answer.role (signer role kind)) (not stand.accepted && (is_turn stand.ours kind && is_none (apply_fault stand.seen answer))) e in
      let rest = right_of (is_role answer.role (signer role kind)) (not stand.accepted && (is_turn stand.ours kind && is_none (apply_fault stand.seen answer))) e in
      let closed = left_of (not stand.accepted) (is_turn stand.ours kind && is_none (apply_fault stand.seen answer)) rest in
      let last = right_of (not stand.accepted) (is_turn stand.ours kind && is_none (apply_fault stand.seen answer)) rest in
      let applies : Applies stand.seen answer = faultless stand.seen answer (no_fault (apply_fault stand.seen answer) (right_of (is_turn stand.ours kind) (is_none (apply_fault stand.seen answer)) last)) in
      record {
        letter = same_role answer.role (signer role kind) letter;
        highest = s.top;
        is_highest = s.is_top;
        named = subst (Names answer) (version_names role entries f answer (record { control = []; check = 0 }) [] s.top stand.seen s.is_top s.seen) applies.named;
        turn = turned_to kind s.top.kind (ap (λ (b : Bool). is_turn b kind) s.ours ∙ left_of (is_turn stand.ours kind) (is_none (apply_fault stand.seen answer)) last);
        standing = not_accepted (acceptance_of answer.number (deeds_of entries)) (s.accepted ∙ not_true stand.accepted closed);
        version = stand.seen;
        made = s.seen;
        applies = applies;
      }

  -- how its delivery stands lets it
  pub allowed_set : (set : SetView) (o : Option Stand) → IsKept (number_in set) entries o → is_allowed role kind o set ≡ true → AllowsSet role (deeds_of entries) kind set
  allowed_set (sets.Base base seal) o k e = base_allowed base o k e
  allowed_set (sets.Answer answer seal) (Some stand) s e = stand_allowed answer stand s e
  allowed_set (sets.Answer answer seal) None new e = cc

  base_lets : (base : BaseRecord) (o : Option Stand) → IsKept base.number entries o → AllowsBase role (deeds_of entries) kind base → is_base_allowed role kind o ≡ true
  base_lets base (Some stand) s a = absurd (stands_not_new base.number entries stand s a.new)
  base_lets base None new a = both_of (is_role (signer role kind) Supplier) true (is_own (signer role kind) Supplier a.side) refl

  stand_lets : (answer : AnswerRecord) (stand : Stand) → IsStand answer.number entries stand → AllowsAnswer role (deeds_of entries) kind answer → is_stand_answered role kind stand answer ≡ true
  stand_lets answer stand s a =
      let tops : a.highest ≡ s.top = some_same _ _ (sym a.is_highest ∙ s.is_top) in
      let seen : a.version ≡ stand.seen = some_same _ _ (sym (ap (λ (d : Deed). version_at (deeds_of entries) d) (sym tops) ∙ a.made) ∙ s.seen) in
      all_hold (is_role answer.role (signer role kind)) stand.accepted (is_turn stand.ours kind) (is_none (apply_fault stand.seen answer))
      (is_own answer.role (signer role kind) a.letter)
      (sym s.accepted ∙ ap is_some a.standing)
      (ap (λ (b : Bool). is_turn b kind) (sym s.ours) ∙ turn_so kind s.top.kind (ap (λ (d : Deed). d.kind) (sym tops) ∙ a.turn))
      (ap is_none (fault_none stand.seen answer (subst (λ (v : Version). Applies v answer) seen a.applies)))

  pub set_lets : (set : SetView) (o : Option Stand) → IsKept (number_in set) entries o → AllowsSet role (deeds_of entries) kind set → is_allowed role kind o set ≡ true
  set_lets (sets.Base base seal) o k a = base_lets base o k a
  set_lets (sets.Answer answer seal) (Some stand) s a = stand_lets answer stand s a
  set_lets (sets.Answer answer seal) None new a = absurd (not_known a) where
    not_known : AllowsAnswer role (deeds_of entries) kind answer → ⊥
    not_known a =
        let h = highest_is answer.number (deeds_of entries) a.highest a.is_highest in
        none_of_new answer.number (deeds_of entries) a.highest new h.is.among h.is.number

-- ---- written forms

written_so : (text : List ℕ) (r : Result (List ℕ) WriteFault) → is_written text r ≡ true → r ≡ Ok text
written_so text (Ok written) e = ap (λ (t : List ℕ). Ok t) ((bytes_eq-Decides written text).0 e)
written_so text (Err fault) e = cc

so_written : (text : List ℕ) (r : Result (List ℕ) WriteFault) → r ≡ Ok text → is_written text r ≡ true
so_written text r e = ap (is_written text) e ∙ (bytes_eq-Decides text text).1 refl

set_written : (set : SetView) (control : ℕ) (text : List ℕ) → is_set_written set control text ≡ true → IsWritten set control text
set_written (sets.Base base seal) control text e = written_so text _ e
set_written (sets.Answer answer seal) control text e = written_so text _ e

written_set : (set : SetView) (control : ℕ) (text : List ℕ) → IsWritten set control text → is_set_written set control text ≡ true
written_set (sets.Base base seal) control text e = so_written text _ e
written_set (sets.Answer answer seal) control text e = so_written text _ e

-- a set of this end that is allowed has a level of its own
pub own_level_of : (role : Role) (entries : List Entry) (f : Founded role (deeds_of entries)) (set : SetView) (text : List ℕ) → IsSet set text → AllowsSet role (deeds_of entries) Signed set → proposes set ≡ true → IsOwnLevel role (deeds_of entries) set
own_level_of role entries f (sets.Base base seal) text is a p = record { parity = sym a.side; above = none_before role entries f base seal text a.new; most = omega arith }
own_level_of role entries f (sets.Answer answer seal) text is a p = own_level role entries f answer seal text is a (head_low answer seal is.segments is.shape) p

pub kind_allowed : (role : Role) (entries : List Entry) (f : Founded role (deeds_of entries)) (kind : EntryKind) (set : SetView) (text : List ℕ) → IsSet set text → AllowsSet role (deeds_of entries) kind set → is_form kind set (next_control entries) text ≡ true
    → AllowsKind kind role entries set text
kind_allowed role entries f Signed set text is a e = record { written = set_written set (next_control entries) text e; level = own_level_of role entries f set text is a }
kind_allowed role entries f Took set text is a e = tt

kind_lets : (role : Role) (entries : List Entry) (kind : EntryKind) (set : SetView) (text : List ℕ) → AllowsKind kind role entries set text → is_form kind set (next_control entries) text ≡ true
kind_lets role entries Signed set text a = written_set set (next_control entries) text a.written
kind_lets role entries Took set text a = refl

-- ---- an entry more

made_change : (role : Role) (entries : List Entry) (x entry : Entry) (number : List ℕ) (stand : Stand) → x ≡ entry → (a : Allows role entries entry) → number ≡ number_in a.set → IsStand number (entries ++ entry ∷ []) stand
    → IsChange role entries (record { entry = x; number = number; delivery = stand })
made_change role entries x entry number stand e a n s =
    subst (λ (y : Entry). IsChange role entries (record { entry = y; number = number; delivery = stand })) (sym e) (record { allowed = a; number = n; stand = s })

-- what is added of a set that is allowed is a change
pub change_so : (role : Role) (entries : List Entry) (list : List (List ℕ × Stand)) (count : ℕ) (r : AreRules role entries list count) (kind : EntryKind) (text : List ℕ) (set : SetView) (is : IsSet set text)
    → AllowsSet role (deeds_of entries) kind set → AllowsKind kind role entries set text → (change : Change) → IsAdded (length entries) (kept_in list (number_in set)) (record { kind = kind; payload = text }) set change
    → IsChange role entries change × (change.entry ≡ record { kind = kind; payload = text })
change_so role entries list count r kind text set is allowed signed change added =
    let a : Allows role entries (record { kind = kind; payload = text }) = record { set = set; is_set = is; allowed = allowed; signed = signed } in
    let stand = set_stands role entries kind text set (kept_in list (number_in set)) added.seen (legal_founded role entries r.legal) is allowed (r.knows (number_in set)) added.made in (
      made_change role entries change.entry (record { kind = kind; payload = text }) change.number change.delivery added.entry a added.number
          (subst (λ (n : List ℕ). IsStand n (entries ++ (record { kind = kind; payload = text }) ∷ []) change.delivery) (sym added.number)
          (subst (IsStand (number_in set) (entries ++ (record { kind = kind; payload = text }) ∷ [])) (sym added.delivery) stand)),
      added.entry,
    )

-- ---- admission

never : (b : Bool) → b ≡ true → b ≡ false → ⊥
never true e f = cc
never false e f = cc

module _ (role : Role) (entries : List Entry) (list : List (List ℕ × Stand)) (count : ℕ) (r : AreRules role entries list count) (kind : EntryKind) (text : List ℕ) (set : SetView) (is : IsSet set text) where
  abbrev f : Founded role (deeds_of entries)
  f = legal_founded role entries r.legal

  abbrev kept : Option Stand
  kept = kept_in list (number_in set)

  -- the test is that of the rules
  lets : Allows role entries (record { kind = kind; payload = text }) → is_admitted role kind (count + 1) kept text set ≡ true
  lets a =
      let same : a.set ≡ set = one text a.set set a.is_set is in
      let allowed : AllowsSet role (deeds_of entries) kind set = subst (AllowsSet role (deeds_of entries) kind) same a.allowed in
      let signed : AllowsKind kind role entries set text = subst (λ (s : SetView). AllowsKind kind role entries s text) same a.signed in
      both_of (is_form kind set (count + 1) text) (is_allowed role kind kept set)
      (ap (λ (n : ℕ). is_form kind set (n + 1) text) r.signed ∙ kind_lets role entries kind set text signed)
      (set_lets role entries f kind set kept (r.knows (number_in set)) allowed)

  pub decided : (result : Result Change AdmitFault) → Decides result (is_admitted role kind (count + 1) kept text set) (IsAdded (length entries) kept (record { kind = kind; payload = text }) set)
      → Admits result (Allows role entries (record { kind = kind; payload = text })) (λ change. IsChange role entries change × (change.entry ≡ record { kind = kind; payload = text }))
  decided (Ok change) d =
      let form : is_form kind set (next_control entries) text ≡ true = ap (λ (n : ℕ). is_form kind set (n + 1) text) (sym r.signed) ∙ left_of (is_form kind set (count + 1) text) (is_allowed role kind kept set) d.0 in
      let allowed = allowed_set role entries f kind set kept (r.knows (number_in set)) (right_of (is_form kind set (count + 1) text) (is_allowed role kind kept set) d.0) in
      let signed = kind_allowed role entries f kind set text is allowed form in
      (record { set = set; is_set = is; allowed = allowed; signed = signed }, change_so role entries list count r kind text set is allowed signed change d.1)
  decided (Err Illegal) d = λ a. never (is_admitted role kind (count + 1) kept text set) (lets a) d
  decided (Err Memory) d = tt

-- a text that is no set may not stand
pub no_set_so : {X Y : Type 0} (role : Role) (entries : List Entry) (kind : EntryKind) (text : List ℕ) (fault : SetFault) (told : AdmitFault) (P : X → Type 0) (Q : Y → Type 0) → told ≡ as_no_set fault
    → (let r : Result X SetFault = Err fault in Answers r (set_refusal text) P) → (let r : Result Y AdmitFault = Err told in Admits r (Allows role entries (record { kind = kind; payload = text })) Q)
no_set_so {X} {Y} role entries kind text fault told P Q t h =
    subst (λ (x : AdmitFault). (let r : Result Y AdmitFault = Err x in Admits r (Allows role entries (record { kind = kind; payload = text })) Q)) (sym t) (by_fault fault h) where
      by_fault : (e : SetFault) → (let r : Result X SetFault = Err e in Answers r (set_refusal text) P) → (let r : Result Y AdmitFault = Err (as_no_set e) in Admits r (Allows role entries (record { kind = kind; payload = text })) Q)
      by_fault setfaults.Memory h = tt
      by_fault (setfaults.Refused place reason) h = λ a. let none = not_refused text a.set a.is_set in (let never : (let r : Option Refusal = Some (record { place = place; reason = reason }) in r) ≡ None = sym h ∙ none in cc)

-- ---- steps

module _ (role : Role) (kind : EntryKind) (control : ℕ) (text : List ℕ) (set : SetView) (place : ℕ) (known kept : Option Stand) (same : known ≡ kept) where
  pub step_admitted : (form : Bool) → form ≡ is_form kind set control text → form ≡ true → (result : Result Change AdmitFault) → Decides result (is_allowed role kind known set) (IsAdded place known (record { kind = kind; payload = text }) set)
      → Decides result (is_admitted role kind control kept text set) (IsAdded place kept (record { kind = kind; payload = text }) set)
  step_admitted form is e result h =
      subst (λ (b : Bool). Decides result (b && is_allowed role kind kept set) (IsAdded place kept (record { kind = kind; payload = text }) set)) (sym e ∙ is)
      (subst (λ (o : Option Stand). Decides result (is_allowed role kind o set) (IsAdded place o (record { kind = kind; payload = text }) set)) same h)

  pub step_formless : (form : Bool) → form ≡ is_form kind set control text → form ≡ false → is_admitted role kind control kept text set ≡ false
  step_formless form is e = ap (λ (b : Bool). b && is_allowed role kind kept set) (sym is ∙ e)

-- what a change is made of
pub added_of : (place : ℕ) (old : Option Stand) (entry : Entry) (set : SetView) (seen : Version) (result : Result Change NoRoom) (held : Entry) (number : List ℕ) (closing : Bool) → IsMade old set seen → held ≡ entry → number ≡ number_in set → closing ≡ accepts set
    → IfOk result (λ change. change ≡ record { entry = held; number = number; delivery = stand_after held.kind place closing seen old }) → IfOk result (IsAdded place old entry set)
added_of place old entry set seen (Ok change) held number closing made e n a h = record {
  entry = ap (λ (x : Change). x.entry) h ∙ e;
  number = ap (λ (x : Change). x.number) h ∙ n;
  seen = seen;
  made = made;
  delivery = ap (λ (x : Change). x.delivery) h ∙ ap (λ (x : Entry). stand_after x.kind place closing seen old) e ∙ ap (λ (b : Bool). stand_after entry.kind place b seen old) a;
}
added_of place old entry set seen (Err fault) held number closing made e n a h = tt
