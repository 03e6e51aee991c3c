-- What is read is a base record, and what is one is read.
use Rattle.std.proofs.Common.{◌≡◌, ℕ, ◌+◌, ◌≤◌, Bool, true, false, List, [], ◌∷◌, ◌++◌, length, Ok, Some, None, Option, pos, refl, sym, ap, ◌∙◌, subst, arith}
use Rattle.block_check.specs.Crc16.{crc_from}
use Rattle.std.proofs.lemmas.List.Elements.{All-nil}
use Rattle.dsd_pricing.specs.Pricing.{priced, quantities, totals_of}
use Rattle.dsd_values.specs.declared.cents.TheConstants.Cents.{MAX as MOST_CENTS}
use Rattle.dsd_values.specs.declared.extra.Extra.{Extra}
use Rattle.dsd_values.specs.declared.line.Line.{Line}
use Rattle.transaction_set.specs.Extras.{HasExtras}
use Rattle.transaction_set.specs.Tables.{totals_fault, totals_in}
use Rattle.dsd_values.specs.declared.limits.TheConstants.{MOST_LINES, SET_BYTES}
use Rattle.std.specs.Option.{is_some}
use Rattle.dsd_values.specs.SignatureRecord.{SignatureRecord}
use Rattle.segments.specs.Views.{Seg, element_of}
use Rattle.transaction_set.specs.Kinds.{kind_of, next_phase, is_done}
use Rattle.transaction_set.specs.SoFar.{SoFar, kept, phase_in}
use Rattle.segments.specs.Elements.{◌or_else◌}
use Rattle.transaction_set.specs.Reasons.{as_value, admission}
use Rattle.transaction_set.specs.Grammar.{IsSound}
use Rattle.segments.specs.SegmentSpelling.{SpellsSegments}
use Rattle.segments.specs.SegmentCut.{Cut, cut_of}
use Rattle.segments.specs.declared.segment_fault.SegmentFault.{SegmentFault}
use Rattle.transaction_set.specs.declared.seal.Seal.{Seal}
use Rattle.transaction_set.specs.declared.stated.StatedTotals.{StatedTotals}
use Rattle.transaction_set.specs.declared.kind.Kind.{Kind}
use Rattle.transaction_set.specs.declared.kind.Kind.TheVariants as kinds
use Rattle.transaction_set.specs.declared.kind.Form.TheVariants as forms
use Rattle.transaction_set.specs.declared.phase.Phase.{Phase}
use Rattle.transaction_set.specs.declared.phase.Phase.TheVariants as phases
use Rattle.segments.proofs.Cutting.{spelled_of-cut, cut_of-spelled}
use Rattle.transaction_set.proofs.Small.{both_none, no_value, none_then, not_when, same_number}
use Rattle.transaction_set.proofs.Rest.{IsAt, Read}
use Rattle.transaction_set.proofs.Whole.{AreShort, and_both, are_short, both_and, end_at, end_of, no_fault}
use Rattle.transaction_set.proofs.Behind.{no_extras}
use Rattle.transaction_set.proofs.Keeps.{Sound, is_sound, keeps, at_next, refused_none, none_refused, ended_none, none_ended, done_is, MayStand, may_stand, admitted}
use Rattle.base_record_894.specs.BaseRecord.{BaseRecord}
use Rattle.base_record_894.specs.Grammar.{shared_of, AreSegments, FromStart}
use Rattle.base_record_894.specs.RecordText.{Is894}
use Rattle.base_record_894.specs.Said.{Said, nothing, own_reason, reason_of, rows_reason, kept_by, after, has_head}
use Rattle.base_record_894.specs.FirstRefusal.{judged}
use Rattle.transaction_set.specs.Refusal.{refusal_from, said_by}
use Rattle.base_record_894.specs.ReadParts.{IsReadFrom, record_of, seal_of}
use Rattle.base_record_894.specs.declared.head.Head.{Head}
use Rattle.base_record_894.specs.declared.parts.Parts.{Parts}
use Rattle.base_record_894.proofs.Amounts.{cents_low, priced_totals, same_amount, totals_priced}
use Rattle.transaction_set.proofs.Faultless.{totals_right}
use Rattle.base_record_894.proofs.Moves.{Rest894, head_of, back, forth}

record Stands (m : Said) (seg : Seg) : Type 0 where
  may : MayStand forms.Base m.course.phase (kind_of forms.Base seg) seg
  right : own_reason m seg (kind_of forms.Base seg) ≡ None

stands : (m : Said) (seg : Seg) → reason_of m seg ≡ None → Stands m seg
unfolding reason_of
stands m seg e =
    let n = both_none _ _ e in
    record { may = may_stand forms.Base m.course.phase (kind_of forms.Base seg) seg n.0; right = n.1 }

at_after : (m : Said) (before : List Seg) (seg : Seg) → IsAt before m.course → IsAt (before ++ seg ∷ []) (after m seg).course
unfolding kept_by
at_after m before seg at = at_next m.course before seg (kind_of forms.Base seg) (phase_in (next_phase m.course.phase (kind_of forms.Base seg) forms.Base)) at

-- ---- the stated totals, behind the totals

abbrev is_behind : Phase → Bool
is_behind phases.Signature = true
is_behind phases.Integrity = true
is_behind phases.Trailer = true
is_behind phases.Done = true
is_behind _ = false

-- the stated totals are those of the rows, and can be stated
abbrev Agree : StatedTotals → List Line → List Extra → Type 0
Agree totals lines extras = (totals.quantity ≡ quantities lines) × (pos totals.amount ≡ priced lines extras) × (totals.amount ≤ MOST_CENTS)

abbrev Sums : SoFar → Type 0
Sums m = is_behind m.phase ≡ true → Agree m.totals m.lines m.extras

-- what changes the rows leads to no phase behind the totals
item_before : (p : Phase) → is_behind (phase_in (next_phase p kinds.Item forms.Base)) ≡ false
item_before phases.FirstItem = refl
item_before phases.Items = refl
item_before _ = refl

allowance_before : (p : Phase) → is_behind (phase_in (next_phase p kinds.Allowance forms.Base)) ≡ false
allowance_before phases.References = refl
allowance_before phases.Body = refl
allowance_before phases.Items = refl
allowance_before phases.Extras = refl
allowance_before _ = refl

line_note_before : (p : Phase) → is_behind (phase_in (next_phase p kinds.LineNote forms.Base)) ≡ false
line_note_before phases.Items = refl
line_note_before _ = refl

note_before : (p : Phase) → is_behind (phase_in (next_phase p kinds.Note forms.Base)) ≡ false
note_before phases.References = refl
note_before phases.Body = refl
note_before phases.Items = refl
note_before phases.Extras = refl
note_before _ = refl

-- a segment that is neither an item nor the totals leads behind them only from behind them
behind_before : (p : Phase) (k : Kind) → is_behind (phase_in (next_phase p k forms.Base)) ≡ true → (k ≡ kinds.Totals → ⊥) → is_behind p ≡ true
behind_before phases.Signature k e n = refl
behind_before phases.Integrity k e n = refl
behind_before phases.Trailer k e n = refl
behind_before phases.Done k e n = refl
behind_before phases.References kinds.Totals e n = absurd (n refl)
behind_before phases.Body kinds.Totals e n = absurd (n refl)
behind_before phases.Extras kinds.Totals e n = absurd (n refl)
behind_before phases.Start kinds.Start e n = cc
behind_before phases.Head kinds.Head e n = cc
behind_before phases.FirstItem kinds.Item e n = cc
behind_before phases.Items kinds.Item e n = cc
behind_before _ _ e n = cc

never : {X : Type 0} (b : Bool) → b ≡ false → b ≡ true → X
never true e h = cc
never false e h = cc

totals_agree : (m : SoFar) (seg : Seg) → (as_value (totals_fault seg) or_else rows_reason (totals_in seg) m.lines m.extras) ≡ None → Agree (totals_in seg) m.lines m.extras
totals_agree m seg e =
    let both = both_none _ _ e in
    let right = totals_right seg (no_value _ both.0) in
    let sums = both_none _ _ both.1 in
    (same_number _ _ (not_when _ _ sums.0), same_amount _ _ (not_when _ _ sums.1), cents_low (element_of seg 2) _ right.amount)

sums_kept : (k : Kind) (m : Said) (seg : Seg) (count check : ℕ) → own_reason m seg k ≡ None → Sums m.course → Sums (kept_by m seg k (phase_in (next_phase m.course.phase k forms.Base)) count check).course
unfolding kept kept_by
sums_kept kinds.Item m seg count check e s = never _ (item_before m.course.phase)
sums_kept kinds.Allowance m seg count check e s = never _ (allowance_before m.course.phase)
sums_kept kinds.LineNote m seg count check e s = never _ (line_note_before m.course.phase)
sums_kept kinds.Note m seg count check e s = never _ (note_before m.course.phase)
sums_kept kinds.Totals m seg count check e s = λ b. totals_agree m.course seg e
sums_kept kinds.Start m seg count check e s = λ b. s (behind_before m.course.phase kinds.Start b (λ n. cc))
sums_kept kinds.Head m seg count check e s = λ b. s (behind_before m.course.phase kinds.Head b (λ n. cc))
sums_kept kinds.Reference m seg count check e s = λ b. s (behind_before m.course.phase kinds.Reference b (λ n. cc))
sums_kept kinds.LoopStart m seg count check e s = λ b. s (behind_before m.course.phase kinds.LoopStart b (λ n. cc))
sums_kept kinds.LoopEnd m seg count check e s = λ b. s (behind_before m.course.phase kinds.LoopEnd b (λ n. cc))
sums_kept kinds.Signature m seg count check e s = λ b. s (behind_before m.course.phase kinds.Signature b (λ n. cc))
sums_kept kinds.Integrity m seg count check e s = λ b. s (behind_before m.course.phase kinds.Integrity b (λ n. cc))
sums_kept kinds.Trailer m seg count check e s = λ b. s (behind_before m.course.phase kinds.Trailer b (λ n. cc))
sums_kept kinds.Other m seg count check e s = λ b. s (behind_before m.course.phase kinds.Other b (λ n. cc))

-- ---- what holds all along

own_keeps : (k : Kind) (m : Said) (seg : Seg) (phase : Phase) (count check : ℕ) → own_reason m seg k ≡ None → Sound m.course.lines m.course.extras
    → Sound (kept_by m seg k phase count check).course.lines (kept_by m seg k phase count check).course.extras
unfolding kept_by
own_keeps kinds.Head m seg phase count check e s = keeps kinds.Head m.course seg phase count check refl s
own_keeps kinds.Totals m seg phase count check e s = keeps kinds.Totals m.course seg phase count check (both_none _ _ e).0 s
own_keeps k m seg phase count check e s = keeps k m.course seg phase count check e s

whole_end : (segs : List Seg) (m : Said) (place : ℕ) (fault : Option SegmentFault) → refusal_from judged m place segs fault ≡ None → Sound m.course.lines m.course.extras → Sums m.course → place ≤ SET_BYTES
    → Sound (said_by judged m segs).course.lines (said_by judged m segs).course.extras × Sums (said_by judged m segs).course × (end_of place segs ≤ SET_BYTES)
whole_end [] m place fault e s u p = (s, u, p)
whole_end (seg ∷ segs) m place fault e s u p =
    let n = refused_none (reason_of m seg) seg.start _ e in
    let st = stands m seg n.0 in
    whole_end segs (after m seg) (seg.start + length seg.bytes) fault n.1
    (own_keeps (kind_of forms.Base seg) m seg (phase_in (next_phase m.course.phase (kind_of forms.Base seg) forms.Base)) (m.course.count + 1) (crc_from m.course.check seg.bytes) st.right s)
    (sums_kept (kind_of forms.Base seg) m seg (m.course.count + 1) (crc_from m.course.check seg.bytes) st.right u)
    st.may.short

-- ---- what stands to the end is the rest of a record

some_signed : (s : Option SignatureRecord) (signature : SignatureRecord) → Some signature ≡ s → is_some s ≡ true
some_signed (Some s) signature e = refl
some_signed None signature e = cc

some_head : (h : Option Head) (head : Head) → Some head ≡ h → has_head h ≡ true
some_head (Some h) head e = refl
some_head None head e = cc

-- what was said to the end is this record
pub record IsWhole (from : Phase) (m : Said) (b : BaseRecord) (s : Seal) (amount : ℕ) : Type 0 where
  pub done : is_done from ≡ true
  pub head : Some (head_of b) ≡ m.head
  pub read : Read m.course (shared_of b s amount)
  pub totals : (shared_of b s amount).totals ≡ m.course.totals
  pub signature : Some b.signature ≡ m.course.signature
  pub check : s.check ≡ m.course.integrity

found_rest : (segs : List Seg) (m : Said) (before : List Seg) (place : ℕ) (fault : Option SegmentFault) (b : BaseRecord) (s : Seal) (amount : ℕ) → IsAt before m.course → refusal_from judged m place segs fault ≡ None
    → IsWhole phases.Done (said_by judged m segs) b s amount → Rest894 m.course.phase m b s amount before segs
unfolding kept kept_by
found_rest [] m before place fault b s amount at e w =
    let whole = and_both _ _ (ended_none _ place fault e).0 in
    let done = done_is m.course.phase (and_both _ _ whole.0).0 in
    subst (λ (p : Phase). Rest894 p m b s amount before []) done (w.head, (w.read, w.totals, w.signature, w.check, refl))
found_rest (seg ∷ segs) m before place fault b s amount at e w =
    let n = refused_none (reason_of m seg) seg.start _ e in
    let st = stands m seg n.0 in
    let rest = found_rest segs (after m seg) (before ++ seg ∷ []) (seg.start + length seg.bytes) fault b s amount (at_after m before seg at) n.1 w in
    back m b s amount before seg segs (m.course.count + 1) (crc_from m.course.check seg.bytes) m.course.phase (kind_of forms.Base seg) st.may.moves_on refl refl st.right at rest

-- the totals have come where the set is whole
whole_behind : (segs : List Seg) (m : Said) (place : ℕ) (fault : Option SegmentFault) → refusal_from judged m place segs fault ≡ None → is_behind (said_by judged m segs).course.phase ≡ true
whole_behind [] m place fault e =
    let whole = and_both _ _ (ended_none _ place fault e).0 in
    ap is_behind (sym (done_is m.course.phase (and_both _ _ whole.0).0))
whole_behind (seg ∷ segs) m place fault e = whole_behind segs (after m seg) _ fault (refused_none (reason_of m seg) seg.start _ e).1

shaped : (segs : List Seg) (b : BaseRecord) (s : Seal) (amount : ℕ) → Rest894 phases.Start nothing b s amount [] segs → AreSegments b s amount segs
shaped segs b s amount (texts, lines, extras, (r, l, x), shape) =
    let one = subst (λ (t : List (List ℕ)). FromStart t lines extras b s amount [] segs) (sym r) shape in
    let two = subst (λ (t : List Line). FromStart b.references t extras b s amount [] segs) (sym l) one in
    subst (λ (t : List Extra). FromStart b.references b.lines t b s amount [] segs) (sym x) two

-- the stated amount is what the rows come to
priced_so : (m : SoFar) (b : BaseRecord) (amount : ℕ) → b.lines ≡ m.lines → b.extras ≡ m.extras → amount ≡ m.totals.amount → Agree m.totals m.lines m.extras
    → totals_of b.lines b.extras ≡ Ok (record { quantity = quantities b.lines; amount = amount })
priced_so m b amount l x same (sums, cents, low) =
    let there : pos amount ≡ priced b.lines b.extras =
    ap (λ (n : ℕ). pos n) same ∙ cents ∙ ap (λ (u : List Line). priced u m.extras) (sym l) ∙ ap (λ (u : List Extra). priced b.lines u) (sym x) in
    priced_totals b.lines b.extras amount (subst (λ (n : ℕ). n ≤ MOST_CENTS) (sym same) low) there

-- What is not refused is the base record that it says.
pub found_so : (text : List ℕ) (b : BaseRecord) (s : Seal) (amount : ℕ) → refusal_from judged nothing 0 (cut_of text).segments (cut_of text).fault ≡ None
    → IsWhole phases.Done (said_by judged nothing (cut_of text).segments) b s amount → Is894 b s text
found_so text b s amount e w =
    let segs = (cut_of text).segments in
    let whole : SpellsSegments 0 segs text = spelled_of-cut text segs (ap (λ (f : Option SegmentFault). record { segments = segs; fault = f }) (no_fault judged segs nothing 0 (cut_of text).fault e)) in
    let none : 0 ≤ MOST_LINES = omega arith in
    let zero_in : 0 ≤ SET_BYTES = omega arith in
    let ends = whole_end segs nothing 0 (cut_of text).fault e (tt, none, All-nil HasExtras, no_extras false) (λ b. cc) zero_in in
    let m = (said_by judged nothing segs).course in
    let end : end_of 0 segs ≡ 0 + length text = end_at segs 0 text whole in
    record {
      segments = segs;
      spelled = whole;
      amount = amount;
      price = priced_so m b amount w.read.1 w.read.2 (ap (λ (t : StatedTotals). t.amount) w.totals) (ends.1 (whole_behind segs nothing 0 (cut_of text).fault e));
      shape = shaped segs b s amount (found_rest segs nothing [] 0 (cut_of text).fault b s amount (refl, refl) e w);
      sound = subst (λ (t : List Line). IsSound t b.extras) (sym w.read.1) (subst (λ (x : List Extra). IsSound m.lines x) (sym w.read.2) (is_sound _ _ ends.0));
      short = omega (arith, end, ends.2);
    }

-- what is said to the end where nothing is refused
agreed_end : (segs : List Seg) (place : ℕ) (fault : Option SegmentFault) → refusal_from judged nothing place segs fault ≡ None → place ≤ SET_BYTES → Agree (said_by judged nothing segs).course.totals (said_by judged nothing segs).course.lines (said_by judged nothing segs).course.extras
agreed_end segs place fault e p =
    let none : 0 ≤ MOST_LINES = omega arith in
    (whole_end segs nothing place fault e (tt, none, All-nil HasExtras, no_extras false) (λ b. cc) p).1 (whole_behind segs nothing place fault e)

totals_so : (lines : List Line) (stated : StatedTotals) → stated.quantity ≡ quantities lines → record { quantity = quantities lines; amount = stated.amount; deposit = stated.deposit } ≡ stated
totals_so lines stated sums = ap (λ (n : ℕ). record { quantity = n; amount = stated.amount; deposit = stated.deposit }) (sym sums)

-- What is read is a base record.
pub found : (text : List ℕ) (parts : Parts) → refusal_from judged nothing 0 (cut_of text).segments (cut_of text).fault ≡ None → IsReadFrom (said_by judged nothing (cut_of text).segments) parts
    → Is894 (record_of parts) (seal_of parts) text
found text parts e r =
    let zero_in : 0 ≤ SET_BYTES = omega arith in
    let m = (said_by judged nothing (cut_of text).segments).course in
    let sums = agreed_end (cut_of text).segments 0 (cut_of text).fault e zero_in in
    let quantity : parts.closed.totals.quantity ≡ quantities parts.closed.lines =
    ap (λ (t : StatedTotals). t.quantity) r.closed.totals ∙ sums.0 ∙ ap quantities (sym r.closed.lines) in
    found_so text (record_of parts) (seal_of parts) parts.closed.totals.amount e (record {
      done = refl;
      head = sym r.head;
      read = (r.closed.references, r.closed.lines, r.closed.extras, r.closed.control);
      totals = totals_so parts.closed.lines parts.closed.totals quantity ∙ r.closed.totals;
      signature = r.closed.signature;
      check = r.closed.check;
    })

-- the record that was said, with this head
abbrev pub record_in : Head → SignatureRecord → SoFar → BaseRecord
record_in h signature m = record {
  flag = h.flag;
  number = h.number;
  day = h.day;
  receiver_duns = h.receiver_duns;
  receiver_place = h.receiver_place;
  supplier_duns = h.supplier_duns;
  supplier_place = h.supplier_place;
  tail = h.tail;
  references = m.references;
  lines = m.lines;
  extras = m.extras;
  deposit = m.totals.deposit;
  signature = signature;
}

signature_there : (s : Option SignatureRecord) → is_some s ≡ true → (signature : SignatureRecord) × (Some signature ≡ s)
signature_there (Some signature) e = (signature, refl)
signature_there None e = cc

head_there : (h : Option Head) → has_head h ≡ true → (head : Head) × (Some head ≡ h)
head_there (Some head) e = (head, refl)
head_there None e = cc

whole_said : (segs : List Seg) (m : Said) (place : ℕ) (fault : Option SegmentFault) → refusal_from judged m place segs fault ≡ None → (is_some (said_by judged m segs).course.signature ≡ true) × (has_head (said_by judged m segs).head ≡ true)
whole_said [] m place fault e =
    let whole = and_both _ _ (ended_none _ place fault e).0 in
    ((and_both _ _ whole.0).1, whole.1)
whole_said (seg ∷ segs) m place fault e = whole_said segs (after m seg) _ fault (refused_none (reason_of m seg) seg.start _ e).1

-- What is not refused is some base record.
pub some_record : (text : List ℕ) → refusal_from judged nothing 0 (cut_of text).segments (cut_of text).fault ≡ None → (b : BaseRecord) × (s : Seal) × Is894 b s text
some_record text e =
    let zero_in : 0 ≤ SET_BYTES = omega arith in
    let segs = (cut_of text).segments in
    let m = (said_by judged nothing segs).course in
    let whole = whole_said segs nothing 0 (cut_of text).fault e in
    let h = head_there (said_by judged nothing segs).head whole.1 in
    let g = signature_there m.signature whole.0 in
    let sums = agreed_end segs 0 (cut_of text).fault e zero_in in
    let seal : Seal = record { control = m.control; check = m.integrity } in (
      record_in h.0 g.0 m,
      seal,
      found_so text (record_in h.0 g.0 m) seal m.totals.amount e (record {
        done = refl;
        head = h.1;
        read = (refl, refl, refl, refl);
        totals = totals_so m.lines m.totals sums.0;
        signature = g.1;
        check = refl;
      }),
    )

-- ---- what is the rest of a record stands to the end

none_of : (m : Said) (seg : Seg) (kind : Kind) → kind_of forms.Base seg ≡ kind → admission forms.Base m.course.phase kind seg ≡ None → own_reason m seg kind ≡ None → reason_of m seg ≡ None
unfolding reason_of
none_of m seg kind k d o =
    subst (λ (u : Kind). (admission forms.Base m.course.phase u seg or_else own_reason m seg u) ≡ None) (sym k)
    (none_then _ _ d o)

pub record IsReadSo (m : Said) (b : BaseRecord) (s : Seal) (amount : ℕ) (place : ℕ) (segs : List Seg) : Type 0 where
  pub none : refusal_from judged m place segs None ≡ None
  pub head : Some (head_of b) ≡ (said_by judged m segs).head
  pub references : b.references ≡ (said_by judged m segs).course.references
  pub lines : b.lines ≡ (said_by judged m segs).course.lines
  pub extras : b.extras ≡ (said_by judged m segs).course.extras
  pub control : s.control ≡ (said_by judged m segs).course.control
  pub totals : (shared_of b s amount).totals ≡ (said_by judged m segs).course.totals
  pub signature : Some b.signature ≡ (said_by judged m segs).course.signature
  pub check : s.check ≡ (said_by judged m segs).course.integrity

at_end : (from : Phase) (m : Said) (b : BaseRecord) (s : Seal) (amount : ℕ) (before : List Seg) → Rest894 from m b s amount before [] → IsWhole from m b s amount
at_end phases.Start m b s amount before (texts, lines, extras, left, rest) = absurd rest
at_end phases.Head m b s amount before (texts, lines, extras, left, rest) = absurd rest
at_end phases.References m b s amount before (h, (text ∷ texts, lines, extras, left, rest)) = absurd rest
at_end phases.References m b s amount before (h, ([], line ∷ lines, extras, left, (label, rest))) = absurd rest
at_end phases.References m b s amount before (h, ([], [], extra ∷ extras, left, rest)) = absurd rest
at_end phases.References m b s amount before (h, ([], [], [], left, rest)) = absurd rest
at_end phases.Body m b s amount before (h, (line ∷ lines, extras, left, (label, rest))) = absurd rest
at_end phases.Body m b s amount before (h, ([], extra ∷ extras, left, rest)) = absurd rest
at_end phases.Body m b s amount before (h, ([], [], left, rest)) = absurd rest
at_end phases.FirstItem m b s amount before (h, (line, lines, extras, left, rest)) = absurd rest
at_end phases.Items m b s amount before (h, (extra ∷ inside, lines, extras, left, rest)) = absurd rest
at_end phases.Items m b s amount before (h, ([], line ∷ lines, extras, left, rest)) = absurd rest
at_end phases.Items m b s amount before (h, ([], [], extras, left, rest)) = absurd rest
at_end phases.Extras m b s amount before (h, (extra ∷ extras, left, rest)) = absurd rest
at_end phases.Extras m b s amount before (h, ([], left, rest)) = absurd rest
at_end phases.Signature m b s amount before (h, (read, totals, rest)) = absurd rest
at_end phases.Integrity m b s amount before (h, (read, totals, g, rest)) = absurd rest
at_end phases.Trailer m b s amount before (h, (read, totals, g, i, rest)) = absurd rest
at_end phases.Done m b s amount before (h, (read, totals, g, i, e)) = record { done = refl; head = h; read = read; totals = totals; signature = g; check = i }

only_rest : (segs : List Seg) (m : Said) (b : BaseRecord) (s : Seal) (amount : ℕ) (before : List Seg) (place : ℕ) → IsSound b.lines b.extras → pos amount ≡ priced b.lines b.extras → IsAt before m.course → AreShort segs
    → Rest894 m.course.phase m b s amount before segs → IsReadSo m b s amount place segs
unfolding kept kept_by
only_rest [] m b s amount before place sound price at short r =
    let w = at_end m.course.phase m b s amount before r in
    record {
      none = none_ended _ place (both_and _ _ (both_and _ _ w.done (some_signed _ _ w.signature)) (some_head m.head (head_of b) w.head));
      head = w.head;
      references = w.read.0;
      lines = w.read.1;
      extras = w.read.2;
      control = w.read.3;
      totals = w.totals;
      signature = w.signature;
      check = w.check;
    }
only_rest (seg ∷ segs) m b s amount before place sound price at (here, short) r =
    let count = m.course.count + 1 in
    let check = crc_from m.course.check seg.bytes in
    let n = forth m b s amount before seg segs count check sound price at m.course.phase refl r in
    let k : kind_of forms.Base seg ≡ n.kind = n.goes.0 in
    let right : reason_of m seg ≡ None = none_of m seg n.kind k (admitted forms.Base m.course.phase n.kind seg n.moves_on here) n.goes.1 in
    let rest : Rest894 (after m seg).course.phase (after m seg) b s amount (before ++ seg ∷ []) segs =
    subst (λ (kind : Kind). Rest894 (phase_in (next_phase m.course.phase kind forms.Base)) (kept_by m seg kind (phase_in (next_phase m.course.phase kind forms.Base)) count check) b s amount (before ++ seg ∷ []) segs) (sym k) n.goes.2 in
    let more = only_rest segs (after m seg) b s amount (before ++ seg ∷ []) (seg.start + length seg.bytes) sound price (at_after m before seg at) short rest in
    record {
      none = none_refused _ seg.start _ right more.none;
      head = more.head;
      references = more.references;
      lines = more.lines;
      extras = more.extras;
      control = more.control;
      totals = more.totals;
      signature = more.signature;
      check = more.check;
    }

-- What is a base record is read.
pub only : (text : List ℕ) (b : BaseRecord) (s : Seal) (is : Is894 b s text) → IsReadSo nothing b s is.amount 0 (cut_of text).segments × ((cut_of text).fault ≡ None)
only text b s is =
    let cut = cut_of-spelled text is.segments is.spelled in
    let short : 0 + length text ≤ SET_BYTES = omega (arith, is.short) in
    let read = only_rest is.segments nothing b s is.amount [] 0 is.sound (totals_priced b.lines b.extras _ _ is.price) (refl, refl) (are_short is.segments 0 text is.spelled short) (b.references, b.lines, b.extras, (refl, refl, refl), is.shape) in
    (subst (λ (c : Cut). IsReadSo nothing b s is.amount 0 c.segments) (sym cut) read, ap (λ (c : Cut). c.fault) cut)
