-- What is read is an answer, and what is one is read.
use Rattle.std.proofs.Common.{◌≡◌, ℕ, ◌+◌, ◌≤◌, ◌<◌, ◌==◌, Bool, true, false, List, [], ◌∷◌, ◌++◌, length, Some, None, Option, refl, sym, ap, ◌∙◌, subst, arith}
use Rattle.std.proofs.lemmas.Bool.Decides.{nat_tests}
use Rattle.block_check.specs.Crc16.{crc_from}
use Rattle.std.proofs.lemmas.List.Elements.{All-nil}
use Rattle.dsd_values.specs.declared.extra.Extra.{Extra}
use Rattle.dsd_values.specs.declared.line.Line.{Line}
use Rattle.transaction_set.specs.Extras.{HasExtras, extra_in}
use Rattle.segments.specs.Elements.{kept_text}
use Rattle.dsd_values.specs.declared.limits.TheConstants.{MOST_LINES, SET_BYTES}
use Rattle.std.specs.Option.{is_some}
use Rattle.dsd_values.specs.SignatureRecord.{SignatureRecord}
use Rattle.segments.specs.Views.{Seg}
use Rattle.transaction_set.specs.Kinds.{kind_of, next_phase, is_done}
use Rattle.transaction_set.specs.SoFar.{SoFar, extras_after, in_line, kept, phase_in}
use Rattle.segments.specs.Elements.{◌or_else◌}
use Rattle.transaction_set.specs.Reasons.{admission}
use Rattle.transaction_set.specs.Grammar.{IsSound}
use Rattle.segments.specs.SegmentSpelling.{SpellsSegments}
use Rattle.segments.specs.SegmentCut.{Cut, cut_of}
use Rattle.segments.specs.declared.segment_fault.SegmentFault.{SegmentFault}
use Rattle.transaction_set.specs.declared.seal.Seal.{Seal}
use Rattle.transaction_set.specs.declared.kind.Kind.{Kind}
use Rattle.transaction_set.specs.declared.kind.Kind.TheVariants as kinds
use Rattle.transaction_set.specs.declared.kind.Form.TheVariants as forms
use Rattle.transaction_set.specs.declared.phase.Phase.{Phase}
use Rattle.transaction_set.specs.declared.phase.Phase.TheVariants as phases
use Rattle.segments.proofs.Cutting.{spelled_of-cut, cut_of-spelled}
use Rattle.transaction_set.proofs.Small.{both_none, none_then, not_when}
use Rattle.transaction_set.proofs.Rest.{IsAt, Read}
use Rattle.transaction_set.proofs.Whole.{AreShort, and_both, are_short, both_and, end_at, end_of, no_fault}
use Rattle.transaction_set.proofs.Back.{moves}
use Rattle.transaction_set.proofs.Behind.{no_extras}
use Rattle.transaction_set.proofs.Keeps.{Sound, is_sound, keeps, at_next, refused_none, none_refused, ended_none, none_ended, done_is, MayStand, may_stand, admitted}
use Rattle.adjustment_895.specs.AnswerRecord.{AnswerRecord}
use Rattle.adjustment_895.specs.Grammar.{IsLevelled, shared_of, notes, AreSegments, FromStart}
use Rattle.adjustment_895.specs.AnswerText.{Is895}
use Rattle.adjustment_895.specs.Said.{Said, nothing, level_in, level_reason, own_reason, reason_of, kept_by, after, has_head}
use Rattle.adjustment_895.specs.FirstRefusal.{judged}
use Rattle.transaction_set.specs.Refusal.{refusal_from, said_by}
use Rattle.adjustment_895.specs.ReadParts.{IsReadFrom, answer_of, first_note, seal_of}
use Rattle.adjustment_895.specs.declared.head.AnswerHead.{AnswerHead}
use Rattle.adjustment_895.specs.declared.parts.Parts.{Parts}
use Rattle.adjustment_895.proofs.Moves.{Rest895, head_of, back, forth}

record Stands (m : Said) (seg : Seg) : Type 0 where
  lets : level_reason (kind_of forms.Answer seg) m.head ≡ None
  may : MayStand forms.Answer m.course.phase (kind_of forms.Answer seg) seg
  right : own_reason m seg (kind_of forms.Answer seg) ≡ None

stands : (m : Said) (seg : Seg) → reason_of m seg ≡ None → Stands m seg
unfolding reason_of
stands m seg e =
    let a = both_none _ _ e in
    let b = both_none _ _ a.1 in
    record { lets = a.0; may = may_stand forms.Answer m.course.phase (kind_of forms.Answer seg) seg b.0; right = b.1 }

at_after : (m : Said) (before : List Seg) (seg : Seg) → IsAt before m.course → IsAt (before ++ seg ∷ []) (after m seg).course
unfolding kept_by
at_after m before seg at = at_next m.course before seg (kind_of forms.Answer seg) (phase_in (next_phase m.course.phase (kind_of forms.Answer seg) forms.Answer)) at

-- ---- the level, all along

level_any : (lines : List Line) (level : ℕ) → 0 < level → IsLevelled lines level
level_any [] level h = tt
level_any (line ∷ lines) level h = h

level_none : (lines : List Line) (level : ℕ) → lines ≡ [] → IsLevelled lines level
level_none lines level e = subst (λ (u : List Line). IsLevelled u level) (sym e) tt

-- before the loop there are no lines, in it there is a level, and behind it there is one where there are lines
abbrev Levelled : Phase → List Line → ℕ → Type 0
Levelled phases.Start lines level = lines ≡ []
Levelled phases.Head lines level = lines ≡ []
Levelled phases.References lines level = lines ≡ []
Levelled phases.Body lines level = lines ≡ []
Levelled phases.FirstItem lines level = 0 < level
Levelled phases.Items lines level = 0 < level
Levelled _ lines level = IsLevelled lines level

some_level : (level : ℕ) → (level == 0) ≡ false → 0 < level
some_level level e = grind (arith, nat_tests)

levelled_on : (from : Phase) (kind : Kind) (m : Said) (seg : Seg) (count check : ℕ) → m.course.phase ≡ from → moves (next_phase from kind forms.Answer) ≡ true → level_reason kind m.head ≡ None
    → Levelled from m.course.lines (level_in m.head)
    → Levelled (phase_in (next_phase from kind forms.Answer)) (kept_by m seg kind (phase_in (next_phase from kind forms.Answer)) count check).course.lines (level_in (kept_by m seg kind (phase_in (next_phase from kind forms.Answer)) count check).head)
unfolding kept kept_by
levelled_on phases.Start kinds.Start m seg count check p g e l = l
levelled_on phases.Head kinds.Head m seg count check p g e l = l
levelled_on phases.References kinds.Reference m seg count check p g e l = l
levelled_on phases.References kinds.LoopStart m seg count check p g e l = some_level (level_in m.head) (not_when _ _ e)
levelled_on phases.References kinds.Totals m seg count check p g e l = level_none m.course.lines (level_in m.head) l
levelled_on phases.Body kinds.LoopStart m seg count check p g e l = some_level (level_in m.head) (not_when _ _ e)
levelled_on phases.Body kinds.Totals m seg count check p g e l = level_none m.course.lines (level_in m.head) l
levelled_on phases.FirstItem kinds.Item m seg count check p g e l = l
levelled_on phases.Items kinds.Item m seg count check p g e l = l
levelled_on phases.Items kinds.Allowance m seg count check p g e l = l
levelled_on phases.Items kinds.LineNote m seg count check p g e l = l
levelled_on phases.Items kinds.Note m seg count check p g e l = l
levelled_on phases.Items kinds.LoopEnd m seg count check p g e l = level_any m.course.lines (level_in m.head) l
levelled_on phases.Extras kinds.Totals m seg count check p g e l = l
levelled_on phases.Signature kinds.Signature m seg count check p g e l = l
levelled_on phases.Integrity kinds.Integrity m seg count check p g e l = l
levelled_on phases.Trailer kinds.Trailer m seg count check p g e l = l
levelled_on _ _ m seg count check p g e l = cc

-- ---- an answer has nothing at record level

no_extras_on : (from : Phase) (kind : Kind) (m : Said) (seg : Seg) (phase : Phase) (count check : ℕ) → m.course.phase ≡ from → moves (next_phase from kind forms.Answer) ≡ true
    → m.course.extras ≡ [] → (kept_by m seg kind phase count check).course.extras ≡ []
unfolding kept kept_by
no_extras_on phases.Items kinds.Allowance m seg phase count check p g x = ap (λ (b : Bool). extras_after kinds.Allowance b (extra_in kinds.Allowance seg) m.course.extras) (ap in_line p) ∙ x
no_extras_on phases.Items kinds.LineNote m seg phase count check p g x = ap (λ (b : Bool). extras_after kinds.LineNote b (extra_in kinds.LineNote seg) m.course.extras) (ap in_line p) ∙ x
no_extras_on phases.Items kinds.Note m seg phase count check p g x = ap (λ (b : Bool). extras_after kinds.Note b (extra_in kinds.Note seg) m.course.extras) (ap in_line p) ∙ x
no_extras_on phases.Items kinds.Item m seg phase count check p g x = x
no_extras_on phases.Items kinds.LoopEnd m seg phase count check p g x = x
no_extras_on phases.Start kinds.Start m seg phase count check p g x = x
no_extras_on phases.Head kinds.Head m seg phase count check p g x = x
no_extras_on phases.References kinds.Reference m seg phase count check p g x = x
no_extras_on phases.References kinds.LoopStart m seg phase count check p g x = x
no_extras_on phases.References kinds.Totals m seg phase count check p g x = x
no_extras_on phases.Body kinds.LoopStart m seg phase count check p g x = x
no_extras_on phases.Body kinds.Totals m seg phase count check p g x = x
no_extras_on phases.FirstItem kinds.Item m seg phase count check p g x = x
no_extras_on phases.Extras kinds.Totals m seg phase count check p g x = x
no_extras_on phases.Signature kinds.Signature m seg phase count check p g x = x
no_extras_on phases.Integrity kinds.Integrity m seg phase count check p g x = x
no_extras_on phases.Trailer kinds.Trailer m seg phase count check p g x = x
no_extras_on _ _ m seg phase count check p g x = cc

-- ---- what holds all along

own_keeps : (k : Kind) (m : Said) (seg : Seg) (phase : Phase) (count check : ℕ) → own_reason m seg k ≡ None → Sound m.course.lines m.course.extras
    → Sound (kept_by m seg k phase count check).course.lines (kept_by m seg k phase count check).course.extras
unfolding kept_by
own_keeps kinds.Head m seg phase count check e s = keeps kinds.Head m.course seg phase count check refl s
own_keeps k m seg phase count check e s = keeps k m.course seg phase count check e s

-- before the loop and the totals the one reference has come or not
abbrev Noted : Phase → List (List ℕ) → Type 0
Noted phases.Start texts = texts ≡ []
Noted phases.Head texts = texts ≡ []
Noted phases.References texts = texts ≡ []
Noted _ texts = notes (first_note texts) ≡ texts

noted_one : (texts : List (List ℕ)) (text : List ℕ) → texts ≡ [] → notes (first_note (texts ++ text ∷ [])) ≡ texts ++ text ∷ []
noted_one texts text e = subst (λ (u : List (List ℕ)). notes (first_note (u ++ text ∷ [])) ≡ u ++ text ∷ []) (sym e) refl

noted_none : (texts : List (List ℕ)) → texts ≡ [] → notes (first_note texts) ≡ texts
noted_none texts e = subst (λ (u : List (List ℕ)). notes (first_note u) ≡ u) (sym e) refl

noted_on : (from : Phase) (kind : Kind) (m : Said) (seg : Seg) (count check : ℕ) → moves (next_phase from kind forms.Answer) ≡ true → Noted from m.course.references
    → Noted (phase_in (next_phase from kind forms.Answer)) (kept_by m seg kind (phase_in (next_phase from kind forms.Answer)) count check).course.references
unfolding kept kept_by
noted_on phases.Start kinds.Start m seg count check g l = l
noted_on phases.Head kinds.Head m seg count check g l = l
noted_on phases.References kinds.Reference m seg count check g l = noted_one m.course.references (kept_text seg) l
noted_on phases.References kinds.LoopStart m seg count check g l = noted_none m.course.references l
noted_on phases.References kinds.Totals m seg count check g l = noted_none m.course.references l
noted_on phases.Body kinds.LoopStart m seg count check g l = l
noted_on phases.Body kinds.Totals m seg count check g l = l
noted_on phases.FirstItem kinds.Item m seg count check g l = l
noted_on phases.Items kinds.Item m seg count check g l = l
noted_on phases.Items kinds.Allowance m seg count check g l = l
noted_on phases.Items kinds.LineNote m seg count check g l = l
noted_on phases.Items kinds.Note m seg count check g l = l
noted_on phases.Items kinds.LoopEnd m seg count check g l = l
noted_on phases.Extras kinds.Totals m seg count check g l = l
noted_on phases.Signature kinds.Signature m seg count check g l = l
noted_on phases.Integrity kinds.Integrity m seg count check g l = l
noted_on phases.Trailer kinds.Trailer m seg count check g l = l
noted_on _ _ m seg count check g l = cc

record Holds (m : Said) : Type 0 where
  sound : Sound m.course.lines m.course.extras
  level : Levelled m.course.phase m.course.lines (level_in m.head)
  note : Noted m.course.phase m.course.references
  none : m.course.extras ≡ []

holds_on : (m : Said) (seg : Seg) → Stands m seg → Holds m → Holds (after m seg)
unfolding kept kept_by
holds_on m seg st h =
    let kind = kind_of forms.Answer seg in
    let phase = phase_in (next_phase m.course.phase kind forms.Answer) in
    let check = crc_from m.course.check seg.bytes in
    record {
      sound = own_keeps kind m seg phase (m.course.count + 1) check st.right h.sound;
      level = levelled_on m.course.phase kind m seg (m.course.count + 1) check refl st.may.moves_on st.lets h.level;
      note = noted_on m.course.phase kind m seg (m.course.count + 1) check st.may.moves_on h.note;
      none = no_extras_on m.course.phase kind m seg phase (m.course.count + 1) check refl st.may.moves_on h.none;
    }

whole_end : (segs : List Seg) (m : Said) (place : ℕ) (fault : Option SegmentFault) → refusal_from judged m place segs fault ≡ None → Holds m → place ≤ SET_BYTES
    → Holds (said_by judged m segs) × (end_of place segs ≤ SET_BYTES) × (is_done (said_by judged m segs).course.phase ≡ true)
whole_end [] m place fault e h p = (h, p, (and_both _ _ (and_both _ _ (ended_none _ place fault e).0).0).0)
whole_end (seg ∷ segs) m place fault e h p =
    let n = refused_none (reason_of m seg) seg.start _ e in
    let st = stands m seg n.0 in
    whole_end segs (after m seg) (seg.start + length seg.bytes) fault n.1 (holds_on m seg st h) st.may.short

-- ---- what stands to the end is the rest of an answer

some_signed : (s : Option SignatureRecord) (signature : SignatureRecord) → Some signature ≡ s → is_some s ≡ true
some_signed (Some s) signature e = refl
some_signed None signature e = cc

some_head : (h : Option AnswerHead) (head : AnswerHead) → Some head ≡ h → has_head h ≡ true
some_head (Some h) head e = refl
some_head None head e = cc

-- what was said to the end is this answer
pub record IsWhole (from : Phase) (m : Said) (a : AnswerRecord) (s : Seal) : Type 0 where
  pub done : is_done from ≡ true
  pub head : Some (head_of a) ≡ m.head
  pub read : Read m.course (shared_of a s)
  pub totals : (shared_of a s).totals ≡ m.course.totals
  pub signature : Some a.signature ≡ m.course.signature
  pub check : s.check ≡ m.course.integrity

found_rest : (segs : List Seg) (m : Said) (before : List Seg) (place : ℕ) (fault : Option SegmentFault) (a : AnswerRecord) (s : Seal) → IsAt before m.course → refusal_from judged m place segs fault ≡ None
    → IsWhole phases.Done (said_by judged m segs) a s → Rest895 m.course.phase m a s before segs
unfolding kept kept_by
found_rest [] m before place fault a s at e w =
    let whole = and_both _ _ (ended_none _ place fault e).0 in
    let done = done_is m.course.phase (and_both _ _ whole.0).0 in
    subst (λ (p : Phase). Rest895 p m a s before []) done (w.head, (w.read, w.totals, w.signature, w.check, refl))
found_rest (seg ∷ segs) m before place fault a s at e w =
    let n = refused_none (reason_of m seg) seg.start _ e in
    let st = stands m seg n.0 in
    let rest = found_rest segs (after m seg) (before ++ seg ∷ []) (seg.start + length seg.bytes) fault a s (at_after m before seg at) n.1 w in
    back m a s before seg segs (m.course.count + 1) (crc_from m.course.check seg.bytes) m.course.phase (kind_of forms.Answer seg) st.may.moves_on refl refl st.right at rest

-- what holds where nothing has come
begin_holds : Holds nothing
begin_holds =
    let none : 0 ≤ MOST_LINES = omega arith in
    record { sound = (tt, none, All-nil HasExtras, no_extras false); level = refl; note = refl; none = refl }

-- what holds where the set is whole
done_levelled : (phase : Phase) (lines : List Line) (level : ℕ) → is_done phase ≡ true → Levelled phase lines level → IsLevelled lines level
done_levelled phases.Done lines level e l = l
done_levelled _ lines level e l = cc

done_noted : (phase : Phase) (texts : List (List ℕ)) → is_done phase ≡ true → Noted phase texts → notes (first_note texts) ≡ texts
done_noted phases.Done texts e n = n
done_noted _ texts e n = cc

shaped : (segs : List Seg) (a : AnswerRecord) (s : Seal) → Rest895 phases.Start nothing a s [] segs → AreSegments a s segs
shaped segs a s (texts, lines, extras, (r, l, x), shape) =
    let one = subst (λ (t : List (List ℕ)). FromStart t lines extras a s [] segs) (sym r) shape in
    let two = subst (λ (t : List Line). FromStart (notes a.note) t extras a s [] segs) (sym l) one in
    subst (λ (t : List Extra). FromStart (notes a.note) a.lines t a s [] segs) (sym x) two

-- What is not refused is the answer that it says.
pub found_so : (text : List ℕ) (a : AnswerRecord) (s : Seal) → refusal_from judged nothing 0 (cut_of text).segments (cut_of text).fault ≡ None
    → IsWhole phases.Done (said_by judged nothing (cut_of text).segments) a s → Is895 a s text
found_so text a s e w =
    let segs = (cut_of text).segments in
    let whole : SpellsSegments 0 segs text = spelled_of-cut text segs (ap (λ (f : Option SegmentFault). record { segments = segs; fault = f }) (no_fault judged segs nothing 0 (cut_of text).fault e)) in
    let zero_in : 0 ≤ SET_BYTES = omega arith in
    let ends = whole_end segs nothing 0 (cut_of text).fault e begin_holds zero_in in
    let m = said_by judged nothing segs in
    let level : IsLevelled m.course.lines (level_in m.head) = done_levelled m.course.phase m.course.lines (level_in m.head) ends.2 ends.0.level in
    let there : IsLevelled m.course.lines a.level = subst (λ (h : Option AnswerHead). IsLevelled m.course.lines (level_in h)) (sym w.head) level in
    let end : end_of 0 segs ≡ 0 + length text = end_at segs 0 text whole in
    record {
      segments = segs;
      spelled = whole;
      shape = shaped segs a s (found_rest segs nothing [] 0 (cut_of text).fault a s (refl, refl) e w);
      sound = subst (λ (t : List Line). IsSound t []) (sym w.read.1) (subst (λ (x : List Extra). IsSound m.course.lines x) ends.0.none (is_sound _ _ ends.0.sound));
      levelled = subst (λ (t : List Line). IsLevelled t a.level) (sym w.read.1) there;
      short = omega (arith, end, ends.1);
    }

-- what holds of what was said to the end
said_holds : (text : List ℕ) → refusal_from judged nothing 0 (cut_of text).segments (cut_of text).fault ≡ None
    → (notes (first_note (said_by judged nothing (cut_of text).segments).course.references) ≡ (said_by judged nothing (cut_of text).segments).course.references)
    × ((said_by judged nothing (cut_of text).segments).course.extras ≡ [])
said_holds text e =
    let zero_in : 0 ≤ SET_BYTES = omega arith in
    let ends = whole_end (cut_of text).segments nothing 0 (cut_of text).fault e begin_holds zero_in in
    let m = said_by judged nothing (cut_of text).segments in
    (done_noted m.course.phase m.course.references ends.2 ends.0.note, ends.0.none)

-- What is read is an answer.
pub found : (text : List ℕ) (parts : Parts) → refusal_from judged nothing 0 (cut_of text).segments (cut_of text).fault ≡ None → IsReadFrom (said_by judged nothing (cut_of text).segments) parts
    → Is895 (answer_of parts) (seal_of parts) text
found text parts e r =
    let h = said_holds text e in
    let note : notes (first_note parts.closed.references.items) ≡ (said_by judged nothing (cut_of text).segments).course.references =
    ap (λ (u : List (List ℕ)). notes (first_note u)) r.closed.references ∙ h.0 in
    found_so text (answer_of parts) (seal_of parts) e (record {
      done = refl;
      head = sym r.head;
      read = (note, r.closed.lines, sym h.1, r.closed.control);
      totals = r.closed.totals;
      signature = r.closed.signature;
      check = r.closed.check;
    })

-- the answer that was said, with this head
abbrev pub answer_in : AnswerHead → SignatureRecord → SoFar → AnswerRecord
answer_in h signature m = record {
  role = h.role;
  flag = h.flag;
  number = h.number;
  check = h.check;
  level = h.level;
  receiver_number = h.receiver_number;
  note = first_note m.references;
  lines = m.lines;
  quantity = m.totals.quantity;
  amount = m.totals.amount;
  deposit = m.totals.deposit;
  signature = signature;
}

signature_there : (s : Option SignatureRecord) → is_some s ≡ true → (signature : SignatureRecord) × (Some signature ≡ s)
signature_there (Some signature) e = (signature, refl)
signature_there None e = cc

head_there : (h : Option AnswerHead) → has_head h ≡ true → (head : AnswerHead) × (Some head ≡ h)
head_there (Some head) e = (head, refl)
head_there None e = cc

whole_said : (segs : List Seg) (m : Said) (place : ℕ) (fault : Option SegmentFault) → refusal_from judged m place segs fault ≡ None → (is_some (said_by judged m segs).course.signature ≡ true) × (has_head (said_by judged m segs).head ≡ true)
whole_said [] m place fault e =
    let whole = and_both _ _ (ended_none _ place fault e).0 in
    ((and_both _ _ whole.0).1, whole.1)
whole_said (seg ∷ segs) m place fault e = whole_said segs (after m seg) _ fault (refused_none (reason_of m seg) seg.start _ e).1

-- What is not refused is some answer.
pub some_answer : (text : List ℕ) → refusal_from judged nothing 0 (cut_of text).segments (cut_of text).fault ≡ None → (a : AnswerRecord) × (s : Seal) × Is895 a s text
some_answer text e =
    let segs = (cut_of text).segments in
    let m = (said_by judged nothing segs).course in
    let whole = whole_said segs nothing 0 (cut_of text).fault e in
    let h = head_there (said_by judged nothing segs).head whole.1 in
    let g = signature_there m.signature whole.0 in
    let held = said_holds text e in
    let seal : Seal = record { control = m.control; check = m.integrity } in (
      answer_in h.0 g.0 m,
      seal,
      found_so text (answer_in h.0 g.0 m) seal e (record {
        done = refl;
        head = h.1;
        read = (held.0, refl, sym held.1, refl);
        totals = refl;
        signature = g.1;
        check = refl;
      }),
    )

-- ---- what is the rest of an answer stands to the end

none_of : (m : Said) (seg : Seg) (kind : Kind) → kind_of forms.Answer seg ≡ kind → level_reason kind m.head ≡ None → admission forms.Answer m.course.phase kind seg ≡ None → own_reason m seg kind ≡ None → reason_of m seg ≡ None
unfolding reason_of
none_of m seg kind k a d o =
    subst (λ (u : Kind). (level_reason u m.head or_else admission forms.Answer m.course.phase u seg or_else own_reason m seg u) ≡ None) (sym k)
    (none_then _ _ a (none_then _ _ d o))

pub record IsReadSo (m : Said) (a : AnswerRecord) (s : Seal) (place : ℕ) (segs : List Seg) : Type 0 where
  pub none : refusal_from judged m place segs None ≡ None
  pub head : Some (head_of a) ≡ (said_by judged m segs).head
  pub references : notes a.note ≡ (said_by judged m segs).course.references
  pub lines : a.lines ≡ (said_by judged m segs).course.lines
  pub control : s.control ≡ (said_by judged m segs).course.control
  pub totals : (shared_of a s).totals ≡ (said_by judged m segs).course.totals
  pub signature : Some a.signature ≡ (said_by judged m segs).course.signature
  pub check : s.check ≡ (said_by judged m segs).course.integrity

at_end : (from : Phase) (m : Said) (a : AnswerRecord) (s : Seal) (before : List Seg) → Rest895 from m a s before [] → IsWhole from m a s
at_end phases.Start m a s before (texts, lines, extras, left, rest) = absurd rest
at_end phases.Head m a s before (texts, lines, extras, left, rest) = absurd rest
at_end phases.References m a s before (h, (text ∷ [], lines, extras, left, rest)) = absurd rest
at_end phases.References m a s before (h, (text ∷ next ∷ texts, lines, extras, left, rest)) = absurd rest
at_end phases.References m a s before (h, ([], line ∷ lines, extras, left, (label, rest))) = absurd rest
at_end phases.References m a s before (h, ([], [], extra ∷ extras, left, rest)) = absurd rest
at_end phases.References m a s before (h, ([], [], [], left, rest)) = absurd rest
at_end phases.Body m a s before (h, (line ∷ lines, extras, left, (label, rest))) = absurd rest
at_end phases.Body m a s before (h, ([], extra ∷ extras, left, rest)) = absurd rest
at_end phases.Body m a s before (h, ([], [], left, rest)) = absurd rest
at_end phases.FirstItem m a s before (h, (line, lines, extras, left, rest)) = absurd rest
at_end phases.Items m a s before (h, (extra ∷ inside, lines, extras, left, rest)) = absurd rest
at_end phases.Items m a s before (h, ([], line ∷ lines, extras, left, rest)) = absurd rest
at_end phases.Items m a s before (h, ([], [], extras, left, rest)) = absurd rest
at_end phases.Extras m a s before (h, (extra ∷ extras, left, rest)) = absurd rest
at_end phases.Extras m a s before (h, ([], left, rest)) = absurd rest
at_end phases.Signature m a s before (h, (read, totals, rest)) = absurd rest
at_end phases.Integrity m a s before (h, (read, totals, g, rest)) = absurd rest
at_end phases.Trailer m a s before (h, (read, totals, g, i, rest)) = absurd rest
at_end phases.Done m a s before (h, (read, totals, g, i, e)) = record { done = refl; head = h; read = read; totals = totals; signature = g; check = i }

only_rest : (segs : List Seg) (m : Said) (a : AnswerRecord) (s : Seal) (before : List Seg) (place : ℕ) → IsSound a.lines [] → IsLevelled a.lines a.level → IsAt before m.course → AreShort segs
    → Rest895 m.course.phase m a s before segs → IsReadSo m a s place segs
unfolding kept kept_by
only_rest [] m a s before place sound level at short r =
    let w = at_end m.course.phase m a s before r in
    record {
      none = none_ended _ place (both_and _ _ (both_and _ _ w.done (some_signed _ _ w.signature)) (some_head m.head (head_of a) w.head));
      head = w.head;
      references = w.read.0;
      lines = w.read.1;
      control = w.read.3;
      totals = w.totals;
      signature = w.signature;
      check = w.check;
    }
only_rest (seg ∷ segs) m a s before place sound level at (here, short) r =
    let count = m.course.count + 1 in
    let check = crc_from m.course.check seg.bytes in
    let n = forth m a s before seg segs count check sound level at m.course.phase refl r in
    let k : kind_of forms.Answer seg ≡ n.kind = n.goes.0 in
    let right : reason_of m seg ≡ None = none_of m seg n.kind k n.lets (admitted forms.Answer m.course.phase n.kind seg n.moves_on here) n.goes.1 in
    let rest : Rest895 (after m seg).course.phase (after m seg) a s (before ++ seg ∷ []) segs =
    subst (λ (kind : Kind). Rest895 (phase_in (next_phase m.course.phase kind forms.Answer)) (kept_by m seg kind (phase_in (next_phase m.course.phase kind forms.Answer)) count check) a s (before ++ seg ∷ []) segs) (sym k) n.goes.2 in
    let more = only_rest segs (after m seg) a s (before ++ seg ∷ []) (seg.start + length seg.bytes) sound level (at_after m before seg at) short rest in
    record {
      none = none_refused _ seg.start _ right more.none;
      head = more.head;
      references = more.references;
      lines = more.lines;
      control = more.control;
      totals = more.totals;
      signature = more.signature;
      check = more.check;
    }

-- What is an answer is read.
pub only : (text : List ℕ) (a : AnswerRecord) (s : Seal) → Is895 a s text → IsReadSo nothing a s 0 (cut_of text).segments × ((cut_of text).fault ≡ None)
only text a s is =
    let cut = cut_of-spelled text is.segments is.spelled in
    let short : 0 + length text ≤ SET_BYTES = omega (arith, is.short) in
    let read = only_rest is.segments nothing a s [] 0 is.sound is.levelled (refl, refl) (are_short is.segments 0 text is.spelled short) (notes a.note, a.lines, [], (refl, refl, refl), is.shape) in
    (subst (λ (c : Cut). IsReadSo nothing a s 0 c.segments) (sym cut) read, ap (λ (c : Cut). c.fault) cut)
