-- A set that is written, from its start to its seal: what its rows say, what the calls on its parts answer, and what the sealing makes of it.
use Rattle.std.proofs.Common.{◌≡◌, ◌⊎◌, ℕ, ◌≤◌, inl, inr, List, [], ◌∷◌, ◌++◌, length, map, get_or, Option, Some, None, Ok, Err, refl, sym, ◌∙◌, ap, arith}
use Rattle.std.specs.List.{All}
use Rattle.std.proofs.lemmas.List.Elements.{All-append, All-head, All-tail}
use Rattle.dsd_values.specs.declared.extra.Extra.{Extra}
use Rattle.dsd_values.specs.declared.limits.TheConstants.{SET_BYTES}
use Rattle.dsd_values.specs.declared.line.Line.{Line}
use Rattle.segments.specs.Views.{Seg}
use Rattle.transaction_set.specs.Grammar.{BehindHead, IsStart, One, Shape, Shared}
use Rattle.transaction_set.specs.Kinds.{head_id}
use Rattle.transaction_set.specs.RowsWritten.{SetSoFar, after_writing, first_long, no_rows, text_after, text_in, unless_long, with_rows}
use Rattle.segments.specs.SegmentSpelling.{IsLongSegment, IsSegment, SpellsSegments}
use Rattle.segments.specs.SegmentWriting.{IsWritten, segments_of, text_of}
use Rattle.transaction_set.specs.SetWriting.{Row, body_rows, control_text, kept_row, sealed, sealing_rows, start_row}
use Rattle.transaction_set.specs.declared.kind.Form.{Form}
use Rattle.transaction_set.specs.declared.kind.Kind.TheVariants as kinds
use Rattle.segments.specs.declared.segment_write_fault.SegmentWriteFault.{SegmentWriteFault}
use Rattle.segments.specs.declared.segment_write_fault.SegmentWriteFault.TheVariants.{LongSegment, Memory}
use Rattle.segments.specs.declared.segment_writer.TheConstants.{MOST_CONTROL_NUMBER}
use Rattle.transaction_set.proofs.RowKinds.{head_kind, kind_row, kind_with, start_kind}
use Rattle.transaction_set.proofs.Rows.{Answer, Answers, all_back, all_front, both_written, first_refused, long_rows, then_rows, was_written, were_written}
use Rattle.transaction_set.proofs.RowsSay.{SaysAgain, start_again}
use Rattle.transaction_set.proofs.RowsShape.{IsSealable, Reshaped, RowSays, Shaped, behind_head_shaped, resealed, row_shaped}
use Rattle.transaction_set.proofs.SealedRows.{are_lines, are_sealable, sealing_segments}
use Rattle.transaction_set.proofs.Tells.{IsBehindHead, IsLong, behind_head_tells, one_tells}
use Rattle.segments.proofs.Written.{lines_spelled, lines_written}

-- ---- the shape of a set

pub are_long : (segs : List Seg) → All IsLongSegment segs → All IsLong segs
are_long segs all = λ k d inside. (all k d inside).segment

start_says : (form : Form) (control : ℕ) → control ≤ MOST_CONTROL_NUMBER → RowSays form kinds.Start (λ _ seg. IsStart (control_text control) seg) (start_row form control)
start_says form control small =
    let again = start_again form control small in
    record {
      kind_is = λ place. kind_row form place (start_row form control) ∙ start_kind form;
      says = λ before place. again.says place;
      segment = again.segment;
    }

-- a start, a head that says so, and what stands behind it
abbrev pub FromStart : Form → List ℕ → (Seg → Type 0) → List (List ℕ) → List Line → List Extra → Shared → Shape
FromStart form control IsHead texts lines extras t =
    One form kinds.Start (λ _ seg. IsStart control seg) (One form kinds.Head (λ _ seg. IsHead seg) (BehindHead form texts lines extras t))

-- the row of a head that says so
module _ (opened : List Row) (form : Form) (control : ℕ) (IsHead : Seg → Type 0) (head : Row) (id : get_or head 0 [] ≡ head_id form) where
  head_says : SaysAgain IsHead head → RowSays form kinds.Head (λ _ seg. IsHead seg) head
  head_says r = record {
    kind_is = λ place. kind_row form place head ∙ ap (λ (text : List ℕ). kind_with form text (get_or head 1 [])) id ∙ head_kind form (get_or head 1 []);
    says = λ before place. r.says place;
    segment = r.segment;
  }

  -- all rows of a set, sealed
  pub set_shaped : control ≤ MOST_CONTROL_NUMBER → SaysAgain IsHead head → (texts : List (List ℕ)) (lines : List Line) (extras : List Extra) (t : Shared) → IsBehindHead form texts lines extras t.totals t.signature
      → Shaped opened control (FromStart form (control_text control) IsHead texts lines extras (resealed opened control t)) (start_row form control ∷ head ∷ (map kept_row texts ++ body_rows form lines extras t.totals t.signature))
  set_shaped small says texts lines extras t is =
      let later : List Row = map kept_row texts ++ body_rows form lines extras t.totals t.signature in
      let target : Shape = BehindHead form texts lines extras (resealed opened control t) in
      row_shaped opened control form kinds.Start (λ _ seg. IsStart (control_text control) seg) (One form kinds.Head (λ _ seg. IsHead seg) target) (start_row form control) (head ∷ later) (start_says form control small)
      (row_shaped opened control form kinds.Head (λ _ seg. IsHead seg) target head later (head_says says) (behind_head_shaped opened control form texts lines extras t is))

  -- whatever segments are the set, these rows are it too, sealed anew
  pub set_reshaped : ((seg : Seg) → IsLong seg → IsHead seg → SaysAgain IsHead head) → control ≤ MOST_CONTROL_NUMBER → (texts : List (List ℕ)) (lines : List Line) (extras : List Extra) (t : Shared)
      → (before segs : List Seg) (done : List Row) → FromStart form t.control IsHead texts lines extras t before segs → All IsLong segs
      → opened ≡ done ++ (start_row form control ∷ head ∷ (map kept_row texts ++ body_rows form lines extras t.totals t.signature))
      → Reshaped opened control (FromStart form (control_text control) IsHead texts lines extras (resealed opened control t)) done (start_row form control ∷ head ∷ (map kept_row texts ++ body_rows form lines extras t.totals t.signature))
  set_reshaped again small texts lines extras t before segs done s all e =
      let behind : Type 0 = IsBehindHead form texts lines extras t.totals t.signature in
      let r = one_tells form kinds.Start (λ _ seg. IsStart t.control seg) (One form kinds.Head (λ _ seg. IsHead seg) (BehindHead form texts lines extras t)) (Unit {0}) (SaysAgain IsHead head × behind) (λ before seg long k says. tt)
      (one_tells form kinds.Head (λ _ seg. IsHead seg) (BehindHead form texts lines extras t) (SaysAgain IsHead head) behind (λ before seg long k says. again seg long says) (behind_head_tells form texts lines extras t)) before segs s all in
      set_shaped small r.1.0 texts lines extras t r.1.1 done e

-- ---- what the parts ask

pub record AreAsked (first second : Row) (texts rest : List Row) : Type 0 where
  pub start : IsSegment first
  pub head : IsSegment second
  pub references : All IsSegment texts
  pub later : All IsSegment rest

pub are_asked : (start head : Row) (references later : List Row) → All IsSegment (start ∷ head ∷ (references ++ later)) → AreAsked start head references later
are_asked start head references later all =
    let from_head = All-tail IsSegment start (head ∷ (references ++ later)) all in
    let behind_head = All-tail IsSegment head (references ++ later) from_head in
    record {
      start = All-head IsSegment start (head ∷ (references ++ later)) all;
      head = All-head IsSegment head (references ++ later) from_head;
      references = all_front IsSegment references later behind_head;
      later = all_back IsSegment references later behind_head;
    }

-- ---- the calls on the parts, one after another

module _ (start head : Row) (references later : List Row) (old started headed : SetSoFar) (first second : Answer)
    (s : first ≡ Ok started) (start_written : Answers first (after_writing (start ∷ []) old))
    (h : second ≡ Ok headed) (head_written : Answers second (after_writing (head ∷ []) started)) where
  behind_head : (answer : Answer) → Answers answer (after_writing (references ++ later) headed) → Answers answer (after_writing (start ∷ head ∷ (references ++ later)) old)
  behind_head answer written =
      both_written (start ∷ []) (head ∷ (references ++ later)) old started first answer s start_written
      (both_written (head ∷ []) (references ++ later) started headed second answer h head_written written)

  pub references_refused : (third answer : Answer) (fault : SegmentWriteFault) → third ≡ Err fault → answer ≡ Err fault → Answers third (after_writing references headed) → Answers answer (after_writing (start ∷ head ∷ (references ++ later)) old)
  references_refused third answer fault e f written = behind_head answer (first_refused references later headed third answer fault e f written)

  pub all_written : (third answer : Answer) (referenced : SetSoFar) → third ≡ Ok referenced → Answers third (after_writing references headed) → Answers answer (after_writing later referenced) → Answers answer (after_writing (start ∷ head ∷ (references ++ later)) old)
  all_written third answer referenced e written last = behind_head answer (both_written references later headed referenced third answer e written last)

-- ---- the sealing

-- a writer of all these rows: its text is theirs, and what the sealing writes behind it is what seals them
pub record AreOpened (rows : List Row) (control : ℕ) (old : SetSoFar) : Type 0 where
  pub text : old.text ≡ text_of rows
  pub sealing : text_after (sealing_rows old.text old.count control) old ≡ text_after (sealed rows control) no_rows

pub are_opened : (rows : List Row) (control : ℕ) (old : SetSoFar) (opening : Answer) → opening ≡ Ok old → Answers opening (after_writing rows no_rows) → AreOpened rows control old
are_opened rows control old opening e h =
    let written = was_written opening old (after_writing rows no_rows) e h in
    let at = were_written (first_long rows) (with_rows rows no_rows) old written in
    let count : old.count ≡ length rows = omega (arith, ap (λ (s : SetSoFar). s.count) at) in
    let text : old.text ≡ text_of rows = ap (λ (s : SetSoFar). s.text) at in
    let same : sealing_rows old.text old.count control ≡ sealing_rows (text_of rows) (length rows) control =
    ap (λ (t : List ℕ). sealing_rows t old.count control) text ∙ ap (λ (n : ℕ). sealing_rows (text_of rows) n control) count in
    record {
      text = text;
      sealing = ap (λ (more : List Row). text_after more old) same ∙ ap text_in (then_rows rows (sealing_rows (text_of rows) (length rows) control) no_rows old written);
    }

pub sealed_refused : (rows : List Row) (control : ℕ) (opening : Answer) (fault : SegmentWriteFault) → opening ≡ Err fault → Answers opening (after_writing rows no_rows) → (fault ≡ Memory) ⊎ (text_after (sealed rows control) no_rows ≡ Err fault)
sealed_refused rows control opening fault e (inl none) = let same : Err fault ≡ Err Memory = sym e ∙ none in let is : fault ≡ Memory = cc (same) in inl is
sealed_refused rows control opening fault e (inr is) =
    inr (sym (ap text_in (long_rows rows (sealing_rows (text_of rows) (length rows) control) no_rows fault (sym e ∙ is))))

-- the text of a call on rows that is refused
pub text_refused : (answer wanted : Answer) (fault : SegmentWriteFault) → answer ≡ Err fault → Answers answer wanted → (fault ≡ Memory) ⊎ (text_in wanted ≡ Err fault)
text_refused answer wanted fault e (inl none) = let same : Err fault ≡ Err Memory = sym e ∙ none in let is : fault ≡ Memory = cc (same) in inl is
text_refused answer wanted fault e (inr is) = inr (sym (ap text_in (sym e ∙ is)))

-- rows that are sealed: they may be, and their text is that of their segments
pub record AreSealed (opened : List Row) (control : ℕ) : Type 0 where
  pub sealable : IsSealable opened control
  pub spelled : SpellsSegments 0 (segments_of 0 (sealed opened control)) (text_of (sealed opened control))
  pub written : All IsWritten (segments_of 0 (sealed opened control))

pub are_sealed : (opened : List Row) (control : ℕ) → control ≤ MOST_CONTROL_NUMBER → All IsSegment opened → first_long (sealed opened control) ≡ None → length (text_of (sealed opened control)) ≤ SET_BYTES → AreSealed opened control
are_sealed opened control small all none short =
    let sealing : List Row = sealing_rows (text_of opened) (length opened) control in
    let sealable = are_sealable opened control SET_BYTES all short (omega arith) small in
    let segments = All-append IsSegment opened sealing all (sealing_segments opened control sealable) in
    let lines = are_lines (sealed opened control) segments none in
    record { sealable = sealable; spelled = lines_spelled 0 (sealed opened control) lines; written = lines_written 0 (sealed opened control) lines }

-- ---- what was answered of all rows

answered_text : (long : Option ℕ) (new : SetSoFar) (text : List ℕ) → text_in (unless_long long new) ≡ Ok text → (long ≡ None) × (text ≡ new.text)
answered_text (Some size) new text e = cc
answered_text None new text e = (refl, cc (e))

pub rows_text : (rows : List Row) (text : List ℕ) → text_after rows no_rows ≡ Ok text → (first_long rows ≡ None) × (text ≡ text_of rows)
rows_text rows text e = answered_text (first_long rows) (with_rows rows no_rows) text e

answered_long : (long : Option ℕ) (new : SetSoFar) (size : ℕ) → text_in (unless_long long new) ≡ Err (LongSegment size) → long ≡ Some size
answered_long (Some other) new size e = let sizes : other ≡ size = cc (e) in ap (λ (n : ℕ). Some n) sizes
answered_long None new size e = cc

pub rows_long : (rows : List Row) (size : ℕ) → (LongSegment size ≡ Memory) ⊎ (text_after rows no_rows ≡ Err (LongSegment size)) → first_long rows ≡ Some size
rows_long rows size (inl never) = cc
rows_long rows size (inr e) = answered_long (first_long rows) (with_rows rows no_rows) size e
