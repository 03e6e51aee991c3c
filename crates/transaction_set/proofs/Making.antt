-- A set is made of values that can be said: its rows are segments that have its shape. And what a set says is no more than its text.
use Rattle.std.proofs.Common.{◌≡◌, ℕ, ◌+◌, ◌*◌, ◌≤◌, Bool, true, false, List, [], ◌∷◌, ◌++◌, length, map, get_or, refl, ap, arith, inl, inr, length-append}
use Rattle.std.specs.List.{All, flat_map, join_with_byte}
use Rattle.std.proofs.lemmas.List.{length-map}
use Rattle.std.proofs.lemmas.List.Elements.{All-append, All-cons, All-head, All-nil, All-tail}
use Rattle.block_check.specs.Crc16.{crc_of}
use Rattle.dsd_values.specs.declared.extra.Extra.{Extra}
use Rattle.dsd_values.specs.declared.limits.TheConstants.{MOST_LINES, SET_BYTES}
use Rattle.dsd_values.specs.declared.line.Line.{Line}
use Rattle.dsd_values.specs.SignatureRecord.{SignatureRecord}
use Rattle.segments.specs.Views.{Seg}
use Rattle.transaction_set.specs.Extras.{HasExtras}
use Rattle.segments.specs.Elements.{kept_text}
use Rattle.transaction_set.specs.Grammar.{BehindHead, Body, Closing, Extras, IsLoopId, IsSound, Items, Loop, LoopEnd, One, Record, References, Shape, Shared}
use Rattle.transaction_set.specs.Kinds.{head_id}
use Rattle.segments.specs.SegmentSpelling.{IsEnding, IsLongSegment, IsSegment, SpellsSegments}
use Rattle.segments.specs.SegmentWriting.{line_of, segment_of, segments_of, text_of}
use Rattle.transaction_set.specs.SetWriting.{Row, body_rows, control_text, extra_row, kept_row, line_rows, loop_end_row, loop_rows, sealed, sealing_rows, signature_row, start_row, totals_row}
use Rattle.transaction_set.specs.SoundLines.{AreFew, AreSoundLines, HaveFew, IsSoundLine}
use Rattle.transaction_set.specs.declared.kind.Form.{Form}
use Rattle.transaction_set.specs.declared.kind.Form.TheVariants as forms
use Rattle.transaction_set.specs.declared.kind.Kind.{Kind}
use Rattle.transaction_set.specs.declared.kind.Kind.TheVariants as kinds
use Rattle.transaction_set.specs.declared.stated.StatedTotals.{StatedTotals}
use Rattle.segments.specs.declared.segment_writer.TheConstants.{MOST_CONTROL_NUMBER}
use Rattle.transaction_set.proofs.PartedTexts.{trimmed_segment}
use Rattle.transaction_set.proofs.RowsSay.{SaysAgain}
use Rattle.transaction_set.proofs.RowsShape.{IsSealable, sealed_so}
use Rattle.transaction_set.proofs.SealedRows.{rows_check_small, sealing_segments}
use Rattle.transaction_set.proofs.SetRows.{FromStart, are_long, set_shaped}
use Rattle.transaction_set.proofs.Sounding.{HasFew, sound_all}
use Rattle.transaction_set.proofs.Tells.{IsBehindHead, behind_head_tells}

-- ---- rows as segments

row_long : (place : ℕ) (row : Row) → IsSegment row → IsLongSegment (segment_of place row)
row_long place row s = record { segment = trimmed_segment row s; spelled = (13 ∷ 10 ∷ [], inr refl, refl) }

rows_long : (place : ℕ) (rows : List Row) → All IsSegment rows → All IsLongSegment (segments_of place rows)
rows_long place [] all = All-nil IsLongSegment
rows_long place (row ∷ rows) all =
    All-cons IsLongSegment (segment_of place row) (segments_of (place + length (line_of row)) rows) (row_long place row (All-head IsSegment row rows all))
    (rows_long (place + length (line_of row)) rows (All-tail IsSegment row rows all))

-- ---- how many rows a set has

line_count : (form : Form) (line : Line) → length (line_rows form line) ≡ 1 + length line.extras
line_count form line = omega (arith, length-map line.extras extra_row)

lines_count : (form : Form) (lines : List Line) → All HasFew lines → length (flat_map (line_rows form) lines) ≤ length lines * 262_145
lines_count form [] few = omega arith
lines_count form (line ∷ lines) few =
    let here : length line.extras ≤ 262_144 = All-head HasFew line lines few in
    omega (arith, line_count form line, lines_count form lines (All-tail HasFew line lines few), length-append (line_rows form line) (flat_map (line_rows form) lines))

loop_count : (form : Form) (lines : List Line) → All HasFew lines → length (loop_rows form lines) ≤ length lines * 262_145 + 2
loop_count form [] few = omega arith
loop_count form (line ∷ lines) few =
    omega (arith, lines_count form (line ∷ lines) few, length-append (flat_map (line_rows form) (line ∷ lines)) (loop_end_row ∷ []))

-- no more texts, lines and extras than a set has
pub record AreFewParts (texts : List (List ℕ)) (lines : List Line) (extras : List Extra) : Type 0 where
  pub references : length texts ≤ SET_BYTES
  pub lines_few : length lines ≤ MOST_LINES
  pub few : HaveFew lines extras

body_count : (form : Form) (lines : List Line) (extras : List Extra) (totals : StatedTotals) (signature : SignatureRecord) → length lines ≤ MOST_LINES → All HasFew lines → AreFew extras
    → length (body_rows form lines extras totals signature) ≤ 400_000_000
body_count form lines extras totals signature few behind beside =
    let end : List Row = totals_row totals ∷ signature_row signature ∷ [] in
    omega (arith, loop_count form lines behind, length-append (loop_rows form lines) (map extra_row extras ++ end), length-append (map extra_row extras) end, length-map extras extra_row)

-- ---- the set

-- some segments are this set, sealed with some check
pub record IsMade (form : Form) (control : ℕ) (IsHead : Seg → Type 0) (texts : List (List ℕ)) (lines : List Line) (extras : List Extra) (t : Shared) : Type 0 where
  pub check : ℕ
  pub segments : List Seg
  pub long : All IsLongSegment segments
  pub shape : FromStart form (control_text control) IsHead texts lines extras (sealed_so (control_text control) check t) [] segments

module _ (form : Form) (control : ℕ) (small : control ≤ MOST_CONTROL_NUMBER) (IsHead : Seg → Type 0) (head : Row) (id : get_or head 0 [] ≡ head_id form) (says : SaysAgain IsHead head) where
  pub made : (texts : List (List ℕ)) (lines : List Line) (extras : List Extra) (t : Shared) → IsBehindHead form texts lines extras t.totals t.signature → AreFewParts texts lines extras → IsMade form control IsHead texts lines extras t
  made texts lines extras t is few =
      let opened : List Row = start_row form control ∷ head ∷ (map kept_row texts ++ body_rows form lines extras t.totals t.signature) in
      let r = set_shaped opened form control IsHead head id small says texts lines extras t is [] refl in
      let count = body_count form lines extras t.totals t.signature few.lines_few few.few.behind few.few.beside in
      let size = length-append (map kept_row texts) (body_rows form lines extras t.totals t.signature) in
      let references : length texts ≤ 262_144 = few.references in
      let sealable : IsSealable opened control = record { check = rows_check_small opened r.segments; count = omega (arith, length-map texts kept_row); small = small } in
      record {
        check = crc_of (text_of opened);
        segments = segments_of 0 (sealed opened control);
        long = rows_long 0 (sealed opened control) (All-append IsSegment opened (sealing_rows (text_of opened) (length opened) control) r.segments (sealing_segments opened control sealable));
        shape = r.shape sealable;
      }

-- ---- what a set says is no more than its segments

module _ (most : ℕ) where
  -- so many segments are used, and with those that have this shape they are no more than the most
  abbrev Bounds : Shape → (ℕ → Type 0) → Type 0
  Bounds shape P = (before segs : List Seg) (used : ℕ) → shape before segs → used + length segs ≤ most → P used

  one_bounds : (form : Form) (kind : Kind) (Says : List Seg → Seg → Type 0) (rest : Shape) (P : Type 0) → Bounds rest (λ _. P) → Bounds (One form kind Says rest) (λ _. P)
  one_bounds form kind Says rest P later before [] used s h = absurd s
  one_bounds form kind Says rest P later before (seg ∷ segs) used (k, says, s) h = later (before ++ seg ∷ []) segs (used + 1) s (omega arith)

  extras_bound : (in_line : Bool) (form : Form) (extras : List Extra) (rest : Shape) (P : Type 0) → Bounds rest (λ _. P) → Bounds (Extras in_line form extras rest) (λ used. (used + length extras ≤ most) × P)
  extras_bound in_line form [] rest P later before segs used s h = (omega arith, later before segs used s h)
  extras_bound in_line form (extra ∷ extras) rest P later before [] used s h = absurd s
  extras_bound in_line form (extra ∷ extras) rest P later before (seg ∷ segs) used (is, s) h =
      let r = extras_bound in_line form extras rest P later (before ++ seg ∷ []) segs (used + 1) s (omega arith) in
      (omega (arith, r.0), r.1)

  abbrev IsWithin : Line → Type 0
  IsWithin line = length line.extras ≤ most

  items_bound : (form : Form) (lines : List Line) (rest : Shape) (P : Type 0) → Bounds rest (λ _. P) → Bounds (Items form lines rest) (λ _. All IsWithin lines × P)
  items_bound form [] rest P later before segs used s h = (All-nil IsWithin, later before segs used s h)
  items_bound form (line ∷ lines) rest P later before [] used s h = absurd s
  items_bound form (line ∷ lines) rest P later before (seg ∷ segs) used (k, says, s) h =
      let r = extras_bound true form line.extras (Items form lines rest) (All IsWithin lines × P) (items_bound form lines rest P later) (before ++ seg ∷ []) segs (used + 1) s (omega arith) in
      let within : length line.extras ≤ most = omega (arith, r.0) in
      (All-cons IsWithin line lines within r.1.0, r.1.1)

  loop_bound : (form : Form) (lines : List Line) (rest : Shape) (P : Type 0) → Bounds rest (λ _. P) → Bounds (Loop form lines rest) (λ _. All IsWithin lines × P)
  loop_bound form [] rest P later before segs used s h = (All-nil IsWithin, later before segs used s h)
  loop_bound form (line ∷ lines) rest P later before segs used (id, s) h =
      one_bounds form kinds.LoopStart (λ _ seg. IsLoopId id seg) (Items form (line ∷ lines) (LoopEnd form id rest)) (All IsWithin (line ∷ lines) × P)
      (items_bound form (line ∷ lines) (LoopEnd form id rest) P (one_bounds form kinds.LoopEnd (λ _ seg. IsLoopId id seg) rest P later)) before segs used s h

  references_bound : (form : Form) (texts : List (List ℕ)) (rest : Shape) (P : Type 0) → Bounds rest (λ _. P) → Bounds (References form texts rest) (λ _. P)
  references_bound form [] rest P later = λ before segs used s h. later before segs used s h
  references_bound forms.Base (text ∷ texts) rest P later =
      one_bounds forms.Base kinds.Reference (λ _ seg. kept_text seg ≡ text) (References forms.Base texts rest) P (references_bound forms.Base texts rest P later)
  references_bound forms.Answer (text ∷ []) rest P later = one_bounds forms.Answer kinds.Reference (λ _ seg. kept_text seg ≡ text) rest P later
  references_bound forms.Answer (text ∷ next ∷ texts) rest P later = λ before segs used s h. absurd s

  record_bound : (form : Form) (extras : List Extra) (rest : Shape) → Bounds (Record form extras rest) (λ _. length extras ≤ most)
  record_bound forms.Base extras rest = λ before segs used s h. omega (arith, (extras_bound false forms.Base extras rest (Unit {0}) (λ before segs used s h. tt) before segs used s h).0)
  record_bound forms.Answer [] rest = λ before segs used s h. omega arith
  record_bound forms.Answer (extra ∷ extras) rest = λ before segs used s h. absurd s

  pub behind_head_bound : (form : Form) (texts : List (List ℕ)) (lines : List Line) (extras : List Extra) (t : Shared) (before segs : List Seg) → BehindHead form texts lines extras t before segs → length segs ≤ most
      → All IsWithin lines × (length extras ≤ most)
  behind_head_bound form texts lines extras t before segs s h =
      references_bound form texts (Body form lines extras t) (All IsWithin lines × (length extras ≤ most))
      (loop_bound form lines (Record form extras (Closing form t)) (length extras ≤ most) (record_bound form extras (Closing form t))) before segs 0 s (omega arith)

few_within : (lines : List Line) (extras : List Extra) → All (IsWithin SET_BYTES) lines → length extras ≤ SET_BYTES → HaveFew lines extras
few_within lines extras behind beside = record { behind = behind; beside = beside }

pub behind_head_few : (form : Form) (texts : List (List ℕ)) (lines : List Line) (extras : List Extra) (t : Shared) (before segs : List Seg) → BehindHead form texts lines extras t before segs → length segs ≤ SET_BYTES → HaveFew lines extras
behind_head_few form texts lines extras t before segs s few =
    let within = behind_head_bound SET_BYTES form texts lines extras t before segs s few in
    few_within lines extras within.0 within.1

-- each segment takes a byte at least
segment_some : (seg : Seg) (ending : List ℕ) → IsEnding ending → seg.bytes ≡ join_with_byte 42 seg.parts ++ ending → 1 ≤ length seg.bytes
segment_some seg ending (inl e) same = omega (arith, ap length same, ap length e, length-append (join_with_byte 42 seg.parts) ending)
segment_some seg ending (inr e) same = omega (arith, ap length same, ap length e, length-append (join_with_byte 42 seg.parts) ending)

pub segments_few : (place : ℕ) (segs : List Seg) (text : List ℕ) → SpellsSegments place segs text → length segs ≤ length text
segments_few place [] text h = omega arith
segments_few place (seg ∷ more) text h =
    omega (arith, segment_some seg h.0.spelled.0 h.0.spelled.1 h.0.spelled.2, segments_few (place + length seg.bytes) more h.2.0 h.2.2, ap length h.2.1, length-append seg.bytes h.2.0)

-- ---- the lines of a set are sound

pub said_sound : (form : Form) (texts : List (List ℕ)) (lines : List Line) (extras : List Extra) (t : Shared) (before segs : List Seg) → BehindHead form texts lines extras t before segs → All IsLongSegment segs → All HasExtras lines
    → HaveFew lines extras → All IsSoundLine lines
said_sound form texts lines extras t before segs s long behind few =
    let said = behind_head_tells form texts lines extras t before segs s (are_long segs long) in
    sound_all lines said.lines_said behind few.behind

-- ---- of a whole set

module _ (form : Form) (control : List ℕ) (IsHead : Seg → Type 0) (texts : List (List ℕ)) (lines : List Line) (extras : List Extra) (t : Shared) where
  pub set_few : (segs : List Seg) (text : List ℕ) → FromStart form control IsHead texts lines extras t [] segs → SpellsSegments 0 segs text → length text ≤ SET_BYTES → HaveFew lines extras
  set_few [] text s spelled short = absurd s
  set_few (start ∷ []) text s spelled short = absurd s.2
  set_few (start ∷ head ∷ segs) text s spelled short =
      let count = segments_few 0 (start ∷ head ∷ segs) text spelled in
      behind_head_few form texts lines extras t (start ∷ head ∷ []) segs s.2.2 (omega arith)

  -- the lines that it says are sound
  pub set_lines : (segs : List Seg) → FromStart form control IsHead texts lines extras t [] segs → All IsLongSegment segs → IsSound lines extras → HaveFew lines extras → AreSoundLines lines
  set_lines [] s long sound few = absurd s
  set_lines (start ∷ []) s long sound few = absurd s.2
  set_lines (start ∷ head ∷ segs) s long sound few = record {
    sound = said_sound form texts lines extras t (start ∷ head ∷ []) segs s.2.2 (All-tail IsLongSegment head segs (All-tail IsLongSegment start (head ∷ segs) long)) sound.behind few;
    apart = sound.apart;
  }
