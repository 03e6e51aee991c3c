-- What is written of a set has the shape of the set, segment after segment, where each of its values can be said.
use Rattle.std.proofs.Common.{◌≡◌, ℕ, ◌+◌, ◌^◌, ◌<◌, ◌≤◌, Bool, true, false, List, [], ◌∷◌, ◌++◌, length, map, codes, Ok, refl, sym, ◌∙◌, ap, subst, arith, append_assoc, append-nil, length-append}
use Rattle.std.specs.List.{All, flat_map}
use Rattle.std.proofs.lemmas.List.Elements.{All-cons, All-head, All-nil, All-tail}
use Rattle.block_check.specs.Crc16.{crc_of}
use Rattle.dsd_values.specs.Reading.{check_of, filled_word_of, plain_number_of}
use Rattle.dsd_values.specs.Writing.{number_text}
use Rattle.dsd_values.specs.declared.extra.Extra.{Extra}
use Rattle.dsd_values.specs.declared.extra.Extra.TheVariants.{Allow, Note}
use Rattle.dsd_values.specs.declared.line.Line.{Line}
use Rattle.dsd_values.specs.SignatureRecord.{SignatureRecord}
use Rattle.dsd_values.proofs.Again.{check_again, plain_read_back}
use Rattle.segments.specs.Views.{Seg}
use Rattle.transaction_set.specs.Extras.{IsExtra, is_note}
use Rattle.segments.specs.Elements.{kept_text}
use Rattle.transaction_set.specs.Grammar.{BehindHead, Body, Closing, Extras, Integrity, IsItem, IsLoopId, IsSignature, IsTotals, Items, Loop, LoopEnd, One, OneExtra, OneReference, Record, References, Shape, Shared, Signed, bytes_of}
use Rattle.transaction_set.specs.Kinds.{kind_of}
use Rattle.segments.specs.SegmentSpelling.{IsSegment}
use Rattle.segments.specs.SegmentWriting.{line_of, segment_of, segments_of, text_of, without_empty_end}
use Rattle.transaction_set.specs.SetWriting.{Row, body_rows, control_text, extra_row, integrity_row, item_row, kept_row, line_rows, loop_end_row, loop_id, loop_rows, loop_start_row, sealing_rows, signature_row, totals_row, trailer_row}
use Rattle.transaction_set.specs.SoundLines.{IsSoundExtra}
use Rattle.transaction_set.specs.declared.kind.Form.{Form}
use Rattle.transaction_set.specs.declared.kind.Form.TheVariants as forms
use Rattle.transaction_set.specs.declared.kind.Kind.{Kind}
use Rattle.transaction_set.specs.declared.kind.Kind.TheVariants as kinds
use Rattle.transaction_set.specs.declared.stated.StatedTotals.{StatedTotals}
use Rattle.segments.specs.declared.segment_writer.TheConstants.{MOST_CONTROL_NUMBER}
use Rattle.transaction_set.proofs.ControlNumbers.{control_filled}
use Rattle.segments.proofs.EmptyEnds.{trim_element}
use Rattle.transaction_set.proofs.PartedTexts.{kept_again, kept_is, trimmed_segment}
use Rattle.transaction_set.proofs.RowKinds.{allowance_kind, integrity_kind, item_kind, kind_row, kind_same, loop_end_kind, loop_start_kind, signature_kind, totals_kind, trailer_kind}
use Rattle.transaction_set.proofs.Rows.{text_of-append}
use Rattle.transaction_set.proofs.RowsSay.{allowance_again, item_again, loop_id_again, no_longer, signature_again, totals_again}
use Rattle.transaction_set.proofs.Tells.{AreBeside, AreReferences, HasSignature, HasTotals, IsBehindHead, IsLong, IsReference, IsSaid}

-- ---- the segments of rows

segments_push : (place : ℕ) (rows : List Row) (row : Row) → segments_of place (rows ++ row ∷ []) ≡ segments_of place rows ++ segment_of (place + length (text_of rows)) row ∷ []
segments_push place [] row = let same : place ≡ place + 0 = omega arith in ap (λ (n : ℕ). segment_of n row ∷ []) same
segments_push place (first ∷ rows) row =
    let size : place + length (line_of first) + length (text_of rows) ≡ place + length (line_of first ++ text_of rows) = omega (arith, length-append (line_of first) (text_of rows)) in
    ap (λ (segs : List Seg). segment_of place first ∷ segs)
    (segments_push (place + length (line_of first)) rows row
    ∙ ap (λ (n : ℕ). segments_of (place + length (line_of first)) rows ++ segment_of n row ∷ []) size)

pub segments_bytes : (place : ℕ) (rows : List Row) → bytes_of (segments_of place rows) ≡ text_of rows
segments_bytes place [] = refl
segments_bytes place (row ∷ rows) = ap (λ (text : List ℕ). line_of row ++ text) (segments_bytes (place + length (line_of row)) rows)

pub segments_count : (place : ℕ) (rows : List Row) → length (segments_of place rows) ≡ length rows
segments_count place [] = refl
segments_count place (row ∷ rows) = omega (arith, segments_count (place + length (line_of row)) rows)

push_length : (rows : List Row) (row : Row) → length (text_of (rows ++ row ∷ [])) ≡ length (text_of rows) + length (line_of row)
push_length rows row =
    ap length (text_of-append rows (row ∷ []) ∙ ap (λ (text : List ℕ). text_of rows ++ text) (append-nil (line_of row))) ∙ length-append (text_of rows) (line_of row)

-- a row of this kind, whose segment says so wherever it stands
pub record RowSays (form : Form) (kind : Kind) (Says : List Seg → Seg → Type 0) (row : Row) : Type 0 where
  pub kind_is : (place : ℕ) → kind_of form (segment_of place row) ≡ kind
  pub says : (before : List Seg) (place : ℕ) → Says before (segment_of place row)
  pub segment : IsSegment row

-- what is sealed: a check that four digits write, and so many rows that fifteen digits write their number
pub record IsSealable (opened : List Row) (control : ℕ) : Type 0 where
  pub check : crc_of (text_of opened) < 2 ^ 16
  pub count : length opened + 2 < 10 ^ 15
  pub small : control ≤ MOST_CONTROL_NUMBER

-- the same, sealed with this control number and this check
abbrev pub sealed_so : List ℕ → ℕ → Shared → Shared
sealed_so control check t = record {
  control = control;
  references = t.references;
  lines = t.lines;
  extras = t.extras;
  totals = t.totals;
  signature = t.signature;
  check = check;
}

module _ (opened : List Row) (control : ℕ) where
  abbrev sealing : List Row
  sealing = sealing_rows (text_of opened) (length opened) control

  -- with these rows behind the ones that are done
  pub record Reshaped (target : Shape) (done left : List Row) : Type 0 where
    pub shape : IsSealable opened control → target (segments_of 0 done) (segments_of (length (text_of done)) (left ++ sealing_rows (text_of opened) (length opened) control))
    pub segments : All IsSegment left

  -- behind whatever rows are done, the ones that are left have the shape
  abbrev pub Shaped : Shape → List Row → Type 0
  Shaped target left = (done : List Row) → opened ≡ done ++ left → Reshaped target done left

  -- one row more is done
  one_done : (target : Shape) (row : Row) (left done : List Row) → IsSealable opened control → Reshaped target (done ++ row ∷ []) left
      → target (segments_of 0 done ++ segment_of (length (text_of done)) row ∷ []) (segments_of (length (text_of done) + length (line_of row)) (left ++ sealing))
  one_done target row left done s r =
      let at : 0 + length (text_of done) ≡ length (text_of done) = omega arith in
      let before : segments_of 0 (done ++ row ∷ []) ≡ segments_of 0 done ++ segment_of (length (text_of done)) row ∷ [] = segments_push 0 done row ∙ ap (λ (n : ℕ). segments_of 0 done ++ segment_of n row ∷ []) at in
      subst (λ (segs : List Seg). target segs (segments_of (length (text_of done) + length (line_of row)) (left ++ sealing))) before
      (subst (λ (n : ℕ). target (segments_of 0 (done ++ row ∷ [])) (segments_of n (left ++ sealing))) (push_length done row) (r.shape s))

  still : (done left : List Row) (row : Row) → opened ≡ done ++ row ∷ left → opened ≡ (done ++ row ∷ []) ++ left
  still done left row e = e ∙ sym (append_assoc done (row ∷ []) left)

  pub row_shaped : (form : Form) (kind : Kind) (Says : List Seg → Seg → Type 0) (target : Shape) (row : Row) (left : List Row) → RowSays form kind Says row → Shaped target left → Shaped (One form kind Says target) (row ∷ left)
  row_shaped form kind Says target row left r rest done e =
      let next = rest (done ++ row ∷ []) (still done left row e) in
      record {
        shape = λ sealable. (r.kind_is (length (text_of done)), r.says (segments_of 0 done) (length (text_of done)), one_done target row left done sealable next);
        segments = All-cons IsSegment row left r.segment next.segments;
      }

  -- ---- kept segments and extras

  kept_kind : (form : Form) (seg : Seg) (text : List ℕ) → IsLong seg → kept_text seg ≡ text → (place : ℕ) → kind_of form (segment_of place (kept_row text)) ≡ kind_of form seg
  kept_kind form seg text s e place =
      let row : kept_row text ≡ without_empty_end seg.parts = ap kept_row (sym e) ∙ kept_is seg s in
      ap (λ (l : Row). kind_of form (segment_of place l)) row
      ∙ kind_same form (segment_of place (without_empty_end seg.parts)) seg
      (trim_element (without_empty_end seg.parts) 0 ∙ trim_element seg.parts 0)
      (trim_element (without_empty_end seg.parts) 1 ∙ trim_element seg.parts 1)

  kept_says : (seg : Seg) (text : List ℕ) → IsLong seg → kept_text seg ≡ text → (place : ℕ) → kept_text (segment_of place (kept_row text)) ≡ text
  kept_says seg text s e place = ap (λ (t : List ℕ). kept_text (segment_of place (kept_row t))) (sym e) ∙ kept_again place seg s ∙ e

  kept_segment : (seg : Seg) (text : List ℕ) → IsLong seg → kept_text seg ≡ text → IsSegment (kept_row text)
  kept_segment seg text s e = subst (λ (t : List ℕ). IsSegment (kept_row t)) e (subst IsSegment (sym (kept_is seg s)) (trimmed_segment seg.parts s))

  reference_says : (form : Form) (text : List ℕ) → IsReference form text → RowSays form kinds.Reference (λ _ seg. kept_text seg ≡ text) (kept_row text)
  reference_says form text is = record {
    kind_is = λ place. kept_kind form is.saying text is.segment is.kept place ∙ is.kind;
    says = λ before place. kept_says is.saying text is.segment is.kept place;
    segment = kept_segment is.saying text is.segment is.kept;
  }

  record ExtraSays (in_line : Bool) (form : Form) (extra : Extra) : Type 0 where
    says : (place : ℕ) → IsExtra in_line extra (kind_of form (segment_of place (extra_row extra))) (segment_of place (extra_row extra))
    segment : IsSegment (extra_row extra)

  extra_again : (in_line : Bool) (form : Form) (extra : Extra) (seg : Seg) → IsLong seg → IsExtra in_line extra (kind_of form seg) seg → ExtraSays in_line form extra
  extra_again in_line form (Allow allowance) seg s (k, is) =
      let again = allowance_again in_line allowance seg s is in
      record {
        says = λ place. (kind_row form place (extra_row (Allow allowance)) ∙ allowance_kind form allowance.code, again.says place);
        segment = again.segment;
      }
  extra_again in_line form (Note text) seg s (k, e) = record {
    says = λ place. (ap (is_note in_line) (kept_kind form seg text s e place) ∙ k, kept_says seg text s e place);
    segment = kept_segment seg text s e;
  }

  extra_shaped : (in_line : Bool) (form : Form) (extra : Extra) (target : Shape) (left : List Row) → IsSoundExtra in_line extra → Shaped target left → Shaped (OneExtra in_line form extra target) (extra_row extra ∷ left)
  extra_shaped in_line form extra target left is rest done e =
      let r = extra_again in_line form extra is.saying is.segment (is.says form) in
      let next = rest (done ++ extra_row extra ∷ []) (still done left (extra_row extra) e) in
      record {
        shape = λ sealable. (r.says (length (text_of done)), one_done target (extra_row extra) left done sealable next);
        segments = All-cons IsSegment (extra_row extra) left r.segment next.segments;
      }

  extras_shaped : (in_line : Bool) (form : Form) (extras : List Extra) (target : Shape) (left : List Row) → All (IsSoundExtra in_line) extras → Shaped target left → Shaped (Extras in_line form extras target) (map extra_row extras ++ left)
  extras_shaped in_line form [] target left are rest = rest
  extras_shaped in_line form (extra ∷ extras) target left are rest =
      extra_shaped in_line form extra (Extras in_line form extras target) (map extra_row extras ++ left) (All-head (IsSoundExtra in_line) extra extras are)
      (extras_shaped in_line form extras target left (All-tail (IsSoundExtra in_line) extra extras are) rest)

  -- ---- items

  item_says : (form : Form) (line : Line) → IsSaid line → RowSays form kinds.Item (λ _ seg. IsItem line seg) (item_row form line)
  item_says form line is =
      let again = item_again form line is.item is.segment is.says in
      record {
        kind_is = λ place. kind_row form place (item_row form line) ∙ item_kind form (number_text line.dsd);
        says = λ before place. again.says place;
        segment = again.segment;
      }

  items_shaped : (form : Form) (lines : List Line) (target : Shape) (left : List Row) → All IsSaid lines → Shaped target left → Shaped (Items form lines target) (flat_map (line_rows form) lines ++ left)
  items_shaped form [] target left are rest = rest
  items_shaped form (line ∷ lines) target left are rest =
      let later : List Row = flat_map (line_rows form) lines in
      let is = All-head IsSaid line lines are in
      subst (λ (rows : List Row). Shaped (Items form (line ∷ lines) target) (item_row form line ∷ rows)) (sym (append_assoc (map extra_row line.extras) later left))
      (row_shaped form kinds.Item (λ _ seg. IsItem line seg) (Extras true form line.extras (Items form lines target)) (item_row form line) (map extra_row line.extras ++ (later ++ left)) (item_says form line is)
      (extras_shaped true form line.extras (Items form lines target) (later ++ left) is.each (items_shaped form lines target left (All-tail IsSaid line lines are) rest)))

  loop_start_says : (form : Form) → RowSays form kinds.LoopStart (λ _ seg. IsLoopId loop_id seg) loop_start_row
  loop_start_says form =
      let again = loop_id_again (codes "LS") refl in
      record { kind_is = λ place. kind_row form place loop_start_row ∙ loop_start_kind form loop_id; says = λ before place. again.says place; segment = again.segment }

  loop_end_says : (form : Form) → RowSays form kinds.LoopEnd (λ _ seg. IsLoopId loop_id seg) loop_end_row
  loop_end_says form =
      let again = loop_id_again (codes "LE") refl in
      record { kind_is = λ place. kind_row form place loop_end_row ∙ loop_end_kind form loop_id; says = λ before place. again.says place; segment = again.segment }

  -- a loop with the id that is written
  abbrev Looped : Form → List Line → Shape → Shape
  Looped form lines target = One form kinds.LoopStart (λ _ seg. IsLoopId loop_id seg) (Items form lines (LoopEnd form loop_id target))

  looped : (form : Form) (lines : List Line) (target : Shape) (left : List Row) → All IsSaid lines → Shaped target left → Shaped (Looped form lines target) (loop_start_row ∷ (flat_map (line_rows form) lines ++ loop_end_row ∷ left))
  looped form lines target left are rest =
      row_shaped form kinds.LoopStart (λ _ seg. IsLoopId loop_id seg) (Items form lines (LoopEnd form loop_id target)) loop_start_row (flat_map (line_rows form) lines ++ loop_end_row ∷ left) (loop_start_says form)
      (items_shaped form lines (LoopEnd form loop_id target) (loop_end_row ∷ left) are
      (row_shaped form kinds.LoopEnd (λ _ seg. IsLoopId loop_id seg) target loop_end_row left (loop_end_says form) rest))

  loop_shaped : (form : Form) (lines : List Line) (target : Shape) (left : List Row) → All IsSaid lines → Shaped target left → Shaped (Loop form lines target) (loop_rows form lines ++ left)
  loop_shaped form [] target left are rest = rest
  loop_shaped form (line ∷ lines) target left are rest = λ done e.
      let items : List Row = flat_map (line_rows form) (line ∷ lines) in
      let r = subst (λ (rows : List Row). Shaped (Looped form (line ∷ lines) target) (loop_start_row ∷ rows)) (sym (append_assoc items (loop_end_row ∷ []) left)) (looped form (line ∷ lines) target left are rest) done e in
      record { shape = λ sealable. (loop_id, r.shape sealable); segments = r.segments }

  record_shaped : (form : Form) (extras : List Extra) (target : Shape) (left : List Row) → AreBeside form extras → Shaped target left → Shaped (Record form extras target) (map extra_row extras ++ left)
  record_shaped forms.Base extras target left are rest = extras_shaped false forms.Base extras target left are rest
  record_shaped forms.Answer [] target left are rest = rest
  record_shaped forms.Answer (extra ∷ extras) target left are rest = absurd are

  -- ---- the closing

  -- the same, sealed by these rows
  abbrev pub resealed : Shared → Shared
  resealed t = sealed_so (control_text control) (crc_of (text_of opened)) t

  sealed_shape : (form : Form) (t : Shared) (done : List Row) → IsSealable opened control → opened ≡ done → Integrity form (resealed t) (segments_of 0 done) (segments_of (length (text_of done)) sealing)
  sealed_shape form t done s e =
      let integrity : Row = integrity_row (text_of opened) in
      let trailer : Row = trailer_row (length opened + 2) control in
      let check = check_again (crc_of (text_of opened)) s.check in
      let count : length (segments_of 0 done ++ segment_of (length (text_of done)) integrity ∷ []) + 1 ≡ length opened + 2 =
      omega (arith, length-append (segments_of 0 done) (segment_of (length (text_of done)) integrity ∷ []), segments_count 0 done, ap length e) in
      let number = plain_read_back (length opened + 2) s.count in (
        kind_row form (length (text_of done)) integrity ∙ integrity_kind form _,
        (ap check_of (trim_element integrity 1) ∙ check.read, ap (λ (rows : List Row). crc_of (text_of rows)) e ∙ ap crc_of (sym (segments_bytes 0 done)), no_longer (length (text_of done)) 1 integrity refl),
        (
          kind_row form (length (text_of done) + length (line_of integrity)) trailer ∙ trailer_kind form _,
          (ap plain_number_of (trim_element trailer 1) ∙ number ∙ ap Ok (sym count), ap filled_word_of (trim_element trailer 2) ∙ control_filled control s.small, no_longer (length (text_of done) + length (line_of integrity)) 2 trailer refl),
          refl,
        ),
      )

  integrity_shaped : (form : Form) (t : Shared) → Shaped (Integrity form (resealed t)) []
  integrity_shaped form t done e = record {
    shape = λ sealable. sealed_shape form t done sealable (e ∙ append-nil done);
    segments = All-nil IsSegment;
  }

  totals_say : (form : Form) (totals : StatedTotals) → HasTotals totals → RowSays form kinds.Totals (λ _ seg. IsTotals totals seg) (totals_row totals)
  totals_say form totals has =
      let again = totals_again totals has.saying has.says in
      record { kind_is = λ place. kind_row form place (totals_row totals) ∙ totals_kind form _; says = λ before place. again.says place; segment = again.segment }

  signature_says : (form : Form) (signature : SignatureRecord) → HasSignature signature → RowSays form kinds.Signature (λ _ seg. IsSignature signature seg) (signature_row signature)
  signature_says form signature has =
      let again = signature_again signature has.saying has.says in
      record { kind_is = λ place. kind_row form place (signature_row signature) ∙ signature_kind form _; says = λ before place. again.says place; segment = again.segment }

  closing_shaped : (form : Form) (t : Shared) → HasTotals t.totals → HasSignature t.signature → Shaped (Closing form (resealed t)) (totals_row t.totals ∷ signature_row t.signature ∷ [])
  closing_shaped form t totals signature =
      row_shaped form kinds.Totals (λ _ seg. IsTotals t.totals seg) (Signed form (resealed t)) (totals_row t.totals) (signature_row t.signature ∷ []) (totals_say form t.totals totals)
      (row_shaped form kinds.Signature (λ _ seg. IsSignature t.signature seg) (Integrity form (resealed t)) (signature_row t.signature) [] (signature_says form t.signature signature) (integrity_shaped form t))

  reference_shaped : (form : Form) (text : List ℕ) (target : Shape) (left : List Row) → IsReference form text → Shaped target left → Shaped (OneReference form text target) (kept_row text ∷ left)
  reference_shaped form text target left is rest = row_shaped form kinds.Reference (λ _ seg. kept_text seg ≡ text) target (kept_row text) left (reference_says form text is) rest

  references_shaped : (form : Form) (texts : List (List ℕ)) (target : Shape) (left : List Row) → AreReferences form texts → Shaped target left → Shaped (References form texts target) (map kept_row texts ++ left)
  references_shaped form [] target left are rest = rest
  references_shaped forms.Base (text ∷ texts) target left are rest =
      reference_shaped forms.Base text (References forms.Base texts target) (map kept_row texts ++ left) are.0 (references_shaped forms.Base texts target left are.1 rest)
  references_shaped forms.Answer (text ∷ []) target left are rest = reference_shaped forms.Answer text target left are rest
  references_shaped forms.Answer (text ∷ next ∷ texts) target left are rest = absurd are

  -- what stands behind the head
  pub behind_head_shaped : (form : Form) (texts : List (List ℕ)) (lines : List Line) (extras : List Extra) (t : Shared) → IsBehindHead form texts lines extras t.totals t.signature
      → Shaped (BehindHead form texts lines extras (resealed t)) (map kept_row texts ++ body_rows form lines extras t.totals t.signature)
  behind_head_shaped form texts lines extras t is =
      let end : List Row = totals_row t.totals ∷ signature_row t.signature ∷ [] in
      references_shaped form texts (Body form lines extras (resealed t)) (body_rows form lines extras t.totals t.signature) is.references
      (loop_shaped form lines (Record form extras (Closing form (resealed t))) (map extra_row extras ++ end) is.lines_said
      (record_shaped form extras (Closing form (resealed t)) end is.beside (closing_shaped form t is.totals_said is.signature_said)))
