-- What a base record is made of makes one: the rows that are written of it are segments that say it. And what a base record has of rows
-- can be made of again.
use Rattle.std.proofs.Common.{◌≡◌, ℕ, ◌+◌, ◌*◌, ◌≤◌, false, unsigned_abs, List, [], ◌∷◌, length, None, Result, Ok, Err, refl, sym, ap, arith, ◌∙◌}
use Rattle.std.specs.List.{All, fold}
use Rattle.std.proofs.lemmas.List.Elements.{All-head, All-tail, All-weaker}
use Rattle.dsd_pricing.specs.Pricing.{priced, quantities, totals_of}
use Rattle.dsd_pricing.specs.declared.amounts.Totals.{Totals}
use Rattle.dsd_pricing.specs.declared.fault.PriceFault.{PriceFault}
use Rattle.dsd_values.specs.SignatureRecord.{IsSignature, SignatureRecord}
use Rattle.dsd_values.specs.declared.extra.Extra.{Extra}
use Rattle.dsd_values.specs.declared.limits.TheConstants.{MOST_LINES}
use Rattle.dsd_values.specs.declared.line.Line.{Line}
use Rattle.dsd_values.specs.declared.quantity.TheConstants.{MOST_TOTAL_QUANTITY}
use Rattle.dsd_values.specs.declared.quantity.TheConstants.Quantity.{MAX as MOST_QUANTITY}
use Rattle.dsd_values.proofs.Again.{flag_again}
use Rattle.dsd_values.proofs.Laws.{number_law}
use Rattle.segments.specs.Views.{Seg, element_of}
use Rattle.transaction_set.specs.Extras.{HasExtras}
use Rattle.transaction_set.specs.Grammar.{IsSound, Shared}
use Rattle.transaction_set.specs.SetWriting.{control_text}
use Rattle.segments.specs.SegmentSpelling.{IsLongSegment}
use Rattle.transaction_set.specs.SoundLines.{AreSoundExtras, AreSoundLines, IsSoundExtra, IsSoundLine}
use Rattle.transaction_set.specs.declared.kind.Form.TheVariants as forms
use Rattle.transaction_set.specs.declared.seal.Seal.{Seal}
use Rattle.transaction_set.proofs.Making.{made, set_lines}
use Rattle.transaction_set.proofs.PartedTexts.{no_tail}
use Rattle.transaction_set.proofs.Plain.{day_plain, delivery_number_plain, signature_plain, totals_plain}
use Rattle.transaction_set.proofs.RowsSay.{SaysAgain}
use Rattle.transaction_set.proofs.SetRows.{are_long}
use Rattle.transaction_set.proofs.Sounding.{HasFew, line_behind, said_all, word_plain}
use Rattle.transaction_set.proofs.Tells.{behind_head_tells}
use Rattle.base_record_894.specs.BaseRecord.{BaseRecord}
use Rattle.base_record_894.specs.Grammar.{AreSegments, IsHead, shared_of}
use Rattle.base_record_894.specs.Making.{IsPlainHead, head_alone, record_made, unless_unpriced}
use Rattle.base_record_894.specs.RecordText.{IsBase}
use Rattle.base_record_894.specs.WrittenText.{head_row}
use Rattle.base_record_894.specs.declared.head.BaseHead.{BaseHead}
use Rattle.base_record_894.specs.declared.head.Head.{Head}
use Rattle.base_record_894.proofs.Amounts.{have_totals}
use Rattle.base_record_894.proofs.WrittenBack.{HeadElements, head_written}

-- ---- what the rows come to

line_within : (line : Line) → IsSoundLine line → line.quantity ≤ MOST_QUANTITY
line_within line is = ((number_law 0 MOST_QUANTITY (element_of is.item 2) line.quantity).0 is.says.quantity).at_most

sum_within : (start : ℕ) (lines : List Line) → All IsSoundLine lines → fold (λ sum line. sum + line.quantity) start lines ≤ start + length lines * MOST_QUANTITY
sum_within start [] all = omega arith
sum_within start (line ∷ lines) all =
    let here : line.quantity ≤ MOST_QUANTITY = line_within line (All-head IsSoundLine line lines all) in
    omega (arith, sum_within (start + line.quantity) lines (All-tail IsSoundLine line lines all))

quantities_within : (lines : List Line) → All IsSoundLine lines → length lines ≤ MOST_LINES → quantities lines ≤ MOST_TOTAL_QUANTITY
quantities_within lines all few = omega (arith, few, sum_within 0 lines all)

-- ---- the record

head_plain : (head : BaseHead) (lines : List Line) (extras : List Extra) (signature : SignatureRecord) → IsPlainHead head → HeadElements (record_made head lines extras signature)
head_plain head lines extras signature is = record {
  flag = flag_again head.flag;
  number = delivery_number_plain head.number is.number;
  receiver_duns = word_plain head.receiver_duns is.receiver_duns;
  receiver_place = word_plain head.receiver_place is.receiver_place;
  supplier_duns = word_plain head.supplier_duns is.supplier_duns;
  supplier_place = word_plain head.supplier_place is.supplier_place;
  day = day_plain head.day is.day;
  tail = no_tail 8 (omega arith);
}

pub made_base : (head : BaseHead) (lines : List Line) (extras : List Extra) (signature : SignatureRecord) (totals : Totals) → IsPlainHead head → AreSoundLines lines → length lines ≤ MOST_LINES → AreSoundExtras false extras → IsSignature signature
    → totals_of lines extras ≡ Ok totals → IsBase (record_made head lines extras signature)
made_base head lines extras signature totals is sound few beside signed e =
    let base : BaseRecord = record_made head lines extras signature in
    let have = have_totals lines extras totals e in
    let amount : ℕ = unsigned_abs (priced lines extras) in
    let none : Seal = record { control = []; check = 0 } in
    let shared : Shared = shared_of base none amount in
    let each = All-weaker IsSoundLine HasFew (λ line s. s.extras.few) lines sound.sound in
    let m = made forms.Base 1 (omega arith) (IsHead base) (head_row base) refl (head_written base (head_plain head lines extras signature is)) [] lines extras shared
    (record {
      references = tt;
      lines_said = said_all lines sound.sound;
      beside = beside.each;
      totals_said = totals_plain (quantities lines) amount (quantities_within lines sound.sound few) have.most;
      signature_said = signature_plain signature signed;
    })
    (record { references = omega arith; lines_few = few; few = record { behind = each; beside = beside.few } }) in
    record {
      seal = record { control = control_text 1; check = m.check };
      segments = m.segments;
      spelled = m.long;
      amount = amount;
      price = e ∙ ap (λ (t : Totals). Ok t) have.stated;
      shape = m.shape;
      sound = record { apart = sound.apart; limit = few; behind = All-weaker IsSoundLine HasExtras line_behind lines sound.sound; beside = beside.limit };
      few = record { behind = each; beside = beside.few };
    }

-- ---- as it is put together

abbrev pub put_together : Head → List (List ℕ) → List Line → List Extra → SignatureRecord → BaseRecord
put_together head references lines extras signature = record {
  flag = head.flag;
  number = head.number;
  day = head.day;
  receiver_duns = head.receiver_duns;
  receiver_place = head.receiver_place;
  supplier_duns = head.supplier_duns;
  supplier_place = head.supplier_place;
  tail = head.tail;
  references = references;
  lines = lines;
  extras = extras;
  deposit = None;
  signature = signature;
}

pub together : (head : BaseHead) (parts : Head) (references : List (List ℕ)) (lines : List Line) (extras : List Extra) (signature : SignatureRecord) → parts ≡ head_alone head → references ≡ []
    → put_together parts references lines extras signature ≡ record_made head lines extras signature
together head parts references lines extras signature same none =
    ap (λ (h : Head). put_together h references lines extras signature) same
    ∙ ap (λ (texts : List (List ℕ)). put_together (head_alone head) texts lines extras signature) none

-- and what is answered of it, where its rows were asked for a price
pub rows_asked : (lines now : List Line) (extras beside : List Extra) (answer given : Result Totals PriceFault) → now ≡ lines → beside ≡ extras → answer ≡ totals_of now beside → answer ≡ given → totals_of lines extras ≡ given
rows_asked lines now extras beside answer given l x e is =
    ap (λ (u : List Line). totals_of u extras) (sym l) ∙ ap (λ (u : List Extra). totals_of now u) (sym x) ∙ sym e ∙ is

pub refused : (rows : Result Totals PriceFault) (fault : PriceFault) (base : BaseRecord) → rows ≡ Err fault → Err fault ≡ unless_unpriced rows base
refused rows fault base e = ap (λ (r : Result Totals PriceFault). unless_unpriced r base) (sym e)

pub answered : (rows : Result Totals PriceFault) (totals : Totals) (parts base : BaseRecord) → rows ≡ Ok totals → parts ≡ base → Ok parts ≡ unless_unpriced rows base
answered rows totals parts base e same = ap (λ (b : BaseRecord). Ok b) same ∙ ap (λ (r : Result Totals PriceFault). unless_unpriced r base) (sym e)

-- ---- and back

-- the lines of a record are sound
pub base_lines : (base : BaseRecord) → IsBase base → AreSoundLines base.lines
base_lines base is =
    set_lines forms.Base is.seal.control (IsHead base) base.references base.lines base.extras (shared_of base is.seal is.amount) is.segments is.shape is.spelled is.sound is.few

-- and its extras
pub base_extras : (base : BaseRecord) → IsBase base → AreSoundExtras false base.extras
base_extras base is = record { each = of_segments is.segments is.shape is.spelled; limit = is.sound.beside; few = is.few.beside }
  where
    of_segments : (segs : List Seg) → AreSegments base is.seal is.amount segs → All IsLongSegment segs → All (IsSoundExtra false) base.extras
    of_segments [] s long = absurd s
    of_segments (start ∷ []) s long = absurd s.2
    of_segments (start ∷ head ∷ segs) s long =
        (behind_head_tells forms.Base base.references base.lines base.extras (shared_of base is.seal is.amount) (start ∷ head ∷ []) segs s.2.2
        (are_long segs (All-tail IsLongSegment head segs (All-tail IsLongSegment start (head ∷ segs) long)))).beside
