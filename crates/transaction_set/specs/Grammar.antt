-- Which lists of segments are sets: the grammar that both sets share (this project's profile), driven by the value. An
-- element spells a field where its reader answers that field; dsd_values says of each reader which texts those are.
use Rattle.std.specs.Prelude.{◌≡◌, ℕ, ◌+◌, ◌≤◌, Bool, true, false, List, [], ◌∷◌, ◌++◌, length, drop, All, Ok}
use Rattle.std.specs.List.{flat_map}
use Rattle.block_check.specs.Crc16.{crc_of}
use Rattle.dsd_values.specs.Reading.{plain_number_of, dsd_of, quantity_of, total_quantity_of, cents_of, cost_of, check_of, word_of, filled_word_of, word_between}
use Rattle.dsd_values.specs.declared.extra.Extra.{Extra}
use Rattle.dsd_values.specs.declared.line.Line.{Line}
use Rattle.dsd_values.specs.SignatureRecord.{SignatureRecord}
use Rattle.dsd_values.specs.declared.limits.TheConstants.{MARK_BYTES, MOST_LINES}
use Rattle.segments.specs.Views.{Seg, element_of}
use Rattle.segments.specs.Elements.{optional, tail_from}
use Rattle.transaction_set.specs.Extras.{AreExtras, HasExtras, IsExtra}
use Rattle.segments.specs.Elements.{kept_text}
use Rattle.transaction_set.specs.Kinds.{kind_of}
use Rattle.transaction_set.specs.Reasons.{has_line}
use Rattle.transaction_set.specs.declared.stated.StatedTotals.{StatedTotals}
use Rattle.transaction_set.specs.declared.kind.Form.{Form}
use Rattle.transaction_set.specs.declared.kind.Form.TheVariants as forms
use Rattle.transaction_set.specs.declared.kind.Kind.{Kind}
use Rattle.transaction_set.specs.declared.kind.Kind.TheVariants as kinds

-- What the segments from here on are, the ones before them at hand.
abbrev pub Shape : Type 1
Shape = List Seg → List Seg → Type 0

-- one of this kind that says so, and then the rest
abbrev pub One : Form → Kind → (List Seg → Seg → Type 0) → Shape → Shape
One form kind Says rest before [] = ⊥
One form kind Says rest before (seg ∷ segs) = (kind_of form seg ≡ kind) × Says before seg × rest (before ++ seg ∷ []) segs

-- one that says this extra, in a line or at record level, and then the rest
abbrev pub OneExtra : Bool → Form → Extra → Shape → Shape
OneExtra in_line form extra rest before [] = ⊥
OneExtra in_line form extra rest before (seg ∷ segs) = IsExtra in_line extra (kind_of form seg) seg × rest (before ++ seg ∷ []) segs

-- nothing more
abbrev pub End : Shape
End before segs = segs ≡ []

-- ---- what a segment says

abbrev pub AreEmpty : List (List ℕ) → Type 0
AreEmpty [] = Unit {0}
AreEmpty (text ∷ more) = (text ≡ []) × AreEmpty more

-- the elements behind the last listed one are empty
abbrev pub IsNoLonger : ℕ → Seg → Type 0
IsNoLonger last seg = AreEmpty (drop (last + 1) seg.parts)

-- ST: the control number
abbrev pub IsStart : List ℕ → Seg → Type 0
IsStart control seg = (word_between 4 9 (element_of seg 2) ≡ Ok control) × IsNoLonger 2 seg

-- LS and LE: the id of the loop
abbrev pub IsLoopId : List ℕ → Seg → Type 0
IsLoopId loop_id seg = (word_between 1 6 (element_of seg 1) ≡ Ok loop_id) × IsNoLonger 1 seg

-- G83 and G89: a line
pub record IsItem (line : Line) (seg : Seg) : Type 0 where
  pub dsd : dsd_of (element_of seg 1) ≡ Ok line.dsd
  pub quantity : quantity_of (element_of seg 2) ≡ Ok line.quantity
  pub unit : filled_word_of (element_of seg 3) ≡ Ok line.unit
  pub upc : word_of (element_of seg 4) ≡ Ok line.upc
  pub qualifier : word_of (element_of seg 5) ≡ Ok line.details.qualifier
  pub id : word_of (element_of seg 6) ≡ Ok line.details.id
  pub case_code : word_of (element_of seg 7) ≡ Ok line.details.case_code
  pub cost : cost_of (element_of seg 8) ≡ Ok line.cost
  pub pack : word_of (element_of seg 9) ≡ Ok line.details.pack
  pub label : word_of (element_of seg 10) ≡ Ok line.details.label
  pub tail : tail_from 11 seg ≡ line.tail

-- G84: the totals as they are stated
pub record IsTotals (totals : StatedTotals) (seg : Seg) : Type 0 where
  pub quantity : total_quantity_of (element_of seg 1) ≡ Ok totals.quantity
  pub amount : cents_of (element_of seg 2) ≡ Ok totals.amount
  pub deposit : optional cents_of (element_of seg 3) ≡ Ok totals.deposit
  pub ends : IsNoLonger 3 seg

-- G86
pub record IsSignature (signature : SignatureRecord) (seg : Seg) : Type 0 where
  pub mark : word_between 1 MARK_BYTES (element_of seg 1) ≡ Ok signature.mark
  pub name : word_of (element_of seg 2) ≡ Ok signature.name
  pub ends : IsNoLonger 2 seg

-- ---- what both sets have besides their head

pub record Shared : Type 0 where
  pub control : List ℕ
  pub references : List (List ℕ)
  pub lines : List Line
  pub extras : List Extra
  pub totals : StatedTotals
  pub signature : SignatureRecord
  pub check : ℕ

-- the segments, joined
abbrev pub bytes_of : List Seg → List ℕ
bytes_of segs = flat_map (λ (seg : Seg). seg.bytes) segs

-- SE: the number of segments with ST and SE, and the control number again
abbrev pub IsTrailer : Shared → List Seg → Seg → Type 0
IsTrailer t before seg = (plain_number_of (element_of seg 1) ≡ Ok (length before + 1)) × (filled_word_of (element_of seg 2) ≡ Ok t.control) × IsNoLonger 2 seg

-- G85: the CRC-16 of the bytes of the segments before it
abbrev pub IsIntegrity : Shared → List Seg → Seg → Type 0
IsIntegrity t before seg = (check_of (element_of seg 1) ≡ Ok t.check) × (t.check ≡ crc_of (bytes_of before)) × IsNoLonger 1 seg

-- SE, and nothing behind it
abbrev pub Trailer : Form → Shared → Shape
Trailer form t = One form kinds.Trailer (IsTrailer t) End

-- G85, then SE
abbrev pub Integrity : Form → Shared → Shape
Integrity form t = One form kinds.Integrity (IsIntegrity t) (Trailer form t)

-- G86, then G85 and SE
abbrev pub Signed : Form → Shared → Shape
Signed form t = One form kinds.Signature (λ _ seg. IsSignature t.signature seg) (Integrity form t)

-- G84, G86, G85 and SE
abbrev pub Closing : Form → Shared → Shape
Closing form t = One form kinds.Totals (λ _ seg. IsTotals t.totals seg) (Signed form t)

-- these extras, and then the rest
abbrev pub Extras : Bool → Form → List Extra → Shape → Shape
Extras in_line form [] rest before segs = rest before segs
Extras in_line form (extra ∷ extras) rest before segs = OneExtra in_line form extra (Extras in_line form extras rest) before segs

-- an item with its extras for each of these lines, and then the rest
abbrev pub Items : Form → List Line → Shape → Shape
Items form [] rest before segs = rest before segs
Items form (line ∷ lines) rest before segs = One form kinds.Item (λ _ seg. IsItem line seg) (Extras true form line.extras (Items form lines rest)) before segs

-- LE, which repeats the id of its loop, and then the rest
abbrev pub LoopEnd : Form → List ℕ → Shape → Shape
LoopEnd form loop_id rest = One form kinds.LoopEnd (λ _ seg. IsLoopId loop_id seg) rest

-- a loop where there are lines
abbrev pub Loop : Form → List Line → Shape → Shape
Loop form [] rest before segs = rest before segs
Loop form (line ∷ lines) rest before segs =
    (loop_id : List ℕ) × One form kinds.LoopStart (λ _ seg. IsLoopId loop_id seg) (Items form (line ∷ lines) (LoopEnd form loop_id rest)) before segs

-- the extras of the record, of which an answer has none
abbrev pub Record : Form → List Extra → Shape → Shape
Record forms.Base extras rest before segs = Extras false forms.Base extras rest before segs
Record forms.Answer [] rest before segs = rest before segs
Record forms.Answer (extra ∷ extras) rest before segs = ⊥

-- a loop where there are lines, the extras of the record, and the closing
abbrev pub Body : Form → List Line → List Extra → Shared → Shape
Body form lines extras t = Loop form lines (Record form extras (Closing form t))

-- one reference as it is kept, and then the rest
abbrev pub OneReference : Form → List ℕ → Shape → Shape
OneReference form text rest = One form kinds.Reference (λ _ seg. kept_text seg ≡ text) rest

-- the references: any number behind the head of a base record, at most one behind that of an answer
abbrev pub References : Form → List (List ℕ) → Shape → Shape
References form [] rest before segs = rest before segs
References forms.Base (text ∷ texts) rest before segs = OneReference forms.Base text (References forms.Base texts rest) before segs
References forms.Answer (text ∷ []) rest before segs = OneReference forms.Answer text rest before segs
References forms.Answer (text ∷ next ∷ texts) rest before segs = ⊥

-- what stands behind the head: these references, lines and extras, and the closing
abbrev pub BehindHead : Form → List (List ℕ) → List Line → List Extra → Shared → Shape
BehindHead form texts lines extras t = References form texts (Body form lines extras t)

-- ---- what holds of the lines as a whole

-- no number stands twice
abbrev pub AreApart : List Line → Type 0
AreApart [] = Unit {0}
AreApart (line ∷ lines) = (has_line line.dsd lines ≡ false) × AreApart lines

-- what a set asks of its lines and of the extras of its record
pub record IsSound (lines : List Line) (extras : List Extra) : Type 0 where
  pub apart : AreApart lines
  pub limit : length lines ≤ MOST_LINES
  pub behind : All HasExtras lines
  pub beside : AreExtras false extras
