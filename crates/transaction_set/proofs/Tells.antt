-- What segments of a shape tell: which values stand in them, one behind another.
use Rattle.std.proofs.Common.{◌≡◌, ℕ, Bool, true, false, List, [], ◌∷◌, ◌++◌}
use Rattle.std.specs.List.{All}
use Rattle.std.proofs.lemmas.List.Elements.{All-cons, All-head, All-nil, All-tail}
use Rattle.dsd_values.specs.declared.extra.Extra.{Extra}
use Rattle.dsd_values.specs.declared.extra.Extra.TheVariants.{Allow, Note}
use Rattle.dsd_values.specs.declared.line.Line.{Line}
use Rattle.dsd_values.specs.SignatureRecord.{SignatureRecord}
use Rattle.segments.specs.Views.{Seg}
use Rattle.transaction_set.specs.Extras.{IsExtra}
use Rattle.segments.specs.Elements.{kept_text}
use Rattle.transaction_set.specs.Grammar.{BehindHead, Body, Closing, Extras, Integrity, IsItem, IsLoopId, IsSignature, IsTotals, Items, Loop, LoopEnd, One, OneExtra, OneReference, Record, References, Shape, Shared, Signed}
use Rattle.transaction_set.specs.Kinds.{kind_of}
use Rattle.segments.specs.SegmentSpelling.{IsSegment}
use Rattle.transaction_set.specs.SoundLines.{IsSoundExtra}
use Rattle.transaction_set.specs.declared.kind.Form.{Form}
use Rattle.transaction_set.specs.declared.kind.Form.TheVariants as forms
use Rattle.transaction_set.specs.declared.kind.Kind.{Kind}
use Rattle.transaction_set.specs.declared.kind.Kind.TheVariants as kinds
use Rattle.transaction_set.specs.declared.stated.StatedTotals.{StatedTotals}
use Rattle.transaction_set.proofs.KindsById.{same_allowance, same_note}

-- a segment of any length
abbrev pub IsLong : Seg → Type 0
IsLong seg = IsSegment seg.parts

-- this holds of whatever segments have the shape
abbrev pub Tells : Shape → Type 0 → Type 0
Tells shape P = (before segs : List Seg) → shape before segs → All IsLong segs → P

pub one_tells : (form : Form) (kind : Kind) (Says : List Seg → Seg → Type 0) (rest : Shape) (Q P : Type 0) → ((before : List Seg) (seg : Seg) → IsLong seg → kind_of form seg ≡ kind → Says before seg → Q)
    → Tells rest P → Tells (One form kind Says rest) (Q × P)
one_tells form kind Says rest Q P own later before [] s all = absurd s
one_tells form kind Says rest Q P own later before (seg ∷ segs) (k, says, s) all =
    (own before seg (All-head IsLong seg segs all) k says, later (before ++ seg ∷ []) segs s (All-tail IsLong seg segs all))

-- ---- extras

-- an extra in one set is one in the other
same_extra : (in_line : Bool) (form other : Form) (extra : Extra) (seg : Seg) → IsExtra in_line extra (kind_of form seg) seg → IsExtra in_line extra (kind_of other seg) seg
same_extra in_line form other (Allow allowance) seg (k, is) = (same_allowance form other seg k, is)
same_extra in_line form other (Note text) seg (k, e) = (same_note in_line form other seg k, e)

extra_tells : (in_line : Bool) (form : Form) (extra : Extra) (rest : Shape) (P : Type 0) → Tells rest P → Tells (OneExtra in_line form extra rest) (IsSoundExtra in_line extra × P)
extra_tells in_line form extra rest P later before [] s all = absurd s
extra_tells in_line form extra rest P later before (seg ∷ segs) (is, s) all = (
  record { saying = seg; segment = All-head IsLong seg segs all; says = λ other. same_extra in_line form other extra seg is },
  later (before ++ seg ∷ []) segs s (All-tail IsLong seg segs all),
)

pub extras_tell : (in_line : Bool) (form : Form) (extras : List Extra) (rest : Shape) (P : Type 0) → Tells rest P → Tells (Extras in_line form extras rest) (All (IsSoundExtra in_line) extras × P)
extras_tell in_line form [] rest P later before segs s all = (All-nil (IsSoundExtra in_line), later before segs s all)
extras_tell in_line form (extra ∷ extras) rest P later before segs s all =
    let t = extra_tells in_line form extra (Extras in_line form extras rest) (All (IsSoundExtra in_line) extras × P) (extras_tell in_line form extras rest P later) before segs s all in
    (All-cons (IsSoundExtra in_line) extra extras t.0 t.1.0, t.1.1)

-- ---- lines

-- some item and extras say the line
pub record IsSaid (line : Line) : Type 0 where
  pub item : Seg
  pub segment : IsSegment item.parts
  pub says : IsItem line item
  pub each : All (IsSoundExtra true) line.extras

record IsSaidByItem (line : Line) : Type 0 where
  item : Seg
  segment : IsSegment item.parts
  says : IsItem line item

said_line : (line : Line) → IsSaidByItem line → All (IsSoundExtra true) line.extras → IsSaid line
said_line line by each = record { item = by.item; segment = by.segment; says = by.says; each = each }

pub items_tell : (form : Form) (lines : List Line) (rest : Shape) (P : Type 0) → Tells rest P → Tells (Items form lines rest) (All IsSaid lines × P)
items_tell form [] rest P later before segs s all = (All-nil IsSaid, later before segs s all)
items_tell form (line ∷ lines) rest P later before segs s all =
    let t = one_tells form kinds.Item (λ _ seg. IsItem line seg) (Extras true form line.extras (Items form lines rest)) (IsSaidByItem line) (All (IsSoundExtra true) line.extras × (All IsSaid lines × P))
    (λ before seg long k says. record { item = seg; segment = long; says = says })
    (extras_tell true form line.extras (Items form lines rest) (All IsSaid lines × P) (items_tell form lines rest P later)) before segs s all in
    (All-cons IsSaid line lines (said_line line t.0 t.1.0) t.1.1.0, t.1.1.1)

pub loop_tells : (form : Form) (lines : List Line) (rest : Shape) (P : Type 0) → Tells rest P → Tells (Loop form lines rest) (All IsSaid lines × P)
loop_tells form [] rest P later before segs s all = (All-nil IsSaid, later before segs s all)
loop_tells form (line ∷ lines) rest P later before segs (id, s) all =
    let t = one_tells form kinds.LoopStart (λ _ seg. IsLoopId id seg) (Items form (line ∷ lines) (LoopEnd form id rest)) (Unit {0}) (All IsSaid (line ∷ lines) × (Unit {0} × P)) (λ before seg long k says. tt)
    (items_tell form (line ∷ lines) (LoopEnd form id rest) (Unit {0} × P) (one_tells form kinds.LoopEnd (λ _ seg. IsLoopId id seg) rest (Unit {0}) P (λ before seg long k says. tt) later)) before segs s all in
    (t.1.0, t.1.1.1)

-- ---- references, and what stands at record level

-- some segment is kept as this reference
pub record IsReference (form : Form) (text : List ℕ) : Type 0 where
  pub saying : Seg
  pub segment : IsSegment saying.parts
  pub kind : kind_of form saying ≡ kinds.Reference
  pub kept : kept_text saying ≡ text

-- references that may stand behind the head
abbrev pub AreReferences : Form → List (List ℕ) → Type 0
AreReferences form [] = Unit {0}
AreReferences forms.Base (text ∷ texts) = IsReference forms.Base text × AreReferences forms.Base texts
AreReferences forms.Answer (text ∷ []) = IsReference forms.Answer text
AreReferences forms.Answer (text ∷ next ∷ texts) = ⊥

reference_tells : (form : Form) (text : List ℕ) (rest : Shape) (P : Type 0) → Tells rest P → Tells (OneReference form text rest) (IsReference form text × P)
reference_tells form text rest P later =
    one_tells form kinds.Reference (λ _ seg. kept_text seg ≡ text) rest (IsReference form text) P (λ before seg long k e. record { saying = seg; segment = long; kind = k; kept = e }) later

pub references_tell : (form : Form) (texts : List (List ℕ)) (rest : Shape) (P : Type 0) → Tells rest P → Tells (References form texts rest) (AreReferences form texts × P)
references_tell form [] rest P later = λ before segs s all. (tt, later before segs s all)
references_tell forms.Base (text ∷ texts) rest P later = λ before segs s all.
    let t = reference_tells forms.Base text (References forms.Base texts rest) (AreReferences forms.Base texts × P) (references_tell forms.Base texts rest P later) before segs s all in
    ((t.0, t.1.0), t.1.1)
references_tell forms.Answer (text ∷ []) rest P later = reference_tells forms.Answer text rest P later
references_tell forms.Answer (text ∷ next ∷ texts) rest P later = λ before segs s all. absurd s

-- extras that may stand at record level
abbrev pub AreBeside : Form → List Extra → Type 0
AreBeside forms.Base extras = All (IsSoundExtra false) extras
AreBeside forms.Answer [] = Unit {0}
AreBeside forms.Answer (extra ∷ extras) = ⊥

pub record_tells : (form : Form) (extras : List Extra) (rest : Shape) (P : Type 0) → Tells rest P → Tells (Record form extras rest) (AreBeside form extras × P)
record_tells forms.Base extras rest P later = extras_tell false forms.Base extras rest P later
record_tells forms.Answer [] rest P later = λ before segs s all. (tt, later before segs s all)
record_tells forms.Answer (extra ∷ extras) rest P later = λ before segs s all. absurd s

-- ---- the closing

-- some segment says the totals
pub record HasTotals (totals : StatedTotals) : Type 0 where
  pub saying : Seg
  pub says : IsTotals totals saying

-- some segment says the signature
pub record HasSignature (signature : SignatureRecord) : Type 0 where
  pub saying : Seg
  pub says : IsSignature signature saying

pub closing_tells : (form : Form) (t : Shared) → Tells (Closing form t) (HasTotals t.totals × (HasSignature t.signature × Unit {0}))
closing_tells form t =
    one_tells form kinds.Totals (λ _ seg. IsTotals t.totals seg) (Signed form t) (HasTotals t.totals) (HasSignature t.signature × Unit {0}) (λ before seg long k is. record { saying = seg; says = is })
    (one_tells form kinds.Signature (λ _ seg. IsSignature t.signature seg) (Integrity form t) (HasSignature t.signature) (Unit {0}) (λ before seg long k is. record { saying = seg; says = is })
    (λ before segs s all. tt))

-- what stands behind a head
pub record IsBehindHead (form : Form) (texts : List (List ℕ)) (lines : List Line) (extras : List Extra) (totals : StatedTotals) (signature : SignatureRecord) : Type 0 where
  pub references : AreReferences form texts
  pub lines_said : All IsSaid lines
  pub beside : AreBeside form extras
  pub totals_said : HasTotals totals
  pub signature_said : HasSignature signature

pub behind_head_tells : (form : Form) (texts : List (List ℕ)) (lines : List Line) (extras : List Extra) (t : Shared) → Tells (BehindHead form texts lines extras t) (IsBehindHead form texts lines extras t.totals t.signature)
behind_head_tells form texts lines extras t before segs s all =
    let closed : Type 0 = HasTotals t.totals × (HasSignature t.signature × Unit {0}) in
    let beside : Type 0 = AreBeside form extras × closed in
    let said : Type 0 = All IsSaid lines × beside in
    let r = references_tell form texts (Body form lines extras t) said
    (loop_tells form lines (Record form extras (Closing form t)) beside (record_tells form extras (Closing form t) closed (closing_tells form t))) before segs s all in
    record { references = r.0; lines_said = r.1.0; beside = r.1.1.0; totals_said = r.1.1.1.0; signature_said = r.1.1.1.1.0 }
