-- Of which kind a row is, that is written of a set.
use Rattle.std.proofs.Common.{◌≡◌, ℕ, List, [], ◌∷◌, codes, get_or, refl, sym, ◌∙◌, ap}
use Rattle.segments.specs.Views.{Seg, element_of}
use Rattle.transaction_set.specs.Kinds.{head_id, item_id, kind_of, set_code}
use Rattle.segments.specs.SegmentWriting.{segment_of}
use Rattle.transaction_set.specs.SetWriting.{Row}
use Rattle.transaction_set.specs.declared.kind.Form.{Form}
use Rattle.transaction_set.specs.declared.kind.Form.TheVariants as forms
use Rattle.transaction_set.specs.declared.kind.Kind.{Kind}
use Rattle.transaction_set.specs.declared.kind.Kind.TheVariants as kinds
use Rattle.segments.proofs.EmptyEnds.{trim_element}

-- the kind of a segment with this id and this first element
pub kind_with : Form → List ℕ → List ℕ → Kind
kind_with form id first = kind_of form (record { start = 0; bytes = []; parts = id ∷ first ∷ [] })

pub kind_is : (form : Form) (seg : Seg) → kind_of form seg ≡ kind_with form (element_of seg 0) (element_of seg 1)
unfolding kind_of kind_with
kind_is form seg = refl

pub kind_same : (form : Form) (a b : Seg) → element_of a 0 ≡ element_of b 0 → element_of a 1 ≡ element_of b 1 → kind_of form a ≡ kind_of form b
kind_same form a b id first =
    kind_is form a ∙ ap (λ (text : List ℕ). kind_with form text (element_of a 1)) id ∙ ap (kind_with form (element_of b 0)) first ∙ sym (kind_is form b)

-- the kind of a row as it is written
pub kind_row : (form : Form) (place : ℕ) (row : Row) → kind_of form (segment_of place row) ≡ kind_with form (get_or row 0 []) (get_or row 1 [])
kind_row form place row =
    kind_is form (segment_of place row)
    ∙ ap (λ (text : List ℕ). kind_with form text (element_of (segment_of place row) 1)) (trim_element row 0)
    ∙ ap (kind_with form (get_or row 0 [])) (trim_element row 1)

-- ---- each id

pub start_kind : (form : Form) → kind_with form (codes "ST") (set_code form) ≡ kinds.Start
unfolding kind_of kind_with
start_kind forms.Base = refl
start_kind forms.Answer = refl

pub head_kind : (form : Form) (first : List ℕ) → kind_with form (head_id form) first ≡ kinds.Head
unfolding kind_of kind_with
head_kind forms.Base first = refl
head_kind forms.Answer first = refl

pub item_kind : (form : Form) (first : List ℕ) → kind_with form (item_id form) first ≡ kinds.Item
unfolding kind_of kind_with
item_kind forms.Base first = refl
item_kind forms.Answer first = refl

pub loop_start_kind : (form : Form) (first : List ℕ) → kind_with form (codes "LS") first ≡ kinds.LoopStart
unfolding kind_of kind_with
loop_start_kind forms.Base first = refl
loop_start_kind forms.Answer first = refl

pub loop_end_kind : (form : Form) (first : List ℕ) → kind_with form (codes "LE") first ≡ kinds.LoopEnd
unfolding kind_of kind_with
loop_end_kind forms.Base first = refl
loop_end_kind forms.Answer first = refl

pub allowance_kind : (form : Form) (first : List ℕ) → kind_with form (codes "G72") first ≡ kinds.Allowance
unfolding kind_of kind_with
allowance_kind forms.Base first = refl
allowance_kind forms.Answer first = refl

pub line_note_kind : (form : Form) (first : List ℕ) → kind_with form (codes "G22") first ≡ kinds.LineNote
unfolding kind_of kind_with
line_note_kind forms.Base first = refl
line_note_kind forms.Answer first = refl

pub note_kind : (form : Form) (first : List ℕ) → kind_with form (codes "G23") first ≡ kinds.Note
unfolding kind_of kind_with
note_kind forms.Base first = refl
note_kind forms.Answer first = refl

pub totals_kind : (form : Form) (first : List ℕ) → kind_with form (codes "G84") first ≡ kinds.Totals
unfolding kind_of kind_with
totals_kind forms.Base first = refl
totals_kind forms.Answer first = refl

pub signature_kind : (form : Form) (first : List ℕ) → kind_with form (codes "G86") first ≡ kinds.Signature
unfolding kind_of kind_with
signature_kind forms.Base first = refl
signature_kind forms.Answer first = refl

pub integrity_kind : (form : Form) (first : List ℕ) → kind_with form (codes "G85") first ≡ kinds.Integrity
unfolding kind_of kind_with
integrity_kind forms.Base first = refl
integrity_kind forms.Answer first = refl

pub trailer_kind : (form : Form) (first : List ℕ) → kind_with form (codes "SE") first ≡ kinds.Trailer
unfolding kind_of kind_with
trailer_kind forms.Base first = refl
trailer_kind forms.Answer first = refl
