-- What segments are by their ids, whose names are those of X12, and which may stand where: the order of both sets (this
-- project's profile).
use Rattle.std.specs.Prelude.{ℕ, Bool, true, false, ◌&&◌, List, codes, Option, Some, None, if◌then◌else◌}
use Rattle.std.specs.Str.{bytes_eq}
use Rattle.segments.specs.Views.{Seg, element_of, has_id}
use Rattle.transaction_set.specs.declared.kind.Kind.{Kind}
use Rattle.transaction_set.specs.declared.kind.Kind.TheVariants as kinds
use Rattle.transaction_set.specs.declared.kind.Form.{Form}
use Rattle.transaction_set.specs.declared.kind.Form.TheVariants as forms
use Rattle.transaction_set.specs.declared.phase.Phase.{Phase}
use Rattle.transaction_set.specs.declared.phase.Phase.TheVariants as phases

-- the set's number
abbrev pub set_code : Form → List ℕ
set_code forms.Base = codes "894"
set_code forms.Answer = codes "895"

-- the ids of the head, of a reference and of an item
abbrev pub head_id : Form → List ℕ
head_id forms.Base = codes "G82"
head_id forms.Answer = codes "G87"

abbrev pub reference_id : Form → List ℕ
reference_id forms.Base = codes "N9"
reference_id forms.Answer = codes "G88"

abbrev pub item_id : Form → List ℕ
item_id forms.Base = codes "G83"
item_id forms.Answer = codes "G89"

-- an ST of this set
abbrev pub is_start_of : Form → Seg → Bool
is_start_of form seg = has_id seg (codes "ST") && bytes_eq (element_of seg 1) (set_code form)

-- what a segment is in a set of this form; an ST of the other set is no kind of it
unfoldable pub kind_of : Form → Seg → Kind
kind_of form seg =
    if is_start_of form seg then kinds.Start
    else (if has_id seg (head_id form) then kinds.Head
    else (if has_id seg (reference_id form) then kinds.Reference
    else (if has_id seg (codes "LS") then kinds.LoopStart
    else (if has_id seg (item_id form) then kinds.Item
    else (if has_id seg (codes "G72") then kinds.Allowance
    else (if has_id seg (codes "G22") then kinds.LineNote
    else (if has_id seg (codes "G23") then kinds.Note
    else (if has_id seg (codes "LE") then kinds.LoopEnd
    else (if has_id seg (codes "G84") then kinds.Totals
    else (if has_id seg (codes "G86") then kinds.Signature
    else (if has_id seg (codes "G85") then kinds.Integrity
    else (if has_id seg (codes "SE") then kinds.Trailer
    else kinds.Other))))))))))))

-- where a set stands behind a segment of this kind; none where it may not stand there
abbrev pub next_phase : Phase → Kind → Form → Option Phase
next_phase phases.Start kinds.Start _ = Some phases.Head
next_phase phases.Head kinds.Head _ = Some phases.References
next_phase phases.References kinds.Reference forms.Base = Some phases.References
next_phase phases.References kinds.Reference forms.Answer = Some phases.Body
next_phase phases.References kinds.LoopStart _ = Some phases.FirstItem
next_phase phases.Body kinds.LoopStart _ = Some phases.FirstItem
next_phase phases.References kinds.Totals _ = Some phases.Signature
next_phase phases.Body kinds.Totals _ = Some phases.Signature
next_phase phases.References kinds.Allowance forms.Base = Some phases.Extras
next_phase phases.References kinds.Note forms.Base = Some phases.Extras
next_phase phases.Body kinds.Allowance forms.Base = Some phases.Extras
next_phase phases.Body kinds.Note forms.Base = Some phases.Extras
next_phase phases.FirstItem kinds.Item _ = Some phases.Items
next_phase phases.Items kinds.Item _ = Some phases.Items
next_phase phases.Items kinds.Allowance _ = Some phases.Items
next_phase phases.Items kinds.LineNote _ = Some phases.Items
next_phase phases.Items kinds.Note _ = Some phases.Items
next_phase phases.Items kinds.LoopEnd _ = Some phases.Extras
next_phase phases.Extras kinds.Allowance forms.Base = Some phases.Extras
next_phase phases.Extras kinds.Note forms.Base = Some phases.Extras
next_phase phases.Extras kinds.Totals _ = Some phases.Signature
next_phase phases.Signature kinds.Signature _ = Some phases.Integrity
next_phase phases.Integrity kinds.Integrity _ = Some phases.Trailer
next_phase phases.Trailer kinds.Trailer _ = Some phases.Done
next_phase _ _ _ = None

-- the set is whole
abbrev pub is_done : Phase → Bool
is_done phases.Done = true
is_done _ = false
