-- The order of both sets (this project's profile), as the kinds of their segments, apart from any reading.
use Rattle.std.specs.Prelude.{◌≡◌, ◌⊎◌, List, [], ◌∷◌, ◌++◌, Option, Some, None}
use Rattle.transaction_set.specs.declared.kind.Kind.{Kind}
use Rattle.transaction_set.specs.declared.kind.Kind.TheVariants as kinds
use Rattle.transaction_set.specs.declared.kind.Form.{Form}
use Rattle.transaction_set.specs.declared.kind.Form.TheVariants as forms
use Rattle.transaction_set.specs.declared.phase.Phase.{Phase}
use Rattle.transaction_set.specs.Kinds.{next_phase}

-- what the kinds of the segments that are left may be
abbrev pub Kinds : Type 1
Kinds = List Kind → Type 0

-- one of this kind, and then the rest
abbrev pub This : Kind → Kinds → Kinds
This kind rest [] = ⊥
This kind rest (k ∷ ks) = (k ≡ kind) × rest ks

-- any number of this kind, and then the rest
abbrev pub Any : Kind → Kinds → Kinds
Any kind rest [] = rest []
Any kind rest (k ∷ ks) = ((k ≡ kind) × Any kind rest ks) ⊎ rest (k ∷ ks)

-- nothing more
abbrev pub Nothing : Kinds
Nothing ks = ks ≡ []

-- G84, G86, G85 and SE
abbrev pub Closing : Kinds
Closing = This kinds.Totals (This kinds.Signature (This kinds.Integrity (This kinds.Trailer Nothing)))

-- allowances and notes of the record, and then the closing
abbrev pub Extras : Kinds
Extras [] = ⊥
Extras (k ∷ ks) = ((k ≡ kinds.Allowance) × Extras ks) ⊎ (((k ≡ kinds.Note) × Extras ks) ⊎ Closing (k ∷ ks))

-- behind the loop
abbrev pub Record : Form → Kinds
Record forms.Base = Extras
Record forms.Answer = Closing

-- behind an item: what belongs to it, and more items with theirs, up to the end of the loop
abbrev pub Behind : Kinds → Kinds
Behind rest [] = ⊥
Behind rest (k ∷ ks) = ((k ≡ kinds.Allowance) × Behind rest ks) ⊎ (((k ≡ kinds.LineNote) × Behind rest ks) ⊎ (((k ≡ kinds.Note) × Behind rest ks)
    ⊎ (((k ≡ kinds.Item) × Behind rest ks) ⊎ ((k ≡ kinds.LoopEnd) × rest ks))))

-- a loop or none, and what stands behind it
abbrev pub Body : Form → Kinds
Body form ks = This kinds.LoopStart (This kinds.Item (Behind (Record form))) ks ⊎ Record form ks

-- any number of references behind the head of a base record, at most one behind that of an answer
abbrev pub References : Form → Kinds
References forms.Base ks = Any kinds.Reference (Body forms.Base) ks
References forms.Answer ks = This kinds.Reference (Body forms.Answer) ks ⊎ Body forms.Answer ks

-- ST, the head, and what may follow it
abbrev pub InOrder : Form → Kinds
InOrder form = This kinds.Start (This kinds.Head (References form))

-- a segment of this kind may stand behind these: some rest makes it a set's order
abbrev pub MayFollow : Form → List Kind → Kind → Type 0
MayFollow form ks k = (rest : List Kind) × InOrder form (ks ++ k ∷ rest)

abbrev pub from_phase : Option Phase → (Phase → Option Phase) → Option Phase
from_phase None f = None
from_phase (Some p) f = f p

-- where a set stands behind segments of these kinds, from this phase on
abbrev pub phase_behind : Form → Phase → List Kind → Option Phase
phase_behind form p [] = Some p
phase_behind form p (k ∷ ks) = from_phase (next_phase p k form) (λ q. phase_behind form q ks)
