-- Which texts are a set, of which form and value; and the first refusal of a text that is none.
use Rattle.std.specs.Prelude.{◌≡◌, ℕ, Bool, true, false, if◌then◌else◌, List, Option, Some, None, Result, Ok, Err}
use Rattle.transaction_set.specs.Kinds.{is_start_of}
use Rattle.transaction_set.specs.Refusal.{Refusal}
use Rattle.segments.specs.SegmentCut.{next_of, text_start}
use Rattle.segments.specs.SegmentSpelling.{IsFront}
use Rattle.segments.specs.Views.{Left, Seg}
use Rattle.transaction_set.specs.declared.kind.Form.{Form}
use Rattle.transaction_set.specs.declared.kind.Form.TheVariants as forms
use Rattle.segments.specs.declared.segment_fault.SegmentFault.{SegmentFault}
use Rattle.base_record_894.specs.FirstRefusal.{refusal_of as base_refusal}
use Rattle.base_record_894.specs.RecordText.{Is894}
use Rattle.adjustment_895.specs.AnswerText.{Is895}
use Rattle.adjustment_895.specs.FirstRefusal.{refusal_of as answer_refusal}
use Rattle.dsd_record.specs.declared.set_view.SetView.{SetView}
use Rattle.dsd_record.specs.declared.set_view.SetView.TheVariants as sets

-- the text is this set
abbrev pub IsSet : SetView → List ℕ → Type 0
IsSet (sets.Base base seal) text = Is894 base seal text
IsSet (sets.Answer answer seal) text = Is895 answer seal text

abbrev pub form_of : SetView → Form
form_of (sets.Base base seal) = forms.Base
form_of (sets.Answer answer seal) = forms.Answer

-- ---- how a text begins

-- an ST of this set is spelled at its front
pub record BeginsAs (form : Form) (text : List ℕ) : Type 0 where
  pub first : Seg
  pub behind : Left
  pub front : IsFront first (text_start text) behind
  pub start : is_start_of form first ≡ true

-- the same of the first segment as it is read
abbrev pub starts : Form → Result (Option Seg) SegmentFault → Bool
starts form (Ok (Some first)) = is_start_of form first
starts form (Ok None) = false
starts form (Err fault) = false

unfoldable pub begins_as : Form → List ℕ → Bool
begins_as form text = starts form (next_of (text_start text))

-- ---- the first refusal

-- A text that begins as an answer is refused as one, and each other as a base record.
abbrev pub set_refusal : List ℕ → Option Refusal
set_refusal text = if begins_as forms.Answer text then answer_refusal text else base_refusal text
