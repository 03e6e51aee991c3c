-- What is printed of a set and of a transmission, as plain values.
use Rattle.std.specs.Prelude.{◌≡◌, ℕ, ◌+◌, ◌≤◌, List, [], ◌∷◌, length, Option, Some, None}
use Rattle.dsd_pricing.specs.Pricing.{quantities}
use Rattle.base_record_894.specs.BaseRecord.{amount_of}
use Rattle.dsd_record.specs.SetTexts.{IsSet, set_refusal}
use Rattle.dsd_record.specs.declared.set_view.SetView.{SetView}
use Rattle.dsd_record.specs.declared.set_view.SetView.TheVariants as sets
use Rattle.dxs_envelope.specs.Views.{SetAt, Told}
use Rattle.dxs_envelope.specs.declared.fault.EnvelopeFault.{EnvelopeFault}
use Rattle.transaction_set.specs.declared.set_fault.SetReason.{SetReason}
use Rattle.dex_cli.specs.declared.refusal.Reason.{Reason}
use Rattle.dex_cli.specs.declared.refusal.Reason.TheVariants as reasons
use Rattle.dex_cli.specs.declared.refusal.Refusal.{Refusal}
use Rattle.dex_cli.specs.declared.summary.SetForm.TheVariants as forms
use Rattle.dex_cli.specs.declared.summary.SetSummary.{SetSummary}
use Rattle.dex_cli.specs.declared.text_summary.TextEnding.{TextEnding}
use Rattle.dex_cli.specs.declared.text_summary.TextEnding.TheVariants as endings
use Rattle.dex_cli.specs.declared.text_summary.TextSummary.{TextSummary}

-- Of a base record its lines tell the quantity and the amount; an answer states them.
abbrev pub summary_of : SetView → SetSummary
summary_of (sets.Base base seal) = record {
  control = seal.control;
  flag = base.flag;
  number = base.number;
  form = forms.Delivery base.day;
  lines = length base.lines;
  quantity = quantities base.lines;
  amount = amount_of base;
}
summary_of (sets.Answer answer seal) = record {
  control = seal.control;
  flag = answer.flag;
  number = answer.number;
  form = forms.Answer answer.level answer.check;
  lines = length answer.lines;
  quantity = answer.quantity;
  amount = answer.amount;
}

-- this is printed of the set that the text spells
pub record IsSummary (text : List ℕ) (summary : SetSummary) : Type 0 where
  pub set : SetView
  pub spelled : IsSet set text
  pub summary_is : summary ≡ summary_of set

-- no set is spelled by the text, and this is its first refusal
pub record IsNoSetFor (text : List ℕ) (place : ℕ) (reason : SetReason) : Type 0 where
  pub first : set_refusal text ≡ Some (record { place = place; reason = reason })
  pub none : (set : SetView) → IsSet set text → ⊥
  pub within : place ≤ length text

-- the same of the reason that is printed
abbrev pub IsNoSet : List ℕ → ℕ → Reason → Type 0
IsNoSet text place (reasons.Set reason) = IsNoSetFor text place reason
IsNoSet text place _ = ⊥

-- ---- a transmission

-- the set is none, and is refused at this place of its transmission
pub record IsNoSetAt (set : SetAt) (refusal : Refusal) : Type 0 where
  pub inside : ℕ
  pub place_is : refusal.place ≡ set.start + inside
  pub no_set : IsNoSet set.bytes inside refusal.reason

-- the fault of an envelope as it is printed
abbrev pub refusal_of : EnvelopeFault → Refusal
refusal_of fault = record { place = fault.place; reason = reasons.Envelope fault.reason }

-- behind the sets that are summed up: the transmission is whole, it is none, or the next set is none
abbrev pub Ends : List SetAt → Option EnvelopeFault → TextEnding → Type 0
Ends [] None endings.Whole = Unit {0}
Ends [] None (endings.Refused refusal) = ⊥
Ends [] (Some fault) endings.Whole = ⊥
Ends [] (Some fault) (endings.Refused refusal) = refusal ≡ refusal_of fault
Ends (set ∷ sets) fault endings.Whole = ⊥
Ends (set ∷ sets) fault (endings.Refused refusal) = IsNoSetAt set refusal

-- each of these is summed up, in their order
abbrev pub SumsUp : List SetAt → Option EnvelopeFault → List SetSummary → TextEnding → Type 0
SumsUp sets fault [] ending = Ends sets fault ending
SumsUp [] fault (summary ∷ summaries) ending = ⊥
SumsUp (set ∷ sets) fault (summary ∷ summaries) ending = IsSummary set.bytes summary × SumsUp sets fault summaries ending

-- This is printed of what is told of a text: of its sets, up to the first that is none, and of its end.
abbrev pub IsSummedUp : Told → TextSummary → Type 0
IsSummedUp told text = SumsUp told.sets told.fault text.sets.items text.ending
