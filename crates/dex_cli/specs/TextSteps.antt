-- What the body of `check text` keeps, and what each part of a text brings.
use Rattle.std.specs.Prelude.{◌≡◌, ℕ, List, [], ◌∷◌, ◌++◌, Option, Some, None, MatchOption}
use Rattle.segments.specs.Streaming.{reached}
use Rattle.dsd_record.specs.TakenSets.{HasTaken}
use Rattle.dxs_envelope.specs.FirstFault.{told_of}
use Rattle.dxs_envelope.specs.TextParts.{PartAt, Parts, begun_by, closed_by, grouped}
use Rattle.dxs_envelope.specs.TextPieces.{TextAt, text_left, told_then}
use Rattle.dxs_envelope.specs.Views.{SetAt, Told}
use Rattle.dex_cli.specs.Summaries.{IsNoSetAt, IsSummary, SumsUp}
use Rattle.dex_cli.specs.declared.begun_set.BegunSet.{BegunSet}
use Rattle.dex_cli.specs.declared.begun_set.Brought.{Brought}
use Rattle.dex_cli.specs.declared.begun_set.Brought.TheVariants as brings
use Rattle.dex_cli.specs.declared.check_text.TextChecking.{TextChecking}
use Rattle.dex_cli.specs.declared.refusal.Refusal.{Refusal}
use Rattle.dex_cli.specs.declared.summary.SetSummary.{SetSummary}
use Rattle.dex_cli.specs.declared.text_summary.TextEnding.{TextEnding}
use Rattle.dex_cli.specs.declared.text_summary.TextEnding.TheVariants as endings

-- ---- a set that is begun

-- this is kept of it, or of none
abbrev pub HasBegun : Option SetAt → Option BegunSet → Type 0
HasBegun None None = Unit {0}
HasBegun (Some set) (Some begun) = (begun.start ≡ set.start) × HasTaken set.bytes begun.reader
HasBegun _ _ = ⊥

-- a set that ended is summed up, or is none
abbrev pub IsBrought : SetAt → Brought → Type 0
IsBrought ended brings.Nothing = ⊥
IsBrought ended (brings.Set summary) = IsSummary ended.bytes summary
IsBrought ended (brings.Refused refusal) = IsNoSetAt ended refusal

-- a part brings the set that ends in it, or nothing where none ends
abbrev pub BringsSets : List SetAt → Brought → Type 0
BringsSets [] brought = brought ≡ brings.Nothing
BringsSets (ended ∷ sets) brought = (sets ≡ []) × IsBrought ended brought

-- this comes of a part, and then this is kept of the set that is begun behind it
abbrev pub Brings : Option SetAt → PartAt → Brought → Option BegunSet → Type 0
Brings set part brought new = BringsSets (closed_by part.kind set part.segment) brought × HasBegun (begun_by part.kind set part.segment) new

-- ---- a text so far

-- the sets that end in these parts, where this one is begun, and then the same fault
abbrev pub told_as : Option SetAt → Parts → Told
told_as set parts = record { sets = grouped set parts.parts; fault = parts.fault }

-- whatever sums up what is still to be told sums up all, behind these
abbrev pub Summed : Told → List SetSummary → Told → Type 0
Summed all done left = (later : List SetSummary) (ending : TextEnding) → SumsUp left.sets left.fault later ending → SumsUp all.sets all.fault (done ++ later) ending

-- no refusal yet: a set may be begun, and of a text that goes on so what is left is summed up behind these
pub record GoesOn (all : List ℕ → Told) (left : List ℕ → Parts) (checking : TextChecking) : Type 0 where
  pub set : Option SetAt
  pub begun : HasBegun set checking.begun
  pub sums : (more : List ℕ) → Summed (all more) checking.summaries.items (told_as set (left more))

-- the text is refused so behind these, however it goes on
abbrev pub IsRefusedSo : (List ℕ → Told) → TextChecking → Refusal → Type 0
IsRefusedSo all checking refusal = (more : List ℕ) → SumsUp (all more).sets (all more).fault checking.summaries.items (endings.Refused refusal)

abbrev pub StandsAt : (List ℕ → Told) → (List ℕ → Parts) → TextChecking → Type 0
StandsAt all left checking = MatchOption checking.ending (GoesOn all left checking) (IsRefusedSo all checking)

-- The text so far was checked.
abbrev pub HasChecked : List ℕ → TextChecking → Type 0
HasChecked input checking = StandsAt (λ more. told_of (input ++ more)) (λ more. text_left checking.text more) checking

-- how far it has come, while there is no refusal
abbrev pub reached_by : Option Refusal → TextAt → ℕ
reached_by None text = reached text.segments
reached_by (Some refusal) text = 0

-- what a part brings is kept
abbrev pub IsKept : Brought → TextChecking → TextChecking → Type 0
IsKept brings.Nothing old new = (new.summaries.items ≡ old.summaries.items) × (new.ending ≡ None)
IsKept (brings.Set summary) old new = (new.summaries.items ≡ old.summaries.items ++ summary ∷ []) × (new.ending ≡ None)
IsKept (brings.Refused refusal) old new = (new.summaries.items ≡ old.summaries.items) × (new.ending ≡ Some refusal)
