-- What an end chooses, as plain data: code and definitions above take its choices as this.
use Rattle.std.specs.Prelude.{◌≡◌, ◌<◌, ℕ, Bool, false, List, [], ◌∷◌, length, bytes_eq, Option}
use Rattle.std.specs.List.{list_any}
use Rattle.dsd_values.specs.SignatureRecord.{SignatureRecord}
use Rattle.base_record_894.specs.BaseRecord.{BaseRecord}
use Rattle.transaction_set.specs.SoundLines.{AreSoundLines}
use Rattle.dsd_record.specs.Version.{Version}
use Rattle.dsd_record.specs.declared.choice.Choice.{Choice}
use Rattle.dsd_record.specs.declared.choice.Choice.TheVariants as choices

pub record Chooser : Type 0 where
  -- what this end proposes, in this order
  pub drafts : List BaseRecord
  -- what it does on a proposal of the partner, where its own last one of the delivery came to so many cents, if it made one
  pub choice : Version → Option ℕ → Choice
  -- what a delivery with this number is signed with
  pub signature : List ℕ → Option SignatureRecord

-- ---- which choices may be made

-- an adjustment has a line, its lines are sound, and no DSD number stands twice
abbrev pub IsSoundChoice : Choice → Type 0
IsSoundChoice choices.Accept = Unit {0}
IsSoundChoice (choices.Adjust lines) = (0 < length lines) × AreSoundLines lines
IsSoundChoice choices.Wait = Unit {0}

-- so it is on each version with sound lines and no DSD number twice
abbrev pub ChoosesSoundly : Chooser → Type 0
ChoosesSoundly chooser = (version : Version) (own_amount : Option ℕ) → AreSoundLines version.lines → IsSoundChoice (chooser.choice version own_amount)

-- ---- which drafts may be proposed

-- a draft has this delivery number
abbrev pub has_draft : List ℕ → List BaseRecord → Bool
has_draft number drafts = list_any (λ draft. bytes_eq draft.number number) drafts

-- no two have the same delivery number
abbrev pub AreDraftsApart : List BaseRecord → Type 0
AreDraftsApart [] = Unit {0}
AreDraftsApart (draft ∷ drafts) = (has_draft draft.number drafts ≡ false) × AreDraftsApart drafts
