-- Two lives over one cable: what is assumed of it, and of the sets that went over it.
use Rattle.std.specs.Prelude.{◌≡◌, ℕ, Bool, List, All}
use Rattle.std.specs.List.{Contains}
use Rattle.dex_line.specs.Occurrence.{Occurs}
use Rattle.dsd_record.specs.SetTexts.{IsSet}
use Rattle.dsd_record.specs.declared.set_view.SetView.{SetView}
use Rattle.dsd_journal.specs.declared.entry.Entry.{Entry}
use Rattle.delivery_book.specs.Deeds.{signed_texts, taken_texts}
use Rattle.dsd_end.specs.Lives.{last_list}
use Rattle.dsd_end.specs.Runs.{Run, bytes_heard}
use Rattle.dsd_end.specs.Sealing.{seal_in}

-- ---- an honest cable

-- each data block that occurs in what this run heard was spoken whole in some run of the other end
abbrev pub HearsFrom : List Run → Run → Type 0
HearsFrom others run =
    (last : Bool) (text : List ℕ) → Occurs last text (bytes_heard run.heard) → (other : Run) × Contains others other × Occurs last text other.gone

-- So it is of every run of both ends: damage shows in the check of a block. How blocks are lost, repeated and reordered, and when
-- the cable is out, is free.
pub record IsHonestCable (one other : List Run) : Type 0 where
  pub there : All (HearsFrom other) one
  pub back : All (HearsFrom one) other

-- ---- no clash of control number and integrity value

-- a set that the one took and a set that the other signed, which have equal control numbers and equal integrity values, are the
-- same text
abbrev pub AreToldApart : List Entry → List Entry → Type 0
AreToldApart one other = (taken signed : List ℕ) (set set' : SetView) → Contains (taken_texts one) taken → Contains (signed_texts other) signed
    → IsSet set taken → IsSet set' signed → seal_in set ≡ seal_in set' → taken ≡ signed

-- so it is both ways, of all that the two ends ever took and signed: their last lists have it
pub record NoClash (one other : List Run) : Type 0 where
  pub there : AreToldApart (last_list one) (last_list other)
  pub back : AreToldApart (last_list other) (last_list one)
