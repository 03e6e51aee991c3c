-- A run up to a moment between two steps of an end.
use Rattle.std.specs.Prelude.{◌≡◌, ℕ, Bool, List, [], ◌∷◌}
use Rattle.std.specs.List.{concat}
use Rattle.dex_line.specs.FrameShapes.{FrameShape}
use Rattle.dex_line.specs.FrameSpelling.{IsSpoken}
use Rattle.dex_handshake.specs.Sound.{AreSaid, IsSound}
use Rattle.dsd_record.specs.Choices.{Chooser}
use Rattle.dsd_journal.specs.declared.entry.Entry.{Entry}
use Rattle.dsd_journal.specs.declared.header.Header.{Header}
use Rattle.dsd_end.specs.Carrying.{Carried, OccurInOrder, texts_in}
use Rattle.dsd_end.specs.PollStep.{Done}
use Rattle.dsd_end.specs.Speaking.{IsBacked}
use Rattle.own_turn.specs.TurnsGrow.{IsGrown}

-- the text is the join of the texts of blocks that occur in these bytes one behind another
pub record CarriesText (bytes text : List ℕ) : Type 0 where
  pub blocks : List (List ℕ × Bool)
  pub occur : OccurInOrder blocks bytes
  pub joined : concat (texts_in blocks) ≡ text

-- the frame can be said, and where it is a data block it is cut from a transmission of sets that are signed in these entries
abbrev pub MayGoOut : List Entry → FrameShape → Type 0
MayGoOut entries frame = IsSpoken frame × IsBacked (entries ∷ []) frame

-- What an end of this header has done since it began over these entries, where it had heard these bytes before those that have begun: new
-- entries are chosen or were carried, what it said may be said over them, and so may what it is sending; the text heard in this turn was
-- put together from blocks that it heard.
pub record SoFar (header : Header) (chooser : Chooser) (first : List Entry) (past : List ℕ) (done : Done) : Type 0 where
  pub is : done.standing.header ≡ header
  pub grown : IsGrown header.role chooser (Carried past) first done.standing.desk.entries
  pub line : IsSound header.own (MayGoOut done.standing.desk.entries) (CarriesText past) done.standing.line
  pub said : AreSaid (MayGoOut done.standing.desk.entries) done.said

-- with these entries
abbrev pub with_entries : Done → List Entry → Done
with_entries done entries = record done { standing = record done.standing { desk = record done.standing.desk { entries = entries } } }
