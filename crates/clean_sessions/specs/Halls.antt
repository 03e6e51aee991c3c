-- Two ends between which every frame is delivered, from one own turn to the next.
use Rattle.std.specs.Prelude.{◌≡◌, ◌≤◌, ◌+◌, ◌*◌, ℕ, zero, suc, Bool, true, false, ◌&&◌, List, [], ◌∷◌, length}
use Rattle.std.specs.List.{list_all}
use Rattle.dex_line.specs.Bytes.{is_text}
use Rattle.dex_line.specs.FrameShapes.{FrameShape, Enq}
use Rattle.dex_line.specs.TextUnits.{UnitsFit}
use Rattle.dxs_envelope.specs.declared.outgoing.TheConstants.{TRANSMISSION_BYTES}
use Rattle.dsd_record.specs.Choices.{Chooser}
use Rattle.dex_handshake.specs.LineRun.{load_of}
use Rattle.dex_handshake.specs.LineTable.{Bidding, Common, Ended, SentAll}
use Rattle.dex_handshake.specs.declared.session_end.SessionEnd.TheVariants.{Complete}
use Rattle.own_turn.specs.OwnTurn.{Desk, Turned}
use Rattle.dsd_end.specs.PollStep.{Done}
use Rattle.dsd_end.specs.Standings.{Standing}
use Rattle.clean_sessions.specs.CleanTurns.{ArePair, has_none, next_hearer, next_owner}
use Rattle.clean_sessions.specs.Feeding.{IsCalm, IsFed}

-- an end: how it chooses, where it stands, and how often it was polled
pub record Post : Type 0 where
  pub chooser : Chooser
  pub standing : Standing
  pub polls : ℕ

-- The end to which what is on its way goes, the other one, and what is on its way.
pub record Hall : Type 0 where
  pub near : Post
  pub far : Post
  pub flight : List FrameShape

abbrev pub polled : Post → ℕ → Standing → Post
polled post count standing = record { chooser = post.chooser; standing = standing; polls = post.polls + count }

-- The one frame on its way is fed to its end whole. What that end says is then on its way to the other one.
pub record CleanStep (old new : Hall) : Type 0 where
  pub frame : FrameShape
  pub pieces : List (List ℕ)
  pub done : Done
  pub flight : old.flight ≡ frame ∷ []
  pub fed : IsFed old.near.chooser old.near.standing frame pieces done
  pub next : new ≡ record { near = old.far; far = polled old.near (length pieces) done.standing; flight = done.said }

-- so many frames, each with its reply
abbrev pub AreExchanged : ℕ → Hall → Hall → Type 0
AreExchanged zero old new = old ≡ new
AreExchanged (suc n) old new = (middle : Hall) × (next : Hall) × CleanStep old middle × CleanStep middle next × AreExchanged n next new

-- a turn of so many blocks: the Enq and the blocks with their replies, and the Eot
abbrev pub IsTurnTaken : ℕ → Hall → Hall → Type 0
IsTurnTaken blocks old new = (behind : Hall) × AreExchanged (suc blocks) old behind × CleanStep behind new

-- ---- turns of texts

-- a text that a turn may have: none, or a written transmission
pub record IsTurnText (text : List ℕ) : Type 0 where
  pub units : UnitsFit text
  pub bytes : list_all is_text text ≡ true
  pub short : length text ≤ TRANSMISSION_BYTES

-- One end bids with the load of a text, and its Enq is on its way to the other one, which waits for it.
pub record BeginsTurn (owner hearer : Common) (text : List ℕ) (hall : Hall) : Type 0 where
  pub bids : hall.far.standing.line ≡ Bidding owner (load_of text)
  pub waits : hall.near.standing.line ≡ SentAll hearer
  pub pair : ArePair owner hearer
  pub load : IsTurnText text
  pub far_calm : IsCalm hall.far.standing
  pub near_calm : IsCalm hall.near.standing
  pub flight : hall.flight ≡ Enq ∷ []

-- the session is complete at both ends, and neither has done more
pub record IsComplete (old new : Hall) : Type 0 where
  pub near : new.near.standing.line ≡ Ended Complete
  pub far : new.far.standing.line ≡ Ended Complete
  pub flight : new.flight ≡ []
  pub desk : new.far.standing.desk ≡ old.near.standing.desk

-- The end that has heard the text takes its own turn behind it, and bids with the load of that.
pub record TakesNext (owner hearer : Common) (text : List ℕ) (old new : Hall) : Type 0 where
  pub desk : Desk
  pub load : List ℕ
  pub turned : Turned old.near.standing.header old.near.chooser old.near.standing.desk text desk load
  pub left : new.far.standing.desk ≡ desk
  pub begins : BeginsTurn (next_owner hearer (has_none text)) (next_hearer owner (has_none text)) load new

-- the second turn in succession without a block, or another one
abbrev pub GoesOn : Bool → Common → Common → List ℕ → Hall → Hall → Type 0
GoesOn true owner hearer text old new = IsComplete old new
GoesOn false owner hearer text old new = TakesNext owner hearer text old new

-- what so many blocks cost each end, and what does not change
pub record CostsPolls (blocks : ℕ) (old new : Hall) : Type 0 where
  pub owner : new.near.polls ≤ old.far.polls + (1 + blocks)
  pub hearer : new.far.polls ≤ old.near.polls + (2 + 4 * blocks)
  pub desk : new.near.standing.desk ≡ old.far.standing.desk
  pub choosers : (new.near.chooser ≡ old.far.chooser) × (new.far.chooser ≡ old.near.chooser)
  pub headers : (new.near.standing.header ≡ old.far.standing.header) × (new.far.standing.header ≡ old.near.standing.header)

-- A turn of a text leaves the hall so.
pub record LeavesHall (owner hearer : Common) (text : List ℕ) (old new : Hall) : Type 0 where
  pub costs : CostsPolls (length (load_of text)) old new
  pub goes : GoesOn (has_none text && owner.empty) owner hearer text old new
