-- A turn in which every frame is delivered: the end whose turn it is, the one that hears it, and the frame on its way to that one.
use Rattle.std.specs.Prelude.{◌≡◌, ℕ, Bool, true, false, ◌&&◌, if◌then◌else◌, List, [], ◌∷◌, ⊤}
use Rattle.dex_line.specs.FrameShapes.{FrameShape, Ack0, Ack1, Enq, Eot}
use Rattle.dex_handshake.specs.LineRun.{load_of}
use Rattle.dex_handshake.specs.LineTable.{Common, Line, Taking, Bidding, SentAll, InText, Finished, Ended, TextStage, ends, hears, next_stage, says, says_nothing}
use Rattle.dex_handshake.specs.declared.session_end.SessionEnd.TheVariants.{Complete}

pub record Volley : Type 0 where
  pub owner : Line
  pub hearer : Line
  pub frame : FrameShape

abbrev pub IsReply : FrameShape → Type 0
IsReply Ack0 = ⊤
IsReply Ack1 = ⊤
IsReply _ = ⊥

-- the frame is heard, the reply is heard, and the next frame is on its way
pub record Exchanges (old new : Volley) : Type 0 where
  pub reply : FrameShape
  pub is_reply : IsReply reply
  pub heard : hears old.hearer old.frame ≡ says reply new.hearer
  pub next : hears old.owner reply ≡ says new.frame new.owner

-- these frames are heard one after another, each with its reply
abbrev pub ExchangesAll : List FrameShape → Volley → Volley → Type 0
ExchangesAll [] old new = old ≡ new
ExchangesAll (frame ∷ frames) old new = (old.frame ≡ frame) × (between : Volley) × Exchanges old between × ExchangesAll frames between new

-- ---- turns of texts

-- before a turn: the owner has its load, and the hearer waits for it
abbrev pub begins : Common → Common → List FrameShape → Volley
begins owner hearer load = record { owner = Bidding owner load; hearer = SentAll hearer; frame = Enq }

abbrev pub has_none : List ℕ → Bool
has_none [] = true
has_none (byte ∷ more) = false

-- the end that bids, and the end that waits for it: both know whether the turn before had no block
pub record ArePair (owner hearer : Common) : Type 0 where
  pub stage : owner.stage ≡ TextStage
  pub their_stage : next_stage hearer.stage ≡ TextStage
  pub same : owner.empty ≡ hearer.empty

-- the hearer, whose turn comes then, and the owner, behind a turn without blocks or with some
abbrev pub next_owner : Common → Bool → Common
next_owner hearer none = record hearer { stage = TextStage; empty = none; quiets = 0 }

abbrev pub next_hearer : Common → Bool → Common
next_hearer owner none = record owner { empty = none; quiets = 0 }

-- The whole turn with a load that is the blocks of a text: its frames with their replies, and then Eot. It hands on its text; or it is the second
-- one in succession without a block, and the session is complete at both ends.
pub record PassesAs (owner hearer : Common) (load : List FrameShape) (text : List ℕ) (none : Bool) : Type 0 where
  pub volley : Volley
  pub frames : ExchangesAll (Enq ∷ load) (begins owner hearer load) volley
  pub last : volley.frame ≡ Eot
  pub common : Common
  pub taking : Taking
  pub takes : volley.hearer ≡ InText common taking
  pub left : volley.owner ≡ (if none && owner.empty then Ended Complete else SentAll (next_hearer owner none))
  pub handed : hears volley.hearer Eot ≡ (if none && owner.empty then ends Complete else says_nothing (Finished (next_owner hearer none) text))

abbrev pub Passes : Common → Common → List ℕ → Type 0
Passes owner hearer text = PassesAs owner hearer (load_of text) text (has_none text)
