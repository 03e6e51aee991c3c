-- What an end may say, and what of the text that it has heard holds, at each state of the line.
use Rattle.std.specs.Prelude.{◌≡◌, ◌⊎◌, ℕ, List, [], ◌∷◌, ◌++◌, codes, Contains, Option, Some, None, ⊤}
use Rattle.dex_line.specs.FrameShapes.{FrameShape, Enq, Ack0, Ack1, Nak, Eot, Header, Block, Damaged, Bad}
use Rattle.dex_line.specs.FrameSpelling.{IsSpoken}
use Rattle.dex_handshake.specs.LineTable.{Line, LineStep, Ready, Bidding, Awaiting, SentAll, InText, Finished, Ended}

-- P holds of each of these frames
abbrev pub AreSaid : (FrameShape → Type 0) → List FrameShape → Type 0
AreSaid P [] = ⊤
AreSaid P (frame ∷ frames) = P frame × AreSaid P frames

-- P holds of what is said, if something is
abbrev pub IsSaid : (FrameShape → Type 0) → Option FrameShape → Type 0
IsSaid P None = ⊤
IsSaid P (Some frame) = P frame

-- P holds of each frame of the load that is not yet done, the id is this end's, and C holds of the text heard in this turn
abbrev pub IsSound : List ℕ → (FrameShape → Type 0) → (List ℕ → Type 0) → Line → Type 0
IsSound id P C (Ready own) = own.own ≡ id
IsSound id P C (Bidding own load) = (own.own ≡ id) × AreSaid P load
IsSound id P C (Awaiting own sending) = (own.own ≡ id) × P sending.frame × AreSaid P sending.left
IsSound id P C (SentAll own) = own.own ≡ id
IsSound id P C (InText own taking) = (own.own ≡ id) × C taking.text
IsSound id P C (Finished own text) = (own.own ≡ id) × C text
IsSound id P C (Ended end) = ⊤

-- the same of the next state, and P of what is said
abbrev pub IsSoundStep : List ℕ → (FrameShape → Type 0) → (List ℕ → Type 0) → LineStep → Type 0
IsSoundStep id P C step = IsSound id P C step.next × IsSaid P step.say

-- ---- what P may be

-- any text
abbrev pub AnyText : List ℕ → Type 0
AnyText text = ⊤

-- what the line says can be spelled, and so can the next state
abbrev pub IsSayable : List ℕ → Line → Type 0
IsSayable id line = IsSound id IsSpoken AnyText line

abbrev pub IsSayableStep : List ℕ → LineStep → Type 0
IsSayableStep id step = IsSoundStep id IsSpoken AnyText step

-- a control frame, one of the headers of this end, or a frame of this load
abbrev pub IsOwnFrame : List ℕ → List FrameShape → FrameShape → Type 0
IsOwnFrame id load Enq = ⊤
IsOwnFrame id load Ack0 = ⊤
IsOwnFrame id load Ack1 = ⊤
IsOwnFrame id load Nak = ⊤
IsOwnFrame id load Eot = ⊤
IsOwnFrame id load (Header text) =
    (text ≡ id ++ codes "SR01L01") ⊎ (text ≡ codes "00" ++ id ++ codes "R01L01") ⊎ (text ≡ codes "01" ++ id ++ codes "R01L01")
IsOwnFrame id load (Block last text) = Contains load (Block last text)
IsOwnFrame id load Damaged = ⊥
IsOwnFrame id load Bad = ⊥

-- what the line says is its own or of this load, and so is what it is sending
abbrev pub SendsLoad : List ℕ → List FrameShape → Line → Type 0
SendsLoad id load line = IsSound id (IsOwnFrame id load) AnyText line

abbrev pub SendsLoadStep : List ℕ → List FrameShape → LineStep → Type 0
SendsLoadStep id load step = IsSoundStep id (IsOwnFrame id load) AnyText step
