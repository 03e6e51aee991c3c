-- Two ends face to face, in a turn: the one that sends it and the one that hears it, with what may be in flight.
use Rattle.std.specs.Prelude.{◌≡◌, ◌⊎◌, ℕ, ◌+◌, Bool, true, false, List, [], ◌∷◌, ◌++◌, Option, Some, None, ⊤}
use Rattle.dex_line.specs.FrameShapes.{FrameShape, Enq, Ack0, Nak, Eot, Header, Block, Damaged, Bad}
use Rattle.dex_handshake.specs.LineLaw.{AreFit, IsFront}
use Rattle.dex_handshake.specs.LineTable.{StageName, FirstStage, SecondStage, TextStage, Common, Sending, Taking, Line, Ready, Bidding, Awaiting, SentAll, InText, Finished, Ended, reply_of, nothing_taken, next_stage, text_heard, hears, LineStep}
use Rattle.dex_handshake.specs.LineRun.{load_of, Turns, LineEnd, ended_step, steps}
use Rattle.dex_handshake.specs.declared.session_end.SessionEnd.{SessionEnd}

-- ---- how the two stand

-- The sender bids to one that is ready, or that has sent its own turn; it bids to one that has answered; its frame is not
-- yet taken; it is taken; it has said the Eot; it has ended as it said the Eot; the other rests, with no text to give;
-- it has ended.
pub data Stand : Type 0 where
  AtStart : Common → Common → List FrameShape → Stand
  Bids : Common → Common → List FrameShape → Stand
  Bid : Common → Common → List FrameShape → Stand
  Open : Common → Common → Sending → Taking → Stand
  Done : Common → Common → Sending → Taking → Stand
  Closed : Common → Common → Taking → Stand
  Left : SessionEnd → Common → Taking → Stand
  Rests : Common → Common → List ℕ → Stand
  Gone : SessionEnd → Line → Stand

abbrev pub sender_line : Stand → Line
sender_line (AtStart own its load) = Bidding own load
sender_line (Bids own its load) = Bidding own load
sender_line (Bid own its load) = Bidding own load
sender_line (Open own its sending taking) = Awaiting own sending
sender_line (Done own its sending taking) = Awaiting own sending
sender_line (Closed own its taking) = SentAll own
sender_line (Left end its taking) = Ended end
sender_line (Rests own its text) = SentAll own
sender_line (Gone end line) = Ended end

abbrev pub hearer_line : Stand → Line
hearer_line (AtStart own its load) = Ready its
hearer_line (Bids own its load) = SentAll its
hearer_line (Bid own its load) = InText its nothing_taken
hearer_line (Open own its sending taking) = InText its taking
hearer_line (Done own its sending taking) = InText its taking
hearer_line (Closed own its taking) = InText its taking
hearer_line (Left end its taking) = InText its taking
hearer_line (Rests own its text) = Finished its text
hearer_line (Gone end line) = line

-- ---- what is in flight: nothing, or a frame to the hearer, or one back to the sender

pub data Way : Type 0 where
  Still : Way
  Forth : FrameShape → Way
  Back : FrameShape → Way

abbrev pub turned : Way → Way
turned Still = Still
turned (Forth frame) = Back frame
turned (Back frame) = Forth frame

abbrev pub forth : Option FrameShape → Way
forth None = Still
forth (Some frame) = Forth frame

abbrev pub back : Option FrameShape → Way
back None = Still
back (Some frame) = Back frame

-- the same by what it means
pub data Flying : Type 0 where
  Nothing : Flying
  Enquiry : Flying
  Carried : Flying
  Closing : Flying
  Reply : Flying
  Refusal : Flying
  Reminder : Flying
  NoiseForth : Bool → Flying
  NoiseBack : Bool → Flying
  Stray : FrameShape → Flying

abbrev pub noise : Bool → FrameShape
noise true = Damaged
noise false = Bad

abbrev pub carried : Stand → FrameShape
carried (Open own its sending taking) = sending.frame
carried _ = Bad

abbrev pub replied : Stand → FrameShape
replied (Bid own its load) = Ack0
replied (Open own its sending taking) = reply_of taking.taken
replied (Done own its sending taking) = reply_of taking.taken
replied _ = Bad

abbrev pub way_of : Stand → Flying → Way
way_of stand Nothing = Still
way_of stand Enquiry = Forth Enq
way_of stand Carried = Forth (carried stand)
way_of stand Closing = Forth Eot
way_of stand Reply = Back (replied stand)
way_of stand Refusal = Back Nak
way_of stand Reminder = Back Eot
way_of stand (NoiseForth damaged) = Forth (noise damaged)
way_of stand (NoiseBack damaged) = Back (noise damaged)
way_of stand (Stray frame) = Back frame

abbrev pub FliesBids : Flying → Type 0
FliesBids Nothing = ⊤
FliesBids Enquiry = ⊤
FliesBids Reminder = ⊤
FliesBids (NoiseForth damaged) = ⊤
FliesBids (NoiseBack damaged) = ⊤
FliesBids _ = ⊥

abbrev pub FliesBid : Flying → Type 0
FliesBid Nothing = ⊤
FliesBid Enquiry = ⊤
FliesBid Reply = ⊤
FliesBid Refusal = ⊤
FliesBid (NoiseForth damaged) = ⊤
FliesBid (NoiseBack damaged) = ⊤
FliesBid _ = ⊥

abbrev pub FliesOpen : Flying → Type 0
FliesOpen Nothing = ⊤
FliesOpen Enquiry = ⊤
FliesOpen Carried = ⊤
FliesOpen Reply = ⊤
FliesOpen Refusal = ⊤
FliesOpen (NoiseForth damaged) = ⊤
FliesOpen (NoiseBack damaged) = ⊤
FliesOpen _ = ⊥

-- where the frame is taken, an Enq alone has gone out since
abbrev pub FliesDone : Bool → Flying → Type 0
FliesDone asked Nothing = ⊤
FliesDone asked Enquiry = asked ≡ true
FliesDone asked Reply = ⊤
FliesDone asked Refusal = asked ≡ true
FliesDone asked (NoiseForth damaged) = asked ≡ true
FliesDone asked (NoiseBack damaged) = ⊤
FliesDone asked _ = ⊥

abbrev pub FliesClosed : Flying → Type 0
FliesClosed Nothing = ⊤
FliesClosed Closing = ⊤
FliesClosed Refusal = ⊤
FliesClosed (NoiseForth damaged) = ⊤
FliesClosed (NoiseBack damaged) = ⊤
FliesClosed _ = ⊥

abbrev pub FliesRests : Flying → Type 0
FliesRests Nothing = ⊤
FliesRests Closing = ⊤
FliesRests (NoiseForth damaged) = ⊤
FliesRests _ = ⊥

abbrev pub FliesGone : Flying → Type 0
FliesGone Nothing = ⊤
FliesGone (Stray frame) = ⊤
FliesGone _ = ⊥

abbrev pub Flies : Stand → Flying → Type 0
Flies (AtStart own its load) flying = FliesBids flying
Flies (Bids own its load) flying = FliesBids flying
Flies (Bid own its load) flying = FliesBid flying
Flies (Open own its sending taking) flying = FliesOpen flying
Flies (Done own its sending taking) flying = FliesDone sending.asked flying
Flies (Closed own its taking) flying = FliesClosed flying
Flies (Left end its taking) flying = FliesClosed flying
Flies (Rests own its text) flying = FliesRests flying
Flies (Gone end line) flying = FliesGone flying

-- ---- the load and what was taken of it

-- marked exactly where nothing is left
abbrev pub IsMarked : Bool → List FrameShape → Type 0
IsMarked last [] = last ≡ true
IsMarked last (next ∷ more) = last ≡ false

-- with these blocks the text so far becomes the text
abbrev pub Leaves : List ℕ → List FrameShape → List ℕ → Type 0
Leaves front [] text = front ≡ text
Leaves front (Block last piece ∷ more) text = IsMarked last more × Leaves (front ++ piece) more text
Leaves front (_ ∷ more) text = ⊥

abbrev pub IsHeaderLoad : List FrameShape → Type 0
IsHeaderLoad (Header text ∷ []) = ⊤
IsHeaderLoad _ = ⊥

abbrev pub IsBid : StageName → List FrameShape → List ℕ → Type 0
IsBid FirstStage load text = IsHeaderLoad load × (text ≡ [])
IsBid SecondStage load text = IsHeaderLoad load × (text ≡ [])
IsBid TextStage load text = Leaves [] load text × (load ≡ load_of text)

-- of this load these frames were taken, and this one and those that are left were not
abbrev pub IsOpen : StageName → List FrameShape → FrameShape → List FrameShape → ℕ → Taking → List ℕ → Type 0
IsOpen FirstStage took frame left block taking text = IsHeaderLoad (frame ∷ left) × (block ≡ 1) × (text ≡ [])
IsOpen SecondStage took frame left block taking text = IsHeaderLoad (frame ∷ left) × (block ≡ 1) × (text ≡ [])
IsOpen TextStage took frame left block taking text =
    (taking.whole ≡ false) × Leaves taking.text (frame ∷ left) text × (took ++ frame ∷ left ≡ load_of text)

-- the frame was taken too
abbrev pub IsDone : StageName → List FrameShape → List FrameShape → Taking → List ℕ → Type 0
IsDone FirstStage took left taking text = (left ≡ []) × (text ≡ [])
IsDone SecondStage took left taking text = (left ≡ []) × (text ≡ [])
IsDone TextStage took left taking text = IsMarked taking.whole left × Leaves taking.text left text × (took ++ left ≡ load_of text)

-- all was taken
abbrev pub IsClosed : StageName → List FrameShape → Taking → List ℕ → Type 0
IsClosed FirstStage took taking text = text ≡ []
IsClosed SecondStage took taking text = text ≡ []
IsClosed TextStage took taking text = (text_heard taking ≡ text) × (took ≡ load_of text)

-- ---- the turns before

-- no text was given or handed on yet; these texts stand before those that the two give
pub record NoTurns (bx gx hx by gy hy front behind : List (List ℕ)) : Type 0 where
  pub gave : gx ≡ []
  pub handed : hx ≡ []
  pub given : gy ≡ []
  pub handed_on : hy ≡ []
  pub fronts : bx ≡ front
  pub behinds : by ≡ behind

-- The hearer has handed on what the sender gave before this text, and the sender all that the hearer gave. Before the
-- receiver's first text stands its header turn, at the end of which the supplier hands on the empty text.
pub record Owes (bx gx hx by gy hy : List (List ℕ)) (text : List ℕ) : Type 0 where
  pub this : bx ++ gx ≡ hy ++ text ∷ []
  pub others : by ++ gy ≡ hx

-- the last text that was given
abbrev pub IsGiven : List (List ℕ) → List ℕ → Type 0
IsGiven given text = (before : List (List ℕ)) × (given ≡ before ++ text ∷ [])

abbrev pub OwedTexts : StageName → List (List ℕ) → List (List ℕ) → List (List ℕ) → List (List ℕ) → List (List ℕ) → List (List ℕ) → List ℕ → Type 0
OwedTexts FirstStage bx gx hx by gy hy text = NoTurns bx gx hx by gy hy [] ([] ∷ [])
OwedTexts SecondStage bx gx hx by gy hy text = NoTurns bx gx hx by gy hy ([] ∷ []) []
OwedTexts TextStage bx gx hx by gy hy text = Owes bx gx hx by gy hy text × IsGiven gx text

abbrev pub Owed : StageName → List (List ℕ) → Turns → List (List ℕ) → Turns → List ℕ → Type 0
Owed stage bx tx by ty text = OwedTexts stage bx tx.given tx.handed by ty.given ty.handed text

-- what was handed on is a front of what the other gave
pub record PastTexts (bx gx hx by gy hy : List (List ℕ)) : Type 0 where
  pub mine : IsFront hx (by ++ gy)
  pub its : IsFront hy (bx ++ gx)

abbrev pub Past : List (List ℕ) → Turns → List (List ℕ) → Turns → Type 0
Past bx tx by ty = PastTexts bx tx.given tx.handed by ty.given ty.handed

-- the other has taken all blocks of the last text that this one gave
abbrev pub TookLast : Turns → Turns → Type 0
TookLast tx ty = (tx.given ≡ []) ⊎ ((text : List ℕ) × IsGiven tx.given text × (ty.took ≡ load_of text))

-- where it has said its Eot
abbrev pub LastOf : Line → Turns → Turns → Type 0
LastOf (SentAll own) tx ty = TookLast tx ty
LastOf _ tx ty = ⊤

-- ---- the invariant

abbrev pub InTurn : StageName → StageName → Common → Common → List (List ℕ) → Turns → List (List ℕ) → Turns → List ℕ → Type 0
InTurn stage its_stage own its bx tx by ty text = (own.stage ≡ stage) × (its.stage ≡ its_stage) × Owed stage bx tx by ty text

abbrev pub Facts : Stand → List (List ℕ) → Turns → List (List ℕ) → Turns → Type 0
Facts (AtStart own its load) bx tx by ty =
    (text : List ℕ) × InTurn FirstStage FirstStage own its bx tx by ty text × IsBid FirstStage load text
Facts (Bids own its load) bx tx by ty =
    (stage : StageName) × (text : List ℕ) × InTurn (next_stage stage) stage own its bx tx by ty text × IsBid (next_stage stage) load text × TookLast ty tx
Facts (Bid own its load) bx tx by ty =
    (stage : StageName) × (text : List ℕ) × InTurn stage stage own its bx tx by ty text × IsBid stage load text × (ty.took ≡ [])
Facts (Open own its sending taking) bx tx by ty =
    (stage : StageName) × (text : List ℕ) × InTurn stage stage own its bx tx by ty text × (taking.taken + 1 ≡ sending.block) × IsOpen stage ty.took sending.frame sending.left sending.block taking text
Facts (Done own its sending taking) bx tx by ty =
    (stage : StageName) × (text : List ℕ) × InTurn stage stage own its bx tx by ty text × (taking.taken ≡ sending.block) × IsDone stage ty.took sending.left taking text
Facts (Closed own its taking) bx tx by ty =
    (stage : StageName) × (text : List ℕ) × InTurn stage stage own its bx tx by ty text × IsClosed stage ty.took taking text
Facts (Left end its taking) bx tx by ty =
    (stage : StageName) × (text : List ℕ) × InTurn stage stage its its bx tx by ty text × IsClosed stage ty.took taking text
Facts (Rests own its text) bx tx by ty = Past bx tx by ty × TookLast tx ty × (ty.waiting ≡ [])
Facts (Gone end line) bx tx by ty = Past bx tx by ty × LastOf line ty tx

-- the first end sends, or has sent, and the second one hears
pub record Holds (bx : List (List ℕ)) (x : LineEnd) (by : List (List ℕ)) (y : LineEnd) (way : Way) : Type 0 where
  pub stand : Stand
  pub flying : Flying
  pub sender : x.line ≡ sender_line stand
  pub hearer : y.line ≡ hearer_line stand
  pub flown : way ≡ way_of stand flying
  pub flies : Flies stand flying
  pub facts : Facts stand bx x.turns by y.turns
  pub mine : AreFit x.turns.waiting
  pub other : AreFit y.turns.waiting

-- either end may be the sender
abbrev pub GoesOn : List (List ℕ) → LineEnd → List (List ℕ) → LineEnd → Way → Type 0
GoesOn bx x by y way = Holds bx x by y way ⊎ Holds by y bx x (turned way)

-- the sender has heard a frame, and makes this step
abbrev pub SenderHears : List (List ℕ) → LineEnd → List (List ℕ) → LineEnd → FrameShape → LineStep → Type 0
SenderHears bx x by y frame step = GoesOn bx (steps x frame step).end by y (forth (steps x frame step).say)

abbrev pub HearerHears : List (List ℕ) → LineEnd → List (List ℕ) → LineEnd → FrameShape → LineStep → Type 0
HearerHears bx x by y frame step = GoesOn bx x by (steps y frame step).end (back (steps y frame step).say)

-- it has heard a Quiet
abbrev pub SenderWaits : List (List ℕ) → LineEnd → List (List ℕ) → LineEnd → LineStep → Type 0
SenderWaits bx x by y step = GoesOn bx (ended_step x.turns step).end by y (forth step.say)

abbrev pub HearerWaits : List (List ℕ) → LineEnd → List (List ℕ) → LineEnd → LineStep → Type 0
HearerWaits bx x by y step = GoesOn bx x by (ended_step y.turns step).end (back step.say)

-- what is in flight is delivered
abbrev pub Delivered : List (List ℕ) → LineEnd → List (List ℕ) → LineEnd → Way → Type 0
Delivered bx x by y Still = ⊤
Delivered bx x by y (Forth frame) = HearerHears bx x by y frame (hears y.line frame)
Delivered bx x by y (Back frame) = SenderHears bx x by y frame (hears x.line frame)
