-- What the rows of the table say may be said, where what is being sent may be; and a text that was heard goes on.
use Rattle.std.proofs.Common.{◌≡◌, ℕ, Bool, true, false, List, [], ◌∷◌, ◌++◌, Option, Some, None, subst, sym}
use Rattle.std.specs.Prelude.{◌+◌, ◌==◌, ◌&&◌, ◌%◌, ⊤, codes, if◌then◌else◌, length, nat_lt}
use Rattle.dex_line.specs.FrameShapes.{FrameShape, Enq, Ack0, Ack1, Nak, Eot, Header, Block, Damaged, Bad}
use Rattle.dex_handshake.specs.LineTable.{Common, Line, LineStep, Partner, Sending, StageName, Taking, FirstStage, SecondStage, TextStage, Ready, Bidding, Awaiting, SentAll, InText, Finished, Ended, again, awaiting_hears, bidding_hears, ends, eot_again, first_over, gives, hears, hears_block, hears_eot, in_text_hears, is_odd, last_reply, next_frame, no_quiets, one_quiet, quiets, read_header, ready_hears, refused_or, reply_of, same_id, says, says_eot, second_header, second_over, sent_all_hears, says_nothing, takes_block, takes_header, text_heard, text_over, unless_silent, with_block}
use Rattle.dex_handshake.specs.Sound.{AreSaid, IsSound, IsSoundStep}
use Rattle.dex_handshake.specs.declared.session_end.SessionEnd.TheVariants.{Complete, PartnerRefused, Silent, TextLimit, TriesSpent, WrongPartner}
use Rattle.dxs_envelope.specs.declared.outgoing.TheConstants.{TRANSMISSION_BYTES}
use Rattle.dex_handshake.specs.declared.session_end.TheConstants.{MOST_QUIETS, MOST_TRIES}

-- P holds of the control frames, and of the second header of this id
pub record MaySay (id : List ℕ) (P : FrameShape → Type 0) : Type 0 where
  pub enq : P Enq
  pub ack0 : P Ack0
  pub ack1 : P Ack1
  pub nak : P Nak
  pub eot : P Eot
  pub greets : (ready : Bool) → P (Header ((if ready then codes "00" else codes "01") ++ id ++ codes "R01L01"))

-- a block goes on with the text
abbrev pub GoesOn : (List ℕ → Type 0) → (List ℕ → Type 0) → FrameShape → Type 0
GoesOn C D (Block last text) = (before : List ℕ) → C before → D (before ++ text)
GoesOn C D Enq = ⊤
GoesOn C D Ack0 = ⊤
GoesOn C D Ack1 = ⊤
GoesOn C D Nak = ⊤
GoesOn C D Eot = ⊤
GoesOn C D (Header text) = ⊤
GoesOn C D Damaged = ⊤
GoesOn C D Bad = ⊤

module _ (id : List ℕ) (P : FrameShape → Type 0) (may : MaySay id P) where
  either : (C : List ℕ → Type 0) (b : Bool) (x y : LineStep) → IsSoundStep id P C x → IsSoundStep id P C y → IsSoundStep id P C (if b then x else y)
  either C true x y p q = p
  either C false x y p q = q

  says_reply : (k : ℕ) → P (reply_of k)
  says_reply k = by_parity (is_odd k)
    where
      by_parity : (b : Bool) → P (if b then Ack1 else Ack0)
      by_parity true = may.ack1
      by_parity false = may.ack0

  refuses : (C : List ℕ → Type 0) (own at : Common) (partner : Option Partner) → at.own ≡ id → IsSoundStep id P C (refused_or own partner (SentAll at))
  refuses C own at None s = (s, may.eot)
  refuses C own at (Some partner) s =
      either C (same_id partner.id own.peer) (says Eot (SentAll at)) (says Eot (Ended (WrongPartner partner.id))) (s, may.eot) (tt, may.eot)

  eots : (C : List ℕ → Type 0) (stage : StageName) (own : Common) (none : Bool) → own.own ≡ id → IsSoundStep id P C (says_eot stage own none)
  eots C FirstStage own none s = (s, may.eot)
  eots C SecondStage own none s = refuses C own _ own.partner s
  eots C TextStage own none s =
      either C (none && own.empty) (says Eot (Ended Complete)) (says Eot (SentAll (record own { empty = none }))) (tt, may.eot) (s, may.eot)

  goes_on : (C : List ℕ → Type 0) (own : Common) (done : ℕ) (left : List FrameShape) → own.own ≡ id → AreSaid P left → IsSoundStep id P C (next_frame own done left)
  goes_on C own done [] s l = eots C own.stage own (done == 0) s
  goes_on C own done (frame ∷ more) s (f, l) = ((s, f, l), f)

  once_more : (C : List ℕ → Type 0) (own : Common) (sending : Sending) → own.own ≡ id → P sending.frame → AreSaid P sending.left → IsSoundStep id P C (again own sending)
  once_more C own sending s f l =
      either C (nat_lt sending.tries MOST_TRIES) (says sending.frame (Awaiting own (record sending { tries = sending.tries + 1; asked = false }))) (ends (TriesSpent sending.block)) ((s, f, l), f) (tt, tt)

module _ (id : List ℕ) (P : FrameShape → Type 0) (may : MaySay id P) (C D : List ℕ → Type 0) (empty : D []) (keeps : (text : List ℕ) → C text → D text) where
  header : (own : Common) (taking : Taking) (read before : Option Partner) → own.own ≡ id → D taking.text → IsSoundStep id P D (takes_header own taking read before)
  header own taking None before s t = ((s, t), tt)
  header own taking (Some partner) None s t = ((s, t), may.ack1)
  header own taking (Some partner) (Some old) s t = ((s, t), says_reply id P may taking.taken)

  room : (own : Common) (taking : Taking) (last : Bool) (text : List ℕ) → own.own ≡ id → D (taking.text ++ text)
      → IsSoundStep id P D (if nat_lt TRANSMISSION_BYTES (length taking.text + length text) then ends TextLimit else says (reply_of (taking.taken + 1)) (InText own (with_block taking last text)))
  room own taking last text s t =
      either id P may D (nat_lt TRANSMISSION_BYTES (length taking.text + length text)) (ends TextLimit) (says (reply_of (taking.taken + 1)) (InText own (with_block taking last text)))
      (tt, tt) ((s, t), says_reply id P may (taking.taken + 1))

  block : (own : Common) (taking : Taking) (last : Bool) (text : List ℕ) → own.own ≡ id → D taking.text → D (taking.text ++ text) → IsSoundStep id P D (takes_block own taking last text)
  block own taking last [] s t u = ((s, t), tt)
  block own taking last (b ∷ more) s t u =
      either id P may D taking.whole (says (last_reply taking) (InText own taking)) _ ((s, t), says_reply id P may taking.taken) (room own taking last (b ∷ more) s u)

  blocks : (stage : StageName) (own : Common) (taking : Taking) (last : Bool) (text : List ℕ) → own.own ≡ id → D taking.text → D (taking.text ++ text) → IsSoundStep id P D (hears_block stage own taking last text)
  blocks FirstStage own taking last text s t u = ((s, t), tt)
  blocks SecondStage own taking last text s t u = ((s, t), tt)
  blocks TextStage own taking last text s t u = block own taking last text s t u

  greeting : (own : Common) (partner : Partner) → own.own ≡ id → P (second_header own partner)
  greeting own partner s =
      subst (λ (i : List ℕ). P (Header ((if same_id partner.id own.peer then codes "00" else codes "01") ++ i ++ codes "R01L01"))) (sym s) (may.greets (same_id partner.id own.peer))

  first : (own : Common) (taking : Taking) (partner : Option Partner) → own.own ≡ id → D taking.text → IsSoundStep id P D (first_over own taking partner)
  first own taking None s t = ((s, t), tt)
  first own taking (Some partner) s t = ((s, (greeting own partner s, tt)), may.enq)

  peer : (own : Common) (partner : Partner) → own.own ≡ id
      → IsSoundStep id P D (if same_id partner.id own.peer then says_nothing (Finished (record own { stage = TextStage; partner = None }) []) else ends (WrongPartner partner.id))
  peer own partner s =
      either id P may D (same_id partner.id own.peer) (says_nothing (Finished (record own { stage = TextStage; partner = None }) [])) (ends (WrongPartner partner.id)) ((s, empty), tt) (tt, tt)

  second : (own : Common) (taking : Taking) (partner : Option Partner) → own.own ≡ id → D taking.text → IsSoundStep id P D (second_over own taking partner)
  second own taking None s t = ((s, t), tt)
  second own taking (Some partner) s t = either id P may D (partner.code == 0) _ (ends (PartnerRefused partner.code)) (peer own partner s) (tt, tt)

  heard_text : (taking : Taking) → D taking.text → D (text_heard taking)
  heard_text taking t = by_whole taking.whole
    where
      by_whole : (b : Bool) → D (if b then taking.text else [])
      by_whole true = t
      by_whole false = empty

  texts_over : (own : Common) (taking : Taking) → own.own ≡ id → D taking.text → IsSoundStep id P D (text_over own taking)
  texts_over own taking s t =
      either id P may D ((taking.taken == 0) && own.empty) (ends Complete) (says_nothing (Finished (record own { empty = taking.taken == 0 }) (text_heard taking))) (tt, tt) ((s, heard_text taking t), tt)

  over : (stage : StageName) (own : Common) (taking : Taking) → own.own ≡ id → D taking.text → IsSoundStep id P D (hears_eot stage own taking)
  over FirstStage own taking s t = first own taking own.partner s t
  over SecondStage own taking s t = second own taking own.partner s t
  over TextStage own taking s t = texts_over own taking s t

  in_text : (own : Common) (taking : Taking) (frame : FrameShape) → own.own ≡ id → C taking.text → GoesOn C D frame → IsSoundStep id P D (in_text_hears own taking frame)
  in_text own taking Enq s t g = ((s, keeps taking.text t), says_reply id P may taking.taken)
  in_text own taking Ack0 s t g = ((s, keeps taking.text t), tt)
  in_text own taking Ack1 s t g = ((s, keeps taking.text t), tt)
  in_text own taking Nak s t g = ((s, keeps taking.text t), tt)
  in_text own taking Eot s t g = over own.stage own taking s (keeps taking.text t)
  in_text own taking (Header text) s t g = header own taking (read_header own.stage text) own.partner s (keeps taking.text t)
  in_text own taking (Block last text) s t g = blocks own.stage own taking last text s (keeps taking.text t) (g taking.text t)
  in_text own taking Damaged s t g = ((s, keeps taking.text t), may.nak)
  in_text own taking Bad s t g = ((s, keeps taking.text t), tt)

  ready : (own : Common) (frame : FrameShape) → own.own ≡ id → IsSoundStep id P D (ready_hears own frame)
  ready own Enq s = ((s, empty), may.ack0)
  ready own Ack0 s = (s, tt)
  ready own Ack1 s = (s, tt)
  ready own Nak s = (s, tt)
  ready own Eot s = (s, tt)
  ready own (Header text) s = (s, tt)
  ready own (Block last text) s = (s, tt)
  ready own Damaged s = (s, tt)
  ready own Bad s = (s, tt)

  bidding : (own : Common) (load : List FrameShape) (frame : FrameShape) → own.own ≡ id → AreSaid P load → IsSoundStep id P D (bidding_hears own load frame)
  bidding own load Enq s l = ((s, l), tt)
  bidding own load Ack0 s l = goes_on id P may D own 0 load s l
  bidding own load Ack1 s l = ((s, l), tt)
  bidding own load Nak s l = ((s, l), tt)
  bidding own load Eot s l = ((s, l), may.enq)
  bidding own load (Header text) s l = ((s, l), tt)
  bidding own load (Block last text) s l = ((s, l), tt)
  bidding own load Damaged s l = ((s, l), tt)
  bidding own load Bad s l = ((s, l), tt)

  awaiting : (own : Common) (sending : Sending) (frame : FrameShape) → own.own ≡ id → P sending.frame → AreSaid P sending.left → IsSoundStep id P D (awaiting_hears own sending frame)
  awaiting own sending Enq s f l = ((s, f, l), tt)
  awaiting own sending Ack0 s f l =
      either id P may D (is_odd sending.block) (again own sending) (next_frame own sending.block sending.left) (once_more id P may D own sending s f l) (goes_on id P may D own sending.block sending.left s l)
  awaiting own sending Ack1 s f l =
      either id P may D (is_odd sending.block) (next_frame own sending.block sending.left) (again own sending) (goes_on id P may D own sending.block sending.left s l) (once_more id P may D own sending s f l)
  awaiting own sending Nak s f l =
      either id P may D sending.asked (says Enq (Awaiting own sending)) (again own sending) ((s, f, l), may.enq) (once_more id P may D own sending s f l)
  awaiting own sending Eot s f l = ((s, f, l), tt)
  awaiting own sending (Header text) s f l = ((s, f, l), tt)
  awaiting own sending (Block last text) s f l = ((s, f, l), tt)
  awaiting own sending Damaged s f l = ((s, f, l), tt)
  awaiting own sending Bad s f l = ((s, f, l), tt)

  sent : (own : Common) (frame : FrameShape) → own.own ≡ id → IsSoundStep id P D (sent_all_hears own frame)
  sent own Enq s = ((s, empty), may.ack0)
  sent own Ack0 s = (s, tt)
  sent own Ack1 s = (s, tt)
  sent own Nak s = (s, tt)
  sent own Eot s = (s, tt)
  sent own (Header text) s = (s, tt)
  sent own (Block last text) s = (s, tt)
  sent own Damaged s = (s, tt)
  sent own Bad s = (s, tt)

  -- a frame
  pub hears_soundly : (line : Line) (frame : FrameShape) → IsSound id P C line → GoesOn C D frame → IsSoundStep id P D (hears line frame)
  hears_soundly (Ready own) frame s g = ready (no_quiets own) frame s
  hears_soundly (Bidding own load) frame (s, l) g = bidding (no_quiets own) load frame s l
  hears_soundly (Awaiting own sending) frame (s, f, l) g = awaiting (no_quiets own) sending frame s f l
  hears_soundly (SentAll own) frame s g = sent (no_quiets own) frame s
  hears_soundly (InText own taking) frame (s, t) g = in_text (no_quiets own) taking frame s t g
  hears_soundly (Finished own text) frame (s, t) g = ((s, keeps text t), tt)
  hears_soundly (Ended end) frame s g = (tt, tt)

module _ (id : List ℕ) (P : FrameShape → Type 0) (may : MaySay id P) (C : List ℕ → Type 0) where
  unless : (own : Common) (step : LineStep) → IsSoundStep id P C step → IsSoundStep id P C (unless_silent own step)
  unless own step s = either id P may C (nat_lt own.quiets MOST_QUIETS) step (ends Silent) s (tt, tt)

  third : (own : Common) → own.own ≡ id → IsSoundStep id P C (eot_again own)
  third own s = either id P may C (own.quiets % 3 == 0) (says Eot (SentAll own)) (says_nothing (SentAll own)) (s, may.eot) (s, tt)

  -- a Quiet
  pub quiets_soundly : (line : Line) → IsSound id P C line → IsSoundStep id P C (quiets line)
  quiets_soundly (Ready own) s = unless (one_quiet own) _ (s, tt)
  quiets_soundly (Bidding own load) (s, l) = unless (one_quiet own) (says Enq (Bidding (one_quiet own) load)) ((s, l), may.enq)
  quiets_soundly (Awaiting own sending) (s, f, l) = unless (one_quiet own) (says Enq (Awaiting (one_quiet own) (record sending { asked = true }))) ((s, f, l), may.enq)
  quiets_soundly (SentAll own) s = unless (one_quiet own) (eot_again (one_quiet own)) (third (one_quiet own) s)
  quiets_soundly (InText own taking) (s, t) = unless (one_quiet own) (says_nothing (InText (one_quiet own) taking)) ((s, t), tt)
  quiets_soundly (Finished own text) (s, t) = unless (one_quiet own) (says_nothing (Finished (one_quiet own) text)) ((s, t), tt)
  quiets_soundly (Ended end) s = (tt, tt)

  -- an own turn
  pub gives_soundly : (line : Line) (load : List FrameShape) → IsSound id P C line → AreSaid P load → IsSoundStep id P C (gives line load)
  gives_soundly (Ready own) load s a = (s, tt)
  gives_soundly (Bidding own before) load s a = (s, tt)
  gives_soundly (Awaiting own sending) load s a = (s, tt)
  gives_soundly (SentAll own) load s a = (s, tt)
  gives_soundly (InText own taking) load s a = (s, tt)
  gives_soundly (Finished own text) load (s, t) a = ((s, a), may.enq)
  gives_soundly (Ended end) load s a = (s, tt)
