-- A turn with few blocks goes quietly, frame by frame.
use Rattle.std.proofs.Common.{◌≡◌, ◌≤◌, ◌<◌, ◌+◌, ◌*◌, inr, ℕ, zero, suc, Bool, true, false, List, [], ◌∷◌, length, take, drop, refl, sym, ◌∙◌, ap, subst, length-drop, arith}
use Rattle.std.specs.Prelude.{if◌then◌else◌}
use Rattle.dex_line.specs.FrameShapes.{FrameShape, Eot}
use Rattle.dex_line.specs.FrameSpelling.{spelling}
use Rattle.dex_handshake.specs.LineTable.{Common, Line, LineStep, Finished, ends, hears, says, says_nothing}
use Rattle.dex_handshake.specs.declared.session_end.SessionEnd.TheVariants.{Complete}
use Rattle.own_turn.specs.NextEntry.{TurnAddsNext}
use Rattle.dsd_end.specs.FullTurns.{FrameFull}
use Rattle.dsd_end.specs.Standings.{Standing, has_ended}
use Rattle.dsd_end.specs.declared.fault.TheConstants.{NOISE_BYTES}
use Rattle.dsd_record.specs.Choices.{Chooser}
use Rattle.clean_sessions.specs.CleanTurns.{Exchanges, ExchangesAll, Volley}
use Rattle.clean_sessions.specs.Feeding.{AreFed}
use Rattle.clean_sessions.specs.FewBlocks.{HasPlace}
use Rattle.clean_sessions.specs.Halls.{AreExchanged, CleanStep, Hall, Post}
use Rattle.clean_sessions.specs.QuietHalls.{GoesQuietly, HearsQuietly}
use Rattle.clean_sessions.proofs.BriefFrames.{AreBrief, IsBrief, reply_brief}
use Rattle.clean_sessions.proofs.BytesHeard.{IsHeardLow, step_low}
use Rattle.clean_sessions.proofs.HallsWalked.{Says, StandsAs, exchange, no_turn, post_at, says_runs, says_step}
use Rattle.clean_sessions.proofs.SessionSeats.{seat_of}

-- ---- bytes of a frame

-- bytes that are fed, and how many polls that takes
record Cut (bytes : List ℕ) : Type 0 where
  pieces : List (List ℕ)
  fed : AreFed bytes pieces
  size : length bytes ≤ 64 * length pieces

cut_of : (n : ℕ) (bytes : List ℕ) → length bytes ≤ n → Cut bytes
cut_of n [] few = record { pieces = []; fed = refl; size = omega arith }
cut_of zero (b ∷ more) few = absurd (omega (arith, few))
cut_of (suc n) (b ∷ more) few =
    let left = length-drop 64 (b ∷ more) in
    let rest = cut_of n (drop 64 (b ∷ more)) (omega (arith, left, few)) in
    let size = rest.size in
    record { pieces = take 64 (b ∷ more) ∷ rest.pieces; fed = ((λ none. absurd (cc)), refl, rest.fed); size = omega (arith, size, left) }

pub brief_size : (most : ℕ) (frame : FrameShape) → IsBrief most frame → length (spelling frame) ≤ 64 * most
brief_size most frame brief =
    let all = cut_of (length (spelling frame)) (spelling frame) (omega arith) in
    let few = brief.few all.pieces all.fed in
    let size = all.size in
    omega (arith, few, size)

-- ---- one frame

-- a frame that is answered is heard quietly
said_quietly : (near far : Post) (line next : Line) (heard polls most limit : ℕ) (frame reply : FrameShape) → hears line frame ≡ says reply next → IsBrief most frame → heard ≤ 64 * polls
    → polls + most ≤ limit → 64 * limit < NOISE_BYTES → HearsQuietly (record { near = post_at near line heard polls; far = far; flight = frame ∷ [] }) frame
said_quietly near far line next heard polls most limit frame reply row brief low within few =
    let size = brief_size most frame brief in
    record {
      flight = refl;
      runs = says_runs line frame reply next row;
      quiet = omega (arith, size, low, within, few);
      place = λ bytes full. no_turn line frame reply next row full.0 full.1 (sym (ap (λ (s : LineStep). s.next) row) ∙ full.2);
    }

same_text : (own other : Common) (text heard : List ℕ) → Finished own text ≡ Finished other heard → heard ≡ text
same_text own other text heard e = cc

never_finishes : (own : Common) (text : List ℕ) → (ends Complete).next ≡ Finished own text → ⊥
never_finishes own text e = absurd (cc)

-- no own turn, or one that finds room
full_not : (chooser : Chooser) (standing : Standing) (line : Line) (both : Bool) (own : Common) (text : List ℕ) (frame : FrameShape) → hears standing.line frame ≡ (if both then ends Complete else says_nothing (Finished own text))
    → (both ≡ false → HasPlace (record { header = standing.header; chooser = chooser; desk = standing.desk }) text) → (bytes : ℕ) → FrameFull chooser standing frame bytes → ⊥
full_not chooser standing line true own text frame row room bytes (other, heard, at, full) = never_finishes other heard (sym (ap (λ (s : LineStep). s.next) row) ∙ at)
full_not chooser standing line false own text frame row room bytes (other, heard, at, (entries, full)) =
    let same : heard ≡ text = same_text own other text heard (sym (ap (λ (s : LineStep). s.next) row) ∙ at) in
    let fits = room refl entries full.entry (subst (λ (t : List ℕ). TurnAddsNext standing.header.role chooser t standing.desk entries full.entry) same full.next) in
    let size = full.size in
    let long = full.long in
    omega (arith, fits, size, long)

-- the Eot of a turn, where both ends are complete behind it or an own turn comes that finds room
pub eot_quietly : (near far : Post) (line : Line) (heard polls limit : ℕ) (both : Bool) (own : Common) (text : List ℕ) → has_ended line ≡ false → hears line Eot ≡ (if both then ends Complete else says_nothing (Finished own text))
    → (both ≡ false → HasPlace (seat_of near) text) → IsBrief 1 Eot → heard ≤ 64 * polls → polls + 1 ≤ limit → 64 * limit < NOISE_BYTES
    → HearsQuietly (record { near = post_at near line heard polls; far = far; flight = Eot ∷ [] }) Eot
eot_quietly near far line heard polls limit both own text runs row room brief low within few =
    let size = brief_size 1 Eot brief in
    record {
      flight = refl;
      runs = runs;
      quiet = omega (arith, size, low, within, few);
      place = full_not near.chooser (post_at near line heard polls).standing line both own text Eot row room;
    }

-- the same of an Eot that is answered by the Enq of the next turn
pub eot_said : (near far : Post) (line next : Line) (heard polls limit : ℕ) (reply : FrameShape) → hears line Eot ≡ says reply next → IsBrief 1 Eot → heard ≤ 64 * polls → polls + 1 ≤ limit → 64 * limit < NOISE_BYTES
    → HearsQuietly (record { near = post_at near line heard polls; far = far; flight = Eot ∷ [] }) Eot
eot_said near far line next heard polls limit reply row brief low within few = said_quietly near far line next heard polls 1 limit Eot reply row brief low within few

-- ---- frame after frame, up to the last one of a turn

module _ (near far : Post) (near_later : near.standing.first ≡ false) (far_later : far.standing.first ≡ false) (near_polls far_polls limit total : ℕ) (few : 64 * limit < NOISE_BYTES) (start : Hall) where
  -- as the hall stands behind them
  pub record IsBehind (volley : Volley) (hall : Hall) : Type 0 where
    pub near_most : ℕ
    pub far_most : ℕ
    pub at : StandsAs near far volley near_polls far_polls near_most far_most hall
    pub near_within : near_polls + near_most + 1 ≤ limit
    pub far_within : far_polls + far_most ≤ limit
    pub taken : AreExchanged total start hall
    pub low : IsHeardLow hall

  -- from there it goes quietly
  abbrev pub Later : Volley → ℕ → Type 0
  Later volley frames = (left : ℕ) → left ≤ frames → (hall : Hall) → IsBehind volley hall → GoesQuietly left hall

  near_low : (volley : Volley) (near_most far_most : ℕ) (hall : Hall) → (at : StandsAs near far volley near_polls far_polls near_most far_most hall) → IsHeardLow hall → at.near_heard ≤ 64 * at.near_now
  near_low volley near_most far_most hall at low = (subst IsHeardLow at.is low).near

  hears_it : (old new : Volley) (near_most far_most : ℕ) (hall : Hall) → Exchanges old new → IsBrief 4 old.frame → StandsAs near far old near_polls far_polls near_most far_most hall → IsHeardLow hall
      → near_polls + near_most + 4 ≤ limit → HearsQuietly hall old.frame
  hears_it old new near_most far_most hall ex brief at low within =
      let now = at.near_few in
      subst (λ (h : Hall). HearsQuietly h old.frame) (sym at.is)
      (said_quietly near (post_at far old.owner at.far_heard at.far_now) old.hearer new.hearer at.near_heard at.near_now 4 limit old.frame ex.reply ex.heard brief (near_low old near_most far_most hall at low)
      (omega (arith, now, within)) few)

  hears_reply : (old new : Volley) (near_most far_most : ℕ) (hall middle : Hall) → (ex : Exchanges old new) → IsBrief 4 old.frame → StandsAs near far old near_polls far_polls near_most far_most hall → IsHeardLow hall
      → CleanStep hall middle → far_polls + far_most + 1 ≤ limit → HearsQuietly middle ex.reply
  hears_reply old new near_most far_most hall middle ex brief at low one within =
      let a : Says near (post_at far old.owner at.far_heard at.far_now) new.hearer at.near_heard at.near_now 4 ex.reply middle =
      says_step near (post_at far old.owner at.far_heard at.far_now) old.hearer new.hearer at.near_heard at.near_now 4 old.frame ex.reply middle near_later brief ex.heard
      (subst (λ (h : Hall). CleanStep h middle) at.is one) in
      let now = at.far_few in
      let heard_low : at.far_heard ≤ 64 * at.far_now = (subst IsHeardLow at.is low).far in
      subst (λ (h : Hall). HearsQuietly h ex.reply) (sym a.is)
      (said_quietly far (post_at near new.hearer a.bytes (at.near_now + a.count)) old.owner new.owner at.far_heard at.far_now 1 limit ex.reply new.frame ex.next (reply_brief ex.reply ex.is_reply) heard_low
      (omega (arith, now, within)) few)

  pub walks_quietly : (frames : List FrameShape) (old new : Volley) (near_most far_most : ℕ) (hall : Hall) (n : ℕ) → ExchangesAll frames old new → AreBrief 4 frames
      → StandsAs near far old near_polls far_polls near_most far_most hall → IsHeardLow hall → near_polls + near_most + 4 * length frames + 1 ≤ limit → far_polls + far_most + length frames ≤ limit
      → ((behind : Hall) → AreExchanged (length frames) hall behind → AreExchanged total start behind) → Later new n → GoesQuietly n hall
  walks_quietly [] old new near_most far_most hall n same brief at low near_within far_within back later =
      later n (omega arith) hall (record {
        near_most = near_most;
        far_most = far_most;
        at = subst (λ (v : Volley). StandsAs near far v near_polls far_polls near_most far_most hall) same at;
        near_within = omega (arith, near_within);
        far_within = omega (arith, far_within);
        taken = back hall refl;
        low = low;
      })
  walks_quietly (frame ∷ frames) old new near_most far_most hall zero ex brief at low near_within far_within back later = tt
  walks_quietly (frame ∷ frames) old new near_most far_most hall (suc zero) (here, between, ex, rest) (brief, briefs) at low near_within far_within back later =
      (inr (old.frame, hears_it old between near_most far_most hall ex (subst (IsBrief 4) (sym here) brief) at low (omega (arith, near_within))), λ middle one. tt)
  walks_quietly (frame ∷ frames) old new near_most far_most hall (suc (suc n)) (here, between, ex, rest) (brief, briefs) at low near_within far_within back later =
      let its : IsBrief 4 old.frame = subst (IsBrief 4) (sym here) brief in (
        inr (old.frame, hears_it old between near_most far_most hall ex its at low (omega (arith, near_within))),
        λ middle one. (
          inr (ex.reply, hears_reply old between near_most far_most hall middle ex its at low one (omega (arith, far_within))),
          λ next two.
              walks_quietly frames between new (near_most + 4) (far_most + 1) next n rest briefs (exchange near far near_later far_later near_polls far_polls old between near_most far_most 4 hall middle next ex its at one two)
              (step_low middle next two (step_low hall middle one low)) (omega (arith, near_within)) (omega (arith, far_within))
              (λ behind exchanged. back behind (middle, next, one, two, exchanged)) (λ left less h b. later left (omega (arith, less)) h b),
        ),
      )
