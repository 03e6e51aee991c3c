-- A turn with its polls, from its Enq to the next one or to the end at both ends.
use Rattle.std.proofs.Common.{◌≡◌, ◌≤◌, ◌+◌, ◌*◌, ℕ, suc, Bool, true, false, ◌&&◌, List, [], ◌∷◌, ◌++◌, length, Some, None, refl, sym, ◌∙◌, ap, subst, arith}
use Rattle.std.specs.Prelude.{if◌then◌else◌}
use Rattle.dex_line.specs.FrameShapes.{FrameShape, Enq, Eot}
use Rattle.dex_line.specs.FrameSpelling.{IsSpoken, spelling}
use Rattle.dex_handshake.specs.LineRun.{load_of, said_of}
use Rattle.dex_handshake.specs.LineTable.{Common, Line, LineStep, Taking, Ready, Bidding, Awaiting, SentAll, InText, Finished, Ended, ends, hears, says, says_nothing}
use Rattle.dex_handshake.specs.declared.session_end.SessionEnd.TheVariants.{Complete}
use Rattle.dex_handshake.proofs.SilentTurns.{turns_come_silently}
use Rattle.dsd_record.specs.Choices.{Chooser}
use Rattle.own_turn.specs.OwnTurn.{Desk, Turned, gathered, next_turn}
use Rattle.dsd_end.specs.PollStep.{Acts, ActsAt, Done, HearsFrame, begun_at, gave, joined, nothing, stepped}
use Rattle.dsd_end.specs.Standings.{Standing, has_ended, with_line}
use Rattle.clean_sessions.specs.CleanTurns.{Exchanges, ExchangesAll, Volley, begins, has_none, next_hearer, next_owner}
use Rattle.clean_sessions.specs.Feeding.{IsFed, counted}
use Rattle.clean_sessions.specs.Halls.{AreExchanged, BeginsTurn, CleanStep, CostsPolls, GoesOn, Hall, IsTurnTaken, LeavesHall, Post, polled}
use Rattle.clean_sessions.proofs.BriefFrames.{AreBrief, IsBrief, enq_brief, eot_brief, load_brief, load_text, reply_brief}
use Rattle.clean_sessions.proofs.FramesFed.{heard_once}
use Rattle.clean_sessions.proofs.TurnsPassed.{passes, still_pair}

-- ---- an end in the middle of a turn

-- the same end with this line, so many bytes heard, and no frame begun
abbrev pub standing_at : Standing → Line → ℕ → Standing
standing_at standing line heard = record standing { line = line; begun = []; heard = heard }

abbrev pub post_at : Post → Line → ℕ → ℕ → Post
post_at post line heard polls = record { chooser = post.chooser; standing = standing_at post.standing line heard; polls = polls }

-- what says something has not ended
pub says_runs : (line : Line) (frame reply : FrameShape) (next : Line) → hears line frame ≡ says reply next → has_ended line ≡ false
says_runs (Ended end) frame reply next e = let none : None ≡ Some reply = ap (λ (s : LineStep). s.say) e in absurd (cc)
says_runs (Ready own) frame reply next e = refl
says_runs (Bidding own load) frame reply next e = refl
says_runs (Awaiting own sending) frame reply next e = refl
says_runs (SentAll own) frame reply next e = refl
says_runs (InText own taking) frame reply next e = refl
says_runs (Finished own text) frame reply next e = refl

-- and it has come to no own turn
pub no_turn : (line : Line) (frame reply : FrameShape) (next : Line) → hears line frame ≡ says reply next → (own : Common) (text : List ℕ) → next ≡ Finished own text → ⊥
no_turn line frame reply next e own text finished =
    let there : (hears line frame).next ≡ Finished own text = ap (λ (s : LineStep). s.next) e ∙ finished in
    let none : Some reply ≡ None = sym (ap (λ (s : LineStep). s.say) e) ∙ turns_come_silently line frame own text there in
    cc

acts_none : (chooser : Chooser) (standing : Standing) (line : Line) (act : Done) → ((own : Common) (text : List ℕ) → line ≡ Finished own text → ⊥) → ActsAt chooser standing line act → act ≡ nothing standing
acts_none chooser standing (Finished own text) act none acts = absurd (none own text refl)
acts_none chooser standing (Ready own) act none acts = acts
acts_none chooser standing (Bidding own load) act none acts = acts
acts_none chooser standing (Awaiting own sending) act none acts = acts
acts_none chooser standing (SentAll own) act none acts = acts
acts_none chooser standing (InText own taking) act none acts = acts
acts_none chooser standing (Ended end) act none acts = acts

none_begun : (line : Line) → begun_at line [] ≡ []
none_begun (Ended end) = refl
none_begun (Ready own) = refl
none_begun (Bidding own load) = refl
none_begun (Awaiting own sending) = refl
none_begun (SentAll own) = refl
none_begun (InText own taking) = refl
none_begun (Finished own text) = refl

-- what it does at a frame whose row is this step
record DoesAt (chooser : Chooser) (standing : Standing) (step : LineStep) (size : ℕ) (done : Done) : Type 0 where
  act : Done
  acts : Acts chooser (stepped standing step).standing act
  whole : done ≡ counted size (joined (stepped standing step) act)

does_at : (post : Post) (line : Line) (heard polls : ℕ) (frame : FrameShape) (step : LineStep) (pieces : List (List ℕ)) (done : Done) → post.standing.first ≡ false → has_ended line ≡ false → IsSpoken frame
    → hears line frame ≡ step → IsFed post.chooser (standing_at post.standing line heard) frame pieces done → DoesAt post.chooser (standing_at post.standing line heard) step (length (spelling frame)) done
does_at post line heard polls frame step pieces done later runs spoken row fed =
    let once = heard_once post.chooser frame spoken (standing_at post.standing line heard) pieces done (record { calm = record { later = later; none = refl }; runs = runs }) fed in
    subst (λ (s : LineStep). DoesAt post.chooser (standing_at post.standing line heard) s (length (spelling frame)) done) row
    (by_turn post.chooser (standing_at post.standing line heard) frame (length (spelling frame)) done once.turn once.hears once.whole)
  where
    by_turn : (chooser : Chooser) (standing : Standing) (frame : FrameShape) (size : ℕ) (done turn : Done) → HearsFrame chooser standing frame turn → done ≡ counted size turn
        → DoesAt chooser standing (hears standing.line frame) size done
    by_turn chooser standing frame size done turn (act, acts, e) whole = record { act = act; acts = acts; whole = whole ∙ ap (counted size) e }

-- ---- a step that says something

pub record Says (near far : Post) (next : Line) (heard polls most : ℕ) (reply : FrameShape) (new : Hall) : Type 0 where
  pub count : ℕ
  pub few : count ≤ most
  pub bytes : ℕ
  pub is : new ≡ record { near = far; far = post_at near next bytes (polls + count); flight = reply ∷ [] }

says_so : (chooser : Chooser) (standing : Standing) (size : ℕ) (reply : FrameShape) (next : Line) (done : Done) → ((own : Common) (text : List ℕ) → next ≡ Finished own text → ⊥)
    → DoesAt chooser standing (says reply next) size done → done ≡ record { standing = standing_at standing next (standing.heard + size); said = reply ∷ []; loads = [] }
says_so chooser standing size reply next done none does =
    does.whole
    ∙ ap (λ (act : Done). counted size (joined (stepped standing (says reply next)) act)) (acts_none chooser (with_line standing next) next does.act none does.acts)
    ∙ ap (λ (l : List ℕ). let d : Done = record { standing = record standing { line = next; begun = l; heard = standing.heard + size }; said = reply ∷ []; loads = [] } in d) (none_begun next)

hall_after : (near far : Post) (line : Line) (heard polls count : ℕ) (done wanted : Done) → done ≡ wanted
    → (let h : Hall = record { near = far; far = polled (post_at near line heard polls) count done.standing; flight = done.said } in h)
    ≡ record { near = far; far = polled (post_at near line heard polls) count wanted.standing; flight = wanted.said }
hall_after near far line heard polls count done wanted e =
    ap (λ (d : Done). let h : Hall = record { near = far; far = polled (post_at near line heard polls) count d.standing; flight = d.said } in h) e

first_frame : (frame other : FrameShape) → frame ∷ [] ≡ other ∷ [] → other ≡ frame
first_frame frame other e = cc

pub says_step : (near far : Post) (line next : Line) (heard polls most : ℕ) (frame reply : FrameShape) (new : Hall) → near.standing.first ≡ false → IsBrief most frame → hears line frame ≡ says reply next
    → CleanStep (record { near = post_at near line heard polls; far = far; flight = frame ∷ [] }) new → Says near far next heard polls most reply new
says_step near far line next heard polls most frame reply new later brief row step =
    let fed : IsFed near.chooser (standing_at near.standing line heard) frame step.pieces step.done =
    subst (λ (f : FrameShape). IsFed near.chooser (standing_at near.standing line heard) f step.pieces step.done) (first_frame frame step.frame step.flight) step.fed in
    let does = does_at near line heard polls frame (says reply next) step.pieces step.done later (says_runs line frame reply next row) brief.spoken row fed in
    let whole = says_so near.chooser (standing_at near.standing line heard) (length (spelling frame)) reply next step.done (no_turn line frame reply next row) does in
    record {
      count = length step.pieces;
      few = brief.few step.pieces fed.cut;
      bytes = heard + length (spelling frame);
      is = step.next ∙ hall_after near far line heard polls (length step.pieces) step.done _ whole;
    }

-- ---- exchanges

-- a hall as it stands in the middle of a turn, and what that has cost
pub record StandsAs (near far : Post) (volley : Volley) (near_polls far_polls near_most far_most : ℕ) (hall : Hall) : Type 0 where
  pub near_heard : ℕ
  pub far_heard : ℕ
  pub near_now : ℕ
  pub far_now : ℕ
  pub near_few : near_now ≤ near_polls + near_most
  pub far_few : far_now ≤ far_polls + far_most
  pub is : hall ≡ record { near = post_at near volley.hearer near_heard near_now; far = post_at far volley.owner far_heard far_now; flight = volley.frame ∷ [] }

add_up : (old most more count now : ℕ) → old ≤ now + most → count ≤ more → old + count ≤ now + (most + more)
add_up old most more count now a b = omega (arith, a, b)

module _ (near far : Post) (near_later : near.standing.first ≡ false) (far_later : far.standing.first ≡ false) (near_polls far_polls : ℕ) where
  pub exchange : (old new : Volley) (near_most far_most most : ℕ) (hall middle next : Hall) → Exchanges old new → IsBrief most old.frame → StandsAs near far old near_polls far_polls near_most far_most hall
      → CleanStep hall middle → CleanStep middle next → StandsAs near far new near_polls far_polls (near_most + most) (far_most + 1) next
  exchange old new near_most far_most most hall middle next ex brief at one two =
      let a = says_step near (post_at far old.owner at.far_heard at.far_now) old.hearer new.hearer at.near_heard at.near_now most old.frame ex.reply middle near_later brief ex.heard
      (subst (λ (h : Hall). CleanStep h middle) at.is one) in
      let b = says_step far (post_at near new.hearer a.bytes (at.near_now + a.count)) old.owner new.owner at.far_heard at.far_now 1 ex.reply new.frame next far_later (reply_brief ex.reply ex.is_reply) ex.next
      (subst (λ (h : Hall). CleanStep h next) a.is two) in
      record {
        near_heard = a.bytes;
        far_heard = b.bytes;
        near_now = at.near_now + a.count;
        far_now = at.far_now + b.count;
        near_few = add_up at.near_now near_most most a.count near_polls at.near_few a.few;
        far_few = add_up at.far_now far_most 1 b.count far_polls at.far_few b.few;
        is = b.is;
      }

  -- frame after frame
  walk : (frames : List FrameShape) (old new : Volley) (near_most far_most : ℕ) (hall next : Hall) → ExchangesAll frames old new → AreBrief 4 frames
      → StandsAs near far old near_polls far_polls near_most far_most hall → AreExchanged (length frames) hall next
      → StandsAs near far new near_polls far_polls (near_most + 4 * length frames) (far_most + length frames) next
  walk [] old new near_most far_most hall next ex brief at exchanged =
      let same_near : near_most ≡ near_most + 4 * 0 = omega arith in
      let same_far : far_most ≡ far_most + 0 = omega arith in
      subst (λ (v : Volley). StandsAs near far v near_polls far_polls (near_most + 4 * 0) (far_most + 0) next) ex
      (subst (λ (h : Hall). StandsAs near far old near_polls far_polls (near_most + 4 * 0) (far_most + 0) h) exchanged
      (subst (λ (n : ℕ). StandsAs near far old near_polls far_polls n (far_most + 0) hall) same_near
      (subst (λ (n : ℕ). StandsAs near far old near_polls far_polls near_most n hall) same_far at)))
  walk (frame ∷ frames) old new near_most far_most hall next (here, between, ex, rest) (brief, briefs) at (middle, then_at, one, two, exchanged) =
      let first = exchange old between near_most far_most 4 hall middle then_at ex (subst (IsBrief 4) (sym here) brief) at one two in
      let all = walk frames between new (near_most + 4) (far_most + 1) then_at next rest briefs first exchanged in
      let near_sum : near_most + 4 + 4 * length frames ≡ near_most + 4 * length (frame ∷ frames) = omega arith in
      let far_sum : far_most + 1 + length frames ≡ far_most + length (frame ∷ frames) = omega arith in
      subst (λ (n : ℕ). StandsAs near far new near_polls far_polls n (far_most + length (frame ∷ frames)) next) near_sum
      (subst (λ (n : ℕ). StandsAs near far new near_polls far_polls (near_most + 4 + 4 * length frames) n next) far_sum all)

-- ---- the Eot

pub record Ends (near far : Post) (line : Line) (heard polls : ℕ) (step : LineStep) (new : Hall) : Type 0 where
  pub count : ℕ
  pub few : count ≤ 1
  pub act : Done
  pub acts : Acts near.chooser (stepped (standing_at near.standing line heard) step).standing act
  pub is : new ≡ record {
    near = far;
    far = polled (post_at near line heard polls) count (counted 1 (joined (stepped (standing_at near.standing line heard) step) act)).standing;
    flight = said_of step.say ++ act.said;
  }

pub eot_step : (near far : Post) (own : Common) (taking : Taking) (heard polls : ℕ) (step : LineStep) (new : Hall) → near.standing.first ≡ false → hears (InText own taking) Eot ≡ step
    → CleanStep (record { near = post_at near (InText own taking) heard polls; far = far; flight = Eot ∷ [] }) new → Ends near far (InText own taking) heard polls step new
eot_step near far own taking heard polls step new later row clean =
    let fed : IsFed near.chooser (standing_at near.standing (InText own taking) heard) Eot clean.pieces clean.done =
    subst (λ (f : FrameShape). IsFed near.chooser (standing_at near.standing (InText own taking) heard) f clean.pieces clean.done) (first_frame Eot clean.frame clean.flight) clean.fed in
    let does = does_at near (InText own taking) heard polls Eot step clean.pieces clean.done later refl tt row fed in
    record {
      count = length clean.pieces;
      few = eot_brief.few clean.pieces fed.cut;
      act = does.act;
      acts = does.acts;
      is = clean.next ∙ hall_after near far (InText own taking) heard polls (length clean.pieces) clean.done _ does.whole;
    }

acts_header : (chooser : Chooser) (standing : Standing) (line : Line) (act : Done) → ActsAt chooser standing line act → act.standing.header ≡ standing.header
acts_header chooser standing (Finished own text) act (desk, load, turned, e) = ap (λ (d : Done). d.standing.header) e
acts_header chooser standing (Ready own) act e = ap (λ (d : Done). d.standing.header) e
acts_header chooser standing (Bidding own load) act e = ap (λ (d : Done). d.standing.header) e
acts_header chooser standing (Awaiting own sending) act e = ap (λ (d : Done). d.standing.header) e
acts_header chooser standing (SentAll own) act e = ap (λ (d : Done). d.standing.header) e
acts_header chooser standing (InText own taking) act e = ap (λ (d : Done). d.standing.header) e
acts_header chooser standing (Ended end) act e = ap (λ (d : Done). d.standing.header) e

-- ---- the turn as a whole

post_is : (post : Post) (line : Line) → post.standing.line ≡ line → post.standing.begun ≡ [] → post ≡ post_at post line post.standing.heard post.polls
post_is post line is none =
    ap (λ (l : Line). let p : Post = record { chooser = post.chooser; standing = record post.standing { line = l }; polls = post.polls } in p) is
    ∙ ap (λ (begun : List ℕ). let p : Post = record { chooser = post.chooser; standing = record post.standing { line = line; begun = begun }; polls = post.polls } in p) none

module _ (owner hearer : Common) (text : List ℕ) (old : Hall) (b : BeginsTurn owner hearer text old) where
  pub begun : StandsAs old.near old.far (begins owner hearer (load_of text)) old.near.polls old.far.polls 0 0 old
  begun = record {
    near_heard = old.near.standing.heard;
    far_heard = old.far.standing.heard;
    near_now = old.near.polls;
    far_now = old.far.polls;
    near_few = omega arith;
    far_few = omega arith;
    is =
        ap (λ (p : Post). let h : Hall = record { near = p; far = old.far; flight = old.flight } in h) (post_is old.near (SentAll hearer) b.waits b.near_calm.none)
        ∙ ap (λ (p : Post). let h : Hall = record { near = post_at old.near (SentAll hearer) old.near.standing.heard old.near.polls; far = p; flight = old.flight } in h)
        (post_is old.far (Bidding owner (load_of text)) b.bids b.far_calm.none)
        ∙ ap (λ (f : List FrameShape). let h : Hall = record { near = post_at old.near (SentAll hearer) old.near.standing.heard old.near.polls; far = post_at old.far (Bidding owner (load_of text)) old.far.standing.heard old.far.polls; flight = f } in h)
        b.flight;
  }

  -- up to the Eot
  spoken : (volley : Volley) (behind : Hall) → ExchangesAll (Enq ∷ load_of text) (begins owner hearer (load_of text)) volley → AreExchanged (suc (length (load_of text))) old behind
      → StandsAs old.near old.far volley old.near.polls old.far.polls (0 + 1 + 4 * length (load_of text)) (0 + 1 + length (load_of text)) behind
  spoken volley behind (here, between, ex, rest) (middle, then_at, one, two, exchanged) =
      let first = exchange old.near old.far b.near_calm.later b.far_calm.later old.near.polls old.far.polls (begins owner hearer (load_of text)) between 0 0 1 old middle then_at ex enq_brief begun one two in
      walk old.near old.far b.near_calm.later b.far_calm.later old.near.polls old.far.polls (load_of text) between volley (0 + 1) (0 + 1) then_at behind rest (load_brief text b.load) first exchanged

  module _ (left : Line) (own : Common) (taking : Taking) (near_heard near_now far_heard far_now : ℕ) where
    abbrev last_row : Bool → LineStep
    last_row both = if both then ends Complete else says_nothing (Finished (next_owner hearer (has_none text)) text)

    abbrev EndsSo : Bool → Hall → Type 0
    EndsSo both new = Ends old.near (post_at old.far left far_heard far_now) (InText own taking) near_heard near_now (last_row both) new

    abbrev own_next : Common
    own_next = next_owner hearer (has_none text)

    -- the hall behind the Eot, where the hearer has done this at it
    abbrev hall_with : LineStep → ℕ → Done → Hall
    hall_with step count act = record {
      near = post_at old.far left far_heard far_now;
      far = polled (post_at old.near (InText own taking) near_heard near_now) count (counted 1 (joined (stepped (standing_at old.near.standing (InText own taking) near_heard) step) act)).standing;
      flight = said_of step.say ++ act.said;
    }

    completes : (new : Hall) → left ≡ Ended Complete → EndsSo true new → GoesOn true owner hearer text old new
    completes new stays e =
        let final : new ≡ hall_with (ends Complete) e.count (nothing (standing_at old.near.standing (Ended Complete) near_heard)) = e.is ∙ ap (hall_with (ends Complete) e.count) e.acts in
        record {
          near = ap (λ (h : Hall). h.near.standing.line) final ∙ stays;
          far = ap (λ (h : Hall). h.far.standing.line) final;
          flight = ap (λ (h : Hall). h.flight) final;
          desk = ap (λ (h : Hall). h.far.standing.desk) final;
        }

    takes_next : (new : Hall) (e : EndsSo false new) (desk : Desk) (load : List ℕ) → left ≡ SentAll (next_hearer owner (has_none text))
        → Turned old.near.standing.header old.near.chooser old.near.standing.desk text desk load
        → e.act ≡ gave (standing_at old.near.standing (Finished own_next text) near_heard) (Finished own_next text) desk load → GoesOn false owner hearer text old new
    takes_next new e desk load stays turned is =
        let final : new ≡ hall_with (says_nothing (Finished own_next text)) e.count (gave (standing_at old.near.standing (Finished own_next text) near_heard) (Finished own_next text) desk load) =
        e.is ∙ ap (hall_with (says_nothing (Finished own_next text)) e.count) is in
        record {
          desk = desk;
          load = load;
          turned = turned;
          left = ap (λ (h : Hall). h.far.standing.desk) final;
          begins = subst (BeginsTurn own_next (next_hearer owner (has_none text)) load) (sym final) (record {
            bids = refl;
            waits = stays;
            pair = still_pair owner hearer (has_none text) b.pair;
            load = load_text old.near.standing.header (next_turn turned.proposed) (gathered old.near.standing.header turned.proposed) load turned.loads;
            far_calm = record { later = b.near_calm.later; none = refl };
            near_calm = record { later = b.far_calm.later; none = refl };
            flight = refl;
          });
        }

    goes : (both : Bool) (new : Hall) → left ≡ (if both then Ended Complete else SentAll (next_hearer owner (has_none text))) → EndsSo both new → GoesOn both owner hearer text old new
    goes true new stays e = completes new stays e
    goes false new stays e = takes_next new e e.acts.0 e.acts.1 stays e.acts.2 e.acts.3

    costs : (both : Bool) (new : Hall) → EndsSo both new → near_now ≤ old.near.polls + (0 + 1 + 4 * length (load_of text)) → far_now ≤ old.far.polls + (0 + 1 + length (load_of text))
        → CostsPolls (length (load_of text)) old new
    costs both new e near_few far_few =
        let owner_now : new.near.polls ≡ far_now = ap (λ (h : Hall). h.near.polls) e.is in
        let hearer_now : new.far.polls ≡ near_now + e.count = ap (λ (h : Hall). h.far.polls) e.is in
        record {
          owner = owner_bound new.near.polls far_now (length (load_of text)) old.far.polls owner_now far_few;
          hearer = hearer_bound new.far.polls near_now e.count (length (load_of text)) old.near.polls hearer_now near_few e.few;
          desk = ap (λ (h : Hall). h.near.standing.desk) e.is;
          choosers = (ap (λ (h : Hall). h.near.chooser) e.is, ap (λ (h : Hall). h.far.chooser) e.is);
          headers = (ap (λ (h : Hall). h.near.standing.header) e.is, ap (λ (h : Hall). h.far.standing.header) e.is ∙ acts_header old.near.chooser _ _ e.act e.acts);
        }
      where
        owner_bound : (now far_now blocks before : ℕ) → now ≡ far_now → far_now ≤ before + (0 + 1 + blocks) → now ≤ before + (1 + blocks)
        owner_bound now far_now blocks before e few = omega (arith, e, few)

        hearer_bound : (now near_now count blocks before : ℕ) → now ≡ near_now + count → near_now ≤ before + (0 + 1 + 4 * blocks) → count ≤ 1 → now ≤ before + (2 + 4 * blocks)
        hearer_bound now near_now count blocks before e few one = omega (arith, e, few, one)

    leaves : (both : Bool) (new : Hall) → both ≡ (has_none text && owner.empty) → left ≡ (if both then Ended Complete else SentAll (next_hearer owner (has_none text))) → EndsSo both new
        → near_now ≤ old.near.polls + (0 + 1 + 4 * length (load_of text)) → far_now ≤ old.far.polls + (0 + 1 + length (load_of text)) → LeavesHall owner hearer text old new
    leaves both new same stays e near_few far_few = record {
      costs = costs both new e near_few far_few;
      goes = subst (λ (t : Bool). GoesOn t owner hearer text old new) same (goes both new stays e);
    }

  pub turn_taken : (new : Hall) → IsTurnTaken (length (load_of text)) old new → LeavesHall owner hearer text old new
  turn_taken new (behind, exchanged, last) =
      let p = passes owner hearer b.pair text b.load.units b.load.short in
      let at = spoken p.volley behind p.frames exchanged in
      let here : behind ≡ record { near = post_at old.near (InText p.common p.taking) at.near_heard at.near_now; far = post_at old.far p.volley.owner at.far_heard at.far_now; flight = Eot ∷ [] } =
      at.is
      ∙ ap (λ (l : Line). let h : Hall = record { near = post_at old.near l at.near_heard at.near_now; far = post_at old.far p.volley.owner at.far_heard at.far_now; flight = p.volley.frame ∷ [] } in h) p.takes
      ∙ ap (λ (f : FrameShape). let h : Hall = record { near = post_at old.near (InText p.common p.taking) at.near_heard at.near_now; far = post_at old.far p.volley.owner at.far_heard at.far_now; flight = f ∷ [] } in h) p.last in
      let row : hears (InText p.common p.taking) Eot ≡ last_row p.volley.owner p.common p.taking at.near_heard at.near_now at.far_heard at.far_now (has_none text && owner.empty) =
      ap (λ (l : Line). hears l Eot) (sym p.takes) ∙ p.handed in
      let e = eot_step old.near (post_at old.far p.volley.owner at.far_heard at.far_now) p.common p.taking at.near_heard at.near_now _ new b.near_calm.later row (subst (λ (h : Hall). CleanStep h new) here last) in
      leaves p.volley.owner p.common p.taking at.near_heard at.near_now at.far_heard at.far_now (has_none text && owner.empty) new refl p.left e at.near_few at.far_few
