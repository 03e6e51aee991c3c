-- Round after round of CLEAN, while the session goes on.
use Rattle.std.proofs.Common.{◌≡◌, ◌≤◌, ◌+◌, ℕ, zero, suc, Bool, true, false, ◌||◌, List, [], ◌∷◌, length, Option, Some, None, refl, sym, ◌∙◌, ap, subst, arith}
use Rattle.std.specs.Prelude.{not}
use Rattle.dsd_values.specs.declared.role.Role.{Role}
use Rattle.dsd_values.specs.declared.role.Role.TheVariants.{Receiver, Supplier}
use Rattle.dsd_record.specs.Choices.{Chooser}
use Rattle.dsd_journal.specs.Headers.{IsHeader}
use Rattle.dsd_journal.specs.declared.header.Header.{Header}
use Rattle.dex_line.specs.FrameShapes.{FrameShape}
use Rattle.dex_handshake.specs.LineTable.{Line, LineStep, Ready, Bidding, Awaiting, SentAll, InText, Finished, Ended, hears, says}
use Rattle.dsd_end.specs.Standings.{Standing, has_ended}
use Rattle.clean_sessions.specs.CleanTurns.{ExchangesAll, Volley}
use Rattle.clean_sessions.specs.Halls.{AreExchanged, CleanStep, Hall, Post}
use Rattle.dex_line.specs.FrameSpelling.{IsSpoken, spelling}
use Rattle.dex_handshake.specs.Sound.{AreSaid}
use Rattle.clean_sessions.proofs.BriefFrames.{IsBrief}
use Rattle.clean_sessions.proofs.FramesFed.{few_pieces}
use Rattle.clean_sessions.proofs.HallsWalked.{StandsAs, exchange, post_at, says_step}
use Rattle.cable_world.specs.Noted.{steps_of}
use Rattle.cable_world.specs.Obeying.{AreRounds, IsRound}
use Rattle.cable_world.specs.Scenes.{Scene, side, some_runs}
use Rattle.cable_world.specs.Steps.{WorldStep}
use Rattle.clean_worlds.specs.WorldHalls.{ShowsHall}
use Rattle.clean_worlds.specs.CleanBeginnings.{MadeWell}
use Rattle.clean_worlds.proofs.NotedParts.{split_made}
use Rattle.dsd_station.specs.Replayed.{State}
use Rattle.cable_world.specs.Leaving.{state_after}
use Rattle.clean_worlds.proofs.RoundsClean.{round_clean}

runs_some : (role : Role) (scene : Scene) → (side scene role).runs ≡ true → some_runs scene ≡ true
runs_some Supplier scene on = ap (λ (b : Bool). b || scene.receiver.runs) on
runs_some Receiver scene on = ap (λ (b : Bool). scene.supplier.runs || b) on ∙ or_true scene.supplier.runs
  where
    or_true : (b : Bool) → (b || true) ≡ true
    or_true true = refl
    or_true false = refl

-- what says something has not ended
says_runs : (line : Line) (frame reply : FrameShape) (next : Line) → hears line frame ≡ says reply next → has_ended line ≡ false
says_runs (Ended end) frame reply next e = let none : None ≡ Some reply = ap (λ (s : LineStep). s.say) e in absurd (cc)
says_runs (Ready own) frame reply next e = refl
says_runs (Bidding own load) frame reply next e = refl
says_runs (Awaiting own sending) frame reply next e = refl
says_runs (SentAll own) frame reply next e = refl
says_runs (InText own taking) frame reply next e = refl
says_runs (Finished own text) frame reply next e = refl

-- a frame takes no more polls than it has bytes
brief : (frame : FrameShape) → IsSpoken frame → IsBrief (length (spelling frame)) frame
brief frame spoken = record { spoken = spoken; few = λ pieces fed. few_pieces (length (spelling frame)) (spelling frame) pieces fed (omega arith) }

module _ (chooser : Role → Chooser) (header : Role → Header) (is : (role : Role) → IsHeader (header role)) (end : Scene) (last : Role → Option Standing) where
  -- The scene shows this hall, and so many rounds are still made.
  pub record StillPlays (near far : Role) (hall : Hall) (rounds : ℕ) : Type 0 where
    pub scene : Scene
    pub standing : Role → Option Standing
    pub shows : ShowsHall chooser header near far hall scene standing
    pub steps : List WorldStep
    pub state : Role → State
    pub made : MadeWell chooser header state standing steps last
    pub are : AreRounds rounds scene steps end

  -- one of these rounds
  pub record OneRound (near far : Role) (hall : Hall) (rounds : ℕ) : Type 0 where
    pub new : Hall
    pub step : CleanStep hall new
    pub left : ℕ
    pub one : rounds ≡ suc left
    pub plays : StillPlays far near new left

  one_more : (near far : Role) (hall : Hall) (rounds : ℕ) (frame : FrameShape) (p : StillPlays near far hall rounds) → hall.flight ≡ frame ∷ [] → has_ended hall.near.standing.line ≡ false
      → AreRounds rounds p.scene p.steps end → OneRound near far hall rounds
  one_more near far hall zero frame p flight goes (none, nothing) =
      let on : some_runs p.scene ≡ true = runs_some near p.scene (p.shows.near_attends.runs ∙ ap not goes) in
      absurd (cc)
  one_more near far hall (suc rounds) frame p flight goes (some, both) =
      let parts = split_made chooser header p.state p.standing p.steps both.first both.rest last p.made both.joined in
      let round : IsRound p.scene (steps_of parts.front.noted) both.between = subst (λ (l : List WorldStep). IsRound p.scene l both.between) (sym parts.front.is) both.before in
      let c = round_clean chooser header is near far hall p.scene p.standing p.shows frame flight goes p.state parts.front.noted both.between parts.mid round parts.front.come parts.front.calls parts.front.well in
      record {
        new = c.new;
        step = c.step;
        left = rounds;
        one = refl;
        plays = record { scene = both.between; standing = parts.mid; shows = c.shows; steps = both.rest; state = λ (role : Role). state_after role (p.state role) both.first; made = parts.back; are = both.behind };
      }

  pub one_round : (near far : Role) (hall : Hall) (rounds : ℕ) (frame : FrameShape) → StillPlays near far hall rounds → hall.flight ≡ frame ∷ [] → has_ended hall.near.standing.line ≡ false
      → OneRound near far hall rounds
  one_round near far hall rounds frame p flight goes = one_more near far hall rounds frame p flight goes p.are

  -- ---- exchanges

  module _ (own : Post) (their : Post) (own_later : own.standing.first ≡ false) (their_later : their.standing.first ≡ false) (own_polls their_polls : ℕ) where
    -- behind some exchanges the hall stands so, and so many rounds are still made
    pub record Walks (near far : Role) (frames : ℕ) (volley : Volley) (hall : Hall) (rounds : ℕ) : Type 0 where
      pub next : Hall
      pub exchanged : AreExchanged frames hall next
      pub own_most : ℕ
      pub their_most : ℕ
      pub at : StandsAs own their volley own_polls their_polls own_most their_most next
      pub left : ℕ
      pub fewer : left ≤ rounds
      pub plays : StillPlays near far next left

    pub walks : (near far : Role) (frames : List FrameShape) (old new : Volley) (own_most their_most : ℕ) (hall : Hall) (rounds : ℕ) → ExchangesAll frames old new → AreSaid IsSpoken frames
        → StandsAs own their old own_polls their_polls own_most their_most hall → StillPlays near far hall rounds → Walks near far (length frames) new hall rounds
    walks near far [] old new own_most their_most hall rounds same spoken at p = record {
      next = hall;
      exchanged = refl;
      own_most = own_most;
      their_most = their_most;
      at = subst (λ (v : Volley). StandsAs own their v own_polls their_polls own_most their_most hall) same at;
      left = rounds;
      fewer = omega arith;
      plays = p;
    }
    walks near far (frame ∷ frames) old new own_most their_most hall rounds (here, between, ex, rest) (spoken, others) at p =
        let most : ℕ = length (spelling old.frame) in
        let first : IsBrief most old.frame = brief old.frame (subst IsSpoken (sym here) spoken) in
        let goes : has_ended hall.near.standing.line ≡ false = ap (λ (h : Hall). has_ended h.near.standing.line) at.is ∙ says_runs old.hearer old.frame ex.reply between.hearer ex.heard in
        let one = one_round near far hall rounds old.frame p (ap (λ (h : Hall). h.flight) at.is) goes in
        let a = says_step own (post_at their old.owner at.far_heard at.far_now) old.hearer between.hearer at.near_heard at.near_now most old.frame ex.reply one.new own_later first ex.heard
        (subst (λ (h : Hall). CleanStep h one.new) at.is one.step) in
        let on : has_ended one.new.near.standing.line ≡ false = ap (λ (h : Hall). has_ended h.near.standing.line) a.is ∙ says_runs old.owner ex.reply between.frame between.owner ex.next in
        let two = one_round far near one.new one.left ex.reply one.plays (ap (λ (h : Hall). h.flight) a.is) on in
        let both = exchange own their own_later their_later own_polls their_polls old between own_most their_most most hall one.new two.new ex first at one.step two.step in
        let all = walks near far frames between new (own_most + most) (their_most + 1) two.new two.left rest others both two.plays in
        record {
          next = all.next;
          exchanged = (one.new, two.new, one.step, two.step, all.exchanged);
          own_most = all.own_most;
          their_most = all.their_most;
          at = all.at;
          left = all.left;
          fewer = omega (arith, all.fewer, one.one, two.one);
          plays = all.plays;
        }
