-- Turn after turn of a clean session, in the rounds of CLEAN.
use Rattle.std.proofs.Common.{◌≡◌, ◌<◌, ◌≤◌, ℕ, zero, suc, Bool, true, false, ◌&&◌, List, [], ◌∷◌, length, Option, refl, ◌∙◌, ap, arith}
use Rattle.dsd_values.specs.declared.role.Role.{Role}
use Rattle.dsd_record.specs.Choices.{Chooser}
use Rattle.dsd_journal.specs.Headers.{IsHeader}
use Rattle.dsd_journal.specs.declared.header.Header.{Header}
use Rattle.dex_line.specs.FrameShapes.{FrameShape, Enq, Eot}
use Rattle.dex_handshake.specs.LineRun.{load_of}
use Rattle.dex_handshake.specs.LineTable.{Bidding, Common, Line, SentAll}
use Rattle.dex_handshake.proofs.Sayings.{load_spoken}
use Rattle.own_turn.specs.DueSets.{texts_of}
use Rattle.own_turn.specs.OwnTurn.{gathered}
use Rattle.dsd_end.specs.Standings.{Standing, has_ended}
use Rattle.clean_sessions.specs.CleanTurns.{begins, has_none, next_hearer, next_owner}
use Rattle.clean_sessions.specs.Halls.{BeginsTurn, GoesOn, Hall, IsTurnTaken, Post}
use Rattle.clean_sessions.specs.Sessions.{AreTaken, Spoken}
use Rattle.clean_sessions.proofs.HallsWalked.{StandsAs, post_at, turn_taken}
use Rattle.clean_sessions.proofs.TurnsPassed.{passes}
use Rattle.cable_world.specs.Scenes.{Scene}
use Rattle.clean_worlds.proofs.RoundsPlayed.{StillPlays, one_round, walks}

post_is : (post : Post) (line : Line) → post.standing.line ≡ line → post.standing.begun ≡ [] → post ≡ post_at post line post.standing.heard post.polls
post_is post line is none =
    ap (λ (l : Line). let p : Post = record { chooser = post.chooser; standing = record post.standing { line = l }; polls = post.polls } in p) is
    ∙ ap (λ (begun : List ℕ). let p : Post = record { chooser = post.chooser; standing = record post.standing { line = line; begun = begun }; polls = post.polls } in p) none

-- the hall as a turn begins
turn_stands : (owner hearer : Common) (text : List ℕ) (hall : Hall) → BeginsTurn owner hearer text hall
    → StandsAs hall.near hall.far (begins owner hearer (load_of text)) hall.near.polls hall.far.polls 0 0 hall
turn_stands owner hearer text hall b = record {
  near_heard = hall.near.standing.heard;
  far_heard = hall.far.standing.heard;
  near_now = hall.near.polls;
  far_now = hall.far.polls;
  near_few = omega arith;
  far_few = omega arith;
  is =
      ap (λ (p : Post). let h : Hall = record { near = p; far = hall.far; flight = hall.flight } in h) (post_is hall.near (SentAll hearer) b.waits b.near_calm.none)
      ∙ ap (λ (p : Post). let h : Hall = record { near = post_at hall.near (SentAll hearer) hall.near.standing.heard hall.near.polls; far = p; flight = hall.flight } in h)
      (post_is hall.far (Bidding owner (load_of text)) b.bids b.far_calm.none)
      ∙ ap (λ (f : List FrameShape). let h : Hall = record { near = post_at hall.near (SentAll hearer) hall.near.standing.heard hall.near.polls; far = post_at hall.far (Bidding owner (load_of text)) hall.far.standing.heard hall.far.polls; flight = f } in h)
      b.flight;
}

module _ (chooser : Role → Chooser) (header : Role → Header) (is : (role : Role) → IsHeader (header role)) (end : Scene) (last : Role → Option Standing) where
  abbrev Plays : Role → Role → Hall → ℕ → Type 0
  Plays near far hall rounds = StillPlays chooser header is end last near far hall rounds

  -- ---- one turn

  record TurnPlayed (near far : Role) (text : List ℕ) (hall : Hall) (rounds : ℕ) : Type 0 where
    new : Hall
    taken : IsTurnTaken (length (load_of text)) hall new
    left : ℕ
    fewer : left < rounds
    plays : Plays far near new left

  turn_played : (near far : Role) (owner hearer : Common) (text : List ℕ) (hall : Hall) (rounds : ℕ) → BeginsTurn owner hearer text hall → Plays near far hall rounds → TurnPlayed near far text hall rounds
  turn_played near far owner hearer text hall rounds b p =
      let pass = passes owner hearer b.pair text b.load.units b.load.short in
      let w = walks chooser header is end last hall.near hall.far b.near_calm.later b.far_calm.later hall.near.polls hall.far.polls near far (Enq ∷ load_of text) (begins owner hearer (load_of text)) pass.volley 0 0 hall rounds
      pass.frames (tt, load_spoken text b.load.units b.load.bytes) (turn_stands owner hearer text hall b) p in
      let flight : w.next.flight ≡ Eot ∷ [] = ap (λ (h : Hall). h.flight) w.at.is ∙ ap (λ (f : FrameShape). f ∷ []) pass.last in
      let goes : has_ended w.next.near.standing.line ≡ false = ap (λ (h : Hall). has_ended h.near.standing.line) w.at.is ∙ ap has_ended pass.takes in
      let one = one_round chooser header is end last near far w.next w.left Eot w.plays flight goes in
      record { new = one.new; taken = (w.next, w.exchanged, one.step); left = one.left; fewer = omega (arith, one.one, w.fewer); plays = one.plays }

  -- ---- all turns

  pub record TurnsPlayed (owner hearer : Common) (text : List ℕ) (hall : Hall) : Type 0 where
    pub more : List Spoken
    pub new : Hall
    pub taken : AreTaken more owner hearer text hall new
    pub near : Role
    pub far : Role
    pub left : ℕ
    pub plays : Plays near far new left

  abbrev TheOthers : ℕ → Type 0
  TheOthers most =
      (near far : Role) (owner hearer : Common) (text : List ℕ) (hall : Hall) (rounds : ℕ) → rounds ≤ most → BeginsTurn owner hearer text hall → Plays near far hall rounds → TurnsPlayed owner hearer text hall

  go_on : (most : ℕ) → TheOthers most → (near far : Role) (owner hearer : Common) (text : List ℕ) (hall : Hall) (rounds : ℕ) (t : TurnPlayed near far text hall rounds) → t.left ≤ most → (both : Bool)
      → (has_none text && owner.empty) ≡ both → GoesOn both owner hearer text hall t.new → TurnsPlayed owner hearer text hall
  go_on most others near far owner hearer text hall rounds t few true both goes = record { more = []; new = t.new; taken = (t.taken, both); near = far; far = near; left = t.left; plays = t.plays }
  go_on most others near far owner hearer text hall rounds t few false both goes =
      let rest = others far near (next_owner hearer (has_none text)) (next_hearer owner (has_none text)) goes.load t.new t.left few goes.begins t.plays in
      record {
        more = record { sets = texts_of (gathered hall.near.standing.header goes.turned.proposed); text = goes.load } ∷ rest.more;
        new = rest.new;
        taken = (t.new, t.taken, both, goes.desk, goes.turned, refl, rest.taken);
        near = rest.near;
        far = rest.far;
        left = rest.left;
        plays = rest.plays;
      }

  pub turns_played : (most : ℕ) → TheOthers most
  turns_played zero near far owner hearer text hall rounds few b p = let t = turn_played near far owner hearer text hall rounds b p in absurd (omega (arith, few, t.fewer))
  turns_played (suc most) near far owner hearer text hall rounds few b p =
      let t = turn_played near far owner hearer text hall rounds b p in
      go_on most (λ n f o h x l r. turns_played most n f o h x l r) near far owner hearer text hall rounds t (omega (arith, few, t.fewer)) (has_none text && owner.empty) refl
      (turn_taken owner hearer text hall b t.new t.taken).goes
