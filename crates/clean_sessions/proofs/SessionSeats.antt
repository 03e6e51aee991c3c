-- The turns of a clean session are own turns of two ends at their desks, up to two in a row in which nothing is due.
use Rattle.std.proofs.Common.{◌≡◌, ◌≤◌, ℕ, Bool, true, false, not, ◌&&◌, length, map, List, [], ◌∷◌, refl, sym, ap, subst, ◌∙◌, arith}
use Rattle.segments.specs.declared.segment_writer.TheConstants.{MOST_CONTROL_NUMBER}
use Rattle.dsd_record.specs.Choices.{Chooser}
use Rattle.dsd_journal.specs.declared.header.Header.{Header}
use Rattle.dex_handshake.specs.LineTable.{Common}
use Rattle.own_turn.specs.DueSets.{DueSet, texts_of}
use Rattle.own_turn.specs.OwnTurn.{Desk, Turned, gathered, next_turn}
use Rattle.dsd_end.proofs.OneOutcome.{one_turn}
use Rattle.clean_sessions.specs.CleanTurns.{has_none, next_hearer, next_owner}
use Rattle.clean_sessions.specs.CourseTurns.{EndSilent, NothingDue}
use Rattle.clean_sessions.specs.Halls.{BeginsTurn, GoesOn, Hall, IsComplete, LeavesHall, Post, TakesNext}
use Rattle.clean_sessions.specs.SeatTurns.{AreOwnTurns, EndsWhenSilent, Seat, at_desk}
use Rattle.clean_sessions.specs.Sessions.{AreTaken, Spoken, post_behind, turn_of}
use Rattle.clean_sessions.specs.SinceLast.{blocks_spoken_in, desk_behind}
use Rattle.clean_sessions.specs.BlocksAlone.{blocks_alone}
use Rattle.clean_sessions.specs.Turns.{all_alone}
use Rattle.clean_sessions.proofs.BoolTests.{never_both}
use Rattle.clean_sessions.proofs.HallsWalked.{turn_taken}
use Rattle.clean_sessions.proofs.SilentLoads.{none_alike, silent_load, turns_low}

abbrev pub seat_of : Post → Seat
seat_of post = record { header = post.standing.header; chooser = post.chooser; desk = post.standing.desk }

-- an end whose transmissions are short enough
pub record IsReady (seat : Seat) : Type 0 where
  pub own : length seat.header.own ≡ 10
  pub peer : length seat.header.peer ≡ 10
  pub turns : seat.desk.turns ≤ MOST_CONTROL_NUMBER

-- the same as `EndSilent` behind two turns more, of which these had no load
abbrev pub EndSilentBehind : Bool → Bool → (turns : List (List DueSet)) → (near far : Seat) → (text : List ℕ) → AreOwnTurns turns near far text → Type 0
EndSilentBehind first second [] near far text t = (first ≡ true) × (second ≡ true)
EndSilentBehind first second (one ∷ []) near far text t = (second ≡ true) × NothingDue t.2.proposed
EndSilentBehind first second (one ∷ two ∷ more) near far text t = EndSilent (one ∷ two ∷ more) near far text t

-- What the turns with this spoken are, from the one of the near end on, to the hall where all is over.
pub record IsChain (more : List Spoken) (first second : Bool) (near far : Seat) (text : List ℕ) (new : Hall) : Type 0 where
  pub turns : List (List DueSet)
  pub taken : AreOwnTurns turns near far text
  pub size : length turns ≡ length more
  pub silent : EndSilentBehind first second turns near far text taken
  pub ends : EndsWhenSilent second turns
  pub alone : all_alone (map turn_of more) ≡ blocks_spoken_in turns
  pub sets : map (λ (spoken : Spoken). spoken.sets) more ≡ map texts_of turns
  pub desks : (own : Bool) → (post_behind own more new).standing.desk ≡ desk_behind (not own) turns near far text taken

both_of : (a b : Bool) → (a && b) ≡ true → (b ≡ true) × (a ≡ true)
both_of true b e = (e, refl)
both_of false b e = absurd (cc)

-- ---- the last turn

last_chain : (owner hearer : Common) (text : List ℕ) (old new : Hall) → LeavesHall owner hearer text old new → (has_none text && owner.empty) ≡ true → IsChain [] owner.empty (has_none text) (seat_of old.near) (seat_of old.far) text new
last_chain owner hearer text old new l both =
    let done : IsComplete old new = subst (λ (t : Bool). GoesOn t owner hearer text old new) both l.goes in
    record {
      turns = [];
      taken = tt;
      size = refl;
      silent = both_of (has_none text) owner.empty both;
      ends = tt;
      alone = refl;
      sets = refl;
      desks = desks l.costs.desk done.desk;
    }
  where
    desks : new.near.standing.desk ≡ old.far.standing.desk → new.far.standing.desk ≡ old.near.standing.desk → (own : Bool)
        → (post_behind own [] new).standing.desk ≡ desk_behind (not own) [] (seat_of old.near) (seat_of old.far) text tt
    desks one other true = one
    desks one other false = other

-- ---- a turn more

module _ (header : Header) (chooser : Chooser) (old : Desk) (far : Seat) (text load : List ℕ) (desk : Desk) (turned : Turned header chooser old text desk load) where
  abbrev near : Seat
  near = record { header = header; chooser = chooser; desk = old }

  abbrev spoken_sets : List DueSet
  spoken_sets = gathered header turned.proposed

  silent_more : (first second : Bool) (turns : List (List DueSet)) (t : AreOwnTurns turns far (at_desk near desk) load) → (has_none load ≡ true → NothingDue turned.proposed)
      → EndSilentBehind second (has_none load) turns far (at_desk near desk) load t → EndSilentBehind first second (spoken_sets ∷ turns) near far text (desk, load, turned, refl, t)
  silent_more first second [] t due s = (s.0, due s.1)
  silent_more first second (one ∷ []) t due s = (due s.0, s.1)
  silent_more first second (one ∷ two ∷ more) t due s = s

  no_turns : (turns : List (List DueSet)) → length turns ≡ 0 → turns ≡ []
  no_turns [] e = refl
  no_turns (one ∷ turns) e = absurd (omega (arith, e))

  chain_more : (spoken : Spoken) (more : List Spoken) (first second : Bool) (new : Hall) → spoken.sets ≡ texts_of spoken_sets → (has_none load ≡ true → NothingDue turned.proposed) → (second ≡ true → has_none load ≡ true → more ≡ [])
      → IsChain more second (has_none load) far (at_desk near desk) load new → IsChain (spoken ∷ more) first second near far text new
  chain_more spoken more first second new same due last c =
      let alike = none_alike header (next_turn turned.proposed) spoken_sets load turned.loads in
      record {
        turns = spoken_sets ∷ c.turns;
        taken = (desk, load, turned, refl, c.taken);
        size = let rest = c.size in omega (arith, rest);
        silent = silent_more first second c.turns c.taken due c.silent;
        ends = (
          (λ quiet none. no_turns c.turns (c.size ∙ ap length (last quiet (sym alike ∙ none)))),
          subst (λ (b : Bool). EndsWhenSilent b c.turns) (sym alike) c.ends,
        );
        alone = let here = ap blocks_alone same in let rest = c.alone in omega (arith, here, rest);
        sets = ap (λ (l : List (List ℕ)). l ∷ map (λ (s : Spoken). s.sets) more) same ∙ ap (λ (l : List (List (List ℕ))). texts_of spoken_sets ∷ l) c.sets;
        desks = desks c;
      }
    where
      desks : (c : IsChain more second (has_none load) far (at_desk near desk) load new) (own : Bool) → (post_behind own (spoken ∷ more) new).standing.desk ≡ desk_behind (not own) (spoken_sets ∷ c.turns) near far text (desk, load, turned, refl, c.taken)
      desks c true = c.desks false
      desks c false = c.desks true

-- ---- turn after turn

pub same_seat : (one other : Seat) → one.header ≡ other.header → one.chooser ≡ other.chooser → one.desk ≡ other.desk → one ≡ other
same_seat one other h c d =
    ap (λ (x : Header). let s : Seat = record { header = x; chooser = one.chooser; desk = one.desk } in s) h
    ∙ ap (λ (x : Chooser). let s : Seat = record { header = other.header; chooser = x; desk = one.desk } in s) c
    ∙ ap (λ (x : Desk). let s : Seat = record { header = other.header; chooser = other.chooser; desk = x } in s) d

over_there : (more : List Spoken) (owner hearer : Common) (text : List ℕ) (old new : Hall) → AreTaken more owner hearer text old new → owner.empty ≡ true → has_none text ≡ true → more ≡ []
over_there [] owner hearer text old new taken empty none = refl
over_there (spoken ∷ more) owner hearer text old new (next, taken, both, desk, turned, sets, rest) empty none =
    absurd (never_both _ (ap (λ (b : Bool). b && owner.empty) none ∙ empty) both)

pub chain : (more : List Spoken) (owner hearer : Common) (text : List ℕ) (old new : Hall) → BeginsTurn owner hearer text old → IsReady (seat_of old.near) → IsReady (seat_of old.far) → AreTaken more owner hearer text old new
    → IsChain more owner.empty (has_none text) (seat_of old.near) (seat_of old.far) text new
chain [] owner hearer text old new b near_ready far_ready (taken, both) = last_chain owner hearer text old new (turn_taken owner hearer text old b new taken) both
chain (spoken ∷ more) owner hearer text old new b near_ready far_ready (next, taken, both, desk, turned, sets, rest) =
    let l = turn_taken owner hearer text old b next taken in
    let g : TakesNext owner hearer text old next = subst (λ (t : Bool). GoesOn t owner hearer text old next) both l.goes in
    let header : Header = old.near.standing.header in
    let same = one_turn header old.near.chooser old.near.standing.desk text g.desk desk g.load spoken.text g.turned turned in
    let begins = subst (λ (load : List ℕ). BeginsTurn (next_owner hearer (has_none text)) (next_hearer owner (has_none text)) load next) same.1 g.begins in
    let near_seat : seat_of next.near ≡ seat_of old.far = same_seat (seat_of next.near) (seat_of old.far) l.costs.headers.0 l.costs.choosers.0 l.costs.desk in
    let far_seat : seat_of next.far ≡ at_desk (seat_of old.near) desk = same_seat (seat_of next.far) (at_desk (seat_of old.near) desk) l.costs.headers.1 l.costs.choosers.1 (g.left ∙ same.0) in
    let low = turns_low header old.near.chooser old.near.standing.desk desk text spoken.text turned near_ready.turns in
    let behind : IsReady (at_desk (seat_of old.near) desk) = record { own = near_ready.own; peer = near_ready.peer; turns = low } in
    let c = chain more (next_owner hearer (has_none text)) (next_hearer owner (has_none text)) spoken.text next new begins (subst IsReady (sym near_seat) far_ready) (subst IsReady (sym far_seat) behind) rest in
    chain_more header old.near.chooser old.near.standing.desk (seat_of old.far) text spoken.text desk turned spoken more owner.empty (has_none text) new sets
    (silent_load header old.near.chooser old.near.standing.desk desk text spoken.text turned near_ready.own near_ready.peer near_ready.turns)
    (λ quiet none. over_there more (next_owner hearer (has_none text)) (next_hearer owner (has_none text)) spoken.text next new rest quiet none)
    (subst (λ (s : Seat). IsChain more (has_none text) (has_none spoken.text) (seat_of old.far) s spoken.text new) far_seat
    (subst (λ (s : Seat). IsChain more (has_none text) (has_none spoken.text) s (seat_of next.far) spoken.text new) near_seat c))
