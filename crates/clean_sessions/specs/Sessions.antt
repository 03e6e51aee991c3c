-- A clean session from a turn of texts on: turn after turn, until both ends are complete.
use Rattle.std.specs.Prelude.{◌≡◌, ◌≤◌, ◌+◌, ◌*◌, ℕ, Bool, true, false, not, ◌&&◌, List, [], ◌∷◌, length, map}
use Rattle.dex_handshake.specs.LineRun.{load_of}
use Rattle.dex_handshake.specs.LineTable.{Common, Ended}
use Rattle.dex_handshake.specs.declared.session_end.SessionEnd.TheVariants.{Complete}
use Rattle.own_turn.specs.DueSets.{texts_of}
use Rattle.own_turn.specs.OwnTurn.{Desk, Turned, gathered}
use Rattle.clean_sessions.specs.BlocksAlone.{blocks_alone}
use Rattle.clean_sessions.specs.CleanTurns.{has_none, next_hearer, next_owner}
use Rattle.clean_sessions.specs.Halls.{Hall, IsTurnTaken, Post}
use Rattle.clean_sessions.specs.Turns.{Turn, is_empty, polls_in}

-- what is spoken in a turn: its sets, and the text of them
pub record Spoken : Type 0 where
  pub sets : List (List ℕ)
  pub text : List ℕ

-- what it costs: a block is heard in at most four polls
abbrev pub turn_of : Spoken → Turn
turn_of spoken = record { blocks = length (load_of spoken.text); pieces = 4 * length (load_of spoken.text); alone = blocks_alone spoken.sets }

-- The turn of a text is taken, and then those with what is spoken in them: each text is the load of the own turn that the end takes which has heard the
-- one before. The last one is the second in succession without a block.
abbrev pub AreTaken : List Spoken → Common → Common → List ℕ → Hall → Hall → Type 0
AreTaken [] owner hearer text old new = IsTurnTaken (length (load_of text)) old new × ((has_none text && owner.empty) ≡ true)
AreTaken (spoken ∷ more) owner hearer text old new =
    (next : Hall) × IsTurnTaken (length (load_of text)) old next × ((has_none text && owner.empty) ≡ false)
    × (desk : Desk) × (turned : Turned old.near.standing.header old.near.chooser old.near.standing.desk text desk spoken.text)
    × (spoken.sets ≡ texts_of (gathered old.near.standing.header turned.proposed))
    × AreTaken more (next_owner hearer (has_none text)) (next_hearer owner (has_none text)) spoken.text next new

-- The same without an end: behind each of them the session goes on.
abbrev pub GoOn : List Spoken → Common → Common → List ℕ → Hall → Hall → Type 0
GoOn [] owner hearer text old new = new ≡ old
GoOn (spoken ∷ more) owner hearer text old new =
    (next : Hall) × IsTurnTaken (length (load_of text)) old next × ((has_none text && owner.empty) ≡ false)
    × (desk : Desk) × (turned : Turned old.near.standing.header old.near.chooser old.near.standing.desk text desk spoken.text)
    × GoOn more (next_owner hearer (has_none text)) (next_hearer owner (has_none text)) spoken.text next new

-- the end whose own turn the first one is, or the other one, behind these turns
abbrev pub post_behind : Bool → List Spoken → Hall → Post
post_behind true [] hall = hall.near
post_behind false [] hall = hall.far
post_behind own (spoken ∷ more) hall = post_behind (not own) more hall

abbrev pub post_before : Bool → Hall → Post
post_before true hall = hall.far
post_before false hall = hall.near

-- Both ends are complete behind the turns, and each was polled no more than these cost.
pub record IsSession (first : Spoken) (more : List Spoken) (old new : Hall) : Type 0 where
  pub near : new.near.standing.line ≡ Ended Complete
  pub far : new.far.standing.line ≡ Ended Complete
  pub flight : new.flight ≡ []
  pub polls : (own : Bool) → (post_behind own more new).polls ≤ (post_before own old).polls + polls_in own (turn_of first ∷ map turn_of more)

-- what is spoken in a turn costs so, and it is nothing where there is no set
pub record IsSpokenText (spoken : Spoken) : Type 0 where
  pub few : length (load_of spoken.text) ≤ blocks_alone spoken.sets + 2
  pub none : is_empty (turn_of spoken) ≡ has_none spoken.text
