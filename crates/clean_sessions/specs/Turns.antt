-- What the turns of a clean session cost, in polls.
use Rattle.std.specs.Prelude.{◌≡◌, ◌≤◌, ◌+◌, ◌*◌, ℕ, Bool, true, false, ◌==◌, List, [], ◌∷◌}

-- one own turn behind the headers
pub record Turn : Type 0 where
  -- into how many blocks its text is cut, 0 without a text
  pub blocks : ℕ
  -- in how many polls the partner hears them
  pub pieces : ℕ
  -- into how many blocks its sets are cut, each alone
  pub alone : ℕ

pub record IsTurn (turn : Turn) : Type 0 where
  -- the two segments of the envelope cost at most a block each
  pub few : turn.blocks ≤ turn.alone + 2
  -- without a set there is no text
  pub none : turn.alone ≡ 0 → turn.blocks ≡ 0
  -- a block of 245 bytes has 251 on the line, which are heard 64 at a time and then the rest
  pub short : turn.pieces ≤ 4 * turn.blocks

abbrev pub is_empty : Turn → Bool
is_empty turn = turn.alone == 0

-- Behind two empty turns in a row nothing follows.
abbrev pub EndsWhenEmpty : Bool → List Turn → Type 0
EndsWhenEmpty after_empty [] = Unit {0}
EndsWhenEmpty after_empty (turn ∷ turns) = IsTurn turn × (after_empty ≡ true → is_empty turn ≡ true → turns ≡ []) × EndsWhenEmpty (is_empty turn) turns

-- the blocks of all sets that are spoken, each set cut alone and counted as often as it is spoken
abbrev pub all_alone : List Turn → ℕ
all_alone [] = 0
all_alone (turn ∷ turns) = turn.alone + all_alone turns

-- Polls of one end in these turns, the first of which is its own or the partner's. In its own turn it hears the reply to
-- Enq and one reply a block, in the partner's the Enq, the blocks and the Eot.
abbrev pub polls_in : Bool → List Turn → ℕ
polls_in own [] = 0
polls_in true (turn ∷ turns) = 1 + turn.blocks + polls_in false turns
polls_in false (turn ∷ turns) = 2 + turn.pieces + polls_in true turns

-- of the supplier, or of the receiver: the two turns with the headers, and the supplier's first poll, come before
abbrev pub polls_of : Bool → List Turn → ℕ
polls_of true turns = 6 + polls_in true turns
polls_of false turns = 5 + polls_in false turns
