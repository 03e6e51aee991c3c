-- What two lives over one cable agree on.
use Rattle.std.specs.Prelude.{List, [], ◌∷◌, ⊤, map}
use Rattle.delivery_book.specs.Agreement.{AgreeOnFinals, FinalsAreSigned}
use Rattle.dsd_end.specs.Lives.{last_list}
use Rattle.dsd_end.specs.Runs.{Run}
use Rattle.dsd_end.specs.Speaking.{AreFrames, IsBacked}

-- each data block that went out in a run, whole or cut short, is cut from a written transmission of sets that are signed in the last
-- list of that run and of every later one
abbrev pub HoldsWhatItSpoke : List Run → Type 0
HoldsWhatItSpoke [] = ⊤
HoldsWhatItSpoke (run ∷ later) = AreFrames (IsBacked (run.after ∷ map (λ (next : Run). next.after) later)) run.gone × HoldsWhatItSpoke later

pub record Agree (supplier receiver : List Run) : Type 0 where
  -- a delivery that is final at both ends is the same record
  pub finals : AgreeOnFinals (last_list supplier) (last_list receiver)
  -- of a delivery that is final at one end, its accepted proposal was signed by one end and its acceptance by the other
  pub supplier_side : FinalsAreSigned (last_list supplier) (last_list receiver)
  pub receiver_side : FinalsAreSigned (last_list receiver) (last_list supplier)
  -- each end holds every signature that it ever sent
  pub supplier_holds : HoldsWhatItSpoke supplier
  pub receiver_holds : HoldsWhatItSpoke receiver
