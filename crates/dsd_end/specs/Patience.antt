-- How long an end is patient: how many polls may still answer that the session goes on.
use Rattle.std.specs.Prelude.{◌≡◌, ℕ, ◌+◌, ◌*◌, ◌-◌, ◌<◌, Bool, true, false, List, [], ◌∷◌}
use Rattle.dex_handshake.specs.LineTable.{Line, Ready, Bidding, Awaiting, SentAll, InText, Finished, Ended}
use Rattle.dex_handshake.specs.declared.session_end.TheConstants.{MOST_QUIETS}
use Rattle.dsd_end.specs.Standings.{Standing, has_ended}
use Rattle.dsd_end.specs.declared.fault.TheConstants.{NOISE_BYTES}

-- how many Quiets came in a row
abbrev pub quiets_in : Line → ℕ
quiets_in (Ready own) = own.quiets
quiets_in (Bidding own load) = own.quiets
quiets_in (Awaiting own sending) = own.quiets
quiets_in (SentAll own) = own.quiets
quiets_in (InText own taking) = own.quiets
quiets_in (Finished own text) = own.quiets
quiets_in (Ended end) = 0

-- a frame that has begun may break off, and then Quiets are counted anew
abbrev pub begun_patience : List ℕ → ℕ
begun_patience [] = 0
begun_patience (b ∷ more) = 29

abbrev pub first_patience : Bool → ℕ
first_patience true = 1
first_patience false = 0

-- each byte up to the noise, and each Quiet up to the silence; a byte may end a row of Quiets
abbrev pub patience : Standing → ℕ
patience standing = MOST_QUIETS * (NOISE_BYTES - standing.heard) + (MOST_QUIETS - quiets_in standing.line) + begun_patience standing.begun + first_patience standing.first

-- There was patience for a poll, and one that goes on costs some.
pub record CostsPatience (old new : Standing) : Type 0 where
  pub some : 0 < patience old
  pub less : has_ended new.line ≡ false → patience new < patience old
