-- What a run of an end is, as plain data.
use Rattle.std.specs.Prelude.{ℕ, List, [], ◌∷◌, ◌++◌}
use Rattle.dsd_journal.specs.declared.entry.Entry.{Entry}
use Rattle.dsd_station.specs.declared.call.Reception.{Reception}
use Rattle.dsd_station.specs.declared.call.Reception.TheVariants.{Piece, Silence, Cut}

-- The entries with which it began, what its listens heard, the bytes that had gone out when it ended, and the entries in
-- the image that it left. It ends by its return or by a stop: then it has heard what came until then.
pub record Run : Type 0 where
  pub before : List Entry
  pub heard : List Reception
  pub gone : List ℕ
  pub after : List Entry

-- the bytes that were heard, without silences and cuts
abbrev pub bytes_heard : List Reception → List ℕ
bytes_heard [] = []
bytes_heard (Piece bytes ∷ heard) = bytes ++ bytes_heard heard
bytes_heard (Silence ∷ heard) = bytes_heard heard
bytes_heard (Cut ∷ heard) = bytes_heard heard
