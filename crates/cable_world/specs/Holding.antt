-- What the image of an end's station holds, by where the end stands.
use Rattle.std.specs.Prelude.{◌≡◌, ℕ, false, List, Option, Some, None, ⊤}
use Rattle.dsd_journal.specs.declared.header.Header.{Header}
use Rattle.dsd_journal.specs.JournalImage.{Holds}
use Rattle.dsd_end.specs.Standings.{Standing}

-- The image holds the entries of the last standing, unless a call of that end has answered a fault. Where no end was opened last there is no standing.
abbrev pub HoldsLast : Header → Option Standing → List ℕ → Type 0
HoldsLast header None image = ⊤
HoldsLast header (Some standing) image = standing.failed ≡ false → Holds header standing.desk.entries image
