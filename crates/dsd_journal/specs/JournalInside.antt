-- What contracts see of a journal's fields, and what holds of them.
use Rattle.std.specs.Prelude.{◌+◌, ◌<◌, ◌≤◌, ◌≡◌, ◌++◌, vec_len, vec_capacity}
use Rattle.dsd_journal.specs.declared.journal.Journal.TheInside.{Inside}
use Rattle.dsd_journal.specs.declared.limits.TheConstants.{JOURNAL_BYTES}
use Rattle.dsd_journal.specs.JournalImage.{gate_place, spelled, EachFits}
use Rattle.dsd_journal.specs.Journals.{View}

abbrev pub view_of : Inside → View
view_of j = record { header = j.header; entries = j.entries.list; staged = j.staged.items; spare = j.spare; works = j.works }

-- The batch has the staged entries, each behind an open gate. There is room for a closed one behind it, and for the staged entries behind the
-- others.
pub record IsStaged (j : Inside) : Type 0 where
  pub batch : j.batch.items ≡ spelled j.staged.items
  pub each : EachFits j.staged.items
  pub below : gate_place (j.entries.list ++ j.staged.items) < JOURNAL_BYTES
  pub entries : vec_len j.staged ≤ j.entries.room
  pub gate : 0 < vec_len j.staged → vec_len j.batch < vec_capacity j.batch

-- There is room for what is spare: for an entry more, for its payload, and for its bytes with a gate before and behind them.
pub record IsReady (j : Inside) : Type 0 where
  pub staged : IsStaged j
  pub entry : 0 < j.spare → vec_len j.staged < j.entries.room
  pub place : 0 < j.spare → vec_len j.staged < vec_capacity j.staged
  pub payload : j.spare ≤ vec_capacity j.payload
  pub empty : vec_len j.payload ≡ 0
  pub batch : 0 < j.spare → vec_len j.batch + j.spare + 7 ≤ vec_capacity j.batch
