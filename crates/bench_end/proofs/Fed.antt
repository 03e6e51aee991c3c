-- What is fed changes nothing of the journal.
use Rattle.std.proofs.Common.{◌≡◌, sym, subst}
use Rattle.dsd_station.specs.Logged.{Log, told_by}
use Rattle.dsd_station.specs.Plans.{with_fed}
use Rattle.dsd_station.specs.declared.feeding.Given.{Given}
use Rattle.dsd_journal.specs.Journals.{Rests}
use Rattle.dsd_end.specs.EndSeen.{EndView}
use Rattle.bench_end.specs.Standing.{CanPoll}

pub fed_stands : (core : EndView) (old new : Log) (given : Given) → new ≡ with_fed old given → CanPoll core old → CanPoll core new
fed_stands core old new given is stands fine =
    let was = stands fine in
    subst (λ (log : Log). Rests core.book.header core.book.known (told_by log)) (sym is)
    (record { holds = was.holds; synced = record { sure = was.synced.sure; writes = was.synced.writes } })
