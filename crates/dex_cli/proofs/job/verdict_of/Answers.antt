use Rattle.std.proofs.Common.{◌⊎◌, inl, inr, map, string_bytes, refl}
use Rattle.dsd_values.specs.declared.role.Role.{Role}
use Rattle.dsd_values.specs.declared.role.Role.TheVariants.{Supplier, Receiver}
use Rattle.dex_cli.specs.Ends.{IsIdle}
use Rattle.dex_cli.specs.Formatting.{served_of}
use Rattle.dex_cli.specs.Replaying.{worlds_of}
use Rattle.dex_cli.specs.Verdicts.{HasServed, read_of}
use Rattle.dex_cli.specs.declared.end_words.EndNames.{EndNames}
use Rattle.dex_cli.specs.declared.words.Job.TheVariants as jobs
use Rattle.dex_cli.proofs.ByInput.{still_idle}
use Rattle.dex_cli.proofs.OneJob.{load_only, replay_only}
use Rattle.dex_cli.proofs.ServedEnds.{may_handheld, may_load, may_receiver, may_replay, no_other, no_show, on_err, other_check, other_format, other_load, other_replay, other_show, this_end}
use Rattle.dex_cli.proofs.job.verdict_of.Goals as goal

pub returns-in-Err-Memory-clause-words : goal.returns-in-Err-Memory-clause-words
returns-in-Err-Memory-clause-words g c = λ no_job.
    let wanted = c.in-Err-Memory.ensures.memory (rw c.in-Err-Memory.field-0-is) in
    elim wanted [
      | inl format ↦ absurd (no_job (jobs.Format format.0) format.1)
      | inr others ↦ elim others [ inl show ↦ absurd (no_job (jobs.Show show.0) show.1) | inr end ↦ absurd (no_other (map string_bytes c.args.words.now) (λ (role : Role) (names : EndNames). ⊥) no_job end.0 end.1 end.2) ]
    ]

pub returns-in-Ok-Check-clause-served : goal.returns-in-Ok-Check-clause-served
returns-in-Ok-Check-clause-served g c = λ tells.
    let clauses = rw c.in-Ok-Check.field-0-is at c.in-Ok-Check.ensures in
    other_check (map string_bytes c.args.words.now) _ (c.in-Ok-Check.kind, clauses.found)

pub returns-in-Ok-Format-clause-served : goal.returns-in-Ok-Format-clause-served
returns-in-Ok-Format-clause-served g c = λ tells.
    let clauses = rw c.in-Ok-Format.field-0-is at c.in-Ok-Format.ensures in
    other_format (map string_bytes c.args.words.now) _ (c.in-Ok-Format.new, clauses.found)

pub returns-in-Ok-Show-clause-served : goal.returns-in-Ok-Show-clause-served
returns-in-Ok-Show-clause-served g c = λ tells.
    let clauses = rw c.in-Ok-Show.field-0-is at c.in-Ok-Show.ensures in
    other_show (map string_bytes c.args.words.now) _ (c.in-Ok-Show.journal, clauses.found)

pub returns-in-Ok-Handheld-clause-served : goal.returns-in-Ok-Handheld-clause-served
returns-in-Ok-Handheld-clause-served g c = λ tells.
    let clauses = rw c.in-Ok-Handheld.field-0-is at c.in-Ok-Handheld.ensures in
    this_end (map string_bytes c.args.words.now) Supplier c.in-Ok-Handheld.names
    (λ (role : Role) (names : EndNames). IsIdle names (g.T.Station.told c.args.station.now) (g.T.Station.told c.serve_end.new.station) ⊎ HasServed role names (read_of g.S.Source.left g.S.Source.faults c.args.source.now c.serve_end.new.source) (g.T.Station.told c.args.station.now) (g.T.Station.told c.serve_end.new.station))
    clauses.found (c.serve_end.ensures.left tells)

pub returns-in-Ok-Handheld-clause-looked : goal.returns-in-Ok-Handheld-clause-looked
returns-in-Ok-Handheld-clause-looked g c = λ tells journal show.
    let clauses = rw c.in-Ok-Handheld.field-0-is at c.in-Ok-Handheld.ensures in
    absurd (no_show (map string_bytes c.args.words.now) Supplier c.in-Ok-Handheld.names clauses.found (journal, show))

pub returns-in-Ok-Handheld-clause-may : goal.returns-in-Ok-Handheld-clause-may
returns-in-Ok-Handheld-clause-may g c =
    let clauses = rw c.in-Ok-Handheld.field-0-is at c.in-Ok-Handheld.ensures in
    may_handheld g.T.Station.tells (map string_bytes c.args.words.now) (read_of g.S.Source.left g.S.Source.faults c.args.source.now c.serve_end.new.source)
    (served_of g.T.Station.told g.T.Station.faults c.args.station.now c.serve_end.new.station) (worlds_of c.args.world.now c.args.world.now) c.in-Ok-Handheld.names c.serve_end.result clauses.found c.serve_end.ensures.told

pub returns-in-Ok-Handheld-clause-memory : goal.returns-in-Ok-Handheld-clause-memory
returns-in-Ok-Handheld-clause-memory g c =
    let clauses = rw c.in-Ok-Handheld.field-0-is at c.in-Ok-Handheld.ensures in
    on_err c.serve_end.result _ (inr (inr (Supplier, c.in-Ok-Handheld.names, clauses.found)))

pub returns-in-Ok-Handheld-clause-taken : goal.returns-in-Ok-Handheld-clause-taken
returns-in-Ok-Handheld-clause-taken g c = c.serve_end.ensures.taken

pub returns-in-Ok-Handheld-clause-words : goal.returns-in-Ok-Handheld-clause-words
returns-in-Ok-Handheld-clause-words g c = λ none.
    let clauses = rw c.in-Ok-Handheld.field-0-is at c.in-Ok-Handheld.ensures in
    absurd (none (jobs.Handheld c.in-Ok-Handheld.names) clauses.found)

pub returns-in-Ok-Handheld-clause-unread : goal.returns-in-Ok-Handheld-clause-unread
returns-in-Ok-Handheld-clause-unread g c = λ none.
    let clauses = rw c.in-Ok-Handheld.field-0-is at c.in-Ok-Handheld.ensures in
    absurd (none (inr (inl (Supplier, c.in-Ok-Handheld.names, clauses.found))))

pub returns-in-Ok-Handheld-clause-idle : goal.returns-in-Ok-Handheld-clause-idle
returns-in-Ok-Handheld-clause-idle g c = λ none.
    let clauses = rw c.in-Ok-Handheld.field-0-is at c.in-Ok-Handheld.ensures in
    absurd (none (inr (inr (Supplier, c.in-Ok-Handheld.names, clauses.found))))

pub returns-in-Ok-Receiver-clause-served : goal.returns-in-Ok-Receiver-clause-served
returns-in-Ok-Receiver-clause-served g c = λ tells.
    let clauses = rw c.in-Ok-Receiver.field-0-is at c.in-Ok-Receiver.ensures in
    this_end (map string_bytes c.args.words.now) Receiver c.in-Ok-Receiver.names
    (λ (role : Role) (names : EndNames). IsIdle names (g.T.Station.told c.args.station.now) (g.T.Station.told c.serve_end-in-Ok-Receiver.new.station) ⊎ HasServed role names (read_of g.S.Source.left g.S.Source.faults c.args.source.now c.serve_end-in-Ok-Receiver.new.source) (g.T.Station.told c.args.station.now) (g.T.Station.told c.serve_end-in-Ok-Receiver.new.station))
    clauses.found (c.serve_end-in-Ok-Receiver.ensures.left tells)

pub returns-in-Ok-Receiver-clause-looked : goal.returns-in-Ok-Receiver-clause-looked
returns-in-Ok-Receiver-clause-looked g c = λ tells journal show.
    let clauses = rw c.in-Ok-Receiver.field-0-is at c.in-Ok-Receiver.ensures in
    absurd (no_show (map string_bytes c.args.words.now) Receiver c.in-Ok-Receiver.names clauses.found (journal, show))

pub returns-in-Ok-Receiver-clause-may : goal.returns-in-Ok-Receiver-clause-may
returns-in-Ok-Receiver-clause-may g c =
    let clauses = rw c.in-Ok-Receiver.field-0-is at c.in-Ok-Receiver.ensures in
    may_receiver g.T.Station.tells (map string_bytes c.args.words.now) (read_of g.S.Source.left g.S.Source.faults c.args.source.now c.serve_end-in-Ok-Receiver.new.source)
    (served_of g.T.Station.told g.T.Station.faults c.args.station.now c.serve_end-in-Ok-Receiver.new.station) (worlds_of c.args.world.now c.args.world.now) c.in-Ok-Receiver.names c.serve_end-in-Ok-Receiver.result clauses.found c.serve_end-in-Ok-Receiver.ensures.told

pub returns-in-Ok-Receiver-clause-memory : goal.returns-in-Ok-Receiver-clause-memory
returns-in-Ok-Receiver-clause-memory g c =
    let clauses = rw c.in-Ok-Receiver.field-0-is at c.in-Ok-Receiver.ensures in
    on_err c.serve_end-in-Ok-Receiver.result _ (inr (inr (Receiver, c.in-Ok-Receiver.names, clauses.found)))

pub returns-in-Ok-Receiver-clause-taken : goal.returns-in-Ok-Receiver-clause-taken
returns-in-Ok-Receiver-clause-taken g c = c.serve_end-in-Ok-Receiver.ensures.taken

pub returns-in-Ok-Receiver-clause-words : goal.returns-in-Ok-Receiver-clause-words
returns-in-Ok-Receiver-clause-words g c = λ none.
    let clauses = rw c.in-Ok-Receiver.field-0-is at c.in-Ok-Receiver.ensures in
    absurd (none (jobs.Receiver c.in-Ok-Receiver.names) clauses.found)

pub returns-in-Ok-Receiver-clause-unread : goal.returns-in-Ok-Receiver-clause-unread
returns-in-Ok-Receiver-clause-unread g c = λ none.
    let clauses = rw c.in-Ok-Receiver.field-0-is at c.in-Ok-Receiver.ensures in
    absurd (none (inr (inl (Receiver, c.in-Ok-Receiver.names, clauses.found))))

pub returns-in-Ok-Receiver-clause-idle : goal.returns-in-Ok-Receiver-clause-idle
returns-in-Ok-Receiver-clause-idle g c = λ none.
    let clauses = rw c.in-Ok-Receiver.field-0-is at c.in-Ok-Receiver.ensures in
    absurd (none (inr (inr (Receiver, c.in-Ok-Receiver.names, clauses.found))))

pub returns-in-Err-Refused-clause-served : goal.returns-in-Err-Refused-clause-served
returns-in-Err-Refused-clause-served g c = λ tells.
    let clauses = rw c.in-Err-Refused.field-0-is at c.in-Err-Refused.ensures in
    no_other (map string_bytes c.args.words.now) _ (clauses.refused refl)

pub returns-in-Err-Memory-clause-served : goal.returns-in-Err-Memory-clause-served
returns-in-Err-Memory-clause-served g c = λ tells role names spells. inl (still_idle names (g.T.Station.told c.args.station.now))

pub returns-in-Ok-Replay-clause-may : goal.returns-in-Ok-Replay-clause-may
returns-in-Ok-Replay-clause-may g c =
    let clauses = rw c.in-Ok-Replay.field-0-is at c.in-Ok-Replay.ensures in
    may_replay g.T.Station.tells (map string_bytes c.args.words.now) (read_of g.S.Source.left g.S.Source.faults c.args.source.now c.replay.new.source)
    (served_of g.T.Station.told g.T.Station.faults c.args.station.now c.args.station.now) (worlds_of c.args.world.now c.replay.new.world) c.replay.result clauses.found c.replay.ensures.told

pub returns-in-Ok-Replay-clause-memory : goal.returns-in-Ok-Replay-clause-memory
returns-in-Ok-Replay-clause-memory g c = on_err c.replay.result _ (inl refl)

pub returns-in-Ok-Replay-clause-taken : goal.returns-in-Ok-Replay-clause-taken
returns-in-Ok-Replay-clause-taken g c = c.replay.ensures.taken

pub returns-in-Ok-Replay-clause-words : goal.returns-in-Ok-Replay-clause-words
returns-in-Ok-Replay-clause-words g c = λ none.
    let clauses = rw c.in-Ok-Replay.field-0-is at c.in-Ok-Replay.ensures in
    absurd (none jobs.Replay clauses.found)

pub returns-in-Ok-Replay-clause-unread : goal.returns-in-Ok-Replay-clause-unread
returns-in-Ok-Replay-clause-unread g c = λ none.
    let clauses = rw c.in-Ok-Replay.field-0-is at c.in-Ok-Replay.ensures in
    absurd (none (inr (inr clauses.found)))

pub returns-in-Ok-Replay-clause-looked : goal.returns-in-Ok-Replay-clause-looked
returns-in-Ok-Replay-clause-looked g c = λ tells journal show.
    let clauses = rw c.in-Ok-Replay.field-0-is at c.in-Ok-Replay.ensures in
    absurd ((replay_only (map string_bytes c.args.words.now) clauses.found).2 (journal, show))

pub returns-in-Ok-Replay-clause-served : goal.returns-in-Ok-Replay-clause-served
returns-in-Ok-Replay-clause-served g c = λ tells.
    let clauses = rw c.in-Ok-Replay.field-0-is at c.in-Ok-Replay.ensures in
    other_replay (map string_bytes c.args.words.now) _ clauses.found

pub returns-in-Ok-Replay-clause-kept : goal.returns-in-Ok-Replay-clause-kept
returns-in-Ok-Replay-clause-kept g c = λ none.
    let clauses = rw c.in-Ok-Replay.field-0-is at c.in-Ok-Replay.ensures in
    absurd (none (inl clauses.found))

pub returns-in-Ok-Load-clause-may : goal.returns-in-Ok-Load-clause-may
returns-in-Ok-Load-clause-may g c =
    let clauses = rw c.in-Ok-Load.field-0-is at c.in-Ok-Load.ensures in
    may_load g.T.Station.tells (map string_bytes c.args.words.now) (read_of g.S.Source.left g.S.Source.faults c.args.source.now c.args.source.now)
    (served_of g.T.Station.told g.T.Station.faults c.args.station.now c.args.station.now) (worlds_of c.args.world.now c.load.new.world) c.in-Ok-Load.count c.load.result clauses.found refl c.load.ensures.told

pub returns-in-Ok-Load-clause-words : goal.returns-in-Ok-Load-clause-words
returns-in-Ok-Load-clause-words g c = λ none.
    let clauses = rw c.in-Ok-Load.field-0-is at c.in-Ok-Load.ensures in
    absurd (none (jobs.Load c.in-Ok-Load.count) clauses.found)

pub returns-in-Ok-Load-clause-memory : goal.returns-in-Ok-Load-clause-memory
returns-in-Ok-Load-clause-memory g c = on_err c.load.result _ (inl refl)

pub returns-in-Ok-Load-clause-looked : goal.returns-in-Ok-Load-clause-looked
returns-in-Ok-Load-clause-looked g c = λ tells journal show.
    let clauses = rw c.in-Ok-Load.field-0-is at c.in-Ok-Load.ensures in
    absurd ((load_only (map string_bytes c.args.words.now) (c.in-Ok-Load.count, clauses.found)).2 (journal, show))

pub returns-in-Ok-Load-clause-served : goal.returns-in-Ok-Load-clause-served
returns-in-Ok-Load-clause-served g c = λ tells.
    let clauses = rw c.in-Ok-Load.field-0-is at c.in-Ok-Load.ensures in
    other_load (map string_bytes c.args.words.now) _ (c.in-Ok-Load.count, clauses.found)

pub returns-in-Ok-Load-clause-kept : goal.returns-in-Ok-Load-clause-kept
returns-in-Ok-Load-clause-kept g c = λ none.
    let clauses = rw c.in-Ok-Load.field-0-is at c.in-Ok-Load.ensures in
    absurd (none (inr (c.in-Ok-Load.count, clauses.found)))

pub returns-in-Ok-Load-clause-unplayed : goal.returns-in-Ok-Load-clause-unplayed
returns-in-Ok-Load-clause-unplayed g c = c.load.ensures.kept

pub returns-in-Ok-Replay-clause-unplayed : goal.returns-in-Ok-Replay-clause-unplayed
returns-in-Ok-Replay-clause-unplayed g c = c.replay.ensures.kept

pub returns-in-Ok-Handheld-clause-unplayed : goal.returns-in-Ok-Handheld-clause-unplayed
returns-in-Ok-Handheld-clause-unplayed g c = on_err c.serve_end.result _ refl

pub returns-in-Ok-Receiver-clause-unplayed : goal.returns-in-Ok-Receiver-clause-unplayed
returns-in-Ok-Receiver-clause-unplayed g c = on_err c.serve_end-in-Ok-Receiver.result _ refl

pub returns-in-Ok-Check-clause-unplayed : goal.returns-in-Ok-Check-clause-unplayed
returns-in-Ok-Check-clause-unplayed g c = on_err c.check.result _ refl

pub returns-in-Ok-Show-clause-unplayed : goal.returns-in-Ok-Show-clause-unplayed
returns-in-Ok-Show-clause-unplayed g c = on_err c.show_journal.result _ refl
