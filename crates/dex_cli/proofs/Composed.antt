-- What was taken of the source, and what was done with the station, where a text is made.
use Rattle.std.proofs.Common.{◌≡◌, ◌⊎◌, inl, inr, ℕ, ◌+◌, List, [], Option, Some, None, refl, sym, ◌∙◌, subst, arith}
use Rattle.std.specs.Io.KnownBytes.{Consumes}
use Rattle.dsd_values.specs.declared.role.Role.{Role}
use Rattle.dsd_values.specs.declared.role.Role.TheVariants.{Supplier, Receiver}
use Rattle.dsd_station.specs.Causes.{TakesUpTo}
use Rattle.dex_cli.specs.declared.end_words.EndNames.{EndNames}
use Rattle.dex_cli.specs.Formatting.{Formats, Served}
use Rattle.dex_cli.specs.Replaying.{IsToldOfWorld, Worlds}
use Rattle.dex_cli.specs.Verdicts.{Does, IsComposed, Loads, MayCome, Read, Replays, ReplaysInput, ServesEnd}
use Rattle.dex_cli.specs.Words.{AsksEnd, AsksJournal, AsksLoad, AsksReplay, AsksShow, AsksWorld, Spells}
use Rattle.dex_cli.specs.declared.format_words.NewJournal.{NewJournal}
use Rattle.dex_cli.specs.declared.job.TheConstants.{INPUT_BYTES}
use Rattle.dex_cli.specs.declared.verdict.Verdict.{Verdict}
use Rattle.dex_cli.specs.declared.verdict.Verdict.TheVariants as verdicts
use Rattle.dex_cli.specs.declared.words.CheckKind.{CheckKind}
use Rattle.dex_cli.specs.declared.words.Job.{Job}
use Rattle.dex_cli.specs.declared.words.Job.TheVariants as jobs
use Rattle.dex_cli.proofs.OneJob.{check_is_format, check_is_show, end_only, load_only, replay_only}

-- ---- the source

consumes_none : (left after : Option (List ℕ)) → after ≡ left → Consumes left after []
consumes_none None after same = tt
consumes_none (Some xs) None same = (let never : ⊥ = cc in absurd never)
consumes_none (Some xs) (Some ys) same = cc

none_taken : (left after : Option (List ℕ)) → after ≡ left → TakesUpTo (INPUT_BYTES + 1) left after
none_taken left after same = ([], omega arith, consumes_none left after same)

taken_for_end : (tells : Type 0) (role : Role) (names : EndNames) (read : Read) (served : Served) (verdict : Verdict) → ServesEnd tells role names read served verdict → TakesUpTo (INPUT_BYTES + 1) read.left read.after
taken_for_end tells role names read served verdict (inl unread) = unread.0.taken
taken_for_end tells role names read served verdict (inr serves) = (serves.0, serves.1.few, serves.1.taken)

taken_for_replay : (read : Read) (worlds : Worlds) (verdict : Verdict) → Replays read worlds verdict → TakesUpTo (INPUT_BYTES + 1) read.left read.after
taken_for_replay read worlds verdict (inl unread) = unread.0.taken
taken_for_replay read worlds verdict (inr replays) = (replays.0, replays.1.few, replays.1.taken)

taken_by : (tells : Type 0) (job : Job) (read : Read) (served : Served) (worlds : Worlds) (verdict : Verdict) → Does tells job read served worlds verdict → TakesUpTo (INPUT_BYTES + 1) read.left read.after
taken_by tells (jobs.Check kind) read served worlds verdict (inl unread) = unread.taken
taken_by tells (jobs.Check kind) read served worlds verdict (inr checked) = (checked.input, checked.read_is.few, checked.read_is.taken)
taken_by tells (jobs.Format new) read served worlds verdict does = none_taken read.left read.after does.0
taken_by tells (jobs.Show journal) read served worlds verdict does = none_taken read.left read.after does.0
taken_by tells (jobs.Handheld names) read served worlds verdict does = taken_for_end tells Supplier names read served verdict does
taken_by tells (jobs.Receiver names) read served worlds verdict does = taken_for_end tells Receiver names read served verdict does
taken_by tells jobs.Replay read served worlds verdict does = taken_for_replay read worlds verdict does
taken_by tells (jobs.Load count) read served worlds verdict does = none_taken read.left read.after does.0

pub taken : (tells : Type 0) (words : List (List ℕ)) (read : Read) (served : Served) (worlds : Worlds) (verdict : Verdict) → MayCome tells words read served worlds verdict → TakesUpTo (INPUT_BYTES + 1) read.left read.after
taken tells words read served worlds verdict (inl none) = none_taken read.left read.after none.unread
taken tells words read served worlds verdict (inr some) = taken_by tells some.job read served worlds verdict some.does

-- ---- the station

check_only : (kind : CheckKind) (words : List (List ℕ)) → Spells (jobs.Check kind) words → AsksJournal words → ⊥
check_only kind words s (inl (new, format)) = check_is_format kind new (sym s ∙ format.words_are)
check_only kind words s (inr (inl (journal, show))) = check_is_show kind journal (sym s ∙ show.words_are)
check_only kind words s (inr (inr (role, names, end))) = (end_only role names words end).0 (kind, s)

replay_only_source : (words : List (List ℕ)) → AsksReplay words → AsksJournal words → ⊥
replay_only_source words s (inl format) = (replay_only words s).1 format
replay_only_source words s (inr (inl show)) = (replay_only words s).2 show
replay_only_source words s (inr (inr end)) = (replay_only words s).3 end

load_only_source : (words : List (List ℕ)) → AsksLoad words → AsksJournal words → ⊥
load_only_source words s (inl format) = (load_only words s).1 format
load_only_source words s (inr (inl show)) = (load_only words s).2 show
load_only_source words s (inr (inr end)) = (load_only words s).3 end

-- of a `format` a text is made where its journal is not empty
not_empty : (tells : Type 0) (new : NewJournal) (served : Served) (verdict : Verdict) → Formats tells new served verdict → IsComposed verdict → (size : ℕ) × (verdict ≡ verdicts.NotEmpty size)
not_empty tells new served verdicts.StationFault formats made = absurd made
not_empty tells new served verdicts.Formatted formats made = absurd made
not_empty tells new served (verdicts.NotEmpty size) formats made = (size, refl)
not_empty tells new served _ formats made = absurd formats

pub station_left : (tells : Type 0) (words : List (List ℕ)) (read : Read) (served : Served) (worlds : Worlds) (verdict : Verdict) (Idle : Type 0) → MayCome tells words read served worlds verdict → IsComposed verdict
    → ((AsksJournal words → ⊥) → Idle) → Idle ⊎ (AsksShow words ⊎ (AsksEnd words ⊎ ((size : ℕ) × MayCome tells words read served worlds (verdicts.NotEmpty size))))
station_left tells words read served worlds verdict Idle (inl none) made idle = absurd (subst IsComposed none.verdict_is made)
station_left tells words read served worlds verdict Idle (inr some) made idle = by some.job some.spells some.does
  where
    by : (job : Job) → Spells job words → Does tells job read served worlds verdict → Idle ⊎ (AsksShow words ⊎ (AsksEnd words ⊎ ((size : ℕ) × MayCome tells words read served worlds (verdicts.NotEmpty size))))
    by (jobs.Check kind) spells does = inl (idle (check_only kind words spells))
    by (jobs.Show journal) spells does = inr (inl (journal, spells))
    by (jobs.Handheld names) spells does = inr (inr (inl (Supplier, names, spells)))
    by (jobs.Receiver names) spells does = inr (inr (inl (Receiver, names, spells)))
    by jobs.Replay spells does = inl (idle (replay_only_source words spells))
    by (jobs.Load count) spells does = inl (idle (load_only_source words (count, spells)))
    by (jobs.Format new) spells does =
        let its = not_empty tells new served verdict does.1 made in
        inr (inr (inr (its.0, subst (λ (v : Verdict). MayCome tells words read served worlds v) its.1 (inr some))))

-- ---- the world

-- the world is the one before, or a script was played on it
abbrev pub IsLeft : Type 0 → List (List ℕ) → Read → Served → Worlds → Type 0
IsLeft tells words read served worlds = (worlds.after ≡ worlds.before) ⊎ ((verdict : Verdict) × IsToldOfWorld verdict × MayCome tells words read served worlds verdict)

module _ (tells : Type 0) (words : List (List ℕ)) (read : Read) (served : Served) (worlds : Worlds) (spells : AsksReplay words) where
  left_by_input : (verdict : Verdict) (input : List ℕ) → ReplaysInput input worlds verdict → MayCome tells words read served worlds verdict → IsLeft tells words read served worlds
  left_by_input (verdicts.Refused refusal) input replays may = inl replays.1
  left_by_input (verdicts.Replayed report) input replays may = inr (verdicts.Replayed report, tt, may)
  left_by_input _ input replays may = absurd replays

  left_by_replay : (verdict : Verdict) → Replays read worlds verdict → IsLeft tells words read served worlds
  left_by_replay verdict (inl unread) = inl unread.1
  left_by_replay verdict (inr replays) = left_by_input verdict replays.0 replays.2 (inr (record { job = jobs.Replay; spells = spells; does = inr replays }))

told_by_load : (count : ℕ) (worlds : Worlds) (verdict : Verdict) → Loads count worlds verdict → IsToldOfWorld verdict
told_by_load count worlds (verdicts.Loaded asked report) loads = tt
told_by_load count worlds _ loads = absurd loads

pub world_left : (tells : Type 0) (words : List (List ℕ)) (read : Read) (served : Served) (worlds : Worlds) (verdict : Verdict) → MayCome tells words read served worlds verdict
    → ((AsksWorld words → ⊥) → worlds.after ≡ worlds.before) → IsLeft tells words read served worlds
world_left tells words read served worlds verdict (inl none) kept = inl (kept no_world)
  where
    no_world : AsksWorld words → ⊥
    no_world (inl asked) = none.none jobs.Replay asked
    no_world (inr (count, asked)) = none.none (jobs.Load count) asked
world_left tells words read served worlds verdict (inr some) kept = by some.job some.spells some.does
  where
    other : (AsksReplay words → ⊥) → (AsksLoad words → ⊥) → AsksWorld words → ⊥
    other p q (inl asked) = p asked
    other p q (inr asked) = q asked

    by : (job : Job) → Spells job words → Does tells job read served worlds verdict → IsLeft tells words read served worlds
    by (jobs.Check kind) spells does = inl (kept (other (λ asked. (replay_only words asked).0 (kind, spells)) (λ asked. (load_only words asked).0 (kind, spells))))
    by (jobs.Format new) spells does = inl (kept (other (λ asked. (replay_only words asked).1 (new, spells)) (λ asked. (load_only words asked).1 (new, spells))))
    by (jobs.Show journal) spells does = inl (kept (other (λ asked. (replay_only words asked).2 (journal, spells)) (λ asked. (load_only words asked).2 (journal, spells))))
    by (jobs.Handheld names) spells does = inl (kept (other (λ asked. (replay_only words asked).3 (Supplier, names, spells)) (λ asked. (load_only words asked).3 (Supplier, names, spells))))
    by (jobs.Receiver names) spells does = inl (kept (other (λ asked. (replay_only words asked).3 (Receiver, names, spells)) (λ asked. (load_only words asked).3 (Receiver, names, spells))))
    by jobs.Replay spells does = left_by_replay tells words read served worlds spells verdict does
    by (jobs.Load count) spells does = inr (verdict, told_by_load count worlds verdict does.1, inr (record { job = jobs.Load count; spells = spells; does = does }))
