-- Whatever the job of an end answers.
use Rattle.std.proofs.Common.{◌≡◌, inr, ℕ, List, Result, Ok, Err, IfOk, OnErr}
use Rattle.dsd_values.specs.declared.role.Role.{Role}
use Rattle.dsd_values.specs.declared.role.Role.TheVariants.{Supplier, Receiver}
use Rattle.dex_cli.specs.EndWords.{SpellsEnd}
use Rattle.dex_cli.specs.Formatting.{Served}
use Rattle.dex_cli.specs.Replaying.{Worlds}
use Rattle.dex_cli.specs.Verdicts.{Loads, MayCome, Read, Replays, ServesEnd}
use Rattle.dex_cli.specs.declared.verdict.Verdict.{Verdict}
use Rattle.dex_cli.specs.Words.{AsksCheck, AsksFormat, AsksLoad, AsksReplay, AsksShow, IsOfNoJob, Spells}
use Rattle.dex_cli.specs.declared.end_words.EndNames.{EndNames}
use Rattle.dex_cli.specs.declared.words.Job.TheVariants as jobs
use Rattle.dex_cli.proofs.OneJob.{end_only, load_only, replay_only, same_end}

-- what is said of the job of an end, whichever the words ask for
abbrev pub OfEnd : List (List ℕ) → (Role → EndNames → Type 0) → Type 0
OfEnd words P = (role : Role) (names : EndNames) → SpellsEnd role names words → P role names

-- it is said where the words are those of another job
pub other_check : (words : List (List ℕ)) (P : Role → EndNames → Type 0) → AsksCheck words → OfEnd words P
other_check words P asked = λ role names s. absurd ((end_only role names words s).0 asked)

pub other_format : (words : List (List ℕ)) (P : Role → EndNames → Type 0) → AsksFormat words → OfEnd words P
other_format words P asked = λ role names s. absurd ((end_only role names words s).1 asked)

pub other_show : (words : List (List ℕ)) (P : Role → EndNames → Type 0) → AsksShow words → OfEnd words P
other_show words P asked = λ role names s. absurd ((end_only role names words s).2 asked)

pub other_replay : (words : List (List ℕ)) (P : Role → EndNames → Type 0) → AsksReplay words → OfEnd words P
other_replay words P asked = λ role names s. absurd ((replay_only words asked).3 (role, names, s))

pub other_load : (words : List (List ℕ)) (P : Role → EndNames → Type 0) → AsksLoad words → OfEnd words P
other_load words P asked = λ role names s. absurd ((load_only words asked).3 (role, names, s))

pub no_show : (words : List (List ℕ)) (role : Role) (names : EndNames) → SpellsEnd role names words → AsksShow words → ⊥
no_show words role names s asked = (end_only role names words s).2 asked

pub no_other : (words : List (List ℕ)) (P : Role → EndNames → Type 0) → IsOfNoJob words → OfEnd words P
no_other words P none = by
  where
    by : OfEnd words P
    by Supplier names s = absurd (none (jobs.Handheld names) s)
    by Receiver names s = absurd (none (jobs.Receiver names) s)

-- and where it is said of this one
pub this_end : (words : List (List ℕ)) (role : Role) (names : EndNames) (P : Role → EndNames → Type 0) → SpellsEnd role names words → P role names → OfEnd words P
this_end words role names P s p = λ role' names' t. same_end words role role' names names' P s t p

-- ---- what the jobs may come to

pub may_handheld : {E : Type 0} (tells : Type 0) (words : List (List ℕ)) (read : Read) (served : Served) (worlds : Worlds) (names : EndNames) (result : Result Verdict E) → SpellsEnd Supplier names words
    → IfOk result (ServesEnd tells Supplier names read served) → IfOk result (MayCome tells words read served worlds)
may_handheld tells words read served worlds names (Ok verdict) spells does = inr (record { job = jobs.Handheld names; spells = spells; does = does })
may_handheld tells words read served worlds names (Err fault) spells does = tt

pub may_receiver : {E : Type 0} (tells : Type 0) (words : List (List ℕ)) (read : Read) (served : Served) (worlds : Worlds) (names : EndNames) (result : Result Verdict E) → SpellsEnd Receiver names words
    → IfOk result (ServesEnd tells Receiver names read served) → IfOk result (MayCome tells words read served worlds)
may_receiver tells words read served worlds names (Ok verdict) spells does = inr (record { job = jobs.Receiver names; spells = spells; does = does })
may_receiver tells words read served worlds names (Err fault) spells does = tt

pub may_replay : {E : Type 0} (tells : Type 0) (words : List (List ℕ)) (read : Read) (served : Served) (worlds : Worlds) (result : Result Verdict E) → AsksReplay words
    → IfOk result (Replays read worlds) → IfOk result (MayCome tells words read served worlds)
may_replay tells words read served worlds (Ok verdict) spells does = inr (record { job = jobs.Replay; spells = spells; does = does })
may_replay tells words read served worlds (Err fault) spells does = tt

pub may_load : {E : Type 0} (tells : Type 0) (words : List (List ℕ)) (read : Read) (served : Served) (worlds : Worlds) (count : ℕ) (result : Result Verdict E) → Spells (jobs.Load count) words → read.after ≡ read.left
    → IfOk result (Loads count worlds) → IfOk result (MayCome tells words read served worlds)
may_load tells words read served worlds count (Ok verdict) spells unread does = inr (record { job = jobs.Load count; spells = spells; does = (unread, does) })
may_load tells words read served worlds count (Err fault) spells unread does = tt

pub on_err : {X E : Type 0} (result : Result X E) (P : Type 0) → P → OnErr result P
on_err (Ok value) P p = tt
on_err (Err fault) P p = p
