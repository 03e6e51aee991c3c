-- The runs that a world's steps show make up a life.
use Rattle.std.proofs.Common.{◌≡◌, ℕ, Bool, true, false, List, [], ◌∷◌, ◌++◌, refl, sym, ◌∙◌, ap, subst, append_assoc, append-nil, Option, Some, None, Ok, Err}
use Rattle.dsd_values.specs.declared.role.Role.{Role}
use Rattle.dsd_station.specs.declared.call.Reception.{Reception}
use Rattle.dsd_station.specs.declared.call.Call.{Call}
use Rattle.dsd_station.specs.declared.call.Call.TheVariants.{Attach, Size, Read, Write, Sync, Listen, Speak, Restart}
use Rattle.dsd_station.specs.declared.call.Outcome.TheVariants.{Done, Failing, Stopped}
use Rattle.dsd_station.specs.Disk.{MayLeave}
use Rattle.dsd_station.specs.Heard.{answers_in, said_by, said_in}
use Rattle.dsd_station.specs.Replayed.{IsFine, State, image_or, replay, restarted, step}
use Rattle.dsd_station.proofs.Allowed.{fine_step, read_stays}
use Rattle.dsd_journal.specs.declared.entry.Entry.{Entry}
use Rattle.dsd_journal.specs.declared.header.Header.{Header}
use Rattle.dsd_journal.specs.JournalImage.{Holds}
use Rattle.dsd_end.specs.Lives.{IsRun, IsLifeFrom, last_from}
use Rattle.dsd_end.specs.Carrying.{Carried}
use Rattle.dsd_end.specs.Runs.{Run, bytes_heard}
use Rattle.dsd_end.proofs.Onward.{carried_more}
use Rattle.cable_world.specs.Leaving.{AreUnwriting, Begins, BeginsRun, GoesOn, LeavesNothing, LeavesRuns, WritesNot, recorded, run_to, state_behind, behind_if, image_left, state_after, IsLifeOf}
use Rattle.cable_world.specs.Living.{AreRunsOf, Parts, begins_run, is_opening, parts_of, with_part}
use Rattle.cable_world.specs.Progressing.{OneList}
use Rattle.cable_world.specs.Steps.{WorldStep, same_role}
use Rattle.cable_world.proofs.Taking.{answers_more, bytes_more}

pub said_more : (a b : List Call) → said_in (a ++ b) ≡ said_in a ++ said_in b
said_more [] b = refl
said_more (call ∷ a) b = ap (λ (l : List ℕ). said_by call ++ l) (said_more a b) ∙ sym (append_assoc (said_by call) (said_in a) (said_in b))

pub replay_more : (state : State) (a b : List Call) → replay state (a ++ b) ≡ replay (replay state a) b
replay_more state [] b = refl
replay_more state (call ∷ a) b = replay_more (step state call) a b

-- ---- what may be left behind calls that write nothing might have been left before them

abbrev pub MayLeaveAt : State → List ℕ → Type 0
MayLeaveAt state image = MayLeave state.now.sure state.now.writes image

still_one : (s : State) (call : Call) (image : List ℕ) → IsFine s → WritesNot call → MayLeaveAt (step s call) image → MayLeaveAt s image
still_one s (Attach journal port (Ok done)) image fine not may = may
still_one s (Attach journal port (Err failed)) image fine not may = may
still_one s (Size answer) image fine not may = may
still_one s (Read at room answer) image fine not may = may
still_one s (Write at bytes outcome) image fine not may = absurd not
still_one s (Sync Done) image fine not may = subst (MayLeaveAt s) (sym may) (read_stays s fine)
still_one s (Sync Failing) image fine not may = may
still_one s (Sync (Stopped pick)) image fine not may = may
still_one s (Listen (Ok answer)) image fine not may = may
still_one s (Listen (Err failed)) image fine not may = may
still_one s (Speak bytes Done) image fine not may = may
still_one s (Speak bytes Failing) image fine not may = may
still_one s (Speak bytes (Stopped pick)) image fine not may = may
still_one s Restart image fine not may = go s.left refl may
  where
    go : (left : Option (List ℕ)) → s.left ≡ left → MayLeaveAt (restarted s left) image → MayLeaveAt s image
    go None is may = may
    go (Some kept) is may = subst (MayLeaveAt s) (sym may) (fine.left kept is)

pub still : (s : State) (calls : List Call) (image : List ℕ) → IsFine s → AreUnwriting s calls → MayLeaveAt (replay s calls) image → MayLeaveAt s image
still s [] image fine are may = may
still s (call ∷ calls) image fine are may = still_one s call image fine are.1 (still (step s call) calls image (fine_step s call fine are.0) are.2 may)

pub still_fine : (s : State) (calls : List Call) → IsFine s → AreUnwriting s calls → IsFine (replay s calls)
still_fine s [] fine are = fine
still_fine s (call ∷ calls) fine are = still_fine (step s call) calls (fine_step s call fine are.0) are.2

-- the journal as it is read behind calls that write nothing might have been left before them
pub read_before : (s : State) (calls : List Call) → IsFine s → AreUnwriting s calls → MayLeaveAt s (replay s calls).journal
read_before s calls fine are = still s calls (replay s calls).journal fine are (read_stays (replay s calls) (still_fine s calls fine are))

-- the image that is left when all is over
pub left_may : (s : State) → IsFine s → MayLeaveAt s (image_or s.left s.journal)
left_may s fine = go s.left refl
  where
    go : (left : Option (List ℕ)) → s.left ≡ left → MayLeaveAt s (image_or left s.journal)
    go None is = read_stays s fine
    go (Some image) is = fine.left image is

-- ---- runs joined

-- a run that hears more
run_hears : (role : Role) (run : Run) (more : List Reception) → IsRun role run → IsRun role (record run { heard = run.heard ++ more })
run_hears role run more r = record {
  added = r.added;
  grown = r.grown;
  legal = r.legal;
  taken = λ text inside.
      subst (λ (bytes : List ℕ). Carried bytes text) (sym (bytes_more run.heard more)) (carried_more (bytes_heard run.heard) (bytes_heard more) text (r.taken text inside));
  speaks = r.speaks;
}

module _ (one_list : OneList) (role : Role) (header : Header) where
  -- how a run that goes on ends, and the runs behind it
  pub record Joined (first : List Entry) (heard : List Reception) (gone : List ℕ) (parts : Parts) (left : List ℕ) : Type 0 where
    pub after : List Entry
    pub runs : List Run
    pub is : IsRun role (run_to first (heard ++ answers_in parts.before) (gone ++ said_in parts.before) after)
    pub are : AreRunsOf parts.runs runs
    pub life : IsLifeFrom role after runs
    pub holds : Holds header (last_from after runs) left

  as_run : (first : List Entry) (heard heard' : List Reception) (gone gone' : List ℕ) (after : List Entry) → heard ≡ heard' → gone ≡ gone' → IsRun role (run_to first heard gone after) → IsRun role (run_to first heard' gone' after)
  as_run first heard heard' gone gone' after h g is =
      subst (λ (x : List Reception). IsRun role (run_to first x gone' after)) h (subst (λ (x : List ℕ). IsRun role (run_to first heard x after)) g is)

  joined_on : (first : List Entry) (heard : List Reception) (gone : List ℕ) (part : List Call) (parts : Parts) (left : List ℕ) → Joined first (heard ++ answers_in part) (gone ++ said_in part) parts left
      → Joined first heard gone (with_part true false part parts) left
  joined_on first heard gone part parts left j = record {
    after = j.after;
    runs = j.runs;
    is = as_run first ((heard ++ answers_in part) ++ answers_in parts.before) (heard ++ answers_in (part ++ parts.before)) ((gone ++ said_in part) ++ said_in parts.before) (gone ++ said_in (part ++ parts.before)) j.after
        (append_assoc heard (answers_in part) (answers_in parts.before) ∙ ap (λ (l : List Reception). heard ++ l) (sym (answers_more part parts.before)))
        (append_assoc gone (said_in part) (said_in parts.before) ∙ ap (λ (l : List ℕ). gone ++ l) (sym (said_more part parts.before)))
        j.is;
    are = j.are;
    life = j.life;
    holds = j.holds;
  }

  joined_begun : (first : List Entry) (heard : List Reception) (gone : List ℕ) (part : List Call) (parts : Parts) (left : List ℕ) (next : List Entry) → IsRun role (run_to first heard gone next)
      → Joined next (answers_in part) (said_in part) parts left → Joined first heard gone (with_part true true part parts) left
  joined_begun first heard gone part parts left next is j =
      let run : Run = run_to next (answers_in (part ++ parts.before)) (said_in (part ++ parts.before)) j.after in
      let its : IsRun role run = as_run next (answers_in part ++ answers_in parts.before) (answers_in (part ++ parts.before)) (said_in part ++ said_in parts.before) (said_in (part ++ parts.before)) j.after
      (sym (answers_more part parts.before)) (sym (said_more part parts.before)) j.is in
      record {
        after = next;
        runs = run ∷ j.runs;
        is = as_run first heard (heard ++ []) gone (gone ++ []) next (sym (append-nil heard)) (sym (append-nil gone)) is;
        are = (refl, refl, j.are);
        life = (refl, its, j.life);
        holds = j.holds;
      }

  -- the run before ended with the entries of the next one
  ended_so : (first : List Entry) (heard : List Reception) (gone : List ℕ) (state : State) (one : WorldStep) (next : List Entry) → IsFine state → LeavesRuns role header first heard gone state
      → BeginsRun role header state one next → IsRun role (run_to first heard gone next)
  ended_so first heard gone state one next fine leaves (unwriting, holds, more) =
      let behind : State = state_behind state one in
      let (after, held, is) = leaves behind.journal (read_before state (recorded one) fine unwriting) in
      subst (λ (l : List Entry). IsRun role (run_to first heard gone l)) (one_list behind.journal header header after next held holds).1 is

  -- a failed opening leaves the run as it was
  pub failed_so : (first : List Entry) (heard : List Reception) (gone : List ℕ) (state : State) (one : WorldStep) → IsFine state → LeavesRuns role header first heard gone state
      → AreUnwriting state (recorded one) → said_in one.part ≡ [] → LeavesRuns role header first (heard ++ answers_in one.part) (gone ++ said_in one.part) (state_behind state one)
  failed_so first heard gone state one fine leaves unwriting none image may =
      let (after, held, is) = leaves image (still state (recorded one) image fine unwriting may) in
      let more : IsRun role (run_to first (heard ++ answers_in one.part) gone after) = run_hears role (run_to first heard gone after) (answers_in one.part) is in
      (after, held, as_run first (heard ++ answers_in one.part) (heard ++ answers_in one.part) gone (gone ++ said_in one.part) after refl (sym (append-nil gone) ∙ ap (λ (l : List ℕ). gone ++ l) (sym none)) more)

  abbrev Going : List WorldStep → Type 0
  Going steps = (state : State) (first : List Entry) (heard : List Reception) (gone : List ℕ) → IsFine state → LeavesRuns role header first heard gone state
      → GoesOn role header state first heard gone steps → Joined first heard gone (parts_of role steps) (image_left (state_after role state steps))

  pub going : (steps : List WorldStep) (state : State) (first : List Entry) (heard : List Reception) (gone : List ℕ) → IsFine state → LeavesRuns role header first heard gone state
      → GoesOn role header state first heard gone steps → Joined first heard gone (parts_of role steps) (image_left (state_after role state steps))
  going [] state first heard gone fine leaves on =
      let (after, held, is) = leaves (image_or state.left state.journal) (left_may state fine) in
      record { after = after; runs = []; is = as_run first heard (heard ++ []) gone (gone ++ []) after (sym (append-nil heard)) (sym (append-nil gone)) is; are = tt; life = tt; holds = held }
  going (one ∷ steps) state first heard gone fine leaves on = by (going steps) (same_role role one.role) (begins_run one) (is_opening one.kind) refl refl refl
    where
      by : Going steps → (own begins opening : Bool) → same_role role one.role ≡ own → begins_run one ≡ begins → is_opening one.kind ≡ opening → Joined first heard gone (with_part own begins one.part (parts_of role steps)) (image_left (state_after role (behind_if own state one) steps))
      by again false begins opening o b k = again state first heard gone fine leaves (on.0 o)
      by again true false false o b k =
          let (fine_then, leaves_then) = on.1 o b k in
          joined_on first heard gone one.part (parts_of role steps) (image_left (state_after role (state_behind state one) steps))
          (again (state_behind state one) first (heard ++ answers_in one.part) (gone ++ said_in one.part) fine_then leaves_then (on.3 o b))
      by again true false true o b k =
          joined_on first heard gone one.part (parts_of role steps) (image_left (state_after role (state_behind state one) steps))
          (again (state_behind state one) first (heard ++ answers_in one.part) (gone ++ said_in one.part) (still_fine state (recorded one) fine (on.2 o b k).0)
          (failed_so first heard gone state one fine leaves (on.2 o b k).0 (on.2 o b k).1) (on.3 o b))
      by again true true opening o b k =
          let (next, begun, goes) = on.4 o b in
          joined_begun first heard gone one.part (parts_of role steps) (image_left (state_after role (state_behind state one) steps)) next (ended_so first heard gone state one next fine leaves begun)
          (again (state_behind state one) next (answers_in one.part) (said_in one.part) (still_fine state (recorded one) fine begun.0) begun.2 goes)

  abbrev pub LivesBy : Parts → List ℕ → Type 0
  LivesBy parts left = (runs : List Run) × AreRunsOf parts.runs runs × IsLifeFrom role [] runs × Holds header (last_from [] runs) left

  pub beginning : (steps : List WorldStep) (state : State) → IsFine state → LeavesNothing header state → Begins role header state steps → LivesBy (parts_of role steps) (image_left (state_after role state steps))
  beginning [] state fine leaves begins = ([], tt, tt, leaves (image_left state) (left_may state fine))
  beginning (one ∷ steps) state fine leaves begins = by (beginning steps) (same_role role one.role) (begins_run one) refl refl
    where
      by : ((state : State) → IsFine state → LeavesNothing header state → Begins role header state steps → LivesBy (parts_of role steps) (image_left (state_after role state steps))) → (own begun : Bool) → same_role role one.role ≡ own → begins_run one ≡ begun → LivesBy (with_part own begun one.part (parts_of role steps)) (image_left (state_after role (behind_if own state one) steps))
      by again false begun o b = again state fine leaves (begins.0 o)
      by again true false o b =
          let (unwriting, more) = begins.1 o b in
          again (state_behind state one) (still_fine state (recorded one) fine unwriting)
          (λ image may. leaves image (still state (recorded one) image fine unwriting may)) more
      by again true true o b =
          let (next, begun, goes) = begins.2 o b in
          let behind : State = state_behind state one in
          let fine_then : IsFine behind = still_fine state (recorded one) fine begun.0 in
          let none : Holds header [] behind.journal = leaves behind.journal (read_before state (recorded one) fine begun.0) in
          let first : next ≡ [] = (one_list behind.journal header header next [] begun.1 none).1 in
          let j : Joined next (answers_in one.part) (said_in one.part) (parts_of role steps) (image_left (state_after role behind steps)) = going steps behind next (answers_in one.part) (said_in one.part) fine_then begun.2 goes in
          let parts : Parts = parts_of role steps in
          let run : Run = run_to next (answers_in (one.part ++ parts.before)) (said_in (one.part ++ parts.before)) j.after in
          let its : IsRun role run = as_run next (answers_in one.part ++ answers_in parts.before) (answers_in (one.part ++ parts.before)) (said_in one.part ++ said_in parts.before) (said_in (one.part ++ parts.before)) j.after
          (sym (answers_more one.part parts.before)) (sym (said_more one.part parts.before)) j.is in
          (run ∷ j.runs, (refl, refl, j.are), (first, its, j.life), j.holds)

  pub lived : (steps : List WorldStep) (state : State) → IsFine state → LeavesNothing header state → Begins role header state steps → (runs : List Run) × IsLifeOf role header state steps runs
  lived steps state fine leaves begins =
      let l = beginning steps state fine leaves begins in
      (l.0, record { are = l.1; life = l.2; holds = l.3 })
