-- An image holds what its journal holds at rest, also where a stop was made.
use Rattle.std.proofs.Common.{◌≡◌, ℕ, List, [], sym, ◌∙◌, subst}
use Rattle.dsd_station.specs.declared.call.Call.{Call}
use Rattle.dsd_station.specs.Disk.{MayLeave}
use Rattle.dsd_station.specs.Replayed.{IsFine, State, state_of}
use Rattle.dsd_journal.specs.JournalImage.{Holds}
use Rattle.dsd_journal.specs.Journals.{Rests}
use Rattle.dsd_journal.specs.declared.entry.Entry.{Entry}
use Rattle.dsd_journal.specs.declared.header.Header.{Header}
use Rattle.cable_world.specs.Leaving.{image_left}
use Rattle.cable_world.specs.SeatSteps.{told_of}
use Rattle.cable_world.proofs.JoinedRuns.{left_may}

-- each image that may be left then is the journal as it is read
at_rest : (state : State) (writes : List (ℕ × List ℕ)) → writes ≡ [] → state.now.sure ≡ state.journal → (image : List ℕ) → MayLeave state.now.sure writes image → image ≡ state.journal
at_rest state writes none sure image may = subst (λ (w : List (ℕ × List ℕ)). MayLeave state.now.sure w image) none may ∙ sure

pub held_at_rest : (header : Header) (entries : List Entry) (calls : List Call) → IsFine (state_of calls) → Rests header entries (told_of calls) → Holds header entries (image_left (state_of calls))
held_at_rest header entries calls fine rests =
    let state : State = state_of calls in
    subst (Holds header entries) (sym (at_rest state state.now.writes rests.synced.writes rests.synced.sure (image_left state) (left_may state fine))) rests.holds
