-- The answers heard and the bytes gone are those of the record.
use Rattle.std.proofs.Common.{◌≡◌, ℕ, List, [], ◌∷◌, ◌++◌, refl, sym, ◌∙◌, ap, append_assoc, append-nil, Option, Some, None, Ok, Err}
use Rattle.dsd_station.specs.declared.call.Outcome.TheVariants.{Done, Failing, Stopped}
use Rattle.dsd_station.specs.declared.call.Reception.{Reception}
use Rattle.dsd_station.specs.declared.call.Call.{Call}
use Rattle.dsd_station.specs.declared.call.Call.TheVariants.{Attach, Size, Read, Write, Sync, Listen, Speak, Restart}
use Rattle.dsd_station.specs.Replayed.{State, step, restarted, replay, state_of, fresh}
use Rattle.dsd_station.specs.Heard.{heard_by, said_by, answers_in, said_in}

restarted_heard : (s : State) (left : Option (List ℕ)) → (restarted s left).heard ≡ s.heard
restarted_heard s None = refl
restarted_heard s (Some image) = refl

restarted_gone : (s : State) (left : Option (List ℕ)) → (restarted s left).now.gone ≡ s.now.gone
restarted_gone s None = refl
restarted_gone s (Some image) = refl

step_heard : (s : State) (c : Call) → (step s c).heard ≡ s.heard ++ heard_by c
step_heard s (Attach journal port (Ok done)) = sym (append-nil s.heard)
step_heard s (Attach journal port (Err failed)) = sym (append-nil s.heard)
step_heard s (Size answer) = sym (append-nil s.heard)
step_heard s (Read at room answer) = sym (append-nil s.heard)
step_heard s (Write at bytes Done) = sym (append-nil s.heard)
step_heard s (Write at bytes Failing) = sym (append-nil s.heard)
step_heard s (Write at bytes (Stopped pick)) = sym (append-nil s.heard)
step_heard s (Sync Done) = sym (append-nil s.heard)
step_heard s (Sync Failing) = sym (append-nil s.heard)
step_heard s (Sync (Stopped pick)) = sym (append-nil s.heard)
step_heard s (Listen (Ok answer)) = refl
step_heard s (Listen (Err failed)) = sym (append-nil s.heard)
step_heard s (Speak bytes Done) = sym (append-nil s.heard)
step_heard s (Speak bytes Failing) = sym (append-nil s.heard)
step_heard s (Speak bytes (Stopped pick)) = sym (append-nil s.heard)
step_heard s Restart = restarted_heard s s.left ∙ sym (append-nil s.heard)

step_gone : (s : State) (c : Call) → (step s c).now.gone ≡ s.now.gone ++ said_by c
step_gone s (Attach journal port (Ok done)) = sym (append-nil s.now.gone)
step_gone s (Attach journal port (Err failed)) = sym (append-nil s.now.gone)
step_gone s (Size answer) = sym (append-nil s.now.gone)
step_gone s (Read at room answer) = sym (append-nil s.now.gone)
step_gone s (Write at bytes Done) = sym (append-nil s.now.gone)
step_gone s (Write at bytes Failing) = sym (append-nil s.now.gone)
step_gone s (Write at bytes (Stopped pick)) = sym (append-nil s.now.gone)
step_gone s (Sync Done) = sym (append-nil s.now.gone)
step_gone s (Sync Failing) = sym (append-nil s.now.gone)
step_gone s (Sync (Stopped pick)) = sym (append-nil s.now.gone)
step_gone s (Listen (Ok answer)) = sym (append-nil s.now.gone)
step_gone s (Listen (Err failed)) = sym (append-nil s.now.gone)
step_gone s (Speak bytes Done) = refl
step_gone s (Speak bytes Failing) = sym (append-nil s.now.gone)
step_gone s (Speak bytes (Stopped pick)) = refl
step_gone s Restart = restarted_gone s s.left ∙ sym (append-nil s.now.gone)

replay_heard : (s : State) (calls : List Call) → (replay s calls).heard ≡ s.heard ++ answers_in calls
replay_heard s [] = sym (append-nil s.heard)
replay_heard s (c ∷ calls) = replay_heard (step s c) calls ∙ ap (λ (l : List Reception). l ++ answers_in calls) (step_heard s c) ∙ append_assoc s.heard (heard_by c) (answers_in calls)

replay_gone : (s : State) (calls : List Call) → (replay s calls).now.gone ≡ s.now.gone ++ said_in calls
replay_gone s [] = sym (append-nil s.now.gone)
replay_gone s (c ∷ calls) = replay_gone (step s c) calls ∙ ap (λ (l : List ℕ). l ++ said_in calls) (step_gone s c) ∙ append_assoc s.now.gone (said_by c) (said_in calls)

pub heard_is : (calls : List Call) → (state_of calls).heard ≡ answers_in calls
heard_is calls = replay_heard fresh calls

pub gone_is : (calls : List Call) → (state_of calls).now.gone ≡ said_in calls
gone_is calls = replay_gone fresh calls
