-- What the answers of an end and the count of faults tell of the calls that failed.
use Rattle.std.proofs.Common.{◌≡◌, ◌⊎◌, inl, inr, ℕ, ◌+◌, ◌-◌, ◌≤◌, ◌<◌, ◌^◌, min, false, List, [], ◌∷◌, ◌++◌, length, refl, sym, ◌∙◌, ap, subst, arith, Result, Ok, Err}
use Rattle.std.proofs.lemmas.List.{append_cancel_left}
use Rattle.dsd_values.specs.declared.role.Role.{Role}
use Rattle.dsd_record.specs.Choices.{Chooser}
use Rattle.dsd_station.specs.declared.call.Call.{Call}
use Rattle.dsd_station.specs.declared.call.Reception.{Reception}
use Rattle.dsd_station.specs.Causes.{Rose}
use Rattle.dsd_station.specs.Failures.{failed_in}
use Rattle.dsd_station.specs.Logged.{IsPlayed, Log, told_by}
use Rattle.dsd_station.proofs.Playing.{failed_in_fewer, faults_exact}
use Rattle.dsd_journal.specs.Devices.{IsStationFault, Unfailed}
use Rattle.dsd_journal.specs.declared.opening.OpenFault.{OpenFault}
use Rattle.dsd_journal.specs.declared.opening.OpenFault.TheVariants as opens
use Rattle.delivery_book.specs.BookImages.{IsBookRefused}
use Rattle.dsd_end.specs.FullTurns.{PollFull}
use Rattle.dsd_end.specs.Standings.{Standing}
use Rattle.cable_world.specs.Faulting.{FindsFull, HasFailed, TellsOpening}
use Rattle.cable_world.specs.Players.{PlayerView}
use Rattle.cable_world.proofs.Partly.{heard_part}
use Rattle.cable_world.proofs.Unarmed.{failed_joined}

pub unfailed_of : {A B C : Type 0} → A ⊎ (B × C) → A ⊎ B
unfailed_of {A} {B} {C} (inl failed) = inl failed
unfailed_of {A} {B} {C} (inr (fine, more)) = inr fine

length_joined : (a b : List Call) → length (a ++ b) ≡ length a + length b
length_joined [] b = omega arith
length_joined (call ∷ a) b = let h = length_joined a b in omega (arith, h)

-- a station that is not starved counts as faults the calls of its record that failed
pub record Counts (before after : Log) (part : List Call) : Type 0 where
  pub sum : after.faults ≡ before.faults + failed_in part
  pub small : after.faults < 2 ^ 63

pub counts_so : (before after : Log) (part : List Call) → IsPlayed before → IsPlayed after → before.starved ≡ false → after.starved ≡ false → length after.calls < 2 ^ 63 → after.calls ≡ before.calls ++ part → Counts before after part
counts_so before after part was is not none short calls =
    let long : length after.calls ≡ length before.calls + length part = ap length calls ∙ length_joined before.calls part in
    let first : before.faults ≡ failed_in before.calls = faults_exact before was (omega (arith, short, long)) not in
    let last : after.faults ≡ failed_in after.calls = faults_exact after is short none in
    let joined : failed_in after.calls ≡ failed_in before.calls + failed_in part = ap failed_in calls ∙ failed_joined before.calls part in
    let fewer : failed_in after.calls ≤ length after.calls = failed_in_fewer after.calls in
    record { sum = omega (arith, first, last, joined); small = omega (arith, last, fewer, short) }

none_failed : (before now failed : ℕ) → now ≡ before + failed → now ≡ before → failed ≡ 0
none_failed before now failed sum same = omega (arith, sum, same)

some_failed : (before now failed : ℕ) → now ≡ before + failed → now < 2 ^ 63 → Rose before now → 0 < failed
some_failed before now failed sum small rose = omega (arith, sum, small, rose)

pub kept_fine : (before after : Log) (part : List Call) → Counts before after part → after.faults ≡ before.faults → failed_in part ≡ 0
kept_fine before after part counts same = none_failed before.faults after.faults (failed_in part) counts.sum same

pub rose_failed : (before after : Log) (part : List Call) → Counts before after part → Rose before.faults after.faults → HasFailed part
rose_failed before after part counts rose = some_failed before.faults after.faults (failed_in part) counts.sum counts.small rose

-- ---- a poll that finds the journal full

pub finds_full : (chooser : Chooser) (standing : Standing) (before after : Log) (part : List Call) (n : ℕ) → after.calls ≡ before.calls ++ part → PollFull (Unit {0}) chooser standing (told_by before) (told_by after) n
    → failed_in part ≡ 0 → FindsFull chooser standing part n
finds_full chooser standing before after part n calls full fine =
    record { heard = full.heard; full = full.full; begun = full.begun; listened = heard_part before.calls after.calls part (full.heard ∷ []) calls (full.listened tt); fine = fine }

-- ---- an opening

unfailed_part : (before after part : List Call) (fine : (more : List Call) × (after ≡ before ++ more) × (failed_in more ≡ 0)) → after ≡ before ++ part → failed_in part ≡ 0
unfailed_part before after part (more, is, none) calls = ap failed_in (append_cancel_left before part more (sym calls ∙ is)) ∙ none

pub tells_opening : (role : Role) (result : Result PlayerView OpenFault) (before after : Log) (part : List Call) → Counts before after part → after.calls ≡ before.calls ++ part
    → IsStationFault result ⊎ Unfailed (told_by before) (told_by after) → (result ≡ Err opens.Station → Rose before.faults after.faults) → (result ≡ Err opens.Memory → ⊥)
    → (journal : List ℕ) → ((place : ℕ) → result ≡ Err (opens.NotAJournal place) → IsBookRefused role journal place) → TellsOpening role result part journal
tells_opening role (Ok player) before after part counts calls (inl failed) cause not journal refused = absurd failed
tells_opening role (Ok player) before after part counts calls (inr fine) cause not journal refused = unfailed_part before.calls after.calls part (fine.more, fine.calls, fine.each) calls
tells_opening role (Err opens.Station) before after part counts calls fine cause not journal refused = rose_failed before after part counts (cause refl)
tells_opening role (Err (opens.NotAJournal place)) before after part counts calls fine cause not journal refused = refused place refl
tells_opening role (Err opens.Memory) before after part counts calls fine cause not journal refused = not refl
