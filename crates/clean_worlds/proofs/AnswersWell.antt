-- An opening or a poll of which no call failed answers no fault, where the journal is not full and what was heard is no noise.
use Rattle.std.proofs.Common.{◌≡◌, ℕ, true, false, List, Option, Some, refl, ap, subst, arith}
use Rattle.dsd_record.specs.Choices.{Chooser}
use Rattle.dsd_station.specs.declared.call.Call.{Call}
use Rattle.dsd_station.specs.Failures.{failed_in}
use Rattle.dsd_journal.specs.declared.header.Header.{Header}
use Rattle.dsd_end.specs.declared.fault.EndFault.TheVariants as ends
use Rattle.dsd_end.specs.EndFaults.{IsNoise}
use Rattle.dsd_end.specs.PollStep.{Done}
use Rattle.dsd_end.specs.Polls.{with_flags}
use Rattle.dsd_end.specs.Standings.{Standing}
use Rattle.cable_world.specs.Diligence.{Follows, Steps}
use Rattle.cable_world.specs.Faulting.{FindsFull, HasFailed}
use Rattle.cable_world.specs.Living.{is_opening}
use Rattle.cable_world.specs.Noted.{kind_of}
use Rattle.cable_world.specs.Steps.{Opening, Poll}
use Rattle.cable_world.specs.declared.answer.Answer.{Answer}
use Rattle.cable_world.specs.declared.answer.Answer.TheVariants as answers
use Rattle.clean_worlds.specs.WholeFrames.{is_fault}

not_failed : (part : List Call) → failed_in part ≡ 0 → HasFailed part → ⊥
not_failed part none failed = omega (arith, none, failed)

pub opening_well : (chooser : Chooser) (header : Header) (journal : List ℕ) (answer : Answer) (part : List Call) (before after : Option Standing) → kind_of answer ≡ Opening → failed_in part ≡ 0
    → Follows chooser header journal answer part before after → is_fault answer ≡ false
opening_well chooser header journal answers.Opened part before after kind none follows = refl
opening_well chooser header journal (answers.NotOpened fault) part before after kind none (rests, station, failed) = absurd (not_failed part none failed)
opening_well chooser header journal answers.Running part before after kind none follows = refl
opening_well chooser header journal (answers.Ended end) part before after kind none follows = refl
opening_well chooser header journal (answers.Broken fault) part before after kind none follows = let no : false ≡ true = ap is_opening kind in absurd (cc)

-- in this poll the journal was not found full, and what was heard is no noise
pub record Excludes (chooser : Chooser) (standing : Standing) (part : List Call) : Type 0 where
  pub full : (length : ℕ) → FindsFull chooser standing part length → ⊥
  pub noise : (last : Standing) (count : ℕ) (done : Done) → IsNoise last count → Steps chooser standing part done → done.standing ≡ with_flags last false false → ⊥

same_standing : (a b : Standing) → Some a ≡ Some b → b ≡ a
same_standing a b e = cc

pub poll_well : (chooser : Chooser) (header : Header) (journal : List ℕ) (answer : Answer) (part : List Call) (standing : Standing) (after : Option Standing) → kind_of answer ≡ Poll → failed_in part ≡ 0
    → Excludes chooser standing part → Follows chooser header journal answer part (Some standing) after → is_fault answer ≡ false
poll_well chooser header journal answers.Opened part standing after kind none not follows = refl
poll_well chooser header journal (answers.NotOpened fault) part standing after kind none not follows = let no : true ≡ false = ap is_opening kind in absurd (cc)
poll_well chooser header journal answers.Running part standing after kind none not follows = refl
poll_well chooser header journal (answers.Ended end) part standing after kind none not follows = refl
poll_well chooser header journal (answers.Broken ends.Station) part standing after kind none not (now, last, before, failed, stands) = absurd (not_failed part none failed)
poll_well chooser header journal (answers.Broken (ends.Full length)) part standing after kind none not (now, last, before, full, stands) =
    absurd (not.full length (subst (λ (s : Standing). FindsFull chooser s part length) (same_standing standing now before) full))
poll_well chooser header journal (answers.Broken (ends.Noise count)) part standing after kind none not (now, last, before, (noise, (done, steps, same)), stands) =
    absurd (not.noise last count done noise (subst (λ (s : Standing). Steps chooser s part done) (same_standing standing now before) steps) same)
poll_well chooser header journal (answers.Broken ends.Failed) part standing after kind none not (now, last, before, never, stands) = absurd never
poll_well chooser header journal (answers.Broken ends.Memory) part standing after kind none not (now, last, before, never, stands) = absurd never
