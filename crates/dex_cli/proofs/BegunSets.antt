-- A set of a text is begun, and goes on segment by segment.
use Rattle.std.proofs.Common.{◌≡◌, ℕ, List, [], ◌++◌, Option, Some, None, Result, Ok, Err, OnOk, ◌∙◌, subst}
use Rattle.segments.specs.Views.{Seg}
use Rattle.dsd_record.specs.TakenSets.{HasTaken}
use Rattle.dxs_envelope.specs.TextParts.{with_segment}
use Rattle.dxs_envelope.specs.Views.{SetAt}
use Rattle.dex_cli.specs.TextSteps.{HasBegun}
use Rattle.dex_cli.specs.declared.begun_set.BegunSet.{BegunSet}

pub any_ok : {T E P : Type 0} (answer : Result T E) → P → OnOk answer P
any_ok (Ok x) p = p
any_ok (Err fault) p = tt

-- by its first segment
pub set_begins : (seg : Seg) (old new : BegunSet) → old.start ≡ seg.start → HasTaken [] old.reader → new.start ≡ old.start
    → ((text : List ℕ) → HasTaken text old.reader → HasTaken (text ++ seg.bytes) new.reader) → HasBegun (Some (with_segment None seg)) (Some new)
set_begins seg old new at none start taken = (start ∙ at, taken [] none)

-- and goes on with a later one
pub set_goes_on : (set : Option SetAt) (seg : Seg) (begun : Option BegunSet) (old new : BegunSet) → begun ≡ Some old → HasBegun set begun → new.start ≡ old.start
    → ((text : List ℕ) → HasTaken text old.reader → HasTaken (text ++ seg.bytes) new.reader) → HasBegun (Some (with_segment set seg)) (Some new)
set_goes_on None seg begun old new is has start taken = absurd (subst (λ (b : Option BegunSet). HasBegun None b) is has)
set_goes_on (Some set) seg begun old new is has start taken =
    let h : HasBegun (Some set) (Some old) = subst (λ (b : Option BegunSet). HasBegun (Some set) b) is has in (start ∙ h.0, taken set.bytes h.1)
