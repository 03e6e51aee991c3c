-- What is said of a journal that is full, from one call to the call above it.
use Rattle.std.proofs.Common.{◌≡◌, ℕ, false, List, [], ◌∷◌, ◌++◌, sym, ◌∙◌, ap, subst, Option, Some, Result, Ok, Err}
use Rattle.dex_line.specs.FrameShapes.{FrameShape}
use Rattle.dex_line.specs.Scanning.{quieted}
use Rattle.dex_handshake.specs.LineTable.{LineStep, hears, turn_of}
use Rattle.dsd_record.specs.Choices.{Chooser}
use Rattle.dsd_station.specs.Told.{Told}
use Rattle.dsd_station.specs.declared.call.Reception.{Reception}
use Rattle.dsd_journal.specs.declared.entry.Entry.{Entry}
use Rattle.own_turn.specs.Desks.{IfFull, IsTooLong}
use Rattle.own_turn.specs.NextEntry.{TurnAddsNext}
use Rattle.own_turn.specs.declared.turn_fault.TurnFault.{TurnFault}
use Rattle.own_turn.specs.declared.turn_fault.TurnFault.TheVariants as turns
use Rattle.dsd_end.specs.EndFaults.{fault_of}
use Rattle.dsd_end.specs.FullTurns.{BrokenFull, FrameFull, HearsFull, IfEndFull, PollFull, TurnFull}
use Rattle.dsd_end.specs.Standings.{Standing, with_begun, with_line}
use Rattle.dsd_end.specs.declared.fault.EndFault.{EndFault}
use Rattle.dsd_end.specs.declared.fault.EndFault.TheVariants as ends
use Rattle.dsd_end.proofs.StepsGoing.{line_at_turn}

pub full_map : {T : Type 0} (P Q : ℕ → Type 0) (r : Result T TurnFault) → ((n : ℕ) → P n → Q n) → IfFull r P → IfFull r Q
full_map P Q (Ok x) f k = tt
full_map P Q (Err turns.Station) f k = tt
full_map P Q (Err (turns.Full n)) f k = f n k
full_map P Q (Err turns.Memory) f k = tt

pub never_full : {T : Type 0} (Q : ℕ → Type 0) (r : Result T TurnFault) → IfFull r (λ n. ⊥) → IfFull r Q
never_full Q r k = full_map (λ n. ⊥) Q r (λ n x. absurd x) k

-- of a fault that is handed on, whatever the calls give
pub full_as : (T U : Type 0) (P Q : ℕ → Type 0) (fault : TurnFault) → (let r : Result T TurnFault = Err fault in IfFull r P) → ((n : ℕ) → P n → Q n) → (let r : Result U TurnFault = Err fault in IfFull r Q)
full_as T U P Q turns.Station k f = tt
full_as T U P Q (turns.Full n) k f = f n k
full_as T U P Q turns.Memory k f = tt

-- the fault of a poll is that of its turn
pub poll_full : (T U : Type 0) (P Q : ℕ → Type 0) (fault : TurnFault) (told : EndFault) → told ≡ fault_of fault → (let r : Result T TurnFault = Err fault in IfFull r P) → ((n : ℕ) → P n → Q n)
    → (let r : Result U EndFault = Err told in IfEndFull r Q)
poll_full T U P Q turns.Station told is k f = subst (λ (x : EndFault). let r : Result U EndFault = Err x in IfEndFull r Q) (sym is) tt
poll_full T U P Q (turns.Full n) told is k f = subst (λ (x : EndFault). let r : Result U EndFault = Err x in IfEndFull r Q) (sym is) (f n k)
poll_full T U P Q turns.Memory told is k f = subst (λ (x : EndFault). let r : Result U EndFault = Err x in IfEndFull r Q) (sym is) tt

-- of a fault that a poll hands on
pub end_full_as : (T U : Type 0) (P : ℕ → Type 0) (fault : EndFault) → (let r : Result T EndFault = Err fault in IfEndFull r P) → (let r : Result U EndFault = Err fault in IfEndFull r P)
end_full_as T U P ends.Station k = tt
end_full_as T U P (ends.Full n) k = k
end_full_as T U P (ends.Noise n) k = tt
end_full_as T U P ends.Failed k = tt
end_full_as T U P ends.Memory k = tt

-- ---- from the turn up to the poll

pub turn_full : (chooser : Chooser) (standing : Standing) (text : List ℕ) (entries : List Entry) (n : ℕ) → turn_of standing.line ≡ Some text → IsTooLong (TurnAddsNext standing.header.role chooser text standing.desk) entries n
    → TurnFull chooser standing n
turn_full chooser standing text entries n some full =
    let (own, line) = line_at_turn standing.line text some in
    (own, text, line, (entries, full))

pub frame_full : (chooser : Chooser) (standing at : Standing) (frame : FrameShape) (step : LineStep) (n : ℕ) → step ≡ hears standing.line frame → at ≡ with_line standing step.next → TurnFull chooser at n → FrameFull chooser standing frame n
frame_full chooser standing at frame step n seen is full = subst (λ (s : Standing). TurnFull chooser s n) (is ∙ ap (λ (x : LineStep). with_line standing x.next) seen) full

pub broken_full : (chooser : Chooser) (standing at : Standing) (frame : FrameShape) (n : ℕ) → at ≡ with_begun standing [] → Some frame ≡ quieted standing.begun → FrameFull chooser at frame n
    → BrokenFull chooser (with_begun standing []) (quieted standing.begun) n
broken_full chooser standing at frame n is some full =
    subst (λ (o : Option FrameShape). BrokenFull chooser (with_begun standing []) o n) some (subst (λ (s : Standing). FrameFull chooser s frame n) is full)

pub listen_full : (tells : Type 0) (chooser : Chooser) (standing : Standing) (reception : Reception) (old mid new : Told) (n : ℕ) → standing.first ≡ false → (tells → mid.heard ≡ old.heard ++ reception ∷ []) → (tells → new.heard ≡ mid.heard)
    → HearsFull chooser standing reception n → PollFull tells chooser standing old new n
listen_full tells chooser standing reception old mid new n begun hears same full = record { heard = reception; full = full; begun = begun; listened = λ t. same t ∙ hears t }

pub end_full_map : (T U : Type 0) (P Q : ℕ → Type 0) (fault : EndFault) → ((n : ℕ) → P n → Q n) → (let r : Result T EndFault = Err fault in IfEndFull r P) → (let r : Result U EndFault = Err fault in IfEndFull r Q)
end_full_map T U P Q ends.Station f k = tt
end_full_map T U P Q (ends.Full n) f k = f n k
end_full_map T U P Q (ends.Noise n) f k = tt
end_full_map T U P Q ends.Failed f k = tt
end_full_map T U P Q ends.Memory f k = tt
