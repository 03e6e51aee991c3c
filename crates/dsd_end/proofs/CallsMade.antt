-- The calls that the functions of an end make.
use Rattle.std.proofs.Common.{◌≡◌, inl, inr, ℕ, Bool, List, [], ◌∷◌, ◌++◌, sym, ◌∙◌, ap, subst, append_assoc, append-nil, Result}
use Rattle.std.specs.Prelude.{⊤}
use Rattle.dex_line.specs.FrameShapes.{FrameShape}
use Rattle.dex_line.specs.FrameSpelling.{IsSpoken, spelling}
use Rattle.dsd_station.specs.Effects.{Adds, AddsAs}
use Rattle.dsd_station.specs.Rows.{IsKept, IsRow}
use Rattle.dsd_station.specs.Told.{Told}
use Rattle.dsd_station.specs.declared.call.Call.{Call}
use Rattle.dsd_station.specs.declared.call.Call.TheVariants.{Listen, Speak}
use Rattle.dsd_station.specs.declared.call.Outcome.{Outcome}
use Rattle.dsd_station.specs.declared.call.Outcome.TheVariants.{Done}
use Rattle.dsd_station.specs.declared.call.Reception.{Reception}
use Rattle.dsd_station.specs.declared.failed.Failed.{Failed}
use Rattle.dsd_journal.specs.JournalImage.{gate_place}
use Rattle.dsd_journal.specs.Steps.{flush_calls}
use Rattle.dsd_journal.specs.declared.entry.Entry.{Entry}
use Rattle.own_turn.specs.Desks.{MakesFlush}
use Rattle.dsd_end.specs.EndCalls.{AreEndCalls, IsEndCall, MakesCalls}

pub calls_none : (told : Told) → MakesCalls told told
calls_none told = record { more = []; calls = sym (append-nil told.calls); each = tt }

end_calls_more : (one more : List Call) → AreEndCalls one → AreEndCalls more → AreEndCalls (one ++ more)
end_calls_more [] more a b = b
end_calls_more (call ∷ one) more (here, a) b = (here, end_calls_more one more a b)

pub calls_then : (a b c : Told) → MakesCalls a b → MakesCalls b c → MakesCalls a c
calls_then a b c x y = record {
  more = x.more ++ y.more;
  calls = y.calls ∙ ap (λ (l : List Call). l ++ y.more) x.calls ∙ append_assoc a.calls x.more y.more;
  each = end_calls_more x.more y.more x.each y.each;
}

pub calls_spoken : (frame : FrameShape) (bytes : List ℕ) (result : Result (Unit {0}) Failed) (old new : Told) → IsSpoken frame → bytes ≡ spelling frame → AddsAs (λ (outcome : Outcome). Speak bytes outcome) result old new
    → MakesCalls old new
calls_spoken frame bytes result old new spoken is (inl same) = record { more = []; calls = same ∙ sym (append-nil old.calls); each = tt }
calls_spoken frame bytes result old new spoken is (inr (outcome, went, adds)) = record { more = Speak bytes outcome ∷ []; calls = adds; each = ((frame, spoken, is), tt) }

pub calls_listened : (answer : Result Reception Failed) (old new : Told) → Adds (Listen answer) old new → MakesCalls old new
calls_listened answer old new (inl same) = record { more = []; calls = same ∙ sym (append-nil old.calls); each = tt }
calls_listened answer old new (inr adds) = record { more = Listen answer ∷ []; calls = adds; each = (tt, tt) }

-- ---- a flush

abbrev AreOurs : List (Outcome → Call) → Type 0
AreOurs [] = ⊤
AreOurs (call ∷ calls) = ((outcome : Outcome) → IsEndCall (call outcome)) × AreOurs calls

kept_ours : (call : Call) (kept rest : List Call) → IsKept call kept rest → IsEndCall call → AreEndCalls rest → AreEndCalls kept
kept_ours call kept rest (inl is) here more = subst AreEndCalls (sym is) (here, more)
kept_ours call kept rest (inr is) here more = subst AreEndCalls (sym is) more

row_ours : (calls : List (Outcome → Call)) (went : Bool) (kept : List Call) → AreOurs calls → IsRow calls went kept → AreEndCalls kept
row_ours [] went kept ours (all, none) = subst AreEndCalls (sym none) tt
row_ours (call ∷ calls) went kept (here, more) (inl (rest, is, row)) = kept_ours (call Done) kept rest is (here Done) (row_ours calls went rest more row)
row_ours (call ∷ calls) went kept (here, more) (inr (outcome, not, fails, is)) = kept_ours (call outcome) kept [] is (here outcome) tt

flush_ours : (gate : ℕ) (added : List Entry) → AreOurs (flush_calls gate added)
flush_ours gate [] = tt
flush_ours gate (first ∷ more) = ((λ outcome. tt), ((λ outcome. tt), ((λ outcome. tt), ((λ outcome. tt), tt))))

pub calls_flushed : (entries : List Entry) (old new : Told) → MakesFlush entries old new → MakesCalls old new
calls_flushed entries old new (added, (went, makes)) = record {
  more = makes.kept;
  calls = makes.adds;
  each = row_ours (flush_calls (gate_place entries) added) went makes.kept (flush_ours (gate_place entries) added) makes.row;
}
