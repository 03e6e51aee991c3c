use Rattle.std.proofs.Common.{List, sym, subst}
use Rattle.dsd_station.specs.declared.call.Call.{Call}
use Rattle.dsd_station.specs.Replayed.{state_of}
use Rattle.dsd_station.specs.Notes.{IsNote}
use Rattle.dsd_station.proofs.Tying.{tied_push, note_tied}
use Rattle.dsd_station.proofs.tape.Tape.note.Goals as goal

pub invariant_of-self-2 : goal.invariant_of-self-2
invariant_of-self-2 c =
    let note = subst (λ (calls : List Call). IsNote (state_of calls) c.args.call) (sym c.self.view_is) c.requires in
    tied_push c.self.inside.calls.items _ _ _ _ _ _ _ c.args.call c.in_ok-push.ensures.items (note_tied _ _ _ _ _ _ _ c.self.invariant c.args.call note)
