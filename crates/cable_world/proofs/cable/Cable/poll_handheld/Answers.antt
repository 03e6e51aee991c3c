use Rattle.std.proofs.Common.{◌≡◌, ◌<◌, ap, length, List}
use Rattle.dsd_values.specs.declared.role.Role.TheVariants.{Supplier}
use Rattle.dsd_station.specs.declared.call.Call.{Call}
use Rattle.cable_world.specs.CableLeft.{left_at, left_in}
use Rattle.cable_world.specs.Seats.{SeatView}
use Rattle.cable_world.specs.Steps.{other}
use Rattle.cable_world.specs.CableSteps.{Goes, IsPolled}
use Rattle.cable_world.specs.Noting.{NotesHandheld}
use Rattle.cable_world.proofs.Stepped.{less_left, on_ok_so, poll_handheld}
use Rattle.cable_world.proofs.cable.Cable.poll_handheld.Goals as goal

pub returns-in-Ok : goal.returns-in-Ok
returns-in-Ok c =
    let old = c.args.self.now in
    let new = c.note_handheld.new.self in
    let from = length c.calls-from.result.now in
    record {
      goes = on_ok_so c.note_handheld.result (NotesHandheld from c.in-Ok.answer (record old { handheld = c.poll.new.self }) new) (Goes (IsPolled Supplier) old new) c.note_handheld.ensures
          (λ n. poll_handheld old new c.poll.new.self c.in-Ok.answer from c.in-Ok.ensures.polls c.in-Ok.ensures.ready (ap (λ (l : List Call). length l) c.calls-from.ensures.value) n c.requires.ready);
      less = on_ok_so c.note_handheld.result (NotesHandheld from c.in-Ok.answer (record old { handheld = c.poll.new.self }) new) (left_at new Supplier < left_at old Supplier) c.note_handheld.ensures
          (λ n. less_left c.in-Ok.answer old.handheld c.poll.new.self new.handheld.player c.in-Ok.ensures.polls (ap (λ (v : SeatView). v.player) n.notes.seat));
      other = on_ok_so c.note_handheld.result (NotesHandheld from c.in-Ok.answer (record old { handheld = c.poll.new.self }) new) (left_at new (other Supplier) ≡ left_at old (other Supplier)) c.note_handheld.ensures
          (λ n. ap (λ (v : SeatView). left_in v.player) n.receiver);
    }
