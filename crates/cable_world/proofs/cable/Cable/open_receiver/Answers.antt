use Rattle.std.proofs.Common.{ap, length, ◌+◌, List}
use Rattle.dsd_values.specs.declared.role.Role.TheVariants.{Receiver}
use Rattle.dsd_station.specs.declared.call.Call.{Call}
use Rattle.cable_world.specs.CableSteps.{Goes, IsOpened}
use Rattle.cable_world.specs.Noting.{NotesReceiver}
use Rattle.cable_world.specs.Settings.{chooser_at}
use Rattle.cable_world.proofs.Stepped.{on_ok_so, open_receiver, started_longer}
use Rattle.cable_world.proofs.cable.Cable.open_receiver.Goals as goal

pub returns-in-Ok : goal.returns-in-Ok
returns-in-Ok c =
    let old = c.args.self.now in
    let new = c.note_receiver.new.self in
    let from = length c.calls.result.now + 1 in
    record {
      goes = on_ok_so c.note_receiver.result (NotesReceiver from c.in-Ok.answer (record old { receiver = c.start.new.self }) new) (Goes (IsOpened Receiver) old new) c.note_receiver.ensures
          (λ n. open_receiver old new c.start.new.self c.in-Ok.answer from c.in-Ok.ensures.starts c.in-Ok.ensures.ready
          (ap (λ (l : List Call). length l + 1) c.calls.ensures.value) n c.requires.ready);
    }

pub note_receiver-requires : goal.note_receiver-requires
note_receiver-requires c =
    started_longer Receiver (chooser_at c.args.self.now.setting Receiver) c.in-Ok.answer c.args.self.now.receiver c.start.new.self (length c.calls.result.now + 1) c.in-Ok.ensures.starts
    (ap (λ (l : List Call). length l + 1) c.calls.ensures.value)
