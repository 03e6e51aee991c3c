use Rattle.std.proofs.Common.{ap, length, ◌+◌, List}
use Rattle.dsd_values.specs.declared.role.Role.TheVariants.{Supplier}
use Rattle.dsd_station.specs.declared.call.Call.{Call}
use Rattle.cable_world.specs.CableSteps.{Goes, IsOpened}
use Rattle.cable_world.specs.Noting.{NotesHandheld}
use Rattle.cable_world.specs.Settings.{chooser_at}
use Rattle.cable_world.proofs.Stepped.{on_ok_so, open_handheld, started_longer}
use Rattle.cable_world.proofs.cable.Cable.open_handheld.Goals as goal

pub returns-in-Ok : goal.returns-in-Ok
returns-in-Ok c =
    let old = c.args.self.now in
    let new = c.note_handheld.new.self in
    let from = length c.calls.result.now + 1 in
    record {
      goes = on_ok_so c.note_handheld.result (NotesHandheld from c.in-Ok.answer (record old { handheld = c.start.new.self }) new) (Goes (IsOpened Supplier) old new) c.note_handheld.ensures
          (λ n. open_handheld old new c.start.new.self c.in-Ok.answer from c.in-Ok.ensures.starts c.in-Ok.ensures.ready
          (ap (λ (l : List Call). length l + 1) c.calls.ensures.value) n c.requires.ready);
    }

pub note_handheld-requires : goal.note_handheld-requires
note_handheld-requires c =
    started_longer Supplier (chooser_at c.args.self.now.setting Supplier) c.in-Ok.answer c.args.self.now.handheld c.start.new.self (length c.calls.result.now + 1) c.in-Ok.ensures.starts
    (ap (λ (l : List Call). length l + 1) c.calls.ensures.value)
