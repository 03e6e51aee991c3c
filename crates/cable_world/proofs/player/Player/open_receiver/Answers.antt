use Rattle.std.proofs.Common.{subst}
use Rattle.dsd_record.specs.Choices.{Chooser}
use Rattle.dsd_station.specs.Logged.{told_by}
use Rattle.dsd_journal.specs.Devices.{since}
use Rattle.dsd_end.specs.RunSoFar.{Runs}
use Rattle.cable_world.proofs.Failing.{unfailed_of}
use Rattle.cable_world.proofs.player.Player.open_receiver.Goals as goal

pub returns-in-Ok : goal.returns-in-Ok
returns-in-Ok c =
    let e = c.in-Ok.ensures in
    record {
      opened = record {
        opens = e.told tt;
        unfailed = unfailed_of (e.unfailed tt);
        refused = λ place is. absurd (cc);
        ok = record {
          chooser_is = e.decider;
          role_is = e.role;
          legal = e.legal;
          known = e.known;
          standing = e.standing;
          rests = e.rests tt;
          runs = subst (λ (x : Chooser). Runs x c.in-Ok.end.core.book.entries (since (told_by c.args.station.now)) c.in-Ok.end.core.standing (told_by c.open_end.new.station)) e.decider (e.runs tt);
        };
      };
      cause = λ is. absurd (cc);
    }

pub returns-in-Err : goal.returns-in-Err
returns-in-Err c = let e = c.in-Err.ensures in record { opened = record { opens = e.told tt; unfailed = unfailed_of (e.unfailed tt); refused = λ place is. e.refused tt place (cc); ok = tt }; cause = λ is. e.cause (cc) }
