use Rattle.std.proofs.Common.{refl}
use Rattle.cable_world.specs.Noted.{steps_of}
use Rattle.clean_worlds.proofs.SessionPlayed.{session_played}
use Rattle.clean_worlds.proofs.session_laws.rounds_are_a_clean_session.Goals as goal

pub returns : goal.returns
returns c = λ id other supplier receiver supplier_entries receiver_entries state scene standing noted next last is others shows exchanges come calls well.
    session_played id other is others supplier receiver supplier_entries receiver_entries next last exchanges.0 (record {
      scene = scene;
      standing = standing;
      shows = shows;
      steps = steps_of noted;
      state = state;
      made = record { noted = noted; is = refl; come = come; calls = calls; well = well };
      are = exchanges.1;
    })
