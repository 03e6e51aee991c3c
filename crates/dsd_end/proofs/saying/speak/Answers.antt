use Rattle.std.proofs.Common.{◌≡◌, ◌∙◌}
use Rattle.std.specs.Prelude.{is_ok}
use Rattle.dex_line.specs.FrameShapes.{frame_seen}
use Rattle.dex_line.specs.FrameSpelling.{spelling}
use Rattle.dsd_end.proofs.Talking.{says_as, says_spoken}
use Rattle.dsd_end.proofs.saying.speak.Goals as goal

pub returns-clause-told : goal.returns-clause-told
returns-clause-told g c = λ tells.
    let old = g.T.Station.told c.args.station.now in
    let new = g.T.Station.told c.speak.new.self in
    let is : c.as_slice.result.now ≡ spelling (frame_seen c.args.frame.now) = c.as_slice.ensures.value ∙ c.spell-bytes.ensures in
    says_as c.as_slice.result.now (spelling (frame_seen c.args.frame.now)) (is_ok c.speak.result) old new is (says_spoken c.as_slice.result.now old (c.requires.synced tells) (frame_seen c.args.frame.now) c.requires.spoken is c.speak.result new (c.speak.ensures.told tells))
