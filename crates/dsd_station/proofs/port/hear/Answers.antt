use Rattle.dsd_station.proofs.Hearing.{heard_bytes, left_behind_bytes}
use Rattle.dsd_station.proofs.port.hear.Goals as goal

pub returns-then-count-gt0-clause-heard : goal.returns-then-count-gt0-clause-heard
returns-then-count-gt0-clause-heard c =
    let taken = c.take_bytes-count in
    heard_bytes c.args.fed.now c.args.from taken.result.1 taken.new.into taken.result.0 taken.ensures.bytes c.if-count-gt0.true taken.ensures.count taken.array_long taken.ensures.end

pub returns-then-count-gt0-clause-left : goal.returns-then-count-gt0-clause-left
returns-then-count-gt0-clause-left c =
    let taken = c.take_bytes-count in
    left_behind_bytes c.args.fed.now c.args.from taken.result.1 taken.new.into taken.result.0 taken.ensures.bytes c.if-count-gt0.true taken.ensures.count taken.array_long taken.ensures.end
