use Rattle.std.proofs.Common.{rules, subst, sym}
use Rattle.set_stream.specs.StreamedSets.{IsStreamOf, SetSoFar}
use Rattle.set_stream.proofs.Streamed.{gives_up, on_ok}
use Rattle.set_stream.proofs.set_stream.SetStream.take.Goals as goal

pub returns-in-Err-clause-taken : goal.returns-in-Err-clause-taken
returns-in-Err-clause-taken c =
    let old : SetSoFar = record { segments = c.self.inside.segments; set = c.self.inside.set; fault = c.self.inside.fault } in
    on_ok c.give_up.result (λ text taken. gives_up text c.args.piece.now old c.give_up.new.self c.in-Err.fault (search rules) c.give_up.ensures c.in-Err.ensures.stops (subst (IsStreamOf text) (sym c.self.view_is) taken))
