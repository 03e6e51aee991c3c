use Rattle.std.proofs.Common.{◌≡◌, ◌<◌, true, [], length, get_or, rules}
use Rattle.delivery_book.specs.Lookups.{awaits_us, numbers_of}
use Rattle.own_turn.proofs.Idling.{none_passes}
use Rattle.own_turn.proofs.desk.Desk.awaiting.Goals as goal

pub returns-in_err-push-clause-idle : goal.returns-in_err-push-clause-idle
returns-in_err-push-clause-idle c = λ none.
    let known = c.args.self.now.book.known in
    let index = c.loop-index.index in
    let within : index < length (numbers_of known) = (search rules) in
    let passes : awaits_us known (get_or (numbers_of known) index []) ≡ true = (search rules) in
    absurd (none_passes (awaits_us known) (numbers_of known) index within none passes)
