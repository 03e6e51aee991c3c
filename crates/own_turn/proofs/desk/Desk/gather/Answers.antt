use Rattle.std.proofs.Common.{◌≡◌, ◌+◌, ◌<◌, Bool, [], drop, if◌then◌else◌, length, rules, subst}
use Rattle.std.specs.List.{filter_map}
use Rattle.delivery_book.specs.Lookups.{numbers_of}
use Rattle.own_turn.specs.DueSets.{due_of, due_sets, reached}
use Rattle.own_turn.proofs.Reached.{goes_on}
use Rattle.std.proofs.Common.{ap, sym, ◌∙◌}
use Rattle.own_turn.proofs.Reached.{due_from}
use Rattle.own_turn.proofs.desk.Desk.gather.Goals as goal

pub returns-in-Ok-false-clause-sets : goal.returns-in-Ok-false-clause-sets
returns-in-Ok-false-clause-sets c =
    let view = c.args.self.now in
    let numbers = numbers_of view.book.known in
    let index = c.loop-index.index in
    let within : index < length numbers = (search rules) in
    let due = due_of view.book.known view.asked in
    let total = reached view.book.header c.args.control [] (due_sets view.book.known view.asked) in
    let new = c.gather_at.new.gathered in
    subst (λ (b : Bool). (if b then reached view.book.header c.args.control new (filter_map due (drop (index + 1) numbers)) else new) ≡ total) c.in-Ok-false.field-0-test
    (goes_on view.book.header c.args.control due numbers index c.loop-index.gathered new total c.in-Ok-false.field-0 within c.loop-index.invariant.reached c.in-Ok-false.ensures.goes_on)

pub loop-index-preserved : goal.loop-index-preserved
loop-index-preserved c =
    let view = c.args.self.now in
    let numbers = numbers_of view.book.known in
    let index = c.loop-index.index in
    let within : index < length numbers = (search rules) in
    let due = due_of view.book.known view.asked in
    let total = reached view.book.header c.args.control [] (due_sets view.book.known view.asked) in
    let new = c.gather_at.new.gathered in
    record {
      reached = subst (λ (b : Bool). (if b then reached view.book.header c.args.control new (filter_map due (drop (index + 1) numbers)) else new) ≡ total) c.in-Ok-true.field-0-test
          (goes_on view.book.header c.args.control due numbers index c.loop-index.gathered new total c.in-Ok-true.field-0 within c.loop-index.invariant.reached c.in-Ok-true.ensures.goes_on);
      end = (search rules);
    }

pub returns-in-Err-clause-some : goal.returns-in-Err-clause-some
returns-in-Err-clause-some c = λ none.
    let view = c.args.self.now in
    let numbers = numbers_of view.book.known in
    let index = c.loop-index.index in
    let within : index < length numbers = (search rules) in
    let due = due_of view.book.known view.asked in
    c.in-Err.ensures.some (filter_map due (drop (index + 1) numbers)) (ap (reached view.book.header c.args.control c.loop-index.gathered) (sym (due_from due numbers index within)) ∙ c.loop-index.invariant.reached ∙ none)
