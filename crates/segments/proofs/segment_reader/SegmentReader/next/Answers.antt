use Rattle.std.proofs.Common.{sym, ◌∙◌}
use Rattle.segments.proofs.Complete.{front_is}
use Rattle.segments.proofs.Refused.{fault_of-next, next_of-fault}
use Rattle.segments.proofs.Spelled.{answer_front, answer_stays, end_of-next, next_of-end}
use Rattle.segments.proofs.segment_reader.SegmentReader.next.Goals as goal

pub returns-clause-spelled : goal.returns-clause-spelled
returns-clause-spelled c = answer_front c.args.self.now c.advance.new.self c.advance.result c.advance.ensures.answer c.advance.ensures.left

pub returns-clause-front : goal.returns-clause-front
returns-clause-front c = λ seg behind front.
    let read = front_is c.args.self.now behind seg front in
    (c.advance.ensures.answer ∙ read.0, c.advance.ensures.left ∙ read.1)

pub returns-clause-refused : goal.returns-clause-refused
returns-clause-refused c = λ fault.
    (λ refused. fault_of-next c.args.self.now fault (sym c.advance.ensures.answer ∙ refused), λ there. c.advance.ensures.answer ∙ next_of-fault c.args.self.now fault there)

pub returns-clause-end : goal.returns-clause-end
returns-clause-end c =
    (λ none. end_of-next c.args.self.now (sym c.advance.ensures.answer ∙ none), λ over. c.advance.ensures.answer ∙ next_of-end c.args.self.now over)

pub returns-clause-stays : goal.returns-clause-stays
returns-clause-stays c = answer_stays c.args.self.now c.advance.new.self c.advance.result c.advance.ensures.answer c.advance.ensures.left
