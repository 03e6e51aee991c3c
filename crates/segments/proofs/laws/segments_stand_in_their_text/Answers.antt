use Rattle.std.proofs.Common.{[]}
use Rattle.segments.specs.SegmentCut.{cut_of, text_start}
use Rattle.segments.proofs.Cutting.{is_cut, all_spelled, all_stand, starts_of-spelled}
use Rattle.segments.proofs.laws.segments_stand_in_their_text.Goals as goal

pub returns-clause-spelled : goal.returns-clause-spelled
returns-clause-spelled c = λ text. let cut = is_cut (text_start text) in all_spelled 0 (cut_of text).segments cut.front cut.spelled

pub returns-clause-starts : goal.returns-clause-starts
returns-clause-starts c = λ text. let cut = is_cut (text_start text) in starts_of-spelled 0 (cut_of text).segments cut.front cut.spelled

pub returns-clause-there : goal.returns-clause-there
returns-clause-there c = λ text. let cut = is_cut (text_start text) in all_stand (cut_of text).segments text [] cut.front cut.rest cut.joined cut.spelled
