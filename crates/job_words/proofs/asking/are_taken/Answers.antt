use Rattle.std.proofs.Common.{map, string_bytes}
use Rattle.job_words.proofs.Taken.{none_shaped}
use Rattle.job_words.proofs.asking.are_taken.Goals as goal

pub returns : goal.returns
returns c = none_shaped (map string_bytes c.args.words.now) c.refused.result _ c.in-Err.ensures c.refused.ensures.wanting
