use Rattle.std.proofs.Common.{◌≡◌, drop, map, string_bytes}
use Rattle.std.specs.List.{list_all}
use Rattle.job_words.specs.Shapes.{is_plain}
use Rattle.job_words.proofs.asking.are_plain.Given as goal

-- all are plain where those are that were not looked at yet
abbrev pub invariant-loop-word : goal.invariant-loop-word
invariant-loop-word l = list_all is_plain (map string_bytes (drop l.word-index l.words)) ≡ list_all is_plain (map string_bytes l.words)
