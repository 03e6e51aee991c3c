-- Which proposal an answer names.
use Rattle.std.specs.Prelude.{◌≡◌, ℕ, ◌+◌, if◌then◌else◌, List}
use Rattle.dsd_values.specs.declared.line.Line.{Line}
use Rattle.adjustment_895.specs.Grammar.{has_none}
use Rattle.adjustment_895.specs.AnswerRecord.{AnswerRecord}
use Rattle.dsd_record.specs.Version.{Version}

-- what tells a proposal from others: its delivery, its level and its own integrity value
pub record Proposal : Type 0 where
  pub number : List ℕ
  pub level : ℕ
  pub check : ℕ

-- the proposal that made a version
abbrev pub proposal_of : Version → Proposal
proposal_of version = record { number = version.number; level = version.level; check = version.check }

-- the level that an answer to a proposal states: an adjustment, which has lines, its own, and an acknowledgement that of the proposal
abbrev pub answered_level : List Line → ℕ → ℕ
answered_level lines level = if has_none lines then level else level + 1

-- the answer is one to this proposal
pub record Names (answer : AnswerRecord) (proposal : Proposal) : Type 0 where
  pub number : answer.number ≡ proposal.number
  pub level : answer.level ≡ answered_level answer.lines proposal.level
  pub check : answer.check ≡ proposal.check
