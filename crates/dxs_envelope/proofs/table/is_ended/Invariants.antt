use Rattle.std.proofs.Common.{◌≡◌, drop}
use Rattle.segments.specs.Elements.{filled_from, no_more}
use Rattle.dxs_envelope.proofs.table.is_ended.Given as goal

-- the elements from here on are refused as all of them are
abbrev pub invariant-loop-element : goal.invariant-loop-element
invariant-loop-element l = filled_from l.element (drop l.element l.segment.parts) ≡ no_more l.last l.segment
