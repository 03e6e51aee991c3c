-- The segment at the front of what is left, by its size.
use Rattle.std.proofs.Common.{◌≡◌, ℕ, true, false, List, take, Result, Ok, Err, IsErr, IsErrAnd, IfErr, sym, ◌∙◌, ap}
use Rattle.segments.specs.declared.segment_fault.SegmentFault.{SegmentFault}
use Rattle.segments.specs.SegmentCut.{first_of, seg_at, size_of, with_parts, with_size}
use Rattle.segments.specs.PartEnds.{IsJudged, KeepsSegment}
use Rattle.segments.proofs.Judging.{a_segment_at}
use Rattle.segments.proofs.Sized.{sized}

-- so many bytes are judged by their parts
pub first_by_size : (start size : ℕ) (rest : List ℕ) → size_of start rest ≡ Ok size → first_of start rest ≡ with_parts (seg_at start (take size rest))
unfolding first_of
first_by_size start size rest e = ap (with_size start rest) e

-- where no size is found there is no segment
pub refused_by_size : (start : ℕ) (rest : List ℕ) (fault : SegmentFault) (answer : Result ℕ SegmentFault) → IsErr answer × IsErrAnd answer (λ (f : SegmentFault). f ≡ fault) → size_of start rest ≡ Err fault → IfErr answer (λ (f : SegmentFault). first_of start rest ≡ Err f)
unfolding first_of
refused_by_size start rest fault (Ok size) h e = absurd (let f : false ≡ true = h.0 in cc (f))
refused_by_size start rest fault (Err f) h e = ap (with_size start rest) e ∙ ap (λ (u : SegmentFault). Err u) (sym h.1)

pub judged_at : (start size : ℕ) (rest ends : List ℕ) → size_of start rest ≡ Ok size → KeepsSegment start (take size rest) ends → IsJudged start rest ends size
judged_at start size rest ends e kept = record {
  inside = (sized start size rest e).inside;
  kept = kept;
  first = first_by_size start size rest e ∙ sym (a_segment_at start (take size rest) kept.spelled.segment.id kept.spelled.segment.few);
}
