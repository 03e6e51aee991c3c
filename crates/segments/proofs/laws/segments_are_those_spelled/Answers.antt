use Rattle.std.proofs.Common.{sym, ◌∙◌, ap, subst}
use Rattle.segments.specs.SegmentCut.{Cut}
use Rattle.segments.specs.CutSpelling.{IsCut}
use Rattle.segments.proofs.Cutting.{is_cut, cut_is, cut_of-spelled, spelled_of-cut}
use Rattle.segments.proofs.laws.segments_are_those_spelled.Goals as goal

pub returns-clause-whole : goal.returns-clause-whole
returns-clause-whole c = λ text segments. (cut_of-spelled text segments, spelled_of-cut text segments)

pub returns-clause-one : goal.returns-clause-one
returns-clause-one c = λ text a b first second. ap (λ (cut : Cut). cut.segments) (sym (cut_of-spelled text a first) ∙ cut_of-spelled text b second)

pub returns-clause-cut : goal.returns-clause-cut
returns-clause-cut c = λ left cut. (λ h. sym (cut_is cut.segments cut.fault left h.front h.rest h.joined h.spelled h.stopped), λ e. subst (λ (k : Cut). IsCut k left) (sym e) (is_cut left))
