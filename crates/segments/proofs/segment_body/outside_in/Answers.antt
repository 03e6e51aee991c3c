use Rattle.std.proofs.Common.{ℕ, ltb, cond, bit_or, refl}
use Rattle.std.proofs.lemmas.Simd.{zip2_splat, zip2_splat_left, zip2_of_maps}
use Rattle.segments.specs.SegmentCut.{is_outside}
use Rattle.segments.proofs.Stops.{bits_each, bits_past}
use Rattle.segments.proofs.segment_body.outside_in.Goals as goal

abbrev below : ℕ → ℕ → ℕ
below a b = cond (ltb a b) 255 0

pub returns-clause-each : goal.returns-clause-each
returns-clause-each c =
    let v = c.args.block in
    let long = c.fits-block.0 in
    bits_each _ is_outside v _ c.fits-block (zip2_of_maps bit_or _ _ v (zip2_splat below v 32 32 long) (zip2_splat_left below 126 32 v long)) refl

pub returns-clause-past : goal.returns-clause-past
returns-clause-past c =
    let v = c.args.block in
    let long = c.fits-block.0 in
    bits_past _ is_outside v _ c.fits-block (zip2_of_maps bit_or _ _ v (zip2_splat below v 32 32 long) (zip2_splat_left below 126 32 v long))
