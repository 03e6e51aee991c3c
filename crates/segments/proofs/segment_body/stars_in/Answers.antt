use Rattle.std.proofs.Common.{ℕ, eqb, cond, refl}
use Rattle.std.proofs.lemmas.Simd.{zip2_splat}
use Rattle.segments.specs.SegmentSpelling.{is_star}
use Rattle.segments.proofs.Stops.{bits_each}
use Rattle.segments.proofs.segment_body.stars_in.Goals as goal

abbrev equal : ℕ → ℕ → ℕ
equal a b = cond (eqb a b) 255 0

pub returns : goal.returns
returns c = let v = c.args.block in bits_each _ is_star v _ c.fits-block (zip2_splat equal v 32 42 c.fits-block.0) refl
