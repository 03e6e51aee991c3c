use Rattle.std.proofs.lemmas.Simd.{get_or-chunk}
use Rattle.segments.proofs.segment_body.block_at.Goals as goal

pub returns-then-front-place-ge-BLOCK : goal.returns-then-front-place-ge-BLOCK
returns-then-front-place-ge-BLOCK c k under = get_or-chunk c.args.place 32 c.args.front.now k 0 under
