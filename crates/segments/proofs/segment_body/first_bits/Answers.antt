use Rattle.std.proofs.Common.{◌∙◌, ◌-◌, ◌^◌, ap, bit_and, arith}
use Rattle.std.proofs.lemmas.Nat.{one_shl}
use Rattle.std.proofs.lemmas.Nat.Bits.{bit_at_and, bit_at_ones, bit_at_ones_above, bit_at-lt}
use Rattle.std.specs.Int.{bit_at}
use Rattle.segments.proofs.segment_body.first_bits.Goals as goal

pub returns-clause-kept : goal.returns-clause-kept
returns-clause-kept c k under =
    ap (λ m. bit_at (bit_and c.args.bits (m - 1)) k) (one_shl c.args.count 64 (omega (arith, c.requires)))
    ∙ omega (arith, bit_at_and c.args.bits (2 ^ c.args.count - 1) k, bit_at_ones c.args.count k under, bit_at-lt c.args.bits k)

pub returns-clause-past : goal.returns-clause-past
returns-clause-past c k from =
    ap (λ m. bit_at (bit_and c.args.bits (m - 1)) k) (one_shl c.args.count 64 (omega (arith, c.requires)))
    ∙ omega (arith, bit_at_and c.args.bits (2 ^ c.args.count - 1) k, bit_at_ones_above c.args.count k from)
