-- The tables give what a byte leaves with some bytes behind it.
use Rattle.std.proofs.Common.{◌≡◌, ℕ, ◌+◌, ◌*◌, ◌<◌, List, [], map, get_or, refl, ◌∙◌, ap, arith}
use Rattle.std.specs.List.{range_with_len}
use Rattle.std.proofs.lemmas.List.FromFn.{get_or-map-range_with_len}
use Rattle.block_check.specs.declared.tables.TheConstants.{REMAINDERS}
use Rattle.block_check.specs.Crc16.{crc_bit, crc_bits}

-- what each byte leaves with k bytes behind it
abbrev row : ℕ → List ℕ
row k = map (crc_bits (8 * (k + 1))) (range_with_len 0 256)

-- all the tables, by computing
tables_are : REMAINDERS ≡ map row (range_with_len 0 8)
unfolding crc_bits crc_bit
tables_are = refl

pub remainder_at : (k i : ℕ) → k < 8 → i < 256 → get_or (get_or REMAINDERS k []) i 0 ≡ crc_bits (8 * (k + 1)) i
remainder_at k i hk hi =
    let e1 : get_or REMAINDERS k [] ≡ row k = ap (λ t. get_or t k []) tables_are ∙ (get_or-map-range_with_len row 0 8 k k [] hk (omega arith)) in
    ap (λ t. get_or t i 0) e1 ∙ (get_or-map-range_with_len (crc_bits (8 * (k + 1))) 0 256 i i 0 hi (omega arith))
