-- Values computed from the definitions.
use Rattle.std.proofs.Common.{◌≡◌, [], ◌∷◌, codes, true, false, refl}
use Rattle.block_check.specs.Crc16.{crc_of, crc_step, crc_bits, crc_bit}
use Rattle.dex_line.specs.FrameShapes.{Block}
use Rattle.dex_line.specs.FrameSpelling.{spelling}

pub catalogue : crc_of (codes "123456789") ≡ 0xBB3D
unfolding crc_step crc_bits crc_bit
catalogue = refl

pub check_of_zero : crc_of (0 ∷ []) ≡ 0
unfolding crc_step crc_bits crc_bit
check_of_zero = refl

pub check_of_letter : crc_of (0x41 ∷ []) ≡ 0x30C0
unfolding crc_step crc_bits crc_bit
check_of_letter = refl

pub check_of_last : crc_of (0x41 ∷ 0x03 ∷ []) ≡ 0x5170
unfolding crc_step crc_bits crc_bit
check_of_last = refl

pub check_of_block : crc_of (0x41 ∷ 0x17 ∷ []) ≡ 0x5E70
unfolding crc_step crc_bits crc_bit
check_of_block = refl

pub last_block : spelling (Block true (0x41 ∷ [])) ≡ 0x10 ∷ 0x02 ∷ 0x41 ∷ 0x10 ∷ 0x03 ∷ 0x70 ∷ 0x51 ∷ []
unfolding crc_step crc_bits crc_bit
last_block = refl

pub block : spelling (Block false (0x41 ∷ [])) ≡ 0x10 ∷ 0x02 ∷ 0x41 ∷ 0x10 ∷ 0x17 ∷ 0x70 ∷ 0x5E ∷ []
unfolding crc_step crc_bits crc_bit
block = refl
