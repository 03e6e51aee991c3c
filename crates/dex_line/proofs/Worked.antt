-- Values computed from the definitions.
use Rattle.std.proofs.Common.{◌≡◌, [], ◌∷◌, ◌++◌, codes, true, refl}
use Rattle.std.specs.List.{flat_map}
use Rattle.block_check.specs.Crc16.{crc_step, crc_bits, crc_bit}
use Rattle.dex_line.specs.Bytes.{is_text}
use Rattle.dex_line.specs.FrameShapes.{Enq, Eot, Block}
use Rattle.dex_line.specs.FrameSpelling.{spelling}
use Rattle.dex_line.specs.Occurrence.{IsBlockText}
use Rattle.dex_line.specs.TextUnits.{lines_of, paired, units_of}

pub held_frames : flat_map spelling (Block true (codes "#KN") ∷ Eot ∷ Enq ∷ Block true (codes "B") ∷ [])
    ≡ spelling (Block true (0x23 ∷ 0x4B ∷ 0x4E ∷ 0x10 ∷ 0x03 ∷ 0x0E ∷ 0x33 ∷ 0x04 ∷ 0x05 ∷ 0x10 ∷ 0x02 ∷ 0x42 ∷ []))
unfolding crc_step crc_bits crc_bit
held_frames = refl

pub no_text : IsBlockText (0x23 ∷ 0x4B ∷ 0x4E ∷ 0x10 ∷ 0x03 ∷ 0x0E ∷ 0x33 ∷ 0x04 ∷ 0x05 ∷ 0x10 ∷ 0x02 ∷ 0x42 ∷ []) → ⊥
unfolding is_text
no_text is = let h = is.bytes in cc

pub one_unit : units_of (codes "G85*5170" ++ 13 ∷ 10 ∷ codes "SE*2*1" ++ 13 ∷ 10 ∷ [])
    ≡ (codes "G85*5170" ++ 13 ∷ 10 ∷ codes "SE*2*1" ++ 13 ∷ 10 ∷ []) ∷ []
unfolding lines_of paired units_of
one_unit = refl
