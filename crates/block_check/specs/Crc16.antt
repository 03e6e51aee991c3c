-- The CRC-16 of polynomial x^16 + x^15 + x^2 + 1, the lowest bit of each byte first, start value 0: the remainder of the
-- bits of a text, taken one at a time.
use Rattle.std.specs.Prelude.{ℕ, zero, suc, ◌/◌, ◌%◌, ◌==◌, if◌then◌else◌, bit_xor, List, fold}

-- One bit falls out at the low end. Where it is 1, the polynomial, 0xA001 with its highest power at the low end, is taken off what is left.
unfoldable pub crc_bit : ℕ → ℕ
crc_bit n = if n % 2 == 1 then bit_xor (n / 2) 0xA001 else n / 2

-- So many bits, one after another.
unfoldable pub crc_bits : ℕ → ℕ → ℕ
crc_bits zero n = n
crc_bits (suc k) n = crc_bits k (crc_bit n)

-- One byte: it is combined into the low eight bits, and these fall out.
unfoldable pub crc_step : ℕ → ℕ → ℕ
crc_step check byte = crc_bits 8 (bit_xor check byte)

-- The check after further bytes, from the check of those before them.
abbrev pub crc_from : ℕ → List ℕ → ℕ
crc_from start bytes = fold crc_step start bytes

-- The check of the bytes.
abbrev pub crc_of : List ℕ → ℕ
crc_of bytes = crc_from 0 bytes
