-- The control bytes of a line, as ASCII has them, and the bytes of a text.
use Rattle.std.specs.Prelude.{ℕ, Bool, not, ◌||◌, ◌==◌}
use Rattle.std.specs.Int.{is_in_range}

-- begins a header
abbrev pub soh : ℕ
soh = 0x01

-- begins the text of a block
abbrev pub stx : ℕ
stx = 0x02

-- ends the text of a header or of the last block
abbrev pub etx : ℕ
etx = 0x03

-- ends a turn
abbrev pub eot : ℕ
eot = 0x04

-- asks for the line
abbrev pub enq : ℕ
enq = 0x05

-- marks a control byte behind it
abbrev pub dle : ℕ
dle = 0x10

-- asks for a frame again
abbrev pub nak : ℕ
nak = 0x15

-- ends the text of a block that others follow
abbrev pub etb : ℕ
etb = 0x17

abbrev pub carriage_return : ℕ
carriage_return = 0x0D

abbrev pub line_feed : ℕ
line_feed = 0x0A

-- a printable character, CR or LF
unfoldable pub is_text : ℕ → Bool
is_text b = is_in_range 0x20 0x7E b || b == carriage_return || b == line_feed

abbrev pub is_no_text : ℕ → Bool
is_no_text b = not (is_text b)

-- what may stand behind the id of a segment: `*` or its terminator
abbrev pub ends_id : ℕ → Bool
ends_id b = b == 0x2A || b == carriage_return || b == line_feed
