-- A step of one byte or of eight goes by what each byte leaves.
use Rattle.std.proofs.Common.{◌≡◌, ℕ, zero, suc, ◌+◌, ◌*◌, ◌/◌, ◌%◌, ◌^◌, ◌<◌, cond, nat_eq, bit_and, bit_xor, List, [], ◌∷◌, length, take, drop, get_or, refl, sym, ◌∙◌, ap, drop-drop, take-append-drop, arith}
use Rattle.std.specs.List.{fold}
use Rattle.std.specs.Simd.{first_chunks}
use Rattle.std.specs.Int.Bits.{xor_zero_r, xor_self, xor_assoc, xor_shifted, shifted_even, shifted_half, xor_comm, xor_shr, xor_mod}
use Rattle.std.proofs.lemmas.Nat.{and_mask}
use Rattle.std.proofs.lemmas.List.Sums.{fold-append}
use Rattle.block_check.specs.Crc16.{crc_bit, crc_bits, crc_step, crc_from}

swap_middle : (a b c d : ℕ) → bit_xor (bit_xor a b) (bit_xor c d) ≡ bit_xor (bit_xor a c) (bit_xor b d)
swap_middle a b c d =
    let e1 = xor_assoc a b (bit_xor c d) in
    let e2 = xor_assoc b c d in
    let e3 = xor_assoc c b d in
    let e4 = xor_comm b c in
    let e5 = xor_assoc a c (bit_xor b d) in
    cc

-- a bit of two values combined is the bits of each, combined
halves : (x y p q : ℕ) → p < 2 → q < 2 → cond (nat_eq (bit_xor p q) 1) (bit_xor (bit_xor x y) 0xA001) (bit_xor x y) ≡ bit_xor (cond (nat_eq p 1) (bit_xor x 0xA001) x) (cond (nat_eq q 1) (bit_xor y 0xA001) y)
halves x y zero zero hp hq = refl
halves x y zero (suc zero) hp hq = xor_assoc x y 0xA001
halves x y (suc zero) zero hp hq =
    let e1 = xor_assoc x y 0xA001 in
    let e2 = xor_assoc x 0xA001 y in
    let e3 = xor_comm y 0xA001 in
    cc
halves x y (suc zero) (suc zero) hp hq =
    let e1 = swap_middle x 0xA001 y 0xA001 in
    let e2 = xor_self 0xA001 in
    let e3 = xor_zero_r (bit_xor x y) in
    cc
halves x y (suc (suc p)) q hp hq = absurd (omega arith)
halves x y p (suc (suc q)) hp hq = absurd (omega arith)

crc_bit-xor : (a b : ℕ) → crc_bit (bit_xor a b) ≡ bit_xor (crc_bit a) (crc_bit b)
unfolding crc_bit
crc_bit-xor a b = rw (xor_mod a b 1, xor_shr a b 1) (halves (a / 2) (b / 2) (a % 2) (b % 2) (omega arith) (omega arith))

crc_bits-xor : (k a b : ℕ) → crc_bits k (bit_xor a b) ≡ bit_xor (crc_bits k a) (crc_bits k b)
unfolding crc_bits
crc_bits-xor zero a b = refl
crc_bits-xor (suc k) a b = rw (crc_bit-xor a b) (crc_bits-xor k (crc_bit a) (crc_bit b))

-- bits above the lowest k only move down
crc_bits-shifted : (k h : ℕ) → crc_bits k (h * 2 ^ k) ≡ h
unfolding crc_bits crc_bit
crc_bits-shifted zero h = omega arith
crc_bits-shifted (suc k) h = rw (shifted_even h k, shifted_half h k) (crc_bits-shifted k h)

-- the high byte of a check moves down where the eight bits of the low byte fall out
pub step_by_byte : (check byte : ℕ) → check < 2 ^ 16 → byte < 2 ^ 8 → bit_xor (check / 256) (crc_bits 8 (bit_xor (bit_and check 255) byte)) ≡ crc_step check byte
unfolding crc_step
step_by_byte check byte hc hb =
    let low : ℕ = bit_xor (check % 256) byte in
    let high : ℕ = check / 256 in
    let e1 : bit_and check 255 ≡ check % 256 = and_mask check 8 in
    let e2 : bit_xor (high * 2 ^ 8) (check % 256) ≡ high * 2 ^ 8 + check % 256 = xor_shifted high 8 (check % 256) (omega arith) in
    let e3 : high * 2 ^ 8 + check % 256 ≡ check = omega arith in
    let e4 = xor_assoc (high * 2 ^ 8) (check % 256) byte in
    let e5 = crc_bits-xor 8 (high * 2 ^ 8) low in
    let e6 = crc_bits-shifted 8 high in
    cc

-- the bits of a byte and of the bytes behind it, one after another
crc_bits-after : (j k n : ℕ) → crc_bits k (crc_bits j n) ≡ crc_bits (j + k) n
unfolding crc_bits
crc_bits-after zero k n =
    let e : k ≡ 0 + k = omega arith in
    ap (λ (m : ℕ). crc_bits m n) e
crc_bits-after (suc j) k n =
    let e : suc j + k ≡ suc (j + k) = omega arith in
    crc_bits-after j k (crc_bit n) ∙ sym (ap (λ (m : ℕ). crc_bits m n) e)

eight_more : (l n : ℕ) → crc_bits (8 * l) (crc_bits 8 n) ≡ crc_bits (8 * suc l) n
eight_more l n =
    let e : 8 + 8 * l ≡ 8 * suc l = omega arith in
    crc_bits-after 8 (8 * l) n ∙ ap (λ (k : ℕ). crc_bits k n) e

-- what is combined into a check goes through the bytes behind it by itself
from_xor : (x y : ℕ) (zs : List ℕ) → crc_from (bit_xor x y) zs ≡ bit_xor (crc_bits (8 * length zs) x) (crc_from y zs)
unfolding crc_step crc_bits
from_xor x y [] = refl
from_xor x y (z ∷ zs) =
    let e1 : crc_bits 8 (bit_xor (bit_xor x y) z) ≡ bit_xor (crc_bits 8 x) (crc_bits 8 (bit_xor y z)) = ap (crc_bits 8) (xor_assoc x y z) ∙ crc_bits-xor 8 x (bit_xor y z) in
    let e2 = from_xor (crc_bits 8 x) (crc_bits 8 (bit_xor y z)) zs in
    let e3 = eight_more (length zs) x in
    ap (λ n. crc_from n zs) e1 ∙ e2 ∙ ap (λ n. bit_xor n (crc_from (crc_bits 8 (bit_xor y z)) zs)) e3

-- the first byte of a text and the check before it
first_of : (check byte : ℕ) (zs : List ℕ) → check < 2 ^ 16 → byte < 2 ^ 8 → crc_from check (byte ∷ zs) ≡ bit_xor (crc_bits (8 * suc (length zs)) (bit_xor (bit_and check 255) byte)) (crc_from (check / 256) zs)
first_of check byte zs hc hb =
    let low : ℕ = bit_xor (bit_and check 255) byte in
    let e1 : crc_step check byte ≡ bit_xor (crc_bits 8 low) (check / 256) = sym (step_by_byte check byte hc hb) ∙ xor_comm (check / 256) (crc_bits 8 low) in
    ap (λ n. crc_from n zs) e1 ∙ from_xor (crc_bits 8 low) (check / 256) zs ∙ ap (λ n. bit_xor n (crc_from (check / 256) zs)) (eight_more (length zs) low)

-- the next byte of a text, where p is what stands before it left
next_of : (p n byte : ℕ) (zs : List ℕ) → bit_xor p (crc_from n (byte ∷ zs)) ≡ bit_xor (bit_xor p (crc_bits (8 * suc (length zs)) (bit_xor n byte))) (crc_from 0 zs)
unfolding crc_step
next_of p n byte zs =
    let x : ℕ = crc_bits 8 (bit_xor n byte) in
    let e1 : x ≡ bit_xor x 0 = sym (xor_zero_r x) in
    let e2 : crc_from x zs ≡ bit_xor (crc_bits (8 * length zs) x) (crc_from 0 zs) = ap (λ m. crc_from m zs) e1 ∙ from_xor x 0 zs in
    let e3 = eight_more (length zs) (bit_xor n byte) in
    let e4 = xor_assoc p (crc_bits (8 * suc (length zs)) (bit_xor n byte)) (crc_from 0 zs) in
    ap (bit_xor p) (e2 ∙ ap (λ m. bit_xor m (crc_from 0 zs)) e3) ∙ sym e4

pub step_by_eight : (check a b c d e f g h : ℕ) → check < 2 ^ 16 → a < 2 ^ 8
    → bit_xor (bit_xor (bit_xor (bit_xor (bit_xor (bit_xor (bit_xor (crc_bits 64 (bit_xor (bit_and check 255) a)) (crc_bits 56 (bit_xor (check / 256) b))) (crc_bits 48 c)) (crc_bits 40 d)) (crc_bits 32 e)) (crc_bits 24 f)) (crc_bits 16 g)) (crc_bits 8 h)
    ≡ crc_from check (a ∷ b ∷ c ∷ d ∷ e ∷ f ∷ g ∷ h ∷ [])
step_by_eight check a b c d e f g h hc ha =
    let p7 : ℕ = crc_bits 64 (bit_xor (bit_and check 255) a) in
    let p6 : ℕ = bit_xor p7 (crc_bits 56 (bit_xor (check / 256) b)) in
    let p5 : ℕ = bit_xor p6 (crc_bits 48 c) in
    let p4 : ℕ = bit_xor p5 (crc_bits 40 d) in
    let p3 : ℕ = bit_xor p4 (crc_bits 32 e) in
    let p2 : ℕ = bit_xor p3 (crc_bits 24 f) in
    let p1 : ℕ = bit_xor p2 (crc_bits 16 g) in
    let p0 : ℕ = bit_xor p1 (crc_bits 8 h) in
    sym (first_of check a (b ∷ c ∷ d ∷ e ∷ f ∷ g ∷ h ∷ []) hc ha
    ∙ next_of p7 (check / 256) b (c ∷ d ∷ e ∷ f ∷ g ∷ h ∷ [])
    ∙ next_of p6 0 c (d ∷ e ∷ f ∷ g ∷ h ∷ [])
    ∙ next_of p5 0 d (e ∷ f ∷ g ∷ h ∷ [])
    ∙ next_of p4 0 e (f ∷ g ∷ h ∷ [])
    ∙ next_of p3 0 f (g ∷ h ∷ [])
    ∙ next_of p2 0 g (h ∷ [])
    ∙ next_of p1 0 h []
    ∙ xor_zero_r p0)

-- a list of eight is its eight elements
eight_elements : (xs : List ℕ) → length xs ≡ 8
    → xs ≡ get_or xs 0 0 ∷ get_or xs 1 0 ∷ get_or xs 2 0 ∷ get_or xs 3 0 ∷ get_or xs 4 0 ∷ get_or xs 5 0 ∷ get_or xs 6 0 ∷ get_or xs 7 0 ∷ []
eight_elements [] l = absurd (omega arith)
eight_elements (a ∷ []) l = absurd (omega arith)
eight_elements (a ∷ b ∷ []) l = absurd (omega arith)
eight_elements (a ∷ b ∷ c ∷ []) l = absurd (omega arith)
eight_elements (a ∷ b ∷ c ∷ d ∷ []) l = absurd (omega arith)
eight_elements (a ∷ b ∷ c ∷ d ∷ e ∷ []) l = absurd (omega arith)
eight_elements (a ∷ b ∷ c ∷ d ∷ e ∷ f ∷ []) l = absurd (omega arith)
eight_elements (a ∷ b ∷ c ∷ d ∷ e ∷ f ∷ g ∷ []) l = absurd (omega arith)
eight_elements (a ∷ b ∷ c ∷ d ∷ e ∷ f ∷ g ∷ h ∷ []) l = refl
eight_elements (a ∷ b ∷ c ∷ d ∷ e ∷ f ∷ g ∷ h ∷ x ∷ xs) l = absurd (omega arith)

pub step_by_list : (check : ℕ) (xs : List ℕ) → check < 2 ^ 16 → length xs ≡ 8 → get_or xs 0 0 < 2 ^ 8
    → bit_xor (bit_xor (bit_xor (bit_xor (bit_xor (bit_xor (bit_xor (crc_bits 64 (bit_xor (bit_and check 255) (get_or xs 0 0))) (crc_bits 56 (bit_xor (check / 256) (get_or xs 1 0)))) (crc_bits 48 (get_or xs 2 0))) (crc_bits 40 (get_or xs 3 0))) (crc_bits 32 (get_or xs 4 0))) (crc_bits 24 (get_or xs 5 0))) (crc_bits 16 (get_or xs 6 0))) (crc_bits 8 (get_or xs 7 0))
    ≡ crc_from check xs
step_by_list check xs hc l ha =
    step_by_eight check (get_or xs 0 0) (get_or xs 1 0) (get_or xs 2 0) (get_or xs 3 0) (get_or xs 4 0) (get_or xs 5 0) (get_or xs 6 0) (get_or xs 7 0) hc ha
    ∙ ap (crc_from check) (sym (eight_elements xs l))

-- eight at a step, and one at a step what is left, is one at a step all along
pub by_chunks : (n k start : ℕ) (zs : List ℕ) → fold crc_step (fold crc_from start (first_chunks n k zs)) (drop (k * n) zs) ≡ fold crc_step start zs
by_chunks n zero start zs =
    let e : 0 * n ≡ 0 = omega arith in
    ap (λ (m : ℕ). fold crc_step start (drop m zs)) e
by_chunks n (suc k) start zs =
    let e1 : suc k * n ≡ n + k * n = omega arith in
    let e2 : drop (suc k * n) zs ≡ drop (k * n) (drop n zs) = ap (λ (m : ℕ). drop m zs) e1 ∙ sym (drop-drop (k * n) n zs) in
    let next : ℕ = crc_from start (take n zs) in
    ap (fold crc_step (fold crc_from next (first_chunks n k (drop n zs)))) e2
    ∙ by_chunks n k next (drop n zs)
    ∙ sym (fold-append crc_step start (take n zs) (drop n zs))
    ∙ ap (fold crc_step start) (take-append-drop n zs)
