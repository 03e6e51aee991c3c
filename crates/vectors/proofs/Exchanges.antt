-- Exchanges over a wire, computed from the state table.
use Rattle.std.proofs.Common.{◌≡◌, [], ◌∷◌, codes, true, refl}
use Rattle.dsd_values.specs.declared.role.Role.TheVariants.{Supplier}
use Rattle.dex_line.specs.FrameShapes.{Enq, Ack0, Ack1, Nak, Eot, Header, Block, Damaged}
use Rattle.dex_line.specs.TextUnits.{lines_of, paired, units_of}
use Rattle.dex_handshake.specs.Wire.{first_wire, flights, Damage, Deliver, Lose, QuietAt}

pub clean : flights (first_wire (codes "HH00000001") (codes "RR00000001") (codes "RR00000001") (codes "HH00000001") (codes "A" ∷ [] ∷ []) (codes "B" ∷ [] ∷ []))
    (Deliver ∷ Deliver ∷ Deliver ∷ Deliver ∷ Deliver ∷ Deliver ∷ Deliver ∷ Deliver ∷ Deliver ∷ Deliver ∷ Deliver ∷ Deliver ∷ Deliver ∷ Deliver ∷ Deliver ∷ Deliver ∷ Deliver ∷ Deliver ∷ Deliver ∷ Deliver ∷ Deliver ∷ Deliver ∷ Deliver ∷ Deliver ∷ Deliver ∷ Deliver ∷ [])
    ≡ Enq ∷ Ack0 ∷ Header (codes "HH00000001SR01L01") ∷ Ack1 ∷ Eot ∷ Enq ∷ Ack0 ∷ Header (codes "00RR00000001R01L01") ∷ Ack1 ∷ Eot ∷ Enq ∷ Ack0 ∷ Block true (codes "A") ∷ Ack1 ∷ Eot ∷ Enq ∷ Ack0 ∷ Block true (codes "B") ∷ Ack1 ∷ Eot ∷ Enq ∷ Ack0 ∷ Eot ∷ Enq ∷ Ack0 ∷ Eot ∷ []
unfolding lines_of paired units_of
clean = refl

pub broken : flights (first_wire (codes "HH00000001") (codes "RR00000001") (codes "RR00000001") (codes "HH00000001") (codes "A" ∷ []) ([]))
    (Deliver ∷ Deliver ∷ Deliver ∷ Deliver ∷ Deliver ∷ Deliver ∷ Deliver ∷ Deliver ∷ Deliver ∷ Deliver ∷ Deliver ∷ Deliver ∷ Damage ∷ Deliver ∷ Deliver ∷ Deliver ∷ Deliver ∷ [])
    ≡ Enq ∷ Ack0 ∷ Header (codes "HH00000001SR01L01") ∷ Ack1 ∷ Eot ∷ Enq ∷ Ack0 ∷ Header (codes "00RR00000001R01L01") ∷ Ack1 ∷ Eot ∷ Enq ∷ Ack0 ∷ Block true (codes "A") ∷ Damaged ∷ Nak ∷ Block true (codes "A") ∷ Ack1 ∷ Eot ∷ []
unfolding lines_of paired units_of
broken = refl

pub lost : flights (first_wire (codes "HH00000001") (codes "RR00000001") (codes "RR00000001") (codes "HH00000001") (codes "A" ∷ []) ([]))
    (Deliver ∷ Deliver ∷ Deliver ∷ Deliver ∷ Deliver ∷ Deliver ∷ Deliver ∷ Deliver ∷ Deliver ∷ Deliver ∷ Deliver ∷ Deliver ∷ Deliver ∷ Lose ∷ QuietAt Supplier ∷ Deliver ∷ Deliver ∷ [])
    ≡ Enq ∷ Ack0 ∷ Header (codes "HH00000001SR01L01") ∷ Ack1 ∷ Eot ∷ Enq ∷ Ack0 ∷ Header (codes "00RR00000001R01L01") ∷ Ack1 ∷ Eot ∷ Enq ∷ Ack0 ∷ Block true (codes "A") ∷ Ack1 ∷ Enq ∷ Ack1 ∷ Eot ∷ []
unfolding lines_of paired units_of
lost = refl
