-- Bytes that a source gives and a taker holds.
use Rattle.std.proofs.Common.{◌≡◌, ℕ, ◌+◌, ◌-◌, ◌<◌, ◌≤◌, List, ◌++◌, Option, arith, length, length-append, append_assoc, subst, sym}
use Rattle.std.proofs.KnownBytes.{Consumes-trans}
use Rattle.std.specs.Io.KnownBytes.{Consumes}
use Rattle.dsd_station.specs.Causes.{TakesUpTo}
use Rattle.dsd_station.specs.Pieces.{HoldsMore}

-- the bytes so far, of which with the room that is left there are as many as the limit
pub record HandsOn {T : Type 0} (holds : T → List ℕ → Type 0) (limit room : ℕ) (a b : Option (List ℕ)) (old new : T) : Type 0 where
  pub bytes : List ℕ
  pub few : length bytes + room ≡ limit
  pub taken : Consumes a b bytes
  pub held : HoldsMore holds old new bytes

-- a piece more
pub one_more : {T : Type 0} (holds : T → List ℕ → Type 0) (limit room count : ℕ) (a b c : Option (List ℕ)) (old mid new : T) → HandsOn holds limit room a b old mid
    → count ≤ room → (piece : List ℕ) → length piece ≡ count → Consumes b c piece → HoldsMore holds mid new piece → HandsOn holds limit (room - count) a c old new
one_more holds limit room count a b c old mid new so_far most piece long taken held = record {
  bytes = so_far.bytes ++ piece;
  few = omega (arith, length-append so_far.bytes piece, so_far.few, most, long);
  taken = Consumes-trans a b c so_far.bytes piece so_far.taken taken;
  held = λ before is. subst (λ l. holds new l) (append_assoc before so_far.bytes piece) (held (before ++ so_far.bytes) (so_far.held before is));
}

-- some bytes more, which may not be handed on
pub takes_behind : {T : Type 0} (holds : T → List ℕ → Type 0) (limit room : ℕ) (a b c : Option (List ℕ)) (old new : T) → HandsOn holds limit room a b old new → TakesUpTo room b c → TakesUpTo limit a c
takes_behind holds limit room a b c old new so_far (piece, most, taken) =
    (so_far.bytes ++ piece, omega (arith, length-append so_far.bytes piece, so_far.few, most), Consumes-trans a b c so_far.bytes piece so_far.taken taken)
