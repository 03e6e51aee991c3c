-- What captured frames cover, and frames that were said one after another.
use Rattle.std.proofs.Common.{◌≡◌, ℕ, ◌+◌, Bool, true, false, ◌||◌, List, [], ◌∷◌, ◌++◌, length, refl, sym, ◌∙◌, ap, append_assoc}
use Rattle.std.specs.List.{flat_map, list_any}
use Rattle.dex_line.specs.FrameShapes.{FrameShape, Enq, Ack0, Ack1, Nak, Eot, Header, Block, Damaged, Bad}
use Rattle.dex_line.specs.FrameSpelling.{IsSpoken, spelling}
use Rattle.dex_line.specs.Hearing.{AreSpoken}
use Rattle.dex_line.specs.Captured.{IsFirstFrame, FramesIn, IsCoveredBy, is_refused, left_behind, with_places, frames_from}
use Rattle.dex_line.proofs.Spoken.{said}
use Rattle.dex_line.proofs.Captures.{frames_on, frames_one, frames_only}

-- ---- frames that were said

-- a frame that is said first is the first frame
first_said : (shape : FrameShape) (rest : List ℕ) → IsSpoken shape
    → IsFirstFrame shape (spelling shape ++ rest) (left_behind shape rest)
first_said Enq rest s = (spelling Enq, said Enq s, refl)
first_said Ack0 rest s = (spelling Ack0, said Ack0 s, refl)
first_said Ack1 rest s = (spelling Ack1, said Ack1 s, refl)
first_said Nak rest s = (spelling Nak, said Nak s, refl)
first_said Eot rest s = (spelling Eot, said Eot s, refl)
first_said (Header text) rest s = (spelling (Header text), said (Header text) s, refl)
first_said (Block last text) rest s = (spelling (Block last text), said (Block last text) s, refl)
first_said Damaged rest s = absurd s
first_said Bad rest s = absurd s

-- frames that are said one after another are the frames of their spellings
frames_said : (shapes : List FrameShape) (place : ℕ) → AreSpoken shapes
    → FramesIn place (flat_map spelling shapes) (with_places place shapes)
frames_said [] place a = refl
frames_said (shape ∷ shapes) place a =
    let on = frames_said shapes (place + length (spelling shape)) a.1 in
    frames_on (is_refused shape) shape place (spelling shape ++ flat_map spelling shapes) (flat_map spelling shapes) (with_places (place + length (spelling shape)) shapes)
    (first_said shape (flat_map spelling shapes) a.0) on

-- and a scanner finds them
pub said_captured : (shapes : List FrameShape) → AreSpoken shapes
    → frames_from 0 (flat_map spelling shapes) ≡ with_places 0 shapes
said_captured shapes a =
    sym (frames_only 0 (flat_map spelling shapes) (with_places 0 shapes) (frames_said shapes 0 a))

-- ---- what frames cover

-- behind a frame that is not refused, and behind one that is
record Parts (shape : FrameShape) (bytes left : List ℕ) : Type 0 where
  fine : is_refused shape ≡ false → bytes ≡ spelling shape ++ left
  refused : is_refused shape ≡ true → (spelling shape ≡ []) × (left ≡ [])

-- a first frame is cut off the bytes, or ends the reading
parts_of : (shape : FrameShape) (bytes left : List ℕ) → IsFirstFrame shape bytes left → Parts shape bytes left
parts_of Enq bytes left (piece, s, e) = record { fine = λ n. e ∙ ap (λ l. l ++ left) s.1; refused = λ n. absurd (cc) }
parts_of Ack0 bytes left (piece, s, e) = record { fine = λ n. e ∙ ap (λ l. l ++ left) s.1; refused = λ n. absurd (cc) }
parts_of Ack1 bytes left (piece, s, e) = record { fine = λ n. e ∙ ap (λ l. l ++ left) s.1; refused = λ n. absurd (cc) }
parts_of Nak bytes left (piece, s, e) = record { fine = λ n. e ∙ ap (λ l. l ++ left) s.1; refused = λ n. absurd (cc) }
parts_of Eot bytes left (piece, s, e) = record { fine = λ n. e ∙ ap (λ l. l ++ left) s.1; refused = λ n. absurd (cc) }
parts_of (Header text) bytes left (piece, s, e) = record { fine = λ n. e ∙ ap (λ l. l ++ left) s.1; refused = λ n. absurd (cc) }
parts_of (Block last text) bytes left (piece, s, e) = record { fine = λ n. e ∙ ap (λ l. l ++ left) s.1; refused = λ n. absurd (cc) }
parts_of Damaged bytes left f = record { fine = λ n. absurd (cc); refused = λ n. (refl, f.1) }
parts_of Bad bytes left f = record { fine = λ n. absurd (cc); refused = λ n. (refl, f.2) }

any_first : (a b : Bool) → (a || b) ≡ false → (a ≡ false) × (b ≡ false)
any_first true b h = absurd (cc)
any_first false b h = (refl, h)

-- the join of the spellings
abbrev flat : List (ℕ × FrameShape) → List ℕ
flat frames = flat_map (λ (frame : ℕ × FrameShape). spelling frame.1) frames

-- whether some frame is refused
abbrev any_refused : List (ℕ × FrameShape) → Bool
any_refused frames = list_any (λ (frame : ℕ × FrameShape). is_refused frame.1) frames

-- one frame more in front
covered_on : (refused : Bool) (place at : ℕ) (shape : FrameShape) (bytes left : List ℕ) (more : List (ℕ × FrameShape))
    → is_refused shape ≡ refused → Parts shape bytes left → FramesIn place left more → IsCoveredBy left more
    → IsCoveredBy bytes ((at, shape) ∷ more)
covered_on true place at shape bytes left more is p on c =
    let (none, nothing) = p.refused is in
    let last : more ≡ [] = frames_one more [] place left on nothing in
    record {
      rest = bytes;
      joined = sym (ap (λ l. (l ++ flat more) ++ bytes) none ∙ ap (λ l. flat l ++ bytes) last);
      whole = λ h. absurd (let clash = any_first (is_refused shape) (any_refused more) h in let first = clash.0 in cc);
    }
covered_on false place at shape bytes left more is p on c = record {
  rest = c.rest;
  joined = p.fine is ∙ ap (λ l. spelling shape ++ l) c.joined ∙ sym (append_assoc (spelling shape) (flat more) c.rest);
  whole = λ h. c.whole (any_first (is_refused shape) (any_refused more) h).1;
}

-- the frames cover the bytes up to the one that is refused
pub frames_cover : (frames : List (ℕ × FrameShape)) (place : ℕ) (bytes : List ℕ) → FramesIn place bytes frames
    → IsCoveredBy bytes frames
frames_cover [] place bytes none = record { rest = []; joined = none; whole = λ h. refl }
frames_cover ((p, shape) ∷ more) place bytes (at, left, first, on) =
    covered_on (is_refused shape) (place + length (spelling shape)) p shape bytes left more refl (parts_of shape bytes left first) on
    (frames_cover more (place + length (spelling shape)) left on)
