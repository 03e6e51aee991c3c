-- Bytes that are scanned are pieces, each answered by a frame, and what has begun behind them.
use Rattle.std.proofs.Common.{◌≡◌, ℕ, List, [], ◌∷◌, ◌++◌, Option, Some, None, refl, sym, ◌∙◌, ap, append_assoc, append-nil}
use Rattle.std.specs.Prelude.{⊤}
use Rattle.std.specs.List.{concat}
use Rattle.dex_line.specs.FrameShapes.{FrameShape}
use Rattle.dex_line.specs.Judging.{judge}
use Rattle.dex_line.specs.Hearing.{Hearing, after_answer, hear_all, hearing}

-- each piece is judged to be its frame
abbrev pub ArePieces : List (List ℕ) → List FrameShape → Type 0
ArePieces [] [] = ⊤
ArePieces [] (frame ∷ frames) = ⊥
ArePieces (piece ∷ pieces) [] = ⊥
ArePieces (piece ∷ pieces) (frame ∷ frames) = (judge piece ≡ Some frame) × ArePieces pieces frames

-- what has begun and the bytes are pieces, each answered by its frame, and what has begun behind them
pub record Parted (begun bytes : List ℕ) (h : Hearing) (before : List FrameShape) : Type 0 where
  pub frames : List FrameShape
  pub pieces : List (List ℕ)
  pub shapes : h.shapes ≡ before ++ frames
  pub are : ArePieces pieces frames
  pub joined : begun ++ bytes ≡ concat pieces ++ h.begun

step_parted : (b : ℕ) (bytes begun : List ℕ) (before : List FrameShape) (o : Option FrameShape) → judge (begun ++ b ∷ []) ≡ o
    → Parted (begun ++ b ∷ []) bytes (hear_all (hearing (begun ++ b ∷ []) before) bytes) before
    → ((frame : FrameShape) → Parted [] bytes (hear_all (hearing [] (before ++ frame ∷ [])) bytes) (before ++ frame ∷ []))
    → Parted begun (b ∷ bytes) (hear_all (after_answer before (begun ++ b ∷ []) o) bytes) before
step_parted b bytes begun before None e p q = record {
  frames = p.frames;
  pieces = p.pieces;
  shapes = p.shapes;
  are = p.are;
  joined = sym (append_assoc begun (b ∷ []) bytes) ∙ p.joined;
}
step_parted b bytes begun before (Some frame) e p q =
    let r = q frame in
    record {
      frames = frame ∷ r.frames;
      pieces = (begun ++ b ∷ []) ∷ r.pieces;
      shapes = r.shapes ∙ append_assoc before (frame ∷ []) r.frames;
      are = (e, r.are);
      joined = sym (append_assoc begun (b ∷ []) bytes) ∙ ap (λ (l : List ℕ). (begun ++ b ∷ []) ++ l) r.joined
          ∙ sym (append_assoc (begun ++ b ∷ []) (concat r.pieces) (hear_all (hearing [] (before ++ frame ∷ [])) bytes).begun);
    }

pub parted : (bytes begun : List ℕ) (before : List FrameShape) → Parted begun bytes (hear_all (hearing begun before) bytes) before
parted [] begun before = record { frames = []; pieces = []; shapes = sym (append-nil before); are = tt; joined = append-nil begun }
parted (b ∷ bytes) begun before =
    step_parted b bytes begun before (judge (begun ++ b ∷ [])) refl (parted bytes (begun ++ b ∷ []) before) (λ frame. parted bytes [] (before ++ frame ∷ []))
