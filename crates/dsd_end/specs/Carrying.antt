-- A carried set: where a set that is taken comes from.
use Rattle.std.specs.Prelude.{◌≡◌, ℕ, Bool, List, [], ◌∷◌, ◌++◌, map, ⊤}
use Rattle.std.specs.List.{concat}
use Rattle.dex_line.specs.Occurrence.{OccursBetween}
use Rattle.segments.specs.SegmentSpelling.{SpellsSegments}
use Rattle.segments.specs.Views.{Seg}

-- the texts of blocks, each of which has its text and its mark
abbrev pub texts_in : List (List ℕ × Bool) → List (List ℕ)
texts_in blocks = map (λ (block : List ℕ × Bool). block.0) blocks

-- data blocks that occur in the bytes, each behind the one before it
abbrev pub OccurInOrder : List (List ℕ × Bool) → List ℕ → Type 0
OccurInOrder [] bytes = ⊤
OccurInOrder (block ∷ more) bytes =
    (front : List ℕ) × (back : List ℕ) × OccursBetween front back block.1 block.0 bytes × OccurInOrder more back

-- The set stands in the join of the texts of some blocks that occur in these bytes, taken in the order in which they occur
-- there, and whole segments stand before it. So its segments are segments of the join, one behind another.
pub record Carried (bytes set : List ℕ) : Type 0 where
  pub blocks : List (List ℕ × Bool)
  pub occur : OccurInOrder blocks bytes
  pub before : List ℕ
  pub rest : List ℕ
  pub joined : concat (texts_in blocks) ≡ before ++ (set ++ rest)
  pub segments : List Seg
  pub spelled : SpellsSegments 0 segments before
