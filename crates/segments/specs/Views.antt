-- What contracts see of a segment, and of a reader of segments.
use Rattle.std.specs.Prelude.{ℕ, Bool, List, []}
use Rattle.std.specs.List.{slice_index_or}
use Rattle.std.specs.Str.{bytes_eq}

-- where a segment starts, its bytes with the terminator, and its id and elements; all as they stand in the text
pub record Seg : Type 0 where
  pub start : ℕ
  pub bytes : List ℕ
  pub parts : List (List ℕ)

-- what is left of a text, and the place at which it starts
pub record Left : Type 0 where
  pub rest : List ℕ
  pub place : ℕ

-- the id has number 0, the elements begin at 1, and an element past the last is empty
abbrev pub element_of : Seg → ℕ → List ℕ
element_of seg number = slice_index_or seg.parts number []

-- the segment has this id
abbrev pub has_id : Seg → List ℕ → Bool
has_id seg id = bytes_eq (element_of seg 0) id
