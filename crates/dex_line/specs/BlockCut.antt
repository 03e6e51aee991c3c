-- A text of whole units, cut into blocks from the front, each as full as it can be.
use Rattle.std.specs.Prelude.{◌≡◌, ℕ, ◌+◌, ◌<◌, ◌≤◌, Bool, true, false, if◌then◌else◌, List, [], ◌∷◌, ◌++◌, length, take, drop, map, ⊤, nat_le}
use Rattle.std.specs.List.{concat, flat_map}
use Rattle.dex_line.specs.TextUnits.{units_of}
use Rattle.dex_line.specs.declared.cutter.TheConstants.{BLOCK_WRITTEN}

-- ---- cuts of a text; a group is the units of one block

-- so many bytes leave no room for the first of these units
abbrev pub IsFull : ℕ → ℕ → List (List ℕ) → Type 0
IsFull room size [] = ⊤
IsFull room size (unit ∷ more) = room < size + length unit

abbrev pub EachGroupFits : List (List (List ℕ)) → Type 0
EachGroupFits [] = ⊤
EachGroupFits (group ∷ more) = (length (concat group) ≤ BLOCK_WRITTEN) × EachGroupFits more

-- groups of whole units that are the text, each of which fits into a block
pub record IsCutInto (text : List ℕ) (groups : List (List (List ℕ))) : Type 0 where
  pub whole : flat_map (λ group. group) groups ≡ units_of text
  pub fits : EachGroupFits groups

-- each group has some byte, and could not take the first unit of the next one as well
abbrev pub IsGreedy : List (List (List ℕ)) → Type 0
IsGreedy [] = ⊤
IsGreedy (group ∷ more) =
    (0 < length (concat group)) × IsFull BLOCK_WRITTEN (length (concat group)) (flat_map (λ g. g) more) × IsGreedy more

-- the last block alone is marked; a block is its bytes with its mark
abbrev pub MarksLast : List (List ℕ × Bool) → Type 0
MarksLast [] = ⊤
MarksLast (block ∷ []) = block.1 ≡ true
MarksLast (block ∷ next ∷ more) = (block.1 ≡ false) × MarksLast (next ∷ more)

-- the blocks of a text
pub record CutOf (text : List ℕ) (blocks : List (List ℕ × Bool)) : Type 0 where
  pub groups : List (List (List ℕ))
  pub cut : IsCutInto text groups
  pub greedy : IsGreedy groups
  pub bytes : map (λ block. block.0) blocks ≡ map concat groups
  pub marks : MarksLast blocks

-- ---- one call of a cutter after another

-- so many bytes of the text are whole units that fill the room
pub record Fills (text : List ℕ) (room size : ℕ) : Type 0 where
  pub units : List (List ℕ)
  pub front : concat units ≡ take size text
  pub cut : units_of text ≡ units ++ units_of (drop size text)
  pub inside : size ≤ length text
  pub fits : size ≤ room
  pub full : IsFull room size (units_of (drop size text))

-- the first block of a text, and what is left behind it
pub record IsFirstBlock (text block after : List ℕ) : Type 0 where
  pub units : List (List ℕ)
  pub joined : text ≡ block ++ after
  pub front : concat units ≡ block
  pub cut : units_of text ≡ units ++ units_of after
  pub some : 0 < length block
  pub fits : length block ≤ BLOCK_WRITTEN
  pub full : IsFull BLOCK_WRITTEN (length block) (units_of after)

-- marked exactly where nothing is left
abbrev pub Marks : Bool → List ℕ → Type 0
Marks last after = (last ≡ true → after ≡ []) × (after ≡ [] → last ≡ true)

-- the blocks that so many calls give, and what is then left of the text
abbrev pub CutRun : List ℕ → List (List ℕ × Bool) → List ℕ → Type 0
CutRun text [] rest = text ≡ rest
CutRun text (block ∷ more) rest =
    (after : List ℕ) × IsFirstBlock text block.0 after × Marks block.1 after × CutRun after more rest

-- ---- the blocks as a function

-- the units behind a group that has begun, each taken while there is room
abbrev pub placed : List (List ℕ) → List (List ℕ) → List (List (List ℕ))
placed group [] = group ∷ []
placed group (unit ∷ more) =
    if nat_le (length (concat group) + length unit) BLOCK_WRITTEN
    then placed (group ++ unit ∷ []) more
    else group ∷ placed (unit ∷ []) more

abbrev pub groups_of : List (List ℕ) → List (List (List ℕ))
groups_of [] = []
groups_of (unit ∷ more) = placed (unit ∷ []) more

abbrev pub marked : List (List ℕ) → List (List ℕ × Bool)
marked [] = []
marked (block ∷ []) = (block, true) ∷ []
marked (block ∷ next ∷ more) = (block, false) ∷ marked (next ∷ more)

abbrev pub blocks_of : List ℕ → List (List ℕ × Bool)
blocks_of text = marked (map concat (groups_of (units_of text)))
