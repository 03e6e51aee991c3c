-- Where the spelling of a data block stands in the bytes of a line.
use Rattle.std.specs.Prelude.{◌≡◌, ◌⊎◌, ℕ, ◌-◌, Bool, List, [], ◌∷◌, ◌++◌}
use Rattle.std.specs.List.{concat}
use Rattle.dex_line.specs.FrameShapes.{FrameShape, Block}
use Rattle.dex_line.specs.FrameSpelling.{IsSpoken, IsTextOf, spelling}
use Rattle.dex_line.specs.declared.frame.Opened.TheVariants as opens

-- a text that a block may have
abbrev pub IsBlockText : List ℕ → Type 0
IsBlockText text = IsTextOf opens.Block text

-- the spelling of this data block is a piece of the bytes, with these bytes before and behind it
abbrev pub OccursBetween : List ℕ → List ℕ → Bool → List ℕ → List ℕ → Type 0
OccursBetween front back last text bytes =
    IsBlockText text × (bytes ≡ front ++ (spelling (Block last text) ++ back))

-- the spelling of this data block is a piece of the bytes
abbrev pub Occurs : Bool → List ℕ → List ℕ → Type 0
Occurs last text bytes = (front : List ℕ) × (back : List ℕ) × OccursBetween front back last text bytes

-- ---- bytes that were said: frames, each whole or with its last byte inverted

-- the last byte inverted, as a byte that was hurt on its way
abbrev pub broken : List ℕ → List ℕ
broken [] = []
broken (b ∷ []) = (255 - b) ∷ []
broken (b ∷ c ∷ more) = b ∷ broken (c ∷ more)

-- a frame that was said, whole or with its last byte inverted
abbrev pub IsItem : List ℕ → Type 0
IsItem item = (shape : FrameShape) × IsSpoken shape × ((item ≡ spelling shape) ⊎ (item ≡ broken (spelling shape)))

abbrev pub AreItems : List (List ℕ) → Type 0
AreItems [] = Unit {0}
AreItems (item ∷ more) = IsItem item × AreItems more

-- a frame that was said in part, or not at all
abbrev pub IsCutShort : List ℕ → Type 0
IsCutShort cut = (shape : FrameShape) × (b : ℕ) × (more : List ℕ) × IsSpoken shape × (spelling shape ≡ cut ++ b ∷ more)

-- the piece is one whole item, with the items before and behind it
abbrev pub IsOneItem : List (List ℕ) → List ℕ → List ℕ → List ℕ → Type 0
IsOneItem items front piece back =
    (before : List (List ℕ)) × (after : List (List ℕ)) × (items ≡ before ++ piece ∷ after) × (front ≡ concat before) × (back ≡ concat after)
