-- A load as a first block and more.
use Rattle.std.proofs.Common.{◌≡◌, ◌≢◌, ◌⊎◌, ℕ, ◌<◌, Bool, true, false, List, [], ◌∷◌, ◌++◌, length, map, refl, sym, ◌∙◌, ap, inl, inr, append-nil, arith}
use Rattle.std.specs.List.{concat}
use Rattle.dex_line.specs.BlockCut.{IsGreedy, MarksLast, CutOf, blocks_of}
use Rattle.dex_line.specs.FrameShapes.{FrameShape, Block}
use Rattle.dex_line.specs.TextUnits.{UnitsFit}
use Rattle.dex_line.proofs.Exists.{blocks_cut}
use Rattle.dex_line.proofs.Fewest.{blocks_joined}
use Rattle.dex_handshake.specs.LineRun.{frame_of_block, load_of}

-- the last one is marked
abbrev pub frames_of : List ℕ → List (List ℕ) → List FrameShape
frames_of block [] = Block true block ∷ []
frames_of block (next ∷ more) = Block false block ∷ frames_of next more

abbrev pub text_of : List ℕ → List (List ℕ) → List ℕ
text_of block [] = block
text_of block (next ∷ more) = block ++ text_of next more

abbrev pub HaveText : List ℕ → List (List ℕ) → Type 0
HaveText block [] = block ≢ []
HaveText block (next ∷ more) = (block ≢ []) × HaveText next more

pub record HasBlocks (text : List ℕ) (load : List FrameShape) : Type 0 where
  pub block : List ℕ
  pub more : List (List ℕ)
  pub frames : load ≡ frames_of block more
  pub have : HaveText block more
  pub joined : text_of block more ≡ text

abbrev bytes_of : List (List ℕ × Bool) → List (List ℕ)
bytes_of blocks = map (λ (block : List ℕ × Bool). block.0) blocks

marked_frames : (block : List ℕ × Bool) (blocks : List (List ℕ × Bool)) → MarksLast (block ∷ blocks) → map frame_of_block (block ∷ blocks) ≡ frames_of block.0 (bytes_of blocks)
marked_frames block [] marks = ap (λ (last : Bool). Block last block.0 ∷ []) marks
marked_frames block (next ∷ blocks) marks =
    ap (λ (last : Bool). Block last block.0 ∷ map frame_of_block (next ∷ blocks)) marks.0
    ∙ ap (λ (frames : List FrameShape). Block false block.0 ∷ frames) (marked_frames next blocks marks.1)

some_text : (block joined : List ℕ) → block ≡ joined → 0 < length joined → block ≢ []
some_text block joined same some none = let size : length joined ≡ 0 = ap length (sym same ∙ none) in omega (arith, size, some)

have_text : (block : List ℕ × Bool) (blocks : List (List ℕ × Bool)) (groups : List (List (List ℕ))) → bytes_of (block ∷ blocks) ≡ map concat groups → IsGreedy groups → HaveText block.0 (bytes_of blocks)
have_text block blocks [] e greedy = absurd (cc)
have_text block [] (group ∷ groups) e (some, full, greedy) = let same : block.0 ≡ concat group = cc in some_text block.0 (concat group) same some
have_text block (next ∷ blocks) (group ∷ groups) e (some, full, greedy) =
    let same : block.0 ≡ concat group = cc in
    let rest : bytes_of (next ∷ blocks) ≡ map concat groups = cc in
    (some_text block.0 (concat group) same some, have_text next blocks groups rest greedy)

text_joined : (block : List ℕ) (more : List (List ℕ)) → text_of block more ≡ concat (block ∷ more)
text_joined block [] = sym (append-nil block)
text_joined block (next ∷ more) = ap (λ (rest : List ℕ). block ++ rest) (text_joined next more)

blocks_had : (text : List ℕ) (blocks : List (List ℕ × Bool)) → CutOf text blocks → concat (bytes_of blocks) ≡ text
    → ((text ≡ []) × (map frame_of_block blocks ≡ [])) ⊎ HasBlocks text (map frame_of_block blocks)
blocks_had text [] cut joined = inl (sym joined, refl)
blocks_had text (block ∷ blocks) cut joined =
    inr (record {
      block = block.0;
      more = bytes_of blocks;
      frames = marked_frames block blocks cut.marks;
      have = have_text block blocks cut.groups cut.bytes cut.greedy;
      joined = text_joined block.0 (bytes_of blocks) ∙ joined;
    })

-- a text has no block, or a first one and more
pub load_had : (text : List ℕ) → UnitsFit text → ((text ≡ []) × (load_of text ≡ [])) ⊎ HasBlocks text (load_of text)
load_had text fit = let cut = blocks_cut text fit in blocks_had text (blocks_of text) cut (blocks_joined text (blocks_of text) cut)
