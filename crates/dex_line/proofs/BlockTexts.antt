-- Each block of a text of text bytes is a text that a block may have.
use Rattle.std.proofs.Common.{◌≡◌, ℕ, ◌<◌, ◌≤◌, Bool, true, List, [], ◌∷◌, length, map, ◌∙◌, ap, arith}
use Rattle.std.specs.Prelude.{⊤}
use Rattle.std.specs.List.{concat, list_all}
use Rattle.dex_line.specs.Bytes.{is_text}
use Rattle.dex_line.specs.BlockCut.{EachGroupFits, IsGreedy, CutOf}
use Rattle.dex_line.specs.Occurrence.{IsBlockText}
use Rattle.dex_line.specs.declared.cutter.TheConstants.{BLOCK_WRITTEN}
use Rattle.dex_line.proofs.Fewest.{blocks_joined}
use Rattle.dex_line.proofs.Spoken.{both_all}

abbrev pub EachText : List (List ℕ × Bool) → Type 0
EachText [] = ⊤
EachText (block ∷ more) = IsBlockText block.0 × EachText more

text_of : (block joined : List ℕ) → block ≡ joined → 0 < length joined → length joined ≤ BLOCK_WRITTEN → list_all is_text block ≡ true
    → IsBlockText block
text_of block joined e some fits bytes =
    record { some = omega (arith, ap length e); fits = omega (arith, ap length e); bytes = bytes }

groups_text : (blocks : List (List ℕ × Bool)) (groups : List (List (List ℕ))) → map (λ (b : List ℕ × Bool). b.0) blocks ≡ map concat groups
    → EachGroupFits groups → IsGreedy groups
    → list_all is_text (concat (map (λ (b : List ℕ × Bool). b.0) blocks)) ≡ true → EachText blocks
groups_text [] groups e fits greedy bytes = tt
groups_text (block ∷ blocks) [] e fits greedy bytes = absurd (cc)
groups_text (block ∷ blocks) (group ∷ groups) e (fit, fits) (some, full, greedy) bytes =
    let head : block.0 ≡ concat group = cc in
    let rest : map (λ (b : List ℕ × Bool). b.0) blocks ≡ map concat groups = cc in
    let (front, behind) = both_all block.0 (concat (map (λ (b : List ℕ × Bool). b.0) blocks)) bytes in
    (text_of block.0 (concat group) head some fit front, groups_text blocks groups rest fits greedy behind)

pub each_text : (text : List ℕ) (blocks : List (List ℕ × Bool)) → CutOf text blocks → list_all is_text text ≡ true → EachText blocks
each_text text blocks cut bytes =
    groups_text blocks cut.groups cut.bytes cut.cut.fits cut.greedy (ap (list_all is_text) (blocks_joined text blocks cut) ∙ bytes)
