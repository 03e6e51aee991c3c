-- How a set is sealed, and where the seal of a set comes from that is put together from blocks.
use Rattle.std.specs.Prelude.{◌≡◌, ℕ, Bool, true, List, ◌++◌, All}
use Rattle.std.specs.List.{Contains}
use Rattle.transaction_set.specs.declared.seal.Seal.{Seal}
use Rattle.dex_line.specs.TextUnits.{is_set_end, is_trailer}
use Rattle.dsd_record.specs.SetTexts.{IsSet}
use Rattle.dsd_record.specs.declared.set_view.SetView.{SetView}
use Rattle.dsd_record.specs.declared.set_view.SetView.TheVariants as sets
use Rattle.dsd_end.specs.Speaking.{IsCutFrom}

-- the control number and the integrity value of a set
abbrev pub seal_in : SetView → Seal
seal_in (sets.Base base seal) = seal
seal_in (sets.Answer answer seal) = seal

abbrev pub IsSomeSet : List ℕ → Type 0
IsSomeSet text = (set : SetView) × IsSet set text

-- a block, which is its text with its mark, is cut from a written transmission of sets with P
abbrev pub IsBlockOf : (List ℕ → Type 0) → List ℕ × Bool → Type 0
IsBlockOf P block = (texts : List (List ℕ)) × IsCutFrom texts block.1 block.0 × All P texts

-- the piece stands in the text
abbrev pub IsPieceOf : List ℕ → List ℕ → Type 0
IsPieceOf piece text = (front : List ℕ) × (back : List ℕ) × (text ≡ front ++ (piece ++ back))

-- The G85 and the SE in which the text ends stand, one behind the other, in one of these blocks and in one set with P, of whose transmission
-- the block is; and that set has the control number and the integrity value of this one.
pub record IsSealedByOne (P : List ℕ → Type 0) (blocks : List (List ℕ × Bool)) (text : List ℕ) (set : SetView) : Type 0 where
  pub integrity : List ℕ
  pub trailer : List ℕ
  pub is_integrity : is_trailer integrity ≡ true
  pub is_trailer : is_set_end trailer ≡ true
  pub front : List ℕ
  pub ends : text ≡ front ++ (integrity ++ trailer)
  pub block : List ℕ × Bool
  pub among : Contains blocks block
  pub in_block : IsPieceOf (integrity ++ trailer) block.0
  pub texts : List (List ℕ)
  pub cut : IsCutFrom texts block.1 block.0
  pub one : List ℕ
  pub sent : Contains texts one
  pub has : P one
  pub in_one : IsPieceOf (integrity ++ trailer) one
  pub other : SetView
  pub is : IsSet other one
  pub alike : seal_in set ≡ seal_in other
