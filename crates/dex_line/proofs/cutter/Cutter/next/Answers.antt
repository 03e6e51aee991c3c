use Rattle.std.proofs.Common.{◌≡◌, ℕ, ◌∷◌, Bool, List, [], Option, Some, None, Bor}
use Rattle.std.specs.Prelude.{IfSome, MatchOption}
use Rattle.dex_line.specs.TextUnits.{UnitsFit}
use Rattle.dex_line.specs.BlockCut.{blocks_of, IsFirstBlock, Marks}
use Rattle.dex_line.proofs.Exists.{blocks_empty, blocks_step}
use Rattle.dex_line.proofs.cutter.Cutter.next.Goals as goal

-- the block of one call, and those of the calls to come
called : (old new : List ℕ) (answer : Option (Bor (List ℕ) × Bool)) → UnitsFit old → MatchOption answer ((old ≡ []) × (new ≡ [])) (λ x. IsFirstBlock old x.0.now new) → IfSome answer (λ x. Marks x.1 new)
    → MatchOption answer (blocks_of old ≡ []) (λ x. blocks_of old ≡ (x.0.now, x.1) ∷ blocks_of new)
called old new None fit block marks = blocks_empty old block.0
called old new (Some x) fit block marks = blocks_step old x.0.now new x.1 fit block marks

pub returns-clause-blocks : goal.returns-clause-blocks
returns-clause-blocks c = called _ _ _ c.cut.ensures.fit c.cut.ensures.block c.cut.ensures.marks
