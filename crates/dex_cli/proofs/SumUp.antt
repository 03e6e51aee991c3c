-- A text is summed up set by set.
use Rattle.std.proofs.Common.{◌≡◌, List, [], ◌∷◌, ◌++◌, sym, subst, append_assoc, append-nil}
use Rattle.dxs_envelope.specs.FirstFault.{told_behind}
use Rattle.dxs_envelope.specs.Views.{SetAt, Told}
use Rattle.dex_cli.specs.Summaries.{Ends, IsNoSetAt, IsSummary, SumsUp}
use Rattle.dex_cli.specs.TextSteps.{Summed}
use Rattle.dex_cli.specs.declared.refusal.Refusal.{Refusal}
use Rattle.dex_cli.specs.declared.summary.SetSummary.{SetSummary}
use Rattle.dex_cli.specs.declared.text_summary.TextEnding.{TextEnding}
use Rattle.dex_cli.specs.declared.text_summary.TextEnding.TheVariants as endings

-- a set is summed up
pub one_more : (all new : Told) (done : List SetSummary) (set : SetAt) (summary : SetSummary) → Summed all done (told_behind set new) → IsSummary set.bytes summary → Summed all (done ++ summary ∷ []) new
one_more all new done set summary summed says later ending up =
    subst (λ (l : List SetSummary). SumsUp all.sets all.fault l ending) (sym (append_assoc done (summary ∷ []) later)) (summed (summary ∷ later) ending (says, up))

-- nothing more is
pub ended : (all left : Told) (done : List SetSummary) (ending : TextEnding) → Summed all done left → Ends left.sets left.fault ending → SumsUp all.sets all.fault done ending
ended all left done ending summed ends = subst (λ (l : List SetSummary). SumsUp all.sets all.fault l ending) (append-nil done) (summed [] ending ends)

-- a set is none
pub stopped : (all new : Told) (done : List SetSummary) (set : SetAt) (refusal : Refusal) → Summed all done (told_behind set new) → IsNoSetAt set refusal → SumsUp all.sets all.fault done (endings.Refused refusal)
stopped all new done set refusal summed none = ended all (told_behind set new) done (endings.Refused refusal) summed none
