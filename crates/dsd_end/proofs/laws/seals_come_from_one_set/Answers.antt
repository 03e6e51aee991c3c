use Rattle.std.proofs.Common.{Contains}
use Rattle.std.proofs.lemmas.List.Elements.{All-contains}
use Rattle.dsd_end.specs.Sealing.{IsSomeSet}
use Rattle.dsd_end.proofs.Trailers.{sealed_by_one}
use Rattle.dsd_end.proofs.laws.seals_come_from_one_set.Goals as goal

pub returns : goal.returns
returns c = λ signed blocks before text rest segments set sets of joined spelled is.
    sealed_by_one (Contains signed) (λ one there. All-contains IsSomeSet signed one sets there) blocks before text rest segments set of joined spelled is
