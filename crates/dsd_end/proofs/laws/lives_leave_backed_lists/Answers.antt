use Rattle.std.proofs.Common.{[]}
use Rattle.dsd_values.specs.declared.role.Role.TheVariants.{Receiver, Supplier}
use Rattle.dsd_end.proofs.Agreeing.{backed}
use Rattle.dsd_end.proofs.Growing.{last_legal}
use Rattle.dsd_end.proofs.laws.lives_leave_backed_lists.Goals as goal

pub returns-clause-legal : goal.returns-clause-legal
returns-clause-legal c = λ role runs life. last_legal role [] runs tt life

pub returns-clause-supplier : goal.returns-clause-supplier
returns-clause-supplier c = λ supplier receiver s r cable clash. backed Supplier Receiver supplier receiver s r cable.there clash.there

pub returns-clause-receiver : goal.returns-clause-receiver
returns-clause-receiver c = λ supplier receiver s r cable clash. backed Receiver Supplier receiver supplier r s cable.back clash.back
