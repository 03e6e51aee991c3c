use Rattle.std.proofs.Common.{◌≡◌, Ok, subst}
use Rattle.dsd_pricing.specs.Pricing.{totals_of}
use Rattle.dsd_record.specs.Version.{Version}
use Rattle.dsd_record.proofs.record.DsdRecord.totals.Goals as goal

pub returns-clause-price : goal.returns-clause-price
returns-clause-price c = subst (λ (v : Version). totals_of v.lines v.extras ≡ Ok c.self.inside.totals) c.self.view_is c.self.invariant.1.price
