use Rattle.std.proofs.Common.{true, sym, subst, ◌≡◌, ℕ, List}
use Rattle.std.specs.List.{list_all}
use Rattle.dex_line.specs.Bytes.{is_text}
use Rattle.dex_line.specs.TextUnits.{UnitsFit}
use Rattle.dxs_envelope.proofs.LineUnits.{outgoing_fits}
use Rattle.dxs_envelope.proofs.outgoing.Outgoing.as_slice.Goals as goal

pub returns-clause-fits : goal.returns-clause-fits
returns-clause-fits c = subst (λ (text : List ℕ). UnitsFit text) (sym c.as_slice.ensures.value) (outgoing_fits c.self.inside.text.items c.self.invariant).0

pub returns-clause-text : goal.returns-clause-text
returns-clause-text c = subst (λ (text : List ℕ). list_all is_text text ≡ true) (sym c.as_slice.ensures.value) (outgoing_fits c.self.inside.text.items c.self.invariant).1
