use Rattle.std.proofs.Common.{sym, ◌∙◌, ap}
use Rattle.dxs_envelope.specs.FirstFault.{told_of}
use Rattle.dxs_envelope.specs.Views.{Told}
use Rattle.dxs_envelope.proofs.Enveloped.{envelope_found, envelope_told, told_envelope}
use Rattle.dxs_envelope.proofs.laws.sets_are_told.Goals as goal

pub returns-clause-told : goal.returns-clause-told
returns-clause-told c = λ text sets. (envelope_told text sets, told_envelope text sets)

pub returns-clause-one : goal.returns-clause-one
returns-clause-one c = λ text a b first second. ap (λ (t : Told). t.sets) (sym (envelope_told text a first) ∙ envelope_told text b second)

pub returns-clause-right : goal.returns-clause-right
returns-clause-right c = λ text. (λ none. ((told_of text).sets, envelope_found text none), λ h. ap (λ (t : Told). t.fault) (envelope_told text h.0 h.1))

pub returns-clause-wrong : goal.returns-clause-wrong
returns-clause-wrong c = λ text sets fault e h. let both = sym e ∙ ap (λ (t : Told). t.fault) (envelope_told text sets h) in cc (both)
