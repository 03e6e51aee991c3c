use Rattle.std.proofs.Common.{Option, subst, sym, ◌∙◌, ap, MatchOption}
use Rattle.set_stream.specs.StreamedSets.{IsRefusedBy, IsStreamOf, Reads, SetSoFar}
use Rattle.dsd_record.specs.declared.set_view.SetView.{SetView}
use Rattle.set_stream.proofs.Streamed.{given_up, refused_exact, refused_only, refused_place}
use Rattle.set_stream.proofs.set_stream.SetStream.finish.Goals as goal

pub returns-in-Some-clause-only : goal.returns-in-Some-clause-only
returns-in-Some-clause-only c text taken wanted spelled = refused_only text c.in-Some.fault _ (given_up text c.args.self c.in-Some.fault (ap (λ (s : SetSoFar). s.fault) (sym c.self.view_is) ∙ c.in-Some.is) taken) wanted spelled

pub returns-in-Some-clause-exact : goal.returns-in-Some-clause-exact
returns-in-Some-clause-exact c text taken = refused_exact text c.in-Some.fault _ (given_up text c.args.self c.in-Some.fault (ap (λ (s : SetSoFar). s.fault) (sym c.self.view_is) ∙ c.in-Some.is) taken)

pub returns-in-Some-clause-within : goal.returns-in-Some-clause-within
returns-in-Some-clause-within c text taken = refused_place SetView text c.in-Some.fault (given_up text c.args.self c.in-Some.fault (ap (λ (s : SetSoFar). s.fault) (sym c.self.view_is) ∙ c.in-Some.is) taken)
