-- A script that is cut in two, and what the stations come to.
use Rattle.std.proofs.Common.{List, [], ◌∷◌, ◌++◌, refl, sym, ◌∙◌, ap, subst, append_assoc}
use Rattle.cable_world.specs.Obeying.{Obeys, Then}
use Rattle.cable_world.specs.Scenes.{Scene}
use Rattle.cable_world.specs.declared.event.Event.{Event}
use Rattle.cable_world.specs.Steps.{WorldStep}

-- what obeys two scripts one behind the other obeys the first and then the second
pub obeys_parts : (a b : List Event) (scene : Scene) (made : List WorldStep) (next : Scene) → Obeys (a ++ b) scene made next → Then (Obeys a) (Obeys b) scene made next
obeys_parts [] b scene made next c = record { between = scene; first = []; rest = made; joined = refl; before = (refl, refl); behind = c }
obeys_parts (event ∷ a) b scene made next c =
    let more : Then (Obeys a) (Obeys b) c.between c.rest next = obeys_parts a b c.between c.rest next c.behind in
    record {
      between = more.between;
      first = c.first ++ more.first;
      rest = more.rest;
      joined = c.joined ∙ ap (λ (l : List WorldStep). c.first ++ l) more.joined ∙ sym (append_assoc c.first more.first more.rest);
      before = record { between = c.between; first = c.first; rest = more.first; joined = refl; before = c.before; behind = more.before };
      behind = more.behind;
    }

-- and the other way round, as a play goes on
pub obeys_both : (a b : List Event) (scene : Scene) (first : List WorldStep) (between : Scene) (rest : List WorldStep) (next : Scene)
    → Obeys a scene first between → Obeys b between rest next → Obeys (a ++ b) scene (first ++ rest) next
obeys_both [] b scene first between rest next (none, same) more =
    subst (λ (l : List WorldStep). Obeys b scene (l ++ rest) next) (sym none) (subst (λ (s : Scene). Obeys b s rest next) same more)
obeys_both (event ∷ a) b scene first between rest next c more = record {
  between = c.between;
  first = c.first;
  rest = c.rest ++ rest;
  joined = ap (λ (l : List WorldStep). l ++ rest) c.joined ∙ append_assoc c.first c.rest rest;
  before = c.before;
  behind = obeys_both a b c.between c.rest between rest next c.behind more;
}
