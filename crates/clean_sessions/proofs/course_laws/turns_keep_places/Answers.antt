use Rattle.clean_sessions.proofs.PlacesKept.{first, kept}
use Rattle.clean_sessions.proofs.course_laws.turns_keep_places.Goals as goal

pub returns : goal.returns
returns c = record { first = first; kept = kept }
