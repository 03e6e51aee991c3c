use Rattle.clean_worlds.proofs.WorldsClean.{both_complete}
use Rattle.clean_worlds.proofs.world_laws.clean_sessions_leave_both_complete.Goals as goal

pub returns : goal.returns
returns c = λ id other supplier receiver supplier_entries receiver_entries last standing played role. both_complete id other supplier receiver supplier_entries receiver_entries last standing played role
