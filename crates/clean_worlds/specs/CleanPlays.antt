-- The rounds of CLEAN as a clean session.
use Rattle.std.specs.Prelude.{ℕ, List, Option}
use Rattle.dsd_values.specs.declared.role.Role.{Role}
use Rattle.dsd_values.specs.declared.role.Role.TheVariants.{Receiver, Supplier}
use Rattle.dsd_record.specs.Choices.{Chooser}
use Rattle.dsd_journal.specs.declared.entry.Entry.{Entry}
use Rattle.dsd_journal.specs.declared.header.Header.{Header}
use Rattle.dsd_end.specs.Standings.{Standing}
use Rattle.clean_sessions.specs.Beginnings.{EndsClean, IsCleanSession, receiver_header, supplier_header}
use Rattle.clean_sessions.specs.Halls.{Hall}
use Rattle.clean_sessions.specs.Sessions.{Spoken}
use Rattle.cable_world.specs.Scenes.{Scene}
use Rattle.clean_worlds.specs.WorldHalls.{ShowsHall}

-- two ends whose ids match
abbrev pub headers : List ℕ → List ℕ → Role → Header
headers id other Supplier = supplier_header id other
headers id other Receiver = receiver_header id other

abbrev pub choosers : Chooser → Chooser → Role → Chooser
choosers supplier receiver Supplier = supplier
choosers supplier receiver Receiver = receiver

-- A clean session was played from its opening to its end at both ends, and this scene and these standings show the hall that it leaves.
pub record PlaysSession (id other : List ℕ) (supplier receiver : Chooser) (supplier_entries receiver_entries : List Entry) (last : Scene) (standing : Role → Option Standing) : Type 0 where
  pub first : Spoken
  pub more : List Spoken
  pub new : Hall
  pub session : IsCleanSession id other supplier receiver supplier_entries receiver_entries first more new
  pub ends : EndsClean first more new
  pub near : Role
  pub far : Role
  pub shows : ShowsHall (choosers supplier receiver) (headers id other) near far new last standing
