-- What two ends bring along.
use Rattle.dsd_values.specs.declared.role.Role.{Role}
use Rattle.dsd_values.specs.declared.role.Role.TheVariants.{Receiver, Supplier}
use Rattle.dsd_record.specs.Choices.{Chooser}
use Rattle.dsd_journal.specs.declared.header.Header.{Header}
use Rattle.handheld_core.specs.Choosing.{supplier}
use Rattle.receiver_core.specs.Choosing.{receiver}
use Rattle.cable_world.specs.declared.setting.Setting.{Setting}

-- whose the journal of this end is
abbrev pub header_at : Setting → Role → Header
header_at setting Supplier = record { role = Supplier; own = setting.ends.handheld.own; peer = setting.ends.handheld.peer }
header_at setting Receiver = record { role = Receiver; own = setting.ends.receiver.own; peer = setting.ends.receiver.peer }

-- the choices of this end
abbrev pub chooser_at : Setting → Role → Chooser
chooser_at setting Supplier = supplier setting.drafts
chooser_at setting Receiver = receiver setting.counts
