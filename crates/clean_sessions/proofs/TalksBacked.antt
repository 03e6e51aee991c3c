-- Each delivery of two backed lists has exactly one talk.
use Rattle.std.proofs.Common.{◌≡◌, ◌≤◌, ◌+◌, ℕ, length, List}
use Rattle.dsd_values.specs.declared.level.TheConstants.Level.{MAX as HIGHEST}
use Rattle.dsd_values.specs.declared.role.Role.{Role}
use Rattle.dsd_values.specs.declared.role.Role.TheVariants.{Receiver, Supplier}
use Rattle.dsd_record.specs.Choices.{Chooser}
use Rattle.dsd_journal.specs.declared.entry.Entry.{Entry}
use Rattle.delivery_book.specs.Deeds.{other_role}
use Rattle.clean_sessions.specs.DeliveryStands.{AreBacked}
use Rattle.clean_sessions.specs.Talks.{IsTalk, Talk, by_role}
use Rattle.clean_sessions.proofs.DueStands.{backed_turned}
use Rattle.clean_sessions.proofs.TalksOne.{one_talk}
use Rattle.clean_sessions.proofs.TalksThere.{few_sets, some_talk}

module _ (supplier receiver : Chooser) (supplier_entries receiver_entries : List Entry) (number : List ℕ) (backed : AreBacked Supplier supplier_entries receiver_entries) where
  abbrev lists : Role → List Entry
  lists = by_role supplier_entries receiver_entries

  both : (role : Role) → AreBacked role (lists role) (lists (other_role role))
  both Supplier = backed
  both Receiver = backed_turned Supplier supplier_entries receiver_entries backed

  pub talk_there : (talk : Talk) × IsTalk (by_role supplier receiver) lists number talk
  talk_there = some_talk (by_role supplier receiver) lists both number

  pub talk_once : (one other : Talk) → IsTalk (by_role supplier receiver) lists number one → IsTalk (by_role supplier receiver) lists number other → one ≡ other
  talk_once = one_talk (by_role supplier receiver) lists both number

  pub talk_few : (talk : Talk) → IsTalk (by_role supplier receiver) lists number talk → length talk.known + length talk.new ≤ HIGHEST + 2
  talk_few = few_sets (by_role supplier receiver) lists both number
