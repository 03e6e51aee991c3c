-- Which texts say which script: a relation, apart from any reading. The words and their order are this project's profile.
use Rattle.std.specs.Prelude.{◌≡◌, ◌≤◌, ℕ, List, [], ◌∷◌, ◌++◌, length, codes, Ok}
use Rattle.dsd_values.specs.Reading.{comm_id_of}
use Rattle.dsd_values.specs.declared.role.Role.{Role}
use Rattle.dsd_values.specs.declared.role.Role.TheVariants.{Receiver, Supplier}
use Rattle.dsd_journal.specs.declared.header.Header.{Header}
use Rattle.plain_lines.specs.PlainText.{LineSeen, lines_in, word_of_line}
use Rattle.plain_lines.specs.Refusing.{IsLed}
use Rattle.handheld_core.specs.DraftTexts.{AreSaid as AreSaidDrafts}
use Rattle.receiver_core.specs.CountTexts.{AreSaid as AreSaidCounts}
use Rattle.cable_world.specs.EventLines.{SaysEvent}
use Rattle.cable_world.specs.declared.event.Event.{Event}
use Rattle.cable_world.specs.declared.events.TheConstants.{MOST_EVENTS}
use Rattle.cable_world.specs.declared.script.Script.{Script}

-- the leading word of the line that says whose the journal of an end is
abbrev pub end_word : Role → List ℕ
end_word Supplier = codes "HANDHELD"
end_word Receiver = codes "RECEIVER"

-- the line says whose the journal of this end is: its own communication id, and then its peer's
pub record SaysHeader (role : Role) (header : Header) (line : LineSeen) : Type 0 where
  pub led : IsLed line (end_word role) 3
  pub role_is : header.role ≡ role
  pub own : comm_id_of (word_of_line line 1) ≡ Ok header.own
  pub peer : comm_id_of (word_of_line line 2) ≡ Ok header.peer

-- each line says its event, in turn
abbrev pub SayEvents : List Event → List LineSeen → Type 0
SayEvents [] [] = Unit {0}
SayEvents (event ∷ events) (line ∷ lines) = SaysEvent event line × SayEvents events lines
SayEvents [] (line ∷ lines) = ⊥
SayEvents (event ∷ events) [] = ⊥

-- The lines of a script: those of the two ends, and behind a line each the drafts, the counts and the events.
pub record AreLinesOf (script : Script) (lines : List LineSeen) : Type 0 where
  pub handheld : LineSeen
  pub receiver : LineSeen
  pub before_drafts : LineSeen
  pub drafts : List LineSeen
  pub before_counts : LineSeen
  pub counts : List LineSeen
  pub before_events : LineSeen
  pub events : List LineSeen
  pub joined : lines ≡ handheld ∷ receiver ∷ before_drafts ∷ (drafts ++ before_counts ∷ (counts ++ before_events ∷ events))
  pub says_handheld : SaysHeader Supplier script.ends.handheld handheld
  pub says_receiver : SaysHeader Receiver script.ends.receiver receiver
  pub begins_drafts : IsLed before_drafts (codes "DRAFTS") 1
  pub say_drafts : AreSaidDrafts script.drafts drafts
  pub begins_counts : IsLed before_counts (codes "COUNTS") 1
  pub say_counts : AreSaidCounts script.counts counts
  pub begins_events : IsLed before_events (codes "EVENTS") 1
  pub say_events : SayEvents script.events events
  pub few : length script.events ≤ MOST_EVENTS

-- The lines of the text say this script.
abbrev pub Says : Script → List ℕ → Type 0
Says script text = AreLinesOf script (lines_in text).lines
