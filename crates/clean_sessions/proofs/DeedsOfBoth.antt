-- Of two legal lists, each backed by the other, both are fronts of one course of each delivery.
use Rattle.std.proofs.Common.{◌≡◌, ◌+◌, ℕ, Bool, true, false, not, if◌then◌else◌, List, [], ◌∷◌, map, Option, Some, None, refl, ap, subst, ◌∙◌, inl, inr}
use Rattle.std.specs.Str.{bytes_eq}
use Rattle.std.specs.List.{cons_option, filter}
use Rattle.std.proofs.lemmas.Slice.Eq.{bytes_eq-Decides}
use Rattle.dsd_values.specs.declared.role.Role.TheVariants.{Receiver, Supplier}
use Rattle.dsd_record.specs.ReadSets.{set_in}
use Rattle.dsd_record.specs.declared.set_view.SetView.{SetView}
use Rattle.dsd_journal.specs.declared.entry.Entry.{Entry}
use Rattle.dsd_journal.specs.declared.entry.EntryKind.{EntryKind}
use Rattle.dsd_journal.specs.declared.entry.EntryKind.TheVariants.{Signed, Took}
use Rattle.delivery_book.specs.Agreement.{Backed}
use Rattle.delivery_book.specs.Deeds.{Deed, deed_with, deeds_of, is_signed, level_in, number_in, of_delivery, other_kind, proposes}
use Rattle.delivery_book.specs.Signing.{Legal}
use Rattle.delivery_book.proofs.Agreeing.{as_signed}
use Rattle.delivery_book.proofs.Listed.{backed_deed}
use Rattle.delivery_book.proofs.Members.{In, filter_in}
use Rattle.delivery_book.proofs.Standings.{in_delivery}
use Rattle.clean_sessions.specs.DeedShapes.{AreInTurn, deeds_seen, seen}
use Rattle.clean_sessions.specs.Fronts.{Backs, Fronts, HasSigned, TakeTurns}
use Rattle.clean_sessions.proofs.DeedsInTurn.{legal_turns}
use Rattle.clean_sessions.proofs.OneCourse.{fronts}

-- ---- places by the texts

abbrev place_read : Option SetView → ℕ
place_read (Some set) = if proposes set then level_in set else level_in set + 1
place_read None = 0

abbrev place_in : List ℕ → ℕ
place_in text = place_read (set_in text)

abbrev pub AllRead : List Deed → Type 0
AllRead [] = Unit {0}
AllRead (deed ∷ deeds) = (set_in deed.text ≡ Some deed.set) × AllRead deeds

read_step : (entry : Entry) (deeds : List Deed) (set : Option SetView) → set_in entry.payload ≡ set → AllRead deeds → AllRead (cons_option (deed_with entry set) deeds)
read_step entry deeds None is all = all
read_step entry deeds (Some set) is all = (is, all)

pub all_read : (entries : List Entry) → AllRead (deeds_of entries)
all_read [] = tt
all_read (entry ∷ entries) = read_step entry (deeds_of entries) (set_in entry.payload) refl (all_read entries)

read_if : (t : Bool) (deed : Deed) (deeds : List Deed) → set_in deed.text ≡ Some deed.set → AllRead deeds → AllRead (if t then deed ∷ deeds else deeds)
read_if true deed deeds read all = (read, all)
read_if false deed deeds read all = all

pub read_filter : (test : Deed → Bool) (deeds : List Deed) → AllRead deeds → AllRead (filter test deeds)
read_filter test [] all = tt
read_filter test (deed ∷ deeds) all = read_if (test deed) deed (filter test deeds) all.0 (read_filter test deeds all.1)

other_is : (kind : EntryKind) → is_signed (other_kind kind) ≡ not (is_signed kind)
other_is Signed = refl
other_is Took = refl

seen_turns : (kind : EntryKind) (n : ℕ) (deeds : List Deed) → AreInTurn kind n deeds → AllRead deeds → TakeTurns place_in (is_signed kind) n (map seen deeds)
seen_turns kind n [] turns all = tt
seen_turns kind n (deed ∷ deeds) turns all = (
  ap is_signed turns.0,
  ap place_read all.0 ∙ turns.1,
  subst (λ (b : Bool). TakeTurns place_in b (n + 1) (map seen deeds)) (other_is kind) (seen_turns (other_kind kind) (n + 1) deeds turns.2 all.1),
)

-- ---- backing

took_kind : (kind : EntryKind) → is_signed kind ≡ false → kind ≡ Took
took_kind Signed e = cc
took_kind Took e = refl

signed_seen : (deeds : List Deed) (deed : Deed) → In deed deeds → deed.kind ≡ Signed → HasSigned deed.text (map seen deeds)
signed_seen [] deed has kind = absurd has
signed_seen (first ∷ deeds) deed (inl same) kind = inl (ap (λ (d : Deed). is_signed d.kind) same ∙ ap is_signed kind, ap (λ (d : Deed). d.text) same)
signed_seen (first ∷ deeds) deed (inr has) kind = inr (signed_seen deeds deed has kind)

module _ (number : List ℕ) (one other : List Entry) (backed : Backed one other) where
  taken_seen : (deed : Deed) → In deed (of_delivery number (deeds_of one)) → is_signed deed.kind ≡ false → HasSigned deed.text (deeds_seen number other)
  taken_seen deed has taken =
      let its = filter_in (λ (d : Deed). bytes_eq (number_in d.set) number) (deeds_of one) deed has in
      let there = backed_deed one other backed deed its.among (took_kind deed.kind taken) in
      signed_seen (of_delivery number (deeds_of other)) (as_signed deed)
      (in_delivery number (deeds_of other) (as_signed deed) there ((bytes_eq-Decides (number_in deed.set) number).0 its.holds)) refl

  backs_each : (deeds : List Deed) → ((deed : Deed) → In deed deeds → In deed (of_delivery number (deeds_of one))) → Backs (deeds_seen number other) (map seen deeds)
  backs_each [] among = tt
  backs_each (deed ∷ deeds) among = (λ taken. taken_seen deed (among deed (inl refl)) taken, backs_each deeds (λ d has. among d (inr has)))

  backs : Backs (deeds_seen number other) (deeds_seen number one)
  backs = backs_each (of_delivery number (deeds_of one)) (λ deed has. has)

pub one_course : (supplier receiver : List Entry) (number : List ℕ) → Legal Supplier supplier → Legal Receiver receiver → Backed supplier receiver → Backed receiver supplier → Fronts (deeds_seen number supplier) (deeds_seen number receiver)
one_course supplier receiver number legal also_legal backed also_backed =
    let test : Deed → Bool = λ (d : Deed). bytes_eq (number_in d.set) number in
    fronts place_in true 0 (deeds_seen number supplier) (deeds_seen number receiver)
    (seen_turns Signed 0 (of_delivery number (deeds_of supplier)) (legal_turns Supplier supplier number legal) (read_filter test (deeds_of supplier) (all_read supplier)))
    (seen_turns Took 0 (of_delivery number (deeds_of receiver)) (legal_turns Receiver receiver number also_legal) (read_filter test (deeds_of receiver) (all_read receiver)))
    (backs number supplier receiver backed) (backs number receiver supplier also_backed)
