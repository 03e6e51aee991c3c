-- The draft of a new delivery may be signed by the supplier, where it can be written with nine digits.
use Rattle.std.proofs.Common.{◌≡◌, ◌≤◌, ℕ, List, Option, Ok, ap}
use Rattle.std.specs.Prelude.{All, Contains}
use Rattle.dsd_values.specs.declared.role.Role.TheVariants.{Supplier}
use Rattle.base_record_894.specs.BaseRecord.{BaseRecord}
use Rattle.base_record_894.specs.RecordText.{IsBase}
use Rattle.base_record_894.specs.WrittenText.{seal_of, written_of}
use Rattle.base_record_894.proofs.WrittenBack.{written_back}
use Rattle.dsd_record.specs.Choices.{Chooser}
use Rattle.dsd_record.specs.declared.set_view.SetView.TheVariants as sets
use Rattle.dsd_record.proofs.ReadOnce.{set_in_is}
use Rattle.dsd_journal.specs.declared.entry.Entry.{Entry}
use Rattle.delivery_book.specs.Deeds.{Deed, deeds_of, level_in}
use Rattle.delivery_book.specs.Refusals.{by}
use Rattle.delivery_book.specs.Signing.{Legal, next_control}
use Rattle.delivery_book.specs.Standing.{IsNew}
use Rattle.delivery_book.specs.declared.fault.RuleFault.TheVariants.{AlreadySigned}
use Rattle.delivery_book.proofs.Grown.{legal_founded, legal_more}
use Rattle.delivery_book.proofs.Members.{from_contains}
use Rattle.delivery_book.proofs.SignExact.{signs_base}
use Rattle.delivery_book.proofs.TakeExact.{new_highest}
use Rattle.own_turn.specs.OwnTurn.{signed}
use Rattle.clean_sessions.specs.ChosenAnswers.{MayProposeIt, nine_digits}
use Rattle.clean_sessions.proofs.LowerControls.{base_written_too}
use Rattle.clean_sessions.proofs.OwnSets.{each_base}

pub draft_signed : (chooser : Chooser) (entries : List Entry) (draft : BaseRecord) (text : List ℕ) → All IsBase chooser.drafts → Legal Supplier entries → next_control entries ≤ nine_digits → Contains chooser.drafts draft
    → IsNew draft.number (deeds_of entries) → written_of draft nine_digits ≡ Ok text → MayProposeIt chooser entries draft
draft_signed chooser entries draft text bases legal few there new written =
    let too = base_written_too draft (next_control entries) text few written in
    let base = each_base chooser.drafts draft bases (from_contains chooser.drafts draft there) in
    let back = written_back draft (next_control entries) too.0 few base too.1 in
    let free = ap (λ (o : Option Deed). by o (λ (top : Deed). AlreadySigned (level_in top.set))) (new_highest (deeds_of entries) draft.number new) in
    record {
      text = too.0;
      may = record {
        chosen = record { among = there; new = new; written = too.1 };
        legal = legal_more Supplier entries (signed too.0) legal (signs_base Supplier entries (legal_founded Supplier entries legal) draft (seal_of draft (next_control entries)) too.0 free back.spelled too.1);
      };
      is = set_in_is too.0 (sets.Base draft (seal_of draft (next_control entries))) back.spelled;
    }
