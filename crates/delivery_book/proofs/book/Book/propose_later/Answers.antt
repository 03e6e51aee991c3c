use Rattle.std.proofs.Common.{◌≡◌, ◌∙◌, ℕ, List, Ok, ap, subst, sym}
use Rattle.dsd_values.specs.declared.role.Role.{Role}
use Rattle.dsd_journal.specs.declared.entry.Entry.{Entry}
use Rattle.dsd_journal.specs.declared.entry.EntryKind.TheVariants.{Signed}
use Rattle.base_record_894.specs.WrittenText.{written_of as base_written}
use Rattle.delivery_book.specs.Refusals.{propose_fault}
use Rattle.delivery_book.specs.Signing.{next_control}
use Rattle.delivery_book.proofs.Staged.{stages_so}
use Rattle.delivery_book.proofs.book.Book.propose_later.Goals as goal

pub returns-in-Ok : goal.returns-in-Ok
returns-in-Ok c =
    let allowed =
    sym (ap (λ (r : Role). propose_fault r c.rules.result.now.entries c.args.base) c.rules.ensures.role ∙ ap (λ (l : List Entry). propose_fault c.args.self.now.header.role l c.args.base) c.rules.ensures.entries)
    ∙ c.in-Ok.ensures.0 in
    let made = subst (λ (l : List Entry). base_written c.args.base (next_control l) ≡ Ok c.in-Ok.change.entry.payload) c.rules.ensures.entries c.in-Ok.ensures.1.1.1 in
    record {
      exact =
          stages_so (propose_fault c.args.self.now.header.role c.args.self.now.known c.args.base) c.in-Ok.change.entry Signed (λ (text : List ℕ). base_written c.args.base (next_control c.args.self.now.known) ≡ Ok text) c.args.self.now allowed c.in-Ok.ensures.1.1.0 made c.stage.result c.stage.new.self c.stage.ensures;
    }
