use Rattle.std.proofs.Common.{◌++◌, ◌∷◌, [], ◌∙◌, ℕ, List, length, append_assoc, ap, refl, subst, sym}
use Rattle.dsd_values.specs.declared.role.Role.{Role}
use Rattle.dsd_journal.specs.declared.entry.Entry.{Entry}
use Rattle.dsd_journal.specs.JournalImage.{IsPayloadLength}
use Rattle.dsd_journal.specs.Journals.{View, length_with, with_staged}
use Rattle.delivery_book.specs.Books.{BookView, bytes_with}
use Rattle.delivery_book.specs.Changes.{IsChange}
use Rattle.delivery_book.specs.Signing.{Legal}
use Rattle.delivery_book.proofs.Staged.{change_for, change_legal, change_sized, full_so, seen_same}
use Rattle.delivery_book.proofs.book.Book.stage.Goals as goal

pub stage-requires-clause-length : goal.stage-requires-clause-length
stage-requires-clause-length c =
    subst (λ (t : List ℕ). IsPayloadLength (length t)) (sym c.as_slice.ensures) (change_sized c.args.self.now.header.role c.args.self.now.known c.args.change c.requires.change)

pub keep-requires-clause-change : goal.keep-requires-clause-change
keep-requires-clause-change c =
    change_for c.self.inside.journal.header.role c.reserve.new.self.role c.self.inside.rules.entries c.reserve.new.self.entries c.args.change (c.reserve.ensures.role ∙ c.self.invariant.role) c.reserve.ensures.entries
    (subst (λ (v : BookView). IsChange v.header.role v.known c.args.change) (sym c.self.view_is) c.requires.change)

pub invariant_of-self-in-Ok : goal.invariant_of-self-in-Ok
invariant_of-self-in-Ok c =
    let staged = c.in-Ok.ensures.ok ∙ ap (λ (t : List ℕ). with_staged c.self.inside.journal (record { kind = c.args.change.entry.kind; payload = t })) c.as_slice.ensures in
    let entries = c.keep.ensures.entries ∙ ap (λ (l : List Entry). l ++ c.args.change.entry ∷ []) c.reserve.ensures.entries in
    let change = subst (λ (v : BookView). IsChange v.header.role v.known c.args.change) (sym c.self.view_is) c.requires.change in
    record {
      role = c.keep.ensures.role ∙ c.reserve.ensures.role ∙ c.self.invariant.role ∙ sym (ap (λ (j : View). j.header.role) staged);
      legal =
          subst (λ (r : Role). Legal r c.keep.new.self.entries) (sym (ap (λ (j : View). j.header.role) staged))
          (subst (λ (l : List Entry). Legal c.self.inside.journal.header.role l) (sym entries) (change_legal c.self.inside.journal.header.role c.self.inside.rules.entries c.args.change c.self.invariant.legal change));
      known = λ works.
          entries ∙ ap (λ (l : List Entry). l ++ c.args.change.entry ∷ []) (c.self.invariant.known (sym (ap (λ (j : View). j.works) staged) ∙ works))
          ∙ append_assoc c.self.inside.journal.entries c.self.inside.journal.staged (c.args.change.entry ∷ []) ∙ sym (ap (λ (j : View). j.entries ++ j.staged) staged);
    }

pub returns-in-Err-Full : goal.returns-in-Err-Full
returns-in-Err-Full c =
    let full = full_so c.in-Err-Full.field-0 c.in-Err-Full.length (length_with c.self.inside.journal (length c.as_slice.result.now)) c.in-Err-Full.field-0-is c.in-Err-Full.ensures.full c.in-Err-Full.ensures.fits in
    let legal = subst (λ (v : BookView). Legal v.header.role v.known) c.self.view_is c.self.invariant.legal in (
      (
        refl,
        (
          c.args.change.entry.payload,
          refl,
          change_legal c.args.self.now.header.role c.args.self.now.known c.args.change legal c.requires.change,
          full.0 ∙ ap (λ (t : List ℕ). length_with c.self.inside.journal (length t)) c.as_slice.ensures ∙ ap (λ (v : BookView). bytes_with v (length c.args.change.entry.payload)) c.self.view_is,
          full.1,
        ),
      ),
      seen_same c.self.inside.journal c.stage.new.self c.self.inside.rules.entries c.reserve.new.self.entries c.in-Err-Full.ensures.err c.reserve.ensures.entries ∙ c.self.view_is,
    )
