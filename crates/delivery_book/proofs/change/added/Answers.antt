use Rattle.std.proofs.Common.{ap, ◌∙◌, List, ℕ}
use Rattle.dsd_journal.specs.declared.entry.Entry.{Entry}
use Rattle.delivery_book.proofs.Allowed.{added_of}
use Rattle.delivery_book.proofs.change.added.Goals as goal

pub returns : goal.returns
returns c =
    added_of c.args.place _ _ c.args.set.now c.args.seen c.new.result _ c.number_of.result.now c.accepts.result c.requires
    (ap (λ (l : List ℕ). (let x : Entry = record { kind = c.args.kind; payload = l } in x)) (c.from_bytes-payload.ensures ∙ c.in_ok-from_slice.ensures.items)) c.number_of.ensures c.accepts.ensures c.new.ensures
