use Rattle.std.proofs.Common.{◌<◌, ◌++◌, ◌∷◌, [], ◌∙◌, ℕ, List, ap, subst, sym}
use Rattle.dsd_journal.specs.declared.entry.Entry.{Entry}
use Rattle.delivery_book.proofs.Opened.{first_illegal, illegal_so, one_legal, one_more}
use Rattle.delivery_book.proofs.opening.rules_over.Goals as goal

pub returns-in-Err-Illegal-clause-err : goal.returns-in-Err-Illegal-clause-err
returns-in-Err-Illegal-clause-err c =
    let within = subst (λ (n : ℕ). c.loop-index.index < n) c.len-index-end.ensures.value c.loop-index-test.true in
    let held = c.loop-index.invariant in
    first_illegal c.args.role c.args.journal.now.entries c.loop-index.index c.place.result c.kind.result c.payload.result.now within c.kind.ensures c.payload.ensures.value held.2
    (illegal_so c.in-Err-Illegal.field-0 c.loop-index.rules.role c.args.role c.loop-index.rules.entries _ _ _ c.in-Err-Illegal.field-0-is held.0 held.1 c.in-Err-Illegal.ensures.exact) c.place.ensures

pub loop-index-preserved : goal.loop-index-preserved
loop-index-preserved c =
    let within = subst (λ (n : ℕ). c.loop-index.index < n) c.len-index-end.ensures.value c.loop-index-test.true in
    let held = c.loop-index.invariant in
    let entry : Entry = record { kind = c.kind.result; payload = c.payload.result.now } in
    let more = one_more c.args.journal.now.entries c.loop-index.index c.kind.result c.payload.result.now within c.kind.ensures c.payload.ensures.value in
    let legal = one_legal c.loop-index.rules.role c.args.role c.loop-index.rules.entries _ _ entry held.0 held.1 more c.in-Ok.ensures.exact.0 in
    (c.in-Ok.ensures.role ∙ held.0, c.in-Ok.ensures.exact.1 ∙ ap (λ (l : List Entry). l ++ entry ∷ []) held.1 ∙ sym more, legal)
