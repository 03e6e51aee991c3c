use Rattle.std.proofs.Common.{List, Err, subst, sym}
use Rattle.std.proofs.lemmas.List.Elements.{All-weaker}
use Rattle.dsd_pricing.specs.Pricing.{ArePriced}
use Rattle.dsd_values.specs.declared.extra.Extra.{Extra}
use Rattle.dsd_values.specs.declared.line.Line.{Line}
use Rattle.transaction_set.specs.Extras.{HasExtras}
use Rattle.transaction_set.specs.SoundLines.{IsSoundLine}
use Rattle.transaction_set.proofs.Sounding.{line_behind}
use Rattle.base_record_894.proofs.Amounts.{are_priced}
use Rattle.base_record_894.specs.Making.{record_made}
use Rattle.base_record_894.specs.RecordText.{IsBase}
use Rattle.base_record_894.proofs.Made.{answered, made_base, refused, rows_asked, together}
use Rattle.base_record_894.proofs.base.Base.new.Goals as goal

pub amount_of-requires : goal.amount_of-requires
amount_of-requires c =
    subst (λ (u : List Line). ArePriced u c.as_slice-2.result.now) (sym c.as_slice.ensures) (subst (λ (x : List Extra). ArePriced c.args.lines x) (sym c.as_slice-2.ensures)
    (are_priced c.args.lines c.args.extras c.requires.few (All-weaker IsSoundLine HasExtras line_behind c.args.lines c.requires.sound.sound) c.requires.beside.limit))

pub invariant_of-result : goal.invariant_of-result
invariant_of-result c =
    let rows = rows_asked c.args.lines _ c.args.extras _ _ _ c.as_slice.ensures c.as_slice-2.ensures c.amount_of.ensures c.in-Ok.is in
    subst IsBase (sym (together c.args.head c.with_no_tail.result c.new.result c.args.lines c.args.extras c.args.signature c.with_no_tail.ensures.value c.new.ensures))
    (made_base c.args.head c.args.lines c.args.extras c.args.signature _ c.with_no_tail.ensures.plain c.requires.sound c.requires.few c.requires.beside c.mark.ensures.invariant rows)

pub returns-in-Ok : goal.returns-in-Ok
returns-in-Ok c =
    let rows = rows_asked c.args.lines _ c.args.extras _ _ _ c.as_slice.ensures c.as_slice-2.ensures c.amount_of.ensures c.in-Ok.is in
    answered _ _ _ (record_made c.args.head c.args.lines c.args.extras c.args.signature) rows
    (together c.args.head c.with_no_tail.result c.new.result c.args.lines c.args.extras c.args.signature c.with_no_tail.ensures.value c.new.ensures)

pub returns-in-Err : goal.returns-in-Err
returns-in-Err c =
    refused _ _ (record_made c.args.head c.args.lines c.args.extras c.args.signature)
    (rows_asked c.args.lines _ c.args.extras _ _ _ c.as_slice.ensures c.as_slice-2.ensures c.amount_of.ensures c.in-Err.is)
