use Rattle.std.proofs.Common.{inl, inr, ◌≡◌, ◌≤◌, ◌+◌, ℕ, List, Bool, length, take, drop, ◌++◌, sym, subst, ◌∙◌, arith, Result, Err}
use Rattle.dsd_journal.specs.declared.opening.OpenFault.{OpenFault}
use Rattle.dsd_journal.specs.declared.opening.OpenFault.TheVariants.{NotAJournal}
use Rattle.dsd_journal.specs.declared.entry.Entry.{Entry}
use Rattle.dsd_journal.specs.declared.header.Header.{Header}
use Rattle.dsd_journal.specs.FirstBad.{IsRefused}
use Rattle.dsd_journal.specs.JournalImage.{gate_place, Leads}
use Rattle.dsd_journal.specs.Reading.{Takes}
use Rattle.dsd_journal.proofs.Refusing.{leads_more}
use Rattle.dsd_journal.specs.Pieces.{ReadsOn}
use Rattle.dsd_journal.proofs.Ends.{read_bad, read_shut, read_ended}
use Rattle.dsd_journal.proofs.Looking.{looks_then, looks_none_failed, taken_on, ended}
use Rattle.dsd_journal.proofs.Takes.{leads_takes, low_place, takes_counted}
use Rattle.dsd_journal.proofs.reading.read_entries.Goals as goal

pub returns-in-Err-clause-refused : goal.returns-in-Err-clause-refused
returns-in-Err-clause-refused g c = λ tells place is.
    let was = c.loop-fault.invariant.read tells in
    read_bad c.loop-fault.reading.header c.loop-fault.reading.entries.list c.loop-fault.reading.bytes.items (g.T.Station.told c.args.station.now).journal c.loop-fault.reading.at was.leads place (c.in-Err.ensures.bad place (failed c.in-Err.fault place is))
  where
    failed : (fault : OpenFault) (place : ℕ) → fault ≡ NotAJournal place → (let r : Result Bool OpenFault = Err fault in r) ≡ Err (NotAJournal place)
    failed fault place is = cc

pub returns-in-Ok-true-clause-held : goal.returns-in-Ok-true-clause-held
returns-in-Ok-true-clause-held g c = λ tells.
    let was = c.loop-fault.invariant.read tells in
    let image = (g.T.Station.told c.args.station.now).journal in
    let leads = leads_takes c.loop-fault.reading.header c.loop-fault.reading.entries.list c.take_front.new.entries.list c.loop-fault.reading.bytes.items c.take_front.new.bytes.items (take c.loop-fault.reading.at image)
    c.in-Ok-true.ensures.taken was.leads in
    read_shut c.loop-fault.reading.header c.take_front.new.entries.list c.take_front.new.bytes.items image c.loop-fault.reading.at leads c.in-Ok-true.ensures.near (c.in-Ok-true.ensures.shut c.in-Ok-true.field-0-test)

pub returns-in-Err-read_more-clause-told : goal.returns-in-Err-read_more-clause-told
returns-in-Err-read_more-clause-told g c = λ tells.
    looks_then ⊥ _ (g.T.Station.told c.args.station.now) (g.T.Station.told c.loop-fault.station) (g.T.Station.told c.read_more.new.station) (c.loop-fault.invariant.told tells) (λ f. f)
    (c.in-Err-read_more.ensures.told tells)

pub returns-in-Ok-eq0-clause-refused : goal.returns-in-Ok-eq0-clause-refused
returns-in-Ok-eq0-clause-refused g c = λ tells place is.
    let was = c.loop-fault.invariant in
    let read = was.read tells in
    let image = (g.T.Station.told c.args.station.now).journal in
    let at = c.loop-fault.reading.at in
    let leads = leads_takes c.loop-fault.reading.header c.loop-fault.reading.entries.list c.take_front.new.entries.list c.loop-fault.reading.bytes.items c.take_front.new.bytes.items (take at image)
    c.in-Ok-false.ensures.taken read.leads in
    let reads = subst (λ j. ReadsOn j at (length c.loop-fault.piece) c.in-Ok-eq0.field-0 c.take_front.new.bytes.items c.read_more.new.bytes.items) (was.told tells).untouched.journal (c.in-Ok-eq0.ensures.bytes tells) in
    let end = ended image at (length c.loop-fault.piece) c.take_front.new.bytes.items c.read_more.new.bytes.items read.inside (omega (arith, was.piece))
    (subst (λ n. ReadsOn image at (length c.loop-fault.piece) n c.take_front.new.bytes.items c.read_more.new.bytes.items) c.in-Ok-eq0.field-0-test reads) in
    let same : at ≡ place = placed at place is in
    subst (IsRefused image) same (read_ended c.loop-fault.reading.header c.take_front.new.entries.list c.take_front.new.bytes.items image at leads c.in-Ok-false.ensures.near end (c.in-Ok-false.ensures.waiting c.in-Ok-false.field-0-test))
  where
    placed : (at place : ℕ) → NotAJournal at ≡ NotAJournal place → at ≡ place
    placed at place is = cc

pub returns-in-Ok-eq0-clause-told : goal.returns-in-Ok-eq0-clause-told
returns-in-Ok-eq0-clause-told g c = λ tells.
    looks_none_failed _ (g.T.Station.told c.args.station.now) (g.T.Station.told c.loop-fault.station) (g.T.Station.told c.read_more.new.station) (c.loop-fault.invariant.told tells) (c.in-Ok-eq0.ensures.told tells)

pub overflow_add-reading : goal.overflow_add-reading
overflow_add-reading g c =
    let was = c.loop-fault.invariant in
    let counted : c.loop-fault.reading.at ≡ gate_place c.loop-fault.reading.entries.list + length c.loop-fault.reading.bytes.items = omega (arith, was.counted) in
    let low = low_place c.loop-fault.reading.at c.loop-fault.reading.entries.list c.take_front.new.entries.list c.loop-fault.reading.bytes.items c.take_front.new.bytes.items counted c.in-Ok-false.ensures.taken
    c.in-Ok-false.ensures.near (c.in-Ok-false.ensures.waiting c.in-Ok-false.field-0-test) in
    omega (arith, low, c.in-Ok.ensures.most, was.piece)

pub loop-fault-smaller : goal.loop-fault-smaller
loop-fault-smaller g c =
    let was = c.loop-fault.invariant in
    let counted : c.loop-fault.reading.at ≡ gate_place c.loop-fault.reading.entries.list + length c.loop-fault.reading.bytes.items = omega (arith, was.counted) in
    let low = low_place c.loop-fault.reading.at c.loop-fault.reading.entries.list c.take_front.new.entries.list c.loop-fault.reading.bytes.items c.take_front.new.bytes.items counted c.in-Ok-false.ensures.taken
    c.in-Ok-false.ensures.near (c.in-Ok-false.ensures.waiting c.in-Ok-false.field-0-test) in
    omega (arith, low, c.in-Ok.count-test)

pub loop-fault-preserved : goal.loop-fault-preserved
loop-fault-preserved g c =
    let was = c.loop-fault.invariant in
    let es = c.loop-fault.reading.entries.list in
    let fs = c.take_front.new.entries.list in
    let x = c.loop-fault.reading.bytes.items in
    let y = c.take_front.new.bytes.items in
    let at = c.loop-fault.reading.at in
    let header = c.loop-fault.reading.header in
    let image = (g.T.Station.told c.args.station.now).journal in
    record {
      counted = omega (arith, was.counted, takes_counted es fs x y c.in-Ok-false.ensures.taken, c.in-Ok.ensures.len);
      piece = c.in-Ok.ensures.piece ∙ was.piece;
      later = omega (arith, was.later, c.in-Ok.ensures.later);
      kept = elim (c.in-Ok.ensures.kept) [ inl failed ↦ absurd failed | inr same ↦ same ∙ was.kept ];
      read = λ tells. (let on = read_on header es fs x y c.read_more.new.bytes.items image at (length c.loop-fault.piece) c.in-Ok.count c.in-Ok-false.ensures.taken (was.read tells).leads (was.read tells).inside
          (subst (λ j. ReadsOn j at (length c.loop-fault.piece) c.in-Ok.count y c.read_more.new.bytes.items) (was.told tells).untouched.journal (c.in-Ok.ensures.bytes tells)) in record { leads = on.0; inside = on.1 });
      told = λ tells. looks_then ⊥ ⊥ (g.T.Station.told c.args.station.now) (g.T.Station.told c.loop-fault.station) (g.T.Station.told c.read_more.new.station) (was.told tells) (λ f. f) (c.in-Ok.ensures.told tells);
    }
  where
    read_on : (header : Header) (es fs : List Entry) (x y z image : List ℕ) (at room count : ℕ) → Takes es fs x y → Leads header es x (take at image) → at ≤ length image → ReadsOn image at room count y z
        → Leads header fs z (take (at + count) image) × (at + count ≤ length image)
    read_on header es fs x y z image at room count taken leads inside reads =
        let more = taken_on image at room count y z inside reads in (
          subst (λ l. Leads header fs z l) (sym more.0) (subst (λ l. Leads header fs l (take at image ++ take count (drop at image))) (sym reads.more)
              (leads_more header fs y (take count (drop at image)) (take at image) (leads_takes header es fs x y (take at image) taken leads))),
          more.1,
        )
