use Rattle.std.proofs.Common.{refl, sym, subst, OnOk}
use Rattle.dsd_values.specs.declared.role.Role.{Role}
use Rattle.cable_world.specs.Feeding.{IsFed}
use Rattle.cable_world.proofs.Going.{on_ok_so}
use Rattle.cable_world.proofs.PolledOut.{feeds_handheld, feeds_receiver}
use Rattle.cable_world.proofs.cable.Cable.feed.Goals as goal

pub returns-in-Supplier : goal.returns-in-Supplier
returns-in-Supplier c =
    let old = c.args.self.now in
    let what = c.args.given.now in
    let new = record old { handheld = c.feed.new.self } in
    subst (λ (r : Role). OnOk c.feed.result (IsFed r what old new)) (sym c.in-Supplier.is) (on_ok_so c.feed.result c.feed.ensures (λ is. feeds_handheld what old new c.requires.ready refl refl refl is refl))

pub returns-in-Receiver : goal.returns-in-Receiver
returns-in-Receiver c =
    let old = c.args.self.now in
    let what = c.args.given.now in
    let new = record old { receiver = c.feed-in-Receiver.new.self } in
    subst (λ (r : Role). OnOk c.feed-in-Receiver.result (IsFed r what old new)) (sym c.in-Receiver.is)
    (on_ok_so c.feed-in-Receiver.result c.feed-in-Receiver.ensures (λ is. feeds_receiver what old new c.requires.ready refl refl refl is refl))
