use Rattle.std.proofs.Common.{sym, ◌∙◌, subst, ◌≡◌, ◌++◌, false, Result, Err}
use Rattle.dsd_values.specs.declared.role.Role.TheVariants.{Receiver}
use Rattle.dsd_journal.specs.declared.opening.OpenFault.{OpenFault}
use Rattle.dsd_journal.specs.declared.opening.OpenFault.TheVariants.{Memory}
use Rattle.receiver_core.specs.Choosing.{receiver}
use Rattle.cable_world.specs.Players.{PlayerView}
use Rattle.cable_world.specs.SeatOpens.{PlayerOpens}
use Rattle.cable_world.proofs.PlayerOpened.{player_opened, unstarved_before}
use Rattle.cable_world.proofs.PlayerPolled.{if_ok_so}
use Rattle.cable_world.proofs.starting.open_receiver.Goals as goal

pub returns-clause-grows : goal.returns-clause-grows
returns-clause-grows c = let calls = c.open_receiver-opened.ensures.opened.opens.calls in record { more = calls.first ++ calls.reads; calls = calls.calls }

pub returns-clause-opens : goal.returns-clause-opens
returns-clause-opens c = λ before is.
    let chooser = receiver c.args.counts in
    let opened = c.open_receiver-opened.result in
    let after = c.open_receiver-opened.new.station in
    if_ok_so c.unless_memory.result (λ kept. (kept ≡ opened) × (c.starved-starved.result ≡ false) × (opened ≡ Err Memory → ⊥)) (λ kept. PlayerOpens Receiver chooser kept before after) c.unless_memory.ensures
    (λ kept so. subst (λ (r : Result PlayerView OpenFault). PlayerOpens Receiver chooser r before after) (sym so.0)
    (player_opened Receiver chooser opened before c.args.station.now after is c.open_receiver-opened.ensures.opened c.calls.ensures.played c.starved-starved.ensures.played
    (unstarved_before before c.args.station.now is c.requires.unstarved) (sym c.starved-starved.ensures.value ∙ so.1) c.starved-starved.ensures.short c.open_receiver-opened.ensures.cause so.2))

pub returns-clause-unstarved : goal.returns-clause-unstarved
returns-clause-unstarved c =
    if_ok_so c.unless_memory.result (λ kept. (kept ≡ c.open_receiver-opened.result) × (c.starved-starved.result ≡ false) × (c.open_receiver-opened.result ≡ Err Memory → ⊥)) (λ kept. c.open_receiver-opened.new.station.starved ≡ false) c.unless_memory.ensures
    (λ kept so. sym c.starved-starved.ensures.value ∙ so.1)
