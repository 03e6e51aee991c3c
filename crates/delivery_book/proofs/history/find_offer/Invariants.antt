use Rattle.std.proofs.Common.{◌≡◌, drop, find}
use Rattle.delivery_book.specs.StandFaults.{is_offer}
use Rattle.delivery_book.proofs.history.find_offer.Given as goal

abbrev pub invariant-loop-offer : goal.invariant-loop-offer
invariant-loop-offer l = find (is_offer l.level l.check) (drop l.offer-index l.offers) ≡ find (is_offer l.level l.check) l.offers
