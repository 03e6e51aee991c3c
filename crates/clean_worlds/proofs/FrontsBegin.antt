-- A front of the steps of a world begins a life too.
use Rattle.std.proofs.Common.{ℕ, List, [], ◌∷◌, ◌++◌}
use Rattle.dsd_values.specs.declared.role.Role.{Role}
use Rattle.dsd_station.specs.declared.call.Reception.{Reception}
use Rattle.dsd_station.specs.Heard.{answers_in, said_in}
use Rattle.dsd_station.specs.Logged.{Log}
use Rattle.dsd_station.specs.Replayed.{State, state_of}
use Rattle.dsd_journal.specs.declared.entry.Entry.{Entry}
use Rattle.dsd_journal.specs.declared.header.Header.{Header}
use Rattle.cable_world.specs.Leaving.{Begins, GoesOn, IsBegun, state_behind}
use Rattle.cable_world.specs.Steps.{WorldStep}

module _ (role : Role) (header : Header) where
  goes_front : (front rest : List WorldStep) (state : State) (first : List Entry) (heard : List Reception) (gone : List ℕ) → GoesOn role header state first heard gone (front ++ rest)
      → GoesOn role header state first heard gone front
  goes_front [] rest state first heard gone on = tt
  goes_front (one ∷ front) rest state first heard gone on = (
    (λ not. goes_front front rest state first heard gone (on.0 not)),
    on.1,
    on.2,
    (λ own goes. goes_front front rest (state_behind state one) first (heard ++ answers_in one.part) (gone ++ said_in one.part) (on.3 own goes)),
    (λ own begins. let (next, begun, more) = on.4 own begins in (next, begun, goes_front front rest (state_behind state one) next (answers_in one.part) (said_in one.part) more)),
  )

  begins_front : (front rest : List WorldStep) (state : State) → Begins role header state (front ++ rest) → Begins role header state front
  begins_front [] rest state begins = tt
  begins_front (one ∷ front) rest state begins = (
    (λ not. begins_front front rest state (begins.0 not)),
    (λ own goes. ((begins.1 own goes).0, begins_front front rest (state_behind state one) (begins.1 own goes).1)),
    (λ own first. let (next, begun, more) = begins.2 own first in (next, begun, goes_front front rest (state_behind state one) next (answers_in one.part) (said_in one.part) more)),
  )

  pub begun_front : (log : Log) (front rest : List WorldStep) → IsBegun role header log (front ++ rest) → IsBegun role header log front
  begun_front log front rest begun = record { fine = begun.fine; nothing = begun.nothing; tells = begins_front front rest (state_of log.calls) begun.tells }
