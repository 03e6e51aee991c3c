mod Deeds
mod EventsRead
mod ScriptParts
mod ScriptSaid
pub mod ScriptAgain
mod Worked
mod Deliveries
mod Taking
mod RunFrames
mod HeardWell
mod StepsKeep
mod EventsKeep
pub mod WorldCable
pub mod Recorded
pub mod JoinedRuns
mod ByStation
mod Counted
pub mod CutScripts
mod Partly
mod Held
mod Failing
mod EndedRests
mod PlayerPolled
mod PlayerOpened
mod Places
mod Seated
mod SeatStep
mod ComesAlong
mod Progressed
mod HandheldStepped
mod ReceiverStepped
mod Stepped
mod WorldPlayed
pub mod Unarmed
mod LastAlong
mod Finished
mod FinishedWorld
mod Going
mod PlannedSeats
mod PolledOut
mod Delivered
mod Exchanged
mod StartedEnds
mod EventsPlayed
