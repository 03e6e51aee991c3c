mod LoadWords
mod One
pub mod Two
mod Shaped
mod ShowWords
pub mod Five
pub mod OneJob
mod OnePolls
mod OneEnds
mod Replayed
mod OneReplay
pub mod OneStatus
pub mod SumUp
pub mod InPieces
pub mod Checked
pub mod BegunSets
mod Attaching
pub mod LegalSets
mod Rereading
mod Composed
mod EndsOf
mod Three
mod ByInput
mod ServedEnds
