pub mod Composing
pub mod TurnsGrowing
pub mod Stopping
pub mod LegalTexts
pub mod Taken
pub mod TakingOn
pub mod Signs
pub mod Answering
pub mod Heads
pub mod Adjusting
pub mod AskedAs
pub mod GatheredAs
pub mod SignedTexts
pub mod Framing
pub mod Looping
pub mod Reached
pub mod Turning
mod Idling
