pub mod Levels
pub mod Moves
pub mod FoundOnly
pub mod OneAnswer
pub mod WrittenBack
pub mod Made
pub mod Steps
