pub mod Amounts
pub mod Moves
pub mod FoundOnly
pub mod OneRecord
pub mod Totalled
pub mod WrittenBack
pub mod Made
pub mod Steps
