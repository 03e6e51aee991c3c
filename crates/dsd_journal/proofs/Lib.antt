mod Peeling
pub mod Apart
mod Refusing
mod Titles
mod Sizes
mod Fronts
mod Deciding
mod Places
mod Takes
pub mod Looking
mod Calling
mod Ends
pub mod Resting
mod Synced
mod Gating
mod Appending
mod Appended
mod Formatted
