pub mod LineTable
pub mod LineRun
pub mod Wire
pub mod LineLaw
pub mod StateSeen
pub mod SessionSeen
pub mod Sound
