pub mod DraftRows
pub mod DraftTexts
pub mod Reading
pub mod Choosing
pub mod Worked
