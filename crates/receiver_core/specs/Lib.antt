pub mod CountTexts
pub mod Reading
pub mod Choosing
pub mod Worked
