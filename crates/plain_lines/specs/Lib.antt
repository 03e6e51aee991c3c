pub mod PlainText
pub mod Refusing
pub mod Keyed
pub mod Counting
