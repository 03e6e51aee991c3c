pub mod Command
pub mod Shapes
