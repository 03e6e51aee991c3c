pub mod Bounds
pub mod Pricing
pub mod WholeText
