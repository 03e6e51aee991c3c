mod Known
mod Differing
mod Chosen
mod Loops
pub mod Said
pub mod Again
mod Worked
