mod Known
mod Plain
mod Rowed
mod Countered
mod Chosen
mod Made
mod Ended
pub mod Said
pub mod Again
mod Worked
