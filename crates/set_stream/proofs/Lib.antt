pub mod Places
pub mod Streamed
