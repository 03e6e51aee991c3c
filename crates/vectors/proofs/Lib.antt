pub mod Computed
pub mod Exchanges
