pub mod Deliveries
pub mod Route
pub mod RouteText
