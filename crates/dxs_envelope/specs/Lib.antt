pub mod Views
pub mod EnvelopeTable
pub mod FirstFault
pub mod Transmission
pub mod SetsLeft
pub mod Sending
pub mod TextParts
pub mod TextPieces
