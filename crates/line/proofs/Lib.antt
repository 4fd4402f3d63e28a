pub mod Views
pub mod Buffers
pub mod BitTimes
