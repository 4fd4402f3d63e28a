pub mod Header
pub mod Filter
pub mod Arbitration
pub mod Message
pub mod Phase
pub mod Reader
pub mod Read
pub mod Level
