pub mod Order
pub mod Bounds
pub mod Burst
pub mod Delivery
