pub mod Reversed
pub mod Fed
pub mod Steps
pub mod EachByte
