pub mod Answer
pub mod Runs
pub mod Placed
