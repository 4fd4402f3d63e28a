pub mod Control
pub mod Outcomes
pub mod Copies
pub mod Look
pub mod Pages
pub mod Endings
pub mod Runs
pub mod SendingLemmas
