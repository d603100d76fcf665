pub mod Memory
pub mod Exact
pub mod Runs
