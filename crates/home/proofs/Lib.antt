pub mod Found
pub mod Lowest
pub mod Sets
pub mod Shown
