pub mod Cells
pub mod Pending
pub mod Sets
pub mod Shown
