pub mod Numbers
pub mod Commas
pub mod Called
pub mod Drafted
pub mod Printing
pub mod Feeding
pub mod Cutting
