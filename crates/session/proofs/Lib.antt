pub mod Lists
pub mod Boards
pub mod Drawn
pub mod Parked
pub mod Keeps
pub mod Scripts
