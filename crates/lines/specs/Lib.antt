pub mod Model
pub mod Facts
pub mod Plain
pub mod Raws
pub mod Boards
pub mod Shown
