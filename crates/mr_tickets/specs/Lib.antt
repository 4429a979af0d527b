pub mod Drawn
pub mod Rule
pub mod Plays
pub mod Views
pub mod Pieces
