-- Laws.
pub mod Standing
pub mod Kept
pub mod Sole
