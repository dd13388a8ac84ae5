pub mod Grouped
pub mod Checking
pub mod Kept
pub mod Watching
pub mod Short
