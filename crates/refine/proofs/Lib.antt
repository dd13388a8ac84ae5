pub mod Tested
pub mod Later
pub mod Promised
pub mod Sole
pub mod Complete
