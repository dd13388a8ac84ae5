pub mod Numbers
pub mod Lengths
pub mod Few
pub mod Putting
pub mod Sole
