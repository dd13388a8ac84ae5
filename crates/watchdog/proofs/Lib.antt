pub mod Splicing
pub mod Watched
pub mod Answering
pub mod Sole
pub mod Carried
