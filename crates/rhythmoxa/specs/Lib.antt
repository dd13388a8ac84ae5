-- In the order a newcomer would read them: an answer as eight numbers, where the moves of a state stand, the calls.
pub mod Layout
pub mod Place
pub mod Calls
