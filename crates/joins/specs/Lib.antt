-- In the order a newcomer would read them; all but the first are for inner functions only.
pub mod Joining
-- No promise rests on what follows: it is for inner functions.
pub mod Next
pub mod Numbered
pub mod Pairs
pub mod Paired
pub mod Placed
