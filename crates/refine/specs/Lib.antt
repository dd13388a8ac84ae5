-- In the order a newcomer would read them: what an answer says, the refusals that come first, and what a call promises.
pub mod Verdicts
pub mod Refusals
pub mod Checking
-- No promise rests on what follows: it is for inner functions.
pub mod Walking
