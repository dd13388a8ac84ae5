-- In the order a newcomer would read them: numbers in bytes, moves, a table in bytes and what it denotes, the refusals of a
-- table and of a rule, what answers say, and the calls on tables.
pub mod Numbers
pub mod Moves
pub mod Bytes
pub mod Tests
pub mod Valid
pub mod Rule
pub mod Answers
pub mod Reader
pub mod Writer
pub mod State
-- No promise rests on what follows: the first is for laws, the others for inner functions.
pub mod Order
pub mod Offers
pub mod Seek
pub mod Putting
pub mod Held
