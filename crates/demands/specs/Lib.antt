-- In the order a newcomer would read them: what calls did, and the one page that says what the product promises of its calls
-- together.
pub mod Calls
pub mod Promises
