-- What a call promises.
pub mod Asking
-- No promise rests on what follows: it is for inner functions.
pub mod Rows
pub mod Tests
