-- In the order a newcomer would read them: words and numbers as bytes, a line of fields, the line of an answer, and the call.
pub mod Text
pub mod Fields
pub mod Report
pub mod Maker
-- No promise rests on what follows: it is for inner functions.
pub mod Pen
