-- In the order a newcomer would read them: the tables, and the cases over them.
pub mod Tables
pub mod Cases
