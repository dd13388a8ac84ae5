-- Of any system: runs, passing, faults, the order of traces.
pub mod Runs
pub mod Passing
pub mod Faults
pub mod Ordering
-- Joins of systems, and demand 3 over them.
pub mod Bisimilar
pub mod Joining
pub mod Grouping
pub mod Assume
-- Of tables, which are finite: what is decided, and demand 3 over tables.
pub mod Deciding
pub mod Tables
pub mod Joins
-- Lists numbered as found, and the normal form.
pub mod Places
pub mod Numbering
pub mod Finding
pub mod Nodes
pub mod Forms
-- The product of nodes and flow states, and where faults show.
pub mod Short
pub mod Product
pub mod Closed
pub mod PairFaults
-- The right verdict: at most one, and always one.
pub mod Unique
pub mod Testing
pub mod Words
pub mod Codes
pub mod Judging
pub mod Collect
pub mod Total
-- The watchdog.
pub mod Watching
pub mod Watched
-- Tests of joins and watchdogs.
pub mod JudgingJoins
pub mod JudgingWatchdogs
