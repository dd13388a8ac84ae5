-- In the order a newcomer would read them: what is seen of a system, when a flow passes, what a fault is and which one is
-- reported; tables; the nodes of a rule and the verdict; joins; the watchdog.
pub mod Lts
pub mod Pass
pub mod Fault
pub mod Order
pub mod Table
pub mod Numbered
pub mod Normal
pub mod Verdict
pub mod Join
pub mod Joined
pub mod Watchdog
-- No promise rests on what follows: the first is for laws, the second for inner functions.
pub mod Bisim
pub mod Stage
