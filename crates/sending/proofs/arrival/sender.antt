-- What the sender makes of an order that it writes, and of a reply that it hears.
pub mod Records
pub mod Behind
pub mod Writes
pub mod Hears
