-- Lists: tests of every member, what is empty, and records that fill a room from the front.
pub mod Members
pub mod Empty
pub mod Seams
