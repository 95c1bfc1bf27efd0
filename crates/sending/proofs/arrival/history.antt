-- What the console's history has of a whole send: each file's contents, and no other command.
pub mod Marks
pub mod Contents
pub mod Arrived
