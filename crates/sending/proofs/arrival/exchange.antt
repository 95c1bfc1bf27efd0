-- What every exchange keeps, whatever the turns; that it is whole at rest; and that turns bring it there.
pub mod Feeds
pub mod Answers
pub mod Hears
pub mod Writes
pub mod Invariant
pub mod Turns
pub mod Rest
pub mod Rooms
pub mod Progress
pub mod GoesOn
