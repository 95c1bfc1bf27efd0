-- that `Isolated` is not empty, and false of wrong machines
pub mod Refuted
-- `Isolated ours`, from below: the machine of one session alone; what a table has of a session, found by its id; what every call makes of
-- it; and one run at a time, so that two runs with the same acts are the same run of the machine alone.
pub mod Alone
pub mod Views
pub mod Replies
pub mod Calls
pub mod Supplies
pub mod Commands
pub mod Begins
pub mod Obeys
pub mod Feeds
pub mod Runs
