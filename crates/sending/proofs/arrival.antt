-- `Arrives ours`, from below. A send is a path of orders from point to point, and everything is a function of the points: the texts on the
-- line, the receiver's table, the sender's session and the history's marks. Each side's step is one equation per order; the line tells the
-- texts one by one, however it is cut; an exchange divides the plan's orders in five, and every turn moves one border or none.
pub mod lists
pub mod path
pub mod receiver
pub mod sender
pub mod line
pub mod history
pub mod exchange
-- that it is not empty, and false of wrong senders
pub mod examples
pub mod wrong
