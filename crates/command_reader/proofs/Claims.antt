-- What the contract of `read` says of every text.
use Rattle.command.specs.Read.{ReadMeans}
use Rattle.command.specs.RoundTrips.{ReadThenWritten}
use Rattle.command.proofs.Simulation.{read-means}
use Rattle.command.proofs.RoundTrip.{read-then-written}

pub claims : ReadMeans × ReadThenWritten
claims = (read-means, read-then-written)
