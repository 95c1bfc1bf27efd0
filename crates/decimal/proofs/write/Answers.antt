use Rattle.decimal.specs.Claims.{FixedReads, WrittenReads}
use Rattle.decimal.proofs.Digits.{read-fixed}
use Rattle.decimal.proofs.RoundTrip.{written-reads}
use Rattle.decimal.proofs.write.Goals as goal

claims : WrittenReads × FixedReads
claims = (written-reads, read-fixed)

pub returns-then-n-eq0-clause-written_reads : goal.returns-then-n-eq0-clause-written_reads
returns-then-n-eq0-clause-written_reads c = claims

pub returns-then-n-limit-clause-written_reads : goal.returns-then-n-limit-clause-written_reads
returns-then-n-limit-clause-written_reads c = claims

pub returns-then-not-fits-clause-written_reads : goal.returns-then-not-fits-clause-written_reads
returns-then-not-fits-clause-written_reads c = claims

pub returns-clause-written_reads : goal.returns-clause-written_reads
returns-clause-written_reads c = claims
