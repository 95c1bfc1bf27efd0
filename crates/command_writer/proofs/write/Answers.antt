use Rattle.std.proofs.lemmas.Result.{err_from_is_err_and}
use Rattle.command.specs.RoundTrips.{WrittenThenRead, WritesCanonical}
use Rattle.command.proofs.RoundTrip.{written-then-read, writes_exactly}
use Rattle.command_writer.proofs.Checks.{put-fault}
use Rattle.command_writer.proofs.Ways.{refused-fault}
use Rattle.command_writer.proofs.write.Goals as goal

-- what the contract says of every command
claims : WrittenThenRead × WritesCanonical
claims = (written-then-read, writes_exactly)

pub returns-in_err-put_fields-clause-out_after : goal.returns-in_err-put_fields-clause-out_after
returns-in_err-put_fields-clause-out_after c =
    let a = c.args in
    let p = err_from_is_err_and c.from_residual.result c.from_residual.ensures.1 in
    let fault = put-fault _ _ _ _ _ _ c.in_err-put_fields.field-0.0 c.in_err-put_fields.ensures.1 in
    rw (p.1, p.2) (refused-fault a.command a.text.now a.scratch.now a.out.now _ fault)

pub returns-in_err-put_fields-clause-written_then_read : goal.returns-in_err-put_fields-clause-written_then_read
returns-in_err-put_fields-clause-written_then_read c = claims

pub returns-clause-written_then_read : goal.returns-clause-written_then_read
returns-clause-written_then_read c = claims
