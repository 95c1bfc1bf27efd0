use Rattle.std.proofs.Common.{◌+◌, drop}
use Rattle.std.proofs.lemmas.Result.{err_from_is_err_and}
use Rattle.delta.specs.Read.{operation_of}
use Rattle.delta.proofs.OperationLaws.{data-placed, hash-placed}
use Rattle.delta.proofs.operations.next.Goals as goal

pub returns-in_err-payload-in-1 : goal.returns-in_err-payload-in-1
unfolding operation_of
returns-in_err-payload-in-1 c =
    let a = c.args in
    let p = data-placed a.at (drop (a.at + 1) a.delta.now) in
    let q = err_from_is_err_and c.from_residual.result c.from_residual.ensures.1 in
    rw (c.in-1.is, q.1, q.2) (rw (← c.sized.ensures.value, c.in_err-payload-in-1.was) at p)

pub returns-in_ok-payload-in-1 : goal.returns-in_ok-payload-in-1
unfolding operation_of
returns-in_ok-payload-in-1 c =
    let a = c.args in
    let p = data-placed a.at (drop (a.at + 1) a.delta.now) in
    rw c.in-1.is (rw (← c.sized.ensures.value, c.in_ok-payload-in-1.was) at p)

pub returns-in_err-payload-in-2 : goal.returns-in_err-payload-in-2
unfolding operation_of
returns-in_err-payload-in-2 c =
    let a = c.args in
    let p = hash-placed a.at (drop (a.at + 1) a.delta.now) in
    let q = err_from_is_err_and c.from_residual-in_err-payload-in-2.result c.from_residual-in_err-payload-in-2.ensures.1 in
    rw (c.in-2.is, q.1, q.2) (rw (← c.sized-in-2.ensures.value, c.in_err-payload-in-2.was) at p)

pub returns-in_ok-payload-in-2 : goal.returns-in_ok-payload-in-2
unfolding operation_of
returns-in_ok-payload-in-2 c =
    let a = c.args in
    let p = hash-placed a.at (drop (a.at + 1) a.delta.now) in
    rw c.in-2.is (rw (← c.sized-in-2.ensures.value, c.in_ok-payload-in-2.was) at p)
