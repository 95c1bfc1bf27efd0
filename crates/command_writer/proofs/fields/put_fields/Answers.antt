use mathlib.Core.Path.{◌≡◌, refl, sym, ◌∙◌}
use native.Mathlib.Omega.{arith}
use Rattle.std.proofs.lemmas.Result.{err_from_is_err_and}
use Rattle.command.specs.Write.{checked_of}
use Rattle.command_writer.specs.Pieces.{pieces}
use Rattle.command_writer.proofs.Puts.{put-none, put_then}
use Rattle.command_writer.proofs.Turns.{turned, slots_length, values-all}
use Rattle.command_writer.proofs.fields.put_fields.Goals as goal

pub returns-in_err-put_field : goal.returns-in_err-put_field
returns-in_err-put_field c =
    let text = c.args.sources.now.text.now in
    let scratch = c.args.sources.now.scratch.now in
    let s = c.slots-slots in
    let l = c.loop-k in
    let p = err_from_is_err_and c.from_residual.result c.from_residual.ensures.1 in
    let n = slots_length c.args.command.now s.result s.ensures in
    let e = c.in_err-put_field.ensures in
    let told = turned s.result text scratch l.k (omega arith) (omega arith) l.draft.out.now _ l.draft.end _ _ e.1 in (
      e.0 ∙ l.invariant.0 ∙ c.put.ensures.0,
      rw (p.1, p.2, values-all c.args.command.now s.result s.ensures text scratch, sym l.invariant.1 ∙ told),
    )

pub loop-k-preserved : goal.loop-k-preserved
loop-k-preserved c =
    let text = c.args.sources.now.text.now in
    let scratch = c.args.sources.now.scratch.now in
    let s = c.slots-slots in
    let l = c.loop-k in
    let n = slots_length c.args.command.now s.result s.ensures in
    let e = c.in_ok-put_field.ensures in
    let told = turned s.result text scratch l.k (omega arith) (omega arith) l.draft.out.now _ l.draft.end _ _ e.1 in
    (e.0 ∙ l.invariant.0, sym told.0 ∙ l.invariant.1, λ end after p. l.invariant.2 end after (told.1 end after p))

pub returns : goal.returns
unfolding checked_of pieces
returns c =
    let text = c.args.sources.now.text.now in
    let scratch = c.args.sources.now.scratch.now in
    let s = c.slots-slots in
    let l = c.loop-k in
    let e : l.k ≡ 15 = omega arith in
    let i = rw e at l.invariant in
    let all = i.2 l.draft.end l.draft.out.now (put-none l.draft.out.now l.draft.end) in (
      l.invariant.0 ∙ c.put.ensures.0,
      rw (values-all c.args.command.now s.result s.ensures text scratch, sym i.1) (refl, put_then c.put.ensures.1 all),
    )
