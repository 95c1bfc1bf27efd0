use mathlib.Core.Path.{sym, ◌∙◌, ap}
use Prim.Native.Nat.{ℕ}
use mathlib.Core.List.{List}
use Rattle.protocol.specs.Replies.{replied_of}
use Rattle.protocol.proofs.StatusText.{every-status}
use Rattle.reply.specs.Parts.{written}
use Rattle.reply.proofs.Joined.{sent, none-due, held}
use Rattle.reply.proofs.Putting.{written_none}
use Rattle.reply.proofs.send.Goals as goal

pub returns-in_default-clause-buffer_after : goal.returns-in_default-clause-buffer_after
unfolding replied_of
returns-in_default-clause-buffer_after c = rw (c.in_default.is, none-due) (written_none _)

pub returns-in_default-clause-every_status : goal.returns-in_default-clause-every_status
returns-in_default-clause-every_status c = every-status

pub returns-then-is_held-clause-buffer_after : goal.returns-then-is_held-clause-buffer_after
unfolding replied_of
returns-then-is_held-clause-buffer_after c =
    rw (c.in-Some.is, held _ (sym c.is_held.ensures ∙ c.if-is_held.true)) (written_none _)

pub returns-then-is_held-clause-every_status : goal.returns-then-is_held-clause-every_status
returns-then-is_held-clause-every_status c = every-status

pub returns-clause-buffer_after : goal.returns-clause-buffer_after
unfolding replied_of
returns-clause-buffer_after c =
    c.put_fields.ensures
    ∙ rw (
      c.in-Some.is,
      c.as_slice.ensures,
      c.as_slice-2.ensures,
      c.as_slice-3.ensures,
      c.size_text-size.ensures,
      c.as_slice-4.ensures,
      c.status_text-word.ensures,
    )
    (ap (λ (bs : List ℕ). written bs c.args.buffer.now) (sym (sent _ (sym c.is_held.ensures ∙ c.if-is_held.false))))

pub returns-clause-every_status : goal.returns-clause-every_status
returns-clause-every_status c = every-status
