-- The refusals of a call that writes, before the writer's, in their order.
use Rattle.std.specs.Prelude.{ℕ, Bool, cond, ltb, Option, Some, None}
use Rattle.command.specs.Framed.{frame_room}

-- the first that applies
unfoldable pub gate_of : (room : ℕ) (over ready : Bool) → Option ℕ
gate_of room over ready = cond (ltb room frame_room) (Some 9) (cond over (Some 17) (cond ready None (Some 18)))
