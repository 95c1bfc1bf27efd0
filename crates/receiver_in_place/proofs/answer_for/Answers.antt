use mathlib.Core.Path.{refl}
use Rattle.receiver_in_place.proofs.answer_for.Goals as goal

pub returns : goal.returns
returns c = (rw (← c.text-text.ensures, ← c.part-id.ensures) c.answer.ensures, refl)
