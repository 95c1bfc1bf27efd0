-- The numbers of what is refused.
use Rattle.std.specs.Prelude.{ℕ}
use Rattle.recordings.specs.declared.Refusal.{Refusal}
use Rattle.recordings.specs.declared.Refusal.TheVariants.{TooLong, NoRoom}

abbrev pub refusal_number : Refusal → ℕ
refusal_number TooLong = 17
refusal_number NoRoom = 9
