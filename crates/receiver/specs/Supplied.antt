-- What the table takes back of a session that was supplied.
use Rattle.std.specs.Prelude.{ℕ, None}
use Rattle.sessions.specs.declared.next.Next.{Next}
use Rattle.supplying.specs.declared.Left.{Left}

abbrev pub next_of : ℕ → Left → Next
next_of i x = record { place = i; session = x.session; owed = x.owed; told = x.told; reply = None }
