-- What a step leaves, without the table: a session for a place, and how the table takes it.
use Rattle.std.specs.Prelude.{ℕ, set, Option}
use Rattle.command.specs.declared.Place.{Place}
use Rattle.protocol.specs.Change.{edited, owed_after, told_by, stepped}
use Rattle.protocol.specs.declared.Due.{Due}
use Rattle.protocol.specs.declared.Session.{Session}
use Rattle.protocol.specs.declared.Table.{Table}
use Rattle.protocol.specs.declared.Change.{Change}
use Rattle.protocol.specs.declared.Stepped.{Stepped}
use Rattle.sessions.specs.declared.next.Next.{Next}

-- the table afterwards: the session stands at its place
abbrev pub takes : Table → Next → Table
takes t n = record { sessions = set t.sessions n.place n.session; owed = n.owed }

-- the step that it is
abbrev pub taken : Table → Next → Stepped
taken t n = stepped (takes t n) n.told n.reply

-- of the session at place i by its change, o being owed before: put back, it is `step_by`
abbrev pub next_by : Session → ℕ → Option (ℕ × Due) → Place → Change → Next
next_by s i o p c =
    record {
      place = i;
      session = edited s c.file c.edit;
      owed = owed_after o i c.news;
      told = told_by p c.news;
      reply = c.reply;
    }
