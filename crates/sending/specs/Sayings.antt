-- What a call tells, places apart.
use Rattle.std.specs.Prelude.{ℕ, List}
use Rattle.decimal.specs.declared.Number.{Number}
use Rattle.protocol.specs.Sessions.{string_in}
use Rattle.sending.specs.declared.News.{News}

-- news, in which a status that stopped stands by its bytes; or that a frame was written
pub data Saying : Type 0 where
  nothing : Saying
  refused : ℕ → Saying
  ignored : Saying
  noted : Saying
  allowed : Saying
  differs : ℕ → Number → Saying
  file_stopped : ℕ → List ℕ → Saying
  session_stopped : List ℕ → Saying
  written : Saying

-- given the scratch that the places are in
abbrev pub saying : News → List ℕ → Saying
saying News.Nothing scratch = Saying.nothing
saying (News.Refused n) scratch = Saying.refused n
saying News.Ignored scratch = Saying.ignored
saying News.Noted scratch = Saying.noted
saying News.Allowed scratch = Saying.allowed
saying (News.Differs i z) scratch = Saying.differs i z
saying (News.FileStopped i p) scratch = Saying.file_stopped i (string_in scratch p)
saying (News.SessionStopped p) scratch = Saying.session_stopped (string_in scratch p)
