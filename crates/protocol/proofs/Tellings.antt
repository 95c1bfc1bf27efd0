-- What a step can tell: something plain, or an ask with the place of the command's payload.
use Prim.Native.Nat.{ℕ}
use mathlib.Core.Path.{◌≡◌, refl, sym}
use mathlib.Core.Bool.{Bool, true, false}
use mathlib.Core.List.{List}
use Rattle.std.specs.Prelude.{None}
use Rattle.command.specs.Slots.{nowhere}
use Rattle.command.specs.declared.Place.{Place}
use Rattle.protocol.specs.Change.{ask_of, told_by}
use Rattle.protocol.specs.Receives.{out_of_turn}
use Rattle.protocol.specs.Rule.{done_by, failed_by, unlisted_by}
use Rattle.protocol.specs.Sessions.{string_in}
use Rattle.protocol.specs.History.{hearing}
use Rattle.protocol.specs.Machine.{is_unfed, is_refused}
use Rattle.protocol.specs.Cuts.{saying}
use Rattle.protocol.specs.Isolation.{is_asking}
use Rattle.protocol.specs.declared.Due.{Due}
use Rattle.protocol.specs.declared.Session.{Session}
use Rattle.protocol.specs.declared.Failure.{Failure}
use Rattle.protocol.specs.declared.Told.{Told}
use Rattle.protocol.specs.declared.Change.{Change}
use Rattle.protocol.proofs.Laws.{no_way}

-- neither an ask nor a refusal
abbrev pub is_plain : Told → Bool
is_plain Told.Nothing = true
is_plain (Told.Refused n) = false
is_plain Told.Ignored = true
is_plain Told.DragDrop = true
is_plain Told.Asked = true
is_plain Told.Naming = true
is_plain Told.Path = true
is_plain Told.LastPath = true
is_plain (Told.Ask a) = false
is_plain (Told.Status w) = true
is_plain Told.Withdrawn = true
is_plain Told.Discarded = true
is_plain Told.Committed = true

-- it is heard as no ask, refuses nothing, and says the same whatever the scratch
pub record Plain (w : Told) : Type 0 where
  pub silent : (scratch : List ℕ) → hearing w scratch ≡ None
  pub unasking : (scratch : List ℕ) → is_asking (saying w scratch) ≡ false
  pub taken : is_unfed w ≡ false
  pub accepted : is_refused w ≡ false
  pub same : (scratch scratch' : List ℕ) → saying w scratch ≡ saying w scratch'

pub plain : (w : Told) → is_plain w ≡ true → Plain w
plain Told.Nothing e = record { silent = λ _. refl; unasking = λ _. refl; taken = refl; accepted = refl; same = λ _ _. refl }
plain (Told.Refused n) e = no_way (sym e)
plain Told.Ignored e = record { silent = λ _. refl; unasking = λ _. refl; taken = refl; accepted = refl; same = λ _ _. refl }
plain Told.DragDrop e = record { silent = λ _. refl; unasking = λ _. refl; taken = refl; accepted = refl; same = λ _ _. refl }
plain Told.Asked e = record { silent = λ _. refl; unasking = λ _. refl; taken = refl; accepted = refl; same = λ _ _. refl }
plain Told.Naming e = record { silent = λ _. refl; unasking = λ _. refl; taken = refl; accepted = refl; same = λ _ _. refl }
plain Told.Path e = record { silent = λ _. refl; unasking = λ _. refl; taken = refl; accepted = refl; same = λ _ _. refl }
plain Told.LastPath e = record { silent = λ _. refl; unasking = λ _. refl; taken = refl; accepted = refl; same = λ _ _. refl }
plain (Told.Ask a) e = no_way (sym e)
plain (Told.Status w) e = record { silent = λ _. refl; unasking = λ _. refl; taken = refl; accepted = refl; same = λ _ _. refl }
plain Told.Withdrawn e = record { silent = λ _. refl; unasking = λ _. refl; taken = refl; accepted = refl; same = λ _ _. refl }
plain Told.Discarded e = record { silent = λ _. refl; unasking = λ _. refl; taken = refl; accepted = refl; same = λ _ _. refl }
plain Told.Committed e = record { silent = λ _. refl; unasking = λ _. refl; taken = refl; accepted = refl; same = λ _ _. refl }

-- what a command tells, its payload standing at p
pub data Tells (p : Place) : Told → Type 0 where
  tells : {w : Told} → is_plain w ≡ true → Tells p w
  asks : (d : Due) → Tells p (Told.Ask (ask_of p d))

pub tells-taken : {p : Place} {w : Told} → Tells p w → is_unfed w ≡ false
tells-taken {p} {w} (tells e) = (plain w e).taken
tells-taken (asks d) = refl

-- the same with two scratches that hold the same payload
pub tells-same : {p : Place} {w : Told} (scratch scratch' : List ℕ) → string_in scratch p ≡ string_in scratch' p → Tells p w
    → saying w scratch ≡ saying w scratch'
tells-same {p} {w} scratch scratch' e (tells h) = (plain w h).same scratch scratch'
tells-same scratch scratch' e (asks (Due.OpenFile j)) = refl
tells-same scratch scratch' e (asks (Due.OpenDirectory j)) = refl
tells-same scratch scratch' e (asks (Due.Write j n)) = rw e
tells-same scratch scratch' e (asks (Due.WriteLast j n)) = rw e
tells-same scratch scratch' e (asks Due.Commit) = refl
tells-same scratch scratch' e (asks Due.Request) = refl

-- an answer to what is due is refused for a request alone, and then nothing else is told
pub data AnswerTold (c : Change) : Type 0 where
  taken : is_plain (told_by nowhere c.news) ≡ true → AnswerTold c
  refused : c ≡ out_of_turn → AnswerTold c

pub done-told : (s : Session) (d : Due) → AnswerTold (done_by s d)
unfolding done_by
done-told s (Due.OpenFile j) = taken refl
done-told s (Due.OpenDirectory j) = taken refl
done-told s (Due.Write j n) = taken refl
done-told s (Due.WriteLast j n) = taken refl
done-told s Due.Commit = taken refl
done-told s Due.Request = refused refl

pub failed-told : (e : Failure) (s : Session) (d : Due) → AnswerTold (failed_by e s d)
unfolding failed_by
failed-told e s (Due.OpenFile j) = taken refl
failed-told e s (Due.OpenDirectory j) = taken refl
failed-told e s (Due.Write j n) = taken refl
failed-told e s (Due.WriteLast j n) = taken refl
failed-told e s Due.Commit = taken refl
failed-told e s Due.Request = taken refl

pub unlisted-told : (s : Session) (d : Due) → AnswerTold (unlisted_by s d)
unfolding unlisted_by
unlisted-told s (Due.OpenFile j) = refused refl
unlisted-told s (Due.OpenDirectory j) = refused refl
unlisted-told s (Due.Write j n) = refused refl
unlisted-told s (Due.WriteLast j n) = refused refl
unlisted-told s Due.Commit = refused refl
unlisted-told s Due.Request = taken refl
