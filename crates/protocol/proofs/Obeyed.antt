-- What it is that a command, read while nothing is owed, keeps the invariant; and how the session that it concerns is put back.
use Prim.Native.Nat.{ℕ, ◌<◌}
use mathlib.Core.Path.{◌≡◌, ◌∙◌}
use mathlib.Core.Bool.{true, false}
use mathlib.Core.List.{List, ◌∷◌}
use lib.ListN.{length, get_or, set}
use Rattle.std.specs.Prelude.{Option, Some, None}
use Rattle.octets.specs.Slices.{equals}
use Rattle.command.specs.Meaning as Meaning
use Rattle.command.specs.declared.Command.{Command as PlacedCommand}
use Rattle.protocol.specs.Table.{no_session, id_of, find_session, session_used}
use Rattle.protocol.specs.Change.{stepped}
use Rattle.protocol.specs.Sessions.{id_in}
use Rattle.protocol.specs.Calls.{is_owed}
use Rattle.protocol.specs.History.{Command, Heard, hearing, Mark, hearing_mark, last_ask}
use Rattle.protocol.specs.Stretches.{AllStand}
use Rattle.protocol.specs.Machine.{is_unfed}
use Rattle.protocol.specs.Sound.{Sound}
use Rattle.protocol.specs.declared.Due.{Due}
use Rattle.protocol.specs.declared.Session.{Session}
use Rattle.protocol.specs.declared.Table.{Table}
use Rattle.protocol.specs.declared.Told.{Told}
use Rattle.protocol.specs.declared.Reply.{Reply}
use Rattle.protocol.specs.declared.Stepped.{Stepped}
use Rattle.protocol.proofs.Laws.{found_at, unique-other}
use Rattle.protocol.proofs.Means.{Means}
use Rattle.protocol.proofs.Invariant.{SessionOK, AskedLast, TableOK}
use Rattle.protocol.proofs.Marks.{is_heard, session-read, served-read}
use Rattle.protocol.proofs.Done.{NoneDone}
use Rattle.protocol.proofs.Tellings.{is_plain, plain}
use Rattle.protocol.proofs.Backs.{table}
use Rattle.protocol.proofs.Puts.{put-ok}

-- nothing owed
abbrev pub idle : List Session → Table
idle ss = table ss None

abbrev pub session_in : List Session → ℕ → Session
session_in ss i = get_or ss i no_session

-- a step keeps the invariant when the command d is read, turns no record done, and is no refusal
pub record Kept (ss : List Session) (m : List Mark) (d : Command) (scratch : List ℕ) (out : Stepped) : Type 0 where
  pub ok : TableOK out.table (hearing_mark (hearing out.told scratch) (Mark.read d ∷ m))
  pub none : NoneDone (idle ss) out.table
  pub taken : is_unfed out.told ≡ false

pub kept-plain : {ss : List Session} {m : List Mark} {d : Command} {scratch : List ℕ} (t : Table) (w : Told) (r : Option Reply)
    → is_plain w ≡ true → TableOK t (Mark.read d ∷ m) → NoneDone (idle ss) t → Kept ss m d scratch (stepped t w r)
kept-plain {ss} {m} {d} {scratch} t w r e ok none =
    let p = plain w e in record { ok = rw (p.silent scratch) ok; none = none; taken = p.taken }

-- ---- the session that has the command's id
pub record Here (ss : List Session) (d : Command) (i : ℕ) : Type 0 where
  pub inside : i < length ss
  pub used : session_used (session_in ss i) ≡ true
  pub id : id_of (session_in ss i) ≡ Meaning.id_of d

-- as it is found
pub here : {ss : List Session} {c : PlacedCommand} {text scratch : List ℕ} {d : Command} → Means c text scratch d → (i : ℕ)
    → find_session (idle ss) (id_in c text) ≡ Some i → Here ss d i
here {ss} {c} {text} means i e =
    let f = found_at session_used id_of no_session ss (id_in c text) i e in
    record { inside = f.0; used = f.1; id = f.2 ∙ means.id }

module _ {ss : List Session} {m : List Mark} {d : Command} (sound : Sound (idle ss)) (ok : TableOK (idle ss) m)
    {i : ℕ} (h : Here ss d i) where
  pub others : (j : ℕ) → (j ≡ i → ⊥) → session_used (session_in ss j) ≡ true → equals (id_of (session_in ss j)) (Meaning.id_of d) ≡ false
  others j n o = unique-other session_used id_of no_session ss i (Meaning.id_of d) sound.alone h.used h.id j n o

  -- it is put back as s, with an ask told and owed, or none
  pub kept_put : {scratch : List ℕ} (s : Session) (o : Option (ℕ × Due)) (w : Told) (r : Option Reply) (x : Option Heard)
      → hearing w scratch ≡ x
      → is_unfed w ≡ false
      → is_owed o ≡ is_heard x
      → SessionOK (is_heard x) (hearing_mark x (Mark.read d ∷ m)) s
      → AskedLast (set ss i s) (last_ask (hearing_mark x (Mark.read d ∷ m))) o
      → AllStand (hearing_mark x (Mark.read d ∷ m))
      → NoneDone (idle ss) (table (set ss i s) o)
      → Kept ss m d scratch (stepped (table (set ss i s) o) w r)
  kept_put s o w r x hears taken owes mine asked told none =
      record {
        ok =
            rw hears
            (put-ok (idle ss) i s o h.inside
            (λ j n. rw owes (session-read d m x (session_in ss j) (others j n) (ok.each j))) (rw owes mine) asked told
            (served-read m d x ok.served));
        none = none;
        taken = taken;
      }
