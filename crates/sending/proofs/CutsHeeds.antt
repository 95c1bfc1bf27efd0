-- What a text makes of a session, and what is told of it, places apart, do not depend on what the scratch held before.
use Prim.Native.Nat.{ℕ}
use mathlib.Core.Path.{◌≡◌, refl, ap, ◌∙◌}
use mathlib.Core.Bool.{Bool, true, false, cond}
use mathlib.Core.List.{List}
use lib.ListN.{length}
use lib.Dec.{eqb}
use Rattle.std.specs.Prelude.{Option, Some, None}
use Rattle.octets.specs.Outcome.{Outcome}
use Rattle.decimal.specs.declared.Number.{Number}
use Rattle.command.specs.Read.{Answer}
use Rattle.command.specs.declared.Place.{Place}
use Rattle.command.specs.declared.Command.{Command}
use Rattle.protocol.specs.Sessions.{string_in, id_in, file_id_in}
use Rattle.protocol.proofs.Laws.{text-taken}
use Rattle.protocol.proofs.CutsReading.{SameReading, refused, read}
use Rattle.sending.specs.Transfers.{file_at, find_file, is_waiting, closed_stage, with_stage, put_file, moved}
use Rattle.sending.specs.Heeding.{heeded, word_of, session_heed, is_count, ok_heed, file_heed, found_heed, status_heed, is_ours, heed_of}
use Rattle.sending.specs.Calls.{read_heed}
use Rattle.sending.specs.Story.{is_unheard}
use Rattle.sending.specs.Sayings.{saying}
use Rattle.sending.specs.declared.Stage.TheVariants as Stage
use Rattle.sending.specs.declared.Transfer.{Transfer}
use Rattle.sending.specs.declared.News.{News}
use Rattle.sending.specs.declared.Heeded.{Heeded}
use Rattle.sending.specs.declared.Word.{Word}
use Rattle.sending.proofs.Hears.{or_left}

-- no refusal with 9, and the same with two scratches that hold the same at the place p
pub record Says (p : Place) (n : News) : Type 0 where
  pub taken : is_unheard n ≡ false
  pub same : (a b : List ℕ) → string_in a p ≡ string_in b p → saying n a ≡ saying n b

module _ (t : Transfer) (p : Place) where
  session-says : (w : Word) → Says p (session_heed t p w).news
  unfolding session_heed
  session-says Word.Ok = go (is_waiting t.stage)
    where
      go : (b : Bool) → Says p (cond b (heeded (with_stage t Stage.Open) News.Allowed) (heeded t News.Noted)).news
      go true = record { taken = refl; same = λ a b e. refl }
      go false = record { taken = refl; same = λ a b e. refl }
  session-says Word.Going = record { taken = refl; same = λ a b e. refl }
  session-says Word.Other = record { taken = refl; same = λ a b e. rw e }

  ok-says : (i : ℕ) (z : Number) → Says p (ok_heed t i z).news
  unfolding ok_heed
  ok-says i z = go (is_count z (file_at t i).sent)
    where
      go : (b : Bool) → let f = file_at t i in
          Says p (cond b (heeded (put_file t i (moved f (closed_stage f.stage) f.sent)) News.Noted) (heeded t (News.Differs i z))).news
      go true = record { taken = refl; same = λ a b e. refl }
      go false = record { taken = refl; same = λ a b e. refl }

  file-says : (i : ℕ) (z : Number) (w : Word) → Says p (file_heed t i z p w).news
  unfolding file_heed
  file-says i z Word.Ok = ok-says i z
  file-says i z Word.Going = record { taken = refl; same = λ a b e. refl }
  file-says i z Word.Other = record { taken = refl; same = λ a b e. rw e }

  found-says : (z : Number) (w : Word) (f : Option ℕ) → Says p (found_heed t z p w f).news
  unfolding found_heed
  found-says z w None = record { taken = refl; same = λ a b e. refl }
  found-says z w (Some i) = file-says i z w

  status-says : (file : List ℕ) (z : Number) (w : Word) → Says p (status_heed t file z p w).news
  unfolding status_heed
  status-says file z w = go (eqb (length file) 0)
    where
      go : (b : Bool) → Says p (cond b (session_heed t p w) (found_heed t z p w (find_file t file))).news
      go true = session-says w
      go false = found-says z w (find_file t file)

heed-says : (t : Transfer) (c : Command) (text scratch : List ℕ) → Says c.status (heed_of t c text scratch).news
unfolding heed_of
heed-says t c text scratch = go (is_ours t c.action (id_in c text))
  where
    go : (b : Bool) → Says c.status (cond b
        (status_heed t (file_id_in c text) c.size c.status (word_of (string_in scratch c.status))) (heeded t News.Ignored)).news
    go true = status-says t c.status (file_id_in c text) c.size (word_of (string_in scratch c.status))
    go false = record { taken = refl; same = λ a b e. refl }

-- the status is all that is looked at in the scratch
heed-same : (t : Transfer) (c : Command) (text a b : List ℕ) → string_in a c.status ≡ string_in b c.status
    → heed_of t c text a ≡ heed_of t c text b
unfolding heed_of
heed-same t c text a b e = rw e

-- ---- a text, with two scratches
pub record SameHeed (a b : Outcome Heeded) : Type 0 where
  pub transfer : a.answer.transfer ≡ b.answer.transfer
  pub said : saying a.answer.news a.buffer ≡ saying b.answer.news b.buffer
  pub taken : is_unheard a.answer.news ≡ false

pub read-heeds : (t : Transfer) (text : List ℕ) {o o' : Outcome Answer} → SameReading text o o'
    → SameHeed (read_heed t text o) (read_heed t text o')
read-heeds t text (refused n after after' l) =
    record { transfer = refl; said = refl; taken = or_left (eqb n 9) (eqb n 10) (text-taken n l) }
read-heeds t text (read c after after' s) =
    let e = heed-same t c text after after' s.status in
    let says = heed-says t c text after in
    record {
      transfer = ap (λ (h : Heeded). h.transfer) e;
      said = says.same after after' s.status ∙ ap (λ (h : Heeded). saying h.news after') e;
      taken = says.taken;
    }
