-- The fields one after another: what a turn of the loop over the keys does.
use Prim.Native.Nat.{ℕ, ◌+◌, ◌<◌}
use mathlib.Core.Path.{◌≡◌, ◌∙◌}
use mathlib.Core.List.{List, ◌∷◌, ◌++◌}
use native.Mathlib.Numerals.{add-one}
use lib.ListN.{length, get_or, drop}
use lib.Seq.{drop-cons}
use Rattle.std.specs.Prelude.{Result, Ok, Err}
use Rattle.command.specs.Keys.{Kind, key, keys, key_at, kind_at}
use Rattle.command.specs.Values.{Value, Shown, shown}
use Rattle.command.specs.Refusals.{refusal_number}
use Rattle.command.specs.Slots.{free, held, slots_of, value_at, values_at, values_of}
use Rattle.command.specs.Write.{Checked, before, checked_of}
use Rattle.command.specs.declared.Command.{Command}
use Rattle.command.specs.declared.Slot.{Slot}
use Rattle.command.specs.declared.Refusal.{Refusal}
use Rattle.command_writer.specs.Stores.{Put, PutOr}
use Rattle.command_writer.specs.Pieces.{piece, pieces}
use Rattle.command_writer.proofs.Puts.{put_then}
use Rattle.command_writer.proofs.Checks.{and_then, before-is, put-fine, put-fault}

-- ---- what is left from a key on
module _ (slots : List Slot) (text scratch : List ℕ) where
  abbrev pub values_from : ℕ → List Value
  values_from k = values_at (drop k keys) (drop k slots) text scratch

  abbrev pub checked_from : ℕ → Checked
  checked_from k = checked_of (drop k keys) (values_from k)

  abbrev pub pieces_from : ℕ → List ℕ
  pieces_from k = pieces (drop k keys) (values_from k)

  abbrev shown_at : ℕ → Shown
  shown_at k = shown (kind_at keys k) (value_at (kind_at keys k) (get_or slots k (held free)) text scratch)

  -- what the answer to the field of key k tells: it is put, and the others are left; or it is the first at fault
  abbrev pub Turned : ℕ → List ℕ → List ℕ → ℕ → Result (Unit {0}) Refusal → ℕ → Type 0
  Turned k out after at (Ok x) end =
      (checked_from k ≡ checked_from (k + 1))
      × ((e : ℕ) (a : List ℕ) → Put (pieces_from (k + 1)) after end e a → Put (pieces_from k) out at e a)
  Turned k out after at (Err r) end = checked_from k ≡ Checked.fault (refusal_number r)

  module _ (k : ℕ) (h : k < 15) (l : k < length slots) where
    values-at : values_from k ≡ value_at (kind_at keys k) (get_or slots k (held free)) text scratch ∷ values_from (k + 1)
    values-at = rw (add-one, drop-cons keys k (key "" Kind.integer) h, drop-cons slots k (held free) l)

    checked-at : checked_from k ≡ and_then (before (shown_at k) Checked.fine) (checked_from (k + 1))
    unfolding checked_of
    checked-at = rw (values-at, add-one, drop-cons keys k (key "" Kind.integer) h) (before-is (shown_at k) _)

    pieces-at : pieces_from k ≡ piece (key_at keys k).name (shown_at k) ++ pieces_from (k + 1)
    unfolding pieces
    pieces-at = rw (values-at, add-one, drop-cons keys k (key "" Kind.integer) h)

    pub turned : (out after : List ℕ) (at end : ℕ) (r : Result (Unit {0}) Refusal)
        → PutOr (before (shown_at k) Checked.fine) (piece (key_at keys k).name (shown_at k)) out at r end after
        → Turned k out after at r end
    turned out after at end (Ok x) p =
        let f = put-fine (before (shown_at k) Checked.fine) (piece (key_at keys k).name (shown_at k)) out after at end p in
        (checked-at ∙ rw f.0, λ e a q. rw pieces-at (put_then f.1 q))
    turned out after at end (Err r) p =
        checked-at ∙ rw (put-fault (before (shown_at k) Checked.fine) (piece (key_at keys k).name (shown_at k)) out after at end r p)

-- at the start everything is left
module _ (c : Command) (slots : List Slot) (e : slots ≡ slots_of c) where
  pub slots_length : length slots ≡ 15
  unfolding slots_of
  slots_length = rw e

  pub values-all : (text scratch : List ℕ) → values_of c text scratch ≡ values_from slots text scratch 0
  unfolding values_of
  values-all text scratch = rw e
