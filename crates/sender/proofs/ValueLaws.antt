-- The values of the commands that the calls write by places are those of the definitions.
use Prim.Native.Nat.{ℕ, ◌+◌, ◌≤◌, min, zero-le}
use mathlib.Core.Path.{◌≡◌, ap, ◌∙◌}
use mathlib.Core.Bool.{Bool}
use mathlib.Core.List.{List, []}
use native.Mathlib.Omega.{arith}
use lib.ListN.{length, take, drop}
use lib.Seq.{take-length}
use borrow.Author.Tests.{le-leb}
use Rattle.command.specs.Values.{Value}
use Rattle.command.specs.Slots.{slots_of, bytes_at, values_of}
use Rattle.command.specs.declared.Action.{Action}
use Rattle.command.specs.declared.Place.{Place}
use Rattle.protocol.specs.Written.{values_with, piece_action, piece_values}
use Rattle.sending.specs.Commands.{send_values, file_values, finish_values}
use Rattle.sender.specs.Places.{up_to, after, command_with, ids_of}
use Rattle.sender.proofs.IdLaws.{take-least, ids-length, ids-own, ids-file}

-- ---- what stands at a place
at_none : (l : List ℕ) → bytes_at l (up_to 0) ≡ Value.bytes []
unfolding bytes_at
at_none l = rw (le-leb 0 (length l) zero-le)

at_all : (l : List ℕ) → bytes_at l (up_to (length l)) ≡ Value.bytes l
unfolding bytes_at
at_all l = rw (le-leb (0 + length l) (length l) (omega arith), take-length)

at_first : (l : List ℕ) (k : ℕ) → k ≤ length l → bytes_at l (up_to k) ≡ Value.bytes (take k l)
unfolding bytes_at
at_first l k h = rw (le-leb (0 + k) (length l) (omega arith))

at_after : (l : List ℕ) (k : ℕ) → 32 + k ≤ length l → bytes_at l (after k) ≡ Value.bytes (take k (drop 32 l))
unfolding bytes_at
at_after l k h = rw (le-leb (32 + k) (length l) h)

-- ---- a command's values, from those of its places
values-with : (a : Action) (p q : Place) (n : ℕ) (u v : Place) (text scratch : List ℕ) {id file name contents : List ℕ}
    → bytes_at text p ≡ Value.bytes id → bytes_at text q ≡ Value.bytes file
    → bytes_at scratch u ≡ Value.bytes name → bytes_at scratch v ≡ Value.bytes contents
    → values_of (command_with a p q n u v) text scratch ≡ values_with a id file n name [] contents
unfolding values_of slots_of
values-with a p q n u v text scratch e f g h = rw (e, f, g, h, at_none text, at_none scratch)

pub send-values : (id : List ℕ)
    → values_of (command_with Action.Send (up_to (length id)) (up_to 0) 0 (up_to 0) (up_to 0)) id id ≡ send_values id
send-values id =
    values-with Action.Send (up_to (length id)) (up_to 0) 0 (up_to 0) (up_to 0) id id (at_all id) (at_none id) (at_none id) (at_none id)

pub finish-values : (own : List ℕ) (n : ℕ) → length own ≡ 32
    → values_of (command_with Action.Finish (up_to (min n 32)) (up_to 0) 0 (up_to 0) (up_to 0)) own own ≡ finish_values (take n own)
finish-values own n h =
    values-with Action.Finish (up_to (min n 32)) (up_to 0) 0 (up_to 0) (up_to 0) own own
    (at_first own (min n 32) (omega arith) ∙ rw (take-least own n h)) (at_none own) (at_none own) (at_none own)

module _ (own file : List ℕ) (n : ℕ) (h : length own ≡ 32) (l : length file ≤ 32) where
  ids-first : bytes_at (ids_of own file) (up_to (min n 32)) ≡ Value.bytes (take n own)
  ids-first =
      let m = ids-length own file h l in
      at_first (ids_of own file) (min n 32) (omega arith)
      ∙ ap (λ (b : List ℕ). Value.bytes b) (ids-own own file h l (min n 32) (omega arith) ∙ take-least own n h)

  ids-after : (k : ℕ) → k ≤ length file → bytes_at (ids_of own file) (after k) ≡ Value.bytes (take k file)
  ids-after k i =
      let m = ids-length own file h l in
      at_after (ids_of own file) k (omega arith) ∙ ap (λ (b : List ℕ). Value.bytes b) (ids-file own file h l k i)

  pub file-values : (name : List ℕ) (size : ℕ)
      → values_of (command_with Action.File (up_to (min n 32)) (after (length file)) size (up_to (length name)) (up_to 0))
      (ids_of own file) name
      ≡ file_values (take n own) file name size
  file-values name size =
      values-with Action.File (up_to (min n 32)) (after (length file)) size (up_to (length name)) (up_to 0) (ids_of own file) name
      ids-first (ids-after (length file) (omega arith) ∙ rw take-length) (at_all name) (at_none name)

  pub piece-values : (contents : List ℕ) (last : Bool) (m : ℕ) → length file ≡ 32
      → values_of (command_with (piece_action last) (up_to (min n 32)) (after (min m 32)) 0 (up_to 0) (up_to (length contents)))
      (ids_of own file)
      contents
      ≡ piece_values (take n own) (take m file) contents last
  piece-values contents last m e =
      values-with (piece_action last) (up_to (min n 32)) (after (min m 32)) 0 (up_to 0) (up_to (length contents)) (ids_of own file) contents
      ids-first (ids-after (min m 32) (omega arith) ∙ rw (take-least file m e)) (at_none contents) (at_all contents)
