-- The ways of writing a command.
use Prim.Native.Nat.{ℕ, ◌+◌, ◌-◌, ◌<◌}
use mathlib.Core.Path.{◌≡◌, sym}
use mathlib.Core.Bool.{Bool, true, false, cond, ◌||◌}
use mathlib.Core.List.{List, []}
use native.Mathlib.Omega.{arith}
use native.Mathlib.Decide.{dec_lt}
use lib.ListN.{length, get_or, drop, length-take, length-drop}
use lib.Dec.{ltb, leb, eqb}
use borrow.Author.Tests.{lt-ltb, ltb-false, leb-true}
use Rattle.octets.specs.Outcome.{outcome}
use Rattle.decimal.specs.declared.Number.{Number}
use Rattle.frames.specs.Stream.{text_limit}
use Rattle.command.specs.Keys.{Kind, keys}
use Rattle.command.specs.Values.{Value, Shown, unshown, word_shown, shown}
use Rattle.command.specs.Meaning.{bytes_in, missing}
use Rattle.command.specs.Canonical.{canonical}
use Rattle.command.specs.Slots.{action_code, slots_of, bytes_at, values_of}
use Rattle.command.specs.Write.{Checked, Answer, before, checked_of, write_of}
use Rattle.command.specs.declared.Command.{Command}
use Rattle.command.specs.declared.Place.{Place}
use Rattle.command.specs.declared.Refusal.{Refusal}
use Rattle.command.proofs.Cases.{by_test, either_false}
use Rattle.command_writer.specs.Stores.{spare, Put}
use Rattle.command_writer.specs.Pieces.{whole}
use Rattle.command_writer.proofs.Canons.{fine-at, canonical-pieces}

-- ---- an action and an id
-- a place's bytes are as many as it says, if it is of its kind
place-length : (l : List ℕ) (p : Place) → before (shown (Kind.safe true) (bytes_at l p)) Checked.fine ≡ Checked.fine
    → length (bytes_in (bytes_at l p)) ≡ p.len
unfolding shown bytes_at
place-length l p =
    by_test (λ (v : Value). before (shown (Kind.safe true) v) Checked.fine ≡ Checked.fine → length (bytes_in v) ≡ p.len)
    (leb (p.start + p.len) (length l))
    (λ t e. omega (arith, leb-true (p.start + p.len) (length l) t, length-take p.len (drop p.start l), length-drop p.start l))
    (λ t e. (let z : ◌≡◌ {A = ℕ} 0 1 = cc in absurd (omega arith)))

word-there : (unknown : Refusal) (first : ℕ) (ws : List (List ℕ)) (n : Number) → eqb n.magnitude 0 ≡ false
    → word_shown unknown first ws n ≡ Shown.left_out → ⊥
unfolding word_shown
word-there unknown first ws n h e = go n.negative (ltb (n.magnitude - first) (length ws)) (rw h at e)
  where
    go : (s t : Bool)
        → cond s (unshown unknown) (cond t (Shown.text (get_or ws (n.magnitude - first) [])) (unshown unknown)) ≡ Shown.left_out → ⊥
    go true t q = let z : ◌≡◌ {A = ℕ} 0 1 = cc in omega arith
    go false true q = let z : ◌≡◌ {A = ℕ} 0 1 = cc in omega arith
    go false false q = let z : ◌≡◌ {A = ℕ} 0 1 = cc in omega arith

-- ---- lengths
-- lengths that leave the same are over the limit, or over another length, together
over-same : (n m len : ℕ) → spare n ≡ spare m → (ltb text_limit n || ltb len n) ≡ (ltb text_limit m || ltb len m)
over-same n m len s = go (dec_lt text_limit n)
  where
    go : Dec (text_limit < n) → (ltb text_limit n || ltb len n) ≡ (ltb text_limit m || ltb len m)
    go (yes h) = rw (lt-ltb text_limit n h, lt-ltb text_limit m (omega arith))
    go (no h) = let e : n ≡ m = omega arith in rw e

-- ---- the answers
module _ (c : Command) (text scratch out : List ℕ) where
  abbrev vs : List Value
  vs = values_of c text scratch

  abbrev lacking : Bool
  lacking = eqb (action_code c.action) 0 || eqb c.id.len 0

  pub refused-fault : (n : ℕ) → checked_of keys vs ≡ Checked.fault n → outcome (Answer.refused n) out ≡ write_of vs out
  unfolding write_of
  refused-fault n e = rw e

  module _ (fine : checked_of keys vs ≡ Checked.fine) where
    missing-is : missing vs ≡ lacking
    unfolding values_of slots_of
    missing-is = rw (place-length text c.id (fine-at keys vs 4 (omega arith) fine))

    pub refused-missing : lacking ≡ true → outcome (Answer.refused 7) out ≡ write_of vs out
    unfolding write_of
    refused-missing m = rw (fine, missing-is, m)

    module _ (there : lacking ≡ false) (n : ℕ) (size : spare n ≡ spare (length (whole vs))) where
      canonical-is : canonical vs ≡ whole vs
      unfolding values_of slots_of shown
      canonical-is = canonical-pieces _ _ fine (λ e. word-there _ _ _ _ (either_false _ _ there).0 e)

      abbrev short : Bool
      short = ltb text_limit n || ltb (length out) n

      short-is : (ltb text_limit (length (canonical vs)) || ltb (length out) (length (canonical vs))) ≡ short
      short-is = rw canonical-is (sym (over-same n (length (whole vs)) (length out) size))

      pub refused-room : short ≡ true → outcome (Answer.refused 9) out ≡ write_of vs out
      unfolding write_of
      refused-room o = rw (fine, missing-is, there, short-is, o)

      pub written : short ≡ false → (end : ℕ) (after : List ℕ) → Put (whole vs) out 0 end after
          → outcome (Answer.written end) after ≡ write_of vs out
      unfolding write_of
      written o end after p =
          let u = either_false (ltb text_limit n) (ltb (length out) n) o in
          let h = ltb-false text_limit n u.0 in
          let k = ltb-false (length out) n u.1 in
          let i : end ≡ length (whole vs) = omega (arith, p.ends) in
          rw (i, p.stores (omega arith) (omega arith), fine, missing-is, there, short-is, o, canonical-is)
