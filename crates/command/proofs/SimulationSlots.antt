-- The slots of all keys against their fields, and the command of the slots: its values are the fields' values.
use Prim.Native.Nat.{ℕ, zero, suc, ◌+◌, ◌≤◌, ◌<◌}
use mathlib.Core.Path.{◌≡◌, refl, ◌∙◌, ap}
use mathlib.Core.Bool.{Bool, true}
use mathlib.Core.List.{List, [], ◌∷◌}
use native.Mathlib.Omega.{arith}
use lib.ListN.{length, get_or, set}
use lib.Dec.{eqb, lit<}
use borrow.Author.Tests.{eqb-true}
use Rattle.std.specs.Prelude.{Option}
use Rattle.octets.specs.Split.{onto, split}
use Rattle.octets.proofs.Below
use Rattle.command.specs.Keys.{Alias, Kind, Key, keys, key_at}
use Rattle.command.specs.Values.{Value, count, Got}
use Rattle.command.specs.Meaning.{Field, blank, value_in, values_in}
use Rattle.command.specs.Slots.{action_code, action_of, file_type_code, file_type_of, transmission_code, transmission_of}
use Rattle.command.specs.Slots.{free, held, slots_of, command_of, value_at, values_at, values_of}
use Rattle.command.specs.Read.{frees, stored_for, slot_for}
use Rattle.command.specs.declared.Slot.{Slot}
use Rattle.command.specs.declared.Refusal.{Refusal}
use Rattle.command.proofs.ReadValues.{codes_end, Reads, as-word, as-string, as_bytes}
use Rattle.command.proofs.SimulationValues.{Holds, empty, full, holds-value}

-- ---- each key has one slot and one field, which H relates
pub data Each {S : Type 0} (H : Key → S → Field → Type 0) : List Key → List S → List Field → Type 0 where
  none : Each H [] [] []
  more : {k : Key} {ks : List Key} {s : S} {ss : List S} {f : Field} {fs : List Field} → H k s f → Each H ks ss fs
      → Each H (k ∷ ks) (s ∷ ss) (f ∷ fs)

module _ {H : Key → Option Slot → Field → Type 0} where
  pub each_at : {ks : List Key} {ss : List (Option Slot)} {fs : List Field} (n : ℕ) → n < length ks → Each H ks ss fs
      → H (key_at ks n) (get_or ss n free) (get_or fs n Field.unseen)
  each_at n l none = absurd (omega arith)
  each_at zero l (more h e) = h
  each_at (suc n) l (more h e) = each_at n (omega arith) e

  pub each_set : {ks : List Key} {ss : List (Option Slot)} {fs : List Field} {s : Option Slot} {f : Field} (n : ℕ)
      → Each H ks ss fs → H (key_at ks n) s f
      → Each H ks (set ss n s) (set fs n f)
  each_set n none g = none
  each_set zero (more h e) g = more g e
  each_set (suc n) (more h e) g = more h (each_set n e g)

  pub each-blank : ((k : Key) → H k free Field.unseen) → (ks : List Key) → Each H ks (frees ks) (blank ks)
  each-blank h [] = none
  each-blank h (k ∷ ks) = more (h k) (each-blank h ks)

  pub each_map : {G : Key → Option Slot → Field → Type 0} {ks : List Key} {ss : List (Option Slot)} {fs : List Field}
      → ((k : Key) (s : Option Slot) (f : Field) → H k s f → G k s f) → Each H ks ss fs → Each G ks ss fs
  each_map g none = none
  each_map g (more {k} {ks} {s} {ss} {f} h e) = more (g k s f h) (each_map g e)

-- ---- what a slot keeps, by its kind
bytes-within : {v : List ℕ} {x : Value} {used : ℕ} (at from : ℕ) → Reads Kind.base64 v (Got.got x)
    → from + length (stored_for Kind.base64 x) ≤ used
    → let p = (slot_for Kind.base64 at from x).place in p.start + p.len ≤ used
bytes-within at from (as_bytes o) w = w

module _ {t scratch : List ℕ} {used : ℕ} {name : List ℕ} where
  pub word_slot : {s : Option Slot} {f : Field} {unknown : Refusal} {first : ℕ} {ws : List (List ℕ)} {aliases : List Alias}
      → 0 < codes_end (first + length ws) aliases
      → Holds t scratch used (record { name = name; kind = Kind.word unknown first ws aliases }) s f
      → (count (held s).number.magnitude ≡ (held s).number) × ((held s).number.magnitude < codes_end (first + length ws) aliases)
  word_slot h empty = (refl, h)
  word_slot h (full at from v a (as-word l) w e) = (refl, l)

  pub string_slot : {s : Option Slot} {f : Field} {short : Bool} → Holds t scratch used (record { name = name; kind = Kind.safe short }) s f
      → (held s).place.start + (held s).place.len ≤ length t
  string_slot empty = omega arith
  string_slot (full at from v a (as-string s o) w e) = a.within

  pub bytes_slot : {s : Option Slot} {f : Field} → Holds t scratch used (record { name = name; kind = Kind.base64 }) s f
      → (held s).place.start + (held s).place.len ≤ used
  bytes_slot empty = omega arith
  bytes_slot (full at from v a r w e) = bytes-within at from r w

-- ---- the command of the slots
module _ (t scratch : List ℕ) where
  -- a slot gives the value of the field
  abbrev Gives : Key → Slot → Field → Type 0
  Gives k s f = value_at k.kind s t scratch ≡ value_in k f

  each-values : {ks : List Key} {ss : List Slot} {fs : List Field} → Each Gives ks ss fs → values_at ks ss t scratch ≡ values_in ks fs
  each-values none = refl
  each-values (more h e) = rw (h, each-values e)

  module _ (used : ℕ) (room : used ≤ length scratch) where
    gives : {k : Key} {s : Option Slot} {f : Field} → Holds t scratch used k s f → Gives k (held s) f
    gives h = holds-value t scratch used room h

    -- a code that an enum holds comes back as it was, if it does for each code that the kind has
    coded : {s : Option Slot} {f : Field} {name : List ℕ} {unknown : Refusal} {first : ℕ} {ws : List (List ℕ)} {aliases : List Alias}
        (code : ℕ → ℕ) (end : ℕ)
        → codes_end (first + length ws) aliases ≡ end → 0 < end → Below.all end (λ n. eqb (code n) n) ≡ true
        → Holds t scratch used (record { name = name; kind = Kind.word unknown first ws aliases }) s f
        → Value.number (count (code (held s).number.magnitude))
        ≡ value_in (record { name = name; kind = Kind.word unknown first ws aliases }) f
    coded {s} code end q p e h =
        let w = word_slot (rw q p) h in
        let m = (held s).number.magnitude in
        let b : code m ≡ m = eqb-true _ _ (Below.at end (λ n. eqb (code n) n) e m (rw q at w.1)) in
        rw b (ap Value.number w.0 ∙ gives h)

    command-gives : {ss : List (Option Slot)} {fs : List Field} → Each (Holds t scratch used) keys ss fs
        → Each Gives keys (slots_of (command_of ss)) fs
    unfolding slots_of command_of split onto
    command-gives
        (more action (more zip (more kind (more transmission (more id (more file_id (more bypass (more quiet
        (more modified (more permissions (more size (more name (more status (more parent (more payload none))))))))))))))) =
        more (coded (λ n. action_code (action_of n)) 9 refl (lit< tt) (unfold action_of in refl) action)
        (more (coded (λ n. 0) 1 refl (lit< tt) refl zip)
        (more (coded (λ n. file_type_code (file_type_of n)) 4 refl (lit< tt) (unfold file_type_of in refl) kind)
        (more (coded (λ n. transmission_code (transmission_of n)) 2 refl (lit< tt) (unfold transmission_of in refl) transmission)
        (more (gives id) (more (gives file_id) (more (gives bypass)
        (more (coded (λ n. n) 3 refl (lit< tt) refl quiet)
        (more (gives modified) (more (gives permissions) (more (gives size)
        (more (gives name) (more (gives status) (more (gives parent) (more (gives payload) none))))))))))))))

    pub command-values : {ss : List (Option Slot)} {fs : List Field} → Each (Holds t scratch used) keys ss fs
        → values_of (command_of ss) t scratch ≡ values_in keys fs
    unfolding values_of
    command-values e = each-values (command-gives e)
