-- The claim is false of each receiver that writes wrongly to the office, and a whole receive session gives what order 6's page says:
-- computed.
use mathlib.Core.Path.{◌≡◌, refl, sym, ap}
use Prim.Native.Nat.{ℕ}
use mathlib.Core.Bool.{true}
use mathlib.Core.List.{List, [], ◌∷◌, ◌++◌}
use native.Mathlib.Omega.{arith}
use lib.ListN.{length}
use Rattle.octets.specs.Ascii.{ascii}
use Rattle.command.specs.Values.{word_shown, safe_shown, integer_shown, base64_shown, shown}
use Rattle.command.specs.Slots.{slots_of, bytes_at, values_of}
use Rattle.command.specs.Canonical.{fields_of, canonical}
use Rattle.command.specs.Write.{checked_of, write_of}
use Rattle.command.specs.Framed.{framed_of}
use Rattle.protocol.specs.Supplies.{Supply, framed_for, supply_of}
use Rattle.protocol.specs.History.{Part}
use Rattle.protocol.specs.Machine.{ours}
use Rattle.protocol.specs.Serving.{listed, homed, ServesWhole}
use Rattle.protocol.specs.WrongMachines.{file_piece}
use Rattle.protocol.specs.WrongSupplies.{receive_piece, finish_piece, other_file, never_ending, silent, refusing, unallowed_list}
use Rattle.protocol.specs.WrongSupplies.{unfinished, SupplyTeeth}
use Rattle.protocol.proofs.Laws.{no_way}
use Rattle.protocol.proofs.Starred.{computing}
use Rattle.protocol.proofs.Refuting.{carry₀, scratch₀, reply₀, out₀, Deed, feed, allow, supply}
use Rattle.protocol.proofs.Refuting.{HandsBadly, hands-badly, SuppliesBadly, supplies-badly}

-- what computing opens besides, where something is written
unfoldable pub writing : Unit {0}
unfolding word_shown safe_shown integer_shown base64_shown shown fields_of canonical checked_of write_of framed_of values_of slots_of
    bytes_at framed_for supply_of
writing = tt

-- a path named, the session allowed, the home path supplied, and the file asked for
abbrev named : List Deed
named = feed receive_piece ∷ feed file_piece ∷ []

abbrev homed_deeds : List Deed
homed_deeds = named ++ (allow (ascii "m") ∷ supply homed ∷ [])

abbrev requested : List Deed
requested = homed_deeds ++ (feed file_piece ∷ [])

abbrev last : Deed
last = supply (Supply.part true (ascii "z"))

record Computed : Type 0 where
  other_file-supplies : SuppliesBadly other_file requested last
  never_ending-supplies : SuppliesBadly never_ending requested last
  silent-supplies : SuppliesBadly silent requested last
  unallowed_list-hands : HandsBadly unallowed_list named (supply listed)
  unfinished-hands : HandsBadly unfinished (homed_deeds ++ (feed finish_piece ∷ [])) (feed file_piece)

computed : Computed
unfolding carry₀ scratch₀ reply₀ out₀ computing writing
computed = record {
  other_file-supplies = refl;
  never_ending-supplies = refl;
  silent-supplies = refl;
  unallowed_list-hands = λ a. no_way (sym a.0.0);
  unfinished-hands = λ a. no_way (sym a.0);
}

pub serves-whole : ServesWhole ours
unfolding computing writing
serves-whole = record { gives = refl; parts = refl }

-- nothing is supplied
all-refused : ServesWhole refusing → ⊥
unfolding computing supply_of
all-refused claim = let z : ◌≡◌ {A = ℕ} 0 2 = ap (λ (ps : List Part). length ps) claim.parts in omega arith

pub supply-teeth : SupplyTeeth
supply-teeth =
    record {
      part_of_another = supplies-badly other_file requested last computed.other_file-supplies;
      last_as_data = supplies-badly never_ending requested last computed.never_ending-supplies;
      part_left_out = supplies-badly silent requested last computed.silent-supplies;
      listed_unallowed = hands-badly unallowed_list named (supply listed) computed.unallowed_list-hands;
      asked_after_a_finish = hands-badly unfinished (homed_deeds ++ (feed finish_piece ∷ [])) (feed file_piece) computed.unfinished-hands;
      all_refused = all-refused;
    }
