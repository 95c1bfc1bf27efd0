-- `Isolated` is false of each leaky machine: two lists of calls, alike for the session m, are computed on it; and the two pairs of ours.
use Prim.Native.Nat.{ℕ}
use mathlib.Core.Path.{◌≡◌, refl, sym, ap, ◌∙◌}
use mathlib.Core.Bool.{Bool, true, false, not, ◌&&◌, ◌||◌}
use mathlib.Core.List.{List, [], ◌∷◌, ◌++◌}
use native.Mathlib.Omega.{arith}
use lib.ListN.{length}
use lib.Dec.{eqb}
use borrow.Author.Tests.{eq-eqb}
use Rattle.std.specs.Prelude.{Option, Some, None}
use Rattle.octets.specs.Ascii.{ascii}
use Rattle.octets.proofs.Below.{both_test}
use Rattle.frames.specs.Stream.{framed}
use Rattle.command.specs.Values.{Value, count as number}
use Rattle.protocol.specs.Table.{file_at, total, find_session}
use Rattle.protocol.specs.Actions.{state_number}
use Rattle.protocol.specs.Calls.{drop_of}
use Rattle.protocol.specs.Supplies.{Supply}
use Rattle.protocol.specs.History.{Heard}
use Rattle.protocol.specs.Machine.{Machine, ours, Call, World, step, start}
use Rattle.protocol.specs.Cuts.{Saying, after}
use Rattle.protocol.specs.Serving.{homed}
use Rattle.protocol.specs.WrongMachines.{send_piece, file_piece, data_piece}
use Rattle.protocol.specs.WrongSupplies.{receive_piece, finish_piece}
use Rattle.protocol.specs.Isolation.{Act, acts_at, acts, Seen, Records, records_of, seen, any_begins, is_at, has_room, Met, AllMet}
use Rattle.protocol.specs.Isolation.{Isolated}
use Rattle.protocol.specs.IsolationExamples.{SeesAlike}
use Rattle.protocol.specs.LeakyMachines.{cancel_other, cancel_longer, clearing, settling_first, short_ids, evicting, busy_at_three}
use Rattle.protocol.specs.LeakyMachines.{freeing_two, allowing_first, quiet_of_the_first, count_of_the_first, mixing_parts, losing_commands}
use Rattle.protocol.specs.LeakyMachines.{misnaming, noise, humming, whispering, repeating, ending_all, part_of_the_first, idle}
use Rattle.protocol.specs.LeakyMachines.{Leaks}
use Rattle.protocol.specs.declared.Due.{Due}
use Rattle.protocol.proofs.Laws.{no_way}
use Rattle.protocol.proofs.Starred.{computing}
use Rattle.protocol.proofs.SupplyTeeth.{writing}
use Rattle.protocol.proofs.Refuting.{carry₀, scratch₀, reply₀, out₀, Deed, feed, allow, done, dropped, supply, allow_short}
use Rattle.protocol.proofs.Refuting.{calls, all-lent}

-- ---- the premise of a free place, computed
module _ (m : Machine) (A : List ℕ) where
  abbrev room_at : World → Call → Bool
  room_at w c = not (any_begins (acts_at m A w c)) || (is_at (find_session w.receiver.table A) || has_room w.receiver.table)

  abbrev all_room : World → List Call → Bool
  all_room w [] = true
  all_room w (c ∷ cs) = room_at w c && all_room (step m w c) cs

  room-met : (w : World) (c : Call) → room_at w c ≡ true → Met m A w c
  room-met w c e b n =
      go (any_begins (acts_at m A w c)) b (is_at (find_session w.receiver.table A)) (ap is_at n) (has_room w.receiver.table) e
    where
      go : (x : Bool) → x ≡ true → (y : Bool) → y ≡ false → (z : Bool) → (not x || (y || z)) ≡ true → z ≡ true
      go true b false n z e = e
      go true b true n z e = no_way n
      go false b y n z e = no_way (sym b)

  all-met : (w : World) (cs : List Call) → all_room w cs ≡ true → AllMet m A w cs
  all-met w [] e = tt
  all-met w (c ∷ cs) e =
      let b = both_test (room_at w c) (all_room (step m w c) cs) e in (room-met w c b.0, all-met (step m w c) cs b.1)

-- ---- two lists of calls, alike for the session m, after which a number that is worked out of what it got differs
abbrev m₀ : List ℕ
m₀ = ascii "m"

module _ (m : Machine) (ds : List Deed) where
  abbrev run : List Call
  run = calls m (start carry₀) ds

  abbrev acts_of : List Act
  acts_of = acts m m₀ (start carry₀) run

  abbrev roomy : Bool
  roomy = all_room m m₀ (start carry₀) run

  abbrev valued : (List Seen → Records → ℕ) → ℕ
  valued f = f (seen m m₀ (start carry₀) run) (records_of m₀ (after m (start carry₀) run).receiver.table)

record Differ (m : Machine) (one two : List Deed) (as' : List Act) (f : List Seen → Records → ℕ) : Type 0 where
  met₁ : roomy m one ≡ true
  met₂ : roomy m two ≡ true
  acts₁ : acts_of m one ≡ as'
  acts₂ : acts_of m two ≡ as'
  differ : eqb (valued m one f) (valued m two f) ≡ false

leak : {m : Machine} {one two : List Deed} {as' : List Act} {f : List Seen → Records → ℕ} → Differ m one two as' f → Isolated m → ⊥
leak {m} {one} {two} {as'} {f} d claim =
    let w = start carry₀ in
    let e = claim m₀ carry₀ carry₀ (run m one) (run m two) (all-lent m w one) (all-lent m w two) (all-met m m₀ w (run m one) d.met₁)
    (all-met m m₀ w (run m two) d.met₂) (d.acts₁ ∙ sym d.acts₂) in
    no_way (sym (eq-eqb (valued m one f) (valued m two f) (rw (e.0, e.1))) ∙ d.differ)

-- ---- the numbers
abbrev state : List Seen → Records → ℕ
state s r = state_number r.session.state

abbrev owes : List Seen → Records → ℕ
owes s r = go r.due
  where
    go : Option Due → ℕ
    go None = 0
    go (Some d) = 1

abbrev count : List Seen → Records → ℕ
count s r = (file_at r.session 0).count

-- all that is replied or written, and all that is handed over, as sums of bytes
abbrev bytes : List ℕ → ℕ
bytes l = total (λ (b : ℕ). b) l

abbrev replies : List Seen → Records → ℕ
replies s r = total (λ (x : Seen). bytes x.reply) s

abbrev handed : Saying → ℕ
handed Saying.nothing = 0
handed (Saying.refused n) = 0
handed Saying.ignored = 0
handed Saying.drag_drop = 0
handed Saying.asked = 0
handed Saying.naming = 0
handed Saying.path = 0
handed Saying.last_path = 0
handed (Saying.asks Heard.opens) = 0
handed (Saying.asks (Heard.writes p)) = bytes p
handed (Saying.asks (Heard.writes_last p)) = bytes p
handed (Saying.asks Heard.commits) = 0
handed (Saying.asks Heard.requests) = 0
handed (Saying.status w) = 0
handed Saying.withdrawn = 0
handed Saying.discarded = 0
handed Saying.committed = 0

abbrev parts : List Seen → Records → ℕ
parts s r = total (λ (x : Seen). handed x.said) s

-- ---- lists of calls
abbrev sends_as : List ℕ → Deed
sends_as text = feed (framed text)

abbrev send_k : Deed
send_k = sends_as (ascii "5113;ac=send;id=k")

abbrev allowed : List Deed
allowed = feed send_piece ∷ allow m₀ ∷ []

abbrev allowed_k : List Deed
allowed_k = send_k ∷ allow (ascii "k") ∷ []

abbrev started : List Deed
started = allowed ++ (feed file_piece ∷ done ∷ [])

abbrev finished : List Deed
finished = allowed ++ (feed finish_piece ∷ [])

abbrev written : List Deed
written = started ++ (feed data_piece ∷ done ∷ [])

-- k's file a with abc written
abbrev written_k : List Deed
written_k =
    allowed_k ++ (sends_as (ascii "5113;ac=file;id=k;fid=a;n=L256") ∷ done ∷ sends_as (ascii "5113;ac=data;id=k;fid=a;d=YWJj") ∷ done ∷ [])

abbrev three_others : List Deed
three_others = sends_as (ascii "5113;ac=send;id=b") ∷ sends_as (ascii "5113;ac=send;id=c") ∷ sends_as (ascii "5113;ac=send;id=d") ∷ []

abbrev fifth : Deed
fifth = sends_as (ascii "5113;ac=send;id=e")

-- a receive session that lists, and one that was asked for a file
abbrev listing : List Deed
listing = feed receive_piece ∷ feed file_piece ∷ allow m₀ ∷ []

abbrev listing_k : List Deed
listing_k = sends_as (ascii "5113;ac=receive;id=k;sz=1") ∷ sends_as (ascii "5113;ac=file;id=k;fid=a;n=L256") ∷ allow (ascii "k") ∷ []

abbrev served : List Deed
served = listing ++ (supply homed ∷ feed file_piece ∷ supply (Supply.part true (ascii "z")) ∷ [])

-- ---- m's acts: commands with these values, the others absent
abbrev values : (action size : ℕ) (file name data' : List ℕ) → Act
values a n file name data' =
    Act.command
    (Value.number (number a) ∷ Value.number (number 0) ∷ Value.number (number 0) ∷ Value.number (number 0) ∷ Value.bytes m₀
    ∷ Value.bytes file ∷ Value.bytes [] ∷ Value.number (number 0) ∷ Value.number (number 0) ∷ Value.number (number 0)
    ∷ Value.number (number n) ∷ Value.bytes name ∷ Value.bytes [] ∷ Value.bytes [] ∷ Value.bytes data' ∷ [])

abbrev sends : Act
sends = values 1 0 [] [] []

abbrev names : Act
names = values 3 0 (ascii "a") (ascii "/nz") []

abbrev brings : Act
brings = values 4 0 (ascii "a") [] (ascii "abc")

abbrev finishes : Act
finishes = values 6 0 [] [] []

abbrev receives : Act
receives = values 2 1 [] [] []

record Computed : Type 0 where
  clearing-leaks : Differ clearing (send_k ∷ finished ++ (dropped (ascii "k") ∷ [])) finished
      (sends ∷ Act.allow ∷ finishes ∷ []) owes
  settling_first-leaks : Differ settling_first (allowed_k ++ finished ++ (done ∷ [])) (finished ++ (done ∷ []))
      (sends ∷ Act.allow ∷ finishes ∷ Act.done ∷ []) state
  short_ids-leaks : Differ short_ids (feed send_piece ∷ feed cancel_longer ∷ []) (feed send_piece ∷ [])
      (sends ∷ []) state
  evicting-leaks : Differ evicting (feed send_piece ∷ three_others ++ (fifth ∷ [])) (feed send_piece ∷ [])
      (sends ∷ []) state
  busy_at_three-leaks : Differ busy_at_three (three_others ++ (feed send_piece ∷ [])) (feed send_piece ∷ [])
      (sends ∷ []) state
  freeing_two-leaks : Differ freeing_two (send_k ∷ feed send_piece ∷ feed cancel_other ∷ []) (feed send_piece ∷ [])
      (sends ∷ []) state
  allowing_first-leaks : Differ allowing_first (send_k ∷ allowed) allowed
      (sends ∷ Act.allow ∷ []) state
  quiet_of_the_first-leaks : Differ quiet_of_the_first (sends_as (ascii "5113;ac=send;id=k;q=2") ∷ allowed) allowed
      (sends ∷ Act.allow ∷ []) replies
  misnaming-leaks : Differ misnaming (send_k ∷ feed send_piece ∷ allow (ascii "k") ∷ []) (feed send_piece ∷ [])
      (sends ∷ []) replies
  count_of_the_first-leaks : Differ count_of_the_first (written_k ++ written) written
      (sends ∷ Act.allow ∷ names ∷ Act.done ∷ brings ∷ Act.done ∷ []) count
  mixing_parts-leaks : Differ mixing_parts (send_k ∷ started ++ (feed data_piece ∷ [])) (started ++ (feed data_piece ∷ []))
      (sends ∷ Act.allow ∷ names ∷ Act.done ∷ brings ∷ []) parts
  losing_commands-leaks : Differ losing_commands (send_k ∷ allowed ++ (feed file_piece ∷ [])) (allowed ++ (feed file_piece ∷ []))
      (sends ∷ Act.allow ∷ names ∷ []) owes
  humming-leaks : Differ humming (send_k ∷ feed send_piece ∷ feed noise ∷ []) (feed send_piece ∷ feed noise ∷ [])
      (sends ∷ []) replies
  whispering-leaks : Differ whispering (send_k ∷ feed send_piece ∷ allow_short (ascii "k") ∷ []) (feed send_piece ∷ [])
      (sends ∷ []) replies
  repeating-leaks : Differ repeating (send_k ∷ written ++ (feed noise ∷ [])) (written ++ (feed noise ∷ []))
      (sends ∷ Act.allow ∷ names ∷ Act.done ∷ brings ∷ Act.done ∷ []) parts
  ending_all-leaks : Differ ending_all (listing_k ++ listing ++ (supply (Supply.home (ascii "k") (ascii "/h")) ∷ [])) listing
      (receives ∷ names ∷ Act.allow ∷ []) state
  part_of_the_first-leaks : Differ part_of_the_first (send_k ∷ served) served
      (receives ∷ names ∷ Act.allow ∷ Act.home (ascii "/h") ∷ names ∷ Act.part true (ascii "z") ∷ []) replies

computed : Computed
unfolding carry₀ scratch₀ reply₀ out₀ computing writing drop_of
computed = record {
  clearing-leaks = record { met₁ = refl; met₂ = refl; acts₁ = refl; acts₂ = refl; differ = refl };
  settling_first-leaks = record { met₁ = refl; met₂ = refl; acts₁ = refl; acts₂ = refl; differ = refl };
  short_ids-leaks = record { met₁ = refl; met₂ = refl; acts₁ = refl; acts₂ = refl; differ = refl };
  evicting-leaks = record { met₁ = refl; met₂ = refl; acts₁ = refl; acts₂ = refl; differ = refl };
  busy_at_three-leaks = record { met₁ = refl; met₂ = refl; acts₁ = refl; acts₂ = refl; differ = refl };
  freeing_two-leaks = record { met₁ = refl; met₂ = refl; acts₁ = refl; acts₂ = refl; differ = refl };
  allowing_first-leaks = record { met₁ = refl; met₂ = refl; acts₁ = refl; acts₂ = refl; differ = refl };
  quiet_of_the_first-leaks = record { met₁ = refl; met₂ = refl; acts₁ = refl; acts₂ = refl; differ = refl };
  misnaming-leaks = record { met₁ = refl; met₂ = refl; acts₁ = refl; acts₂ = refl; differ = refl };
  count_of_the_first-leaks = record { met₁ = refl; met₂ = refl; acts₁ = refl; acts₂ = refl; differ = refl };
  mixing_parts-leaks = record { met₁ = refl; met₂ = refl; acts₁ = refl; acts₂ = refl; differ = refl };
  losing_commands-leaks = record { met₁ = refl; met₂ = refl; acts₁ = refl; acts₂ = refl; differ = refl };
  humming-leaks = record { met₁ = refl; met₂ = refl; acts₁ = refl; acts₂ = refl; differ = refl };
  whispering-leaks = record { met₁ = refl; met₂ = refl; acts₁ = refl; acts₂ = refl; differ = refl };
  repeating-leaks = record { met₁ = refl; met₂ = refl; acts₁ = refl; acts₂ = refl; differ = refl };
  ending_all-leaks = record { met₁ = refl; met₂ = refl; acts₁ = refl; acts₂ = refl; differ = refl };
  part_of_the_first-leaks = record { met₁ = refl; met₂ = refl; acts₁ = refl; acts₂ = refl; differ = refl };
}

pub sees-alike : SeesAlike ours
unfolding computing drop_of
sees-alike =
    record {
      by_itself = refl;
      beside_another = refl;
      send_alone = refl;
      send_crowded = refl;
      no_place = refl;
      asked_alone = refl;
      absent_crowded = refl;
    }

-- it is asked nothing: of the first six things it sees three
nothing_seen : SeesAlike idle → ⊥
unfolding computing
nothing_seen claim = let z : ◌≡◌ {A = ℕ} 3 6 = ap (λ (s : List Seen). length s) claim.by_itself in omega arith

pub leaks : Leaks
leaks =
    record {
      drop_clears_all = leak computed.clearing-leaks;
      done_settles_the_first = leak computed.settling_first-leaks;
      ids_up_to_the_shorter = leak computed.short_ids-leaks;
      full_table_evicts = leak computed.evicting-leaks;
      busy_with_three = leak computed.busy_at_three-leaks;
      cancel_frees_two = leak computed.freeing_two-leaks;
      allow_opens_the_first = leak computed.allowing_first-leaks;
      quiet_of_another = leak computed.quiet_of_the_first-leaks;
      reply_in_anothers_name = leak computed.misnaming-leaks;
      count_of_another = leak computed.count_of_the_first-leaks;
      parts_mixed = leak computed.mixing_parts-leaks;
      command_lost = leak computed.losing_commands-leaks;
      noise_replied = leak computed.humming-leaks;
      short_buffer_replied = leak computed.whispering-leaks;
      part_at_noise = leak computed.repeating-leaks;
      home_ends_all = leak computed.ending_all-leaks;
      part_under_another_id = leak computed.part_of_the_first-leaks;
      nothing_seen = nothing_seen;
    }
