-- The claims are false of each wrong machine: what each does is computed.
use Prim.Native.Nat.{ℕ, ◌≤◌}
use mathlib.Core.Path.{◌≡◌, refl, sym, ap, ◌∙◌}
use mathlib.Core.Bool.{true, false}
use mathlib.Core.List.{List, [], ◌∷◌, ◌++◌}
use native.Mathlib.Omega.{arith}
use lib.ListN.{length, take}
use Rattle.std.proofs.lemmas.Option.{none-some}
use Rattle.std.specs.Prelude.{Some, None}
use Rattle.octets.specs.Ascii.{ascii}
use Rattle.frames.specs.Stream.{framed}
use Rattle.protocol.specs.Table.{fresh_receiver, empty_table, session_at, file_at, is_present, total, started_share}
use Rattle.protocol.specs.Sessions.{settle_failed}
use Rattle.protocol.specs.Rule.{failed_by}
use Rattle.protocol.specs.Calls.{drop_of, failed_of}
use Rattle.protocol.specs.History.{Command, Question, bytes_of, marks_of, last_ask}
use Rattle.protocol.specs.Machine.{Machine, ours, is_unfed, start}
use Rattle.protocol.specs.Sound.{opens_at, due_of, EverySound}
use Rattle.protocol.specs.Promises.{EveryCall}
use Rattle.protocol.specs.Cuts.{all_given, after, console_calls, CutsAlike}
use Rattle.protocol.specs.Counts.{EveryCount}
use Rattle.protocol.specs.Serving.{homed}
use Rattle.protocol.specs.WrongMachines.{send_piece, file_piece, declared_piece, directory_piece, data_piece, longer_id_piece, end_piece}
use Rattle.protocol.specs.WrongMachines.{one_too_small, last_only, counted_twice, other_size, skipping, twice, shorter_ids, data_opens}
use Rattle.protocol.specs.WrongMachines.{reopening, going_on}
use Rattle.protocol.specs.WrongMachines.{cancel_piece, undeclaring, never_closing, unasked, deaf, with_owed, keeping_owed, stuck_opening}
use Rattle.protocol.specs.WrongMachines.{keeping_numbers, uncounting, closer_lost, hungry, talking, stalling, Teeth}
use Rattle.protocol.specs.declared.FileState.TheVariants as FileState
use Rattle.protocol.specs.declared.SessionState.TheVariants as SessionState
use Rattle.protocol.specs.declared.Due.TheVariants as Due
use Rattle.protocol.specs.declared.Table.{Table}
use Rattle.protocol.specs.declared.Receiver.{Receiver}
use Rattle.protocol.specs.declared.Failure.TheVariants as Failure
use Rattle.protocol.specs.declared.Fed.{Fed}
use Rattle.protocol.proofs.Laws.{no_way}
use Rattle.protocol.proofs.Sizes.{empty-sized}
use Rattle.protocol.proofs.SoundTable.{owed-session}
use Rattle.protocol.proofs.Starred.{computing}
use Rattle.protocol.proofs.Refuting.{carry₀, scratch₀, reply₀, Deed, feed, allow, done, dropped, failed, calls, all-lent}
use Rattle.protocol.proofs.Refuting.{after_all, sound-at-last}
use Rattle.protocol.proofs.Refuting.{HandsBadly, hands-badly, turns_right, ClosesBadly, closes-badly, StaysOpen, stays_open}

-- a session allowed, a file started in it, and abc written
abbrev allowed : List Deed
allowed = feed send_piece ∷ allow (ascii "m") ∷ []

abbrev started : List Deed
started = allowed ++ (feed file_piece ∷ done ∷ [])

-- the same with a length of five bytes declared for it
abbrev started_declared : List Deed
started_declared = allowed ++ (feed declared_piece ∷ done ∷ [])

abbrev written : List Deed
written = started ++ (feed data_piece ∷ done ∷ [])

abbrev ended : List Deed
ended = written ++ (feed end_piece ∷ [])

-- the last two bytes of such a file
abbrev two_piece : List ℕ
two_piece = framed (ascii "5113;ac=end_data;id=m;fid=a;d=QUI=")

-- the command of the ask told last
abbrev command_in : Question → Command
command_in Question.none = []
command_in (Question.asks d a) = d

abbrev last_command : Machine → List Deed → Command
last_command m cs = command_in (last_ask (marks_of (after_all m cs).history))

-- one command in one piece, and in two that part its closer
abbrev whole : List Deed
whole = feed send_piece ∷ []

abbrev parted : List Deed
parted = feed (take 20 send_piece) ∷ feed (0x5C ∷ []) ∷ []

-- a part asked for in a session that was never allowed, and after a cancel
abbrev unallowed : List Deed
unallowed = feed send_piece ∷ feed file_piece ∷ done ∷ []

abbrev canceled : List Deed
canceled = started ++ (feed cancel_piece ∷ [])

-- an open is owed, and its session is dropped, or it fails
abbrev dropping : List Deed
dropping = allowed ++ (feed file_piece ∷ dropped (ascii "m") ∷ [])

-- a file is started, and its session dropped
abbrev started_dropped : List Deed
started_dropped = started ++ (dropped (ascii "m") ∷ [])

abbrev failing : List Deed
failing = allowed ++ (feed file_piece ∷ failed ∷ [])

abbrev table_after : Machine → List Deed → Table
table_after m cs = (after_all m cs).receiver.table

-- a feed of one byte to a receiver, and a receiver that owes a commit
abbrev fed_with : Machine → Receiver → Fed
fed_with m r = (m.feeds r (65 ∷ []) carry₀ scratch₀ reply₀).fed

abbrev owing : Receiver
owing = record { framing = fresh_receiver.framing; table = with_owed empty_table (Some (0, Due.Commit)) }

-- ---- what each does
record Computed : Type 0 where
  one_too_small-closes : ClosesBadly one_too_small ended
  last_only-closes : ClosesBadly last_only ended
  counted_twice-closes : ClosesBadly counted_twice ended
  other_size-closes : ClosesBadly other_size ended
  skipping-closes : ClosesBadly skipping (started ++ (feed data_piece ∷ feed end_piece ∷ []))
  twice-closes : ClosesBadly twice (written ++ (feed [] ∷ done ∷ feed end_piece ∷ []))
  shorter_ids-closes : ClosesBadly shorter_ids (started ++ (feed longer_id_piece ∷ done ∷ feed end_piece ∷ []))
  data_opens-closes : ClosesBadly data_opens (allowed ++ (feed data_piece ∷ done ∷ feed end_piece ∷ []))
  reopening-closes : ClosesBadly reopening (started ++ (feed directory_piece ∷ []))
  going_on-closes : ClosesBadly going_on (ended ++ (done ∷ feed file_piece ∷ done ∷ feed end_piece ∷ []))
  undeclaring-closes : ClosesBadly undeclaring (started_declared ++ (feed data_piece ∷ done ∷ feed end_piece ∷ []))
  never_closing-stays : StaysOpen never_closing ended (last_command never_closing ended) (ascii "A")
  unasked-hands : HandsBadly unasked unallowed (feed data_piece)
  deaf-hands : HandsBadly deaf canceled (feed data_piece)
  keeping_owed-owes : (table_after keeping_owed dropping).owed ≡ Some (0, Due.OpenFile 0)
  keeping_owed-drops : (session_at (table_after keeping_owed dropping) 0).state ≡ SessionState.Absent
  stuck_opening-owes : due_of (table_after stuck_opening failing).owed 0 ≡ None
  stuck_opening-opens : (file_at (session_at (table_after stuck_opening failing) 0) 0).state ≡ FileState.Opening
  keeping_numbers-counts : (session_at (table_after keeping_numbers started_dropped) 0).started ≡ 1
  keeping_numbers-files : total started_share (session_at (table_after keeping_numbers started_dropped) 0).files ≡ 0
  uncounting-counts : (session_at (table_after uncounting started) 0).started ≡ 0
  uncounting-files : total started_share (session_at (table_after uncounting started) 0).files ≡ 1
  -- two ways to bring the same bytes, with no console call: one report, and none
  same_bytes : bytes_of (after closer_lost (start carry₀) (calls closer_lost (start carry₀) whole)).history
      ≡ bytes_of (after closer_lost (start carry₀) (calls closer_lost (start carry₀) parted)).history
  same-calls : console_calls 0 (all_given closer_lost (start carry₀) (calls closer_lost (start carry₀) whole))
      ≡ console_calls 0 (all_given closer_lost (start carry₀) (calls closer_lost (start carry₀) parted))
  one-report : length (all_given closer_lost (start carry₀) (calls closer_lost (start carry₀) whole)) ≡ 1
  no-report : length (all_given closer_lost (start carry₀) (calls closer_lost (start carry₀) parted)) ≡ 0
  -- a feed of one byte: refused while a commit is owed, and not
  hungry-told : is_unfed (fed_with hungry owing).told ≡ true
  hungry-consumes : (fed_with hungry owing).consumed ≡ 1
  talking-told : is_unfed (fed_with talking owing).told ≡ true
  talking-replies : (fed_with talking owing).reply_len ≡ 1
  stalling-told : is_unfed (fed_with stalling fresh_receiver).told ≡ false
  -- and ours at the same places: the tests hold
  ours-closes : turns_right ours ended 4 ≡ true
  ours-declared : turns_right ours (started_declared ++ (feed data_piece ∷ done ∷ feed two_piece ∷ [])) 5 ≡ true
  ours-directory : turns_right ours (allowed ++ (feed directory_piece ∷ [])) 0 ≡ true
  ours-parted : length (all_given ours (start carry₀) (calls ours (start carry₀) parted)) ≡ 1

computed : Computed
unfolding carry₀ scratch₀ reply₀ computing drop_of failed_by settle_failed failed_of
computed = record {
  one_too_small-closes = record { count = 3; before = refl; after = refl; wrong = refl };
  last_only-closes = record { count = 1; before = refl; after = refl; wrong = refl };
  counted_twice-closes = record { count = 7; before = refl; after = refl; wrong = refl };
  other_size-closes = record { count = 4; before = refl; after = refl; wrong = refl };
  skipping-closes = record { count = 1; before = refl; after = refl; wrong = refl };
  twice-closes = record { count = 7; before = refl; after = refl; wrong = refl };
  shorter_ids-closes = record { count = 4; before = refl; after = refl; wrong = refl };
  data_opens-closes = record { count = 1; before = refl; after = refl; wrong = refl };
  reopening-closes = record { count = 0; before = refl; after = refl; wrong = refl };
  going_on-closes = record { count = 5; before = refl; after = refl; wrong = refl };
  undeclaring-closes = record { count = 4; before = refl; after = refl; wrong = refl };
  never_closing-stays = record { asked = refl; taken = refl; after = refl };
  unasked-hands = λ a. no_way (sym a.0);
  deaf-hands = λ a. no_way (sym a.0);
  keeping_owed-owes = refl;
  keeping_owed-drops = refl;
  stuck_opening-owes = refl;
  stuck_opening-opens = refl;
  keeping_numbers-counts = refl;
  keeping_numbers-files = refl;
  uncounting-counts = refl;
  uncounting-files = refl;
  same_bytes = refl;
  same-calls = refl;
  one-report = refl;
  no-report = refl;
  hungry-told = refl;
  hungry-consumes = refl;
  talking-told = refl;
  talking-replies = refl;
  stalling-told = refl;
  ours-closes = refl;
  ours-declared = refl;
  ours-directory = refl;
  ours-parted = refl;
}

-- ---- the claims are false of each
dropped-owes : EverySound keeping_owed → ⊥
dropped-owes claim =
    let sound = sound-at-last keeping_owed dropping claim in
    let present = ap is_present (owed-session sound computed.keeping_owed-owes).fits.0 in
    no_way (sym present ∙ ap is_present computed.keeping_owed-drops)

opening_for-good : EverySound stuck_opening → ⊥
opening_for-good claim =
    let s = (sound-at-last stuck_opening failing claim).each 0 in
    none-some 0 (sym (ap opens_at computed.stuck_opening-owes) ∙ s.opening 0 computed.stuck_opening-opens)

dropped-counts : EveryCount keeping_numbers → ⊥
dropped-counts claim =
    let right = (claim carry₀ (calls keeping_numbers (start carry₀) started_dropped) 0).counted.started in
    let z : ◌≡◌ {A = ℕ} 1 0 = sym computed.keeping_numbers-counts ∙ right ∙ computed.keeping_numbers-files in
    omega arith

started-uncounted : EveryCount uncounting → ⊥
started-uncounted claim =
    let right = (claim carry₀ (calls uncounting (start carry₀) started) 0).counted.started in
    let z : ◌≡◌ {A = ℕ} 0 1 = sym computed.uncounting-counts ∙ right ∙ computed.uncounting-files in
    omega arith

cut-closer-lost : CutsAlike closer_lost → ⊥
cut-closer-lost alike =
    let w = start carry₀ in
    let lent = all-lent closer_lost w in
    let same = alike carry₀ carry₀ (calls closer_lost w whole) (calls closer_lost w parted) (lent whole) (lent parted)
    computed.same_bytes computed.same-calls in
    let z : ◌≡◌ {A = ℕ} 1 0 = sym computed.one-report ∙ ap length same.0 ∙ computed.no-report in
    omega arith

refused-consumes : EveryCall hungry → ⊥
refused-consumes every =
    let kept = (every owing empty-sized (65 ∷ []) carry₀ scratch₀ reply₀ [] Failure.Eio homed []).feeds.unfed computed.hungry-told in
    let z : ◌≡◌ {A = ℕ} 1 0 = sym computed.hungry-consumes ∙ kept.1 in
    omega arith

refused-replies : EveryCall talking → ⊥
refused-replies every =
    let kept = (every owing empty-sized (65 ∷ []) carry₀ scratch₀ reply₀ [] Failure.Eio homed []).feeds.unfed computed.talking-told in
    let z : ◌≡◌ {A = ℕ} 1 0 = sym computed.talking-replies ∙ kept.2 in
    omega arith

feed-stalls : EveryCall stalling → ⊥
feed-stalls every =
    let feeds = (every fresh_receiver empty-sized (65 ∷ []) carry₀ scratch₀ reply₀ [] Failure.Eio homed []).feeds in
    let z : 1 ≤ 0 = feeds.progress computed.stalling-told (omega arith) in
    omega arith

pub teeth : Teeth
teeth =
    record {
      count_one_too_small = closes-badly _ _ computed.one_too_small-closes;
      count_of_the_last_part = closes-badly _ _ computed.last_only-closes;
      counted_when_asked = closes-badly _ _ computed.counted_twice-closes;
      other_size_replied = closes-badly _ _ computed.other_size-closes;
      data_skipped = closes-badly _ _ computed.skipping-closes;
      part_twice = closes-badly _ _ computed.twice-closes;
      ids_up_to_the_shorter = closes-badly _ _ computed.shorter_ids-closes;
      opened_by_data = closes-badly _ _ computed.data_opens-closes;
      directory_over_a_started_file = closes-badly _ _ computed.reopening-closes;
      counted_on_from_the_old = closes-badly _ _ computed.going_on-closes;
      closed_short = closes-badly _ _ computed.undeclaring-closes;
      never_closed = stays_open _ _ computed.never_closing-stays;
      never_allowed = hands-badly unasked unallowed (feed data_piece) computed.unasked-hands;
      after_a_cancel = hands-badly deaf canceled (feed data_piece) computed.deaf-hands;
      dropped_owes = dropped-owes;
      opening_for_good = opening_for-good;
      dropped_counts = dropped-counts;
      started_uncounted = started-uncounted;
      cut_closer_lost = cut-closer-lost;
      refused_feed_consumes = refused-consumes;
      refused_feed_replies = refused-replies;
      feed_stalls = feed-stalls;
    }
