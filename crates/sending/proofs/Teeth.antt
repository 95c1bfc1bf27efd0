-- The claims are false of each wrong sender: what each does is computed.
use Prim.Native.Nat.{ℕ}
use mathlib.Core.Path.{◌≡◌, refl, sym, ap, ◌∙◌}
use mathlib.Core.Bool.{true, false}
use mathlib.Core.List.{List, [], ◌∷◌, ◌++◌}
use native.Mathlib.Omega.{arith}
use lib.ListN.{length, take, replicate}
use Rattle.octets.specs.Ascii.{ascii}
use Rattle.frames.specs.Stream.{framed}
use Rattle.protocol.proofs.Starred.{computing}
use Rattle.protocol.proofs.Refuting.{carry₀, scratch₀}
use Rattle.sending.specs.Transfers.{grown}
use Rattle.sending.specs.Calls.{writes, guarded, send_of, long_refusal, file_writes, file_of, piece_of, finish_of}
use Rattle.sending.specs.Calls.{report_heed, scanned_hear, hear_of}
use Rattle.sending.specs.Machine.{ours}
use Rattle.sending.specs.Story.{bytes_of, marks_of, start}
use Rattle.sending.specs.Telling.{some_read}
use Rattle.sending.specs.Cuts.{all_given, after, writing_calls, SenderCutsAlike}
use Rattle.sending.specs.WrongSenders.{early, deaf, misplacing, pushing, hasty, unending, one_more, last_only, encoding}
use Rattle.sending.specs.WrongSenders.{counting_refused, declaring}
use Rattle.sending.specs.WrongSenders.{trusting, other_file, other_size, presuming, condoning, swallowing}
use Rattle.sending.specs.WrongSenders.{refusing, mute, emptying, stalling, dawdling, overtaking, closer_lost, SenderTeeth}
use Rattle.sending.proofs.Examples.{writing, heeding}
use Rattle.sending.proofs.Refuting.{out₀, Deed, send, file, piece, finish, hear, calls, all-lent}
use Rattle.sending.proofs.Refuting.{right_at, WrongAt, wrong-at, shown_at, WrongShown, wrong-shown}

-- ---- what is heard: the session's OK, its stop, and statuses of file a
abbrev allowing : Deed
allowing = hear (framed (ascii "5113;ac=status;id=m;st=T0s="))

abbrev stop : Deed
stop = hear (framed (ascii "5113;ac=status;id=m;st=RUlP"))

abbrev file_stop : Deed
file_stop = hear (framed (ascii "5113;ac=status;id=m;fid=a;st=RUlP"))

-- an OK that says no bytes, two, and three
abbrev no_bytes : Deed
no_bytes = hear (framed (ascii "5113;ac=status;id=m;fid=a;st=T0s="))

abbrev two_bytes : Deed
two_bytes = hear (framed (ascii "5113;ac=status;id=m;fid=a;sz=2;st=T0s="))

abbrev three_bytes : Deed
three_bytes = hear (framed (ascii "5113;ac=status;id=m;fid=a;sz=3;st=T0s="))

-- ---- lists of calls: an open session, file a with a declared size, and its three bytes in two pieces
abbrev asked : List Deed
asked = send (ascii "m") ∷ []

abbrev allowed : List Deed
allowed = asked ++ (allowing ∷ [])

abbrev file_a : Deed
file_a = file (ascii "a") (ascii "/nz") 5

abbrev begun : List Deed
begun = allowed ++ (file_a ∷ [])

abbrev sent : List Deed
sent = begun ++ (piece (ascii "ab") false ∷ piece (ascii "c") true ∷ [])

-- one status in one piece, and in two that part its closer
abbrev whole : List Deed
whole = hear (framed (ascii "5113;ac=status;id=m")) ∷ []

abbrev parted : List Deed
parted = hear (take 22 (framed (ascii "5113;ac=status;id=m"))) ∷ hear (0x5C ∷ []) ∷ []

-- ---- what each does
record Computed : Type 0 where
  early-files : WrongAt early asked file_a
  deaf-files : WrongAt deaf (allowed ++ (stop ∷ [])) file_a
  misplacing-hears : WrongAt misplacing begun stop
  pushing-pieces : WrongAt pushing (begun ++ (file_stop ∷ [])) (piece (ascii "x") false)
  hasty-finishes : WrongAt hasty begun finish
  unending-pieces : WrongAt unending begun (piece (ascii "c") true)
  one_more-hears : WrongAt one_more sent three_bytes
  trusting-hears : WrongAt trusting sent two_bytes
  last_only-hears : WrongAt last_only sent three_bytes
  encoding-hears : WrongAt encoding sent three_bytes
  counting_refused-hears : WrongAt counting_refused (begun ++ (piece (replicate 4097 0) false ∷ [])) no_bytes
  declaring-hears : WrongAt declaring sent three_bytes
  other_file-hears : WrongAt other_file sent two_bytes
  other_size-hears : WrongAt other_size sent two_bytes
  presuming-shows : WrongShown presuming sent (ascii "a")
  condoning-shows : WrongShown condoning (sent ++ (two_bytes ∷ [])) (ascii "a")
  refusing-sends : WrongAt refusing [] (send (ascii "m"))
  mute-sends : WrongAt mute [] (send (ascii "m"))
  emptying-pieces : WrongAt emptying begun (piece (ascii "ab") false)
  stalling-hears : WrongAt stalling asked allowing
  dawdling-hears : WrongAt dawdling asked allowing
  overtaking-hears : WrongAt overtaking asked (hear (framed (ascii "5113;ac=status;id=m;st=T0s=") ++ ascii "x"))
  swallowing-hears : WrongAt swallowing asked (hear (framed (ascii "5113;ac=status;id=m;st=T0s=") ++ framed (ascii "5113;ac=status;id=m")))
  -- two ways to bring the same bytes, with no call that writes: one report, and none
  same_bytes : bytes_of (after closer_lost (start carry₀) (calls closer_lost (start carry₀) whole)).story
      ≡ bytes_of (after closer_lost (start carry₀) (calls closer_lost (start carry₀) parted)).story
  same-calls : writing_calls (all_given closer_lost (start carry₀) (calls closer_lost (start carry₀) whole))
      ≡ writing_calls (all_given closer_lost (start carry₀) (calls closer_lost (start carry₀) parted))
  one-report : length (all_given closer_lost (start carry₀) (calls closer_lost (start carry₀) whole)) ≡ 1
  no-report : length (all_given closer_lost (start carry₀) (calls closer_lost (start carry₀) parted)) ≡ 0
  -- and ours at the same places: the tests hold
  ours-no_bytes : right_at ours (begun ++ (piece (replicate 4097 0) false ∷ [])) no_bytes ≡ true
  ours-two : right_at ours asked (hear (framed (ascii "5113;ac=status;id=m;st=T0s=") ++ framed (ascii "5113;ac=status;id=m"))) ≡ true
  ours-files : right_at ours allowed file_a ≡ true
  ours-pieces : right_at ours begun (piece (ascii "ab") false) ≡ true
  ours-hears : right_at ours sent two_bytes ≡ true
  ours-sent : shown_at ours sent (ascii "a") ≡ true
  ours-differing : shown_at ours (sent ++ (two_bytes ∷ [])) (ascii "a") ≡ true
  ours-closed : shown_at ours (sent ++ (three_bytes ∷ [])) (ascii "a") ≡ true
  ours-parted : length (all_given ours (start carry₀) (calls ours (start carry₀) parted)) ≡ 1

computed : Computed
unfolding carry₀ scratch₀ out₀ computing writing heeding grown writes guarded send_of long_refusal file_writes file_of piece_of finish_of
    report_heed scanned_hear hear_of marks_of some_read
computed = record {
  early-files = record { wrong = refl };
  deaf-files = record { wrong = refl };
  misplacing-hears = record { wrong = refl };
  pushing-pieces = record { wrong = refl };
  hasty-finishes = record { wrong = refl };
  unending-pieces = record { wrong = refl };
  one_more-hears = record { wrong = refl };
  trusting-hears = record { wrong = refl };
  last_only-hears = record { wrong = refl };
  encoding-hears = record { wrong = refl };
  counting_refused-hears = record { wrong = refl };
  declaring-hears = record { wrong = refl };
  other_file-hears = record { wrong = refl };
  other_size-hears = record { wrong = refl };
  presuming-shows = record { filed = refl; wrong = refl };
  condoning-shows = record { filed = refl; wrong = refl };
  refusing-sends = record { wrong = refl };
  mute-sends = record { wrong = refl };
  emptying-pieces = record { wrong = refl };
  stalling-hears = record { wrong = refl };
  dawdling-hears = record { wrong = refl };
  overtaking-hears = record { wrong = refl };
  swallowing-hears = record { wrong = refl };
  same_bytes = refl;
  same-calls = refl;
  one-report = refl;
  no-report = refl;
  ours-no_bytes = refl;
  ours-two = refl;
  ours-files = refl;
  ours-pieces = refl;
  ours-hears = refl;
  ours-sent = refl;
  ours-differing = refl;
  ours-closed = refl;
  ours-parted = refl;
}

-- ---- the claims are false of each
cut-closer-lost : SenderCutsAlike closer_lost → ⊥
cut-closer-lost alike =
    let w = start carry₀ in
    let lent = all-lent closer_lost w in
    let same = alike carry₀ carry₀ (calls closer_lost w whole) (calls closer_lost w parted) (lent whole) (lent parted)
    computed.same_bytes computed.same-calls in
    let z : ◌≡◌ {A = ℕ} 1 0 = sym computed.one-report ∙ ap length same.0 ∙ computed.no-report in
    omega arith

pub teeth : SenderTeeth
teeth =
    record {
      file_before_ok = wrong-at _ _ _ computed.early-files;
      on_after_a_stop = wrong-at _ _ _ computed.deaf-files;
      file_stopped_instead = wrong-at _ _ _ computed.misplacing-hears;
      piece_of_a_stopped_file = wrong-at _ _ _ computed.pushing-pieces;
      finish_while_sending = wrong-at _ _ _ computed.hasty-finishes;
      last_piece_as_data = wrong-at _ _ _ computed.unending-pieces;
      equal_size_differs = wrong-at _ _ _ computed.one_more-hears;
      never_differs = wrong-at _ _ _ computed.trusting-hears;
      size_of_the_last_piece = wrong-at _ _ _ computed.last_only-hears;
      size_of_the_base64 = wrong-at _ _ _ computed.encoding-hears;
      refused_piece_counted = wrong-at _ _ _ computed.counting_refused-hears;
      declared_size = wrong-at _ _ _ computed.declaring-hears;
      other_file_named = wrong-at _ _ _ computed.other_file-hears;
      other_size_named = wrong-at _ _ _ computed.other_size-hears;
      closed_by_the_last_piece = wrong-shown _ _ _ computed.presuming-shows;
      closed_by_a_differing_ok = wrong-shown _ _ _ computed.condoning-shows;
      all_refused = wrong-at _ _ _ computed.refusing-sends;
      nothing_written = wrong-at _ _ _ computed.mute-sends;
      empty_pieces = wrong-at _ _ _ computed.emptying-pieces;
      nothing_heard = wrong-at _ _ _ computed.stalling-hears;
      rest_left = wrong-at _ _ _ computed.dawdling-hears;
      byte_too_many = wrong-at _ _ _ computed.overtaking-hears;
      second_text_lost = wrong-at _ _ _ computed.swallowing-hears;
      cut_closer_lost = cut-closer-lost;
    }
