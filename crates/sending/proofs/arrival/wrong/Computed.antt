-- Wrong senders whose exchange is computed, turn by turn.
use mathlib.Core.Path.{◌≡◌, refl, sym, ap, ◌∙◌}
use mathlib.Core.Bool.{Bool, true, false}
use mathlib.Core.Logic.{inl}
use mathlib.Core.List.{List, [], ◌∷◌, ◌++◌}
use Rattle.std.specs.Prelude.{Some}
use Rattle.octets.specs.Ascii.{ascii}
use Rattle.octets.specs.Members.{every}
use Rattle.protocol.specs.History.{Mark, marks_of}
use Rattle.protocol.proofs.Laws.{no_way}
use Rattle.protocol.proofs.Refuting.{carry₀}
use Rattle.sending.specs.Transfers.{file_at, find_file}
use Rattle.sending.specs.Machine.{Machine}
use Rattle.sending.specs.Plans.{Fit}
use Rattle.sending.specs.Exchange.{Turn, AtRest}
use Rattle.sending.specs.Arrives.{is_fine, Arrives}
use Rattle.sending.specs.WrongSenders.{last_only, encoding}
use Rattle.sending.specs.WrongArrivals.{unclosing, impatient, last_as_data}
use Rattle.sending.specs.declared.FileStage.{FileStage}
use Rattle.sending.proofs.KeptWrites.{found-same}
use Rattle.sending.proofs.arrival.examples.SmallPlans.{none, fit_none, one, given, fit-given}
use Rattle.sending.proofs.arrival.examples.Trying.{write, feed, hear, done, allow, tried, exchanging}

-- ---- turns
-- a session allowed; a file begun in it and its two pieces, each answered; and the end
abbrev allowed : List Turn
allowed = write ∷ feed ∷ allow ∷ hear ∷ []

abbrev answered : List Turn
answered = write ∷ feed ∷ done ∷ hear ∷ []

abbrev written : List Turn
written = allowed ++ (answered ++ (answered ++ answered))

abbrev ended : List Turn
ended = written ++ answered

-- ---- what each does
-- an answer is the newest mark
abbrev is_answer : List Mark → Bool
is_answer [] = false
is_answer (Mark.read c ∷ m) = false
is_answer (Mark.asked a ∷ m) = false
is_answer (Mark.allow i ∷ m) = false
is_answer (Mark.drop i ∷ m) = false
is_answer (Mark.answer b q ∷ m) = true
is_answer (Mark.wrote p bs ∷ m) = false

abbrev is_closed : FileStage → Bool
is_closed FileStage.Free = false
is_closed FileStage.Sending = false
is_closed FileStage.Sent = false
is_closed FileStage.Closed = true
is_closed FileStage.Stopped = false

record Computed : Type 0 where
  unclosing-rests : AtRest (tried unclosing (one (given 0)) ended)
  unclosing_finds : find_file (tried unclosing (one (given 0)) ended).sender.transfer (ascii "a") ≡ Some 0
  unclosing-stays : is_closed (file_at (tried unclosing (one (given 0)) ended).sender.transfer 0).stage ≡ false
  impatient-rests : AtRest (tried impatient none (write ∷ write ∷ feed ∷ feed ∷ []))
  impatient_withdraws : is_answer (marks_of (tried impatient none (write ∷ write ∷ feed ∷ feed ∷ [])).world.history) ≡ false
  last_only-differs : every is_fine (tried last_only (one (given 0)) written).news ≡ false
  encoding-differs : every is_fine (tried encoding (one (given 0)) written).news ≡ false
  lastAsData_stops : every is_fine (tried last_as_data (one (given 0)) ended).news ≡ false

computed : Computed
unfolding exchanging
computed = record {
  unclosing-rests = record { todo = refl; there = refl; back = refl; owed = refl };
  unclosing_finds = refl;
  unclosing-stays = refl;
  impatient-rests = record { todo = refl; there = refl; back = refl; owed = refl };
  impatient_withdraws = refl;
  last_only-differs = refl;
  encoding-differs = refl;
  lastAsData_stops = refl;
}

-- ---- the claim is false of each
abbrev fits : Fit (one (given 0))
fits = fit-given 0 (inl refl)

pub never-closed : Arrives unclosing → ⊥
never-closed claim =
    let a = ((claim (one (given 0)) fits carry₀ carry₀ ended).whole computed.unclosing-rests).files.0 in
    let here : 0 ≡ a.place = found-same (sym computed.unclosing_finds ∙ a.found) in
    no_way (ap is_closed (sym a.stage) ∙ rw (← here) computed.unclosing-stays)

pub not-waited : Arrives impatient → ⊥
not-waited claim =
    let c = ((claim none fit_none carry₀ carry₀ (write ∷ write ∷ feed ∷ feed ∷ [])).whole computed.impatient-rests).committed in
    no_way (ap is_answer (sym c.newest) ∙ computed.impatient_withdraws)

-- a hear tells what it should not
unfine : (m : Machine) (ts : List Turn) → every is_fine (tried m (one (given 0)) ts).news ≡ false → Arrives m → ⊥
unfine m ts e claim = no_way (sym (claim (one (given 0)) fits carry₀ carry₀ ts).news ∙ e)

pub only_the-last-counted : Arrives last_only → ⊥
only_the-last-counted = unfine last_only written computed.last_only-differs

pub letters_for-bytes : Arrives encoding → ⊥
letters_for-bytes = unfine encoding written computed.encoding-differs

pub last-as-another : Arrives last_as_data → ⊥
last-as-another = unfine last_as_data ended computed.lastAsData_stops
