-- How a claim is refuted of a machine: a list of calls on a fresh sender, and a test that computes to false at its end.
use Prim.Native.Nat.{ℕ, ◌-◌, ◌≤◌, ◌<◌}
use mathlib.Core.Path.{◌≡◌, refl, sym, ap, ◌∙◌}
use mathlib.Core.Bool.{Bool, true, false, not, cond, ◌&&◌, ◌||◌}
use mathlib.Core.List.{List, [], ◌∷◌, ◌++◌}
use native.Mathlib.Omega.{arith}
use lib.ListN.{length, take, replicate}
use lib.Dec.{ltb, eqb}
use borrow.Author.Tests.{lt-ltb, eq-eqb, eqb-false}
use Rattle.octets.specs.Outcome.{Outcome, outcome}
use Rattle.octets.specs.Slices.{equals}
use Rattle.frames.specs.Stream.{Told, text_limit}
use Rattle.frames.specs.Calls.{text_of}
use Rattle.frames.specs.Follows.{told_of}
use Rattle.frames.specs.declared.Report.{Report}
use Rattle.command.specs.Values.{Value}
use Rattle.command.specs.Read.{scratch_room}
use Rattle.command.specs.Write.{Answer}
use Rattle.command.specs.Framed.{frame_room}
use Rattle.protocol.specs.Written.{piece_values}
use Rattle.protocol.specs.Files.{part_limit}
use Rattle.protocol.proofs.Laws.{no_way, equals-same}
use Rattle.protocol.proofs.Refuting.{carry₀, scratch₀}
use Rattle.sending.specs.Transfers.{file_at}
use Rattle.sending.specs.Commands.{send_values, file_values, finish_values}
use Rattle.sending.specs.Calls.{Listening}
use Rattle.sending.specs.Machine.{Machine}
use Rattle.sending.specs.Sayings.{Saying, saying}
use Rattle.sending.specs.Story.{Call, World, Mark, is_unheard, marks_of, Lent, step, start}
use Rattle.sending.specs.Telling.{session_in, pending_in, or_empty, is_unsent, idle_in, busy_in, taken_in}
use Rattle.sending.specs.Telling.{files_in, is_among, place_among}
use Rattle.sending.specs.Every.{answer_in, answer_by, Answers, told_after, saying_of, Heard, Right, AllLent, AllRight, EverySender}
use Rattle.sending.specs.Every.{stage_in, AllShown}
use Rattle.sending.specs.Cuts.{after}
use Rattle.sending.specs.declared.FileStage.{FileStage}
use Rattle.sending.specs.declared.Sender.{Sender}
use Rattle.sending.specs.declared.Wrote.{Wrote}

-- ---- a list of calls: every hear is lent the world's carry, and the other buffers are all alike
unfoldable pub out₀ : List ℕ
out₀ = replicate frame_room 0

pub data Deed : Type 0 where
  send : List ℕ → Deed
  file : (id name : List ℕ) → ℕ → Deed
  piece : List ℕ → Bool → Deed
  finish : Deed
  hear : List ℕ → Deed

abbrev pub call_of : World → Deed → Call
call_of w (Deed.send id) = Call.send id out₀
call_of w (Deed.file id name size) = Call.file id name size out₀
call_of w (Deed.piece contents last) = Call.piece contents last out₀
call_of w Deed.finish = Call.finish out₀
call_of w (Deed.hear bytes) = Call.hear bytes w.carry scratch₀

lent : (m : Machine) (w : World) (d : Deed) → Lent m w (call_of w d)
lent m w (Deed.send id) = tt
lent m w (Deed.file id name size) = tt
lent m w (Deed.piece contents last) = tt
lent m w Deed.finish = tt
lent m w (Deed.hear bytes) = λ _. refl

module _ (m : Machine) where
  abbrev pub calls : World → List Deed → List Call
  calls w [] = []
  calls w (d ∷ ds) = call_of w d ∷ calls (step m w (call_of w d)) ds

  pub all-lent : (w : World) (ds : List Deed) → AllLent m w (calls w ds)
  all-lent w [] = tt
  all-lent w (d ∷ ds) = (lent m w d, all-lent (step m w (call_of w d)) ds)

  -- the world after them, and what the claim says of the call after that
  abbrev afterwards : World → List Deed → World
  afterwards w ds = after m w (calls w ds)

  right-after : (w : World) (ds : List Deed) (d : Deed) → AllRight m w (calls w (ds ++ (d ∷ [])))
      → Right m (afterwards w ds) (call_of (afterwards w ds) d)
  right-after w [] d r = r.1
  right-after w (x ∷ ds) d r = right-after (step m w (call_of w x)) ds d r.2

  abbrev pub after_all : List Deed → World
  after_all ds = afterwards (start carry₀) ds

  right-at : (ds : List Deed) (d : Deed) → EverySender m → Right m (after_all ds) (call_of (after_all ds) d)
  right-at ds d claim =
      let cs = ds ++ (d ∷ []) in
      right-after (start carry₀) ds d (claim carry₀ (calls (start carry₀) cs) (all-lent (start carry₀) cs))

  shown-after : (w : World) (ds : List Deed) → AllRight m w (calls w ds) → AllShown (afterwards w ds)
  shown-after w [] r = r
  shown-after w (x ∷ ds) r = shown-after (step m w (call_of w x)) ds r.2

-- ---- the claim's words as tests
-- an answer and the first bytes of the buffer, as numbers
abbrev answer_code : Answer → List ℕ
answer_code (Answer.written n) = 0 ∷ n ∷ []
answer_code (Answer.refused n) = 1 ∷ n ∷ []

abbrev outcome_code : Outcome Answer → List ℕ
outcome_code o = answer_code o.answer ++ take 64 o.buffer

abbrev answers_right : (over ready : Bool) (c : List Value) (out : List ℕ) → Outcome Wrote → Bool
answers_right over ready c out o =
    equals (outcome_code (outcome (answer_by o.answer.writing) o.buffer)) (outcome_code (answer_in over ready c out))

answers-right : {s : Sender} (over ready : Bool) (c : List Value) (out : List ℕ) (o : Outcome Wrote) → Answers s over ready c out o
    → answers_right over ready c out o ≡ true
answers-right over ready c out o a = equals-same _ _ (ap outcome_code a.answer)

-- what is told, as numbers
abbrev saying_code : Saying → List ℕ
saying_code Saying.nothing = 0 ∷ []
saying_code (Saying.refused n) = 1 ∷ n ∷ []
saying_code Saying.ignored = 2 ∷ []
saying_code Saying.noted = 3 ∷ []
saying_code Saying.allowed = 4 ∷ []
saying_code (Saying.differs i z) = 5 ∷ i ∷ cond z.negative 1 0 ∷ z.magnitude ∷ []
saying_code (Saying.file_stopped i st) = 6 ∷ i ∷ st
saying_code (Saying.session_stopped st) = 7 ∷ st
saying_code Saying.written = 8 ∷ []

abbrev is_short : (carry scratch : List ℕ) → Bool
is_short carry scratch = ltb (length carry) text_limit || ltb (length scratch) scratch_room

abbrev progresses : List ℕ → ℕ → Bool
progresses bytes consumed = eqb (length bytes) 0 || ltb 0 consumed

abbrev is_nothing : Report → Bool
is_nothing Report.Nothing = true
is_nothing (Report.InPiece start n) = false
is_nothing (Report.InCarry n) = false
is_nothing Report.TooLong = false
is_nothing Report.Abandoned = false
is_nothing Report.ShortCarry = false

abbrev is_through : List ℕ → Report → ℕ → Bool
is_through bytes r consumed = not (is_nothing r) || eqb consumed (length bytes)

abbrev tells_right : World → List ℕ → Listening → Bool
tells_right w bytes l =
    equals (saying_code (saying l.listened.news l.scratch))
    (saying_code (saying_of (marks_of w.story) (told_after w (take l.listened.consumed bytes))))

-- as many texts are reported as the bytes tell
abbrev reports_right : World → List ℕ → Listening → Bool
reports_right w bytes l =
    let a = l.listened in
    eqb (length (told_of a.report (text_of bytes l.carry a.report))) (length (told_after w (take a.consumed bytes)))

-- one byte fewer tells nothing
abbrev ends_right : World → List ℕ → ℕ → Bool
ends_right w bytes consumed = eqb consumed 0 || eqb (length (told_after w (take (consumed - 1) bytes))) 0

abbrev taken_right : World → List ℕ → Listening → Bool
taken_right w bytes l =
    let a = l.listened in
    progresses bytes a.consumed && (is_through bytes a.report a.consumed
    && (ends_right w bytes a.consumed && (reports_right w bytes l && tells_right w bytes l)))

abbrev hears_right : World → (bytes carry scratch : List ℕ) → Listening → Bool
hears_right w bytes carry scratch l =
    cond (is_unheard l.listened.news) (is_short carry scratch) (not (is_short carry scratch) && taken_right w bytes l)

progress-right : (bytes : List ℕ) (n : ℕ) → (1 ≤ length bytes → 1 ≤ n) → progresses bytes n ≡ true
progress-right bytes n h = go (eqb (length bytes) 0) refl
  where
    go : (b : Bool) → eqb (length bytes) 0 ≡ b → (b || ltb 0 n) ≡ true
    go true e = refl
    go false e = let some : length bytes ≡ 0 → ⊥ = eqb-false _ _ e in lt-ltb 0 n (h (omega arith))

through-right : (bytes : List ℕ) (r : Report) (n : ℕ) → (r ≡ Report.Nothing → n ≡ length bytes) → is_through bytes r n ≡ true
through-right bytes Report.Nothing n h = eq-eqb _ _ (h refl)
through-right bytes (Report.InPiece start k) n h = refl
through-right bytes (Report.InCarry k) n h = refl
through-right bytes Report.TooLong n h = refl
through-right bytes Report.Abandoned n h = refl
through-right bytes Report.ShortCarry n h = refl

ends-right : (w : World) (bytes : List ℕ) (n : ℕ) → ((k : ℕ) → k < n → told_after w (take k bytes) ≡ []) → ends_right w bytes n ≡ true
ends-right w bytes n h = go (eqb n 0) refl
  where
    go : (b : Bool) → eqb n 0 ≡ b → (b || eqb (length (told_after w (take (n - 1) bytes))) 0) ≡ true
    go true e = refl
    go false e =
        let some : n ≡ 0 → ⊥ = eqb-false _ _ e in
        eq-eqb _ _ (ap (λ (ds : List Told). length ds) (h (n - 1) (omega arith)))

hears-right : (w : World) (bytes carry scratch : List ℕ) (l : Listening) → Heard w bytes carry scratch l
    → hears_right w bytes carry scratch l ≡ true
hears-right w bytes carry scratch l h = go (is_unheard l.listened.news) refl
  where
    go : (b : Bool) → is_unheard l.listened.news ≡ b
        → cond b (is_short carry scratch) (not (is_short carry scratch) && taken_right w bytes l) ≡ true
    go true e = sym h.short ∙ e
    go false e =
        let reports : reports_right w bytes l ≡ true = eq-eqb _ _ (ap (λ (ds : List Told). length ds) (h.reports e)) in
        let ends = ends-right w bytes l.listened.consumed h.ends in
        let through = through-right bytes l.listened.report l.listened.consumed (h.through e) in
        rw (← h.short, e, progress-right bytes l.listened.consumed (h.progress e), through, ends, reports)
        (equals-same _ _ (ap saying_code (h.tells e)))

-- the call is right, as far as these tests see
abbrev pub is_right : Machine → World → Call → Bool
is_right m w (Call.send id out) =
    answers_right false (is_unsent (session_in (marks_of w.story))) (send_values id) out (m.sends w.sender id out)
is_right m w (Call.file id name size out) =
    let k = marks_of w.story in
    answers_right (taken_in id k) (idle_in k) (file_values (or_empty (session_in k)) id name size) out (m.files w.sender id name size out)
is_right m w (Call.piece contents last out) =
    let k = marks_of w.story in
    answers_right (ltb part_limit (length contents)) (busy_in k)
    (piece_values (or_empty (session_in k)) (or_empty (pending_in k)) contents last) out (m.pieces w.sender contents last out)
is_right m w (Call.finish out) =
    let k = marks_of w.story in
    answers_right false (idle_in k) (finish_values (or_empty (session_in k))) out (m.finishes w.sender out)
is_right m w (Call.hear bytes carry scratch) = hears_right w bytes carry scratch (m.hears w.sender bytes carry scratch)

is_right_lem : (m : Machine) (w : World) (c : Call) → Right m w c → is_right m w c ≡ true
is_right_lem m w (Call.send id out) r = answers-right _ _ _ _ _ r
is_right_lem m w (Call.file id name size out) r = answers-right _ _ _ _ _ r
is_right_lem m w (Call.piece contents last out) r = answers-right _ _ _ _ _ r
is_right_lem m w (Call.finish out) r = answers-right _ _ _ _ _ r
is_right_lem m w (Call.hear bytes carry scratch) r = hears-right w bytes carry scratch _ r

-- ---- the call after these is wrong
abbrev pub right_at : Machine → List Deed → Deed → Bool
right_at m ds d = is_right m (after_all m ds) (call_of (after_all m ds) d)

pub record WrongAt (m : Machine) (ds : List Deed) (d : Deed) : Type 0 where
  pub wrong : right_at m ds d ≡ false

pub wrong-at : (m : Machine) (ds : List Deed) (d : Deed) → WrongAt m ds d → EverySender m → ⊥
wrong-at m ds d e claim =
    let w = after_all m ds in
    no_way (sym (is_right_lem m w (call_of w d) (right-at m ds d claim)) ∙ e.wrong)

-- ---- or what is shown of a file after these: its stage
abbrev stage_code : FileStage → ℕ
stage_code FileStage.Free = 0
stage_code FileStage.Sending = 1
stage_code FileStage.Sent = 2
stage_code FileStage.Closed = 3
stage_code FileStage.Stopped = 4

abbrev marks_at : Machine → List Deed → List Mark
marks_at m ds = marks_of (after_all m ds).story

abbrev pub shown_at : Machine → List Deed → List ℕ → Bool
shown_at m ds k =
    let f = file_at (after_all m ds).sender.transfer (place_among k (files_in (marks_at m ds))) in
    eqb (stage_code f.stage) (stage_code (stage_in k (marks_at m ds)))

pub record WrongShown (m : Machine) (ds : List Deed) (k : List ℕ) : Type 0 where
  pub filed : is_among k (files_in (marks_at m ds)) ≡ true
  pub wrong : shown_at m ds k ≡ false

pub wrong-shown : (m : Machine) (ds : List Deed) (k : List ℕ) → WrongShown m ds k → EverySender m → ⊥
wrong-shown m ds k e claim =
    let w = start carry₀ in
    let shown = shown-after m w ds (claim carry₀ (calls m w ds) (all-lent m w ds)) k e.filed in
    no_way (sym (eq-eqb _ _ (ap stage_code shown.stage)) ∙ e.wrong)
