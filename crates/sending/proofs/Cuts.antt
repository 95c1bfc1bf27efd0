-- THE CUT DOES NOT MATTER: what a list of calls gives, and the sender that it leaves, are those of its moves and of all bytes that it
-- consumes: pieces, places, scratch and buffers count for nothing.
use Prim.Native.Nat.{ℕ}
use mathlib.Core.Path.{◌≡◌, refl, sym, ap, ◌∙◌}
use mathlib.Core.Bool.{true}
use mathlib.Core.List.{List, [], ◌∷◌, ◌++◌, append_assoc, append-nil}
use Rattle.frames.specs.Stream as Stream
use Rattle.frames.specs.Stream.{Mode, stream}
use Rattle.frames.specs.Framings.{framing_of}
use Rattle.frames.specs.declared.Framing.{Framing}
use Rattle.frames.proofs.Follows.{stream-append}
use Rattle.protocol.proofs.Laws.{no_way}
use Rattle.protocol.proofs.CutsMoves as CutsMoves
use Rattle.sending.specs.Transfers.{no_transfer}
use Rattle.sending.specs.Machine.{ours}
use Rattle.sending.specs.Story.{Call, World, start, bytes_of}
use Rattle.sending.specs.Cuts.{Move, is_report_move, Output, SenderCutsAlike}
use Rattle.sending.specs.declared.Transfer.{Transfer}
use Rattle.sending.specs.declared.Sender.{Sender}
use Rattle.sending.proofs.Ours.{step, all_given, after, AllLent}
use Rattle.sending.proofs.EveryCall.{Inv, start-inv}
use Rattle.sending.proofs.CutsRun.{move, Moves, none}
use Rattle.sending.proofs.CutsCalls.{consumed, told_by, steps}

-- all that bytes tell
abbrev tells : List ℕ → List Stream.Told
tells bs = (stream Mode.outside bs).0

-- what the bytes of a list of calls tell, call by call
abbrev all_told : World → List Call → List Stream.Told
all_told w [] = []
all_told w (c ∷ cs) = told_by w c ++ all_told (step w c) cs

-- it is what all bytes tell, after what those before the calls told
told-all : (w : World) (cs : List Call) → Inv w → AllLent w cs
    → tells (bytes_of (after w cs).story) ≡ tells (bytes_of w.story) ++ all_told w cs
told-all w [] ok lent = sym (append-nil _)
told-all w (c ∷ cs) ok lent =
    let s = steps w ok c lent.0 in
    let bs = bytes_of w.story in
    let more = all_told (step w c) cs in
    told-all (step w c) cs s.inv lent.1
    ∙ ap (λ (ds : List Stream.Told). ds ++ more)
    (ap tells s.bytes ∙ ap (λ (x : List Stream.Told × Mode). x.0) (stream-append Mode.outside bs (consumed w c)))
    ∙ append_assoc (tells bs) (told_by w c) more

inv-all : (w : World) (cs : List Call) → Inv w → AllLent w cs → Inv (after w cs)
inv-all w [] ok lent = ok
inv-all w (c ∷ cs) ok lent = inv-all (step w c) cs (steps w ok c lent.0).inv lent.1

all-moves : (w : World) (cs : List Call) → Inv w → AllLent w cs
    → Moves w.sender.transfer (after w cs).sender.transfer (all_given w cs) (all_told w cs)
all-moves w [] ok lent = none refl
all-moves w (c ∷ cs) ok lent =
    let s = steps w ok c lent.0 in
    CutsMoves.then-moves (λ (o : Output). o.move) is_report_move move s.moves (all-moves (step w c) cs s.inv lent.1)

-- ---- from a fresh sender
calls-moves : (carry : List ℕ) (cs : List Call) → AllLent (start carry) cs → let w = after (start carry) cs in
    Moves no_transfer w.sender.transfer (all_given (start carry) cs) (tells (bytes_of w.story))
unfolding stream
calls-moves carry cs lent = rw (told-all (start carry) cs (start-inv carry) lent) (all-moves (start carry) cs (start-inv carry) lent)

report-is : (m : Move) → is_report_move m ≡ true → m ≡ Move.report
report-is Move.report e = refl
report-is (Move.send id) e = no_way (sym e)
report-is (Move.file id name size) e = no_way (sym e)
report-is (Move.piece contents last) e = no_way (sym e)
report-is Move.finish e = no_way (sym e)

same-sender : (s₁ s₂ : Sender) → s₁.framing ≡ s₂.framing → s₁.transfer ≡ s₂.transfer → s₁ ≡ s₂
same-sender s₁ s₂ f t =
    ap (λ (g : Framing). record { framing = g; transfer = s₁.transfer }) f
    ∙ ap (λ (x : Transfer). record { framing = s₂.framing; transfer = x }) t

pub cuts-alike : SenderCutsAlike ours
cuts-alike carry₁ carry₂ cs₁ cs₂ lent₁ lent₂ bytes same =
    let w₁ = start carry₁ in
    let w₂ = start carry₂ in
    let told : tells (bytes_of (after w₁ cs₁).story) ≡ tells (bytes_of (after w₂ cs₂).story) = ap tells bytes in
    let q = CutsMoves.same-moves (λ (o : Output). o.move) is_report_move move Move.report report-is
    (calls-moves carry₁ cs₁ lent₁) (calls-moves carry₂ cs₂ lent₂) told same in
    let f₁ = (inv-all w₁ cs₁ (start-inv carry₁) lent₁).follows.framing in
    let f₂ = (inv-all w₂ cs₂ (start-inv carry₂) lent₂).follows.framing in
    let framing = f₁ ∙ ap (λ (bs : List ℕ). framing_of (stream Mode.outside bs).1) bytes ∙ sym f₂ in
    (q.0, same-sender _ _ framing q.1)
