-- THE CUT DOES NOT MATTER, at the level of calls. What a list of calls gives, and the receiver that it leaves, are those of its moves and
-- of all bytes that it consumes: pieces, places, scratch and buffers count for nothing.
use Prim.Native.Nat.{ℕ}
use mathlib.Core.Path.{◌≡◌, refl, sym, ap, ◌∙◌}
use mathlib.Core.Bool.{true}
use mathlib.Core.List.{List, [], ◌∷◌, ◌++◌, append_assoc, append-nil}
use Rattle.frames.specs.Stream as Stream
use Rattle.frames.specs.Stream.{Mode, stream}
use Rattle.frames.specs.Framings.{framing_of}
use Rattle.frames.specs.declared.Framing.{Framing}
use Rattle.frames.proofs.Follows.{stream-append}
use Rattle.protocol.specs.Table.{empty_table}
use Rattle.protocol.specs.History.{bytes_of}
use Rattle.protocol.specs.Machine.{ours, Call, World, start}
use Rattle.protocol.specs.Cuts.{Move, is_report_move, Output, CutsAlike}
use Rattle.protocol.specs.declared.Table.{Table}
use Rattle.protocol.specs.declared.Receiver.{Receiver}
use Rattle.protocol.proofs.Ours.{step, all_given, after, AllLent}
use Rattle.protocol.proofs.Laws.{no_way}
use Rattle.protocol.proofs.CutsMoves as CutsMoves
use Rattle.protocol.proofs.CutsRun.{move, Moves, none}
use Rattle.protocol.proofs.CutsCalls.{Kept, start-kept, consumed, told_by, steps}

-- all that bytes tell
abbrev pub tells : List ℕ → List Stream.Told
tells bs = (stream Mode.outside bs).0

-- what the bytes of a list of calls tell, call by call
abbrev all_told : World → List Call → List Stream.Told
all_told w [] = []
all_told w (c ∷ cs) = told_by w c ++ all_told (step w c) cs

-- it is what all bytes tell, after what those before the calls told
told-all : (w : World) (cs : List Call) → Kept w → AllLent w cs
    → tells (bytes_of (after w cs).history) ≡ tells (bytes_of w.history) ++ all_told w cs
told-all w [] ok lent = sym (append-nil _)
told-all w (c ∷ cs) ok lent =
    let s = steps w ok c lent.0 in
    let bs = bytes_of w.history in
    let more = all_told (step w c) cs in
    told-all (step w c) cs s.kept lent.1
    ∙ ap (λ (ds : List Stream.Told). ds ++ more)
    (ap tells s.bytes ∙ ap (λ (x : List Stream.Told × Mode). x.0) (stream-append Mode.outside bs (consumed w c)))
    ∙ append_assoc (tells bs) (told_by w c) more

kept-all : (w : World) (cs : List Call) → Kept w → AllLent w cs → Kept (after w cs)
kept-all w [] ok lent = ok
kept-all w (c ∷ cs) ok lent = kept-all (step w c) cs (steps w ok c lent.0).kept lent.1

all-moves : (w : World) (cs : List Call) → Kept w → AllLent w cs
    → Moves w.receiver.table (after w cs).receiver.table (all_given w cs) (all_told w cs)
all-moves w [] ok lent = none refl
all-moves w (c ∷ cs) ok lent =
    let s = steps w ok c lent.0 in
    CutsMoves.then-moves (λ (o : Output). o.move) is_report_move move s.moves (all-moves (step w c) cs s.kept lent.1)

-- ---- from a fresh receiver
calls-moves : (carry : List ℕ) (cs : List Call) → AllLent (start carry) cs → let w = after (start carry) cs in
    Moves empty_table w.receiver.table (all_given (start carry) cs) (tells (bytes_of w.history))
unfolding stream
calls-moves carry cs lent = rw (told-all (start carry) cs (start-kept carry) lent) (all-moves (start carry) cs (start-kept carry) lent)

report-is : (m : Move) → is_report_move m ≡ true → m ≡ Move.report
report-is Move.report e = refl
report-is (Move.allow id) e = no_way (sym e)
report-is (Move.deny id) e = no_way (sym e)
report-is (Move.drop id) e = no_way (sym e)
report-is Move.done e = no_way (sym e)
report-is (Move.failed code) e = no_way (sym e)
report-is Move.unlisted e = no_way (sym e)
report-is (Move.supply u) e = no_way (sym e)

same-receiver : (r₁ r₂ : Receiver) → r₁.framing ≡ r₂.framing → r₁.table ≡ r₂.table → r₁ ≡ r₂
same-receiver r₁ r₂ f t =
    ap (λ (g : Framing). record { framing = g; table = r₁.table }) f
    ∙ ap (λ (x : Table). record { framing = r₂.framing; table = x }) t

pub cuts-alike : CutsAlike ours
cuts-alike carry₁ carry₂ cs₁ cs₂ lent₁ lent₂ bytes same =
    let w₁ = start carry₁ in
    let w₂ = start carry₂ in
    let told : tells (bytes_of (after w₁ cs₁).history) ≡ tells (bytes_of (after w₂ cs₂).history) = ap tells bytes in
    let q = CutsMoves.same-moves (λ (o : Output). o.move) is_report_move move Move.report report-is
    (calls-moves carry₁ cs₁ lent₁) (calls-moves carry₂ cs₂ lent₂) told same in
    let f₁ = (kept-all w₁ cs₁ (start-kept carry₁) lent₁).follows.framing in
    let f₂ = (kept-all w₂ cs₂ (start-kept carry₂) lent₂).follows.framing in
    let framing = f₁ ∙ ap (λ (bs : List ℕ). framing_of (stream Mode.outside bs).1) bytes ∙ sym f₂ in
    (q.0, same-receiver _ _ framing q.1)
