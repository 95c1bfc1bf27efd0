-- What a report does keeps ids in arrays of at most 32 bytes; and the buffers of a feed that is not refused with 9.
use Rattle.frames.proofs.Choices.{by_cond}
use Rattle.protocol.specs.Calls.{Acted, text_act}
use Rattle.frames.specs.Stream.{is_drag_drop}
use Prim.Native.Nat.{ℕ, ◌≤◌}
use mathlib.Core.Path.{◌≡◌, refl}
use mathlib.Core.Bool.{Bool, true, false, ◌||◌}
use mathlib.Core.List.{List}
use lib.ListN.{length}
use lib.Dec.{ltb}
use borrow.Author.Tests.{ltb-false}
use Rattle.protocol.specs.Replies.{reply_room}
use Rattle.frames.specs.Stream.{text_limit}
use Rattle.octets.specs.Outcome.{Outcome}
use Rattle.frames.specs.declared.Report.{Report}
use Rattle.command.specs.Read.{scratch_room, Answer, read_of}
use Rattle.protocol.specs.Calls.{read_act, report_act, is_short}
use Rattle.protocol.specs.Promises.{Sized}
use Rattle.protocol.specs.declared.Table.{Table}
use Rattle.protocol.proofs.Laws.{no_way}
use Rattle.protocol.proofs.Sizes.{SizedStep, none-sized, obey-sized}

pub read-sized : (t : Table) → Sized t → (text : List ℕ) (o : Outcome Answer) → SizedStep (read_act t text o).step
read-sized t h text o = go o.answer
  where
    go : (a : Answer) → SizedStep (read_act t text (record { answer = a; buffer = o.buffer })).step
    go (Answer.read c) = (obey-sized t h c text o.buffer).sized
    go (Answer.refused n) = record { table = h; reply = none-sized }

text-sized : (t : Table) → Sized t → (text scratch : List ℕ) → SizedStep (text_act t text scratch).step
text-sized t h text scratch =
    by_cond (λ (a : Acted). SizedStep a.step) (is_drag_drop text) (λ _. record { table = h; reply = none-sized })
    (λ _. read-sized t h text (read_of text scratch))

pub report-sized : (t : Table) → Sized t → (k : Report) (text scratch : List ℕ) → SizedStep (report_act t k text scratch).step
report-sized t h Report.Nothing text scratch = record { table = h; reply = none-sized }
report-sized t h (Report.InPiece start n) text scratch = text-sized t h text scratch
report-sized t h (Report.InCarry n) text scratch = text-sized t h text scratch
report-sized t h Report.TooLong text scratch = record { table = h; reply = none-sized }
report-sized t h Report.Abandoned text scratch = record { table = h; reply = none-sized }
report-sized t h Report.ShortCarry text scratch = record { table = h; reply = none-sized }

-- the buffers of a feed that is not refused with 9
pub record Roomy (c s b : List ℕ) : Type 0 where
  pub carry : text_limit ≤ length c
  pub scratch : scratch_room ≤ length s
  pub reply : reply_room ≤ length b

pub roomy : (carry scratch reply : List ℕ) → is_short carry scratch reply ≡ false → Roomy carry scratch reply
roomy carry scratch reply e =
    go (ltb (length carry) text_limit) refl (ltb (length scratch) scratch_room) refl (ltb (length reply) reply_room) refl e
  where
    go : (x : Bool) → ltb (length carry) text_limit ≡ x → (y : Bool) → ltb (length scratch) scratch_room ≡ y
        → (z : Bool) → ltb (length reply) reply_room ≡ z → (x || (y || z)) ≡ false → Roomy carry scratch reply
    go true p y q z s e = no_way e
    go false p true q z s e = no_way e
    go false p false q true s e = no_way e
    go false p false q false s e = record { carry = ltb-false _ _ p; scratch = ltb-false _ _ q; reply = ltb-false _ _ s }
