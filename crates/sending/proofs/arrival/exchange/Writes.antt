-- A write of the office in an exchange: the next order is written, or it waits.
use Prim.Native.Nat.{ℕ, ◌≤◌}
use mathlib.Core.Path.{◌≡◌, refl, sym, ap, ◌∙◌}
use mathlib.Core.Bool.{Bool, true, false}
use mathlib.Core.List.{List, [], ◌∷◌, ◌++◌, append_assoc}
use native.Mathlib.Omega.{arith}
use lib.ListN.{length, take}
use lib.Seq.{sets, sets-eq, take-append_seam}
use lib.Dec.{ltb}
use borrow.Author.Tests.{ltb-true, ltb-false}
use Rattle.octets.specs.Outcome.{outcome}
use Rattle.frames.specs.Stream.{framed}
use Rattle.command.specs.Framed.{frame_room}
use Rattle.protocol.proofs.Laws.{no_way}
use Rattle.sending.specs.Calls.{unwritten}
use Rattle.sending.specs.Machine.{ours}
use Rattle.sending.specs.Plans.{Order}
use Rattle.sending.specs.Exchange.{order_of}
use Rattle.sending.specs.Arrives.{is_wait}
use Rattle.sending.specs.declared.Sender.{Sender}
use Rattle.sending.specs.declared.Transfer.{Transfer}
use Rattle.sending.proofs.arrival.path.Points.{Point, next, Goes, text_at, reached}
use Rattle.sending.proofs.arrival.path.Ends.{at_fresh, fresh-is, fresh-none}
use Rattle.sending.proofs.arrival.path.States.{transfer_of}
use Rattle.sending.proofs.arrival.path.Texts.{order-framed, order-length}
use Rattle.sending.proofs.arrival.path.Paths.{reach-append}
use Rattle.sending.proofs.arrival.sender.Behind.{Behind, heard-sent}
use Rattle.sending.proofs.arrival.sender.Writes.{sender_of, wrote_as, write-short, write-order, write-waits}
use Rattle.sending.proofs.arrival.exchange.Hears.{Sends}

-- what is stored at a buffer's start stands there
first-bytes : (bs out : List ℕ) → length bs ≤ length out → take (length bs) (sets out 0 bs) ≡ bs
first-bytes bs out h = rw (sets-eq bs out 0 (omega arith)) (take-append_seam bs _)

-- an order that is written: its frame stands in the buffer, and it joins those that are written
pub record GoesOut (id : List ℕ) (heard replied rest : List Order) (s : Sender) (o : Order) (carry back out : List ℕ) : Type 0 where
  pub transfer : Transfer
  pub wrote : order_of ours s o out ≡ wrote_as s.framing id (reached (heard ++ (replied ++ rest))) o transfer out
  pub stands : let frame = framed (text_at id (reached (heard ++ (replied ++ rest))) o) in take (length frame) (sets out 0 frame) ≡ frame
  pub sends : Sends id heard replied (rest ++ o ∷ []) (sender_of s.framing transfer) carry back
  pub alone : at_fresh (reached heard) ≡ true → length (replied ++ (rest ++ o ∷ [])) ≤ 1

-- what a write may be
pub data Writes (id : List ℕ) (heard replied rest : List Order) (s : Sender) (o : Order) (carry back out : List ℕ) : Type 0 where
  waits : (n : ℕ) → is_wait n ≡ true → order_of ours s o out ≡ outcome (unwritten s n) out → Writes id heard replied rest s o carry back out
  goes : GoesOut id heard replied rest s o carry back out → Writes id heard replied rest s o carry back out

module _ (id : List ℕ) (heard replied rest : List Order) (s : Sender) (o : Order) (carry back out : List ℕ)
    (g : Goes id (reached (heard ++ (replied ++ rest))) o) (k : Sends id heard replied rest s carry back) where
  abbrev w : Point
  w = reached (heard ++ (replied ++ rest))

  abbrev h : Point
  h = reached heard

  -- the sender, its session written out
  sender-is : s ≡ sender_of s.framing (transfer_of id h w k.others)
  sender-is = ap (sender_of s.framing) k.transfer

  -- where send is heard of, or nothing is written yet, it is written
  pub ready : at_fresh h ≡ at_fresh w → frame_room ≤ length out → GoesOut id heard replied rest s o carry back out
  ready e room =
      let written = write-order g h (replied ++ rest) k.others k.behind e s.framing out room (order-framed g out room) in
      let a : replied ++ (rest ++ o ∷ []) ≡ (replied ++ rest) ++ o ∷ [] = sym (append_assoc replied rest (o ∷ [])) in
      let q : reached (heard ++ (replied ++ (rest ++ o ∷ []))) ≡ next w o =
      rw (a, ← append_assoc heard (replied ++ rest) (o ∷ [])) (reach-append Point.fresh (heard ++ (replied ++ rest)) (o ∷ [])) in
      let only : at_fresh h ≡ true → length (replied ++ (rest ++ o ∷ [])) ≤ 1 = λ f.
      let n = fresh-none id h (replied ++ rest) k.behind.path (ap at_fresh k.behind.reached ∙ sym e ∙ f) in
      rw (a, n) (omega arith) in
      record {
        transfer = transfer_of id h (next w o) written.others';
        wrote = ap (λ (v : Sender). order_of ours v o out) sender-is ∙ written.wrote;
        stands = first-bytes (framed (text_at id w o)) out (omega (arith, order-length g));
        sends =
            record {
              old = k.old;
              follows = k.follows;
              line = k.line;
              others = written.others';
              transfer = rw q;
              behind = rw (q, a) written.behind;
            };
        alone = only;
      }

  -- "It writes nothing after send until OK"
  waiting : h ≡ Point.fresh → at_fresh w ≡ false → frame_room ≤ length out → order_of ours s o out ≡ outcome (unwritten s 18) out
  waiting f q room =
      let b : Behind id Point.fresh (replied ++ rest) w k.others = rw f at k.behind in
      let i : s ≡ sender_of s.framing (transfer_of id Point.fresh w k.others) = sender-is ∙ rw f in
      ap (λ (v : Sender). order_of ours v o out) i ∙ write-waits g (replied ++ rest) k.others b q s.framing out room
      ∙ ap (λ (v : Sender). outcome (unwritten v 18) out) (sym i)

  -- any order, with any buffer
  pub write-turn : Writes id heard replied rest s o carry back out
  write-turn = go (ltb (length out) frame_room) refl (at_fresh h) (at_fresh w) refl refl
    where
      go : (b : Bool) → ltb (length out) frame_room ≡ b → (x y : Bool) → at_fresh h ≡ x → at_fresh w ≡ y
          → Writes id heard replied rest s o carry back out
      go true e x y p q = waits 9 refl (write-short s o out (ltb-true _ _ e))
      go false e true true p q = goes (ready (p ∙ sym q) (ltb-false _ _ e))
      go false e true false p q = waits 18 refl (waiting (fresh-is h p) q (ltb-false _ _ e))
      go false e false true p q = no_way (sym q ∙ heard-sent k.behind p)
      go false e false false p q = goes (ready (p ∙ sym q) (ltb-false _ _ e))
