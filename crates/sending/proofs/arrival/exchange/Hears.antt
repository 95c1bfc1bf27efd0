-- The office's side of an exchange: what is kept of the orders whose replies are heard, of those that are replied to, and of the others
-- that are written; and what a hear makes of them.
use Prim.Native.Nat.{ℕ, ◌≤◌}
use mathlib.Core.Path.{◌≡◌, refl, sym, ap, ◌∙◌}
use mathlib.Core.Bool.{true}
use mathlib.Core.List.{List, [], ◌∷◌, ◌++◌, append_assoc, map, head-eq_of_cons-eq, tail-eq_of_cons-eq, cons≢nil}
use native.Mathlib.Omega.{arith}
use lib.ListN.{length, take, drop}
use Rattle.frames.specs.Stream.{Mode, stream}
use Rattle.frames.specs.Follows.{Follows}
use Rattle.frames.proofs.Follows.{stream-append}
use Rattle.command.specs.Read.{scratch_room, read_of}
use Rattle.sending.specs.Calls.{Listening, read_heed, hear_of}
use Rattle.sending.specs.Plans.{Order}
use Rattle.sending.specs.Arrives.{is_fine}
use Rattle.sending.specs.declared.Sender.{Sender}
use Rattle.sending.proofs.arrival.lists.Empty.{empty-short}
use Rattle.sending.proofs.arrival.path.Points.{Sent, Point, next, Goes, Path, reply_at, Said, said_text, says_at, replies_at, reached}
use Rattle.sending.proofs.arrival.path.Ends.{at_fresh, over-ends}
use Rattle.sending.proofs.arrival.path.States.{transfer_of}
use Rattle.sending.proofs.arrival.path.Texts.{Reads, replies-read}
use Rattle.sending.proofs.arrival.path.Paths.{reach-append, replies_at-append}
use Rattle.sending.proofs.arrival.sender.Behind.{Behind}
use Rattle.sending.proofs.arrival.sender.Hears.{Replied, hear-reply}
use Rattle.sending.proofs.arrival.line.Line.{Line, Next, mode_of, reads_on, taken-first, next-nothing, next-text, next-long}
use Rattle.sending.proofs.arrival.line.Line.{next-left, next-other}
use Rattle.sending.proofs.arrival.line.Heard.{Heeds, HeardBy, Hearing, hearing-by, heard_of}
use Rattle.sending.proofs.arrival.line.Heard as Heard

-- the bytes heard so far are old; the orders after those heard are `replied` and then `rest`
pub record Sends (id : List ℕ) (heard replied rest : List Order) (s : Sender) (carry back : List ℕ) : Type 0 where
  pub old : List ℕ
  pub follows : Follows s.framing carry (mode_of old)
  pub line : Line old back (replies_at id Point.fresh heard) (replies_at id (reached heard) replied)
  pub others : List Sent
  pub transfer : s.transfer ≡ transfer_of id (reached heard) (reached (heard ++ (replied ++ rest))) others
  pub behind : Behind id (reached heard) (replied ++ rest) (reached (heard ++ (replied ++ rest))) others

-- ---- a hear
-- nothing is heard, or the reply to the next order that is replied to
pub data Hears (id : List ℕ) (heard replied rest : List Order) (s : Sender) (carry back : List ℕ) : Type 0 where
  same : Sends id heard replied rest s carry back → Hears id heard replied rest s carry back
  hears : (o : Order) (os : List Order) → replied ≡ o ∷ os → Sends id (heard ++ o ∷ []) os rest s carry back
      → Hears id heard replied rest s carry back

-- an order has one reply; a finish has none, and nothing follows it
data Reply (p : Point) (o : Order) (os : List Order) : Type 0 where
  one : (s : Said) → reply_at p o ≡ s ∷ [] → Reply p o os
  none : says_at p (o ∷ os) ≡ [] → Reply p o os

reply-of : {id : List ℕ} {p : Point} {o : Order} → Goes id p o → (os : List Order) → Path id (next p o) os → Reply p o os
reply-of (Goes.sends i) os path = one _ refl
reply-of (Goes.files past k name size i now valid bytes) os path = one _ refl
reply-of (Goes.pieces past f c i now fit long within) os path = one _ refl
reply-of (Goes.lasts past f c i now fit long whole) os path = one _ refl
reply-of {id} (Goes.finishes past i before) os path = none (rw (over-ends id past os path))

module _ (id : List ℕ) (heard rest : List Order) (s : Sender) (carry back : List ℕ) (n : ℕ) (scratch : List ℕ) where
  abbrev piece : List ℕ
  piece = take n back

  abbrev l : Listening
  l = hear_of s piece carry scratch

  abbrev left : List ℕ
  left = drop l.listened.consumed back

  module _ (replied : List Order) (k : Sends id heard replied rest s carry back) where
    hearing : Hearing s piece scratch (mode_of k.old) l
    hearing = hearing-by s piece carry scratch (mode_of k.old) k.follows

    abbrev new : List ℕ
    new = k.old ++ heard_of piece l

    follows : Follows l.listened.sender.framing l.carry (mode_of new)
    follows = rw (mode_of, stream-append Mode.outside k.old (heard_of piece l)) hearing.follows

    told : Next new left (replies_at id Point.fresh heard) (replies_at id (reached heard) replied)
        (stream (mode_of k.old) (heard_of piece l)).0
    told =
        let cut = taken-first l.listened.consumed n back hearing.within in
        reads_on k.old (heard_of piece l) left _ _ (rw cut k.line)

  -- what the reply to the next order makes of the session
  reply-heeded : (o : Order) (os : List Order) → Goes id (reached heard) o → (at_fresh (reached heard) ≡ true → os ++ rest ≡ [])
      → Sends id heard (o ∷ os) rest s carry back → (y : Said) → reply_at (reached heard) o ≡ y ∷ [] → scratch_room ≤ length scratch
      → Replied id (reached heard) o (os ++ rest) (reached (heard ++ (o ∷ os ++ rest)))
      (read_heed s.transfer (said_text id y) (read_of (said_text id y) scratch)).answer
  reply-heeded o os g alone k y u enough =
      let read : Reads id y = (rw u at (replies-read g)).0 in
      rw k.transfer
      (hear-reply g (os ++ rest) (reached (heard ++ (o ∷ os ++ rest))) k.others k.behind alone y u (said_text id y) scratch enough
      read.means)

  reply-turn : (o : Order) (os : List Order) → Goes id (reached heard) o → (at_fresh (reached heard) ≡ true → os ++ rest ≡ [])
      → (k : Sends id heard (o ∷ os) rest s carry back) → (t : List ℕ) → Heeds s piece scratch (mode_of k.old) l t
      → (y : Said) → reply_at (reached heard) o ≡ y ∷ []
      → Sends id (heard ++ o ∷ []) os rest l.listened.sender l.carry left × (is_fine l.listened.news ≡ true)
  reply-turn o os g alone k t e y u =
      let p = reached heard in
      let nx = next-text t (told (o ∷ os) k) e.told in
      let z : replies_at id p (o ∷ os) ≡ said_text id y ∷ replies_at id (next p o) os = rw u in
      let texts = sym z ∙ nx.first in
      let text : said_text id y ≡ t = head-eq_of_cons-eq texts in
      let reply = rw text at (reply-heeded o os g alone k y u e.enough) in
      let a : (heard ++ o ∷ []) ++ (os ++ rest) ≡ heard ++ (o ∷ os ++ rest) = append_assoc heard (o ∷ []) (os ++ rest) in
      let q : reached (heard ++ o ∷ []) ≡ next p o = reach-append Point.fresh heard (o ∷ []) in
      let r : replies_at id Point.fresh (heard ++ o ∷ []) ≡ replies_at id Point.fresh heard ++ t ∷ [] =
      replies_at-append id Point.fresh heard (o ∷ []) ∙ rw (u, text) in (
        record {
          old = new (o ∷ os) k;
          follows = follows (o ∷ os) k;
          line = rw (r, q, tail-eq_of_cons-eq texts) nx.line;
          others = reply.others';
          transfer = e.transfer ∙ reply.kept ∙ rw (a, q);
          behind = rw (a, q) reply.behind;
        },
        ap is_fine e.news ∙ reply.fine,
      )

  -- any number of the bytes on their way back, with any scratch; what is told is fine
  pub hear-turn : (replied : List Order) → Path id (reached heard) replied
      → (at_fresh (reached heard) ≡ true → length (replied ++ rest) ≤ 1)
      → Sends id heard replied rest s carry back
      → Hears id heard replied rest l.listened.sender l.carry left × (is_fine l.listened.news ≡ true)
  hear-turn replied path alone k = go (hearing replied k).by
    where
      quiet : l.listened.sender.transfer ≡ s.transfer → (stream (mode_of k.old) (heard_of piece l)).0 ≡ []
          → Sends id heard replied rest l.listened.sender l.carry left
      quiet e t =
          record {
            old = new replied k;
            follows = follows replied k;
            line = next-nothing (told replied k) t;
            others = k.others;
            transfer = e ∙ k.transfer;
            behind = k.behind;
          }

      text : (replied : List Order) → Path id (reached heard) replied → (at_fresh (reached heard) ≡ true → length (replied ++ rest) ≤ 1)
          → (k : Sends id heard replied rest s carry back) → (t : List ℕ) → Heeds s piece scratch (mode_of k.old) l t
          → Hears id heard replied rest l.listened.sender l.carry left × (is_fine l.listened.news ≡ true)
      text [] path alone k t e = absurd (cons≢nil (sym (next-text t (told [] k) e.told).first))
      text (o ∷ os) path alone k t e = by (reply-of path.0 os path.1)
        where
          by : Reply (reached heard) o os
              → Hears id heard (o ∷ os) rest l.listened.sender l.carry left × (is_fine l.listened.news ≡ true)
          by (one y u) =
              let turned = reply-turn o os path.0 (λ f. empty-short (os ++ rest) (omega (arith, alone f))) k t e y u in
              (hears o os refl turned.0, turned.1)
          by (none u) = absurd (cons≢nil (sym (next-text t (told (o ∷ os) k) e.told).first ∙ ap (map (said_text id)) u))

      go : HeardBy s piece scratch (mode_of k.old) l
          → Hears id heard replied rest l.listened.sender l.carry left × (is_fine l.listened.news ≡ true)
      go (Heard.nothing t e f) = (same (quiet e t), f)
      go (Heard.text t e) = text replied path alone k t e
      go (Heard.long e) = absurd (next-long (told replied k) e)
      go (Heard.left e) = absurd (next-left (told replied k) e)
      go (Heard.other t e) = absurd (next-other t (told replied k) e)
