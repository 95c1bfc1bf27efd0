-- The console's side of an exchange: what is kept of the orders that were answered, of one that is read and not answered, and of those on
-- their way; and what a feed makes of them.
use Prim.Native.Nat.{ℕ, ◌≤◌}
use mathlib.Core.Path.{◌≡◌, refl, sym, ap, ◌∙◌}
use mathlib.Core.Bool.{true, false}
use mathlib.Core.List.{List, [], ◌∷◌, ◌++◌, append-nil, head-eq_of_cons-eq, tail-eq_of_cons-eq, cons≢nil}
use native.Mathlib.Omega.{arith}
use lib.ListN.{length, take, drop}
use Rattle.std.specs.Prelude.{Option, Some, None}
use Rattle.frames.specs.Stream as Stream
use Rattle.protocol.specs.Replies.{reply_bytes}
use Rattle.protocol.specs.Calls.{is_owed, Feeding, feed_of}
use Rattle.protocol.specs.History.{Heard, hearing, hearing_mark, Mark, bytes_of, marks_of}
use Rattle.protocol.specs.Machine.{Call, World}
use Rattle.protocol.specs.Cuts.{Saying, saying}
use Rattle.protocol.specs.declared.Told.{Told}
use Rattle.protocol.specs.declared.Table.{Table}
use Rattle.protocol.proofs.Ours.{step}
use Rattle.protocol.proofs.Laws.{no_way}
use Rattle.protocol.proofs.CutsRun.{act_on, reported}
use Rattle.protocol.proofs.CutsCalls.{Kept, steps, told_after}
use Rattle.sending.specs.Plans.{Order}
use Rattle.sending.proofs.arrival.path.Points.{Point, next, Goes, Path, text_at, texts_at, reached}
use Rattle.sending.proofs.arrival.path.States.{table_of, owing_of, asked_for, asked_marks, read_marks, marks_at}
use Rattle.sending.proofs.arrival.path.Texts.{order-means}
use Rattle.sending.proofs.arrival.path.Paths.{path-append, reach-append, texts_at-append}
use Rattle.sending.proofs.arrival.receiver.Reads.{saying_for, ReadAs, read-order}
use Rattle.sending.proofs.arrival.receiver.Promised.{promised}
use Rattle.sending.proofs.arrival.line.Line.{Line, Next, reads_on, taken-first, next-nothing, next-text, next-long}
use Rattle.sending.proofs.arrival.line.Line.{next-left, next-other}
use Rattle.sending.proofs.arrival.line.Fed.{FedBy, Quiet, Acts, fed_by, consumed_of, reply_of}
use Rattle.sending.proofs.arrival.line.Fed as Fed

-- the table, with the order that is read and not answered
abbrev pub now_table : List ℕ → Point → List Order → Table
now_table id p [] = table_of id p
now_table id p (o ∷ os) = owing_of id p o

-- the marks so far, with the order that is read and not answered
abbrev pub now_marks : List ℕ → Point → List Order → List Mark → List Mark
now_marks id p [] m = m
now_marks id p (o ∷ os) m = read_marks id p o m

-- the orders done are answered, at most one is owed an answer, the unread ones are on their way
pub record Receives (id : List ℕ) (done owed unread : List Order) (w : World) (there : List ℕ) : Type 0 where
  pub kept : Kept w
  pub table : w.receiver.table ≡ now_table id (reached done) owed
  pub line : Line (bytes_of w.history) there (texts_at id Point.fresh (done ++ owed)) (texts_at id (reached (done ++ owed)) unread)
  pub marks : marks_of w.history ≡ now_marks id (reached done) owed (marks_at id Point.fresh done [])

-- ---- a feed
-- what a saying asks
abbrev asks_in : Saying → Option Heard
asks_in Saying.nothing = None
asks_in (Saying.refused n) = None
asks_in Saying.ignored = None
asks_in Saying.drag_drop = None
asks_in Saying.asked = None
asks_in Saying.naming = None
asks_in Saying.path = None
asks_in Saying.last_path = None
asks_in (Saying.asks h) = Some h
asks_in (Saying.status w) = None
asks_in Saying.withdrawn = None
asks_in Saying.discarded = None
asks_in Saying.committed = None

hearing-said : (w : Told) (scratch : List ℕ) → hearing w scratch ≡ asks_in (saying w scratch)
hearing-said Told.Nothing scratch = refl
hearing-said (Told.Refused n) scratch = refl
hearing-said Told.Ignored scratch = refl
hearing-said Told.DragDrop scratch = refl
hearing-said Told.Asked scratch = refl
hearing-said Told.Naming scratch = refl
hearing-said Told.Path scratch = refl
hearing-said Told.LastPath scratch = refl
hearing-said (Told.Ask a) scratch = refl
hearing-said (Told.Status w) scratch = refl
hearing-said Told.Withdrawn scratch = refl
hearing-said Told.Discarded scratch = refl
hearing-said Told.Committed scratch = refl

asked-marks : (o : Order) (m : List Mark) → hearing_mark (asks_in (saying_for o)) m ≡ asked_marks (asked_for o) m
asked-marks (Order.send k) m = refl
asked-marks (Order.file k name size) m = refl
asked-marks (Order.piece c false) m = refl
asked-marks (Order.piece c true) m = refl
asked-marks Order.finish m = refl

-- what a feed may be: nothing is read; or the next order on its way is, while none is unanswered
pub data Feeds (id : List ℕ) (done owed unread : List Order) (w : World) (there reply : List ℕ) : Type 0 where
  same : reply ≡ [] → Receives id done owed unread w there → Feeds id done owed unread w there reply
  read : (o : Order) (rest : List Order) → owed ≡ [] → unread ≡ o ∷ rest → reply ≡ [] → Receives id done (o ∷ []) rest w there
      → Feeds id done owed unread w there reply

module _ (id : List ℕ) (done : List Order) (w : World) (there : List ℕ) (n : ℕ) (scratch reply : List ℕ) where
  abbrev piece : List ℕ
  piece = take n there

  abbrev fed : Feeding
  fed = feed_of w.receiver piece w.carry scratch reply

  abbrev world : World
  world = step w (Call.feed piece w.carry scratch reply)

  abbrev left : List ℕ
  left = drop fed.fed.consumed there

  -- what the bytes that it consumed tell
  fed-next : (owed unread : List Order) → Receives id done owed unread w there
      → Next (bytes_of world.history) left (texts_at id Point.fresh (done ++ owed)) (texts_at id (reached (done ++ owed)) unread)
      (told_after w (consumed_of piece fed))
  fed-next owed unread r =
      let within = (promised w.receiver r.kept.sized piece w.carry scratch reply id).feeds.within in
      let cut = taken-first fed.fed.consumed n there within in
      reads_on (bytes_of w.history) (consumed_of piece fed) left _ _ (rw cut r.line)

  -- while none is unanswered
  fed-free : (unread : List Order) → Receives id done [] unread w there
      → Next (bytes_of world.history) left (texts_at id Point.fresh done) (texts_at id (reached done) unread)
      (told_after w (consumed_of piece fed))
  fed-free unread r = rw (append-nil done) at (fed-next [] unread r)

  -- nothing is told
  fed-nothing : (owed unread : List Order) → Receives id done owed unread w there → Quiet w piece fed
      → Receives id done owed unread world left
  unfolding marks_of
  fed-nothing owed unread r q =
      record {
        kept = (steps w r.kept (Call.feed piece w.carry scratch reply) (λ e. refl)).kept;
        table = q.table ∙ r.table;
        line = next-nothing (fed-next owed unread r) q.told;
        marks = rw (q.hears, q.told) r.marks;
      }

  -- the next order is
  fed-order : (o : Order) (rest : List Order) → Goes id (reached done) o
      → ReadAs (table_of id (reached done)) (text_at id (reached done) o) (owing_of id (reached done) o) (saying_for o)
      → Receives id done [] (o ∷ rest) w there → Acts w piece fed (text_at id (reached done) o)
      → Receives id done (o ∷ []) rest world left × (reply_of fed ≡ [])
  unfolding marks_of
  fed-order o rest g reads r a =
      let p = reached done in
      let d = Stream.Told.command (text_at id p o) in
      let nx = next-text (text_at id p o) (fed-free (o ∷ rest) r) a.told in
      let q = tail-eq_of_cons-eq nx.first in
      let e = texts_at-append id Point.fresh done (o ∷ []) in
      let says = a.says ∙ ap (λ (t : Table). (reported t d).said) r.table ∙ reads.says in
      let hears = hearing-said fed.fed.told fed.scratch ∙ ap asks_in says in
      let l : Line (bytes_of world.history) left (texts_at id Point.fresh done ++ text_at id p o ∷ []) (texts_at id (next p o) rest) =
      rw q nx.line in (
        record {
          kept = (steps w r.kept (Call.feed piece w.carry scratch reply) (λ e. refl)).kept;
          table = a.table ∙ ap (λ (t : Table). (act_on t d).step.table) r.table ∙ reads.table;
          line = rw (e, reach-append Point.fresh done (o ∷ [])) l;
          marks = rw (hears, a.told, order-means g, r.marks) (asked-marks o _);
        },
        a.reply ∙ ap (λ (t : Table). reply_bytes (act_on t d).step.reply) r.table ∙ reads.silent,
      )

  -- a text that is told is the next order's, while none is unanswered: after send nothing is on its way
  text-turn : (owed unread : List Order) → Path id Point.fresh (done ++ (owed ++ unread)) → length owed ≤ 1
      → ((k : List ℕ) → owed ≡ Order.send k ∷ [] → unread ≡ []) → Receives id done owed unread w there
      → (t : List ℕ) → Acts w piece fed t → Feeds id done owed unread world left (reply_of fed)
  text-turn [] [] path few alone r t a =
      absurd (cons≢nil (sym (next-text t (fed-next [] [] r) a.told).first))
  text-turn [] (o ∷ rest) path few alone r t a =
      let p = reached done in
      let e : text_at id p o ≡ t = head-eq_of_cons-eq (next-text t (fed-free (o ∷ rest) r) a.told).first in
      let g = (path-append id Point.fresh done (o ∷ rest) path).1.0 in
      let x = fed-order o rest g (read-order g (order-means g)) r (rw (← e) at a) in
      read o rest refl refl x.1 x.0
  text-turn (o ∷ []) unread path few alone r t a = go o refl
    where
      first : texts_at id (reached (done ++ o ∷ [])) unread ≡ t ∷ (next-text t (fed-next (o ∷ []) unread r) a.told).rest
      first = (next-text t (fed-next (o ∷ []) unread r) a.told).first

      free : is_owed (owing_of id (reached done) o).owed ≡ false
      free = rw r.table at a.free

      go : (o' : Order) → o ≡ o' → Feeds id done (o ∷ []) unread world left (reply_of fed)
      go (Order.send k) e =
          let u : texts_at id (reached (done ++ o ∷ [])) unread ≡ [] = ap (texts_at id (reached (done ++ o ∷ []))) (alone k (rw e)) in
          let y = sym first ∙ u in
          let z : ◌≡◌ {A = ℕ} 0 1 = cc in
          absurd (omega arith)
      go (Order.file k name size) e = no_way (rw e at free)
      go (Order.piece c false) e = no_way (rw e at free)
      go (Order.piece c true) e = no_way (rw e at free)
      go Order.finish e = no_way (rw e at free)
  text-turn (o ∷ o' ∷ os) unread path few alone r t a = absurd (omega arith)

  -- any number of the bytes on their way, with any buffers
  pub feed-turn : (owed unread : List Order) → Path id Point.fresh (done ++ (owed ++ unread)) → length owed ≤ 1
      → ((k : List ℕ) → owed ≡ Order.send k ∷ [] → unread ≡ []) → Receives id done owed unread w there
      → Feeds id done owed unread world left (reply_of fed)
  feed-turn owed unread path few alone r = go (fed_by w r.kept piece scratch reply)
    where
      go : FedBy w piece fed → Feeds id done owed unread world left (reply_of fed)
      go (Fed.nothing q) = same q.reply (fed-nothing owed unread r q)
      go (Fed.text t a) = text-turn owed unread path few alone r t a
      go (Fed.long e) = absurd (next-long (fed-next owed unread r) e)
      go (Fed.left e) = absurd (next-left (fed-next owed unread r) e)
      go (Fed.other t e) = absurd (next-other t (fed-next owed unread r) e)
