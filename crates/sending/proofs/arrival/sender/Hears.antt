-- A reply that is heard: what becomes of the sender, and that what is told is fine.
use Prim.Native.Nat.{ℕ, ◌+◌, ◌≤◌}
use mathlib.Core.Path.{◌≡◌, refl, sym, ◌∙◌}
use mathlib.Core.Bool.{true, false}
use mathlib.Core.List.{List, [], ◌∷◌, ◌++◌, append_assoc}
use native.Mathlib.Omega.{arith}
use lib.ListN.{length}
use lib.Dec.{eqb}
use borrow.Author.Tests.{eq-eqb, ne_eqb}
use Rattle.std.specs.Prelude.{Some}
use Rattle.octets.specs.Outcome.{outcome}
use Rattle.octets.specs.Ascii.{ascii}
use Rattle.octets.specs.Slices.{equals}
use Rattle.octets.proofs.Compare.{equals_refl}
use Rattle.command.specs.Values.{count}
use Rattle.command.specs.Meaning.{Meaning, meaning_of}
use Rattle.command.specs.Slots.{values_of}
use Rattle.command.specs.Read.{scratch_room, Answer, read_of}
use Rattle.command.specs.declared.Place.{Place}
use Rattle.command.specs.declared.Command.{Command}
use Rattle.command.proofs.Simulation.{read-means}
use Rattle.protocol.specs.Sound.{IsId}
use Rattle.protocol.specs.Replies.{status_values}
use Rattle.protocol.proofs.Laws.{no_way, padded-id}
use Rattle.sending.specs.Transfers.{id_of, find_file, is_fresh}
use Rattle.sending.specs.Heeding.{heeded, word_of, is_ours, session_heed, ok_heed, file_heed, found_heed, status_heed, heed_of}
use Rattle.sending.specs.Calls.{read_heed}
use Rattle.sending.specs.Plans.{Order}
use Rattle.sending.specs.Arrives.{is_fine}
use Rattle.sending.specs.declared.Stage.{Stage}
use Rattle.sending.specs.declared.Transfer.{Transfer}
use Rattle.sending.specs.declared.Heeded.{Heeded}
use Rattle.sending.specs.declared.News.TheVariants as News
use Rattle.sending.specs.declared.Word.TheVariants as Word
use Rattle.sending.proofs.Hears.{Reads, values-read, status-code}
use Rattle.sending.proofs.arrival.path.Points.{Sent, sent, longer, Point, next, NotIn, AllIds, Goes, Said, said, reply_at, said_values}
use Rattle.sending.proofs.arrival.path.Ends.{at_fresh}
use Rattle.sending.proofs.arrival.path.States.{past_of, sending_now, stage_of, id_at, transfer_of, shaped}
use Rattle.sending.proofs.arrival.sender.Records.{found-sending, found-written, there-written, closed-shaped}
use Rattle.sending.proofs.arrival.sender.Behind.{Behind, heard-sent, last-first, Stands, stands}

-- ---- a status of this session that is read is heeded as one
module _ (t : Transfer) (id k : List ℕ) (n : ℕ) (word : List ℕ) (known : is_fresh t.stage ≡ false) (own : id_of t ≡ id) where
  abbrev Heeds : Heeded → Type 0
  Heeds r = (p : Place) × (r ≡ status_heed t k (count n) p (word_of word))

  heeds-read : (c : Command) (text after : List ℕ) → Reads c text after (status_values id k n word) → Heeds (heed_of t c text after)
  unfolding heed_of is_ours
  heeds-read c text after r =
      (c.status, rw (status-code c.action, ← r.code, r.id, known, own, equals_refl id, r.file, r.size, r.status))

  heeds-status : (text scratch : List ℕ) → scratch_room ≤ length scratch → meaning_of text ≡ Meaning.command (status_values id k n word)
      → Heeds (read_heed t text (read_of text scratch)).answer
  heeds-status text scratch enough m = go (read_of text scratch).answer refl
    where
      after : List ℕ
      after = (read_of text scratch).buffer

      go : (a : Answer) → (read_of text scratch).answer ≡ a → Heeds (read_heed t text (outcome a after)).answer
      go (Answer.read c) e =
          let w : Meaning.command (values_of c text after) ≡ Meaning.command (status_values id k n word) =
          (rw e at (read-means text scratch enough)) ∙ m in
          let v : values_of c text after ≡ status_values id k n word = cc in
          heeds-read c text after (rw v at (values-read c text after))
      go (Answer.refused r) e =
          let w : Meaning.refused r ≡ Meaning.command (status_values id k n word) = (rw e at (read-means text scratch enough)) ∙ m in
          let z : ◌≡◌ {A = ℕ} 0 1 = cc in
          absurd (omega arith)

-- ---- the session once send is written
stage-known : (h w : Point) → at_fresh w ≡ false → is_fresh (stage_of h w) ≡ false
stage-known h Point.fresh e = no_way e
stage-known Point.fresh (Point.idle past) e = refl
stage-known Point.fresh (Point.busy past f) e = refl
stage-known Point.fresh (Point.over past) e = refl
stage-known (Point.idle p) (Point.idle past) e = refl
stage-known (Point.idle p) (Point.busy past f) e = refl
stage-known (Point.idle p) (Point.over past) e = refl
stage-known (Point.busy p g) (Point.idle past) e = refl
stage-known (Point.busy p g) (Point.busy past f) e = refl
stage-known (Point.busy p g) (Point.over past) e = refl
stage-known (Point.over p) (Point.idle past) e = refl
stage-known (Point.over p) (Point.busy past f) e = refl
stage-known (Point.over p) (Point.over past) e = refl

id-known : (id : List ℕ) (w : Point) → at_fresh w ≡ false → id_at id w ≡ id
id-known id Point.fresh e = no_way e
id-known id (Point.idle past) e = refl
id-known id (Point.busy past f) e = refl
id-known id (Point.over past) e = refl

-- it stays in its stage while files are begun, sent and closed
busy-stage : (w : Point) (past : List Sent) (f : Sent) → stage_of (Point.busy past f) w ≡ stage_of (Point.idle []) w
busy-stage Point.fresh past f = refl
busy-stage (Point.idle p) past f = refl
busy-stage (Point.busy p g) past f = refl
busy-stage (Point.over p) past f = refl

idle-stage : (w : Point) (past : List Sent) → stage_of (Point.idle past) w ≡ stage_of (Point.idle []) w
idle-stage Point.fresh past = refl
idle-stage (Point.idle p) past = refl
idle-stage (Point.busy p g) past = refl
idle-stage (Point.over p) past = refl

-- ---- the file that is being sent at h is found behind the closed ones
found-stands : (g : Stage) (id k : List ℕ) (closed : List Sent) (w : Point) (others : List Sent) → AllIds closed → NotIn k closed
    → length k ≤ 32 → Stands k w others
    → find_file (shaped g id closed others (sending_now w)) k ≡ Some (length closed)
found-stands g id k closed w others a n l (Stands.sending past f e q) = rw e (found-sending closed f k a n l q)
found-stands g id k closed w others a n l (Stands.written f more q) = found-written closed f k a n l q more (sending_now w)

started-goes : word_of (ascii "STARTED") ≡ Word.Going
unfolding word_of equals
started-goes = refl

progress-goes : word_of (ascii "PROGRESS") ≡ Word.Going
unfolding word_of equals
progress-goes = refl

-- ---- a reply that is heard
pub record Replied (id : List ℕ) (h : Point) (o : Order) (os : List Order) (w : Point) (r : Heeded) : Type 0 where
  pub others' : List Sent
  pub kept : r.transfer ≡ transfer_of id (next h o) w others'
  pub fine : is_fine r.news ≡ true
  pub behind : Behind id (next h o) os w others'

module _ (id : List ℕ) (i : IsId id) (text scratch : List ℕ) (enough : scratch_room ≤ length scratch) where
  abbrev heard : Transfer → Heeded
  heard t = (read_heed t text (read_of text scratch)).answer

  -- the reply to send, after which nothing is written before it is heard
  hear-send : (others : List Sent) → Behind id Point.fresh (Order.send id ∷ []) (Point.idle []) others
      → meaning_of text ≡ Meaning.command (status_values id [] 0 (ascii "OK"))
      → Replied id Point.fresh (Order.send id) [] (Point.idle []) (heard (transfer_of id Point.fresh (Point.idle []) others))
  unfolding status_heed session_heed word_of equals
  hear-send others b m =
      let n : others ≡ [] = sym b.behind in
      let t : Transfer = transfer_of id Point.fresh (Point.idle []) [] in
      let r = heeds-status t id [] 0 (ascii "OK") refl (padded-id id i.short) text scratch enough m in
      rw (n, r.1) (record { others' = []; kept = refl; fine = refl; behind = record { path = tt; reached = refl; behind = refl } })

  module _ (h w : Point) (others : List Sent) (written : at_fresh w ≡ false) where
    abbrev t : Transfer
    t = transfer_of id h w others

    own : id_of t ≡ id
    own = rw (id-known id w written) (padded-id id i.short)

    module _ (k : List ℕ) (n : ℕ) (word : List ℕ) (is_id : IsId k) (m : meaning_of text ≡ Meaning.command (status_values id k n word))
        (j : ℕ) (f : find_file t k ≡ Some j) where
      -- a status for a file of the session
      file-heed : (p : Place) × (heard t ≡ file_heed t j (count n) p (word_of word))
      unfolding status_heed found_heed
      file-heed =
          let r = heeds-status t id k n word (stage-known h w written) own text scratch enough m in
          let some : eqb (length k) 0 ≡ false = ne_eqb (length k) 0 (λ (z : length k ≡ 0). omega (arith, is_id.some)) in
          (r.0, r.1 ∙ (rw (some, f)))

      -- work that goes on
      going-heed : word_of word ≡ Word.Going → heard t ≡ heeded t News.Noted
      unfolding file_heed
      going-heed g = let r = file-heed in r.1 ∙ (rw g)

  -- ---- a file's STARTED or PROGRESS, from the file f to f'
  module _ (past : List Sent) (w : Point) (others : List Sent) (k : List ℕ) (n : ℕ) (word : List ℕ) (a : AllIds past) (new : NotIn k past)
      (is_id : IsId k) (stand : Stands k w others) (m : meaning_of text ≡ Meaning.command (status_values id k n word))
      (written : at_fresh w ≡ false) (goes : word_of word ≡ Word.Going) where
    going-from : (h : Point) → past_of h ≡ past → heard (transfer_of id h w others) ≡ heeded (transfer_of id h w others) News.Noted
    going-from h e =
        going-heed h w others written k n word is_id m (length past)
        (rw e (found-stands (stage_of h w) (id_at id w) k past w others a new is_id.short stand)) goes

  -- ---- a file's OK, after its last piece
  module _ (past : List Sent) (f : Sent) (c : List ℕ) (w : Point) (os : List Order) (rest : List Sent) (a : AllIds past)
      (new : NotIn f.id past) (is_id : IsId f.id) (written : at_fresh w ≡ false)
      (m : meaning_of text ≡ Meaning.command (status_values id f.id (f.total + length c) (ascii "OK"))) where
    abbrev g : Sent
    g = longer f (length c)

    -- it is closed, since what was sent is what the reply says
    ok-closes : (s : Stage) (x : List ℕ) → ok_heed (shaped s x past (g ∷ rest) (sending_now w)) (length past) (count g.total)
        ≡ heeded (shaped s x (past ++ g ∷ []) rest (sending_now w)) News.Noted
    unfolding ok_heed
    ok-closes s x =
        rw (
          there-written past g rest (sending_now w),
          eq-eqb g.total g.total refl,
          closed-shaped past g rest (sending_now w) s x,
        )

    ok-heard : heard (transfer_of id (Point.busy past f) w (g ∷ rest))
        ≡ heeded (transfer_of id (Point.idle (past ++ g ∷ [])) w rest) News.Noted
    unfolding file_heed word_of equals
    ok-heard =
        let at = found-written past g g.id a new is_id.short refl rest (sending_now w) in
        let r = file-heed (Point.busy past f) w (g ∷ rest) written g.id g.total (ascii "OK") is_id m (length past) at in
        r.1 ∙ ok-closes (stage_of (Point.busy past f) w) (id_at id w)
        ∙ (rw (busy-stage w past f, idle-stage w (past ++ g ∷ [])))

    ok-replied : (others : List Sent) → others ≡ g ∷ rest → Behind id (Point.busy past f) (Order.piece c true ∷ os) w others
        → Replied id (Point.busy past f) (Order.piece c true) os w (heard (transfer_of id (Point.busy past f) w others))
    ok-replied others e b =
        let q : past_of w ≡ past ++ g ∷ rest = b.behind ∙ rw e refl in
        rw (e, ok-heard)
        (record {
          others' = rest;
          kept = refl;
          fine = refl;
          behind = record { path = b.path.1; reached = b.reached; behind = q ∙ sym (append_assoc past (g ∷ []) rest) };
        })

-- ---- any reply
pub hear-reply : {id : List ℕ} {h : Point} {o : Order} (g : Goes id h o) (os : List Order) (w : Point) (others : List Sent)
    → Behind id h (o ∷ os) w others → (at_fresh h ≡ true → os ≡ []) → (s : Said) → reply_at h o ≡ s ∷ []
    → (text scratch : List ℕ) → scratch_room ≤ length scratch → meaning_of text ≡ Meaning.command (said_values id s)
    → Replied id h o os w (read_heed (transfer_of id h w others) text (read_of text scratch)).answer
hear-reply {id} (Goes.sends i) os w others b alone s e text scratch enough m =
    let n : os ≡ [] = alone refl in
    let q : Point.idle [] ≡ w = rw n at b.reached in
    let z : said [] 0 (ascii "OK") ≡ s = cc in
    rw (n, ← q) (hear-send id i text scratch enough others (rw (n, ← q) at b) (rw (← z) at m))
hear-reply {id} (Goes.files past k name size i now valid bytes) os w others b alone s e text scratch enough m =
    let z : said k 0 (ascii "STARTED") ≡ s = cc in
    let stand = stands os past (sent k size 0) w others b.reached b.behind in
    rw (going-from id i text scratch enough past w others k 0 (ascii "STARTED") now.before.ids now.new now.id stand
    (rw (← z) at m) (heard-sent b refl) started-goes (Point.idle past) refl)
    (record {
      others' = others;
      kept = rw (busy-stage w past (sent k size 0), idle-stage w past);
      fine = refl;
      behind = record { path = b.path.1; reached = b.reached; behind = b.behind };
    })
hear-reply {id} (Goes.pieces past f c i now fit long within) os w others b alone s e text scratch enough m =
    let z : said f.id (f.total + length c) (ascii "PROGRESS") ≡ s = cc in
    let stand = stands os past (longer f (length c)) w others b.reached b.behind in
    rw (going-from id i text scratch enough past w others f.id (f.total + length c) (ascii "PROGRESS") now.before.ids now.new
    now.id stand (rw (← z) at m) (heard-sent b refl) progress-goes (Point.busy past f) refl)
    (record {
      others' = others;
      kept = rw (busy-stage w past f, busy-stage w past (longer f (length c)));
      fine = refl;
      behind = record { path = b.path.1; reached = b.reached; behind = b.behind };
    })
hear-reply {id} (Goes.lasts past f c i now fit long whole) os w others b alone s e text scratch enough m =
    let g : Sent = longer f (length c) in
    let z : said g.id g.total (ascii "OK") ≡ s = cc in
    let l = last-first os past others g (rw (← b.reached) at b.behind) in
    ok-replied id i text scratch enough past f c w os l.0 now.before.ids now.new now.id (heard-sent b refl) (rw (← z) at m)
    others l.1 b
hear-reply {id} (Goes.finishes past i before) os w others b alone s e text scratch enough m =
    let z : ◌≡◌ {A = ℕ} 0 1 = cc in
    absurd (omega arith)
