-- What the console's answer to an order does: the table of the next point, and the reply. And the calls that are refused.
use Prim.Native.Nat.{ℕ, ◌+◌, ◌≤◌, min}
use mathlib.Core.Path.{◌≡◌, refl, sym, ap, ◌∙◌}
use mathlib.Core.Bool.{Bool, true, false}
use mathlib.Core.List.{List, [], ◌∷◌, ◌++◌, map, append-nil}
use native.Mathlib.Omega.{arith}
use lib.ListN.{length}
use Rattle.std.specs.Prelude.{Option, Some, None}
use Rattle.octets.specs.Ascii.{ascii}
use Rattle.octets.specs.Slices.{equals}
use Rattle.octets.proofs.Compare.{equals_refl}
use Rattle.frames.specs.Stream.{framed}
use Rattle.command.specs.Slots.{nowhere}
use Rattle.protocol.specs.Table.{first, has_id, here_or, put_file, moved}
use Rattle.protocol.specs.Replies.{reply_bytes, file_reply, status_text, status_word}
use Rattle.protocol.specs.Change.{files, stepped, telling, step_by}
use Rattle.protocol.specs.Files.{settled, count_limit}
use Rattle.protocol.specs.Rule.{grown, done_by, is_asked, decided_by}
use Rattle.protocol.specs.Sessions.{decided_at, settle_done, decided_of}
use Rattle.protocol.specs.Calls.{is_owed}
use Rattle.protocol.specs.Sound.{IsId}
use Rattle.protocol.specs.Machine.{is_refused}
use Rattle.protocol.specs.declared.FileState.{FileState}
use Rattle.protocol.specs.declared.FileRecord.{FileRecord}
use Rattle.protocol.specs.declared.Session.{Session}
use Rattle.protocol.specs.declared.Due.{Due}
use Rattle.protocol.specs.declared.Table.{Table}
use Rattle.protocol.specs.declared.Status.{Status}
use Rattle.protocol.specs.declared.Decision.TheVariants as Decision
use Rattle.protocol.specs.declared.Told.TheVariants as Told
use Rattle.protocol.specs.declared.Reply.{Reply}
use Rattle.protocol.specs.declared.Change.{Change}
use Rattle.protocol.specs.declared.Stepped.{Stepped}
use Rattle.protocol.proofs.Laws.{no_way, padded-id}
use Rattle.sending.specs.Plans.{Order}
use Rattle.sending.proofs.arrival.path.Points.{Sent, sent, longer, Point, next, Goes, Now, reply_at, said_text, frames}
use Rattle.sending.proofs.arrival.path.Ends.{is_answered}
use Rattle.sending.proofs.arrival.path.States.{record_of, open_session, alone_in, session_of, table_of, owing_of}
use Rattle.sending.proofs.arrival.receiver.Records.{now-at, put-started, put-grown, put-closed}
use Rattle.sending.proofs.arrival.receiver.Reads.{no_bytes}

-- ---- what is owed
pub owed-order : (id : List ℕ) (p : Point) (o : Order) → is_owed (owing_of id p o).owed ≡ is_answered o
owed-order id p (Order.send k) = refl
owed-order id p (Order.file k name size) = refl
owed-order id p (Order.piece c last) = refl
owed-order id p Order.finish = refl

-- ---- answers
-- a call of the console that is not refused: the table after it, and its reply
pub record AnsweredAs (s : Stepped) (t : Table) (reply : List ℕ) : Type 0 where
  pub table : s.table ≡ t
  pub taken : is_refused s.told ≡ false
  pub bytes : reply_bytes s.reply ≡ reply

-- send: allowed
pub allow-order : (id : List ℕ) → IsId id
    → AnsweredAs (decided_of (owing_of id Point.fresh (Order.send id)) Decision.Allow id) (table_of id (next Point.fresh (Order.send id)))
    (frames (map (said_text id) (reply_at Point.fresh (Order.send id))))
unfolding decided_of decided_by first reply_bytes
allow-order id i =
    rw (padded-id id i.short, equals_refl id)
    (record { table = refl; taken = refl; bytes = rw (padded-id id i.short) (sym (append-nil _)) })

-- the others: done
file-bytes : (w : Status) (id : List ℕ) (n : ℕ) (past : List Sent) (now : List FileRecord) (g : FileState) (f : Sent) (size : ℕ)
    → IsId id → IsId f.id
    → reply_bytes (Some (file_reply w (open_session id n past now) (record_of g f) size))
    ≡ framed (status_text id f.id size (status_word w))
unfolding reply_bytes
file-bytes w id n past now g f size i k = rw (padded-id id i.short, padded-id f.id k.short)

settles-as : (s : Session) (d : Due) (j : ℕ) (a : FileRecord) (w : Status) (r : Option Reply) → done_by s d ≡ files j a w r
    → settle_done (alone_in s (Some (0, d))) ≡ stepped (alone_in (put_file s j a) None) (Told.Status w) r
unfolding settle_done
settles-as s d j a w r e = ap (λ (c : Change). step_by (alone_in s (Some (0, d))) 0 nowhere c) e

module _ {id : List ℕ} (past : List Sent) (f : Sent) (i : IsId id) (now : Now past f) where
  -- the session while the file is open, and the file's record that is put back with a count
  abbrev busy : ℕ → FileState → Session
  busy n g = open_session id n past (record_of g f ∷ [])

  grown-now : (n m : ℕ) (g : FileState) → f.total + n ≤ count_limit → grown (busy m g) (length past) n ≡ f.total + n
  grown-now n m g h =
      let e : min (f.total + n) count_limit ≡ f.total + n = omega arith in
      rw (now-at id m past (record_of g f)) e

  -- it moves to a state with a count, which is replied with a word
  settles-now : (m : ℕ) (g g' : FileState) (d : Due) (w : Status) (n : ℕ) (s : Session)
      → done_by (busy m g) d ≡ settled (busy m g) (length past) g' n w n
      → put_file (busy m g) (length past) (record_of g' (sent f.id f.size n)) ≡ s
      → AnsweredAs (settle_done (alone_in (busy m g) (Some (0, d)))) (alone_in s None)
      (framed (status_text id f.id n (status_word w)) ++ [])
  settles-now m g g' d w n s e p =
      let r : Option Reply = Some (file_reply w (busy m g) (record_of g f) n) in
      let a : FileRecord = record_of g' (sent f.id f.size n) in
      let moves : done_by (busy m g) d ≡ files (length past) a w r =
      e
      ∙ ap (λ (x : FileRecord). files (length past) (moved x g' n) w (Some (file_reply w (busy m g) x n)))
      (now-at id m past (record_of g f)) in
      let told : settle_done (alone_in (busy m g) (Some (0, d))) ≡ stepped (alone_in s None) (Told.Status w) r =
      settles-as (busy m g) d (length past) a w r moves ∙ ap (λ (x : Session). stepped (alone_in x None) (Told.Status w) r) p in
      record {
        table = ap (λ (x : Stepped). x.table) told;
        taken = ap (λ (x : Stepped). is_refused x.told) told;
        bytes =
            ap (λ (x : Stepped). reply_bytes x.reply) told
            ∙ file-bytes w id m past (record_of g f ∷ []) g f n i now.id
            ∙ sym (append-nil _);
      }

  -- its open, a piece of it, and its last piece
  opened : f.total ≡ 0 → AnsweredAs (settle_done (alone_in (busy 0 FileState.Opening) (Some (0, Due.OpenFile (length past)))))
      (table_of id (Point.busy past f)) (framed (status_text id f.id 0 (ascii "STARTED")) ++ [])
  unfolding done_by
  opened e =
      settles-now 0 FileState.Opening FileState.Started (Due.OpenFile (length past)) Status.Started 0
      (open_session id 1 past (record_of FileState.Started f ∷ [])) refl
      (put-started id past f now (sent f.id f.size 0) ∙ rw e)

  module _ (n : ℕ) (small : f.total + n ≤ count_limit) where
    written : AnsweredAs (settle_done (alone_in (busy 1 FileState.Started) (Some (0, Due.Write (length past) n))))
        (table_of id (Point.busy past (longer f n))) (framed (status_text id f.id (f.total + n) (ascii "PROGRESS")) ++ [])
    unfolding done_by
    written =
        settles-now 1 FileState.Started FileState.Started (Due.Write (length past) n) Status.Progress (f.total + n)
        (open_session id 1 past (record_of FileState.Started (longer f n) ∷ []))
        (ap (λ (x : ℕ). settled (busy 1 FileState.Started) (length past) FileState.Started x Status.Progress x)
        (grown-now n 1 FileState.Started small))
        (put-grown id past f now (longer f n))

    closed : AnsweredAs (settle_done (alone_in (busy 1 FileState.Started) (Some (0, Due.WriteLast (length past) n))))
        (table_of id (Point.idle (past ++ longer f n ∷ []))) (framed (status_text id f.id (f.total + n) (ascii "OK")) ++ [])
    unfolding done_by
    closed =
        settles-now 1 FileState.Started FileState.Done (Due.WriteLast (length past) n) Status.Ok (f.total + n)
        (open_session id 0 (past ++ longer f n ∷ []) [])
        (ap (λ (x : ℕ). settled (busy 1 FileState.Started) (length past) FileState.Done x Status.Ok x)
        (grown-now n 1 FileState.Started small))
        (put-closed id past f now (longer f n) small)

committed : (id : List ℕ) (past : List Sent) → AnsweredAs (settle_done (alone_in (open_session id 0 past []) (Some (0, Due.Commit))))
    (table_of id (Point.over past)) []
unfolding settle_done done_by
committed id past = record { table = refl; taken = refl; bytes = no_bytes }

-- an order that is answered done leads to the next point, and its reply is sent
pub done_order : {id : List ℕ} {p : Point} {o : Order} → Goes id p o → is_answered o ≡ true
    → AnsweredAs (settle_done (owing_of id p o)) (table_of id (next p o)) (frames (map (said_text id) (reply_at p o)))
done_order (Goes.sends i) e = no_way (sym e)
done_order (Goes.files past k name size i now valid bytes) e = opened past (sent k size 0) i now refl
done_order (Goes.pieces past f c i now fit small within) e = written past f i now (length c) small
done_order (Goes.lasts past f c i now fit small whole) e = closed past f i now (length c) small
done_order {id} (Goes.finishes past i before) e = committed id past

-- ---- what is refused, and changes nothing
-- done, where nothing is owed
pub done_at : (id : List ℕ) (p : Point) → settle_done (table_of id p) ≡ telling (table_of id p) (Told.Refused 11)
unfolding settle_done
done_at id p = refl

pub done-asked : (id : List ℕ) (p : Point) (k : List ℕ)
    → settle_done (owing_of id p (Order.send k)) ≡ telling (owing_of id p (Order.send k)) (Told.Refused 11)
unfolding settle_done
done-asked id p k = refl

-- allow, where no session is asked
none-asked : (s : Session) (o : Option (ℕ × Due)) (k : List ℕ) → is_asked s.state ≡ false
    → decided_of (alone_in s o) Decision.Allow k ≡ telling (alone_in s o) (Told.Refused 12)
unfolding decided_of decided_by first
none-asked s o k e = go (has_id k s)
  where
    go : (b : Bool) → decided_at (alone_in s o) Decision.Allow (here_or b None) ≡ telling (alone_in s o) (Told.Refused 12)
    go true = rw e
    go false = refl

not-asked : (id : List ℕ) (p : Point) → is_asked (session_of id p).state ≡ false
not-asked id Point.fresh = refl
not-asked id (Point.idle past) = refl
not-asked id (Point.busy past f) = refl
not-asked id (Point.over past) = refl

pub allow-at : (id : List ℕ) (p : Point) (k : List ℕ)
    → decided_of (table_of id p) Decision.Allow k ≡ telling (table_of id p) (Told.Refused 12)
allow-at id p k = none-asked (session_of id p) None k (not-asked id p)

pub allow-owing : (id : List ℕ) (p : Point) (o : Order) (k : List ℕ) → is_answered o ≡ true
    → decided_of (owing_of id p o) Decision.Allow k ≡ telling (owing_of id p o) (Told.Refused 12)
allow-owing id p (Order.send j) k e = no_way (sym e)
allow-owing id p (Order.file j name size) k e = none-asked _ _ k refl
allow-owing id p (Order.piece c last) k e = none-asked (session_of id p) _ k (not-asked id p)
allow-owing id p Order.finish k e = none-asked (session_of id p) _ k (not-asked id p)

-- allow, where another session is asked
pub allow-other : (id : List ℕ) (p : Point) (j k : List ℕ) → IsId j → equals j k ≡ false
    → decided_of (owing_of id p (Order.send j)) Decision.Allow k ≡ telling (owing_of id p (Order.send j)) (Told.Refused 12)
unfolding decided_of first
allow-other id p j k i e = rw (padded-id j i.short, e)
