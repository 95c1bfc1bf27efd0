-- What the receiver makes of an order whose text it reads.
use Prim.Native.Nat.{ℕ, ◌+◌, ◌≤◌}
use mathlib.Core.Path.{◌≡◌, refl, ap, ◌∙◌}
use mathlib.Core.Bool.{Bool, true, false}
use mathlib.Core.Logic.{◌⊎◌, inl, inr}
use mathlib.Core.List.{List, [], ◌∷◌}
use native.Mathlib.Omega.{arith}
use lib.ListN.{length}
use lib.Dec.{ltb}
use borrow.Author.Tests.{le-ltb, ne_eqb}
use Rattle.std.specs.Prelude.{Some, None}
use Rattle.octets.proofs.Compare.{equals_refl}
use Rattle.frames.specs.Stream as Stream
use Rattle.pathname.specs.Name.{valid_name}
use Rattle.command.specs.Meaning.{Meaning, meaning_of}
use Rattle.command.specs.Read.{read_of}
use Rattle.command.specs.declared.Action.{Action}
use Rattle.command.specs.declared.Command.{Command as PlacedCommand}
use Rattle.protocol.specs.Table.{no_file, first, has_id, find_session, find_file}
use Rattle.protocol.specs.Actions.{kind_of, result_in}
use Rattle.protocol.specs.Written.{values_with, piece_action, piece_values}
use Rattle.protocol.specs.Replies.{reply_bytes}
use Rattle.protocol.specs.Change.{change, edited, opens, asks, ask_of, telling, step_by}
use Rattle.protocol.specs.Files.{Request, opening, write_due, part_limit, count_limit, passes, ends_short}
use Rattle.protocol.specs.Files.{file_of, file_checked, data_of, part_asked, finish_of}
use Rattle.protocol.specs.Rule.{obeyed_by}
use Rattle.protocol.specs.Sessions.{id_in, request_in, asked_session, absent_result, found_result, obey_of}
use Rattle.protocol.specs.Calls.{Acted, acted}
use Rattle.protocol.specs.Sound.{IsId}
use Rattle.protocol.specs.History.{Heard, heard_ask}
use Rattle.protocol.specs.Cuts.{Saying, saying}
use Rattle.protocol.specs.declared.FileState.TheVariants as FileState
use Rattle.protocol.specs.declared.FileRecord.{FileRecord}
use Rattle.protocol.specs.declared.SessionState.TheVariants as SessionState
use Rattle.protocol.specs.declared.Session.{Session}
use Rattle.protocol.specs.declared.Due.{Due}
use Rattle.protocol.specs.declared.Table.{Table}
use Rattle.protocol.specs.declared.Edit.{Edit}
use Rattle.protocol.specs.declared.Change.{Change}
use Rattle.protocol.specs.declared.News.TheVariants as News
use Rattle.protocol.specs.declared.Told.TheVariants as Told
use Rattle.protocol.proofs.Laws.{both_false, padded-id}
use Rattle.protocol.proofs.CutsRun.{zeros, act_on, reported}
use Rattle.sending.specs.Commands.{send_values}
use Rattle.sending.specs.Plans.{Order, FitPiece}
use Rattle.sending.proofs.arrival.path.Points.{Sent, sent, Point, Goes, Now, text_at, command_at}
use Rattle.sending.proofs.arrival.path.States.{record_of, open_session, alone_in, table_of, owing_of}
use Rattle.sending.proofs.arrival.receiver.Records.{find_none, find-now, find-free, now-at, put-opening}
use Rattle.sending.proofs.arrival.receiver.Commands.{Reading, meant-reading, wanted, read-action, read-id, read-quiet, read-part}
use Rattle.sending.proofs.arrival.receiver.Commands.{read-request}

-- what a text that is read does to a table: the table afterwards and what is told; no reply is due
pub record ReadAs (t : Table) (text : List ℕ) (t' : Table) (w : Saying) : Type 0 where
  pub table : (act_on t (Stream.Told.command text)).step.table ≡ t'
  pub says : (reported t (Stream.Told.command text)).said ≡ w
  pub silent : reply_bytes (act_on t (Stream.Told.command text)).step.reply ≡ []

acts_as : {t : Table} {text : List ℕ} (a : Acted) → act_on t (Stream.Told.command text) ≡ a → reply_bytes a.step.reply ≡ []
    → ReadAs t text a.step.table (saying a.step.told a.scratch)
acts_as a e s =
    record {
      table = ap (λ (x : Acted). x.step.table) e;
      says = ap (λ (x : Acted). saying x.step.told x.scratch) e;
      silent = ap (λ (x : Acted). reply_bytes x.step.reply) e ∙ s;
    }

lands : {t t' t'' : Table} {text : List ℕ} {w : Saying} → t' ≡ t'' → ReadAs t text t' w → ReadAs t text t'' w
lands e r = record { table = r.table ∙ e; says = r.says; silent = r.silent }

-- where no reply is due
pub no_bytes : reply_bytes None ≡ []
unfolding reply_bytes
no_bytes = refl

-- ---- a command of a session that is there
-- an ask as the console hears it
abbrev pub heard_for : Due → List ℕ → Heard
heard_for (Due.OpenFile j) part = Heard.opens
heard_for (Due.OpenDirectory j) part = Heard.opens
heard_for (Due.Write j n) part = Heard.writes part
heard_for (Due.WriteLast j n) part = Heard.writes_last part
heard_for Due.Commit part = Heard.commits
heard_for Due.Request part = Heard.requests

module _ (s : Session) {text : List ℕ} (a : Action) (id file : List ℕ) (size : ℕ) (name contents : List ℕ)
    (r : Reading text (values_with a id file size name [] contents)) (there : has_id id s ≡ true) where
  abbrev c : PlacedCommand
  c = r.command

  abbrev after : List ℕ
  after = (read_of text zeros).buffer

  abbrev t : Table
  t = alone_in s None

  abbrev q : Request
  q = wanted a size (length contents) file name

  found : find_session t id ≡ Some 0
  unfolding first
  found = rw there

  obeys : act_on t (Stream.Told.command text) ≡ acted (step_by t 0 c.payload (obeyed_by s q)) c after
  unfolding obey_of
  obeys =
      rw r.answer
      (ap (λ (k : List ℕ). acted (found_result t c k (request_in c text after) (find_session t k)) c after)
      (read-id a id file size name contents r)
      ∙ ap (λ (x : Request). acted (found_result t c id x (find_session t id)) c after) (read-request a id file size name contents r)
      ∙ ap (λ f. acted (found_result t c id q f) c after) found)

  -- something is asked of the console
  asks_as : (e : Edit) (f : FileRecord) (d : Due) → obeyed_by s q ≡ change e f (News.Asks d) None
      → ReadAs t text (alone_in (edited s f e) (Some (0, d))) (Saying.asks (heard_for d contents))
  asks_as e f d h =
      let x : Acted = acted (step_by t 0 c.payload (change e f (News.Asks d) None)) c after in
      rw (← hears d) (acts_as x (obeys ∙ ap (λ (y : Change). acted (step_by t 0 c.payload y) c after) h) no_bytes)
    where
      hears : (d : Due) → heard_ask (ask_of c.payload d) after ≡ heard_for d contents
      hears (Due.OpenFile j) = refl
      hears (Due.OpenDirectory j) = refl
      hears (Due.Write j n) = ap Heard.writes (read-part a id file size name contents r)
      hears (Due.WriteLast j n) = ap Heard.writes_last (read-part a id file size name contents r)
      hears Due.Commit = refl
      hears Due.Request = refl

-- ---- the rule of the open session, order by order
module _ (id : List ℕ) (past : List Sent) where
  file-rule : (k name : List ℕ) (size : ℕ) → Now past (sent k size 0) → valid_name name ≡ true
      → obeyed_by (open_session id 0 past []) (wanted Action.File size 0 k name)
      ≡ opens (length past) (opening k size) (Due.OpenFile (length past))
  unfolding obeyed_by kind_of result_in file_of file_checked
  file-rule k name size now valid =
      let new = find_none past now.before.ids k now.new in
      rw (ne_eqb (length k) 0 (λ e. omega (arith, now.id.some)), new, valid, find-free past now.room)

  piece-rule : (f : Sent) (last : Bool) (n : ℕ) → Now past f → n ≤ part_limit → f.total + n ≤ count_limit
      → passes f.size (f.total + n) ≡ false → ends_short last f.size (f.total + n) ≡ false
      → obeyed_by (open_session id 1 past (record_of FileState.Started f ∷ [])) (wanted (piece_action last) 0 n f.id [])
      ≡ asks (write_due last (length past) n)
  unfolding obeyed_by kind_of result_in data_of part_asked
  piece-rule f last n now short small within whole = go last whole
    where
      s : Session
      s = open_session id 1 past (record_of FileState.Started f ∷ [])

      found : find_file s f.id ≡ Some (length past)
      found = find-now past now.before.ids FileState.Started f refl now.id now.new

      part : (l : Bool) → ends_short l f.size (f.total + n) ≡ false → data_of s l f.id n ≡ asks (write_due l (length past) n)
      part l h =
          rw (
            found,
            now-at id 1 past (record_of FileState.Started f),
            le-ltb part_limit n short,
            le-ltb count_limit (f.total + n) small,
            within,
            h,
          )

      go : (l : Bool) → ends_short l f.size (f.total + n) ≡ false
          → obeyed_by s (wanted (piece_action l) 0 n f.id []) ≡ asks (write_due l (length past) n)
      go true h = part true h
      go false h = part false h

  finish-rule : obeyed_by (open_session id 0 past []) (wanted Action.Finish 0 0 [] []) ≡ asks Due.Commit
  unfolding obeyed_by kind_of result_in finish_of
  finish-rule = refl

-- ---- an order that may follow
-- what is told of it
abbrev pub saying_for : Order → Saying
saying_for (Order.send k) = Saying.asked
saying_for (Order.file k name size) = Saying.asks Heard.opens
saying_for (Order.piece c false) = Saying.asks (Heard.writes c)
saying_for (Order.piece c true) = Saying.asks (Heard.writes_last c)
saying_for Order.finish = Saying.asks Heard.commits

open-has : (id : List ℕ) (n : ℕ) (past : List Sent) (now : List FileRecord) → IsId id → has_id id (open_session id n past now) ≡ true
open-has id n past now k = rw (padded-id id k.short) (equals_refl id)

-- "else asked, console told"
sends-as : (id : List ℕ) {text : List ℕ} → Reading text (send_values id)
    → ReadAs (table_of id Point.fresh) text (alone_in (asked_session 0 id) None) Saying.asked
unfolding obey_of first kind_of result_in
sends-as id {text} r = acts_as _ acts no_bytes
  where
    c : PlacedCommand
    c = r.command

    after : List ℕ
    after = (read_of text zeros).buffer

    t : Table
    t = table_of id Point.fresh

    asked : Action → ℕ → List ℕ → Acted
    asked a quiet k = acted (absent_result t (asked_session quiet k) c.size (kind_of SessionState.Absent a)) c after

    acts : act_on t (Stream.Told.command text) ≡ acted (telling (alone_in (asked_session 0 id) None) Told.Asked) c after
    acts =
        rw r.answer
        (ap (λ (a : Action). asked a c.quiet (id_in c text)) (read-action Action.Send id [] 0 [] [] r)
        ∙ ap (λ (n : ℕ). asked Action.Send n (id_in c text)) (read-quiet Action.Send id [] 0 [] [] r)
        ∙ ap (λ (k : List ℕ). asked Action.Send 0 k) (read-id Action.Send id [] 0 [] [] r))

-- a part within a declared size, and a last one that reaches it
not-past : (d n : ℕ) → (d ≡ 0) ⊎ (n ≤ d) → passes d n ≡ false
not-past d n (inl e) = rw e
not-past d n (inr h) = rw (le-ltb d n h) (both_false (ltb 0 d))

not_short : (d n : ℕ) → (d ≡ 0) ⊎ (n ≡ d) → ends_short true d n ≡ false
not_short d n (inl e) = le-ltb n d (omega arith)
not_short d n (inr e) = le-ltb n d (omega arith)

whole-within : (d n : ℕ) → (d ≡ 0) ⊎ (n ≡ d) → (d ≡ 0) ⊎ (n ≤ d)
whole-within d n (inl e) = inl e
whole-within d n (inr e) = inr (omega arith)

piece_as : {id : List ℕ} {text : List ℕ} (past : List Sent) (f : Sent) (c : List ℕ) (last : Bool) → IsId id → Now past f → FitPiece c
    → f.total + length c ≤ count_limit → passes f.size (f.total + length c) ≡ false
    → ends_short last f.size (f.total + length c) ≡ false → Reading text (piece_values id f.id c last)
    → ReadAs (table_of id (Point.busy past f)) text (owing_of id (Point.busy past f) (Order.piece c last))
    (Saying.asks (heard_for (write_due last (length past) (length c)) c))
piece_as {id} past f c last i now fit small within whole r =
    asks_as s (piece_action last) id f.id 0 [] c r (open-has id 1 past (record_of FileState.Started f ∷ []) i)
    Edit.Same no_file (write_due last (length past) (length c)) (piece-rule id past f last (length c) now fit.short small within whole)
  where
    s : Session
    s = open_session id 1 past (record_of FileState.Started f ∷ [])

-- each order, as the rule takes it
pub read-order : {id : List ℕ} {p : Point} {o : Order} → Goes id p o → meaning_of (text_at id p o) ≡ Meaning.command (command_at id p o)
    → ReadAs (table_of id p) (text_at id p o) (owing_of id p o) (saying_for o)
read-order {id} (Goes.sends i) means = sends-as id (meant-reading _ (send_values id) means)
read-order {id} (Goes.files past k name size i now valid bytes) means =
    lands (ap (λ (s : Session). alone_in s (Some (0, Due.OpenFile (length past)))) (put-opening id past (sent k size 0) now))
    (asks_as (open_session id 0 past []) Action.File id k size name [] (meant-reading _ _ means) (open-has id 0 past [] i)
    (Edit.Filed (length past)) (opening k size) (Due.OpenFile (length past)) (file-rule id past k name size now valid))
read-order {id} (Goes.pieces past f c i now fit small within) means =
    piece_as past f c false i now fit small (not-past _ _ within) refl (meant-reading _ _ means)
read-order {id} (Goes.lasts past f c i now fit small whole) means =
    piece_as past f c true i now fit small (not-past _ _ (whole-within _ _ whole)) (not_short _ _ whole) (meant-reading _ _ means)
read-order {id} (Goes.finishes past i before) means =
    asks_as (open_session id 0 past []) Action.Finish id [] 0 [] [] (meant-reading _ _ means) (open-has id 0 past [] i)
    Edit.Same no_file Due.Commit (finish-rule id past)
