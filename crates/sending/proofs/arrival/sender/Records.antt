-- The sender's session in the shape that the exchange keeps: what is found in it, and what a write or a reply makes of it.
use Prim.Native.Nat.{ℕ, ◌+◌, ◌-◌, ◌≤◌, ◌<◌}
use mathlib.Core.Path.{◌≡◌, refl, sym, ap, ◌∙◌}
use mathlib.Core.Bool.{Bool, true, false, not, ◌&&◌}
use mathlib.Core.List.{List, [], ◌∷◌, ◌++◌, map, append-nil, append_assoc, map-append}
use native.Mathlib.Omega.{arith}
use lib.ListN.{length, get_or, set, replicate, length-append, length-map}
use lib.Seq.{set_at, get_or_at, append_snoc}
use Rattle.std.specs.Prelude.{Some, None}
use Rattle.octets.specs.Members.{every}
use Rattle.octets.specs.Slices.{equals}
use Rattle.octets.proofs.Compare.{equals_refl}
use Rattle.command.proofs.Every.{every_cons}
use Rattle.protocol.specs.Table.{file_room, kept_id, first}
use Rattle.protocol.specs.Files.{count_limit}
use Rattle.protocol.proofs.Laws.{padded-id}
use Rattle.sending.specs.Transfers.{free_file, current_file, is_known, has_file_id, is_sending, put_file, begun, grown, added}
use Rattle.sending.specs.declared.Stage.{Stage}
use Rattle.sending.specs.declared.FileStage.{FileStage}
use Rattle.sending.specs.declared.SentFile.{SentFile}
use Rattle.protocol.specs.declared.id.Id.{Id}
use Rattle.sending.specs.declared.Transfer.{Transfer}
use Rattle.sending.proofs.arrival.lists.Members.{not-true, every_append, every_replicate, every-at}
use Rattle.sending.proofs.arrival.lists.Seams.{seam_getD, seam_set, free_set, first_past, seam-none}
use Rattle.sending.proofs.arrival.path.Points.{Sent, sent, longer, NotIn, AllIds}
use Rattle.sending.proofs.arrival.path.States.{sent_record, sent_files, shaped}

alike : (g : Stage) (i : Id) {fs fs' : List SentFile} {n n' : ℕ} → fs ≡ fs' → n ≡ n'
    → ◌≡◌ {A = Transfer} (record { stage = g; id = i; files = fs; count = n })
    (record { stage = g; id = i; files = fs'; count = n' })
alike g i e q = rw (e, q)

-- ---- records in one stage
abbrev closed_records : List Sent → List SentFile
closed_records fs = map (sent_record FileStage.Closed) fs

abbrev written_records : List Sent → List SentFile
written_records fs = map (sent_record FileStage.Sent) fs

pub ids-parts : (xs ys : List Sent) → AllIds (xs ++ ys) → AllIds xs × AllIds ys
ids-parts [] ys a = (tt, a)
ids-parts (x ∷ xs) ys a = let b = ids-parts xs ys a.2 in ((a.0, a.1, b.0), b.1)

not-both : (a b : Bool) → not b ≡ true → not (a && b) ≡ true
not-both true b e = e
not-both false b e = refl

-- none of the files has the id k
apart : (g : FileStage) (k : List ℕ) (fs : List Sent) → AllIds fs → NotIn k fs
    → every (λ (x : SentFile). not (has_file_id k x)) (map (sent_record g) fs) ≡ true
unfolding every
apart g k [] a n = refl
apart g k (f ∷ fs) a n =
    let b = every_cons (λ (f : Sent). not (equals f.id k)) f fs n in
    rw (padded-id f.id a.0.short, not-both (is_known g) (equals f.id k) b.0) (apart g k fs a.2 b.1)

-- a known file has its own id
pub has-id : (g : FileStage) (f : Sent) (k : List ℕ) → is_known g ≡ true → length f.id ≤ 32
    → has_file_id k (sent_record g f) ≡ equals f.id k
has-id g f k u l = rw (u, padded-id f.id l)

abbrev is_quiet : SentFile → Bool
is_quiet x = not (is_sending x.stage)

quiet : (g : FileStage) → is_sending g ≡ false → (fs : List Sent) → every is_quiet (map (sent_record g) fs) ≡ true
unfolding every
quiet g e [] = refl
quiet g e (f ∷ fs) = rw e (quiet g e fs)

-- ---- the files that are ended: closed, or their last piece is written
module _ (closed others : List Sent) where
  abbrev ended : List SentFile
  ended = closed_records closed ++ written_records others

  abbrev many : ℕ
  many = length closed + length others

  ended-length : length ended ≡ many
  ended-length =
      length-append (closed_records closed) (written_records others)
      ∙ (rw (length-map closed (sent_record FileStage.Closed), length-map others (sent_record FileStage.Sent)))

  -- an id that no file has
  pub none-there : (k : List ℕ) → AllIds closed → AllIds others → NotIn k closed → NotIn k others
      → first (has_file_id k) (sent_files closed others []) ≡ None
  none-there k ac ao nc ns =
      let e = every_append (λ (x : SentFile). not (has_file_id k x)) (closed_records closed) (written_records others)
      (apart FileStage.Closed k closed ac nc) (apart FileStage.Sent k others ao ns) in
      seam-none (has_file_id k) ended e (file_room - (many + 0)) free_file refl

  -- no file is being sent
  pub none-sending : (i : ℕ) → is_sending (get_or (sent_files closed others []) i free_file).stage ≡ false
  none-sending i =
      let e = every_append is_quiet (closed_records closed) (written_records others) (quiet FileStage.Closed refl closed)
      (quiet FileStage.Sent refl others) in
      let q : every is_quiet (sent_files closed others []) ≡ true =
      rw (append-nil ended) (every_append is_quiet ended _ e (every_replicate is_quiet free_file refl (file_room - (many + 0)))) in
      not-true _ (every-at is_quiet free_file refl (sent_files closed others []) q i)

  -- one more whose last piece is written
  one_more : (f : Sent)
      → sent_files closed (others ++ f ∷ []) []
      ≡ (ended ++ sent_record FileStage.Sent f ∷ []) ++ replicate (file_room - (many + 1)) free_file
  one_more f =
      let e : length (others ++ f ∷ []) ≡ length others + 1 = length-append others (f ∷ []) in
      let q : file_room - (length closed + length (others ++ f ∷ []) + 0) ≡ file_room - (many + 1) = omega (arith, e) in
      rw (q, map-append (sent_record FileStage.Sent) others (f ∷ []), append-nil)
      (rw (append_assoc (closed_records closed) (written_records others) _))

  module _ (g : Stage) (id : List ℕ) where
    -- a file command
    pub begun-shaped : (k : List ℕ) (size : ℕ) → many < file_room
        → begun (shaped g id closed others []) k ≡ shaped g id closed others (sent_record FileStage.Sending (sent k size 0) ∷ [])
    begun-shaped k size l =
        let x : SentFile = sent_record FileStage.Sending (sent k size 0) in
        let e : many + 0 ≡ many = omega arith in
        alike g (kept_id id)
        (ap (λ (n : ℕ). set (sent_files closed others []) n x) e ∙ free_set ended many ended-length file_room free_file x l) (omega arith)

    module _ (f : Sent) where
      abbrev now : SentFile
      now = sent_record FileStage.Sending f

      abbrev busy : Transfer
      busy = shaped g id closed others (now ∷ [])

      abbrev room : List SentFile
      room = replicate (file_room - (many + 1)) free_file

      here : length ended ≡ many + 1 - 1
      here = ended-length ∙ (omega arith)

      pub current-is : current_file busy ≡ now
      current-is = seam_getD ended (many + 1 - 1) here now room free_file

      module _ (n : ℕ) (l : f.total + n ≤ count_limit) where
        grown-is : grown f.total n ≡ f.total + n
        unfolding grown
        grown-is = omega arith

        -- a piece
        pub added-piece : added busy n false ≡ shaped g id closed others (sent_record FileStage.Sending (longer f n) ∷ [])
        added-piece =
            rw (current-is, grown-is) (alike g (kept_id id)
            (seam_set ended (many + 1 - 1) here now room (sent_record FileStage.Sending (longer f n))) refl)

        -- a last piece
        pub added-last : added busy n true ≡ shaped g id closed (others ++ longer f n ∷ []) []
        added-last =
            let e : length (others ++ longer f n ∷ []) ≡ length others + 1 = length-append others (longer f n ∷ []) in
            rw (current-is, grown-is) (alike g (kept_id id)
            (seam_set ended (many + 1 - 1) here now room (sent_record FileStage.Sent (longer f n)) ∙ sym (one_more (longer f n)))
            (omega (arith, e)))

-- ---- what stands behind the closed files
module _ (closed : List Sent) (f : Sent) where
  abbrev shut : List SentFile
  shut = closed_records closed

  shut-length : length shut ≡ length closed
  shut-length = length-map closed (sent_record FileStage.Closed)

  module _ (others : List Sent) (now : List SentFile) where
    abbrev beyond : List SentFile → List SentFile
    beyond room = (written_records others ++ now) ++ room

    -- the file f, whose last piece is written, and the same file closed
    written_behind : (room : List SentFile)
        → ((shut ++ written_records (f ∷ others)) ++ now) ++ room ≡ shut ++ sent_record FileStage.Sent f ∷ beyond room
    written_behind room =
        rw (append_assoc shut (written_records (f ∷ others)) now) (append_assoc shut (written_records (f ∷ others) ++ now) room)

    closed-behind : (room : List SentFile)
        → ((closed_records (closed ++ f ∷ []) ++ written_records others) ++ now) ++ room
        ≡ shut ++ sent_record FileStage.Closed f ∷ beyond room
    closed-behind room =
        let x : SentFile = sent_record FileStage.Closed f in
        let ys : List SentFile = written_records others in
        rw (map-append (sent_record FileStage.Closed) closed (f ∷ []), append_snoc shut x ys, append_assoc shut (x ∷ ys) now)
        (append_assoc shut (x ∷ ys ++ now) room)

    pub there-written : get_or (sent_files closed (f ∷ others) now) (length closed) free_file ≡ sent_record FileStage.Sent f
    there-written = rw (written_behind _) (get_or_at shut (sent_record FileStage.Sent f) _ free_file (length closed) shut-length)

    -- its OK closes it
    pub closed-shaped : (g : Stage) (id : List ℕ)
        → put_file (shaped g id closed (f ∷ others) now) (length closed) (sent_record FileStage.Closed f)
        ≡ shaped g id (closed ++ f ∷ []) others now
    closed-shaped g id =
        let x : SentFile = sent_record FileStage.Closed f in
        let q : length (closed ++ f ∷ []) ≡ length closed + 1 = length-append closed (f ∷ []) in
        let m : length closed + length (f ∷ others) + length now ≡ length (closed ++ f ∷ []) + length others + length now =
        omega (arith, q) in
        alike g (kept_id id)
        (rw (written_behind _, closed-behind _, ← m) (set_at shut (sent_record FileStage.Sent f) _ x (length closed) shut-length)) m

  -- it is found there by its id, which no closed file has
  module _ (k : List ℕ) (a : AllIds closed) (n : NotIn k closed) (l : length k ≤ 32) (e : f.id ≡ k) where
    found-behind : (g : FileStage) → is_known g ≡ true → (ys : List SentFile)
        → first (has_file_id k) (shut ++ sent_record g f ∷ ys) ≡ Some (length closed)
    found-behind g u ys =
        rw (← shut-length) (first_past (has_file_id k) shut (sent_record g f) ys (apart FileStage.Closed k closed a n)
        (has-id g f k u (rw e l) ∙ rw e (equals_refl k)))

    pub found-sending : first (has_file_id k) (sent_files closed [] (sent_record FileStage.Sending f ∷ [])) ≡ Some (length closed)
    found-sending = rw (append-nil shut, append_snoc shut) (found-behind FileStage.Sending refl _)

    pub found-written : (others : List Sent) (now : List SentFile)
        → first (has_file_id k) (sent_files closed (f ∷ others) now) ≡ Some (length closed)
    found-written others now = rw (written_behind others now _) (found-behind FileStage.Sent refl _)
