-- A piece that is written keeps it.
use Prim.Native.Nat.{ℕ, suc, ◌+◌, ◌<◌, min}
use mathlib.Core.Path.{◌≡◌, refl, sym, ◌∙◌}
use mathlib.Core.Bool.{Bool, true, false, not, cond, ◌&&◌}
use mathlib.Core.List.{List, ◌∷◌}
use native.Mathlib.Omega.{arith}
use native.Mathlib.Decide.{ℕ_discrete}
use lib.ListN.{length, get_or, set, length-set}
use lib.Seq.{get_or-set_same, get_or-set_other}
use Rattle.std.specs.Prelude.{Option, Some, None}
use Rattle.octets.specs.Slices.{equals}
use Rattle.octets.proofs.Below.{both_test}
use Rattle.octets.proofs.Compare.{equals_refl, equals-sound}
use Rattle.protocol.proofs.Laws.{no_way, first-at}
use Rattle.sending.specs.Transfers.{free_file, current_place, id_of, file_id_of, is_known, has_file_id}
use Rattle.sending.specs.Transfers.{is_sending, moved, sent_limit, grown, piece_stage, added}
use Rattle.sending.specs.Story.{Mark}
use Rattle.sending.specs.Telling.{pending_in, equals_some, sum_in, some_read, file_stopped_in, agreed_in, sending_in}
use Rattle.sending.specs.Every.{stage_by}
use Rattle.sending.specs.declared.FileStage.TheVariants as FileStage
use Rattle.sending.specs.declared.SentFile.{SentFile}
use Rattle.sending.specs.declared.Transfer.{Transfer}
use Rattle.sending.proofs.Firsts.{first-same}
use Rattle.sending.proofs.Kept.{Counted, FileOK, found, PendingOK, CurrentOK, Kept}
use Rattle.sending.proofs.Ready.{sending-told, pending-file}
use Rattle.sending.proofs.KeptWrites.{found-same, not_found, allowed-as, same-session}

piece-known : (last : Bool) → is_known (piece_stage last) ≡ true
piece-known true = refl
piece-known false = refl

-- the stage of a file that is being sent: no status stops it, and no OK has closed it
sending-by : (s a p : Bool) → is_sending (stage_by s a p) ≡ true → FileStage.Sending ≡ stage_by s a p
sending-by true a p e = no_way (sym e)
sending-by false true p e = no_way (sym e)
sending-by false false true e = refl
sending-by false false false e = no_way (sym e)

sent-by : (s a p : Bool) → is_sending (stage_by s a p) ≡ true → FileStage.Sent ≡ stage_by s a false
sent-by true a p e = no_way (sym e)
sent-by false true p e = no_way (sym e)
sent-by false false p e = refl

module _ {t : Transfer} {m : List Mark} (b : List ℕ) (last : Bool) (k : Kept t m) (c : ℕ) (n : t.count ≡ suc c)
    (busy : sending_in m ≡ true) where
  abbrev fs : List SentFile
  fs = t.files

  abbrev file : SentFile
  file = get_or fs c free_file

  abbrev file' : SentFile
  file' = moved file (piece_stage last) (grown file.sent (length b))

  abbrev fs' : List SentFile
  fs' = set fs c file'

  o : CurrentOK fs m c
  o = k.current c n

  there : (c < length fs) × (has_file_id (file_id_of file) file ≡ true)
  there = first-at (has_file_id (file_id_of file)) free_file fs c o.there

  here : get_or fs' c free_file ≡ file'
  here = get_or-set_same fs c file' free_file there.0

  alike : (j : List ℕ) → has_file_id j file' ≡ has_file_id j file
  alike j = rw (piece-known last, (both_test (is_known file.stage) _ there.1).0)

  found_alike : (j : List ℕ) → found fs' j ≡ found fs j
  found_alike j = first-same (has_file_id j) free_file fs c file' (alike j)

  pending : pending_in m ≡ Some (file_id_of file)
  pending = pending-file k c n busy

  -- it is being sent
  sends : is_sending file.stage ≡ true
  sends =
      let place : current_place t ≡ c = omega (arith, n) in
      sym (rw place at (sending-told k)) ∙ busy

  -- what the piece adds for an id
  other-sum : (j : List ℕ) → equals (file_id_of file) j ≡ false → sum_in j (Mark.pieced b last ∷ m) ≡ sum_in j m
  other-sum j q = rw (pending, q) (omega arith)

  -- the file itself is being sent on, unless this was its last piece; another one is not
  own-going : (l : Bool) (j : List ℕ) (i : ℕ) → Counted m j i file
      → is_sending (piece_stage l) ≡ (equals_some j (cond l None (pending_in m)) && not (file_stopped_in j m))
  own-going true j i u = refl
  own-going false j i u = sym sends ∙ u.going

  other-going : (l : Bool) (j : List ℕ) (i : ℕ) {f : SentFile} → equals (file_id_of file) j ≡ false → Counted m j i f
      → is_sending f.stage ≡ (equals_some j (cond l None (pending_in m)) && not (file_stopped_in j m))
  other-going true j i q u = u.going ∙ rw (pending, q)
  other-going false j i q u = u.going

  -- and its stage
  own-staged : (l : Bool) (j : List ℕ) (i : ℕ) → Counted m j i file
      → piece_stage l ≡ stage_by (file_stopped_in j m) (agreed_in j m) (equals_some j (cond l None (pending_in m)))
  own-staged true j i u = sent-by (file_stopped_in j m) (agreed_in j m) (equals_some j (pending_in m)) (rw u.staged at sends)
  own-staged false j i u = sending-by (file_stopped_in j m) (agreed_in j m) (equals_some j (pending_in m)) (rw u.staged at sends)

  other-staged : (l : Bool) (j : List ℕ) (i : ℕ) {f : SentFile} → equals (file_id_of file) j ≡ false → Counted m j i f
      → f.stage ≡ stage_by (file_stopped_in j m) (agreed_in j m) (equals_some j (cond l None (pending_in m)))
  other-staged true j i q u = u.staged ∙ rw (pending, q)
  other-staged false j i q u = u.staged

  new-file : (j : List ℕ) (f : Option ℕ) → found fs j ≡ f → FileOK fs m j f → FileOK fs' (Mark.pieced b last ∷ m) j f
  unfolding some_read grown
  new-file j None e u =
      record {
        filed = u.filed;
        none = other-sum j (apart (equals (file_id_of file) j) refl) ∙ u.none;
        going = u.going;
        agreed = u.agreed;
      }
    where
      apart : (x : Bool) → equals (file_id_of file) j ≡ x → equals (file_id_of file) j ≡ false
      apart false q = q
      apart true q = not_found {i = c} (sym e ∙ rw (← equals-sound (file_id_of file) j q) o.there)
  new-file j (Some i) e u = go (ℕ_discrete i c)
    where
      go : Dec (i ≡ c) → Counted (Mark.pieced b last ∷ m) j i (get_or fs' i free_file)
      go (yes z) =
          let p = first-at (has_file_id j) free_file fs i e in
          let q : has_file_id j file ≡ true = rw z at p.1 in
          let w : file_id_of file ≡ j =
          equals-sound (file_id_of file) j (both_test (is_known file.stage) (equals (file_id_of file) j) q).1 in
          let s : sum_in j (Mark.pieced b last ∷ m) ≡ length b + sum_in j m = rw (pending, w, equals_refl j) in
          let v : Counted m j c file = rw z at u in
          let old : file.sent ≡ min (sum_in j m) sent_limit = v.counted in
          rw (z, here)
          (record {
            filed = v.filed;
            place = v.place;
            counted = rw s (omega arith);
            going = own-going last j c v;
            staged = own-staged last j c v;
          })
      go (no z) =
          let q : equals (file_id_of file) j ≡ false = apart (equals (file_id_of file) j) refl in
          rw (get_or-set_other fs c i file' free_file z)
          (record {
            filed = u.filed;
            place = u.place;
            counted = rw (other-sum j q) u.counted;
            going = other-going last j i q u;
            staged = other-staged last j i q u;
          })
        where
          apart : (x : Bool) → equals (file_id_of file) j ≡ x → equals (file_id_of file) j ≡ false
          apart false q = q
          apart true q = absurd (z (found-same (sym e ∙ rw (← equals-sound (file_id_of file) j q) o.there)))

  still-pending : (l : Bool) → PendingOK (file_id_of file) (cond l None (pending_in m))
  still-pending true = tt
  still-pending false = o.pending

  pub kept-pieced : Kept (added t (length b) last) (Mark.pieced b last ∷ m)
  unfolding some_read
  kept-pieced =
      let place : current_place t ≡ c = omega (arith, n) in
      rw place (record {
        sized = length-set fs c file' ∙ k.sized;
        session = same-session m (Mark.pieced b last ∷ m) (id_of t) refl refl refl t.stage (allowed-as refl t.stage) k.session;
        safe = k.safe;
        short = k.short;
        files = λ j. rw (found_alike j) (new-file j (found fs j) refl (k.files j));
        free = λ j h. rw (get_or-set_other fs c j file' free_file (λ z. omega arith)) (k.free j h);
        many = k.many;
        none = λ q. absurd (omega (arith, n));
        current = λ d q.
            let z : d ≡ c = omega arith in
            rw z (record { pending = rw here (still-pending last); there = rw here (found_alike (file_id_of file) ∙ o.there) });
      })
