-- What the sender's session keeps of its story.
use Prim.Native.Nat.{ℕ, zero, suc, ◌≤◌, min}
use mathlib.Core.Path.{◌≡◌, refl}
use mathlib.Core.Bool.{Bool, true, false, not, ◌&&◌}
use mathlib.Core.List.{List, []}
use native.Mathlib.Omega.{arith}
use lib.ListN.{length, get_or, replicate, length-replicate}
use Rattle.std.specs.Prelude.{Option, Some, None}
use Rattle.octets.specs.Members.{every}
use Rattle.command.specs.Letters.{safe_byte}
use Rattle.protocol.specs.Table.{file_room, id_room, first}
use Rattle.protocol.proofs.Laws.{replicate-each}
use Rattle.sending.specs.Transfers.{free_file, no_transfer, id_of, file_id_of, is_known, has_file_id, is_sending, sent_limit}
use Rattle.sending.specs.Story.{Mark}
use Rattle.sending.specs.Telling.{session_in, pending_in, finished_in, files_in, equals_some, is_among, place_among, sum_in}
use Rattle.sending.specs.Telling.{some_read, allowed_in, stopped_in, file_stopped_in, agreed_in}
use Rattle.sending.specs.Every.{stage_in}
use Rattle.sending.specs.declared.Stage.{Stage}
use Rattle.sending.specs.declared.SentFile.{SentFile}
use Rattle.sending.specs.declared.Transfer.{Transfer}

-- ---- files, by their ids
-- the file of an id is being sent
abbrev pub is_sending_for : List ℕ → List Mark → Bool
is_sending_for k m = equals_some k (pending_in m) && not (file_stopped_in k m)

-- one that is known, at the place i: its count is that of its pieces
pub record Counted (m : List Mark) (k : List ℕ) (i : ℕ) (f : SentFile) : Type 0 where
  pub filed : is_among k (files_in m) ≡ true
  pub place : i ≡ place_among k (files_in m)
  pub counted : f.sent ≡ min (sum_in k m) sent_limit
  pub going : is_sending f.stage ≡ is_sending_for k m
  pub staged : f.stage ≡ stage_in k m

pub record Unknown (m : List Mark) (k : List ℕ) : Type 0 where
  pub filed : is_among k (files_in m) ≡ false
  pub none : sum_in k m ≡ 0
  pub going : file_stopped_in k m ≡ false
  pub agreed : agreed_in k m ≡ false

abbrev pub FileOK : List SentFile → List Mark → List ℕ → Option ℕ → Type 0
FileOK fs m k None = Unknown m k
FileOK fs m k (Some i) = Counted m k i (get_or fs i free_file)

-- ---- the session with an id, by its stage
pub record Says (m : List Mark) (id : Option (List ℕ)) (a s f : Bool) : Type 0 where
  pub session : session_in m ≡ id
  pub allowed : allowed_in m ≡ a
  pub stopped : stopped_in m ≡ s
  pub finished : finished_in m ≡ f

abbrev pub SessionOK : List ℕ → List Mark → Stage → Type 0
SessionOK id m Stage.Fresh = Says m None false false false
SessionOK id m Stage.Waiting = Says m (Some id) false false false
SessionOK id m Stage.Open = Says m (Some id) true false false
SessionOK id m Stage.Finished = Says m (Some id) true false true
SessionOK id m Stage.Stopped = (session_in m ≡ Some id) × (stopped_in m ≡ true)

-- ---- the file begun last, at place c
abbrev pub found : List SentFile → List ℕ → Option ℕ
found fs k = first (has_file_id k) fs

-- a file that is pending is the one with the id k
abbrev pub PendingOK : List ℕ → Option (List ℕ) → Type 0
PendingOK k None = Unit {0}
PendingOK k (Some j) = j ≡ k

pub record CurrentOK (fs : List SentFile) (m : List Mark) (c : ℕ) : Type 0 where
  pub pending : PendingOK (file_id_of (get_or fs c free_file)) (pending_in m)
  pub there : found fs (file_id_of (get_or fs c free_file)) ≡ Some c

pub record Kept (t : Transfer) (m : List Mark) : Type 0 where
  pub sized : length t.files ≡ file_room
  pub session : SessionOK (id_of t) m t.stage
  pub safe : every safe_byte (id_of t) ≡ true
  pub short : length (id_of t) ≤ id_room
  pub files : (k : List ℕ) → FileOK t.files m k (found t.files k)
  pub free : (j : ℕ) → t.count ≤ j → is_known (get_or t.files j free_file).stage ≡ false
  pub many : t.count ≡ length (files_in m)
  pub none : t.count ≡ 0 → pending_in m ≡ None
  pub current : (c : ℕ) → t.count ≡ suc c → CurrentOK t.files m c

-- ---- at first
none_found : (k : List ℕ) (n : ℕ) → first (has_file_id k) (replicate n free_file) ≡ None
unfolding first
none_found k zero = refl
none_found k (suc n) = rw (none_found k n)

pub kept_fresh : Kept no_transfer []
unfolding some_read every
kept_fresh =
    record {
      sized = length-replicate {A = SentFile} file_room free_file;
      session = record { session = refl; allowed = refl; stopped = refl; finished = refl };
      safe = refl;
      short = omega arith;
      files = λ k. rw (none_found k file_room) (record { filed = refl; none = refl; going = refl; agreed = refl });
      free = λ j l. replicate-each (λ (f : SentFile). is_known f.stage ≡ false) refl refl file_room j;
      many = refl;
      none = λ e. refl;
      current = λ c e. absurd (omega arith);
    }
