-- Every file of a plan arrives: since its start the history has its contents, and the sender has it closed.
use Prim.Native.Nat.{ℕ, suc, ◌+◌, ◌-◌}
use mathlib.Core.Path.{◌≡◌, refl, ◌∙◌}
use mathlib.Core.Bool.{true, false, not}
use mathlib.Core.List.{List, [], ◌∷◌, ◌++◌, map, append-nil}
use lib.ListN.{length, get_or, replicate}
use Rattle.std.specs.Prelude.{Some}
use Rattle.octets.specs.Members.{every}
use Rattle.octets.specs.Slices.{equals}
use Rattle.octets.proofs.Below.{both_test}
use Rattle.octets.proofs.Compare.{equals_refl}
use Rattle.protocol.specs.Table.{file_room, fresh_receiver, first}
use Rattle.protocol.specs.History.{Mark, marks_of}
use Rattle.sending.specs.Transfers.{free_file, has_file_id}
use Rattle.sending.specs.Commands.{file_values}
use Rattle.sending.specs.Plans.{File, Plan, contents_of, FitFile, AllFitFiles, AllDiffer, Fit}
use Rattle.sending.specs.Exchange.{Exchange}
use Rattle.sending.specs.Arrives.{Arrived, AllArrived, Whole}
use Rattle.sending.specs.declared.FileStage.TheVariants as FileStage
use Rattle.sending.specs.declared.SentFile.{SentFile}
use Rattle.sending.specs.declared.Transfer.{Transfer}
use Rattle.sending.proofs.arrival.lists.Members.{not-true}
use Rattle.sending.proofs.arrival.path.Points.{Sent, Point}
use Rattle.sending.proofs.arrival.path.States.{sent_record, transfer_of}
use Rattle.sending.proofs.arrival.path.PlanPaths.{sent_of}
use Rattle.sending.proofs.arrival.sender.Records.{has-id}
use Rattle.sending.proofs.arrival.history.Marks.{file_marks, plan_marks, send_marks, plan-marks, plan-read, plan-committed}
use Rattle.sending.proofs.arrival.history.Contents.{Since, key, file-since}

-- ---- the sender's records of the files
abbrev closed_record : File → SentFile
closed_record f = sent_record FileStage.Closed (sent_of f)

abbrev rows : List File → List SentFile → List SentFile
rows [] more = more
rows (f ∷ fs) more = closed_record f ∷ rows fs more

-- the file found among the records
record Placed (l : List SentFile) (f : File) : Type 0 where
  place : ℕ
  found : first (has_file_id f.id) l ≡ Some place
  there : get_or l place free_file ≡ closed_record f

abbrev AllPlaced : List SentFile → List File → Type 0
AllPlaced l [] = Unit {0}
AllPlaced l (f ∷ fs) = Placed l f × AllPlaced l fs

-- one more in front, whose id is another
placed-later : (g : File) (l : List SentFile) (fs : List File) → FitFile g
    → every (λ j. not (equals g.id j)) (map (λ (f : File). f.id) fs) ≡ true → AllPlaced l fs → AllPlaced (closed_record g ∷ l) fs
unfolding every first
placed-later g l [] fit e a = a
placed-later g l (f ∷ fs) fit e a =
    let b = both_test (not (equals g.id f.id)) _ e in
    let n = has-id FileStage.Closed (sent_of g) f.id refl fit.id.short ∙ not-true (equals g.id f.id) b.0 in
    (after n, placed-later g l fs fit b.1 a.1)
  where
    after : has_file_id f.id (closed_record g) ≡ false → Placed (closed_record g ∷ l) f
    after n = record { place = suc a.0.place; found = rw (n, a.0.found); there = a.0.there }

all_placed : (fs : List File) (more : List SentFile) → AllFitFiles fs → AllDiffer (map (λ (f : File). f.id) fs)
    → AllPlaced (rows fs more) fs
unfolding first
all_placed [] more fit differ = _
all_placed (f ∷ fs) more fit differ =
    (here, placed-later f (rows fs more) fs fit.0 differ.0 (all_placed fs more fit.1 differ.1))
  where
    here : Placed (rows (f ∷ fs) more) f
    here =
        record {
          place = 0;
          found = rw (has-id FileStage.Closed (sent_of f) f.id refl fit.0.id.short, equals_refl f.id);
          there = refl;
        }

-- ---- the sender's session once all is heard
abbrev pub past_files : Plan → List Sent
past_files p = map sent_of p.files

abbrev pub plan_transfer : Plan → Transfer
plan_transfer p = transfer_of p.id (Point.idle (past_files p)) (Point.over (past_files p)) []

abbrev unused : Plan → List SentFile
unused p = replicate (file_room - (length (past_files p) + 0 + 0)) free_file

rows_map : (fs : List File) (more : List SentFile) → map (sent_record FileStage.Closed) (map sent_of fs) ++ more ≡ rows fs more
rows_map [] more = refl
rows_map (f ∷ fs) more = rw (rows_map fs more)

plan-rows : (p : Plan) → (plan_transfer p).files ≡ rows p.files (unused p)
plan-rows p =
    let closed = map (sent_record FileStage.Closed) (past_files p) in
    rw (append-nil closed, append-nil closed) (rows_map p.files (unused p))

-- ---- together
arrived : (id : List ℕ) (f : File) (m : List Mark) (t : Transfer)
    → Since (key id f.id) (file_values id f.id f.name f.size) (contents_of f) true m
    → Placed t.files f → Arrived id f m t
arrived id f m t s p =
    record {
      stretch = record { command = _; marks = s.marks };
      started = s.started;
      name = refl;
      size = refl;
      whole = s.whole;
      closed = s.shut;
      place = p.place;
      found = p.found;
      stage = rw p.there;
      sent = rw p.there;
    }

files-arrived : (id : List ℕ) (fs : List File) (m : List Mark) (t : Transfer) → AllDiffer (map (λ (f : File). f.id) fs)
    → AllPlaced t.files fs → AllArrived id fs (file_marks id fs m) t
files-arrived id [] m t differ placed = _
files-arrived id (f ∷ fs) m t differ placed =
    (arrived id f _ t (file-since id f fs m differ.0) placed.0, files-arrived id fs _ t differ.1 placed.1)

all-arrived : (p : Plan) → Fit p → AllArrived p.id p.files (plan_marks p) (plan_transfer p)
all-arrived p fit =
    let placed : AllPlaced (plan_transfer p).files p.files =
    rw (plan-rows p) (all_placed p.files (unused p) fit.files fit.differ) in
    rw (plan-marks p) (files-arrived p.id p.files (send_marks p) (plan_transfer p) fit.differ placed)

-- an exchange with the plan's marks and records, and nothing left at the receiver
pub plan-whole : (p : Plan) → Fit p → (e : Exchange) → marks_of e.world.history ≡ plan_marks p → e.sender.transfer ≡ plan_transfer p
    → e.world.receiver ≡ fresh_receiver → Whole p e
plan-whole p fit e marks transfer receiver =
    record {
      files = rw (marks, transfer) (all-arrived p fit);
      nothing_else = rw marks (plan-read p);
      committed = rw marks (plan-committed p);
      freed = receiver;
    }
