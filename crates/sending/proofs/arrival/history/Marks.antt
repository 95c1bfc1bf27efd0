-- The console's history of a whole send: its marks by the plan's files, the commands in it, and the commit that ends it.
use Prim.Native.Nat.{ℕ}
use mathlib.Core.Path.{◌≡◌, refl, ap, ◌∙◌}
use mathlib.Core.Bool.{true, false}
use mathlib.Core.List.{List, [], ◌∷◌, ◌++◌, append_assoc}
use lib.ListN.{length}
use Rattle.command.specs.Values.{Value}
use Rattle.protocol.specs.Written.{piece_values}
use Rattle.protocol.specs.History.{Heard, Mark, Question}
use Rattle.sending.specs.Commands.{file_values, finish_values}
use Rattle.sending.specs.Plans.{File, Plan, Order, piece_orders, file_orders, orders_of, piece_commands, file_commands, commands_of}
use Rattle.sending.specs.Arrives.{read_in, Committed}
use Rattle.sending.proofs.arrival.path.Points.{Sent, longer, Point}
use Rattle.sending.proofs.arrival.path.States.{marks_at}

-- ---- the marks, without the points
-- a command that was read, its ask, and done
abbrev pub done_by : List Value → Heard → List Mark → List Mark
done_by c a m = Mark.answer true (Question.asks c a) ∷ Mark.asked a ∷ Mark.read c ∷ m

abbrev pub piece_marks : (id k : List ℕ) → List (List ℕ) → List ℕ → List Mark → List Mark
piece_marks id k [] last m = done_by (piece_values id k last true) (Heard.writes_last last) m
piece_marks id k (p ∷ ps) last m = piece_marks id k ps last (done_by (piece_values id k p false) (Heard.writes p) m)

-- a file's start
abbrev pub start_marks : (id : List ℕ) → File → List Mark → List Mark
start_marks id f m = done_by (file_values id f.id f.name f.size) Heard.opens m

abbrev pub file_marks : (id : List ℕ) → List File → List Mark → List Mark
file_marks id [] m = done_by (finish_values id) Heard.commits m
file_marks id (f ∷ fs) m = file_marks id fs (piece_marks id f.id f.pieces f.last (start_marks id f m))

piece-marks : (id : List ℕ) (past : List Sent) (f : Sent) (ps : List (List ℕ)) (last : List ℕ) (os : List Order) (m : List Mark)
    (g : List Mark → List Mark) → ((past' : List Sent) (m' : List Mark) → marks_at id (Point.idle past') os m' ≡ g m')
    → marks_at id (Point.busy past f) (piece_orders ps last os) m ≡ g (piece_marks id f.id ps last m)
piece-marks id past f [] last os m g e = e _ _
piece-marks id past f (p ∷ ps) last os m g e = piece-marks id past (longer f (length p)) ps last os _ g e

file-marks : (id : List ℕ) (fs : List File) (past : List Sent) (m : List Mark)
    → marks_at id (Point.idle past) (file_orders fs) m ≡ file_marks id fs m
file-marks id [] past m = refl
file-marks id (f ∷ fs) past m =
    piece-marks id past _ f.pieces f.last (file_orders fs) _ (file_marks id fs) (λ past' m'. file-marks id fs past' m')

-- the marks of a plan at rest
abbrev pub plan_marks : Plan → List Mark
plan_marks p = marks_at p.id Point.fresh (orders_of p) []

abbrev pub send_marks : Plan → List Mark
send_marks p = marks_at p.id Point.fresh (Order.send p.id ∷ []) []

-- they are those of its files, after those of send
pub plan-marks : (p : Plan) → plan_marks p ≡ file_marks p.id p.files (send_marks p)
plan-marks p = file-marks p.id p.files [] (send_marks p)

-- ---- "the commands read are exactly those of the plan, in its order"
pieces-read : (id k : List ℕ) (ps : List (List ℕ)) (last : List ℕ) (cs : List (List Value)) (m : List Mark)
    → read_in (piece_marks id k ps last m) ++ cs ≡ read_in m ++ piece_commands id k ps last cs
pieces-read id k [] last cs m = append_assoc (read_in m) _ cs
pieces-read id k (p ∷ ps) last cs m = pieces-read id k ps last cs _ ∙ append_assoc (read_in m) _ _

files-read : (id : List ℕ) (fs : List File) (m : List Mark) → read_in (file_marks id fs m) ≡ read_in m ++ file_commands id fs
files-read id [] m = refl
files-read id (f ∷ fs) m =
    files-read id fs _
    ∙ pieces-read id f.id f.pieces f.last (file_commands id fs) (start_marks id f m)
    ∙ append_assoc (read_in m) _ _

pub plan-read : (p : Plan) → read_in (plan_marks p) ≡ commands_of p
plan-read p = ap read_in (plan-marks p) ∙ files-read p.id p.files (send_marks p)

-- ---- the newest mark
files-commit : (id : List ℕ) (fs : List File) (m : List Mark) → Committed id (file_marks id fs m)
files-commit id [] m = record { command = finish_values id; before = _; newest = refl; session = refl }
files-commit id (f ∷ fs) m = files-commit id fs _

pub plan-committed : (p : Plan) → Committed p.id (plan_marks p)
plan-committed p = rw (plan-marks p) (files-commit p.id p.files (send_marks p))
