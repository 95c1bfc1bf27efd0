-- Where a send stands: the points between its orders, which orders may follow at one, and what is written, read and replied there.
use Prim.Native.Nat.{ℕ, suc, ◌+◌, ◌≤◌}
use mathlib.Core.Path.{◌≡◌}
use mathlib.Core.Bool.{true, false, not}
use mathlib.Core.Logic.{◌⊎◌}
use mathlib.Core.List.{List, [], ◌∷◌, ◌++◌, map}
use lib.ListN.{length}
use Rattle.octets.specs.Ascii.{ascii}
use Rattle.octets.specs.Members.{every}
use Rattle.octets.specs.Slices.{equals}
use Rattle.pathname.specs.Name.{valid_name}
use Rattle.frames.specs.Stream.{framed}
use Rattle.frames.specs.Stream as Stream
use Rattle.command.specs.Letters.{is_byte}
use Rattle.command.specs.Values.{Value}
use Rattle.command.specs.Canonical.{canonical}
use Rattle.protocol.specs.Table.{file_room}
use Rattle.protocol.specs.Written.{piece_values}
use Rattle.protocol.specs.Files.{count_limit}
use Rattle.protocol.specs.Sound.{IsId}
use Rattle.protocol.specs.Replies.{status_text, status_values}
use Rattle.sending.specs.Commands.{send_values, file_values, finish_values}
use Rattle.sending.specs.Plans.{Order, FitPiece, AllDiffer}

-- a file of the send: its id, the size that was declared, and how many bytes of it were sent
pub record Sent : Type 0 where
  pub id : List ℕ
  pub size : ℕ
  pub total : ℕ

abbrev pub sent : List ℕ → ℕ → ℕ → Sent
sent k s n = record { id = k; size = s; total = n }

-- with n bytes more
abbrev pub longer : Sent → ℕ → Sent
longer f n = sent f.id f.size (f.total + n)

-- nothing sent; open, with the files that are past, in their order; one of them being sent; and finished
pub data Point : Type 0 where
  fresh : Point
  idle : List Sent → Point
  busy : List Sent → Sent → Point
  over : List Sent → Point

-- the point after an order; one that cannot follow changes nothing
abbrev pub next : Point → Order → Point
next Point.fresh (Order.send id) = Point.idle []
next Point.fresh (Order.file k name size) = Point.fresh
next Point.fresh (Order.piece c last) = Point.fresh
next Point.fresh Order.finish = Point.fresh
next (Point.idle past) (Order.send id) = Point.idle past
next (Point.idle past) (Order.file k name size) = Point.busy past (sent k size 0)
next (Point.idle past) (Order.piece c last) = Point.idle past
next (Point.idle past) Order.finish = Point.over past
next (Point.busy past f) (Order.send id) = Point.busy past f
next (Point.busy past f) (Order.file k name size) = Point.busy past f
next (Point.busy past f) (Order.piece c false) = Point.busy past (longer f (length c))
next (Point.busy past f) (Order.piece c true) = Point.idle (past ++ longer f (length c) ∷ [])
next (Point.busy past f) Order.finish = Point.busy past f
next (Point.over past) o = Point.over past

abbrev pub reach : Point → List Order → Point
reach p [] = p
reach p (o ∷ os) = reach (next p o) os

-- the point that the orders done reach, from the beginning
abbrev pub reached : List Order → Point
reached done = reach Point.fresh done

-- ---- which orders may follow
-- no past file has the id k
abbrev pub NotIn : List ℕ → List Sent → Type 0
NotIn k past = every (λ (f : Sent). not (equals f.id k)) past ≡ true

abbrev pub AllIds : List Sent → Type 0
AllIds [] = Unit {0}
AllIds (f ∷ fs) = IsId f.id × (f.total ≤ count_limit) × AllIds fs

-- the files that are past: at most 32, with ids that differ
pub record Past (fs : List Sent) : Type 0 where
  pub ids : AllIds fs
  pub differ : AllDiffer (map (λ (f : Sent). f.id) fs)
  pub few : length fs ≤ file_room

-- the file that is being sent
pub record Now (past : List Sent) (f : Sent) : Type 0 where
  pub before : Past past
  pub id : IsId f.id
  pub new : NotIn f.id past
  pub room : suc (length past) ≤ file_room
  pub small : f.size ≤ count_limit
  pub counted : f.total ≤ count_limit

-- an order that may follow at a point, in the session with that id
pub data Goes (id : List ℕ) : Point → Order → Type 0 where
  sends : IsId id → Goes id Point.fresh (Order.send id)
  files : (past : List Sent) (k name : List ℕ) (size : ℕ) → IsId id → Now past (sent k size 0)
      → valid_name name ≡ true → every is_byte name ≡ true → Goes id (Point.idle past) (Order.file k name size)
  -- it does not pass a declared size
  pieces : (past : List Sent) (f : Sent) (c : List ℕ) → IsId id → Now past f → FitPiece c → f.total + length c ≤ count_limit
      → (f.size ≡ 0) ⊎ (f.total + length c ≤ f.size) → Goes id (Point.busy past f) (Order.piece c false)
  -- it reaches a declared size
  lasts : (past : List Sent) (f : Sent) (c : List ℕ) → IsId id → Now past f → FitPiece c → f.total + length c ≤ count_limit
      → (f.size ≡ 0) ⊎ (f.total + length c ≡ f.size) → Goes id (Point.busy past f) (Order.piece c true)
  finishes : (past : List Sent) → IsId id → Past past → Goes id (Point.idle past) Order.finish

abbrev pub Path : List ℕ → Point → List Order → Type 0
Path id p [] = Unit {0}
Path id p (o ∷ os) = Goes id p o × Path id (next p o) os

-- ---- what is written, and what is replied once it is answered
-- the file that is being sent: its id, and how many bytes of it were sent
abbrev pub now_id : Point → List ℕ
now_id Point.fresh = []
now_id (Point.idle past) = []
now_id (Point.busy past f) = f.id
now_id (Point.over past) = []

abbrev pub now_total : Point → ℕ
now_total Point.fresh = 0
now_total (Point.idle past) = 0
now_total (Point.busy past f) = f.total
now_total (Point.over past) = 0

abbrev pub command_at : List ℕ → Point → Order → List Value
command_at id p (Order.send k) = send_values k
command_at id p (Order.file k name size) = file_values id k name size
command_at id p (Order.piece c last) = piece_values id (now_id p) c last
command_at id p Order.finish = finish_values id

abbrev pub text_at : List ℕ → Point → Order → List ℕ
text_at id p o = canonical (command_at id p o)

-- a reply's fields: the file's id, the size and the word
pub record Said : Type 0 where
  pub file : List ℕ
  pub size : ℕ
  pub word : List ℕ

abbrev pub said : List ℕ → ℕ → List ℕ → Said
said k n w = record { file = k; size = n; word = w }

-- a commit answered done has no reply
abbrev pub reply_at : Point → Order → List Said
reply_at p (Order.send k) = said [] 0 (ascii "OK") ∷ []
reply_at p (Order.file k name size) = said k 0 (ascii "STARTED") ∷ []
reply_at p (Order.piece c false) = said (now_id p) (now_total p + length c) (ascii "PROGRESS") ∷ []
reply_at p (Order.piece c true) = said (now_id p) (now_total p + length c) (ascii "OK") ∷ []
reply_at p Order.finish = []

abbrev pub said_text : List ℕ → Said → List ℕ
said_text id s = status_text id s.file s.size s.word

abbrev pub said_values : List ℕ → Said → List Value
said_values id s = status_values id s.file s.size s.word

-- ---- the same of a list of orders
abbrev pub texts_at : List ℕ → Point → List Order → List (List ℕ)
texts_at id p [] = []
texts_at id p (o ∷ os) = text_at id p o ∷ texts_at id (next p o) os

abbrev pub says_at : Point → List Order → List Said
says_at p [] = []
says_at p (o ∷ os) = reply_at p o ++ says_at (next p o) os

abbrev pub replies_at : List ℕ → Point → List Order → List (List ℕ)
replies_at id p os = map (said_text id) (says_at p os)

-- texts in their frames, one after another; and what they tell
abbrev pub frames : List (List ℕ) → List ℕ
frames [] = []
frames (t ∷ ts) = framed t ++ frames ts

abbrev pub tells : List (List ℕ) → List Stream.Told
tells ts = map Stream.Told.command ts
