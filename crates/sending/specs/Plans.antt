-- What an office means to send: "a list of files (id, name) and their contents piece by piece", and the calls that send it.
use Rattle.std.specs.Prelude.{ℕ, ◌≤◌, ◌≡◌, Bool, true, false, not, ◌⊎◌, List, [], ◌∷◌, ◌++◌, map, length}
use Rattle.octets.specs.Members.{every}
use Rattle.octets.specs.Slices.{equals}
use Rattle.pathname.specs.Name.{valid_name}
use Rattle.command.specs.Letters.{is_byte}
use Rattle.command.specs.Values.{Value}
use Rattle.protocol.specs.Table.{file_room}
use Rattle.protocol.specs.Written.{piece_values}
use Rattle.protocol.specs.Files.{part_limit, count_limit}
use Rattle.protocol.specs.Sound.{IsId}
use Rattle.sending.specs.Commands.{send_values, file_values, finish_values}

-- a file with its contents, cut as the office cuts them; the size is what its command declares, 0 for nothing
pub record File : Type 0 where
  pub id : List ℕ
  pub name : List ℕ
  pub size : ℕ
  pub pieces : List (List ℕ)
  pub last : List ℕ

pub record Plan : Type 0 where
  pub id : List ℕ
  pub files : List File

-- the pieces and the last one, joined
abbrev pub joined_with : List (List ℕ) → List ℕ → List ℕ
joined_with [] last = last
joined_with (p ∷ ps) last = p ++ joined_with ps last

abbrev pub contents_of : File → List ℕ
contents_of f = joined_with f.pieces f.last

-- ---- the calls, in their order
pub data Order : Type 0 where
  send : (id : List ℕ) → Order
  file : (id name : List ℕ) (size : ℕ) → Order
  piece : (contents : List ℕ) (last : Bool) → Order
  finish : Order

abbrev pub piece_orders : List (List ℕ) → List ℕ → List Order → List Order
piece_orders [] last os = Order.piece last true ∷ os
piece_orders (p ∷ ps) last os = Order.piece p false ∷ piece_orders ps last os

abbrev pub file_orders : List File → List Order
file_orders [] = Order.finish ∷ []
file_orders (f ∷ fs) = Order.file f.id f.name f.size ∷ piece_orders f.pieces f.last (file_orders fs)

-- "it writes send .., file, data, end_data with the last piece and finish, one file at a time"
abbrev pub orders_of : Plan → List Order
orders_of p = Order.send p.id ∷ file_orders p.files

-- ---- the commands of a plan, in their order
abbrev pub piece_commands : (id k : List ℕ) → List (List ℕ) → List ℕ → List (List Value) → List (List Value)
piece_commands id k [] last cs = piece_values id k last true ∷ cs
piece_commands id k (p ∷ ps) last cs = piece_values id k p false ∷ piece_commands id k ps last cs

abbrev pub file_commands : (id : List ℕ) → List File → List (List Value)
file_commands id [] = finish_values id ∷ []
file_commands id (f ∷ fs) =
    file_values id f.id f.name f.size ∷ piece_commands id f.id f.pieces f.last (file_commands id fs)

abbrev pub commands_of : Plan → List (List Value)
commands_of p = send_values p.id ∷ file_commands p.id p.files

-- ---- plans that the rules admit
-- a piece: bytes, at most 4,096 of them
pub record FitPiece (p : List ℕ) : Type 0 where
  pub bytes : every is_byte p ≡ true
  pub short : length p ≤ part_limit

abbrev pub AllFit : List (List ℕ) → Type 0
AllFit [] = Unit {0}
AllFit (p ∷ ps) = FitPiece p × AllFit ps

-- an id and a name that document 01 admits, at most 2^40 bytes, and a size that is theirs if it is declared
pub record FitFile (f : File) : Type 0 where
  pub id : IsId f.id
  pub name : valid_name f.name ≡ true
  pub pieces : AllFit f.pieces
  pub last : FitPiece f.last
  pub long : length (contents_of f) ≤ count_limit
  pub size : (f.size ≡ 0) ⊎ (f.size ≡ length (contents_of f))

abbrev pub AllFitFiles : List File → Type 0
AllFitFiles [] = Unit {0}
AllFitFiles (f ∷ fs) = FitFile f × AllFitFiles fs

-- no two ids are the same
abbrev pub AllDiffer : List (List ℕ) → Type 0
AllDiffer [] = Unit {0}
AllDiffer (k ∷ ks) = (every (λ j. not (equals k j)) ks ≡ true) × AllDiffer ks

-- at most 32 files; there may be none
pub record Fit (p : Plan) : Type 0 where
  pub id : IsId p.id
  pub few : length p.files ≤ file_room
  pub files : AllFitFiles p.files
  pub differ : AllDiffer (map (λ (f : File). f.id) p.files)
