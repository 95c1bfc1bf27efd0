-- The calls that send a fit plan are a path from a fresh sender, and where it ends.
use Prim.Native.Nat.{ℕ, ◌+◌, ◌≤◌}
use mathlib.Core.Path.{◌≡◌, refl, sym, ◌∙◌}
use mathlib.Core.Bool.{true, not}
use mathlib.Core.Logic.{◌⊎◌, inl, inr}
use mathlib.Core.List.{List, [], ◌∷◌, ◌++◌, map, append-nil, append_assoc, map-append}
use native.Mathlib.Omega.{arith}
use lib.ListN.{length, length-append}
use Rattle.octets.specs.Members.{every}
use Rattle.octets.specs.Slices.{equals}
use Rattle.command.proofs.Every.{every_cons}
use Rattle.protocol.specs.Table.{file_room}
use Rattle.protocol.specs.Files.{count_limit}
use Rattle.protocol.specs.Sound.{IsId}
use Rattle.sending.specs.Plans.{
  File,
  Plan,
  joined_with,
  contents_of,
  Order,
  piece_orders,
  file_orders,
  orders_of,
  FitPiece,
  AllFit,
  FitFile,
  AllFitFiles,
  AllDiffer,
  Fit,
}
use Rattle.sending.proofs.arrival.lists.Members.{every-last}
use Rattle.sending.proofs.arrival.path.Names.{name-bytes}
use Rattle.sending.proofs.arrival.path.Points.{Sent, sent, Point, reach, NotIn, AllIds, Past, Now, Goes, Path}

-- a file of a plan, once all of it is sent
abbrev pub sent_of : File → Sent
sent_of f = sent f.id f.size (length (contents_of f))

-- ---- one file more is past
ids-last : (past : List Sent) (f : Sent) → AllIds past → IsId f.id → f.total ≤ count_limit → AllIds (past ++ f ∷ [])
ids-last [] f h i c = (i, c, tt)
ids-last (g ∷ past) f h i c = (h.0, h.1, ids-last past f h.2 i c)

differ-last : (past : List Sent) (f : Sent) → AllDiffer (map (λ (g : Sent). g.id) past) → NotIn f.id past
    → AllDiffer (map (λ (g : Sent). g.id) (past ++ f ∷ []))
unfolding every
differ-last [] f h n = (refl, tt)
differ-last (g ∷ past) f h n =
    let q = every_cons (λ (g : Sent). not (equals g.id f.id)) g past n in (
      rw (map-append (λ (g : Sent). g.id) past (f ∷ []))
          (every-last (λ j. not (equals g.id j)) (map (λ (g : Sent). g.id) past) f.id h.0 q.0),
      differ-last past f h.1 q.1,
    )

past-last : {past : List Sent} {f : Sent} → Now past f → Past (past ++ f ∷ [])
past-last {past} {f} n =
    record {
      ids = ids-last past f n.before.ids n.id n.counted;
      differ = differ-last past f n.before.differ n.new;
      few = omega (arith, n.room, length-append past (f ∷ []));
    }

-- the file with another count
now-longer : {past : List Sent} {k : List ℕ} {size n : ℕ} (m : ℕ) → Now past (sent k size n) → m ≤ count_limit → Now past (sent k size m)
now-longer m w c = record { before = w.before; id = w.id; new = w.new; room = w.room; small = w.small; counted = c }

-- the files to come have ids that no past one has
abbrev AllNew : List Sent → List File → Type 0
AllNew past [] = Unit {0}
AllNew past (f ∷ fs) = NotIn f.id past × AllNew past fs

new-first : (fs : List File) → AllNew [] fs
unfolding every
new-first [] = tt
new-first (f ∷ fs) = (refl, new-first fs)

new-last : (past : List Sent) (f : Sent) (fs : List File) → AllNew past fs
    → every (λ j. not (equals f.id j)) (map (λ (g : File). g.id) fs) ≡ true → AllNew (past ++ f ∷ []) fs
new-last past f [] h e = tt
new-last past f (g ∷ fs) h e =
    let q = every_cons (λ j. not (equals f.id j)) g.id (map (λ (g : File). g.id) fs) e in
    (every-last (λ (x : Sent). not (equals x.id g.id)) past f h.0 q.0, new-last past f fs h.1 q.1)

-- ---- pieces of a file that is t bytes long in all, n of them sent
module _ (past : List Sent) (k : List ℕ) (size t : ℕ) (last : List ℕ) (os : List Order) where
  pieces-path : (id : List ℕ) → IsId id → (n : ℕ) (ps : List (List ℕ)) → Now past (sent k size n) → AllFit ps → FitPiece last
      → n + length (joined_with ps last) ≡ t → t ≤ count_limit → (size ≡ 0) ⊎ (size ≡ t)
      → Path id (Point.idle (past ++ sent k size t ∷ [])) os → Path id (Point.busy past (sent k size n)) (piece_orders ps last os)
  pieces-path id i n [] w fits fit e l s more = (Goes.lasts past (sent k size n) last i w fit (rw e l) (reached s), rw e more)
    where
      reached : (size ≡ 0) ⊎ (size ≡ t) → (size ≡ 0) ⊎ (n + length last ≡ size)
      reached (inl z) = inl z
      reached (inr z) = inr (e ∙ sym z)
  pieces-path id i n (p ∷ ps) w fits fit e l s more =
      let q = length-append p (joined_with ps last) in
      let m : n + length p ≤ t = omega arith in (
        Goes.pieces past (sent k size n) p i w fits.0 (omega arith) (within s m),
        pieces-path id i (n + length p) ps (now-longer (n + length p) w (omega arith)) fits.1 fit (omega arith) l s more,
      )
    where
      within : (size ≡ 0) ⊎ (size ≡ t) → n + length p ≤ t → (size ≡ 0) ⊎ (n + length p ≤ size)
      within (inl z) m = inl z
      within (inr z) m = inr (rw z m)

  pieces-reach : (n : ℕ) (ps : List (List ℕ)) → n + length (joined_with ps last) ≡ t
      → reach (Point.busy past (sent k size n)) (piece_orders ps last os) ≡ reach (Point.idle (past ++ sent k size t ∷ [])) os
  pieces-reach n [] e = rw (← e)
  pieces-reach n (p ∷ ps) e = pieces-reach (n + length p) ps (omega (arith, length-append p (joined_with ps last)))

-- ---- files, after those that are past
now-first : {past : List Sent} {f : File} → Past past → FitFile f → NotIn f.id past → length past + 1 ≤ file_room
    → Now past (sent f.id f.size 0)
now-first b g new room =
    record { before = b; id = g.id; new = new; room = omega arith; small = small g.size g.long; counted = omega arith }
  where
    small : {n t : ℕ} → (n ≡ 0) ⊎ (n ≡ t) → t ≤ count_limit → n ≤ count_limit
    small (inl z) l = omega arith
    small (inr z) l = omega arith

files-path : (id : List ℕ) → IsId id → (past : List Sent) → Past past → (fs : List File) → AllFitFiles fs
    → AllDiffer (map (λ (f : File). f.id) fs) → AllNew past fs → length past + length fs ≤ file_room
    → Path id (Point.idle past) (file_orders fs)
files-path id i past b [] fits d new room = (Goes.finishes past i b, tt)
files-path id i past b (f ∷ fs) fits d new room =
    let g = fits.0 in
    let w = now-first b g new.0 (omega arith) in
    let v = past-last (now-longer (length (contents_of f)) w g.long) in
    let later = new-last past (sent_of f) fs new.1 d.0 in
    let r : length (past ++ sent_of f ∷ []) + length fs ≤ file_room = omega (arith, length-append past (sent_of f ∷ [])) in
    let more = files-path id i (past ++ sent_of f ∷ []) v fs fits.1 d.1 later r in (
      Goes.files past f.id f.name f.size i w g.name (name-bytes f.name g.name),
      pieces-path past f.id f.size (length (contents_of f)) f.last (file_orders fs) id i 0 f.pieces w g.pieces g.last
          (omega arith) g.long g.size more,
    )

files-reach : (past : List Sent) (fs : List File) → reach (Point.idle past) (file_orders fs) ≡ Point.over (past ++ map sent_of fs)
files-reach past [] = rw (append-nil past)
files-reach past (f ∷ fs) =
    pieces-reach past f.id f.size (length (contents_of f)) f.last (file_orders fs) 0 f.pieces (omega arith)
    ∙ files-reach (past ++ sent_of f ∷ []) fs
    ∙ rw (append_assoc past (sent_of f ∷ []) (map sent_of fs))

-- ---- the plan
-- "one file at a time": each order of a fit plan may follow where it comes
pub plan-path : (plan : Plan) → Fit plan → Path plan.id Point.fresh (orders_of plan)
unfolding every
plan-path plan fit =
    let b : Past [] = record { ids = tt; differ = tt; few = omega arith } in (
      Goes.sends fit.id,
      files-path plan.id fit.id [] b plan.files fit.files fit.differ (new-first plan.files) (omega (arith, fit.few)),
    )

pub plan-reach : (plan : Plan) → reach Point.fresh (orders_of plan) ≡ Point.over (map sent_of plan.files)
plan-reach plan = files-reach [] plan.files
