-- Orders one after another: paths, and what is written, replied and marked along them, in two parts; and what the line tells of them.
use Prim.Native.Nat.{ℕ}
use mathlib.Core.Path.{◌≡◌, refl, ◌∙◌}
use mathlib.Core.List.{List, [], ◌∷◌, ◌++◌, map, append_assoc, map-append}
use Rattle.frames.specs.Stream.{Mode, Told, stream, framed}
use Rattle.frames.proofs.Follows.{stream-append}
use Rattle.protocol.specs.History.{Mark}
use Rattle.sending.specs.Plans.{Order}
use Rattle.sending.proofs.arrival.path.Points.{Point, next, reach, Path, text_at, Said, said_text, reply_at, texts_at, says_at, replies_at}
use Rattle.sending.proofs.arrival.path.Points.{frames, tells}
use Rattle.sending.proofs.arrival.path.States.{done_marks, marks_at}
use Rattle.sending.proofs.arrival.path.Texts.{order-told, AllRead, replies-read}

-- ---- in two parts
pub reach-append : (p : Point) (xs ys : List Order) → reach p (xs ++ ys) ≡ reach (reach p xs) ys
reach-append p [] ys = refl
reach-append p (o ∷ xs) ys = reach-append (next p o) xs ys

pub frames-append : (xs ys : List (List ℕ)) → frames (xs ++ ys) ≡ frames xs ++ frames ys
frames-append [] ys = refl
frames-append (t ∷ xs) ys = rw (frames-append xs ys, append_assoc)

says_at-append : (p : Point) (xs ys : List Order) → says_at p (xs ++ ys) ≡ says_at p xs ++ says_at (reach p xs) ys
says_at-append p [] ys = refl
says_at-append p (o ∷ xs) ys = rw (says_at-append (next p o) xs ys, append_assoc)

-- a frame that tells its text, before bytes that tell some
told-then : (t bs : List ℕ) (ts : List Told) → stream Mode.outside (framed t) ≡ (Told.command t ∷ [], Mode.outside)
    → stream Mode.outside bs ≡ (ts, Mode.outside) → stream Mode.outside (framed t ++ bs) ≡ (Told.command t ∷ ts, Mode.outside)
told-then t bs ts e f = stream-append Mode.outside (framed t) bs ∙ rw (e, f)

module _ (id : List ℕ) where
  pub path-append : (p : Point) (xs ys : List Order) → Path id p (xs ++ ys) → Path id p xs × Path id (reach p xs) ys
  path-append p [] ys w = (tt, w)
  path-append p (o ∷ xs) ys w = let r = path-append (next p o) xs ys w.1 in ((w.0, r.0), r.1)

  pub path_join : (p : Point) (xs ys : List Order) → Path id p xs → Path id (reach p xs) ys → Path id p (xs ++ ys)
  path_join p [] ys v w = w
  path_join p (o ∷ xs) ys v w = (v.0, path_join (next p o) xs ys v.1 w)

  pub texts_at-append : (p : Point) (xs ys : List Order) → texts_at id p (xs ++ ys) ≡ texts_at id p xs ++ texts_at id (reach p xs) ys
  texts_at-append p [] ys = refl
  texts_at-append p (o ∷ xs) ys = rw (texts_at-append (next p o) xs ys)

  pub replies_at-append : (p : Point) (xs ys : List Order)
      → replies_at id p (xs ++ ys) ≡ replies_at id p xs ++ replies_at id (reach p xs) ys
  replies_at-append p xs ys = rw (says_at-append p xs ys) (map-append (said_text id) (says_at p xs) (says_at (reach p xs) ys))

  pub marks_at-append : (p : Point) (xs ys : List Order) (m : List Mark)
      → marks_at id p (xs ++ ys) m ≡ marks_at id (reach p xs) ys (marks_at id p xs m)
  marks_at-append p [] ys m = refl
  marks_at-append p (o ∷ xs) ys m = marks_at-append (next p o) xs ys (done_marks id p o m)

  -- ---- what the line tells
  pub frames-told : (p : Point) (os : List Order) → Path id p os
      → stream Mode.outside (frames (texts_at id p os)) ≡ (tells (texts_at id p os), Mode.outside)
  unfolding stream
  frames-told p [] w = refl
  frames-told p (o ∷ os) w = told-then (text_at id p o) _ _ (order-told w.0) (frames-told (next p o) os w.1)

  -- each reply is read
  reads-append : (xs ys : List Said) → AllRead id xs → AllRead id ys → AllRead id (xs ++ ys)
  reads-append [] ys v w = w
  reads-append (s ∷ xs) ys v w = (v.0, reads-append xs ys v.1 w)

  path-read : (p : Point) (os : List Order) → Path id p os → AllRead id (says_at p os)
  path-read p [] w = tt
  path-read p (o ∷ os) w = reads-append (reply_at p o) (says_at (next p o) os) (replies-read w.0) (path-read (next p o) os w.1)

  said-told : (ss : List Said) → AllRead id ss
      → stream Mode.outside (frames (map (said_text id) ss)) ≡ (tells (map (said_text id) ss), Mode.outside)
  unfolding stream
  said-told [] w = refl
  said-told (s ∷ ss) w = told-then (said_text id s) _ _ w.0.told (said-told ss w.1)

  pub replies-told : (p : Point) (os : List Order) → Path id p os
      → stream Mode.outside (frames (replies_at id p os)) ≡ (tells (replies_at id p os), Mode.outside)
  replies-told p os w = said-told (says_at p os) (path-read p os w)
