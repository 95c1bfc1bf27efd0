-- Small plans that fit: no file, and one of two bytes in two pieces.
use Prim.Native.Nat.{ℕ, ◌≤◌}
use mathlib.Core.Path.{◌≡◌, refl}
use mathlib.Core.Bool.{true}
use mathlib.Core.Logic.{◌⊎◌}
use mathlib.Core.List.{List, [], ◌∷◌, ◌++◌}
use native.Mathlib.Omega.{arith}
use lib.ListN.{length, length-append}
use Rattle.octets.specs.Ascii.{ascii}
use Rattle.octets.specs.Members.{every}
use Rattle.pathname.specs.Name.{valid_name}
use Rattle.command.specs.Letters.{is_byte}
use Rattle.protocol.specs.Sound.{IsId}
use Rattle.protocol.proofs.Starred.{computing}
use Rattle.sending.specs.Plans.{File, Plan, FitPiece, Fit}

pub session : IsId (ascii "m")
unfolding computing
session = record { safe = refl; some = omega arith; short = omega arith }

abbrev pub none : Plan
none = record { id = ascii "m"; files = [] }

pub fit_none : Fit none
fit_none = record { id = session; few = omega arith; files = tt; differ = tt }

abbrev pub one : File → Plan
one f = record { id = ascii "m"; files = f ∷ [] }

-- a file in two pieces
abbrev pub file_of : (id name : List ℕ) (size : ℕ) (piece last : List ℕ) → File
file_of id name size piece last = record { id = id; name = name; size = size; pieces = piece ∷ []; last = last }

-- what is to be sent, its size declared or not
abbrev pub given : ℕ → File
given size = file_of (ascii "a") (ascii "/nz") size (ascii "a") (ascii "b")

-- short ones fit
pub piece-fits : (p : List ℕ) → every is_byte p ≡ true → length p ≤ 2 → FitPiece p
piece-fits p e l = record { bytes = e; short = omega arith }

-- a file in two pieces fits, if its parts do
pub fit : (id name : List ℕ) (size : ℕ) (piece last : List ℕ) → IsId id → valid_name name ≡ true
    → FitPiece piece → FitPiece last → (size ≡ 0) ⊎ (size ≡ length (piece ++ last)) → Fit (one (file_of id name size piece last))
unfolding every
fit id name size piece last i n p l s =
    record {
      id = session;
      few = omega arith;
      files = (
        record {
          id = i;
          name = n;
          pieces = (p, tt);
          last = l;
          long = omega (arith, length-append piece last, p.short, l.short);
          size = s;
        },
        tt,
      );
      differ = (refl, tt);
    }

pub pieces-fit : FitPiece (ascii "a") × FitPiece (ascii "b") × FitPiece []
unfolding computing
pieces-fit = (
  piece-fits (ascii "a") refl (omega arith),
  piece-fits (ascii "b") refl (omega arith),
  piece-fits [] refl (omega arith),
)

pub ids-fit : IsId (ascii "a") × IsId (ascii "ax")
unfolding computing
ids-fit = (
  record { safe = refl; some = omega arith; short = omega arith },
  record { safe = refl; some = omega arith; short = omega arith },
)

pub fit-given : (size : ℕ) → (size ≡ 0) ⊎ (size ≡ 2) → Fit (one (given size))
unfolding computing
fit-given size s = fit _ _ size _ _ ids-fit.0 refl pieces-fit.0 pieces-fit.1 s
