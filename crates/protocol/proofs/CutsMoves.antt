-- Moves on a state, each of which may take the next thing that the bytes tell: what they give, and the state after them, hang on the moves
-- and on all that is told, and not on how calls bring them.
use Prim.Native.Nat.{suc, ◌+◌}
use mathlib.Core.Path.{◌≡◌, sym, ap, ◌∙◌}
use mathlib.Core.Bool.{Bool, true, false, cond}
use mathlib.Core.List.{List, [], ◌∷◌, ◌++◌, map, append_assoc, append-nil}
use native.Mathlib.Omega.{arith}
use lib.ListN.{length, length-append}
use Rattle.frames.specs.Stream.{Told}
use Rattle.protocol.specs.Cuts.{calls_among}
use Rattle.protocol.proofs.CutsOrder.{reports, same-order}

-- what a move gives, the state after it, and what the bytes tell after it
pub record Moved (O S : Type 0) : Type 0 where
  pub output : O
  pub state : S
  pub rest : List Told

module _ {S O M : Type 0} (move_of : O → M) (report : M → Bool) (move : S → M → List Told → Moved O S) where
  abbrev moves_of : List O → List M
  moves_of os = map move_of os

  -- one after another: what they give, and the state after them
  abbrev run : S → List M → List Told → List O × S
  run t [] ds = ([], t)
  run t (m ∷ ms) ds = let x = move t m ds in let r = run x.state ms x.rest in (x.output ∷ r.0, r.1)

  -- from the state t to the state t' by moves that give os and take ds: whatever comes after them
  pub record Moves (t t' : S) (os : List O) (ds : List Told) : Type 0 where
    pub runs : (more : List O) (rest : List Told)
        → run t (moves_of (os ++ more)) (ds ++ rest) ≡ (os ++ (run t' (moves_of more) rest).0, (run t' (moves_of more) rest).1)
    pub counts : (more : List O) → reports report (moves_of (os ++ more)) ≡ length ds + reports report (moves_of more)

  pub no-moves : {t t' : S} → t ≡ t' → Moves t t' [] []
  no-moves e = record { runs = λ more rest. rw e; counts = λ more. omega arith }

  -- a report takes one thing told, a call none
  pub one-move : {t t' : S} (o : O) (ds : List Told) → length ds ≡ cond (report (move_of o)) 1 0
      → ((rest : List Told) → move t (move_of o) (ds ++ rest) ≡ record { output = o; state = t'; rest = rest }) → Moves t t' (o ∷ []) ds
  one-move o ds n e = record { runs = λ more rest. rw (e rest); counts = λ more. rw n (go (report (move_of o)) more) }
    where
      go : (b : Bool) (more : List O) → let k = reports report (moves_of more) in cond b (suc k) k ≡ cond b 1 0 + k
      go true more = omega arith
      go false more = omega arith

  pub then-moves : {t t₁ t₂ : S} {os os' : List O} {ds ds' : List Told} → Moves t t₁ os ds → Moves t₁ t₂ os' ds'
      → Moves t t₂ (os ++ os') (ds ++ ds')
  then-moves {os} {os'} {ds} {ds'} a b =
      record {
        runs = λ more rest.
            rw (append_assoc os os' more, append_assoc ds ds' rest, a.runs (os' ++ more) (ds' ++ rest), b.runs more rest, append_assoc);
        counts = λ more.
            rw (append_assoc os os' more, a.counts (os' ++ more), b.counts more, length-append ds ds') (omega arith);
      }

  -- ---- the same calls after as many reports, and the same told: the same is given, and the state after it is the same
  moves-run : {t t' : S} {os : List O} {ds : List Told} → Moves t t' os ds → run t (moves_of os) ds ≡ (os, t')
  moves-run {os} {ds} m = let e = m.runs [] [] in rw (append-nil os, append-nil ds) at e

  moves-count : {t t' : S} {os : List O} {ds : List Told} → Moves t t' os ds → reports report (moves_of os) ≡ length ds
  moves-count {os} {ds} m = let e = m.counts [] in let q = rw (append-nil os) at e in omega (arith, q)

  pub same-moves : (one : M) → ((m : M) → report m ≡ true → m ≡ one) → {t t₁ t₂ : S} {os₁ os₂ : List O} {ds₁ ds₂ : List Told}
      → Moves t t₁ os₁ ds₁ → Moves t t₂ os₂ ds₂ → ds₁ ≡ ds₂ → calls_among report 0 (moves_of os₁) ≡ calls_among report 0 (moves_of os₂)
      → (os₁ ≡ os₂) × (t₁ ≡ t₂)
  same-moves one is {t} {t₁} {t₂} {os₁} {os₂} {ds₁} {ds₂} a b told calls =
      let as_many = moves-count a ∙ ap length told ∙ sym (moves-count b) in
      let order = same-order report one is 0 (moves_of os₁) (moves_of os₂) as_many calls in
      let q : ◌≡◌ {A = List O × S} (os₁, t₁) (os₂, t₂) = sym (moves-run a) ∙ ap (λ (ms : List M). run t ms ds₁) order
      ∙ ap (λ (ds : List Told). run t (moves_of os₂) ds) told ∙ moves-run b in
      (ap (λ (x : List O × S). x.0) q, ap (λ (x : List O × S). x.1) q)
