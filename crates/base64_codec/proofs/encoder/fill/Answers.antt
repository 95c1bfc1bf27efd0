use Rattle.std.proofs.Common.{◌≡◌, ℕ, ◌+◌, ◌*◌, ◌/◌, ◌<◌, List, [], ◌∷◌, length, get_or, drop, sym, ◌∙◌, ap, arith}
use Rattle.std.proofs.lemmas.List.Edits.{sets}
use Rattle.std.specs.Simd.{first_chunks}
use native.Mathlib.Numerals.{towards_suc}
use Rattle.base64_codec.specs.Encode.{char1, char2, char3, char4, text_of}
use Rattle.base64_codec.proofs.Chunks.{chunk-left}
use Rattle.base64_codec.proofs.Turns.{text-group}
use Rattle.base64_codec.proofs.encoder.fill.Goals as goal

-- a group stored is the first four characters of what is left
stored : (l : List ℕ) (o : ℕ) {a b c d : ℕ} {r bs x : List ℕ} → bs ≡ a ∷ b ∷ c ∷ d ∷ r → sets l o bs ≡ x
    → sets (sets l o (a ∷ b ∷ c ∷ d ∷ [])) (o + 4) r ≡ x
stored l o e p = simp towards_suc (sym (ap (sets l o) e) ∙ p)

-- the text of what is left from group k on
text-left : (t : List ℕ) (k : ℕ) (gs : List (List ℕ)) → gs ≡ first_chunks 3 (length t / 3) t → k < length t / 3
    → let g = get_or gs k [] in
    text_of (drop (k * 3) t)
    ≡ char1 (get_or g 0 0) ∷ char2 (get_or g 0 0) (get_or g 1 0) ∷ char3 (get_or g 1 0) (get_or g 2 0) ∷ char4 (get_or g 2 0)
    ∷ text_of (drop ((k + 1) * 3) t)
text-left t k gs e h =
    let l = chunk-left 3 (length t / 3) k t h (omega arith) in
    rw (e, l.1) (text-group _ _ l.0)

-- a turn takes three bytes, and their four characters have room
pub put-requires : goal.put-requires
put-requires c =
    let l = c.loop-a in
    omega (arith, ap length (text-left c.args.«data».now l.a-index _ c.as_chunks.ensures.front (omega arith)))

pub loop-a-preserved : goal.loop-a-preserved
loop-a-preserved c =
    let l = c.loop-a in
    let e = text-left c.args.«data».now l.a-index _ c.as_chunks.ensures.front (omega arith) in (
      omega (arith, ap length e),
      rw (c.put.ensures, c.char4.ensures, c.char3.ensures, c.char2.ensures, c.char1.ensures) (stored l.out l.o e l.invariant.1),
    )
