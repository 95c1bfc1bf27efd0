use Rattle.std.proofs.Common.{◌≡◌, ℕ, ◌+◌, ◌*◌, ◌/◌, ◌<◌, List, [], length, get_or, take, drop, sym, ◌∙◌, ap, arith}
use Rattle.std.proofs.lemmas.List.{drop-drop, length-drop}
use Rattle.std.specs.Simd.{first_chunks}
use Rattle.octets.proofs.Lists.{part-rest}
use Rattle.base64_codec.proofs.Chunks.{chunk-at}
use Rattle.base64_codec.proofs.Turns.{letters-past}
use Rattle.base64_codec.proofs.decoder.pass_letters.Goals as goal

-- the group number k from place i on
group-at : (t : List ℕ) (i k : ℕ) (gs : List (List ℕ)) (u : List ℕ) → u ≡ drop i t → gs ≡ first_chunks 4 (length u / 4) u → k < length u / 4
    → get_or gs k [] ≡ take 4 (drop (i + k * 4) t)
group-at t i k gs u d e h =
    rw (e, chunk-at 4 (length u / 4) k u h, d) (ap (take 4) (drop-drop (k * 4) i t))

pub loop-k-preserved : goal.loop-k-preserved
loop-k-preserved c =
    let l = c.loop-k in
    let t = c.args.text.now in
    let i = c.pass_blocks-start.result in
    let b = c.pass_blocks-start.ensures.0 in
    let g = group-at t i l.k _ _ (part-rest t i) c.as_chunks.ensures.front (omega arith) in
    let s : i + l.k * 4 + 4 ≡ i + (l.k + 1) * 4 = omega arith in
    let e = rw g at (sym c.four.ensures ∙ c.if-not-four.false) in
    let n = ap length (part-rest t i) ∙ length-drop i t in
    sym (rw s at (letters-past 4 t (i + l.k * 4) (omega (arith, b, n)) e)) ∙ l.invariant
