use Rattle.std.proofs.Common.{◌≡◌, ◌-◌, ◌*◌, ◌/◌, length, get_or, drop, take, arith, rules}
use Rattle.octets.proofs.Lists.{part-rest}
use Rattle.base64_codec.specs.Alphabet.{pad}
use Rattle.base64_codec.specs.Padding.{padded, decode_with}
use Rattle.base64_codec.specs.declared.Padding.TheVariants.{Optional}
use Rattle.base64_codec.proofs.Padded.{nothing-lacks, ended-lacks, lacking-padded}
use Rattle.base64_codec.proofs.lacking.decode.Goals as goal
use Rattle.base64_codec.proofs.lacking.decode.Goals.{then-left-lt2-via-then-left-lt2, then-left-lt2-via-else-left-lt2+then-left-eq-PAD}

pub returns-then-left-lt2 : goal.returns-then-left-lt2
unfolding decode_with
returns-then-left-lt2 c =
    let t = c.args.text.now in
    let e = part-rest t (length t / 4 * 4) in
    let p : padded Optional t ≡ t = elim c.then-left-lt2.branch [
      | then-left-lt2-via-then-left-lt2 w ↦ nothing-lacks t _ e w.if-left-lt2.true
      | then-left-lt2-via-else-left-lt2+then-left-eq-PAD w ↦ ended-lacks t _ e _ (omega (arith, w.if-left-lt2.false)) w.if-left-eq-PAD.true
    ] in
    rw p c.decode.ensures.out_after

pub returns : goal.returns
unfolding decode_with
returns c =
    let t = c.args.text.now in
    let i = length t / 4 * 4 in
    let u = take (length t - i) (drop i t) in
    let third : c.unwrap_or-third.result ≡ get_or u 2 pad = search rules in
    rw (lacking-padded t u (part-rest t i) c.if-left-lt2.false c.if-left-eq-PAD.false, ← third) c.in_two.ensures
