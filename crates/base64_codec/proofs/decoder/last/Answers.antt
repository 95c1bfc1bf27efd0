use Rattle.std.proofs.Common.{◌≡◌, ℕ, List, length, get_or, refl, ap, arith}
use lib.ListN.{length-set}
use Rattle.octets.proofs.Stores.{put1, put2, put3}
use Rattle.base64_codec.specs.Alphabet.{value_of}
use Rattle.base64_codec.proofs.Turns.{some_byte, some_bytes, one_byte, two_bytes, three-bytes}
use Rattle.base64_codec.proofs.Words.{cut_word, cut-byte1, cut-byte2, cut-byte3}
use Rattle.base64_codec.proofs.decoder.last.Goals as goal

-- the word of the group
abbrev word_of : List ℕ → ℕ
word_of g = cut_word (value_of (get_or g 0 0)) (value_of (get_or g 1 0)) (value_of (get_or g 2 0)) (value_of (get_or g 3 0))

pub bounds-out-o : goal.bounds-out-o
bounds-out-o c = omega (arith, some_byte c.args.group.now c.told-group)

pub returns-then-c-eq-PAD : goal.returns-then-c-eq-PAD
returns-then-c-eq-PAD c =
    let made : c.word-w.result ≡ word_of c.args.group.now =
    rw (c.word-w.ensures, c.value-4.ensures.0, c.value-3.ensures.0, c.value-2.ensures.0, c.value.ensures.0) in
    rw (c.byte1.ensures, made, cut-byte1 _ _ _ _)
    (put1 c.args.out.now c.args.o (one_byte c.args.group.now c.told-group c.if-c-eq-PAD.true) refl)

pub bounds-out-o-2 : goal.bounds-out-o-2
bounds-out-o-2 c = simp length-set (omega (arith, some_bytes c.args.group.now c.told-group c.if-c-eq-PAD.false))

pub returns-then-d-eq-PAD : goal.returns-then-d-eq-PAD
returns-then-d-eq-PAD c =
    let made : c.word-w.result ≡ word_of c.args.group.now =
    rw (c.word-w.ensures, c.value-4.ensures.0, c.value-3.ensures.0, c.value-2.ensures.0, c.value.ensures.0) in
    rw (c.byte2.ensures, c.byte1.ensures, made, cut-byte1 _ _ _ _, cut-byte2 _ _ _ _)
    (put2 c.args.out.now c.args.o (two_bytes c.args.group.now c.told-group c.if-c-eq-PAD.false c.if-d-eq-PAD.true) refl)

pub bounds-out-o-3 : goal.bounds-out-o-3
bounds-out-o-3 c =
    simp length-set
    (omega (arith, ap length (three-bytes c.args.group.now c.told-group c.if-c-eq-PAD.false c.if-d-eq-PAD.false)))

pub returns : goal.returns
returns c =
    let made : c.word-w.result ≡ word_of c.args.group.now =
    rw (c.word-w.ensures, c.value-4.ensures.0, c.value-3.ensures.0, c.value-2.ensures.0, c.value.ensures.0) in
    rw (
      c.byte3.ensures,
      c.byte2.ensures,
      c.byte1.ensures,
      made,
      cut-byte1 _ _ _ _,
      cut-byte2 _ _ _ _,
      cut-byte3 _ _ _ _,
    )
    (put3 c.args.out.now c.args.o (three-bytes c.args.group.now c.told-group c.if-c-eq-PAD.false c.if-d-eq-PAD.false) refl)
