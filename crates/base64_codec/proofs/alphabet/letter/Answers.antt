use Rattle.octets.proofs.Tests.{tests}
use Rattle.base64_codec.specs.Alphabet.{letter_of}
use Rattle.base64_codec.proofs.alphabet.letter.Goals as goal

pub returns-then-v-lt26 : goal.returns-then-v-lt26
unfolding letter_of
returns-then-v-lt26 c = search tests

pub returns-then-v-lt52 : goal.returns-then-v-lt52
unfolding letter_of
returns-then-v-lt52 c = search tests

pub returns-then-v-lt62 : goal.returns-then-v-lt62
unfolding letter_of
returns-then-v-lt62 c = search tests

pub returns-then-v-eq62 : goal.returns-then-v-eq62
unfolding letter_of
returns-then-v-eq62 c = search tests

pub returns : goal.returns
unfolding letter_of
returns c = search tests
