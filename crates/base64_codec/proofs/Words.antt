-- Four values of six bits as one number, and its three bytes.
use Prim.Native.Nat.{ℕ, ◌+◌, ◌*◌, ◌/◌, ◌%◌, ◌<◌}
use mathlib.Core.Path.{◌≡◌}
use native.Mathlib.Omega.{arith}
use Rattle.base64_codec.specs.Decode.{byte1, byte2, byte3}

module _ (a b c d : ℕ) where
  abbrev pub word_of : ℕ
  word_of = a * 262144 + b * 4096 + c * 64 + d

  module _ (ha : a < 64) (hb : b < 64) (hc : c < 64) (hd : d < 64) where
    pub word-byte1 : word_of / 65536 % 256 ≡ byte1 a b
    word-byte1 = omega arith

    pub word-byte2 : word_of / 256 % 256 ≡ byte2 b c
    word-byte2 = omega arith

    pub word-byte3 : word_of % 256 ≡ byte3 c d
    word-byte3 = omega arith

-- the same of any four values, cut to six bits
module _ (a b c d : ℕ) where
  abbrev pub cut_word : ℕ
  cut_word = word_of (a % 64) (b % 64) (c % 64) (d % 64)

  pub cut-byte1 : cut_word / 65536 % 256 ≡ byte1 a b
  cut-byte1 = omega arith

  pub cut-byte2 : cut_word / 256 % 256 ≡ byte2 b c
  cut-byte2 = omega arith

  pub cut-byte3 : cut_word % 256 ≡ byte3 c d
  cut-byte3 = omega arith
