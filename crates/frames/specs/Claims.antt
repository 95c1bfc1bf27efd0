-- What holds of every list of scans, by the definition that the contract of `scan` cites.
use Rattle.std.specs.Prelude.{ℕ, ◌<◌, ◌≤◌, ◌≡◌, true, List, [], ◌∷◌, length, take}
use Rattle.octets.specs.Slices.{lacks}
use Rattle.frames.specs.Stream.{Mode, Told, is_command, text_limit, stream, framed}
use Rattle.frames.specs.Framings.{capped_of}
use Rattle.frames.specs.Calls.{refusal_number, scan_of}
use Rattle.frames.specs.Follows.{carried, Follows, Calls}
use Rattle.frames.specs.declared.Framing.{Framing}
use Rattle.frames.specs.declared.Framing.TheVariants.{Plain}
use Rattle.frames.specs.declared.Report.{Report}

-- document 01's "Frames": from a plain framing, with any carry, scans tell what the stream of the bytes that they consumed tells, with
-- its texts, and leave what is kept of its mode
abbrev pub TellsTheStream : Type 0
TellsTheStream =
    (c bs : List ℕ) (ts : List Told) (f' : Framing) (c' : List ℕ) → Calls Plain c bs ts f' c'
    → (ts ≡ (stream Mode.outside bs).0) × Follows f' c' (stream Mode.outside bs).1

-- "The reports, places apart, are the same however the bytes are cut": from any framing, with any carry. A list of no scans leaves a
-- framing as it was given, so framings are compared with their counts capped, as each scan caps them.
abbrev pub SameHoweverCut : Type 0
SameHoweverCut =
    (f : Framing) (c bs : List ℕ) (ts₁ ts₂ : List Told) (f₁ f₂ : Framing) (c₁ c₂ : List ℕ)
    → Calls f c bs ts₁ f₁ c₁ → Calls f c bs ts₂ f₂ c₂
    → (ts₁ ≡ ts₂) × (capped_of f₁ ≡ capped_of f₂) × (carried f₁ c₁ ≡ carried f₂ c₂)

-- "consumes through the first thing to report": fewer bytes of the piece report nothing; "with nothing to report it consumes the piece";
-- and some of a piece that has bytes in any case, so that scanning the rest comes to an end
abbrev pub Consumes : Type 0
Consumes =
    (f : Framing) (xs c : List ℕ) → text_limit ≤ length c → let s = (scan_of f xs c).answer in
    ((k : ℕ) → k < s.consumed → (scan_of f (take k xs) c).answer.report ≡ Report.Nothing)
    × (s.report ≡ Report.Nothing → s.consumed ≡ length xs)
    × (0 < length xs → 0 < s.consumed)

-- refusal 9: "carry under 8,192", and then "nothing consumed, all memory as before"; else no refusal 9
abbrev pub RefusesShort : Type 0
RefusesShort =
    (f : Framing) (xs c : List ℕ) → let s = scan_of f xs c in
    (length c < text_limit
    → (refusal_number s.answer.report ≡ 9) × (s.answer.consumed ≡ 0) × (s.answer.framing ≡ f) × (s.buffer ≡ c))
    × (text_limit ≤ length c → refusal_number s.answer.report ≡ 9 → ⊥)

-- a command text without 1B, in its frame: the stream tells that text and nothing else, and is outside texts again at the frame's end
abbrev pub FramedTells : Type 0
FramedTells =
    (t : List ℕ) → lacks 0x1B t ≡ true → is_command t ≡ true → length t ≤ text_limit
    → stream Mode.outside (framed t) ≡ (Told.command t ∷ [], Mode.outside)
