-- The round trips of `specs/RoundTrips`: first of values and their canonical text, then of the calls.
use Prim.Native.Nat.{ℕ, ◌≤◌}
use mathlib.Core.Path.{◌≡◌, refl, sym, ◌∙◌, ap}
use mathlib.Core.Bool.{true}
use mathlib.Core.List.{List, []}
use native.Mathlib.Omega.{arith}
use lib.ListN.{length, take, drop, replicate, length-replicate}
use lib.Seq.{sets, sets-eq, take-append_seam}
use borrow.Author.Tests.{le-ltb}
use Rattle.octets.specs.Ascii.{ascii}
use Rattle.octets.specs.Members.{every}
use Rattle.octets.specs.Outcome.{Outcome, outcome}
use Rattle.octets.specs.Slices.{starts_with}
use Rattle.octets.specs.Split.{split, join}
use Rattle.octets.proofs.Compare.{starts-append}
use Rattle.frames.specs.Stream.{text_limit}
use Rattle.command.specs.Keys.{keys}
use Rattle.command.specs.Letters.{text_byte}
use Rattle.command.specs.Values.{Value}
use Rattle.command.specs.Fields.{text_read}
use Rattle.command.specs.Meaning.{Meaning, meaning_of}
use Rattle.command.specs.Canonical.{fields_of, canonical}
use Rattle.command.specs.Grammar.{CanonicalText}
use Rattle.command.specs.Slots.{values_of}
use Rattle.command.specs.Read as Read
use Rattle.command.specs.Read.{scratch_room, read_of, meaning_in}
use Rattle.command.specs.Write.{Answer, write_of}
use Rattle.command.specs.RoundTrips.{WrittenThenRead, ReadThenWritten, Writes, WritesCanonical}
use Rattle.command.specs.declared.Command.{Command}
use Rattle.command.proofs.Every.{every_append}
use Rattle.command.proofs.Calm.{join-text, split-again}
use Rattle.command.proofs.Table.{table}
use Rattle.command.proofs.Fits.{Fits, canonical-fits, fits-canonical, fits-fields, taken-fits, fits_whole, some-field}
use Rattle.command.proofs.WrittenFields.{ReadsAs, fields_read_lem}
use Rattle.command.proofs.Accepted.{Accepted, accepted-writes, writes-accepted}
use Rattle.command.proofs.Simulation.{read-means}

-- ---- the canonical text of a command that the writer takes
-- it passes the tests before its fields, and divides into them again
module _ (c : List Value) (f : Fits keys c (fields_of keys c)) (r : ReadsAs keys [] c (fields_of keys c)) where
  canonical-bytes : every text_byte (canonical c) ≡ true
  unfolding canonical every text_byte
  canonical-bytes = every_append text_byte (ascii "5113;") (join 59 (fields_of keys c)) refl (join-text (fields_of keys c) r.quiet)

  canonical-marked : starts_with (canonical c) (ascii "5113;") ≡ true
  unfolding canonical
  canonical-marked = starts-append (ascii "5113;") (join 59 (fields_of keys c))

  canonical-fields : split 59 (drop 5 (canonical c)) ≡ fields_of keys c
  unfolding canonical
  canonical-fields = let s = some-field f in rw s.2 (split-again s.0 s.1 (rw s.2 at r.quiet))

module _ (c : List Value) (out : List ℕ) (n : ℕ) (e : (write_of c out).answer ≡ Answer.written n) where
  -- it stands at the buffer's start, in the length that was answered
  written-text : take n (write_of c out).buffer ≡ canonical c
  written-text =
      let a = writes-accepted c out n e in
      let w = accepted-writes c out a in
      let l : n ≡ length (canonical c) = cc in
      rw (l, w, sets-eq (canonical c) out 0 (omega (arith, a.room))) (take-append_seam (canonical c) _)

  -- it is canonical by its grammar
  pub writes-canonical : CanonicalText (canonical c)
  unfolding canonical
  writes-canonical =
      let a = writes-accepted c out n e in
      record { fields = fields_of keys c; in_order = fits-canonical (taken-fits c a.kinds a.whole); joined = refl; short = a.short }

  -- and reads as the command
  pub read-written : meaning_of (canonical c) ≡ Meaning.command c
  unfolding meaning_of text_read
  read-written =
      let a = writes-accepted c out n e in
      let f = taken-fits c a.kinds a.whole in
      let r = fields_read_lem f [] 0 table refl in
      rw (
        le-ltb text_limit (length (canonical c)) a.short,
        canonical-bytes c f r,
        canonical-marked c f r,
        canonical-fields c f r,
        r.reads 5,
        r.values,
        a.whole,
      )

-- ---- a canonical text is that of a command that the writer takes
pub record Canonized (t : List ℕ) : Type 0 where
  pub values : List Value
  pub text : canonical values ≡ t
  pub taken : (out : List ℕ) → length t ≤ length out → Accepted values out

pub canonized : (t : List ℕ) → CanonicalText t → Canonized t
canonized t h =
    let g = canonical-fits h.in_order in
    let f = fits-fields g.1 in
    let w : canonical g.0 ≡ t = unfold canonical in rw f.0 (sym h.joined) in
    record {
      values = g.0;
      text = w;
      taken = λ (out : List ℕ) (l : length t ≤ length out).
          record { kinds = f.1; whole = fits_whole g.1; short = rw w h.short; room = rw w l };
    }

module _ {t : List ℕ} (z : Canonized t) where
  canonized-writes : (out : List ℕ) → length t ≤ length out → write_of z.values out ≡ outcome (Answer.written (length t)) (sets out 0 t)
  canonized-writes out l = rw z.text at (accepted-writes z.values out (z.taken out l))

  pub canonized-means : meaning_of t ≡ Meaning.command z.values
  canonized-means =
      let e : (write_of z.values t).answer ≡ Answer.written (length t) = rw (canonized-writes t (omega arith)) in
      rw z.text at (read-written z.values t (length t) e)

-- ---- of the calls
pub written-then-read : WrittenThenRead
written-then-read c text scratch out n e lent enough =
    rw (written-text (values_of c text scratch) out n e) (read-means _ lent enough ∙ read-written (values_of c text scratch) out n e)

-- an answer that means a command is that command
means-read : (t : List ℕ) (o : Outcome Read.Answer) (vs : List Value) → meaning_in t o ≡ Meaning.command vs
    → (c : Command) × (o.answer ≡ Read.Answer.read c) × (values_of c t o.buffer ≡ vs)
means-read t o vs e = go o.answer refl e
  where
    go : (a : Read.Answer) → o.answer ≡ a → meaning_in t (outcome a o.buffer) ≡ Meaning.command vs
        → (c : Command) × (o.answer ≡ Read.Answer.read c) × (values_of c t o.buffer ≡ vs)
    go (Read.Answer.read c) q m = (c, q, cc)
    go (Read.Answer.refused r) q m = let y : ◌≡◌ {A = ℕ} 0 1 = cc in absurd (omega arith)

pub read-then-written : ReadThenWritten
read-then-written t scratch h enough =
    let z = canonized t h in
    let m = means-read t (read_of t scratch) z.values (read-means t scratch enough ∙ canonized-means z) in
    record { command = m.0; reads = m.1; writes = λ (out : List ℕ) (l : length t ≤ length out). rw m.2 (canonized-writes z out l) }

pub writes_exactly : WritesCanonical
writes_exactly t = (only, all)
  where
    only : Writes t → CanonicalText t
    only w =
        let vs = values_of w.command w.text w.scratch in
        let e : canonical vs ≡ t = sym (written-text vs w.out (length t) w.answers) ∙ w.stands in
        rw e at (writes-canonical vs w.out (length t) w.answers)

    all : CanonicalText t → Writes t
    all h =
        let lent : List ℕ = replicate scratch_room 0 in
        let s = read-then-written t lent h (omega (arith, length-replicate {A = ℕ} scratch_room 0)) in
        let w = s.writes t (omega arith) in
        record {
          command = s.command;
          text = t;
          scratch = (read_of t lent).buffer;
          out = t;
          answers = ap (λ (o : Outcome Answer). o.answer) w;
          stands = rw (w, sets-eq t t 0 (omega arith)) (take-append_seam t _);
        }
