-- Fields that fit values read as these values, and are calm. One induction over the table.
use Prim.Native.Nat.{ℕ, suc, ◌+◌}
use mathlib.Core.Path.{◌≡◌, refl}
use mathlib.Core.Bool.{true}
use mathlib.Core.List.{List, [], ◌∷◌, ◌++◌}
use lib.ListN.{length}
use lib.Seq.{append_snoc}
use Rattle.octets.specs.Members.{every}
use Rattle.command.specs.Keys.{Key}
use Rattle.command.specs.Letters.{key_byte, text_byte}
use Rattle.command.specs.Values.{Value}
use Rattle.command.specs.Fields.{Turn, fields_read}
use Rattle.command.specs.Meaning.{Field, meant, blank, value_in, values_in}
use Rattle.command.proofs.Every.{every_map, every_append}
use Rattle.command.proofs.Calm.{calm, plain-calm, key-plain}
use Rattle.command.proofs.Table.{Named, AllNamed, key-letters}
use Rattle.command.proofs.WrittenValues.{Spelled, spelled-reads, spelled-calm}
use Rattle.command.proofs.NextField.{field_at, set_next, length-next}
use Rattle.command.proofs.Fits.{Fits, none, out, with-text}

-- the fields fs of the keys ks read as the values c, after the keys before, whose state is us
pub record ReadsAs (ks : List Key) (us : List Field) (c : List Value) (fs : List (List ℕ)) : Type 0 where
  pub after : List Field
  pub reads : (at : ℕ) → fields_read meant at fs (us ++ blank ks) ≡ Turn.on (us ++ after)
  pub values : values_in ks after ≡ c
  pub quiet : every (every calm) fs ≡ true

module _ (k : Key) (n : ℕ) (h : Named n k) (ks : List Key) (us : List Field) (l : length us ≡ n)
    (v : Value) (c : List Value) (fs : List (List ℕ)) where
  -- a key that is left out
  none_more : (v ≡ value_in k Field.unseen) → ReadsAs ks (us ++ Field.unseen ∷ []) c fs → ReadsAs (k ∷ ks) us (v ∷ c) fs
  none_more e r =
      record {
        after = Field.unseen ∷ r.after;
        reads = λ at. rw (append_snoc us Field.unseen (blank ks), append_snoc us Field.unseen r.after) at (r.reads at);
        values = rw (e, r.values);
        quiet = r.quiet;
      }

  -- a key that is there
  quiet-field : (t : List ℕ) → every calm t ≡ true → every calm (k.name ++ 61 ∷ t) ≡ true
  quiet-field t e =
      let name = every_map key_byte calm (λ x q. plain-calm x (key-plain x q)) k.name (key-letters k.name h.letters) in
      every_append calm k.name (61 ∷ t) name (unfold every calm text_byte in e)

  one_more : (t : List ℕ) → Spelled k.kind v t → ReadsAs ks (us ++ Field.seen v ∷ []) c fs
      → ReadsAs (k ∷ ks) us (v ∷ c) ((k.name ++ 61 ∷ t) ∷ fs)
  unfolding fields_read
  one_more t s r =
      record {
        after = Field.seen v ∷ r.after;
        reads = λ at. rw (field_at k n h us (blank ks) l at t, spelled-reads s h.fits, set_next us (blank ks) n l v)
            (rw (append_snoc us (Field.seen v) r.after) at (r.reads (at + length (k.name ++ 61 ∷ t) + 1)));
        values = rw r.values;
        quiet = unfold every in rw (quiet-field t (spelled-calm s h.fits)) r.quiet;
      }

-- ---- the induction
pub fields_read_lem : {ks : List Key} {c : List Value} {fs : List (List ℕ)} → Fits ks c fs → (us : List Field) (n : ℕ)
    → AllNamed n ks → length us ≡ n → ReadsAs ks us c fs
fields_read_lem none us n t l =
    record { after = []; reads = λ at. (unfold fields_read in refl); values = refl; quiet = (unfold every in refl) }
fields_read_lem (out {k} {ks} {x} {c} {fs} e _ r) us n t l =
    none_more k n t.0 ks us l x c fs e (fields_read_lem r (us ++ Field.unseen ∷ []) (suc n) t.1 (length-next us Field.unseen n l))
fields_read_lem (with-text {k} {ks} {x} {c} {fs} v s r) us n t l =
    one_more k n t.0 ks us l x c fs v s (fields_read_lem r (us ++ Field.seen x ∷ []) (suc n) t.1 (length-next us (Field.seen x) n l))
