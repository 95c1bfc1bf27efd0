-- A signature is read as 001 lays it out, and only so.
use Prim.Native.Nat.{ℕ, zero, suc, ◌+◌, ◌-◌, ◌*◌, ◌/◌, ◌%◌, ◌^◌, ◌≤◌, ◌<◌}
use mathlib.Core.Path.{◌≡◌, refl, sym, ap, ◌∙◌}
use mathlib.Core.Bool.{true}
use mathlib.Core.List.{List, [], ◌∷◌, ◌++◌, append_assoc}
use native.Mathlib.Omega.{arith}
use lib.ListN.{length, get_or, take, drop, length-append, length-drop, take-append-drop}
use lib.Seq.{drop-drop, drop-append-add}
use lib.Dec.{eqb}
use borrow.Author.Tests.{le-leb, le-ltb, lt-ltb, eqb-true}
use Rattle.octets.specs.Bytes.{Bytes}
use Rattle.octets.specs.Little.{little, number}
use Rattle.octets.proofs.Below.{both_test}
use Rattle.octets.proofs.Littles.{length-little}
use Rattle.delta.specs.Layout.{laid_entry, laid_entries, laid_signature, EntryFits, EntriesFit}
use Rattle.delta.specs.Read.{limit, field_in, plain_in, signature_of, entry_from, entry_in, entry_of}
use Rattle.delta.specs.Laws.{no_entry, signature, ours, Signs, ReadsSignature, SignatureLaid, LaidSignatures}
use Rattle.delta.specs.declared.Entry.{Entry}
use Rattle.delta.specs.declared.Signature.{Signature}
use Rattle.delta.proofs.HeaderLaws.{signed-read}
use Rattle.delta.proofs.LayoutLaws.{drop-little, field-little, length_front, bytes_drop, field-laid, field_lt}
use Rattle.std.specs.Prelude.{Some, None, Ok}

-- ---- entries laid out, and read
length-entry : (e : Entry) (r : List ℕ) → length (laid_entry e ++ r) ≡ 20 + length r
unfolding laid_entry
length-entry e r =
    omega (
      arith,
      length-append (little 8 e.index ++ (little 4 e.weak ++ little 8 e.strong)) r,
      length_front 8 e.index (little 4 e.weak ++ little 8 e.strong),
      length_front 4 e.weak (little 8 e.strong),
      length-little 8 e.strong,
    )

length-entries : (es : List Entry) → length (laid_entries es) ≡ 20 * length es
unfolding laid_entries
length-entries [] = refl
length-entries (e ∷ es) = omega (arith, length-entry e (laid_entries es), length-entries es)

entry-from : (s : List ℕ) (at : ℕ) (e : Entry) (r : List ℕ) → EntryFits e → drop at s ≡ laid_entry e ++ r → entry_from s at ≡ e
unfolding laid_entry
entry-from s at e r h q =
    let weak = little 4 e.weak in
    let strong = little 8 e.strong in
    let index = little 8 e.index in
    let behind = weak ++ (strong ++ r) in
    let a : drop at s ≡ index ++ behind =
    q ∙ append_assoc index (weak ++ strong) r ∙ ap (λ (x : List ℕ). index ++ x) (append_assoc weak strong r) in
    let b : drop (at + 8) s ≡ behind = sym (drop-drop 8 at s) ∙ ap (drop 8) a ∙ drop-little 8 e.index behind in
    let n : at + 8 + 4 ≡ at + 12 = omega arith in
    let c : drop (at + 12) s ≡ strong ++ r =
    ap (λ (k : ℕ). drop k s) (sym n) ∙ sym (drop-drop 4 (at + 8) s) ∙ ap (drop 4) b ∙ drop-little 4 e.weak (strong ++ r) in
    rw (a, b, c, field-little 8 e.index behind h.0)
    (rw (field-little 4 e.weak (strong ++ r) h.1, field-little 8 e.strong r h.2))

-- entry i behind the ones before it
entries_at : (es : List Entry) (i : ℕ) → i < length es → EntriesFit es
    → EntryFits (get_or es i no_entry)
    × (drop (20 * i) (laid_entries es) ≡ laid_entry (get_or es i no_entry) ++ laid_entries (drop (suc i) es))
unfolding laid_entries
entries_at [] i h f = absurd (omega arith)
entries_at (e ∷ es) zero h f = (f.0, refl)
entries_at (e ∷ es) (suc i) h f =
    let rest = entries_at es i (omega arith) f.1 in
    let n : 20 * suc i ≡ length (laid_entry e) + 20 * i = omega (arith, length-entry e [], length-append (laid_entry e) []) in
    (rest.0, rw (n, drop-append-add (laid_entry e) (laid_entries es) (20 * i)) rest.1)

module _ (size : ℕ) (es : List Entry) (k : Signs size es) where
  abbrev s : List ℕ
  s = laid_signature size es

  length-signature : length s ≡ 12 + 20 * length es
  unfolding laid_signature little
  length-signature = omega (arith, length_front 4 size (laid_entries es), length-entries es)

  plain-laid : plain_in s ≡ true
  unfolding laid_signature little number plain_in
  plain-laid = refl

  size-laid : field_in s 8 4 ≡ size
  unfolding laid_signature
  size-laid = unfold little in field-little 4 size (laid_entries es) k.fits

  header-reads : signature_of s ≡ Ok (signature size (length es))
  unfolding signature_of
  header-reads =
      let l = length-signature in
      let m : (length s - 12) % 20 ≡ 0 = omega arith in
      let n : (length s - 12) / 20 ≡ length es = omega arith in
      rw (le-ltb limit (length s) k.short, le-leb 12 (length s) (omega arith), m, plain-laid, size-laid, lt-ltb 0 size k.some, n)

  behind : (i : ℕ) → drop (12 + 20 * i) s ≡ drop (20 * i) (laid_entries es)
  unfolding laid_signature
  behind i = sym (drop-drop (20 * i) 12 s) ∙ ap (drop (20 * i)) (unfold little in drop-little 4 size (laid_entries es))

  entry-reads : (i : ℕ) → i < length es → entry_of s i ≡ Ok (Some (get_or es i no_entry))
  unfolding entry_of entry_in
  entry-reads i h =
      let e = entries_at es i h k.entries in
      rw (header-reads, lt-ltb i (length es) h)
      (ap (λ (x : Entry). Ok (Some x))
      (entry-from s (12 + 20 * i) (get_or es i no_entry) (laid_entries (drop (suc i) es)) e.0 (behind i ∙ e.1)))

  none_reads : (i : ℕ) → length es ≤ i → entry_of s i ≡ Ok None
  unfolding entry_of entry_in
  none_reads i h = rw (header-reads, le-ltb i (length es) h)

pub reads-signature : ReadsSignature ours
reads-signature size es k = (header-reads size es k, entry-reads size es k, none_reads size es k)

-- ---- read, and laid out
cut : (k at : ℕ) (s : List ℕ) → take k (drop at s) ++ drop (at + k) s ≡ drop at s
cut k at s = rw (← drop-drop k at s) (take-append-drop k (drop at s))

entries_in : ℕ → List ℕ → List Entry
entries_in zero r = []
entries_in (suc n) r = entry_from r 0 ∷ entries_in n (drop 20 r)

module _ (r : List ℕ) (h : 20 ≤ length r) (b : Bytes r) where
  -- a field of the first entry
  field_at : (at k : ℕ) → at + k ≤ 20 → (little k (field_in r at k) ≡ take k (drop at r)) × (field_in r at k < 256 ^ k)
  field_at at k l =
      let m : k ≤ length (drop at r) = omega (arith, length-drop at r) in
      (field-laid k (drop at r) m (bytes_drop at r b), field_lt k (drop at r) m (bytes_drop at r b))

  entry-laid : laid_entry (entry_from r 0) ++ drop 20 r ≡ r
  unfolding laid_entry
  entry-laid =
      rw ((field_at 0 8 (omega arith)).0, (field_at 8 4 (omega arith)).0, (field_at 12 8 (omega arith)).0)
      (rw (
        append_assoc (take 8 r) (take 4 (drop 8 r) ++ take 8 (drop 12 r)) (drop 20 r),
        append_assoc (take 4 (drop 8 r)) (take 8 (drop 12 r)) (drop 20 r),
        cut 8 12 r,
        cut 4 8 r,
      ) (take-append-drop 8 r))

  entry-fits : EntryFits (entry_from r 0)
  entry-fits = ((field_at 0 8 (omega arith)).1, (field_at 8 4 (omega arith)).1, (field_at 12 8 (omega arith)).1)

entries-laid : (n : ℕ) (r : List ℕ) → Bytes r → length r ≡ 20 * n
    → (laid_entries (entries_in n r) ≡ r) × EntriesFit (entries_in n r) × (n ≡ length (entries_in n r))
unfolding laid_entries entries_in
entries-laid zero [] b l = (refl, tt, refl)
entries-laid zero (x ∷ r) b l = absurd (omega arith)
entries-laid (suc n) r b l =
    let h : 20 ≤ length r = omega arith in
    let rest = entries-laid n (drop 20 r) (bytes_drop 20 r b) (omega (arith, length-drop 20 r)) in
    (rw rest.0 (entry-laid r h b), (entry-fits r h b, rest.1), ap suc rest.2)

module _ (s : List ℕ) (g : Signature) (b : Bytes s) (e : signature_of s ≡ Ok g) where
  -- the four fields are zero
  zeros :
      (eqb (field_in s 0 2) 0 ≡ true) × (eqb (field_in s 2 2) 0 ≡ true) × (eqb (field_in s 4 2) 0 ≡ true)
      × (eqb (field_in s 6 2) 0 ≡ true)
  unfolding plain_in
  zeros =
      let c = both_test _ (eqb (field_in s 6 2) 0) (signed-read s e).plain in
      let d = both_test _ (eqb (field_in s 4 2) 0) c.0 in
      let f = both_test (eqb (field_in s 0 2) 0) (eqb (field_in s 2 2) 0) d.0 in
      (f.0, f.1, d.1, c.1)

  field-there : (at k : ℕ) → at + k ≤ 12 → little k (field_in s at k) ≡ take k (drop at s)
  field-there at k l = field-laid k (drop at s) (omega (arith, length-drop at s, (signed-read s e).fits)) (bytes_drop at s b)

  -- a field, and what follows it
  on : (k at : ℕ) {n : ℕ} {x : List ℕ} → at + k ≤ 12 → n ≡ field_in s at k → x ≡ drop (at + k) s → little k n ++ x ≡ drop at s
  on k at l q r = rw (q, r, field-there at k l) (cut k at s)

  zero-there : (at : ℕ) → eqb (field_in s at 2) 0 ≡ true → 0 ≡ field_in s at 2
  zero-there at z = sym (eqb-true (field_in s at 2) 0 z)

  abbrev entries : List Entry
  entries = entries_in g.blocks (drop 12 s)

  all_laid : (es : List Entry) → laid_entries es ≡ drop 12 s → laid_signature g.block_size es ≡ s
  unfolding laid_signature
  all_laid es q =
      on 2 0 (omega arith) (zero-there 0 zeros.0)
      (on 2 2 (omega arith) (zero-there 2 zeros.1)
      (on 2 4 (omega arith) (zero-there 4 zeros.2)
      (on 2 6 (omega arith) (zero-there 6 zeros.3) (on 4 8 (omega arith) (signed-read s e).size q))))

  signature-laid : SignatureLaid s g
  signature-laid =
      let h = signed-read s e in
      let es = entries-laid g.blocks (drop 12 s) (bytes_drop 12 s b) (omega (arith, length-drop 12 s, h.whole)) in
      let l : laid_signature g.block_size entries ≡ s = all_laid entries es.0 in
      record {
        entries = entries;
        signs = record {
          some = h.some;
          fits = rw h.size (field_lt 4 (drop 8 s) (omega (arith, length-drop 8 s, h.fits)) (bytes_drop 8 s b));
          entries = es.1;
          short = rw l h.short;
        };
        laid = sym l;
        all = es.2;
      }

pub laid-signatures : LaidSignatures ours
laid-signatures = signature-laid
