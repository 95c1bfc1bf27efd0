-- What a signature and a delta say.
use Rattle.std.specs.Prelude.{ℕ, zero, suc, ◌+◌, ◌-◌, ◌*◌, ◌/◌, ◌%◌, Bool, cond, ◌&&◌, leb, ltb, eqb}
use Rattle.std.specs.Prelude.{List, [], ◌∷◌, length, take, drop, get_or, Option, Some, None, Result, Ok, Err}
use Rattle.octets.specs.Little.{number}
use Rattle.delta.specs.Layout.{Op}
use Rattle.delta.specs.declared.Refusal.{Refusal}
use Rattle.delta.specs.declared.Signature.{Signature}
use Rattle.delta.specs.declared.Entry.{Entry}
use Rattle.delta.specs.declared.Span.{Span}
use Rattle.delta.specs.declared.Operation.{Operation}
use Rattle.delta.specs.declared.Step.{Step}
use Rattle.delta.specs.declared.Measured.{Measured}

-- "An input over 65,536 bytes gets 17"
abbrev pub limit : ℕ
limit = 65536

-- n bytes from a place on
abbrev pub span : ℕ → ℕ → Span
span start n = record { start = start; len = n }

-- the new file's length and its hash
abbrev pub measured : ℕ → Option Span → Measured
measured n h = record { length = n; checksum = h }

-- the number in the n bytes from a place on
abbrev pub field_in : List ℕ → ℕ → ℕ → ℕ
field_in s at n = number (take n (drop at s))

-- ---- signatures
-- the four fields before the block size are zero
unfoldable pub plain_in : List ℕ → Bool
plain_in s = ((eqb (field_in s 0 2) 0 && eqb (field_in s 2 2) 0) && eqb (field_in s 4 2) 0) && eqb (field_in s 6 2) 0

-- "block size 0, another header field not zero .. or anything cut off is refused with 16"
abbrev pub is_signature : List ℕ → Bool
is_signature s = leb 12 (length s) && (eqb ((length s - 12) % 20) 0 && (plain_in s && ltb 0 (field_in s 8 4)))

unfoldable pub signature_of : List ℕ → Result Signature Refusal
signature_of s =
    cond (ltb limit (length s)) (Err Refusal.TooLong)
    (cond (is_signature s) (Ok (record { block_size = field_in s 8 4; blocks = (length s - 12) / 20 }))
    (Err Refusal.Damaged))

abbrev pub entry_from : List ℕ → ℕ → Entry
entry_from s at = record { index = field_in s at 8; weak = field_in s (at + 8) 4; strong = field_in s (at + 12) 8 }

unfoldable pub entry_in : ℕ → List ℕ → ℕ → Option Entry
entry_in blocks s i = cond (ltb i blocks) (Some (entry_from s (12 + 20 * i))) None

abbrev pub entry_by : Result Signature Refusal → List ℕ → ℕ → Result (Option Entry) Refusal
entry_by (Ok g) s i = Ok (entry_in g.blocks s i)
entry_by (Err why) s i = Err why

unfoldable pub entry_of : List ℕ → ℕ → Result (Option Entry) Refusal
entry_of s i = entry_by (signature_of s) s i

-- ---- an operation, from its type and the bytes after it
-- the operation, and how many bytes its operands are. A type with names, and no Option of a pair, so that theorems speak of damage
pub data Read : Type 0 where
  damaged : Read
  one : Op → ℕ → Read

unfoldable pub block_in : List ℕ → Read
block_in r = cond (leb 8 (length r)) (Read.one (Op.block (field_in r 0 8)) 8) Read.damaged

unfoldable pub blocks_in : List ℕ → Read
blocks_in r = cond (leb 12 (length r)) (Read.one (Op.blocks (field_in r 0 8) (field_in r 8 4)) 12) Read.damaged

-- a payload behind its size, which is a number of k bytes
unfoldable pub payload_in : ℕ → (List ℕ → Op) → List ℕ → Read
payload_in k f r =
    let n = field_in r 0 k in
    cond (leb (k + n) (length r)) (Read.one (f (take n (drop k r))) (k + n)) Read.damaged

-- "an unknown operation .. or anything cut off is refused"
unfoldable pub operation_of : ℕ → List ℕ → Read
operation_of t r =
    cond (eqb t 0) (block_in r)
    (cond (eqb t 1) (payload_in 4 (λ bs. Op.bytes bs) r)
    (cond (eqb t 2) (payload_in 2 (λ bs. Op.hash bs) r) (cond (eqb t 3) (blocks_in r) Read.damaged)))

-- ---- a whole delta
pub data Delta : Type 0 where
  end : Delta
  damaged : Delta
  next : Op → Delta → Delta

abbrev pub after : Read → (ℕ → Delta) → Delta
after Read.damaged f = Delta.damaged
after (Read.one o k) f = Delta.next o (f k)

-- the operations after k bytes, which are an operation's operands
unfoldable pub delta_from : ℕ → List ℕ → Delta
delta_from zero [] = Delta.end
delta_from zero (t ∷ r) = after (operation_of t r) (λ k. delta_from k r)
delta_from (suc k) [] = Delta.end
delta_from (suc k) (b ∷ r) = delta_from k r

abbrev pub delta_of : List ℕ → Delta
delta_of d = delta_from 0 d

-- ---- an operation, by its place in the delta
abbrev pub step : Operation → ℕ → Step
step o n = record { operation = o; next = n }

-- the operation whose type byte is at a place: a payload by where it stands
unfoldable pub placed : ℕ → Read → Result Step Refusal
placed at Read.damaged = Err Refusal.Damaged
placed at (Read.one (Op.block i) k) = Ok (step (Operation.Block i) (at + 1 + k))
placed at (Read.one (Op.bytes bs) k) = Ok (step (Operation.Data (span (at + 5) (length bs))) (at + 1 + k))
placed at (Read.one (Op.hash bs) k) = Ok (step (Operation.Hash (span (at + 3) (length bs))) (at + 1 + k))
placed at (Read.one (Op.blocks i n) k) = Ok (step (Operation.Blocks i n) (at + 1 + k))

unfoldable pub step_of : List ℕ → ℕ → Result Step Refusal
step_of d at =
    cond (ltb limit (length d)) (Err Refusal.TooLong)
    (cond (ltb at (length d)) (placed at (operation_of (get_or d at 0) (drop (at + 1) d))) (Ok (step Operation.End at)))

-- ---- what the functions under them answer
-- the place after n bytes of operands
abbrev pub past_of : ℕ → ℕ → List ℕ → Result ℕ Refusal
past_of at n r = cond (leb n (length r)) (Ok (at + 1 + n)) (Err Refusal.Damaged)

-- where a payload stands
unfoldable pub payload_at : ℕ → ℕ → List ℕ → Result Span Refusal
payload_at at k r =
    let n = field_in r 0 k in
    cond (leb (k + n) (length r)) (Ok (span (at + 1 + k) n)) (Err Refusal.Damaged)
