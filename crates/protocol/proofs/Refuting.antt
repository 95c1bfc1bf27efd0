-- How a claim is refuted of a machine: a list of calls from a fresh receiver, and a test that computes to false at its end.
use Prim.Native.Nat.{ℕ, zero, suc, ◌≤◌}
use mathlib.Core.Path.{◌≡◌, refl, sym, ap, ◌∙◌}
use mathlib.Core.Bool.{Bool, true, false, not, cond, ◌&&◌, ◌||◌}
use mathlib.Core.Logic.{◌⊎◌, inl, inr}
use mathlib.Core.List.{List, [], ◌∷◌, ◌++◌}
use native.Mathlib.Omega.{arith}
use lib.ListN.{length, take, drop, get_or, replicate}
use lib.Dec.{eqb}
use borrow.Author.Tests.{eq-eqb, eqb-false}
use Rattle.std.specs.Prelude.{Option, Some, None}
use Rattle.octets.specs.Members.{every}
use Rattle.octets.specs.Slices.{equals}
use Rattle.octets.proofs.Below.{both_test}
use Rattle.octets.specs.Ascii.{ascii}
use Rattle.octets.specs.Outcome.{Outcome}
use Rattle.decimal.specs.declared.Number.{Number}
use Rattle.frames.specs.Stream.{text_limit}
use Rattle.command.specs.Meaning.{Meaning, meaning_of, size_of}
use Rattle.command.specs.Read.{scratch_room}
use Rattle.command.specs.Framed.{frame_room}
use Rattle.protocol.specs.Table.{no_file, no_session, session_at, is_done}
use Rattle.protocol.specs.Replies.{reply_room}
use Rattle.protocol.specs.Supplies.{Supply}
use Rattle.protocol.specs.History.{Command, Heard, Mark, Part, marks_of, Question, last_ask}
use Rattle.protocol.specs.Stretches.{Key, is_for, is_file, is_directory, declared_in, Stretch, since, parts, contents, start_stands}
use Rattle.protocol.specs.Stretches.{AllStand}
use Rattle.protocol.specs.Supplied.{written_parts, supplied_parts}
use Rattle.protocol.specs.Machine.{Machine, Call, World, is_refused, Lent, step, start}
use Rattle.protocol.specs.Claim.{done_as, key_in, LastPartAsked, DirectoryAsked, ClosingReply, ClosedWhole, TurnedDone}
use Rattle.protocol.specs.Claim.{Right, Everywhere, EveryHistory}
use Rattle.protocol.specs.Sound.{Sound, EverySound}
use Rattle.protocol.specs.Cuts.{AllLent, after}
use Rattle.protocol.specs.declared.FileState.{FileState}
use Rattle.protocol.specs.declared.FileRecord.{FileRecord}
use Rattle.protocol.specs.declared.Session.{Session}
use Rattle.protocol.specs.declared.Table.{Table}
use Rattle.protocol.specs.declared.Failure.TheVariants as Failure
use Rattle.protocol.specs.declared.Answered.{Answered}
use Rattle.protocol.proofs.Laws.{no_way, equals-same}
use Rattle.protocol.proofs.Done.{NoneDone}
use Rattle.protocol.proofs.Puts.{none-closes}
use Rattle.protocol.proofs.SoundCalls.{sound-after}

-- ---- a list of calls: every feed is lent the world's carry, and the other buffers are all alike
unfoldable pub carry₀ : List ℕ
carry₀ = replicate text_limit 0

unfoldable pub scratch₀ : List ℕ
scratch₀ = replicate scratch_room 0

unfoldable pub reply₀ : List ℕ
reply₀ = replicate reply_room 0

unfoldable pub out₀ : List ℕ
out₀ = replicate frame_room 0

pub data Deed : Type 0 where
  feed : List ℕ → Deed
  allow : List ℕ → Deed
  done : Deed
  dropped : List ℕ → Deed
  failed : Deed
  supply : Supply → Deed
  -- lent no byte to reply with
  allow_short : List ℕ → Deed

abbrev pub call_of : World → Deed → Call
call_of w (Deed.feed piece) = Call.feed piece w.carry scratch₀ reply₀
call_of w (Deed.allow id) = Call.allow id reply₀
call_of w Deed.done = Call.done reply₀
call_of w (Deed.dropped id) = Call.drop id
call_of w Deed.failed = Call.failed Failure.Eio reply₀
call_of w (Deed.supply u) = Call.supply u out₀
call_of w (Deed.allow_short id) = Call.allow id []

lent : (m : Machine) (w : World) (c : Deed) → Lent m w (call_of w c)
lent m w (Deed.feed piece) = λ _. refl
lent m w (Deed.allow id) = tt
lent m w Deed.done = tt
lent m w (Deed.dropped id) = tt
lent m w Deed.failed = tt
lent m w (Deed.supply u) = tt
lent m w (Deed.allow_short id) = tt

module _ (m : Machine) where
  abbrev pub calls : World → List Deed → List Call
  calls w [] = []
  calls w (c ∷ cs) = call_of w c ∷ calls (step m w (call_of w c)) cs

  pub all-lent : (w : World) (cs : List Deed) → AllLent m w (calls w cs)
  all-lent w [] = tt
  all-lent w (c ∷ cs) = (lent m w c, all-lent (step m w (call_of w c)) cs)

  -- the world after them, and what the claim says of the call after that
  abbrev afterwards : World → List Deed → World
  afterwards w cs = after m w (calls w cs)

  right-after : (w : World) (cs : List Deed) (d : Deed) → Everywhere m w (calls w (cs ++ (d ∷ [])))
      → Right m (afterwards w cs) (call_of (afterwards w cs) d)
  right-after w [] d e = (e (lent m w d)).0
  right-after w (c ∷ cs) d e = right-after (step m w (call_of w c)) cs d (e (lent m w c)).1

  abbrev pub after_all : List Deed → World
  after_all cs = afterwards (start carry₀) cs

  right-at : (cs : List Deed) (d : Deed) → EveryHistory m → Right m (after_all cs) (call_of (after_all cs) d)
  right-at cs d claim = right-after (start carry₀) cs d (claim carry₀ (calls (start carry₀) (cs ++ (d ∷ []))))

  -- and that the table is sound
  pub sound-at-last : (cs : List Deed) → EverySound m → Sound (after_all cs).receiver.table
  sound-at-last cs claim = sound-after m (start carry₀) (calls (start carry₀) cs) (claim carry₀ (calls (start carry₀) cs))

-- the marks after one call more
abbrev pub marks_with : Machine → List Deed → Deed → List Mark
marks_with m cs d = marks_of (step m (after_all m cs) (call_of (after_all m cs) d)).history

-- ---- a part is handed over where none may be, or something is asked for or written
abbrev pub HandsBadly : Machine → List Deed → Deed → Type 0
HandsBadly m cs d = AllStand (marks_with m cs d) → ⊥

pub hands-badly : (m : Machine) (cs : List Deed) (d : Deed) → HandsBadly m cs d → EveryHistory m → ⊥
hands-badly m cs d h claim = h (right-at m cs d claim).parts_stand

abbrev pub key : Key
key = record { id = ascii "m"; file = ascii "a" }

-- ---- what is written is not what was supplied
abbrev same_parts : List Part → List Part → Bool
same_parts [] [] = true
same_parts [] (q ∷ qs) = false
same_parts (p ∷ ps) [] = false
same_parts (p ∷ ps) (q ∷ qs) =
    (cond p.last q.last (not q.last) && equals p.bytes q.bytes) && same_parts ps qs

same_parts_lem : (ps : List Part) → same_parts ps ps ≡ true
same_parts_lem [] = refl
same_parts_lem (p ∷ ps) = rw (same-last p.last, equals-same p.bytes p.bytes refl) (same_parts_lem ps)
  where
    same-last : (b : Bool) → cond b b (not b) ≡ true
    same-last true = refl
    same-last false = refl

abbrev pub SuppliesBadly : Machine → List Deed → Deed → Type 0
SuppliesBadly m cs d = let x = marks_with m cs d in same_parts (written_parts key x) (supplied_parts key x) ≡ false

pub supplies-badly : (m : Machine) (cs : List Deed) (d : Deed) → SuppliesBadly m cs d → EveryHistory m → ⊥
supplies-badly m cs d h claim =
    let x = marks_with m cs d in
    let e : written_parts key x ≡ supplied_parts key x = (right-at m cs d claim).supplies key in
    no_way (sym (same_parts_lem (supplied_parts key x)) ∙ (rw e at h))

-- ---- no record of a table is done
abbrev undone : FileRecord → Bool
undone f = not (is_done f.state)

abbrev pub none_done : Table → Bool
none_done t = every (λ (s : Session). every undone s.files) t.sessions

every-at : {A : Type 0} (p : A → Bool) (d : A) → p d ≡ true → (l : List A) → every p l ≡ true → (i : ℕ) → p (get_or l i d) ≡ true
unfolding every
every-at p d h [] e i = h
every-at p d h (x ∷ xs) e zero = (both_test (p x) (every p xs) e).0
every-at p d h (x ∷ xs) e (suc i) = every-at p d h xs (both_test (p x) (every p xs) e).1 i

none_done_lem : (t t' : Table) → none_done t' ≡ true → NoneDone t t'
unfolding every
none_done_lem t t' e i j q =
    let here = every-at (λ (s : Session). every undone s.files) no_session refl t'.sessions e i in
    no_way (sym (every-at undone no_file refl (session_at t' i).files here j) ∙ ap (λ (g : FileState). not (is_done g)) q)

-- ---- a file closes that is not whole: the claim's words as tests
-- the open of a directory
abbrev opens_directory : Key → Question → Bool
opens_directory k Question.none = false
opens_directory k (Question.asks d Heard.opens) = is_file d && (is_directory d && is_for k d)
opens_directory k (Question.asks d (Heard.writes p)) = false
opens_directory k (Question.asks d (Heard.writes_last p)) = false
opens_directory k (Question.asks d Heard.commits) = false
opens_directory k (Question.asks d Heard.requests) = false

abbrev is_directory_done : Key → List Mark → Bool
is_directory_done k m = not (start_stands k (since k m)) && opens_directory k (last_ask m)

directory-done : (k : Key) (m : List Mark) → DirectoryAsked k m → is_directory_done k m ≡ true
directory-done k m d = rw (d.unstarted, d.asked, d.action, d.directory) d.for_it

-- the last part
abbrev asks_last : Key → Question → Bool
asks_last k Question.none = false
asks_last k (Question.asks d Heard.opens) = false
asks_last k (Question.asks d (Heard.writes p)) = false
asks_last k (Question.asks d (Heard.writes_last p)) = is_for k d
asks_last k (Question.asks d Heard.commits) = false
asks_last k (Question.asks d Heard.requests) = false

last-asked : (k : Key) (q : Question) → LastPartAsked k q → asks_last k q ≡ true
last-asked k q l = rw l.asked l.for_it

-- the declared length, where there is one
abbrev is_declared : (d n : ℕ) → Bool
is_declared d n = eqb d 0 || eqb n d

is_declared_lem : (d n : ℕ) → (1 ≤ d → n ≡ d) → is_declared d n ≡ true
is_declared_lem d n h = go (eqb d 0) refl
  where
    go : (b : Bool) → eqb d 0 ≡ b → (b || eqb n d) ≡ true
    go true e = refl
    go false e = let some : d ≡ 0 → ⊥ = eqb-false d 0 e in eq-eqb n d (h (omega arith))

-- start, parts, contents, count and declared length
abbrev is_whole : Key → Option Stretch → ℕ → Bool
is_whole k None n = false
is_whole k (Some s) n =
    equals (parts k s.marks) (contents k s.marks) &&
    (eqb n (length (contents k s.marks)) && is_declared (declared_in s.command) n)

-- the reply's size: its frame taken off, its text read
abbrev inner : List ℕ → List ℕ
inner [] = []
inner (a ∷ []) = []
inner (a ∷ b ∷ []) = []
inner (a ∷ b ∷ c ∷ l) = a ∷ inner (b ∷ c ∷ l)

inner-append : (t : List ℕ) → inner (t ++ 0x1B ∷ 0x5C ∷ []) ≡ t
inner-append [] = refl
inner-append (a ∷ []) = refl
inner-append (a ∷ b ∷ []) = refl
inner-append (a ∷ b ∷ c ∷ t) = ap (λ (r : List ℕ). a ∷ r) (inner-append (b ∷ c ∷ t))

abbrev size_meant : Meaning → ℕ
size_meant (Meaning.command c) = (size_of c).magnitude
size_meant (Meaning.refused n) = 0

abbrev size_sent : Outcome Answered → ℕ
size_sent a = size_meant (meaning_of (inner (drop 2 (take a.answer.reply_len a.buffer))))

size-sent : (k : Key) (s : ℕ) (a : Outcome Answered) → ClosingReply k s 0 a → size_sent a ≡ s
size-sent k s a r = rw (r.sent refl, inner-append r.text, r.reads) (ap (λ (n : Number). n.magnitude) r.size)

either-right : (b : Bool) → (b || true) ≡ true
either-right true = refl
either-right false = refl

module _ (m : Machine) (cs : List Deed) where
  abbrev w : World
  w = after_all m cs

  abbrev w' : World
  w' = step m w (Call.done reply₀)

  -- what `TurnedDone` asks of file a, closed with count n
  abbrev pub turns_right : ℕ → Bool
  turns_right n =
      is_directory_done key (marks_of w.history) ||
      (asks_last key (last_ask (marks_of w.history)) &&
      (is_whole key (since key (marks_of w'.history)) n && eqb (size_sent (m.dones w.receiver reply₀)) n))

  -- the file a closes at a done, in a session that is not quiet
  pub record ClosesBadly : Type 0 where
    pub count : ℕ
    pub before : done_as key count 0 w.receiver.table ≡ 0
    pub after : done_as key count 0 w'.receiver.table ≡ 1
    pub wrong : turns_right count ≡ false

  abbrev reply_in : Call → List ℕ
  reply_in (Call.feed piece carry scratch reply) = []
  reply_in (Call.allow id reply) = []
  reply_in (Call.deny id reply) = []
  reply_in (Call.drop id) = []
  reply_in (Call.done reply) = reply
  reply_in (Call.failed code reply) = []
  reply_in (Call.unlisted reply) = []
  reply_in (Call.supply u out) = []

  turns-right : (n : ℕ) → DirectoryAsked key (marks_of w.history) ⊎ ClosedWhole m w reply₀ key n 0 → turns_right n ≡ true
  turns-right n (inl d) = rw (directory-done key (marks_of w.history) d)
  turns-right n (inr c) =
      let sent = eq-eqb _ _ (size-sent key n _ c.replied) in
      let declared = is_declared_lem _ n c.declared in
      rw (last-asked key _ c.last_part, c.started, equals-same _ _ c.joined, eq-eqb _ _ c.counted, declared, sent)
      (either-right (is_directory_done key (marks_of w.history)))

  pub closes-badly : ClosesBadly → EveryHistory m → ⊥
  closes-badly b claim = no_way (sym (turns-right b.count (rw (← (ap reply_in turned.by_done)) at turned.right)) ∙ b.wrong)
    where
      turned : TurnedDone m w (Call.done reply₀) key b.count 0
      turned = (right-at m cs Deed.done claim).closes key b.count 0 (rw (b.before, b.after) (omega arith))

  -- a last part is answered done, and no file is done after it
  pub record StaysOpen (d : Command) (p : List ℕ) : Type 0 where
    pub asked : last_ask (marks_of w.history) ≡ Question.asks d (Heard.writes_last p)
    pub taken : is_refused (m.dones w.receiver reply₀).answer.told ≡ false
    pub after : none_done w'.receiver.table ≡ true

  pub stays_open : {d : Command} {p : List ℕ} → StaysOpen d p → EveryHistory m → ⊥
  stays_open {d} {p} b claim =
      let c = (right-at m cs Deed.done claim).closed d p reply₀ b.asked refl b.taken in
      let t = w.receiver.table in
      let t' = w'.receiver.table in
      none-closes t t' (key_in d) c.count c.quiet (none_done_lem t t' b.after) c.closes
