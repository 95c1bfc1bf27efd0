-- What a start's contents are: settled at the pair's next start, and of the latest start what demand 3 has of the pair since.
use Prim.Native.Nat.{ℕ}
use mathlib.Core.Path.{◌≡◌, refl, ap, sym, ◌∙◌, subst}
use mathlib.Core.Bool.{Bool, true, false, cond, ◌&&◌}
use mathlib.Core.List.{List, [], ◌∷◌, ◌++◌, append_assoc, append-nil}
use Rattle.std.specs.Prelude.{Option, Some, None}
use Rattle.protocol.specs.History.{Command, Heard, Question, Mark}
use Rattle.protocol.specs.Stretches.{Key, is_for, is_file, is_regular, part_for, Stretch, start_at, onward, start_or, since, parts}
use Rattle.hearing.specs.Hearing.{Place, Happening}
use Rattle.windows.specs.Compare.{same_key, contents_of, starts_of}
use Rattle.hearing.specs.Laws.{nowhere, key_in, happened_by, happened_in}
use Rattle.windows.specs.Laws.{starts_among, EachStart, of_key, contents_for, SettledContents}
use Rattle.windows.specs.Laws.{last_of, claimed_parts, ClaimedContents}
use Rattle.windows.proofs.KeyLaws.{by_test, key_refl, key-sound}

-- ---- settled at the pair's next start
contents-settled : (k : Key) (p : Place) (hs ms : List Happening)
    → contents_of k (hs ++ Happening.starts k p ∷ ms) ≡ contents_of k hs
unfolding contents_of
contents-settled k p [] ms = rw (key_refl k)
contents-settled k p (Happening.starts j q ∷ hs) ms = rw (contents-settled k p hs ms)
contents-settled k p (Happening.hands j b ∷ hs) ms = rw (contents-settled k p hs ms)

pub settled-contents : SettledContents starts_of
unfolding starts_of of_key
settled-contents [] ms k p = refl
settled-contents (Happening.starts j q ∷ hs) ms k p =
    by_test (same_key k j)
    (λ e. rw (e, ← key-sound k j e, contents-settled k p hs ms, settled-contents hs ms k p))
    (λ e. rw (e, settled-contents hs ms k p))
settled-contents (Happening.hands j b ∷ hs) ms k p = settled-contents hs ms k p

-- ---- the latest contents of a pair, one happening after another
-- a part more, if the pair has started
abbrev further : List ℕ → Option (List ℕ) → Option (List ℕ)
further b None = None
further b (Some c) = Some (c ++ b)

abbrev next : Key → Option (List ℕ) → Happening → Option (List ℕ)
next k o (Happening.starts j p) = cond (same_key k j) (Some []) o
next k o (Happening.hands j b) = cond (same_key k j) (further b o) o

abbrev latest : Key → Option (List ℕ) → List Happening → Option (List ℕ)
latest k o [] = o
latest k o (h ∷ hs) = latest k (next k o h) hs

latest-append : (k : Key) (o : Option (List ℕ)) (hs ms : List Happening) → latest k o (hs ++ ms) ≡ latest k (latest k o hs) ms
latest-append k o [] ms = refl
latest-append k o (h ∷ hs) ms = latest-append k (next k o h) hs ms

-- that is the last of its contents, by either name of the pair
by-name : (k j : Key) (hs : List Happening) → k ≡ j
    → latest k (Some []) hs ≡ last_of (contents_of k hs ∷ contents_for k (starts_of hs))
    → latest k (Some []) hs ≡ last_of (contents_of j hs ∷ contents_for k (starts_of hs))
by-name k j hs e =
    subst (λ (i : Key). latest k (Some []) hs ≡ last_of (contents_of i hs ∷ contents_for k (starts_of hs))) e

-- after a start that has some parts already, and from the beginning
latest-since : (k : Key) (c : List ℕ) (hs : List Happening)
    → latest k (Some c) hs ≡ last_of ((c ++ contents_of k hs) ∷ contents_for k (starts_of hs))
unfolding contents_of starts_of of_key
latest-since k c [] = rw (append-nil c)
latest-since k c (Happening.starts j p ∷ hs) =
    by_test (same_key k j) (λ e. rw e (by-name k j hs (key-sound k j e) (latest-since k [] hs)))
    (λ e. rw e (latest-since k c hs))
latest-since k c (Happening.hands j b ∷ hs) =
    by_test (same_key k j) (λ e. rw (e, ← append_assoc c b (contents_of k hs)) (latest-since k (c ++ b) hs))
    (λ e. rw e (latest-since k c hs))

latest-last : (k : Key) (hs : List Happening) → latest k None hs ≡ last_of (contents_for k (starts_of hs))
unfolding starts_of of_key
latest-last k [] = refl
latest-last k (Happening.starts j p ∷ hs) =
    by_test (same_key k j) (λ e. rw e (by-name k j hs (key-sound k j e) (latest-since k [] hs)))
    (λ e. rw e (latest-last k hs))
latest-last k (Happening.hands j b ∷ hs) = by_test (same_key k j) (λ e. rw e (latest-last k hs)) (λ e. rw e (latest-last k hs))

-- ---- and one mark after another
-- what demand 3 has of the pair after a mark, by what it had before
abbrev claimed_after : Key → Mark → Option Stretch → Option (List ℕ)
claimed_after k x o = claimed_parts k (start_or (start_at k x) (onward x o))

-- a mark that hands over nothing for the pair, as an answer done to another ask does
onward-same : (k : Key) (x : Mark) (o : Option Stretch) → ((l : List Mark) → parts k (x ∷ l) ≡ parts k l)
    → claimed_parts k o ≡ claimed_parts k (onward x o)
onward-same k x None e = refl
onward-same k x (Some t) e = ap Some (sym (e t.marks))

done-same : (k : Key) (q : Question) (o : Option Stretch) → part_for k q ≡ []
    → claimed_parts k o ≡ claimed_parts k (onward (Mark.answer true q) o)
done-same k q o e = onward-same k _ o (λ l. rw e (append-nil (parts k l)))

-- an open answered done, by what its command is
opened : (k : Key) (c : Command) (o : Option Stretch) (file regular : Bool)
    → latest k (claimed_parts k o) (cond (file && regular) (Happening.starts (key_in c) nowhere ∷ []) [])
    ≡ claimed_parts k (start_or (cond (file && (regular && is_for k c)) (Some c) None)
    (onward (Mark.answer true (Question.asks c Heard.opens)) o))
opened k c o false regular = done-same k _ o refl
opened k c o true false = done-same k _ o refl
opened k c o true true = by_test (is_for k c) (λ e. rw e) (λ e. rw e (done-same k _ o refl))

-- a mark that hands over a part
handed : (k : Key) (c : Command) (p : List ℕ) (x : Mark) (o : Option Stretch)
    → ((l : List Mark) → parts k (x ∷ l) ≡ parts k l ++ cond (is_for k c) p [])
    → next k (claimed_parts k o) (Happening.hands (key_in c) p) ≡ claimed_parts k (onward x o)
handed k c p x None h = by_test (is_for k c) (λ e. rw e) (λ e. rw e)
handed k c p x (Some t) h =
    rw (h t.marks) (by_test (is_for k c) (λ e. rw e) (λ e. rw (e, append-nil (parts k t.marks))))

answered : (k : Key) (q : Question) (o : Option Stretch)
    → latest k (claimed_parts k o) (happened_by q) ≡ claimed_after k (Mark.answer true q) o
answered k Question.none o = done-same k _ o refl
answered k (Question.asks c Heard.opens) o = opened k c o (is_file c) (is_regular c)
answered k (Question.asks c (Heard.writes p)) o = handed k c p _ o (λ l. refl)
answered k (Question.asks c (Heard.writes_last p)) o = handed k c p _ o (λ l. refl)
answered k (Question.asks c Heard.commits) o = done-same k _ o refl
answered k (Question.asks c Heard.requests) o = done-same k _ o refl

latest_claimed : (k : Key) (m : List Mark) → latest k None (happened_in m) ≡ claimed_parts k (since k m)
latest_claimed k [] = refl
latest_claimed k (Mark.read c ∷ m) = latest_claimed k m ∙ onward-same k _ (since k m) (λ l. refl)
latest_claimed k (Mark.asked a ∷ m) = latest_claimed k m ∙ onward-same k _ (since k m) (λ l. refl)
latest_claimed k (Mark.allow i ∷ m) = latest_claimed k m ∙ onward-same k _ (since k m) (λ l. refl)
latest_claimed k (Mark.drop i ∷ m) = latest_claimed k m ∙ onward-same k _ (since k m) (λ l. refl)
latest_claimed k (Mark.answer false q ∷ m) = latest_claimed k m ∙ onward-same k _ (since k m) (λ l. refl)
latest_claimed k (Mark.answer true q ∷ m) =
    latest-append k None (happened_in m) (happened_by q)
    ∙ ap (λ (o : Option (List ℕ)). latest k o (happened_by q)) (latest_claimed k m)
    ∙ answered k q (since k m)
latest_claimed k (Mark.wrote p bs ∷ m) = latest_claimed k m ∙ onward-same k _ (since k m) (λ l. refl)

pub claimed-contents : ClaimedContents starts_of
claimed-contents marks k = sym (latest-last k (happened_in marks)) ∙ latest_claimed k marks

-- ---- each start is there
pub each_start : EachStart starts_of
unfolding starts_of starts_among
each_start [] = refl
each_start (Happening.starts k p ∷ hs) = rw (each_start hs)
each_start (Happening.hands k b ∷ hs) = each_start hs
