-- A command of the sender, as the receiver reads it: what the session rule sees of it.
use Prim.Native.Nat.{ℕ}
use mathlib.Core.Path.{◌≡◌, refl, sym, ap, ◌∙◌}
use mathlib.Core.List.{List, []}
use native.Mathlib.Omega.{arith}
use lib.ListN.{length, get_or}
use lib.Dec.{lit≤}
use Rattle.command.specs.Values.{Value, count}
use Rattle.command.specs.Meaning.{Meaning, meaning_of, number_in, bytes_in, data_of}
use Rattle.command.specs.Slots.{action_code, action_of, file_type_code, file_type_of, transmission_code, transmission_of}
use Rattle.command.specs.Slots.{slots_of, values_of}
use Rattle.command.specs.Read.{Answer, read_of}
use Rattle.command.specs.declared.Action.{Action}
use Rattle.command.specs.declared.FileType.{FileType}
use Rattle.command.specs.declared.Transmission.{Transmission}
use Rattle.command.specs.declared.Command.{Command as PlacedCommand}
use Rattle.command.proofs.Simulation.{read-means}
use Rattle.protocol.specs.Written.{values_with}
use Rattle.protocol.specs.Sessions.{string_in, id_in, file_id_in, request_in}
use Rattle.protocol.specs.Files.{Request, request}
use Rattle.protocol.proofs.Means.{Read, command, refused, string-means, text-read}
use Rattle.protocol.proofs.CutsRun.{zeros}

-- ---- a command of the sender, as it is read
-- what the reading of a text with those values answers
pub record Reading (text : List ℕ) (d : List Value) : Type 0 where
  pub command : PlacedCommand
  pub answer : (read_of text zeros).answer ≡ Answer.read command
  pub values : values_of command text (read_of text zeros).buffer ≡ d
  pub long : command.payload.len ≡ length (data_of d)

-- a text that means a command is read as one
pub meant-reading : (text : List ℕ) (d : List Value) → meaning_of text ≡ Meaning.command d → Reading text d
meant-reading text d e = go refl e (text-read text zeros (lit≤ tt))
  where
    after : List ℕ
    after = (read_of text zeros).buffer

    same : {x y : List Value} → Meaning.command x ≡ Meaning.command y → x ≡ y
    same q = cc

    go : {a : Answer} {m : Meaning} → (read_of text zeros).answer ≡ a → m ≡ Meaning.command d → Read text after a m → Reading text d
    go q m (command {c} means) =
        let read : Meaning.command (values_of c text after) ≡ meaning_of text = rw q at (read-means text zeros (lit≤ tt)) in
        record {
          command = c;
          answer = q;
          values = same (read ∙ e);
          long = means.long ∙ ap (λ (v : List Value). length (data_of v)) (same m);
        }
    go q m (refused r) = let z : ◌≡◌ {A = ℕ} 0 1 = cc in absurd (omega arith)

-- words by their codes
action-of : (a : Action) → action_of (action_code a) ≡ a
unfolding action_of
action-of Action.None = refl
action-of Action.Send = refl
action-of Action.Receive = refl
action-of Action.File = refl
action-of Action.Data = refl
action-of Action.EndData = refl
action-of Action.Finish = refl
action-of Action.Cancel = refl
action-of Action.Status = refl

type_of : (t : FileType) → file_type_of (file_type_code t) ≡ t
unfolding file_type_of
type_of FileType.Regular = refl
type_of FileType.Directory = refl
type_of FileType.Symlink = refl
type_of FileType.Link = refl

transmission-of : (t : Transmission) → transmission_of (transmission_code t) ≡ t
unfolding transmission_of
transmission-of Transmission.Simple = refl
transmission-of Transmission.Rsync = refl

-- what the session rule is asked for by it
abbrev pub wanted : Action → (size long : ℕ) (file name : List ℕ) → Request
wanted a size long file name =
    record {
      action = a;
      type = FileType.Regular;
      transmission = Transmission.Simple;
      permissions = count 0;
      size = count size;
      file = file;
      name = name;
      long = long;
    }

same-request : (c : PlacedCommand) (a : Action) (size n : ℕ) (f g name name' : List ℕ) → c.action ≡ a → c.file_type ≡ FileType.Regular
    → c.transmission ≡ Transmission.Simple → c.permissions ≡ count 0 → c.size ≡ count size → c.payload.len ≡ n → f ≡ g → name ≡ name'
    → request c f name ≡ wanted a size n g name'
same-request c a size n f g name name' e₀ e₁ e₂ e₃ e₄ e₅ e₆ e₇ = rw (e₀, e₁, e₂, e₃, e₄, e₅, e₆, e₇)

module _ {text : List ℕ} (a : Action) (id file : List ℕ) (size : ℕ) (name contents : List ℕ)
    (r : Reading text (values_with a id file size name [] contents)) where
  abbrev c : PlacedCommand
  c = r.command

  abbrev after : List ℕ
  after = (read_of text zeros).buffer

  numbers : (n : ℕ) → number_in (get_or (values_of c text after) n Value.outside)
      ≡ number_in (get_or (values_with a id file size name [] contents) n Value.outside)
  numbers n = ap (λ (v : List Value). number_in (get_or v n Value.outside)) r.values

  strings : (n : ℕ) → bytes_in (get_or (values_of c text after) n Value.outside)
      ≡ bytes_in (get_or (values_with a id file size name [] contents) n Value.outside)
  strings n = ap (λ (v : List Value). bytes_in (get_or v n Value.outside)) r.values

  pub read-action : c.action ≡ a
  unfolding values_of slots_of
  read-action = sym (action-of c.action) ∙ ap (λ (n : ℕ). action_of n) (ap (λ x. x.magnitude) (numbers 0)) ∙ action-of a

  read-type : c.file_type ≡ FileType.Regular
  unfolding values_of slots_of file_type_of
  read-type = sym (type_of c.file_type) ∙ ap (λ (n : ℕ). file_type_of n) (ap (λ x. x.magnitude) (numbers 2))

  read-transmission : c.transmission ≡ Transmission.Simple
  unfolding values_of slots_of transmission_of
  read-transmission = sym (transmission-of c.transmission) ∙ ap (λ (n : ℕ). transmission_of n) (ap (λ x. x.magnitude) (numbers 3))

  read_name : string_in after c.name ≡ name
  unfolding values_of slots_of
  read_name = string-means after c.name ∙ strings 11

  -- the session's id, the quiet that a send gives it, and the part that is handed over
  pub read-id : id_in c text ≡ id
  unfolding values_of slots_of
  read-id = string-means text c.id ∙ strings 4

  read-file : file_id_in c text ≡ file
  unfolding values_of slots_of
  read-file = string-means text c.file_id ∙ strings 5

  pub read-quiet : c.quiet ≡ 0
  unfolding values_of slots_of
  read-quiet = ap (λ x. x.magnitude) (numbers 7)

  pub read-part : string_in after c.payload ≡ contents
  unfolding values_of slots_of
  read-part = string-means after c.payload ∙ strings 14

  read-permissions : c.permissions ≡ count 0
  unfolding values_of slots_of
  read-permissions = numbers 9

  read-size : c.size ≡ count size
  unfolding values_of slots_of
  read-size = numbers 10

  pub read-request : request_in c text after ≡ wanted a size (length contents) file name
  read-request =
      same-request c a size (length contents) (file_id_in c text) file (string_in after c.name) name
      read-action read-type read-transmission read-permissions read-size r.long read-file read_name
