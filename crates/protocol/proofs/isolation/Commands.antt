-- A command by its values: the request that it makes, and what is said of it, do not hang on places in text and scratch.
use Prim.Native.Nat.{ℕ, ◌+◌}
use mathlib.Core.Path.{◌≡◌, refl}
use mathlib.Core.Bool.{Bool, true, false}
use mathlib.Core.List.{List}
use native.Mathlib.Omega.{arith}
use lib.ListN.{length}
use lib.Seq.{take-length}
use borrow.Author.Tests.{le-leb}
use Rattle.octets.specs.Slices.{part_of}
use Rattle.command.specs.Meaning.{data_of}
use Rattle.command.specs.Slots.{action_of, file_type_of, transmission_of, slots_of, values_of}
use Rattle.command.specs.Slots as Slots
use Rattle.command.specs.declared.Place.{Place}
use Rattle.command.specs.declared.Action.{Action}
use Rattle.command.specs.declared.FileType.{FileType}
use Rattle.command.specs.declared.Transmission.{Transmission}
use Rattle.command.specs.declared.Command.{Command as PlacedCommand}
use Rattle.protocol.specs.Change.{told_by}
use Rattle.protocol.specs.Files.{Request, is_directory, open_due}
use Rattle.protocol.specs.Sessions.{string_in, request_in}
use Rattle.protocol.specs.Cuts.{saying}
use Rattle.protocol.specs.declared.Session.{Session}
use Rattle.protocol.specs.declared.News.TheVariants as News
use Rattle.protocol.specs.declared.Change.{Change}
use Rattle.protocol.proofs.Means.{string-means}
use Rattle.protocol.proofs.Tellings.{plain}
use Rattle.protocol.proofs.Ways.{Way, nothing, dropped, open_asked, part_failed, write_asked, commit_asked, path_named, last_named}
use Rattle.protocol.proofs.Ways.{request_asked}
use Rattle.protocol.proofs.isolation.Alone.{whole, request_from, quiet_from}

-- ---- the command by its values
pub action-back : (a : Action) → action_of (Slots.action_code a) ≡ a
unfolding action_of
action-back Action.None = refl
action-back Action.Send = refl
action-back Action.Receive = refl
action-back Action.File = refl
action-back Action.Data = refl
action-back Action.EndData = refl
action-back Action.Finish = refl
action-back Action.Cancel = refl
action-back Action.Status = refl

type-back : (f : FileType) → file_type_of (Slots.file_type_code f) ≡ f
unfolding file_type_of
type-back FileType.Regular = refl
type-back FileType.Directory = refl
type-back FileType.Symlink = refl
type-back FileType.Link = refl

transmission-back : (x : Transmission) → transmission_of (Slots.transmission_code x) ≡ x
unfolding transmission_of
transmission-back Transmission.Simple = refl
transmission-back Transmission.Rsync = refl

pub request-from : (c : PlacedCommand) (text scratch : List ℕ) → c.payload.len ≡ length (data_of (values_of c text scratch))
    → request_in c text scratch ≡ request_from (values_of c text scratch)
unfolding values_of slots_of
request-from c text scratch long =
    rw (
      string-means text c.file_id,
      string-means scratch c.name,
      ← long,
      action-back c.action,
      type-back c.file_type,
      transmission-back c.transmission,
    )

pub quiet-from : (c : PlacedCommand) (text scratch : List ℕ) → c.quiet ≡ quiet_from (values_of c text scratch)
unfolding values_of slots_of
quiet-from c text scratch = refl

-- a payload by itself
pub whole-string : (p : List ℕ) → string_in p (whole p) ≡ p
unfolding part_of
whole-string p = rw (le-leb (0 + length p) (length p) (omega arith)) (take-length p)

-- ---- what is said, by the payload
pub way-said : (s : Session) (q : Request) {c : Change} → Way s q c → (p p' : Place) (scratch scratch' : List ℕ)
    → string_in scratch p ≡ string_in scratch' p' → saying (told_by p c.news) scratch ≡ saying (told_by p' c.news) scratch'
way-said s q (nothing w r e _ _ _) p p' scratch scratch' x = (plain w e).same scratch scratch'
way-said s q (dropped w r e _) p p' scratch scratch' x = (plain w e).same scratch scratch'
way-said s q (open_asked j _ _ _) p p' scratch scratch' x = go (is_directory q.type)
  where
    go : (b : Bool) → saying (told_by p (News.Asks (open_due b j))) scratch ≡ saying (told_by p' (News.Asks (open_due b j))) scratch'
    go true = refl
    go false = refl
way-said s q (part_failed j w _ _) p p' scratch scratch' x = refl
way-said s q (write_asked true j _ _ _ _ _) p p' scratch scratch' x = rw x
way-said s q (write_asked false j _ _ _ _ _) p p' scratch scratch' x = rw x
way-said s q (commit_asked _ _ _) p p' scratch scratch' x = refl
way-said s q (path_named j _ _) p p' scratch scratch' x = refl
way-said s q (last_named _ _) p p' scratch scratch' x = refl
way-said s q (request_asked _ _) p p' scratch scratch' x = refl
