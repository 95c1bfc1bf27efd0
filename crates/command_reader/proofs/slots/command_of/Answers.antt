use mathlib.Core.Path.{◌∙◌, ap}
use Rattle.command.specs.Slots.{action_of, file_type_of, transmission_of, command_of}
use Rattle.command.specs.declared.Slot.{Slot}
use Rattle.command_reader.proofs.slots.command_of.Goals as goal

pub returns : goal.returns
unfolding command_of
returns c =
    λ i. record {
      action = (c.from.ensures ∙ ap (λ (s : Slot). action_of s.number.magnitude) c.held.ensures) i;
      file_type = (c.from-2.ensures ∙ ap (λ (s : Slot). file_type_of s.number.magnitude) c.held-2.ensures) i;
      transmission = (c.from-3.ensures ∙ ap (λ (s : Slot). transmission_of s.number.magnitude) c.held-3.ensures) i;
      id = (c.held-4.ensures i).place;
      file_id = (c.held-5.ensures i).place;
      bypass = (c.held-6.ensures i).place;
      quiet = (c.held-7.ensures i).number.magnitude;
      modified = (c.held-8.ensures i).number;
      permissions = (c.held-9.ensures i).number;
      size = (c.held-10.ensures i).number;
      name = (c.held-11.ensures i).place;
      status = (c.held-12.ensures i).place;
      parent = (c.held-13.ensures i).place;
      payload = (c.held-14.ensures i).place;
    }
