use mathlib.Core.Path.{sym, ◌∙◌}
use native.Mathlib.Omega.{arith}
use Rattle.command_writer.proofs.Checks.{put-fault, put-fine, no-fault}
use Rattle.command_writer.proofs.Ways.{refused-missing, refused-room, written}
use Rattle.command_writer.proofs.write_measured.Goals as goal

pub returns-then-lacks : goal.returns-then-lacks
returns-then-lacks c =
    let a = c.args in
    let s = a.sources.now in
    let missing = sym c.lacks.ensures ∙ c.if-lacks.true in
    refused-missing a.command.now s.text.now s.scratch.now a.out.now c.requires.0 missing

pub returns-then-no_room : goal.returns-then-no_room
returns-then-no_room c =
    let a = c.args in
    let s = a.sources.now in
    let there = sym c.lacks.ensures ∙ c.if-lacks.false in
    let short = sym c.no_room.ensures ∙ c.if-no_room.true in
    refused-room a.command.now s.text.now s.scratch.now a.out.now c.requires.0 there a.n c.requires.1 short

-- no field is at fault
pub returns-in_err-put_fields : goal.returns-in_err-put_fields
returns-in_err-put_fields c =
    no-fault _ _ c.requires.0 (put-fault _ _ _ _ _ _ c.in_err-put_fields.field-0.0 c.in_err-put_fields.ensures.1)

pub returns : goal.returns
returns c =
    let a = c.args in
    let s = a.sources.now in
    let d = c.put_fields.new.draft in
    let there = sym c.lacks.ensures ∙ c.if-lacks.false in
    let wide = sym c.no_room.ensures ∙ c.if-no_room.false in
    let e = c.in_ok-put_fields.ensures in
    let put = (put-fine _ _ _ _ _ _ e.1).1 in
    let all = written a.command.now s.text.now s.scratch.now a.out.now c.requires.0 there a.n c.requires.1 wide d.end d.out.now put in
    grind (arith, all)
