-- The laws hold of ours.
use Rattle.recordings.specs.Pieces.{pieces_of}
use Rattle.recordings.specs.Laws.{MendLaws}
use Rattle.recordings.proofs.CutLaws.{covers, reports}
use Rattle.recordings.proofs.Readable.{same-commands}
use Rattle.recordings.proofs.SettledLaws.{settles, drops-nothing-twice}
use Rattle.recordings.proofs.RowLaws.{lists_the-rest, few-rows}

pub mend-laws : MendLaws pieces_of
mend-laws =
    record {
      covers = covers;
      lists_the_rest = lists_the-rest;
      same_commands = same-commands;
      drops_nothing_twice = drops-nothing-twice;
      settles = settles;
      reports = reports;
      few_rows = few-rows;
    }
