-- The laws hold of ours.
use Rattle.octets.proofs.Littles.{number-little, little-number}
use Rattle.delta.specs.Laws.{DeltaLaws}
use Rattle.delta.proofs.LayoutLaws.{reads-laid, laid-reads, tells-each}
use Rattle.delta.proofs.SignatureLaws.{reads-signature, laid-signatures}
use Rattle.delta.proofs.RangeLaws.{range-piece}
use Rattle.delta.proofs.PatchLaws.{applies, only-applies, too-long-first, too-long-only, keeps_output, refuses-too-large}
use Rattle.delta.proofs.PatchLaws.{no-room-last, measures}
use Rattle.delta.proofs.WeakLaws.{rolls}

pub delta-laws : DeltaLaws
delta-laws =
    record {
      numbers = record { laid_out = number-little; read_back = little-number };
      reads_laid = reads-laid;
      laid_reads = laid-reads;
      tells_each = tells-each;
      reads_signature = reads-signature;
      laid_signatures = laid-signatures;
      ranges = range-piece;
      applies = applies;
      only_applies = only-applies;
      too_long_first = too-long-first;
      too_long_only = too-long-only;
      keeps_output = keeps_output;
      refuses_too_large = refuses-too-large;
      no_room_last = no-room-last;
      measures = measures;
      rolls = rolls;
    }
