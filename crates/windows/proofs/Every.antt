-- All laws hold of ours.
use Rattle.hearing.specs.Hearing.{heard_in}
use Rattle.windows.specs.Compare.{starts_of, first_diff, compared}
use Rattle.windows.specs.Laws.{CompareLaws}
use Rattle.windows.proofs.OffsetLaws.{first-offset}
use Rattle.windows.proofs.MatchLaws.{matched_in-order, mirrored}
use Rattle.windows.proofs.ListLaws.{lists-once}
use Rattle.windows.proofs.AlikeLaws.{same-alone, mended-same}
use Rattle.windows.proofs.ContentsHistory.{each_start, settled-contents, claimed-contents}
use Rattle.hearing.proofs.Named.{names-pairs}
use Rattle.hearing.proofs.Mended.{mended-alike}
use Rattle.hearing.proofs.Replaying.{replay-hears}
use Rattle.hearing.proofs.Wholly.{hears-alike}

pub compare-laws : CompareLaws compared first_diff heard_in starts_of
compare-laws =
    record {
      same_alone = same-alone;
      matched_in_order = matched_in-order;
      mirrored = mirrored;
      lists_once = lists-once;
      first_offset = first-offset;
      each_start = each_start;
      settled_contents = settled-contents;
      names_pairs = names-pairs;
      mended_alike = mended-alike;
      mended_same = mended-same heard_in mended-alike;
      replay_hears = replay-hears;
      one_hearer = hears-alike;
      claimed_contents = claimed-contents;
    }
