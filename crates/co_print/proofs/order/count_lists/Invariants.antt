use Rattle.std.proofs.Common.{◌≡◌, ◌<◌, ℕ, length, get_or, map, take}
use Rattle.co_print.specs.Order.{place_count, count_in, all_of, spot_of}
use Rattle.co_print.proofs.order.count_lists.Given as goal

-- the notes of the lists so far are counted
abbrev pub invariant-loop-notes : goal.invariant-loop-notes
invariant-loop-notes l = record {
  places : length l.counts ≡ place_count l.script;
  each : (i : ℕ) → i < place_count l.script → get_or l.counts i 0 ≡ count_in l.script i (all_of (take l.notes-index l.lists));
  spots : l.spots ≡ map (map (spot_of l.script)) (take l.notes-index l.lists);
}
