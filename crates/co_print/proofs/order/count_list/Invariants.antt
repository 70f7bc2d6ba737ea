use Rattle.std.proofs.Common.{◌≡◌, ◌<◌, ◌≤◌, ◌+◌, ℕ, length, get_or, map, take}
use Rattle.co_print.specs.Order.{place_count, count_in, spot_of}
use Rattle.co_print.proofs.order.count_list.Given as goal

-- the notes so far are counted, and there is room for the spots of the others
abbrev pub invariant-loop-note : goal.invariant-loop-note
invariant-loop-note l = record {
  places : length l.counts ≡ place_count l.script;
  each : (i : ℕ) → i < place_count l.script → get_or l.counts i 0 ≡ get_or l.fn.counts i 0 + count_in l.script i (take l.note-index l.notes);
  spots : l.spots.items ≡ map (spot_of l.script) (take l.note-index l.notes);
  room : length l.notes ≤ l.spots.spare + l.note-index;
}
