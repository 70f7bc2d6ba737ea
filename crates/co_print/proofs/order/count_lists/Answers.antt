-- The notes of one list more are counted.
use Rattle.std.proofs.Common.{◌≡◌, ◌+◌, map, take, length, get_or, ap, ◌∙◌, arith}
use Rattle.std.proofs.lemmas.List.{length-replicate, get_or-replicate, take_all}
use Rattle.co_print.specs.Order.{count_in, all_of, spot_of}
use Rattle.co_print.proofs.Counts.{made_more, list_counted}
use Rattle.co_print.proofs.order.count_lists.Goals as goal

pub loop-notes-preserved : goal.loop-notes-preserved
loop-notes-preserved c =
    let s = c.args.script.now in
    let lists = c.args.lists.now in
    let k = c.loop-notes.notes-index in
    let notes = c.notes-item.result in
    record {
      places = c.in_ok-count_list.ensures.places;
      each = λ i in_range. list_counted s lists k notes i _ _ c.loop-notes-test.true c.notes-item.is (c.loop-notes.invariant.each i in_range)
          (c.in_ok-count_list.ensures.each i in_range ∙ ap (λ ns. get_or c.loop-notes.counts i 0 + count_in s i ns) c.as_slice.ensures);
      spots = made_more (map (spot_of s)) lists k notes c.in_ok-count_list.field-0 _ _ c.loop-notes-test.true c.notes-item.is (c.in_ok-count_list.ensures.spots ∙ ap (map (spot_of s)) c.as_slice.ensures)
          c.loop-notes.invariant.spots c.in_ok-push.ensures.ok;
    }

pub loop-notes-init : goal.loop-notes-init
loop-notes-init c =
    let number = c.in_ok-place_count.field-0 in
    let none = c.in_ok-counts.ensures in
    record {
      places = ap length none ∙ (length-replicate number 0 ∙ c.in_ok-place_count.ensures);
      each = λ i in_range. ap (λ ns. get_or ns i 0) none ∙ get_or-replicate number i 0 0 (omega (arith, in_range, c.in_ok-place_count.ensures));
      spots = c.new-spots.ensures;
    }

pub returns : goal.returns
returns c =
    let s = c.args.script.now in
    let counted = c.loop-notes.invariant in
    let all : take c.loop-notes.notes-index c.args.lists.now ≡ c.args.lists.now = take_all c.loop-notes.notes-index c.args.lists.now c.loop-notes-test.false in
    record {
      counts = record {
        places = counted.places;
        each = λ i in_range. counted.each i in_range ∙ ap (λ lists. count_in s i (all_of lists)) all;
      };
      spots = counted.spots ∙ ap (λ lists. map (map (spot_of s)) lists) all;
    }
