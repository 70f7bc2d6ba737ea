use Rattle.std.proofs.Common.{◌≡◌, ℕ, ◌+◌, List, ◌++◌, length, take, drop, replicate, sym, subst, ap, ◌∙◌, arith, append-nil}
use Rattle.std.proofs.lemmas.List.{length-replicate, drop_all, take_all}
use Rattle.co_print.specs.declared.origin.Origin.{Origin}
use Rattle.co_print.specs.Order.{AreWritten}
use Rattle.co_print.proofs.Written.{nowhere, none-written}
use Rattle.co_print.proofs.order.origins_of.Goals as goal

abbrev from_actor : ℕ → Origin
from_actor n = record { actor = n; number = 0 }

pub loop-actor-init : goal.loop-actor-init
loop-actor-init c =
    let filled : c.in_ok-origins.origins.items ≡ replicate c.args.room (nowhere c.args.lists.now) =
    c.in_ok-origins.ensures ∙ ap (λ n. replicate c.args.room (from_actor n)) c.in_ok-actors.ensures in record {
      length = ap length filled ∙ length-replicate c.args.room (nowhere c.args.lists.now);
      written = subst (λ os. AreWritten c.args.script.now c.args.lists.now c.args.first c.args.starts.now os 0 0) (sym filled) (none-written c.args.script.now c.args.lists.now c.args.first c.args.starts.now c.args.room);
    }

-- a slice of all is written back
back : {X : Type 0} (len : ℕ) (items new : List X) → len ≡ length items → length new ≡ length items → take len (new ++ drop (length new) items) ≡ new
back len items new all same =
    ap (λ xs. take len (new ++ xs)) (drop_all (length new) items (omega (arith, same)))
    ∙ (ap (take len) (append-nil new) ∙ take_all len new (omega (arith, all, same)))

pub loop-actor-preserved : goal.loop-actor-preserved
loop-actor-preserved c =
    let same = c.in_ok-write_list.ensures.length ∙ ap length c.as_mut_slice.ensures.value in
    let kept = back c.loop-actor.origins.len c.loop-actor.origins.items c.write_list.new.origins c.loop-actor.origins.ok.0 same in record {
      length = ap length kept ∙ (same ∙ c.loop-actor.invariant.length);
      written = subst (λ os. AreWritten c.args.script.now c.args.lists.now c.args.first c.args.starts.now os (c.loop-actor.actor + 1) 0) (sym kept) c.in_ok-write_list.ensures.written;
    }
