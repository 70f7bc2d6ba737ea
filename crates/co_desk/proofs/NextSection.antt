-- The section of a pop on a desk: what its wheel and its books have after it.
use Rattle.std.proofs.Common.{◌≡◌, ℕ, Bool, true, false, List, [], ◌∷◌, ◌++◌, length, set, refl, sym, ap, ◌∙◌, subst, arith}
use Rattle.std.specs.Prelude.{is_some, slice_set}
use Rattle.std.specs.declared.option.Option.{Option}
use Rattle.std.specs.declared.option.Option.TheVariants.{Some, None}
use Rattle.co_life.specs.Rule.{capped}
use Rattle.co_life.specs.Seen.{own}
use Rattle.co_object.specs.declared.alone.Alone.{Alone}
use Rattle.co_object.specs.declared.note.Entry.{Entry}
use Rattle.co_object.specs.declared.note.QEntry.{QEntry}
use Rattle.co_object.specs.declared.op.Op.TheVariants.{Run}
use Rattle.co_object.specs.declared.op.RunOp.TheVariants.{Pick}
use Rattle.co_object.specs.declared.reply.Reply.{Reply}
use Rattle.co_object.specs.declared.state.State.{State}
use Rattle.co_object.specs.History as history
use Rattle.co_object.specs.Queue.{Due}
use Rattle.co_object.specs.Serve.{pick}
use Rattle.co_wheel.specs.declared.outs.NextOut.{NextOut}
use Rattle.co_wheel.specs.declared.outs.NextOut.TheVariants.{Empty, Took}
use Rattle.co_wheel.specs.Callouts.{Callouts, callout, in_service, is_serviced, with_callout, with_service}
use Rattle.co_wheel.specs.Cpu.{Cpu}
use Rattle.co_wheel.specs.Next.{popping}
use Rattle.co_wheel.specs.Sections.{IsNext}
use Rattle.co_wheel.specs.Service.{moved_on, pick_outcome, pick_it}
use Rattle.co_desk.specs.Params.{actors_of, directs, spec_at}
use Rattle.co_desk.specs.Books.{BooksView, history_at, entries_in}
use Rattle.co_desk.specs.Desk.{IsAtCpu, IsHere, IsDesk, Owes, StandsAs, alone_after, is_scan, scans_in}
use Rattle.co_desk.specs.May.{queue_at_desk}
use Rattle.co_desk.specs.Seats.{IsShown}
use Rattle.co_desk.specs.Services.{MayPick, picked_histories, pop_entry, run_entry}
use Rattle.co_desk.specs.Serving.{lane_actor, served_in, slot}
use Rattle.co_desk.specs.Stories.{IsJournal, queue_by}
use Rattle.co_desk.specs.Views.{PassesView}
use Rattle.co_desk.proofs.CalledDesk.{alone_then, of_changed, stand_after, within_history}
use Rattle.co_desk.proofs.DeskKept.{of_after, owes_next, owes_turns, pops_no_scan, scans_same}
use Rattle.co_desk.proofs.Lanes.{direct_spec, popped_lane}
use Rattle.co_desk.proofs.ServedDesk.{at_picked, changed_so, cpu_then, here_then, history_of, lane_server, one_of}
use Rattle.co_desk.proofs.Serving.{slot_by_own}

-- what the queue of a desk has in service, its server's own entries say
pub slot_shown : (lane : Bool) (w : Cpu) (b : BooksView) → Owes [] w b → slot lane (queue_at_desk b) ≡ in_service lane w.callouts
slot_shown false w b o = o.takes.serving
slot_shown true w b o = o.takes.directing

-- whether a desk has an arming in service its journal says
pub has_service : (w : Cpu) (b : BooksView) (i n : ℕ) (x : Bool) → Owes [] w b → x ≡ is_serviced w.callouts.serving w.callouts.directing i n → x ≡ is_serviced (queue_at_desk b).serving (queue_at_desk b).directing i n
has_service w b i n x o is = is ∙ (λ k. is_serviced (sym o.takes.serving k) (sym o.takes.directing k) i n)

pub service_is : (lane : Bool) (w : Cpu) (b : BooksView) (scans actor : ℕ) (seen : List QEntry) → IsDesk w b scans → IsJournal b.params b.cpu b.journal → actor ≡ lane_actor lane (actors_of b.params) b.cpu → IsShown queue_by actor b.journal seen
    → in_service lane w.callouts ≡ served_in lane (own queue_by actor seen)
service_is lane w b scans actor seen desk legal is shown =
    sym (slot_shown lane w b desk.shown)
    ∙ (slot_by_own b.params.buckets (directs b.params) (actors_of b.params) b.cpu lane b.journal legal.legal
    ∙ (ap (λ (a : ℕ). served_in lane (own queue_by a b.journal)) (sym is) ∙ ap (served_in lane) shown.all_own))

-- callout d.i, where it is, is picked
record IsPickedBy (direct : Bool) (c c' : Callouts) (d : Due) (time : ℕ) (r : Reply) (o : Option Alone) : Type 0 where
  alone : Alone
  there : o ≡ Some alone
  after : State
  picks : pick alone.spec alone.state d.n c.cpu time ≡ Some (after, r)
  callouts : c' ≡ with_service direct (with_callout c d.i (Some (moved_on alone after))) (Some d)

picked_by : (direct : Bool) (c c' : Callouts) (d : Due) (time : ℕ) (r : Reply) (o : Option Alone) → pick_it direct c d time o ≡ Some (c', r) → IsPickedBy direct c c' d time r o
picked_by direct c c' d time r None is = absurd (cc)
picked_by direct c c' d time r (Some a) is = by_outcome (pick a.spec a.state d.n c.cpu time) refl is where
  by_outcome : (o : Option (State × Reply)) → pick a.spec a.state d.n c.cpu time ≡ o → pick_outcome direct c d a o ≡ Some (c', r) → IsPickedBy direct c c' d time r (Some a)
  by_outcome None e h = absurd (cc)
  by_outcome (Some x) e h =
      let both : (with_service direct (with_callout c d.i (Some (moved_on a x.0))) (Some d), x.1) ≡ (c', r) = one_of (with_service direct (with_callout c d.i (Some (moved_on a x.0))) (Some d), x.1) (c', r) h in
      record {
        alone = a;
        there = refl;
        after = x.0;
        picks = e ∙ ap (λ (y : Callouts × Reply). Some (x.0, y.1)) both;
        callouts = ap (λ (y : Callouts × Reply). y.0) (sym both);
      }

module _ (w w' : Cpu) (b : BooksView) (scans : ℕ) (direct : Bool) (p : PassesView) (act : ℕ) (desk : IsDesk w b scans) (legal : IsJournal b.params b.cpu b.journal) (actor : p.actor ≡ lane_actor direct (actors_of b.params) b.cpu) where
  pub owes_pop : (out : NextOut) → IsNext direct w w' out → Owes (popping direct out) w' b
  owes_pop out is = owes_turns w w' b (popping direct out) desk.of desk.shown is.queue

  abbrev books_after : NextOut → BooksView
  books_after out = record b { timers = picked_histories b p act out; journal = b.journal ++ pop_entry direct p act out ∷ [] }

  counted_after : (e : QEntry) → is_scan e.op ≡ false → scans ≡ capped (scans_in (b.journal ++ e ∷ []))
  counted_after e none = let same = scans_same b e none in let before = desk.counted in omega arith

  desk_empty : IsNext direct w w' Empty → IsDesk w' (books_after Empty) scans
  desk_empty is = record {
    of = (let of = of_after w w' b _ desk.of is.queue (ap (λ (c : Callouts). c.cpu) is.callouts) (ap (λ (c : Callouts). length c.here) is.callouts) in record { cpu = of.cpu; size = of.size; buckets = of.buckets; direct = of.direct });
    stand = record {
      each = λ i. subst (λ (c : Callouts). StandsAs b.params i (callout c i) (history_at b i)) (sym is.callouts) (desk.stand.each i);
      here = λ i. subst (λ (c : Callouts). IsHere b.cpu (callout c i)) (sym is.callouts) (desk.stand.here i);
    };
    shown = owes_next b (pop_entry direct p act Empty) [] w' (owes_pop Empty is);
    counted = counted_after (pop_entry direct p act Empty) (pops_no_scan direct);
  }

  module _ (i n time : ℕ) (reply : Reply) (is : IsNext direct w w' (Took i n time reply)) where
    abbrev d : Due
    d = record { i = i; n = n }

    picked : IsPickedBy direct w.callouts w'.callouts d time reply (callout w.callouts i)
    picked = picked_by direct w.callouts w'.callouts d time reply (callout w.callouts i) is.callouts

    found : (H : List Entry) × (history_at b i ≡ Some H) × (picked.alone ≡ alone_after b.params i H)
    found = history_of b.params i (callout w.callouts i) (history_at b i) picked.alone (desk.stand.each i) picked.there

    lane_is : (spec_at b.params i).direct ≡ direct
    lane_is = sym (direct_spec b.params i) ∙ popped_lane (directs b.params) b.params.buckets (actors_of b.params) b.cpu b.journal direct i n time legal.legal (owes_pop (Took i n time reply) is).takes.0

    abbrev entry : Entry
    entry = run_entry p act (Pick n b.cpu time) reply

    module _ (H : List Entry) (kept : history_at b i ≡ Some H) (alone_is : picked.alone ≡ alone_after b.params i H) where
      picks_here : pick (spec_at b.params i) (history.state (spec_at b.params i) H) n b.cpu time ≡ Some (picked.after, reply)
      picks_here = (λ k. pick (sym alone_is k).spec (sym alone_is k).state n (sym desk.of.cpu k) time) ∙ picked.picks

      may_here : MayPick b p act (Took i n time reply)
      may_here = (
        ap is_some kept,
        record {
          may = (
            ap (λ (G : Option (List Entry)). history.reply_of (pick (spec_at b.params i) (history.state (spec_at b.params i) (entries_in G)) n b.cpu time)) kept ∙ ap history.reply_of picks_here,
            actor ∙ lane_server (actors_of b.params) b.cpu (spec_at b.params i) direct lane_is,
          );
        },
      )

      abbrev alone_now : Alone
      alone_now = moved_on picked.alone picked.after

      stands_now : alone_now ≡ alone_after b.params i (H ++ entry ∷ [])
      stands_now = ap (λ (a : Alone). moved_on a picked.after) alone_is ∙ alone_then b.params i H entry picked.after reply picks_here

      at_now : IsAtCpu b.cpu alone_now
      at_now = at_picked picked.alone.spec (history.state (spec_at b.params i) H) (Run (Pick n b.cpu time)) reply picked.after n b.cpu time (changed_so (spec_at b.params i) (history.state (spec_at b.params i) H) (Run (Pick n b.cpu time)) picked.after reply picks_here) refl

      here_now : w'.callouts.here ≡ set w.callouts.here i (Some alone_now)
      here_now = ap (λ (c : Callouts). c.here) picked.callouts ∙ here_then direct (with_callout w.callouts i (Some alone_now)) (Some d)

      cpu_now : w'.callouts.cpu ≡ w.callouts.cpu
      cpu_now = ap (λ (c : Callouts). c.cpu) picked.callouts ∙ cpu_then direct (with_callout w.callouts i (Some alone_now)) (Some d)

      desk_here : IsDesk w' (record b { timers = slice_set b.timers i (Some (H ++ entry ∷ [])); journal = b.journal ++ pop_entry direct p act (Took i n time reply) ∷ [] }) scans
      desk_here = record {
        of = of_changed w w' b i desk.of desk.stand (within_history b.timers i H kept) (Some alone_now) (Some (H ++ entry ∷ [])) (b.journal ++ pop_entry direct p act (Took i n time reply) ∷ []) here_now (popping direct (Took i n time reply)) is.queue cpu_now;
        stand = stand_after w w' b i desk.of desk.stand (within_history b.timers i H kept) (Some alone_now) (Some (H ++ entry ∷ [])) (b.journal ++ pop_entry direct p act (Took i n time reply) ∷ []) here_now stands_now at_now;
        shown = record { takes = (owes_next b (pop_entry direct p act (Took i n time reply)) [] w' (owes_pop (Took i n time reply) is)).takes };
        counted = counted_after (pop_entry direct p act (Took i n time reply)) (pops_no_scan direct);
      }

      desk_took : IsDesk w' (books_after (Took i n time reply)) scans
      desk_took = subst (λ (G : List Entry). IsDesk w' (record b { timers = slice_set b.timers i (Some (G ++ entry ∷ [])); journal = b.journal ++ pop_entry direct p act (Took i n time reply) ∷ [] }) scans) (ap entries_in (sym kept)) desk_here

    may_took : MayPick b p act (Took i n time reply)
    may_took = may_here found.0 found.1 found.2

    desk_then : IsDesk w' (books_after (Took i n time reply)) scans
    desk_then = desk_took found.0 found.1 found.2

  pub may_pick : (out : NextOut) → IsNext direct w w' out → MayPick b p act out
  may_pick Empty is = tt
  may_pick (Took i n time reply) is = may_took i n time reply is

  pub next_desk : (out : NextOut) → IsNext direct w w' out → IsDesk w' (books_after out) scans
  next_desk Empty is = desk_empty is
  next_desk (Took i n time reply) is = desk_then i n time reply is
