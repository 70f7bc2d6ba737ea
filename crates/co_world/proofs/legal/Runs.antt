-- What holds of every schedule, put together and said of the lists of notes in place of the world; and a script's walk is a
-- run of it.
use Rattle.std.proofs.Common.{◌≡◌, ℕ, zero, suc, ◌<◌, List, [], refl, sym, ap, subst, ◌∙◌, arith}
use Rattle.std.specs.List.{AllByRecursion}
use Rattle.std.proofs.lemmas.List.FromFn.{get_or-map-range_with_len, length-map-range_with_len}
use Rattle.co_object.specs.declared.Entry.{Entry}
use Rattle.co_object.specs.declared.QEntry.{QEntry}
use Rattle.co_object.specs.declared.QReply.TheVariants.{Missing}
use Rattle.co_object.specs.declared.Note.{Note}
use Rattle.co_object.specs.History.{IsLegal}
use Rattle.co_object.specs.Journal.{IsLegalQueue}
use Rattle.co_object.specs.Lists.{callout_history, cpu_journal}
use Rattle.co_program.specs.declared.Script.{Script}
use Rattle.co_program.specs.Action.{spec_at}
use Rattle.co_program.specs.Actors.{actor_count}
use Rattle.co_program.specs.Follows.{Follows, Histories}
use Rattle.co_program.specs.Runs.{IsRunOf, shown_histories, notes_by, actors_of, are_direct}
use Rattle.co_program.specs.Scripts.{IsScript}
use Rattle.co_world.specs.World.{World, open_world, lists_of, histories_of}
use Rattle.co_world.specs.SoFar.{IsRunSoFar}
use Rattle.co_world.specs.Laws.{IsReached as Reached}
use Rattle.co_world.specs.Walk.{run, round, rounds, AllFinished}
use Rattle.co_world.specs.Laws.{reached, IsSchedule, AreOfLists, AreLegal, WalksAreRuns}
use Rattle.co_world.proofs.shown.Lists.{lists_show}
use Rattle.co_world.proofs.names.Places.{have_places}
use Rattle.co_world.proofs.legal.Schedules.{histories_are_legal, no_remove_is_missing, finished_follow_all}
use Rattle.co_world.proofs.measure.Walks.{IsReached, round_falls}
use Rattle.co_world.proofs.shown.Positions.{well_formed}

-- two functions with the same values are one
same_function : {X : Type 0} (f g : ℕ → X) → ((n : ℕ) → f n ≡ g n) → f ≡ g
same_function f g same = λ i n. same n i

pub histories_shown : (s : Script) (w : World) → AreOfLists s w → histories_of w ≡ shown_histories (lists_of s w)
histories_shown s w are =
    both (λ i. (w.timers i).history) (λ i. callout_history i (lists_of s w)) (λ cpu. (w.cpus cpu).journal) (λ cpu. cpu_journal cpu (lists_of s w))
    (same_function (λ i. (w.timers i).history) (λ i. callout_history i (lists_of s w)) (λ i. sym (are.timers i)))
    (same_function (λ cpu. (w.cpus cpu).journal) (λ cpu. cpu_journal cpu (lists_of s w)) (λ cpu. sym (are.cpus cpu))) where
      of : (ℕ → List Entry) → (ℕ → List QEntry) → Histories
      of timers cpus = record { timers = timers; cpus = cpus }

      both : (f g : ℕ → List Entry) (h k : ℕ → List QEntry) → f ≡ g → h ≡ k → of f h ≡ of g k
      both f g h k e d = ap (λ x. of x h) e ∙ ap (of g) d

module _ (s : Script) (ok : IsScript s) (schedule : List ℕ) (may : IsSchedule s schedule) where
  pub list_of : (a : ℕ) → a < actor_count s → notes_by (lists_of s (reached s schedule)) a ≡ ((reached s schedule).actors a).notes
  list_of a within = get_or-map-range_with_len (λ b. ((reached s schedule).actors b).notes) 0 (actor_count s) a a [] within (omega arith)

  -- the notes at that moment
  pub so_far_at : IsRunSoFar s (lists_of s (reached s schedule))
  so_far_at =
      let w : World = reached s schedule in
      let are : AreOfLists s w = lists_show s schedule may in
      let legal : AreLegal s (histories_of w) = histories_are_legal s ok schedule may in
      record {
        actors = length-map-range_with_len (λ a. (w.actors a).notes) 0 (actor_count s);
        places = have_places s ok schedule may;
        formed = well_formed s schedule may;
        callouts = λ i within. subst (IsLegal (actors_of s) (spec_at s i)) (sym (are.timers i)) (legal.timers i within);
        cpus = λ cpu within. subst (IsLegalQueue (actors_of s) cpu s.buckets (are_direct s)) (sym (are.cpus cpu)) (legal.cpus cpu within);
        found = λ cpu within. subst (AllByRecursion (λ (e : QEntry). e.reply ≡ Missing → ⊥)) (sym (are.cpus cpu)) (no_remove_is_missing s ok schedule may cpu);
      }

  -- a schedule after which all have finished makes a run
  run_of : AllFinished s (reached s schedule) → IsRunOf s (lists_of s (reached s schedule))
  run_of finished =
      let w : World = reached s schedule in
      let are : AreOfLists s w = lists_show s schedule may in
      let so_far : IsRunSoFar s (lists_of s w) = so_far_at in
      record {
        actors = so_far.actors;
        places = so_far.places;
        formed = so_far.formed;
        callouts = so_far.callouts;
        cpus = so_far.cpus;
        found = so_far.found;
        follow = λ a within.
            subst (λ (notes : List Note). Follows s (shown_histories (lists_of s w)) a notes) (sym (list_of a within))
            (subst (λ (H : Histories). Follows s H a (w.actors a).notes) (histories_shown s w are) (finished_follow_all s ok schedule may a (finished a within)));
      }

-- the notes of any world that some schedule reaches
pub so_far : (s : Script) → IsScript s → (w : World) → Reached s w → IsRunSoFar s (lists_of s w)
so_far s ok w h = subst (λ (x : World). IsRunSoFar s (lists_of s x)) (sym h.world) (so_far_at s ok h.schedule h.may)

-- the world after some rounds is one that a schedule reaches
pub rounds_reached : (s : Script) (ok : IsScript s) (n : ℕ) (w : World) → IsReached s ok w → IsReached s ok (rounds s w n)
rounds_reached s ok zero w h = h
rounds_reached s ok (suc n) w h = rounds_reached s ok n (round s w) (round_falls s ok w h).0

pub walks_are_runs : WalksAreRuns
walks_are_runs s ok lists walk =
    let w : World = rounds s (run s (open_world s) s.turns) walk.number in
    let h : IsReached s ok w = rounds_reached s ok walk.number (run s (open_world s) s.turns) (s.turns, ok.turns, refl) in
    subst (IsRunOf s) (sym (walk.written ∙ ap (lists_of s) h.2)) (run_of s ok h.0 h.1 (subst (AllFinished s) h.2 walk.finished))
