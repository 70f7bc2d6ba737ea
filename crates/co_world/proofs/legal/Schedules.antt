-- What holds of every schedule of a script that was accepted.
use Rattle.std.proofs.Common.{◌≡◌, ℕ, List, [], ◌∷◌, Some}
use Rattle.std.specs.List.{AllByRecursion}
use Rattle.co_object.specs.declared.QReply.TheVariants.{Missing}
use Rattle.co_object.specs.declared.QEntry.{QEntry}
use Rattle.co_object.specs.Callout.{opening, step as callout_step}
use Rattle.co_object.specs.Queue.{empty_queue}
use Rattle.co_object.specs.History.{IsOfItsActor, next, reply_of}
use Rattle.co_object.specs.Journal as journal
use Rattle.co_object.specs.Machine.{IsLegalFrom}
use Rattle.co_program.specs.declared.Script.{Script}
use Rattle.co_program.specs.Action.{spec_at}
use Rattle.co_world.specs.Step.{are_direct}
use Rattle.co_world.specs.Laws.{reached, actors_of, HistoriesAreLegal, NoRemoveIsMissing, EachFinishedActorFollows, NoScheduleIsStuck}
use Rattle.co_world.proofs.legal.Owners.{IsOwned, IsOwn, IsOwnOf}
use Rattle.co_world.proofs.kept.BySchedules.{reached_steady}
use Rattle.co_world.proofs.legal.ObjectReplies.{have_replies}
use Rattle.co_world.proofs.follows.Programs.{finished_follow}
use Rattle.co_world.proofs.stuck.NeverStuck.{never_stuck}

-- a legal history is one whose entries have their replies and their actors
legal_both : {S E : Type 0} (next : S → E → S) (Replies May : S → E → Type 0) (Own : E → Type 0) → ((s : S) (e : E) → Replies s e → Own e → May s e) → (s : S) (H : List E) → IsLegalFrom next Replies s H → AllByRecursion Own H → IsLegalFrom next May s H
legal_both next Replies May Own both s [] replies own = tt
legal_both next Replies May Own both s (e ∷ H) replies own = (both s e replies.0 own.0, legal_both next Replies May Own both (next s e) H replies.1 own.1)

pub histories_are_legal : HistoriesAreLegal
histories_are_legal s ok schedule may =
    let owned : IsOwned s (reached s schedule) = (reached_steady s ok schedule may).good.owned in
    let replies = have_replies s schedule in
    record {
      timers = λ i within.
          legal_both (next (spec_at s i)) (λ state e. reply_of (callout_step (spec_at s i) state e.op) ≡ Some e.reply)
          (λ state e. (reply_of (callout_step (spec_at s i) state e.op) ≡ Some e.reply) × IsOfItsActor (actors_of s) (spec_at s i) e.actor e.op) (IsOwn s i) (λ state e r own. (r, own)) (opening 0)
          ((reached s schedule).timers i).history (replies.timers i) (owned.timers i);
      cpus = λ cpu within.
          legal_both (journal.next s.buckets (are_direct s)) (λ q e. journal.reply_of (journal.step s.buckets (are_direct s) q e.op) ≡ Some e.reply)
          (λ q e. (journal.reply_of (journal.step s.buckets (are_direct s) q e.op) ≡ Some e.reply) × journal.IsOfItsActor (actors_of s) cpu e.actor e.op) (IsOwnOf s cpu) (λ q e r own. (r, own.0)) empty_queue
          ((reached s schedule).cpus cpu).journal (replies.cpus cpu) (owned.cpus cpu);
    }

none_missing : (s : Script) (cpu : ℕ) (J : List QEntry) → AllByRecursion (IsOwnOf s cpu) J → AllByRecursion (λ e. e.reply ≡ Missing → ⊥) J
none_missing s cpu [] h = tt
none_missing s cpu (e ∷ J) h = (h.0.1, none_missing s cpu J h.1)

pub no_remove_is_missing : NoRemoveIsMissing
no_remove_is_missing s ok schedule may cpu = none_missing s cpu ((reached s schedule).cpus cpu).journal ((reached_steady s ok schedule may).good.owned.cpus cpu)

pub finished_follow_all : EachFinishedActorFollows
finished_follow_all s ok schedule may = finished_follow s schedule (no_remove_is_missing s ok schedule may)

pub never_stuck_all : NoScheduleIsStuck
never_stuck_all s ok schedule may = never_stuck s (reached s schedule) (reached_steady s ok schedule may)
