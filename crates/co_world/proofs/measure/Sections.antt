-- The rest of a section adds nothing to what is left to do.
use Rattle.std.proofs.Common.{◌≡◌, ℕ, ◌≤◌, ◌<◌, Bool, true, false, refl, sym, ap, subst, ◌∙◌, arith, Option, Some, None}
use Rattle.std.specs.Prelude.{◌||◌}
use Rattle.co_object.specs.declared.State.{State}
use Rattle.co_object.specs.declared.Reply.{Reply}
use Rattle.co_object.specs.declared.Op.TheVariants.{Run as Serve}
use Rattle.co_object.specs.declared.RunOp.{RunOp}
use Rattle.co_object.specs.declared.RunOp.TheVariants.{Pick}
use Rattle.co_object.specs.declared.QOp.{QOp}
use Rattle.co_object.specs.declared.QOp.TheVariants.{Insert}
use Rattle.co_object.specs.declared.QReply.{QReply}
use Rattle.co_object.specs.Queue.{Queue as TimerQueue}
use Rattle.co_object.specs.Callout.{step as callout_step}
use Rattle.co_object.specs.Journal as journal
use Rattle.co_program.specs.declared.Script.{Script}
use Rattle.co_program.specs.Actors.{role_of, cpu_of, actor_count}
use Rattle.co_program.specs.declared.Role.{Role}
use Rattle.co_program.specs.declared.Role.TheVariants.{Client, Cpu, Interrupt}
use Rattle.co_program.specs.Stages.{Stage, Picking, Freeing}
use Rattle.co_program.specs.Cursor.{Cursor}
use Rattle.co_program.specs.declared.PendingInsert.{PendingInsert}
use Rattle.co_program.specs.Action.{Action, Asks, action_for, action_with, action_in, spec_at, free_of}
use Rattle.co_program.specs.declared.Asked.TheVariants.{Callout, Queue}
use Rattle.co_program.specs.Scripts.{IsScript}
use Rattle.co_world.specs.World.{World}
use Rattle.co_world.specs.Step.{callout_answers, queue_answers, are_direct, world_answers, is_within_service, is_in_section, lands_here, makes_action, goes_on_in_section}
use Rattle.co_world.specs.Measure.{measure}
use Rattle.co_world.proofs.kept.Invariant.{states_of, queues_of, cursors_of}
use Rattle.co_world.proofs.basics.Updates.{at_choice}
use Rattle.co_world.proofs.basics.Roles.{cpu_number, interrupt_version}
use Rattle.co_world.proofs.measure.Queues.{is_scan, free_scans_none}
use Rattle.co_world.proofs.measure.Answers.{run_falls, queue_answer_falls}

-- every actor has a CPU of the script
pub own_cpu : (s : Script) → IsScript s → (a : ℕ) → a < actor_count s → cpu_of s (role_of s a) < s.cpus
own_cpu s ok a may = go (role_of s a) refl where
  go : (r : Role) → role_of s a ≡ r → cpu_of s r < s.cpus
  go (Client k) is = let some = ok.cpus.0 in omega arith
  go (Cpu x) is = (cpu_number s a x is).1
  go (Interrupt x) is = (interrupt_version s a x may is).1

-- ---- the rest of a section

module _ (s : Script) (ok : IsScript s) (w : World) (a : ℕ) (may : a < actor_count s) where
  abbrev c : Cursor
  c = cursors_of w a

  abbrev role : Role
  role = role_of s a

  abbrev Stays : World → Type 0
  Stays w' = measure s w' ≤ measure s w

  queue_stays : (act cpu : ℕ) (op : QOp) → action_for s a c ≡ Asks act (Queue cpu op) → is_scan op ≡ false → Stays (world_answers s w a act (Queue cpu op))
  queue_stays act cpu op is quiet = go (journal.step s.buckets (are_direct s) (queues_of w cpu) op) refl where
    go : (o : Option (TimerQueue × QReply)) → journal.step s.buckets (are_direct s) (queues_of w cpu) op ≡ o → Stays (queue_answers s w a act cpu op o)
    go None e = omega arith
    go (Some o) e = let h = queue_answer_falls s w a may act cpu op o (own_cpu s ok a may) is e (λ scan. (let clash : true ≡ false = sym scan ∙ quiet in cc)) in omega arith

  run_stays : (act i : ℕ) (op : RunOp) → action_for s a c ≡ Asks act (Callout i (Serve op)) → Stays (world_answers s w a act (Callout i (Serve op)))
  run_stays act i op is = go (callout_step (spec_at s i) (states_of w i) (Serve op)) refl where
    go : (o : Option (State × Reply)) → callout_step (spec_at s i) (states_of w i) (Serve op) ≡ o → Stays (callout_answers s w a act i (Serve op) o)
    go None e = omega arith
    go (Some o) e = let h = run_falls s w a may act i op o is e in omega arith

  by_action : (action : Action) → action_for s a c ≡ action → Stays (makes_action s w a action) → Stays (makes_action s w a (action_for s a c))
  by_action action is stays = subst (λ (d : Action). Stays (makes_action s w a d)) (sym is) stays

  within : (stage : Stage) → c.stage ≡ stage → c.parcel ≡ None → is_within_service stage ≡ true → Stays (makes_action s w a (action_for s a c))
  within (Picking v) e empty h =
      let is : action_for s a c ≡ Asks v.act (Callout v.i (Serve (Pick v.n (cpu_of s role) v.at))) = ap (action_with s role c) empty ∙ ap (action_in s role c) e in
      by_action (Asks v.act (Callout v.i (Serve (Pick v.n (cpu_of s role) v.at)))) is (run_stays v.act v.i (Pick v.n (cpu_of s role) v.at) is)
  within (Freeing v drain next) e empty h =
      let is : action_for s a c ≡ Asks v.act (Queue (cpu_of s role) (free_of role)) = ap (action_with s role c) empty ∙ ap (action_in s role c) e in
      by_action (Asks v.act (Queue (cpu_of s role) (free_of role))) is (queue_stays v.act (cpu_of s role) (free_of role) is (free_scans_none role))
  within stage e empty h = cc

  or_false : (x : Bool) → (x || false) ≡ true → x ≡ true
  or_false true h = refl
  or_false false h = h

  pub rest_stays : Stays (goes_on_in_section s w a)
  rest_stays = at_choice Stays (is_in_section w c) (makes_action s w a (action_for s a c)) w (λ yes'. go c.parcel refl yes') (λ no'. omega arith) where
    go : (o : Option PendingInsert) → c.parcel ≡ o → is_in_section w c ≡ true → Stays (makes_action s w a (action_for s a c))
    go (Some p) e h =
        let is : action_for s a c ≡ Asks p.act (Queue p.cpu (Insert p.i p.n p.due)) = ap (action_with s role c) e in
        by_action (Asks p.act (Queue p.cpu (Insert p.i p.n p.due))) is (queue_stays p.act p.cpu (Insert p.i p.n p.due) is refl)
    go None e h = within c.stage refl e (or_false (is_within_service c.stage) (ap (λ (o : Option PendingInsert). is_within_service c.stage || lands_here w o) (sym e) ∙ h))
