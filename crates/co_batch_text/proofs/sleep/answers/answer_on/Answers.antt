-- The passes of the one actor, who has seen nothing, and what has become of them at the end.
use Rattle.std.proofs.Common.{◌≡◌, ◌++◌, [], ◌∷◌, ℕ, zero, suc, List, true, false, refl, sym, subst, ap, ◌∙◌, arith}
use Rattle.std.specs.List.{All, list_all}
use Rattle.std.specs.Option.{option_to_list}
use Rattle.std.proofs.lemmas.Result.{IfOk-at_ok, IfOk-weaker}
use Rattle.std.specs.declared.option.Option.{Option}
use Rattle.co_text.specs.Lines.{text}
use Rattle.co_batch.specs.Answers.{answers}
use Rattle.co_service.specs.Closing.{AreEnded, AreEndedCpus}
use Rattle.co_desk.specs.Services.{IsFree}
use Rattle.co_desk.specs.declared.params.Params.{Params}
use Rattle.co_sleepq.specs.Closing.{AreAllPasses, service_passes}
use Rattle.co_sleepq.specs.Fresh.{AreFreshPasses, QueueName, fresh_passes}
use Rattle.co_sleepq.specs.Params.{ArePasses, actors, sleepers}
use Rattle.co_sleepq.specs.Views.{SleepPassesView}
use Rattle.co_sleepq.proofs.AllPasses.{last-fresh}
use Rattle.co_batch_text.specs.Ends.{IsEnd}
use Rattle.co_batch_text.specs.Sleep.Answers.{answering}
use Rattle.co_batch_text.specs.Sleep.Clock.{clock_opening}
use Rattle.co_batch_text.specs.Sleep.Commands.{fits}
use Rattle.co_batch_text.specs.Sleep.Ends.{sleep_served}
use Rattle.co_batch_text.specs.Sleep.Matching.{AreObeyed}
use Rattle.co_batch_text.specs.Sleep.Running.{AreOpening}
use Rattle.co_batch_text.proofs.SleepText.Ending.{ends, free, opens, sleepers-are}
use Rattle.co_batch_text.proofs.sleep.answers.answer_on.Goals as goal

-- the last of one that stand in a list
only : (name : QueueName) (params : Params) (all rest : List SleepPassesView) (x : SleepPassesView) → AreFreshPasses name params 1 all → all ≡ rest ++ x ∷ [] → x ≡ fresh_passes name params 0
only name params all rest x fresh is = last-fresh name params 0 rest x (subst (AreFreshPasses name params 1) is fresh)

pub text_of-text-requires-clause-cpu : goal.text_of-text-requires-clause-cpu
text_of-text-requires-clause-cpu g c =
    let x = only c.args.fresh.name c.args.fresh.params c.args.passes c.pop.new.self.items c.unwrap-cpu.result c.requires.booted.passes_are (sym c.into_vec.ensures ∙ (c.pop.ensures.items ∙ ap (λ (o : Option SleepPassesView). c.pop.new.self.items ++ option_to_list o) c.unwrap-cpu.ensures)) in
    record {
      of = record {
        of = record {
          name_is = ap (λ (v : SleepPassesView). v.service.name) x ∙ ap (λ (q : QueueName). q.service) c.requires.name;
          params_are = ap (λ (v : SleepPassesView). v.service.params) x ∙ sym c.in_ok-queue.ensures;
        };
        life_is = ap (λ (v : SleepPassesView). v.life) x ∙ ap (λ (q : QueueName). q.book) c.requires.name;
      };
      free = subst (λ (v : SleepPassesView). IsFree false v.service 0) (sym x) (free c.args.batch.now.count c.args.fresh.name c.args.fresh.params c.requires.booted.named c.requires.booted.params_are);
    }

pub text_of-text-requires-clause-opening : goal.text_of-text-requires-clause-opening
text_of-text-requires-clause-opening g c =
    let x = only c.args.fresh.name c.args.fresh.params c.args.passes c.pop.new.self.items c.unwrap-cpu.result c.requires.booted.passes_are (sym c.into_vec.ensures ∙ (c.pop.ensures.items ∙ ap (λ (o : Option SleepPassesView). c.pop.new.self.items ++ option_to_list o) c.unwrap-cpu.ensures)) in
    let n : sleepers c.in_ok-queue.queue ≡ c.args.batch.now.count = ap sleepers c.in_ok-queue.ensures ∙ sleepers-are c.args.batch.now.count c.args.fresh.params c.requires.booted.params_are in
    subst (λ (m : ℕ). AreOpening m c.unwrap-cpu.result) (sym n) (subst (AreOpening c.args.batch.now.count) (sym x) (opens c.args.batch.now.count c.args.fresh.name c.args.fresh.params c.requires.booted.named c.requires.booted.params_are))

pub returns-clause-text : goal.returns-clause-text
returns-clause-text g c =
    let n : sleepers c.in_ok-queue.queue ≡ c.args.batch.now.count = ap sleepers c.in_ok-queue.ensures ∙ sleepers-are c.args.batch.now.count c.args.fresh.params c.requires.booted.params_are in
    IfOk-weaker c.with_closing.result _ _
    (λ out is. IfOk-at_ok (λ bytes. bytes ≡ text (answers answering (sleepers c.in_ok-queue.queue) clock_opening c.args.batch.now.commands)) is.0 c.text_of-text.ensures.text ∙ ap (λ (m : ℕ). text (answers answering m clock_opening c.args.batch.now.commands)) n)
    c.with_closing.ensures

pub returns-clause-end : goal.returns-clause-end
returns-clause-end g c =
    let x = only c.args.fresh.name c.args.fresh.params c.args.passes c.pop.new.self.items c.unwrap-cpu.result c.requires.booted.passes_are (sym c.into_vec.ensures ∙ (c.pop.ensures.items ∙ ap (λ (o : Option SleepPassesView). c.pop.new.self.items ++ option_to_list o) c.unwrap-cpu.ensures)) in
    let b = c.args.batch.now in
    let same : c.in_ok-queue.queue ≡ c.args.fresh.params = c.in_ok-queue.ensures in
    let n : sleepers c.in_ok-queue.queue ≡ b.count = ap sleepers same ∙ sleepers-are b.count c.args.fresh.params c.requires.booted.params_are in
    let q = c.text_of-text.new.cpu in
    let all : c.into_seq.result ≡ q ∷ [] = c.into_seq.ensures ∙ (c.push.ensures.items ∙ ap (λ l. l ++ q ∷ []) c.requires.nothing) in
    let timers : AreEnded c.args.fresh.params (q.service ∷ []) c.close.result.timers = subst (λ (p : Params). AreEnded p (q.service ∷ []) c.close.result.timers) same (subst (λ l. AreEnded c.in_ok-queue.queue (service_passes l) c.close.result.timers) all c.close.ensures.timers) in
    let cpus : AreEndedCpus c.args.fresh.params (q.service ∷ []) c.close.result.cpus = subst (λ (p : Params). AreEndedCpus p (q.service ∷ []) c.close.result.cpus) same (subst (λ l. AreEndedCpus c.in_ok-queue.queue (service_passes l) c.close.result.cpus) all c.close.ensures.cpus) in
    IfOk-weaker c.with_closing.result _ _
    (λ out is.
    let obeyed = IfOk-at_ok (λ _. AreObeyed (sleepers c.in_ok-queue.queue) b.commands c.unwrap-cpu.result q) is.0 c.text_of-text.ensures.obeyed in
    let done : AreObeyed b.count b.commands (fresh_passes c.args.fresh.name c.args.fresh.params 0) q = subst (λ (v : SleepPassesView). AreObeyed b.count b.commands v q) x (subst (λ (m : ℕ). AreObeyed m b.commands c.unwrap-cpu.result q) n obeyed) in
    subst (IsEnd sleep_served b) (sym is.1) (ends b.count c.args.fresh.name c.args.fresh.params c.requires.booted.named c.requires.booted.params_are b q c.close.result refl done (c.text_of-text.ensures.cpu.of.params_are ∙ same) timers cpus))
    c.with_closing.ensures

-- what one has, all of a list of one have
alone : {X : Type 0} (P : X → Type 0) (x : X) → P x → All P (x ∷ [])
alone P x h zero d less = h
alone P x h (suc k) d less = absurd (omega (arith, less))

pub text_of-text-requires-clause-alone : goal.text_of-text-requires-clause-alone
text_of-text-requires-clause-alone g c = ap actors (c.in_ok-queue.ensures ∙ c.requires.booted.params_are)

pub close-requires : goal.close-requires
close-requires g c =
    let q = c.text_of-text.new.cpu in
    let all : c.into_seq.result ≡ q ∷ [] = c.into_seq.ensures ∙ (c.push.ensures.items ∙ ap (λ l. l ++ q ∷ []) c.requires.nothing) in
    let one : actors c.in_ok-queue.queue ≡ 1 = ap actors (c.in_ok-queue.ensures ∙ c.requires.booted.params_are) in
    subst (AreAllPasses g.N.Name.name g.N.SleepName.book c.in_ok-queue.queue) (sym all) (record { count = sym one; of = alone (ArePasses g.N.Name.name g.N.SleepName.book c.in_ok-queue.queue) q c.text_of-text.ensures.cpu })

pub text_of-text-requires-clause-fit : goal.text_of-text-requires-clause-fit
text_of-text-requires-clause-fit g c =
    let n : sleepers c.in_ok-queue.queue ≡ c.args.batch.now.count = ap sleepers c.in_ok-queue.ensures ∙ sleepers-are c.args.batch.now.count c.args.fresh.params c.requires.booted.params_are in
    subst (λ (m : ℕ). list_all (fits m) c.args.batch.now.commands ≡ true) (sym n) c.requires.fit
