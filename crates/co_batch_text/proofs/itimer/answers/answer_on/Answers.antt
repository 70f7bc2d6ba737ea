-- The timers were new; what was answered from there on, and what the end keeps of it.
use Rattle.std.proofs.Common.{◌≡◌, ◌++◌, [], ℕ, length, sym, subst, ap, ◌∙◌, arith}
use Rattle.std.specs.Prelude.{slice_index_or}
use Rattle.std.proofs.lemmas.Result.{IfOk-at_ok, IfOk-weaker}
use Rattle.std.proofs.lemmas.List.{length-replicate}
use Rattle.co_text.specs.Lines.{text}
use Rattle.co_batch.specs.Answers.{answers}
use Rattle.co_itimer.specs.Timers.{Timers, idle, opening}
use Rattle.co_single.specs.Alarms.{all_gos, scan_times}
use Rattle.co_batch_text.specs.Ends.{AreServed, IsEnd, all_counted, tick_times}
use Rattle.co_batch_text.specs.Itimer.Answers.{answering}
use Rattle.co_batch_text.specs.Itimer.Ends.{timer_served}
use Rattle.co_batch_text.proofs.itimer.answers.answer_on.Goals as goal

-- what is told of new timers, told by their number
opens : {X : Type 0} (f : ℕ → Timers → X) (s : Timers) (n m : ℕ) → s ≡ opening n → n ≡ m → f (length s.timers) s ≡ f m (opening m)
opens f s n m is same = ap (λ (t : Timers). f (length t.timers) t) (is ∙ ap opening same) ∙ ap (λ (k : ℕ). f k (opening m)) (length-replicate m idle)

pub returns-clause-text : goal.returns-clause-text
returns-clause-text g c =
    let v = c.in_ok-timers.timers in
    let o = c.in_ok-timers.ensures in
    let commands = c.args.batch.now.commands in
    IfOk-weaker c.with_closing.result _ _
    (λ out is.
    IfOk-at_ok (λ bytes. bytes ≡ text (answers answering (length v.alone.timers) v.alone commands)) is.0 c.text_of-text.ensures.text
    ∙ opens (λ n s. text (answers answering n s commands)) v.alone _ c.args.batch.now.count o.alone c.requires.processes)
    c.with_closing.ensures

pub returns-clause-end : goal.returns-clause-end
returns-clause-end g c =
    let v = c.in_ok-timers.timers in
    let o = c.in_ok-timers.ensures in
    let b = c.args.batch.now in
    let w = c.text_of-text.new.timers in
    IfOk-weaker c.with_closing.result _ _
    (λ out is.
    let served : AreServed timer_served (length v.alone.timers) v.alone v.seen b.commands w.seen = IfOk-at_ok (λ _. AreServed timer_served (length v.alone.timers) v.alone v.seen b.commands w.seen) is.0 c.text_of-text.ensures.served in
    let counted : all_counted timer_served (length v.alone.timers) v.alone b.commands ≡ all_counted timer_served b.count (opening b.count) b.commands = opens (λ n s. all_counted timer_served n s b.commands) v.alone _ b.count o.alone c.requires.processes in
    let ended : IsEnd timer_served b c.close.result = record {
      scans = ap (λ l. scan_times (slice_index_or l 0 [])) c.close.ensures.cpus ∙ (served.scans ∙ ap (λ l. l ++ tick_times timer_served b.commands) o.seen.scans);
      gos = (let all = ap all_gos c.close.ensures.timers in let more = served.gos in let none = o.none_fired in let sum : all_gos c.close.result.timers ≡ all_counted timer_served (length v.alone.timers) v.alone b.commands = omega (arith, all, more, none) in sum ∙ counted);
    } in
    subst (IsEnd timer_served b) (sym is.1) ended)
    c.with_closing.ensures
