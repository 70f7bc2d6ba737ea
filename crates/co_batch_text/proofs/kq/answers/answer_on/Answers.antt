-- The list was empty and its service new; what was answered from there on, and what the end keeps of it.
use Rattle.std.proofs.Common.{◌≡◌, ◌++◌, [], ℕ, sym, subst, ap, ◌∙◌, arith}
use Rattle.std.specs.Prelude.{slice_index_or}
use Rattle.std.proofs.lemmas.Result.{IfOk-at_ok, IfOk-weaker}
use Rattle.co_text.specs.Lines.{text}
use Rattle.co_batch.specs.Answers.{answers}
use Rattle.co_kq.specs.Kevents.{Kevents, opening}
use Rattle.co_single.specs.Alarms.{all_gos, scan_times}
use Rattle.co_batch_text.specs.Ends.{AreServed, IsEnd, all_counted, tick_times}
use Rattle.co_batch_text.specs.Kq.Answers.{answering}
use Rattle.co_batch_text.specs.Kq.Ends.{kq_served}
use Rattle.co_batch_text.proofs.kq.answers.answer_on.Goals as goal

pub returns-clause-text : goal.returns-clause-text
returns-clause-text g c =
    let v = c.in_ok-list.list in
    let o = c.in_ok-list.ensures in
    let commands = c.args.batch.now.commands in
    IfOk-weaker c.with_closing.result _ _
    (λ out is.
    IfOk-at_ok (λ bytes. bytes ≡ text (answers answering v.room v.list commands)) is.0 c.text_of-text.ensures.text
    ∙ (ap (λ (n : ℕ). text (answers answering n v.list commands)) (o.room ∙ c.requires.knotes) ∙ ap (λ (l : Kevents). text (answers answering c.args.batch.now.count l commands)) o.list))
    c.with_closing.ensures

pub returns-clause-end : goal.returns-clause-end
returns-clause-end g c =
    let v = c.in_ok-list.list in
    let o = c.in_ok-list.ensures in
    let b = c.args.batch.now in
    let w = c.text_of-text.new.list in
    IfOk-weaker c.with_closing.result _ _
    (λ out is.
    let served : AreServed kq_served v.room v.list v.passes b.commands w.passes = IfOk-at_ok (λ _. AreServed kq_served v.room v.list v.passes b.commands w.passes) is.0 c.text_of-text.ensures.served in
    let counted : all_counted kq_served v.room v.list b.commands ≡ all_counted kq_served b.count opening b.commands = ap (λ (n : ℕ). all_counted kq_served n v.list b.commands) (o.room ∙ c.requires.knotes) ∙ ap (λ (l : Kevents). all_counted kq_served b.count l b.commands) o.list in
    let ended : IsEnd kq_served b c.close.result = record {
      scans = ap (λ l. scan_times (slice_index_or l 0 [])) c.close.ensures.cpus ∙ (served.scans ∙ ap (λ l. l ++ tick_times kq_served b.commands) o.scans);
      gos = (let all = ap all_gos c.close.ensures.timers in let more = served.gos in let none = o.fired in let sum : all_gos c.close.result.timers ≡ all_counted kq_served v.room v.list b.commands = omega (arith, all, more, none) in sum ∙ counted);
    } in
    subst (IsEnd kq_served b) (sym is.1) ended)
    c.with_closing.ensures
