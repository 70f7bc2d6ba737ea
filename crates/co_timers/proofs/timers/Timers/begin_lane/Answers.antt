-- What waits for its lock is in the service of the CPU itself, and begins there under the lock.
use Rattle.std.proofs.Common.{◌≡◌, ◌∙◌, ℕ, Bool, false, true, refl, subst, sym}
use Rattle.co_object.specs.declared.reply.Reply.{Reply}
use Rattle.co_object.specs.declared.reply.Reply.TheVariants.{Hold}
use Rattle.co_object.specs.Queue.{Due}
use Rattle.co_desk.specs.Call.{notes_in}
use Rattle.co_desk.specs.Services.{IsServing}
use Rattle.co_desk.specs.Serving.{Runs, ServiceStage, Waits, stage_picked}
use Rattle.co_desk.specs.Views.{PassesView}
use Rattle.co_desk.specs.declared.params.Params.{Params}
use Rattle.co_timers.specs.Rounds.{IsAbout, IsBegin, MayBeServed, waits_for_lock}
use Rattle.co_timers.proofs.Kept.{handle_after}
use Rattle.co_timers.proofs.timers.Timers.begin_lane.Goals as goal

waiting : (n : ℕ) (reply : Reply) → waits_for_lock reply ≡ true → stage_picked n reply ≡ Waits n
waiting n Hold h = refl
waiting n _ h = absurd cc

abbrev due : (i n : ℕ) → Due
due i n = record { i = i; n = n }

module _ (direct : Bool) (params : Params) (cpu i n : ℕ) (reply : Reply) (may : MayBeServed direct params i reply) (waits : waits_for_lock reply ≡ true) where
  own : direct ≡ false
  own = may.locked (sym may.lock ∙ waits)

  serves : (p : PassesView) → IsServing direct p cpu (due i n) (stage_picked n reply) → IsServing false p cpu (due i n) (Waits n)
  serves p is = subst (λ (b : Bool). IsServing b p cpu (due i n) (Waits n)) own (subst (λ (far : ServiceStage). IsServing direct p cpu (due i n) far) (waiting n reply waits) is)

pub begin-made-requires-clause-serves : goal.begin-made-requires-clause-serves
begin-made-requires-clause-serves g c =
    let waits : waits_for_lock c.args.reply ≡ true = sym c.waits.ensures ∙ c.if-not-waits.false in
    (due c.args.i c.args.n, serves c.args.direct c.args.self.now.params c.args.cpu c.args.i c.args.n c.args.reply c.requires.may waits c.args.passes.now c.requires.about.serving)

pub returns-clause-begins : goal.returns-clause-begins
returns-clause-begins g c =
    let waits : waits_for_lock c.args.reply ≡ true = sym c.waits.ensures ∙ c.if-not-waits.false in
    let serving = serves c.args.direct c.args.self.now.params c.args.cpu c.args.i c.args.n c.args.reply c.requires.may waits c.args.passes.now c.requires.about.serving in
    subst (λ (b : Bool). IsBegin b c.args.passes.now c.args.cpu c.args.act (due c.args.i c.args.n) c.args.reply c.begin-made.result.reply c.begin-made.new.passes) (sym waits)
    (c.begin-made.result, refl, c.begin-made.ensures.begun (due c.args.i c.args.n) serving)

pub returns-clause-about : goal.returns-clause-about
returns-clause-about g c =
    let waits : waits_for_lock c.args.reply ≡ true = sym c.waits.ensures ∙ c.if-not-waits.false in
    let serving = serves c.args.direct c.args.self.now.params c.args.cpu c.args.i c.args.n c.args.reply c.requires.may waits c.args.passes.now c.requires.about.serving in
    subst (λ (b : Bool). IsAbout g.N.Name.name c.args.self.now.params b c.args.cpu (due c.args.i c.args.n) (Runs c.args.n) c.begin-made.new.passes) (sym (own c.args.direct c.args.self.now.params c.args.cpu c.args.i c.args.n c.args.reply c.requires.may waits))
    (record {
      below = c.requires.about.below;
      handle = handle_after g.N.Name.name c.args.self.now.params c.args.passes.now c.begin-made.new.passes (notes_in c.begin-made.result.notes) c.requires.about.handle (c.begin-made.ensures.begun (due c.args.i c.args.n) serving).written;
      serving = c.begin-made.ensures.kept.serving (due c.args.i c.args.n) serving;
    })
