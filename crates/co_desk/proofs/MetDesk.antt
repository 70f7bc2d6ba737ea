-- A desk that the caller has met: what its own entries say is so behind the lock.
use Rattle.std.proofs.Common.{◌≡◌, ℕ, Bool, true, List, refl, sym, ap, ◌∙◌, subst}
use Rattle.std.specs.Prelude.{is_some}
use Rattle.std.specs.declared.option.Option.{Option}
use Rattle.std.specs.declared.option.Option.TheVariants.{Some, None}
use Rattle.co_life.specs.Seen.{own}
use Rattle.co_object.specs.declared.alone.Alone.{Alone}
use Rattle.co_object.specs.declared.note.Entry.{Entry}
use Rattle.co_object.specs.Queue.{Due}
use Rattle.co_wheel.specs.Callouts.{callout, in_service, is_here}
use Rattle.co_wheel.specs.Cpu.{Cpu}
use Rattle.co_desk.specs.declared.params.Params.{Params}
use Rattle.co_desk.specs.Params.{actors_of}
use Rattle.co_desk.specs.Books.{BooksView, history_at, entries_at, is_kept}
use Rattle.co_desk.specs.Desk.{IsDesk, StandsAs}
use Rattle.co_desk.specs.Seats.{IsShown}
use Rattle.co_desk.specs.Services.{IsFree, IsServing}
use Rattle.co_desk.specs.Serving.{ServiceStage, lane_actor, served_in}
use Rattle.co_desk.specs.Stories.{IsHistory, IsJournal, by, queue_by}
use Rattle.co_desk.specs.Views.{PassesView, journal_seen, seen_of}
use Rattle.co_desk.proofs.NextSection.{service_is}
use Rattle.co_desk.proofs.ServedDesk.{one_of, some_of}
use Rattle.co_desk.proofs.ServiceSection.{IsServed}

-- what a meeting tells of a desk of this CPU
pub record Meets (w : Cpu) (b : BooksView) (scans cpu : ℕ) (p : PassesView) : Type 0 where
  pub desk : IsDesk w b scans
  pub legal : IsJournal b.params b.cpu b.journal
  pub shown : IsShown queue_by p.actor b.journal (journal_seen p b.cpu)
  pub params : b.params ≡ p.params
  pub here : b.cpu ≡ cpu

module _ (w : Cpu) (b : BooksView) (scans cpu : ℕ) (p : PassesView) (m : Meets w b scans cpu p) where
  pub lane_here : (lane : Bool) → p.actor ≡ lane_actor lane (actors_of p.params) cpu → p.actor ≡ lane_actor lane (actors_of b.params) b.cpu
  lane_here lane is = is ∙ (λ d. lane_actor lane (actors_of (sym m.params d)) (sym m.here d))

  -- what the lane has in service
  pub in_lane_now : (lane : Bool) → p.actor ≡ lane_actor lane (actors_of p.params) cpu → in_service lane w.callouts ≡ served_in lane (own queue_by p.actor (journal_seen p cpu))
  in_lane_now lane is =
      service_is lane w b scans p.actor (journal_seen p b.cpu) m.desk m.legal (lane_here lane is) m.shown
      ∙ ap (λ (k : ℕ). served_in lane (own queue_by p.actor (journal_seen p k))) m.here

  pub free_now : (lane : Bool) → IsFree lane p cpu → in_service lane w.callouts ≡ None
  free_now lane is = in_lane_now lane is.actor ∙ is.free

  pub serves_one : (lane : Bool) (d e : Due) (far : ServiceStage) → IsServing lane p cpu d far → Some e ≡ in_service lane w.callouts → e ≡ d
  serves_one lane d e far is some = one_of e d (some ∙ (in_lane_now lane is.actor ∙ is.serves))

  -- a lane that has something in service has it there
  pub serves_some : (lane : Bool) (d : Due) (far : ServiceStage) → IsServing lane p cpu d far → None ≡ in_service lane w.callouts → ⊥
  serves_some lane d far is none =
      let never : None ≡ Some d = none ∙ (in_lane_now lane is.actor ∙ is.serves) in
      cc

  pub served_now : (lane : Bool) (d e : Due) (far : ℕ → ServiceStage) → IsServing lane p cpu d (far d.n) → Some e ≡ in_service lane w.callouts → is_kept b e.i ≡ true → IsHistory b.params e.i (entries_at b e.i)
      → IsShown by p.actor (entries_at b e.i) (seen_of p e.i) → (H : List Entry) × IsServed lane w b scans p e (far e.n) H
  served_now lane d e far is some kept legal shown =
      let found = some_of (history_at b e.i) kept in (
        found.0,
        record {
          desk = m.desk;
          journal_legal = m.legal;
          journal_shown = m.shown;
          history_legal = legal;
          history_shown = shown;
          serving = subst (λ (k : ℕ). IsServing lane p k e (far e.n)) (sym m.here) (subst (λ (x : Due). IsServing lane p cpu x (far x.n)) (sym (serves_one lane d e (far d.n) is some)) is);
          same = m.params;
          kept = found.1;
        },
      )

kept_there : (p : Params) (i : ℕ) (o : Option Alone) (h : Option (List Entry)) → StandsAs p i o h → is_some o ≡ true → is_some h ≡ true
kept_there p i None h st here = absurd (cc)
kept_there p i (Some a) None st here = absurd st
kept_there p i (Some a) (Some H) st here = refl

-- a record that is here has its history here
pub here_kept : (w : Cpu) (b b' : BooksView) (scans i : ℕ) → IsDesk w b scans → b' ≡ b → is_here w.callouts i ≡ true → is_kept b' i ≡ true
here_kept w b b' scans i desk kept here =
    ap (λ (v : BooksView). is_kept v i) kept ∙ kept_there b.params i (callout w.callouts i) (history_at b i) (desk.stand.each i) here

-- the same after a meeting, which changes nothing
pub meets_then : (w : Cpu) (b b' : BooksView) (scans cpu : ℕ) (p p' : PassesView) → Meets w b scans cpu p → b' ≡ b → p' ≡ p → Meets w b' scans cpu p'
meets_then w b b' scans cpu p p' m kept same = subst (λ (t : BooksView × PassesView). Meets w t.0 scans cpu t.1) (λ d. (sym kept d, sym same d)) m

served_then : (lane : Bool) (w : Cpu) (b b' : BooksView) (scans : ℕ) (p p' : PassesView) (d : Due) (far : ServiceStage) (H : List Entry) → IsServed lane w b scans p d far H → b' ≡ b → p' ≡ p → IsServed lane w b' scans p' d far H
served_then lane w b b' scans p p' d far H is kept same = subst (λ (t : BooksView × PassesView). IsServed lane w t.0 scans t.1 d far H) (λ k. (sym kept k, sym same k)) is

-- what the caller serves, after it has met the journal and the callout's history
pub served_after : (lane : Bool) (w : Cpu) (b b' b'' : BooksView) (scans cpu : ℕ) (p p' p'' : PassesView) (d e : Due) (far : ℕ → ServiceStage) → Meets w b scans cpu p → b' ≡ b → p' ≡ p → b'' ≡ b' → p'' ≡ p'
    → IsServing lane p cpu d (far d.n) → Some e ≡ in_service lane w.callouts → is_kept b' e.i ≡ true → IsHistory b'.params e.i (entries_at b' e.i) → IsShown by p'.actor (entries_at b' e.i) (seen_of p' e.i)
    → (H : List Entry) × IsServed lane w b'' scans p'' e (far e.n) H
served_after lane w b b' b'' scans cpu p p' p'' d e far m kept same kept' same' is some here legal shown =
    let now = served_now w b' scans cpu p' (meets_then w b b' scans cpu p p' m kept same) lane d e far (subst (λ (q : PassesView). IsServing lane q cpu d (far d.n)) (sym same) is) some here legal shown in
    (now.0, served_then lane w b' b'' scans p' p'' e (far e.n) now.0 now.1 kept' same')
