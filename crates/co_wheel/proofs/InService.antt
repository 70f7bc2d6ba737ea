-- What is in service is here.
use Rattle.std.proofs.Common.{◌≡◌, ℕ, zero, suc, Bool, true, false, cond, List, [], ◌∷◌, map, get_or, refl, ap, ◌∙◌}
use Rattle.std.specs.Prelude.{is_some}
use Rattle.std.specs.declared.option.Option.{Option}
use Rattle.std.specs.declared.option.Option.TheVariants.{Some, None}
use Rattle.co_object.proofs.Numbers.{same_itself}
use Rattle.co_record.specs.declared.record.Record.{Record}
use Rattle.co_record.specs.declared.slot.Slot.{Slot}
use Rattle.co_record.specs.declared.slot.Current.{Current}
use Rattle.co_record.specs.Standing.{holds, number_of}
use Rattle.co_wheel.specs.Callouts.{is_here}
use Rattle.co_wheel.specs.Filed.{IsFiled, IsFiledAt, alone_of, callouts_of, lane}

holds-own : (slot : Slot) (c : Current) → slot.current ≡ Some c → holds slot c.i ≡ true
holds-own slot c is = ap (λ o. is_some (number_of o c.i)) is ∙ ap (λ b. is_some (cond b (Some c.n) None)) (same_itself c.i c.i refl)

holds-lane : (slot interrupt : Slot) (direct : Bool) (i : ℕ) → holds slot i ≡ false → holds interrupt i ≡ false → holds (lane slot interrupt direct) i ≡ false
holds-lane slot interrupt true i idle idle_interrupt = idle_interrupt
holds-lane slot interrupt false i idle idle_interrupt = idle

served-filed : (slot interrupt : Slot) (direct : Bool) (c : Current) (rec : Option Record) → (lane slot interrupt direct).current ≡ Some c → IsFiledAt slot interrupt c.i rec → is_some (alone_of slot interrupt rec) ≡ true
served-filed slot interrupt direct c None is absent =
    let held = holds-own (lane slot interrupt direct) c is in
    let idle = holds-lane slot interrupt direct c.i absent.idle absent.idle_interrupt in
    absurd (cc)
served-filed slot interrupt direct c (Some rec) is filed = refl

at-any : (slot interrupt : Slot) (rs : List (Option Record)) (i : ℕ) → get_or (map (alone_of slot interrupt) rs) i None ≡ alone_of slot interrupt (get_or rs i None)
at-any slot interrupt [] zero = refl
at-any slot interrupt [] (suc i) = refl
at-any slot interrupt (r ∷ rs) zero = refl
at-any slot interrupt (r ∷ rs) (suc i) = at-any slot interrupt rs i

pub served-here : (slot interrupt : Slot) (rs : List (Option Record)) (direct : Bool) (c : Current) → IsFiled slot interrupt rs → (lane slot interrupt direct).current ≡ Some c → is_here (callouts_of slot interrupt rs) c.i ≡ true
served-here slot interrupt rs direct c all is = ap is_some (at-any slot interrupt rs c.i) ∙ served-filed slot interrupt direct c (get_or rs c.i None) is (all.each c.i)
