-- What lands is what the numbers carry.
use Rattle.std.proofs.Common.{◌≡◌, ℕ, ap, sym, ◌∙◌, Some}
use Rattle.std.specs.Prelude.{Result, Ok, Err}
use Rattle.co_record.specs.declared.carried.Carried.{Carried}
use Rattle.co_embed.specs.declared.parcel.CalloutParcel.{CalloutParcel}
use Rattle.co_embed.specs.declared.refusal.Refusal.{Refusal}
use Rattle.co_embed.specs.declared.refusal.Refusal.TheVariants.{Exists, Invalid}
use Rattle.co_embed.specs.Carrying.{unpacked}
use Rattle.co_embed.specs.Embedded.{Embedded}
use Rattle.co_embed.specs.Lives.{CarriedAnswers, LandAnswers, is_for_if}
use Rattle.co_embed.proofs.embed.Embed.land.Goals as goal

carried_lands : (r : Result ℕ Refusal) (before after : Embedded) (p : CalloutParcel) (c : Carried) → unpacked p ≡ Some c → CarriedAnswers r before after c p.func → LandAnswers r before after p
carried_lands (Ok at) before after p c is h = record { carried = c; unpacked_is = is; for_here = h.for_here; absent = h.absent; landing = h.landing; funcs = h.funcs; drains = h.drains }
carried_lands (Err Invalid) before after p c is h = (ap (is_for_if before) is ∙ h.0, h.1)
carried_lands (Err Exists) before after p c is h = ((c, is, h.0, h.1), h.2)
carried_lands (Err _) before after p c is h = absurd h

pub returns-in-Some : goal.returns-in-Some
returns-in-Some c =
    carried_lands c.land_carried.result c.args.self.now c.land_carried.new.self c.args.parcel.now c.in-Some.carried (sym c.unpack.ensures.carried ∙ c.in-Some.is) c.land_carried.ensures
