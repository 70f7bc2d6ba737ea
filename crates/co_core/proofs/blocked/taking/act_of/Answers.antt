-- The act in the client's acts, where the script has the client.
use Rattle.std.proofs.Common.{◌≡◌, ◌∙◌, List, [], ap, sym, get_or}
use Rattle.std.specs.Prelude.{slice_get, unwrap_or}
use Rattle.std.specs.Option.{option_map}
use Rattle.std.proofs.Math.Nat.{le_refl}
use Rattle.co_program.specs.declared.act.Act.{Act}
use Rattle.co_program.specs.Actors.{acts_at}
use Rattle.co_core.proofs.tables.Options.{item_read}
use Rattle.co_core.proofs.blocked.taking.act_of.Goals as goal

pub returns-in-Some : goal.returns-in-Some
returns-in-Some c =
    let client = c.args.client in
    let acts : c.in-Some.acts.now ≡ acts_at c.args.script.now.clients client =
    ap (λ r. unwrap_or (option_map (λ x. x.now) r) []) (sym c.in-Some.is) ∙ c.get.ensures.lookup.4 (le_refl client) []
    ∙ ap (λ (lists : List (List Act)). get_or lists client []) c.as_slice.ensures in
    item_read c.as_slice-in-Some.result.now c.args.index c.get-in-Some.result c.get-in-Some.ensures.lookup
    ∙ ap (λ (xs : List Act). slice_get xs c.args.index) (c.as_slice-in-Some.ensures ∙ acts)
