use Rattle.std.proofs.Common.{◌≡◌, ◌<◌, arith, subst}
use Rattle.std.proofs.lemmas.Bool.{ltb-true}
use Rattle.std.proofs.lemmas.List.{get_or_read}
use Rattle.co_kq.specs.declared.index.Keyed.{Keyed}
use Rattle.co_kq.specs.Index.{index_entry, no_entry}
use Rattle.co_kq.proofs.Indexing.{first_above}
use Rattle.co_kq.proofs.index.is_highest.Goals as goal

pub returns : goal.returns
returns c = λ above j low.
    let ps = c.args.entries.now.items in
    let is : c.index.result.now ≡ index_entry ps 0 = get_or_read ps 0 c.index.result.now (omega (arith, low)) c.index.ensures no_entry in
    first_above ps c.args.ident c.requires (subst (λ (p : Keyed). p.ident < c.args.ident) is (ltb-true c.index.result.now.ident c.args.ident above)) j low
