use Rattle.std.proofs.Common.{◌≡◌, Some, sym, ap, ◌∙◌}
use Rattle.std.proofs.lemmas.List.{get_or_read}
use Rattle.co_kq.specs.declared.index.Keyed.{Keyed}
use Rattle.co_kq.specs.Index.{key_of, index_entry, no_entry}
use Rattle.co_kq.proofs.Indexing.{found_at, absent_at}
use Rattle.co_kq.proofs.index.Index.find.Goals as goal

pub returns-then-is_at : goal.returns-then-is_at
returns-then-is_at c =
    let ps = c.self.inside.entries.items in
    let same : ps ≡ c.args.self.now.entries = ap (λ v. v.entries) c.self.view_is in
    let here = c.is_at.ensures.yes c.if-is_at.true in
    let is : c.index.result.now ≡ index_entry ps c.seek-at.result = get_or_read ps c.seek-at.result c.index.result.now here.0 c.index.ensures no_entry in
    ap (λ (p : Keyed). Some p.key) is ∙ found_at ps c.seek-at.result c.args.ident c.self.invariant.0 here.0 here.1 ∙ ap (key_of c.args.ident) same

pub returns-else-is_at : goal.returns-else-is_at
returns-else-is_at c =
    let ps = c.self.inside.entries.items in
    let same : ps ≡ c.args.self.now.entries = ap (λ v. v.entries) c.self.view_is in
    let seek = c.seek-at.ensures in
    sym (absent_at ps c.seek-at.result c.args.ident c.self.invariant.0 seek.above (c.is_at.ensures.no c.if-is_at.false) seek.below) ∙ ap (key_of c.args.ident) same
