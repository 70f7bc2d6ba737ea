use Rattle.std.proofs.Common.{◌≡◌, None, sym, ap, subst, ◌∙◌, arith}
use Rattle.std.specs.List.{remove}
use Rattle.std.specs.Option.{OnSome}
use Rattle.co_kq.specs.Index.{AreFalling, IsChanged, key_of, no_entry}
use Rattle.co_kq.proofs.Indexing.{absent_at, falling_remove, none_changed, remove_changed}
use Rattle.co_kq.proofs.index.Index.remove.Goals as goal

pub invariant_of-self : goal.invariant_of-self
invariant_of-self c =
    let ps = c.self.inside.entries.items in
    let here = c.is_at.ensures.yes c.if-is_at.true in
    let items : c.remove.new.self.items ≡ remove ps c.seek-at.result =
    subst (λ r. OnSome r (c.remove.new.self.items ≡ remove ps c.seek-at.result)) (c.remove.ensures.succeeds no_entry (omega (arith, here.0, c.self.inside.entries.ok.0))) c.remove.ensures.items in
    (subst AreFalling (sym items) (falling_remove ps c.seek-at.result c.self.invariant.0), omega (arith, c.remove.ensures.capacity, c.self.invariant.1))

pub returns-then-is_at-clause-changed : goal.returns-then-is_at-clause-changed
returns-then-is_at-clause-changed c =
    let ps = c.self.inside.entries.items in
    let same : ps ≡ c.args.self.now.entries = ap (λ v. v.entries) c.self.view_is in
    let here = c.is_at.ensures.yes c.if-is_at.true in
    let items : c.remove.new.self.items ≡ remove ps c.seek-at.result =
    subst (λ r. OnSome r (c.remove.new.self.items ≡ remove ps c.seek-at.result)) (c.remove.ensures.succeeds no_entry (omega (arith, here.0, c.self.inside.entries.ok.0))) c.remove.ensures.items in
    subst (λ l. IsChanged l c.args.ident None c.remove.new.self.items) same
    (subst (λ l. IsChanged ps c.args.ident None l) (sym items)
    (subst (λ i. IsChanged ps i None (remove ps c.seek-at.result)) here.1 (remove_changed ps c.seek-at.result c.self.invariant.0 here.0)))

pub returns-else-is_at-clause-changed : goal.returns-else-is_at-clause-changed
returns-else-is_at-clause-changed c =
    let ps = c.self.inside.entries.items in
    let same : ps ≡ c.args.self.now.entries = ap (λ v. v.entries) c.self.view_is in
    let seek = c.seek-at.ensures in
    let absent : key_of c.args.ident ps ≡ None = absent_at ps c.seek-at.result c.args.ident c.self.invariant.0 seek.above (c.is_at.ensures.no c.if-is_at.false) seek.below in
    none_changed c.args.self.now.entries c.args.ident (ap (key_of c.args.ident) (sym same) ∙ absent)
