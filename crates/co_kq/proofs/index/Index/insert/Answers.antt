use Rattle.std.proofs.Common.{◌≡◌, Some, None, sym, ap, subst, ◌∙◌, arith}
use Rattle.co_kq.specs.declared.index.Keyed.{Keyed}
use Rattle.co_kq.specs.Index.{AreFalling, IsChanged, key_of}
use Rattle.co_kq.proofs.Indexing.{insert_changed, lower_all}
use Rattle.co_kq.proofs.index.Index.insert.Goals as goal

pub invariant_of-self : goal.invariant_of-self
invariant_of-self c =
    let ps = c.self.inside.entries.items in
    let lower = lower_all c.args.ident ps (c.is_highest.ensures c.if-is_highest.true) in
    let e = c.push_front_reserved.ensures in
    (subst AreFalling (sym e.items) (lower, c.self.invariant.0), omega (arith, e.capacity, c.self.invariant.1))

pub returns-then-is_highest-clause-changed : goal.returns-then-is_highest-clause-changed
returns-then-is_highest-clause-changed c =
    let ps = c.self.inside.entries.items in
    let x : Keyed = record { ident = c.args.ident; key = c.args.key } in
    let same : ps ≡ c.args.self.now.entries = ap (λ v. v.entries) c.self.view_is in
    let absent : key_of c.args.ident ps ≡ None = ap (key_of c.args.ident) same ∙ c.requires.absent in
    subst (λ l. IsChanged l c.args.ident (Some c.args.key) c.push_front_reserved.new.self.items) same
    (subst (λ l. IsChanged ps c.args.ident (Some c.args.key) l) (sym c.push_front_reserved.ensures.items) (insert_changed ps 0 x (omega arith) absent))
