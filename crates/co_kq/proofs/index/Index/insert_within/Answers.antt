use Rattle.std.proofs.Common.{◌≡◌, Some, None, sym, ap, subst, ◌∙◌, arith}
use Rattle.co_kq.specs.declared.index.Keyed.{Keyed}
use Rattle.co_kq.specs.Index.{AreFalling, IsChanged, key_of}
use Rattle.co_kq.proofs.Indexing.{below_strictly, falling_insert, insert_changed}
use Rattle.co_kq.proofs.index.Index.insert_within.Goals as goal

pub invariant_of-self : goal.invariant_of-self
invariant_of-self c =
    let ps = c.self.inside.entries.items in
    let x : Keyed = record { ident = c.args.ident; key = c.args.key } in
    let same : ps ≡ c.args.self.now.entries = ap (λ v. v.entries) c.self.view_is in
    let absent : key_of c.args.ident ps ≡ None = ap (key_of c.args.ident) same ∙ c.requires.absent in
    let seek = c.seek-at.ensures in (
      subst AreFalling (sym c.in-Ok.ensures.items)
          (falling_insert ps c.seek-at.result x c.self.invariant.0 seek.above (below_strictly ps c.seek-at.result c.args.ident c.self.invariant.0 absent seek.below) seek.within),
      omega (arith, c.insert.ensures.capacity, c.self.invariant.1),
    )

pub returns-clause-changed : goal.returns-clause-changed
returns-clause-changed c =
    let ps = c.self.inside.entries.items in
    let x : Keyed = record { ident = c.args.ident; key = c.args.key } in
    let same : ps ≡ c.args.self.now.entries = ap (λ v. v.entries) c.self.view_is in
    let absent : key_of c.args.ident ps ≡ None = ap (key_of c.args.ident) same ∙ c.requires.absent in
    subst (λ l. IsChanged l c.args.ident (Some c.args.key) c.insert.new.self.items) same
    (subst (λ l. IsChanged ps c.args.ident (Some c.args.key) l) (sym c.in-Ok.ensures.items) (insert_changed ps c.seek-at.result x c.seek-at.ensures.within absent))
