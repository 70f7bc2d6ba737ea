use Rattle.std.proofs.Common.{◌≡◌, ◌-◌, length, sym, ap, subst, ◌∙◌, take, arith}
use Rattle.co_kq.specs.Index.{AreFalling}
use Rattle.co_kq.proofs.Indexing.{falling_front, gone_from}
use Rattle.co_kq.proofs.index.Index.take_first.Goals as goal

pub invariant_of-self : goal.invariant_of-self
invariant_of-self c =
    let ps = c.self.inside.entries.items in
    let rest : c.pop_back.new.self.items ≡ take (length ps - 1) ps = c.pop_back.ensures.rest ∙ ap (λ n. take (n - 1) ps) c.self.inside.entries.ok.0 in
    (subst AreFalling (sym rest) (falling_front ps c.self.invariant.0), omega (arith, c.pop_back.ensures.capacity, c.self.invariant.1))

pub returns-clause-changed : goal.returns-clause-changed
returns-clause-changed c = λ key first.
    let ps = c.self.inside.entries.items in
    let same : c.args.self.now.entries ≡ ps = ap (λ v. v.entries) (sym c.self.view_is) in
    let rest : c.pop_back.new.self.items ≡ take (length ps - 1) ps = c.pop_back.ensures.rest ∙ ap (λ n. take (n - 1) ps) c.self.inside.entries.ok.0 in
    gone_from ps c.args.self.now.entries c.pop_back.new.self.items key first c.self.invariant.0 same rest
