use Rattle.std.proofs.Common.{◌≡◌, ◌+◌, ◌-◌, ℕ, length, ap, sym, subst, arith}
use Rattle.std.proofs.lemmas.Bool.Decides.{nat_tests}
use Rattle.std.proofs.lemmas.List.{get_or_read}
use Rattle.co_kq.specs.declared.index.Keyed.{Keyed}
use Rattle.co_kq.specs.Index.{IsLowestKey, index_entry, no_entry}
use Rattle.co_kq.proofs.Indexing.{last_first}
use Rattle.co_kq.proofs.index.Index.first.Goals as goal

pub returns-clause-some : goal.returns-clause-some
returns-clause-some c =
    let ps = c.self.inside.entries.items in
    let last : ℕ = c.len-last.result - 1 in
    let is_last : last + 1 ≡ length ps = grind (arith, nat_tests, c.self.inside.entries.ok.0, c.if-is_empty.false, c.is_empty.ensures, c.len-last.ensures) in
    let is : c.index.result.now ≡ index_entry ps last = get_or_read ps last c.index.result.now (omega (arith, is_last)) c.index.ensures no_entry in
    subst (λ l. IsLowestKey l c.index.result.now.key) (ap (λ v. v.entries) c.self.view_is)
    (subst (IsLowestKey ps) (ap (λ (p : Keyed). p.key) (sym is)) (last_first ps last c.self.invariant.0 is_last))
