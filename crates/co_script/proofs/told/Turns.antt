-- Each turn that is read is of an actor of its version.
use Rattle.std.proofs.Common.{◌≡◌, ℕ, Bool, true, ◌&&◌, List, [], ◌∷◌, length, refl, subst}
use Rattle.std.specs.Prelude.{Ok, Err, ◌==◌, if◌then◌else◌, drop}
use Rattle.std.specs.List.{list_all, before_first}
use Rattle.std.proofs.lemmas.Bool.{and_from}
use Rattle.co_object.proofs.Changes.{both_true}
use Rattle.co_text.specs.Fallible.{◌>>=◌}
use Rattle.co_text.specs.Values.{Word, number}
use Rattle.co_text.specs.declared.Cause.TheVariants.{Form}
use Rattle.co_program.specs.declared.Role.{Role}
use Rattle.co_program.specs.declared.Role.TheVariants.{Client, Cpu, Interrupt}
use Rattle.co_grammar.specs.Turns.{Turn, turn, role, repeats, is_star}
use Rattle.co_grammar.specs.Forms.{all_turns}
use Rattle.co_script.proofs.told.Steps.{bind-ok, cond-ok}

-- an interrupt is an actor of version 2 alone
abbrev pub is_role_of : ℕ → Role → Bool
is_role_of version (Client n) = true
is_role_of version (Cpu n) = true
is_role_of version (Interrupt n) = version == 2

role-ok : (version : ℕ) (w : Word) (r : Role) → role version w ≡ Ok r → is_role_of version r ≡ true
role-ok version [] r h = cc
role-ok version (c ∷ w) r h =
    cond-ok (is_role_of version r ≡ true) (c == 99) (number w >>= λ n. Ok (Client n)) (if c == 112 then (number w >>= λ n. Ok (Cpu n)) else (if (c == 104) && (version == 2) then (number w >>= λ n. Ok (Interrupt n)) else Err Form)) r
    (λ _ k. let n = bind-ok (number w) (λ n. Ok (Client n)) r k in let same : Client n.0 ≡ r = cc in subst (λ v. is_role_of version v ≡ true) same refl)
    (λ k. cond-ok (is_role_of version r ≡ true) (c == 112) (number w >>= λ n. Ok (Cpu n)) (if (c == 104) && (version == 2) then (number w >>= λ n. Ok (Interrupt n)) else Err Form) r
    (λ _ l. let n = bind-ok (number w) (λ n. Ok (Cpu n)) r l in let same : Cpu n.0 ≡ r = cc in subst (λ v. is_role_of version v ≡ true) same refl)
    (λ l. cond-ok (is_role_of version r ≡ true) ((c == 104) && (version == 2)) (number w >>= λ n. Ok (Interrupt n)) (Err Form) r
    (λ is m.
    let n = bind-ok (number w) (λ n. Ok (Interrupt n)) r m in
    let same : Interrupt n.0 ≡ r = cc in
    subst (λ v. is_role_of version v ≡ true) same ((both_true (c == 104) (version == 2) is).1))
    (λ m. cc)
    l)
    k)
    h

turn-ok : (version : ℕ) (w : Word) (t : Turn) → turn version w ≡ Ok t → is_role_of version t.who ≡ true
turn-ok version w t h =
    let r = bind-ok (role version (before_first is_star w)) (λ r. repeats (drop (length (before_first is_star w)) w) >>= λ n. Ok (record { who = r; times = n })) t h in
    let n = bind-ok (repeats (drop (length (before_first is_star w)) w)) (λ n. Ok (record { who = r.0; times = n })) t r.2 in
    let same : t.who ≡ r.0 = cc in
    rw same (role-ok version (before_first is_star w) r.0 r.1)

pub turns-ok : (version : ℕ) (ws : List Word) (ts : List Turn) → all_turns version ws ≡ Ok ts → list_all (λ (t : Turn). is_role_of version t.who) ts ≡ true
turns-ok version [] ts h = let same : [] ≡ ts = cc in subst (λ (us : List Turn). list_all (λ t. is_role_of version t.who) us ≡ true) same refl
turns-ok version (w ∷ ws) ts h =
    let t = bind-ok (turn version w) (λ t. all_turns version ws >>= λ us. Ok (t ∷ us)) ts h in
    let us = bind-ok (all_turns version ws) (λ us. Ok (t.0 ∷ us)) ts t.2 in
    let same : (t.0 ∷ us.0) ≡ ts = cc in
    subst (λ (vs : List Turn). list_all (λ v. is_role_of version v.who) vs ≡ true) same
    (and_from (is_role_of version t.0.who) (list_all (λ v. is_role_of version v.who) us.0) (turn-ok version w t.0 t.1) (turns-ok version ws us.0 us.1))
